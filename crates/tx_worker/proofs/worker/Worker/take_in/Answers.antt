use Rattle.std.proofs.Common.{◌≡◌, ◌∙◌, ◌/◌, ◌+◌, ◌++◌, length, refl, sym, subst, vec_len}
use Rattle.tx_runs.specs.PlayerRuns.{KeepsPlaces, MayGoBack, MayTakeIn, tally_of}
use Rattle.tx_runs.specs.Tallies.{Stand, took_in, stand_of}
use Rattle.worker_rules.specs.Worker.{Worker}
use Rattle.worker_rules.specs.Workers.{IsAsked}
use Rattle.worker_rules.proofs.Laws.Rooms.{may_go_back, may_take_in, told_by}
use Rattle.worker_rules.proofs.Laws.Rows.{turns}
use Rattle.tx_worker.proofs.worker.Worker.take_in.Goals as goal

-- where the thread stands, as its own calls tell it
pub take_in-end-requires-clause-room : goal.take_in-end-requires-clause-room
take_in-end-requires-clause-room g c whole =
    let r = c.requires.asked in
    let k = subst (λ (w : Worker g.row.P.Denot). IsAsked g.P.Player r.0 r.1 r.2 r.3 c.args.call.now c.args.answer.now w) (sym c.self.view_is) r.4 in
    let told : Stand = record { is_open = c.is_open-is_open.result; at = c.snapshot-at.result / 2; ran = c.due.result.now; arena = c.bytes.result.now } in
    let same : told ≡ stand_of c.self.inside.thread.engine = λ i. record { is_open = c.is_open-is_open.ensures i; at = c.snapshot-at.ensures.value i / 2; ran = c.due.ensures i; arena = (c.bytes.ensures ∙ c.arena.ensures) i } in
    subst (λ (s : Stand). MayTakeIn c.args.call.now s c.self.inside.run.current) (sym same) (may_take_in k whole)

pub take_in-end-requires-clause-again : goal.take_in-end-requires-clause-again
take_in-end-requires-clause-again g c clock word is =
    let r = c.requires.asked in
    let k = subst (λ (w : Worker g.row.P.Denot). IsAsked g.P.Player r.0 r.1 r.2 r.3 c.args.call.now c.args.answer.now w) (sym c.self.view_is) r.4 in
    let told : Stand = record { is_open = c.is_open-is_open.result; at = c.snapshot-at.result / 2; ran = c.due.result.now; arena = c.bytes.result.now } in
    let same : told ≡ stand_of c.self.inside.thread.engine = λ i. record { is_open = c.is_open-is_open.ensures i; at = c.snapshot-at.ensures.value i / 2; ran = c.due.ensures i; arena = (c.bytes.ensures ∙ c.arena.ensures) i } in
    let back = may_go_back k clock word is in
    (back.0, subst (λ (s : Stand). MayGoBack s c.self.inside.run.current) (sym same) back.1)

pub ran-told-requires : goal.ran-told-requires
ran-told-requires g c = told_by c.requires.asked.4

pub returns : goal.returns
returns g c words course b old shuts is =
    let mid = c.self.inside in
    let k = subst (λ (w : Worker g.row.P.Denot). IsAsked g.P.Player words course b old c.args.call.now c.args.answer.now w) (sym c.self.view_is) is in
    let x = c.take_in-end.ensures in
    let new : Worker g.row.P.Denot = record { run = c.take_in-end.new.self; thread = mid.thread; ended = c.take_in-end.new.ended; calls = mid.calls } in
    let told : Stand = record { is_open = c.is_open-is_open.result; at = c.snapshot-at.result / 2; ran = c.due.result.now; arena = c.bytes.result.now } in
    let same : told ≡ stand_of mid.thread.engine = λ i. record { is_open = c.is_open-is_open.ensures i; at = c.snapshot-at.ensures.value i / 2; ran = c.due.ensures i; arena = (c.bytes.ensures ∙ c.arena.ensures) i } in
    turns g.met.P.Player.laws k new c.take_in-end.result
    (record {
      thread = refl;
      number = x.same.0;
      retries = x.same.1;
      tally = subst (λ (s : Stand). tally_of new.run ≡ (took_in g.P.Player mid.run.retries (tally_of mid.run) c.args.call.now c.args.answer.now s).tally) same x.taken.0;
      ended = subst (λ (s : Stand). new.ended.items ≡ mid.ended.items ++ (took_in g.P.Player mid.run.retries (tally_of mid.run) c.args.call.now c.args.answer.now s).over) same x.taken.1;
      end_is = subst (λ (s : Stand). c.take_in-end.result ≡ (took_in g.P.Player mid.run.retries (tally_of mid.run) c.args.call.now c.args.answer.now s).end) same x.taken.2;
      capacity = x.joined.capacity;
      len = subst (λ (s : Stand). vec_len new.ended ≡ vec_len mid.ended + length (took_in g.P.Player mid.run.retries (tally_of mid.run) c.args.call.now c.args.answer.now s).over) same x.joined.len;
      places = subst (λ (s : Stand). KeepsPlaces s.ran mid.run.current new.run.current) same x.places;
    }) shuts

use Rattle.norec_world.proofs.{Actor, Attempt, Begins, Core, Current, IsRefused, IsTied, Outside, Ran, Stand, Within, after_undoing, count_in, ends_in, given_up_free, given_up_later, given_up_most, in_transaction, open_in, others_same, others_stopped, over_as, room_less, rows_in, stage_of, tied_undone, ◌≡◌, ◌∙◌, ◌/◌, List, Vec, [], length, refl, sym, ap, subst, arith, rules, true, ℕ, vec_capacity, false}
use Rattle.{std.specs.declared.alloc.Global.Global, tx_attempts.specs.declared.attempt.Outcome.TheVariants.NoMemory, tx_runs.specs.PlayerRuns.MayStop}
use Rattle.std.proofs.lemmas.List.{length-append}
use Rattle.norec_world.proofs.work.starve.Goals.{in-Done, in_default}
use Rattle.norec_world.proofs.work.starve.Goals as goal

may_stop : {P : Type 0} (a : Actor P) (new : Core) (at : ℕ) (c : Current) → a.run.current ≡ c → IsRefused a → a.engine.holds ≡ false → new ≡ after_undoing a.engine → MayStop at new.actions.ran c
may_stop a new at Outside is refused free after = tt
may_stop a new at (Begins o) is refused free after = tt
may_stop a new at (Within o) is refused free after =
    let here = ap (λ (c : Current). open_in (stage_of c)) is in
    let later = given_up_later a.engine new free after in
    let place = refused.places o.row here in
    let same = ap ends_in is in
    let most = given_up_most a.engine new free after in
    let all = refused.all o.row here in
    let long = ap (length {A = Ran}) later.1 ∙ length-append a.engine.actions.ran later.0 in
    (omega arith, omega arith)

pub stop-requires-clause-room : goal.stop-requires-clause-room
stop-requires-clause-room g c =
    let a = c.args.actor.now in
    let free = given_up_free a.engine.holds (in_transaction a.engine) (sym c.abort.ensures.undone ∙ c.in-Done.is) in
    subst (λ (ran : List Ran). MayStop (c.snapshot-at.result / 2) ran a.run.current) (sym c.due.ensures) (may_stop a c.abort.new.self (c.snapshot-at.result / 2) a.run.current refl c.requires.refused free c.abort.ensures.after)

pub returns : goal.returns
returns g c =
    let a = c.args.actor.now in
    record {
      acts = search rules;
      kept = search rules;
      tied = λ cells t.
          (let engine : c.match-abort.actor.engine ≡ c.abort.new.self = elim c.match-abort.branch [ in-Done w ↦ ap (λ (x : _). x.engine) w.actor-is | in_default w ↦ ap (λ (x : _). x.engine) w.actor-is ] in
          subst (IsTied cells) (sym engine) (tied_undone cells c.args.actor.now.engine c.abort.new.self c.abort.ensures.after c.abort.ensures.unregistered t));
      status = search rules;
      closed = search rules;
      engine = search rules;
      stops = search rules;
      same = search rules;
      held = search rules;
      others = elim c.match-abort.branch [
        | in-Done w ↦ (let stand : Stand = record { is_open = true; at = w.snapshot-at.result / 2; ran = w.due.result.now; arena = [] } in
            let over = ap (λ (v : Vec Attempt Global). v.items) w.ended-is ∙ w.stop.ensures.over true [] in
            others_stopped a _ (rows_in c.args.ended.now) (rows_in c.match-abort.ended) NoMemory stand c.requires.kept (ap (λ (x : Actor g.row.P.Denot). x.run) w.actor-is ∙ w.stop.ensures.run) over
            (room_less c.args.ended.now c.match-abort.ended (over_as NoMemory stand (stage_of a.run.current)) over (ap vec_capacity w.ended-is ∙ w.stop.ensures.capacity)))
        | in_default w ↦ (let run = ap (λ (x : Actor g.row.P.Denot). x.run) w.actor-is in
            others_same a _ (rows_in c.args.ended.now) (rows_in c.match-abort.ended) (ap (λ (x : _). x.thread) run) (let n = ap (λ (x : _). count_in (stage_of x.current)) run in omega arith)
            (ap (λ (v : Vec Attempt Global). v.items) w.ended-is) (let n = ap (λ (v : Vec Attempt Global). (rows_in v).room) w.ended-is in omega arith))
      ];
    }

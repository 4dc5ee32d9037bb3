use Rattle.std.proofs.Common.{◌≡◌, ◌+◌, None, false, true, true≢false, refl, sym, ap, subst, inl, ◌∙◌}
use Rattle.tx_runs.specs.declared.ending.End.TheVariants as ends
use Rattle.worker_rules.specs.Calls.{IsShut}
use Rattle.worker_rules.specs.Gates.{IsLet, call_number}
use Rattle.worker_rules.specs.Accounts.{account_of}
use Rattle.worker_rules.specs.Worker.{Worker}
use Rattle.worker_rules.specs.Workers.{GoesOnOrStops}
use Rattle.worker_rules.proofs.Laws.Stopped.{stops_here, turns_let}
use Rattle.tx_worker.proofs.worker.Worker.call_next.Goals as goal
use Rattle.tx_worker.proofs.worker.Worker.call_next.Goals.{then-asked+in_default-at, else-asked}

pub returns-in_default : goal.returns-in_default
returns-in_default g c course b k =
    let w = c.args.self.now in
    let none : g.P.Player.next_call w.run.player ≡ None = ap (λ (w : Worker g.row.P.Denot). g.P.Player.next_call w.run.player) (sym c.self.view_is) ∙ (sym c.next.ensures ∙ c.in_default.is) in
    record {
      stopped = stops_here k (g.G.Gate.answers.shuts w.run.thread w.calls) ends.Finished (none, refl, refl);
      stops = (none, refl, refl);
    }

pub returns-in-Err : goal.returns-in-Err
returns-in-Err g c course b k =
    let w = c.args.self.now in
    let shut : IsShut g.P.Player (g.G.Gate.answers.shuts w.run.thread w.calls) (account_of w) w.thread (account_of w) w.thread = record {
      call = c.in-Some.call;
      asks = ap (λ (w : Worker g.row.P.Denot). g.P.Player.next_call w.run.player) (sym c.self.view_is) ∙ (sym c.next.ensures ∙ c.in-Some.is);
      may = subst (λ (w : Worker g.row.P.Denot). g.G.Gate.answers.shuts w.run.thread w.calls ≡ true) c.self.view_is c.in-Err.ensures.shuts;
      free = ap (λ (w : Worker g.row.P.Denot). w.thread.engine.irrevocable) (sym c.self.view_is) ∙ (sym c.is_irrevocable-asked.ensures ∙ c.if-asked.true);
      account = refl;
      thread = refl;
    } in
    record { stopped = stops_here k (g.G.Gate.answers.shuts w.run.thread w.calls) ends.GaveUp (inl shut); stops = inl shut }

pub returns : goal.returns
returns g c =
    let w = c.args.self.now in
    let held = ap (λ (w : Worker g.row.P.Denot). w.thread.engine.irrevocable) c.self.view_is in
    let let_through : IsLet g.G.Gate.answers w.run.thread w.calls w.thread = λ free.
    (elim c.if-asked.branch [
      | then-asked+in_default-at x ↦ subst (λ (w : Worker g.row.P.Denot). g.G.Gate.answers.lets w.run.thread w.calls ≡ true) c.self.view_is x.in_default-at.ensures.lets
      | else-asked x ↦ absurd (true≢false (sym (sym c.is_irrevocable-asked.ensures ∙ x.if-asked.false) ∙ held ∙ free))
    ]) in
    let counts = c.saturating_add-self-inside.ensures ∙ ap (λ (w : Worker g.row.P.Denot). call_number (w.calls + 1)) c.self.view_is in
    let made = subst (λ (new : Worker g.row.P.Denot). GoesOnOrStops g.P.Player c.args.words.now false w c.make-end.result new) (sym c.self-2.view_is) (c.make-end.ensures false) in
    let mid : Worker g.row.P.Denot = record { run = c.self-2.inside.run; thread = c.self-2.inside.thread; ended = c.self-2.inside.ended; calls = c.self-2.inside.calls } in
    turns_let g.P.Player c.args.words.now g.G.Gate.answers w mid c.saturating_add-self-inside.result c.make-end.result let_through counts made

-- What a player's next call makes of its run, wherever it stands.
use Rattle.std.proofs.Common.{◌≡◌, ℕ, ◌/◌, Bool, true, false, List, length, None, Some, refl, sym, ap, subst, ◌∙◌, arith, unwrap_or}
use Rattle.worker_rules.proofs.Common.{Account, Answer, AnswerFits, Attempt, Begin, Call, Core, Course, End, Falls, Frame, IsAnswered, IsRunning, LeavesRestarts, Obeys, Owns, Props, Rules, Served, Stage, Standing, Stands, Start, Taken, View, Words, account_after, answer_fits, asked, begins_again, begun, came_restarted, cells_of, commits_known, deep_of, in_transaction, irrevocable_room, is_begin, is_inside, leaves_left, left_same, outside, restarts_left, stage_at, stand_of, start_of, tally_in, took_in, view_of, within}
use Rattle.worker_rules.proofs.Machines.LastEvents.{IsLast, last_event}
use Rattle.worker_rules.proofs.Shapes.{RunsTo}
use Rattle.worker_rules.proofs.Laws.CallsOutside.{outside_turns}
use Rattle.worker_rules.proofs.Laws.CallsWithin.{inside_turns}
use Rattle.worker_rules.proofs.Laws.Outcomes.{IsOverSo, Turns}
use Rattle.run_rules.{proofs.PlayerLaws.GoesOn, proofs.PlayerLaws.StageFits, proofs.PlayerLaws.took_on, proofs.RestartsLeft.left_most}

module _ {P : Type 0} {rules : Rules P} (laws : Obeys rules) (words : Words) (c : Course P) (a : Account P) (s : Standing) (running : IsRunning rules c (view_of s.pass) s.engine a) (own : Owns words s.pass) (stands : Stands (view_of s.pass) s.engine)
    (number retries : ℕ) (number_is : number ≡ c.number) (retries_is : retries ≡ c.retries) (call : Call) (asks : rules.next_call a.player ≡ Some call) (answer : Answer) (s' : Standing) (answered : IsAnswered words (start_of s call (begins_again a.stage a.again call)) answer s'.pass s'.engine) where
  abbrev e : Core
  e = s'.engine

  abbrev v : View
  v = view_of s'.pass

  abbrev ahead : ℕ
  ahead = unwrap_or (irrevocable_room s.engine call) 0

  abbrev pub Took : Taken P
  Took = took_in rules retries (asked words rules number retries s a call) call answer (stand_of s'.engine)

  -- by the course's own number and tries, where the player stands like this
  abbrev Took_at : Stage → Taken P
  Took_at g = took_in rules c.retries (record (tally_in a) { stage = stage_at g call (λ props. begun c.number a.nth (commits_known (view_of s.pass)) props s.engine.arena ahead) ahead }) call answer (stand_of s'.engine)

  took_so : (g : Stage) → a.stage ≡ g → Took_at g ≡ Took
  took_so g is = λ i. took_in rules (sym retries_is i)
      (record (tally_in a) { stage = stage_at (sym is i) call (λ props. begun (sym number_is i) a.nth (commits_known (view_of s.pass)) props s.engine.arena ahead) ahead }) call answer (stand_of e)

  -- the start by where the player stands
  abbrev start_at : Stage → Start
  start_at g = start_of s call (begins_again g a.again call)

  served_at : (g : Stage) → a.stage ≡ g → Served (start_at g) answer v e
  served_at g is = subst (λ (x : Stage). Served (start_at x) answer v e) is answered.served

  -- as its engine came to the answer
  last : IsLast (start_of s call (begins_again a.stage a.again call)) (view_of s'.pass) answer s'.engine
  last = last_event (cells_of words) (start_of s call (begins_again a.stage a.again call)) answer v e own.over stands answered.driven

  last_at : (g : Stage) → a.stage ≡ g → IsLast (start_at g) v answer e
  last_at g is = subst (λ (x : Stage). IsLast (start_at x) v answer e) is last

  abbrev pub Both : Taken P → Type 0
  Both x = (x.end ≡ None → IsRunning rules c v e (account_after a x) × Falls rules c.retries c.restarts (in_transaction s.engine) (in_transaction e) a.nth x.tally.nth (restarts_left s.engine) (restarts_left e) a.player x.tally.player)
      × ((end : End) → x.end ≡ Some end → IsOverSo rules c s.engine.max_commits end v e (account_after a x))

  -- ## How much is left to do

  abbrev opens : Props → Attempt
  opens props = begun number a.nth (commits_known (view_of s.pass)) props s.engine.arena ahead

  -- the stage fits a transaction that is open, or none, and is outside just at a call that begins no block
  abbrev FitsAt : Bool → Stage → Type 0
  FitsAt i g = StageFits i g × (g ≡ outside → is_begin call ≡ false)

  fits_outside : (x : Call) → call ≡ x → FitsAt false (stage_at outside x opens ahead)
  fits_outside (Begin props room) is = (tt, λ none. absurd (cc))
  fits_outside x is = (tt, λ none. ap is_begin is)

  stage_fits : (i : Bool) → in_transaction s.engine ≡ i → FitsAt i (stage_at a.stage call opens ahead)
  stage_fits true i = subst (λ (g : Stage). FitsAt true (stage_at g call opens ahead)) (sym (running.inside i).stage_is) (tt, λ is. absurd (cc))
  stage_fits false i = subst (λ (g : Stage). FitsAt false (stage_at g call opens ahead)) (sym (running.outside i).stage_is) (fits_outside call refl)

  went : GoesOn rules laws c.retries c.restarts (in_transaction s.engine) (in_transaction s'.engine) (length s'.engine.blocks) (restarts_left s.engine) (restarts_left s'.engine) (asked words rules number retries s a call) (took_in rules c.retries (asked words rules number retries s a call) call answer (stand_of s'.engine))
  went =
      let k = last.is_mid.kept in
      let same = left_same last.mid s.engine (ap is_inside k.blocks) k.restarts (λ o. k.restarted ∙ came_restarted s.engine call (begins_again a.stage a.again call) o) in
      took_on rules laws c.retries c.restarts a.player a.nth a.again call (e.snapshot / 2) e.actions.ran e.arena (in_transaction s.engine) (in_transaction e) (stage_at a.stage call opens ahead) answer (record {
        asks = asks;
        nested = running.nested;
        tried = running.tried;
        tries = running.tries;
        stage = (stage_fits (in_transaction s.engine) refl).0;
        begins = (stage_fits (in_transaction s.engine) refl).1;
        fits = subst (λ (n : ℕ). AnswerFits (in_transaction s.engine) n (in_transaction e) (length e.blocks) call answer) (sym running.depth)
            (subst (λ (bs : List Frame). AnswerFits (is_inside bs) (length bs) (in_transaction e) (length e.blocks) call answer) k.blocks (answer_fits last.mid e last.is_mid.settled call answer k.doing last.ends));
        deep_now = deep_of e.blocks;
        leaves = subst (λ (n : ℕ). LeavesRestarts (in_transaction s.engine) (in_transaction e) n (restarts_left e) answer) same
            (subst (λ (bs : List Frame). LeavesRestarts (is_inside bs) (in_transaction e) (restarts_left last.mid) (restarts_left e) answer) k.blocks (leaves_left last.mid e answer last.is_mid.settled last.ends));
        most = (let most = left_most e in let limit = answered.served.limits.3 in let all = running.limit in omega arith);
      })

  went_so : GoesOn rules laws c.retries c.restarts (in_transaction s.engine) (in_transaction s'.engine) (length s'.engine.blocks) (restarts_left s.engine) (restarts_left s'.engine) (asked words rules number retries s a call) Took
  went_so = subst (λ (n : ℕ). GoesOn rules laws c.retries c.restarts (in_transaction s.engine) (in_transaction e) (length e.blocks) (restarts_left s.engine) (restarts_left e) (asked words rules number retries s a call) (took_in rules n (asked words rules number retries s a call) call answer (stand_of e))) (sym retries_is) went

  -- ## The run

  by_mode : (i : Bool) → in_transaction s.engine ≡ i → Turns rules c s.engine.max_commits a v e Took
  by_mode true inside =
      let h = running.inside inside in
      let g : Stage = within h.row h.points in
      subst (Turns rules c s.engine.max_commits a v e) (took_so g h.stage_is) (inside_turns laws c (start_at g) a v e running stands answered.stands asks refl inside ahead answer (served_at g h.stage_is) (last_at g h.stage_is))
  by_mode false shut =
      let is = (running.outside shut).stage_is in
      subst (Turns rules c s.engine.max_commits a v e) (took_so outside is) (outside_turns laws c (start_at outside) a v e running stands answered.stands asks shut ahead refl answer (served_at outside is) (last_at outside is))

  goes_on : Took.end ≡ None → RunsTo rules c v e (account_after a Took) → IsRunning rules c v e (account_after a Took)
  goes_on none r =
      let on = went_so.on none in
      record { has_run = r.has_run; mine = r.mine; tried = went_so.tried; tries = went_so.tries; nested = on.nested; depth = on.depth; deepest = answered.served.limits.2 ∙ running.deepest; limit = answered.served.limits.3 ∙ running.limit; inside = r.inside; outside = r.outside }

  pub both : Both Took
  both = (let run = by_mode (in_transaction s.engine) refl in (λ none. (goes_on none (run.goes none), (went_so.on none).falls), run.over))

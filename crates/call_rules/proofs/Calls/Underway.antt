-- A call of a thread that was left off between a step and what comes of it.
use Rattle.std.proofs.Common.{ℕ, ◌++◌, Bool}
use Rattle.call_rules.proofs.Common.{Answer, Answers, Asks, Call, Core, Finishes, HasStepped, IsDone, IsOver, IsUnderway, Pass, Stands, Start, Words, cells_of, view_of}
use Rattle.call_rules.{proofs.Steps.DrivenCalls.due_on, proofs.Steps.DrivenCalls.leads_further, proofs.Steps.StepChains.starts}

module _ {A : Type 0} (words : Words A) (p : Pass) (e : Core) (call : Call) (again : Bool) (found : ℕ) (left : Pass) (new : Core) (u : IsUnderway words p e call again found left new) where
  -- its step is done
  abbrev pub came_to : Start
  came_to = record { view = view_of p; engine = e; call = call; again = again }

  abbrev pub step_done : Stands (view_of p) e → IsOver (cells_of words) (view_of p) → IsDone (cells_of words) came_to (view_of left) new found
  step_done stands over =
      let f = u.finds in record {
        before = f.before;
        step = f.step;
        over = f.over;
        in_call = due_on (cells_of words) came_to f.steps (view_of p) f.before u.came new u.first (Asks f.step) over (starts (view_of p) e u.came call again stands u.first u.called) f.leads;
        turn = f.stepped.turn;
      }

  pub underway : Stands (view_of p) e → IsOver (cells_of words) (view_of p) → (s : Start) × IsDone (cells_of words) s (view_of left) new found
  underway stands over = (came_to, step_done stands over)

  pub step_seen : (stands : Stands (view_of p) e) (over : IsOver (cells_of words) (view_of p)) → HasStepped (step_done stands over).before (step_done stands over).step found (view_of left)
  step_seen stands over = u.finds.stepped

  -- and once the steps that are left are done, all are
  pub goes_on : (a : Answer) (pass : Pass) (last : Core) → Finishes words u.finds.before new (Asks u.finds.step) a pass last → Finishes words (view_of p) u.came u.first a pass last
  goes_on a pass last k =
      let f = u.finds in record {
        own = k.own;
        steps = f.steps ++ k.steps;
        leads = leads_further (cells_of words) f.steps k.steps (view_of p) f.before (view_of pass) u.came new last u.first (Asks f.step) (Answers a) f.leads k.leads;
      }

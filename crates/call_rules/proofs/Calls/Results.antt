-- A call of a thread, once its engine was called.
use Rattle.std.proofs.Common.{◌≡◌, [], Bool, refl, subst, sym}
use Rattle.call_rules.proofs.Common.{Answer, Answers, Call, Core, Finishes, IsCalled, IsDriven, IsDue, Next, Owns, Pass, Stands, Start, Words, cells_of, view_of}
use Rattle.call_rules.specs.CallResults.{IsAnswered}
use Rattle.call_rules.specs.Standing.{Standing, start_of}
use Rattle.call_rules.proofs.Steps.DrivenCalls.{noted, served}
use Rattle.call_rules.proofs.Steps.StepChains.{starts}

-- what comes next is due
pub due : (p : Pass) {e new : Core} {call : Call} {again : Bool} {next : Next} → Stands (view_of p) e → IsCalled e call again next new → (s : Start) × IsDue s (view_of p) new next
due p {e} {new} {call} {again} {next} stands r = (record { view = view_of p; engine = e; call = call; again = again }, starts (view_of p) e new call again stands next r)

-- nothing is left to do of a call that the engine answers at once
pub at_once : {A : Type 0} {words : Words A} (p : Pass) (e : Core) (a : Answer) {old : Standing} → (let came_to : Standing = record { pass = p; engine = e } in came_to) ≡ old → Owns words old.pass → (new : Core) → Finishes words (view_of p) new (Answers a) a p new
at_once {A} {words} p e a is own new = record { own = subst (λ (t : Standing). Owns words t.pass) (sym is) own; steps = []; leads = (refl, refl, refl) }

module _ (p : Pass) {e new : Core} {call : Call} {again : Bool} {next : Next} (stands : Stands (view_of p) e) (r : IsCalled e call again next new)
    {A : Type 0} {words : Words A} {a : Answer} {pass : Pass} {engine : Core} (finish : Finishes words (view_of p) new next a pass engine)
    (old : Standing) (is : (let came_to : Standing = record { pass = p; engine = e } in came_to) ≡ old) (own : Owns words old.pass) where
  abbrev came_to : Standing
  came_to = record { pass = p; engine = e }

  -- and once that is done, the call is answered
  finished : IsAnswered words (start_of came_to call again) a pass engine
  finished =
      let over = (subst (λ (t : Standing). Owns words t.pass) (sym is) own).over in
      let driven : IsDriven (cells_of words) (start_of came_to call again) a (view_of pass) engine = record { came = new; first = next; steps = finish.steps; noted = noted (cells_of words) finish.steps (view_of p) (view_of pass) new engine next (Answers a) finish.leads; called = r; leads = finish.leads } in
      let both = served (cells_of words) (start_of came_to call again) a (view_of pass) engine over stands driven in
      record { own = finish.own; driven = driven; served = both.0; stands = both.1 }

  pub left_standing : Stands (view_of pass) engine
  left_standing = finished.stands

  pub answered : IsAnswered words (start_of old call again) a pass engine
  answered = subst (λ (t : Standing). IsAnswered words (start_of t call again) a pass engine) is finished

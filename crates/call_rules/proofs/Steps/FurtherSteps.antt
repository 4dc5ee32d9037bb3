-- Steps that are known ahead, as steps of the call.
use Rattle.std.proofs.Common.{◌≡◌, ℕ, ◌<◌, ◌≤◌, List, [], ◌∷◌, ◌++◌, Some, refl, sym, ap, subst, arith}
use Rattle.call_rules.proofs.Common.{Answer, Answers, Asks, Core, Drives, Finds, Finishes, HasStepped, InCall, IsDue, IsOver, IsResumed, LeadsOn, Next, Owns, Pass, Start, Step, StepTells, StepsOn, View, Words, cells_of, left, view_of}
use Rattle.call_rules.proofs.Steps.DrivenCalls.{due_on, leads_further}
use Rattle.call_rules.proofs.Steps.KnownSteps.{leads_last}
use Rattle.call_rules.proofs.Steps.StepChains.{at_step, goes, smaller}

-- all steps were done, and the engine is told of the last one
pub found_finishes : {A : Type 0} (words : Words A) (v : View) (e : Core) (next : Next) (pass : Pass) (mid new : Core) (n : ℕ) (a : Answer) → Finds words v e next n pass mid → IsResumed mid n (Answers a) new → Finishes words v e next a pass new
found_finishes words v e next pass mid new n a f resumed = record {
  own = f.own;
  steps = f.steps ++ (f.step, n) ∷ [];
  leads = leads_further (cells_of words) f.steps ((f.step, n) ∷ []) v f.before (view_of pass) e mid new next (Asks f.step) (Answers a) f.leads
      (leads_last refl f.stepped.moves f.stepped.turn f.own.over resumed);
}

-- the step that the engine waits for
pub waits_for : (s : Start) (v : View) (e : Core) (step known : Step) → InCall s v e step → e.waits ≡ Some known → step ≡ known
waits_for s v e step known i waits = (let here = i.waits in cc)

-- what comes next is that step
known_due : (s : Start) (v : View) (e : Core) (next : Next) (step : Step) → IsDue s v e next → e.waits ≡ Some step → next ≡ Asks step
known_due s v e (Asks other) step due waits = ap Asks (waits_for s v e other step due waits)
known_due s v e (Answers a) step due waits = (let here = due.1.waits in absurd (cc))

-- no steps lead to where more are left
no_more : (cells : ℕ) (s : Start) (steps : List (Step × ℕ)) (v v' : View) (e e' : Core) (next next' : Next) → IsOver cells v → IsDue s v e next → LeadsOn cells v e next steps v' e' next' → left e' next' ≤ left e next
no_more cells s [] v v' e e' next next' over due l = (let same : left e' next' ≡ left e next = λ i. left (l.1 i) (l.2 i) in omega (arith, same))
no_more cells s (done ∷ rest) v v' e e' (Asks step) next' over due l =
    let d : Drives cells v e done l.1 l.2 l.3 = l.4 in
    let turn : StepTells v step done.1 l.1 = subst (λ (x : Step). StepTells v x done.1 l.1) l.0 d.stepped.turn in
    let less = smaller cells v l.1 over d.over e l.2 step done.1 turn l.3 d.resumed s due in
    let rest_of = no_more cells s rest l.1 v' l.2 e' l.3 next' d.over (goes cells v l.1 over d.over e l.2 step done.1 turn l.3 d.resumed s due) l.5 in
    omega (arith, less, rest_of)
no_more cells s (done ∷ rest) v v' e e' (Answers a) next' over due l = absurd l

module _ {A : Type 0} (words : Words A) (v : View) (e : Core) (first : Step) (s : Start) (due : InCall s v e first) (over : IsOver (cells_of words) v) where
  -- the first step was done
  pub one_step : (pass : Pass) (new : Core) (then : Next) (n : ℕ) → HasStepped v first n (view_of pass) → Owns words pass → IsResumed e n then new → StepsOn words v e first pass new then
  one_step pass new then n stepped own resumed = record {
    own = own;
    steps = (first, n) ∷ [];
    leads = leads_last refl stepped.moves stepped.turn own.over resumed;
    less = smaller (cells_of words) v (view_of pass) over own.over e new first n stepped.turn then resumed s due;
  }

  module _ (pass : Pass) (mid : Core) (next : Next) (on : StepsOn words v e first pass mid next) where
    due_there : IsDue s (view_of pass) mid next
    due_there = due_on (cells_of words) s on.steps v (view_of pass) e mid (Asks first) next over due on.leads

    -- the next step is known
    module _ (step : Step) (waits : mid.waits ≡ Some step) where
      next_is : next ≡ Asks step
      next_is = known_due s (view_of pass) mid next step due_there waits

      pub in_call : InCall s (view_of pass) mid step
      in_call = at_step s (view_of pass) mid next step next_is due_there

      -- and was done
      pub one_further : (after : Pass) (new : Core) (then : Next) (n : ℕ) → HasStepped (view_of pass) step n (view_of after) → Owns words after → IsResumed mid n then new → StepsOn words v e first after new then
      one_further after new then n stepped own resumed =
          let less = smaller (cells_of words) (view_of pass) (view_of after) on.own.over own.over mid new step n stepped.turn then resumed s in_call in
          let last : LeadsOn (cells_of words) (view_of pass) mid (Asks step) ((step, n) ∷ []) (view_of after) new then = leads_last refl stepped.moves stepped.turn own.over resumed in
          record {
            own = own;
            steps = on.steps ++ (step, n) ∷ [];
            leads = leads_further (cells_of words) on.steps ((step, n) ∷ []) v (view_of pass) (view_of after) e mid new (Asks first) next then on.leads
                (subst (λ (x : Next). LeadsOn (cells_of words) (view_of pass) mid x ((step, n) ∷ []) (view_of after) new then) (sym next_is) last);
            less = omega (arith, less, ap (left mid) next_is, on.less);
          }

      pub fewer_left : (after : Pass) (new : Core) (then : Next) (n : ℕ) → HasStepped (view_of pass) step n (view_of after) → Owns words after → IsResumed mid n then new → left new then < left mid next
      fewer_left after new then n stepped own resumed =
          let less = smaller (cells_of words) (view_of pass) (view_of after) on.own.over own.over mid new step n stepped.turn then resumed s in_call in
          omega (arith, less, ap (left mid) next_is)

  -- steps were done, and the engine is handed what the last one found
  module _ (pass : Pass) (mid : Core) (n : ℕ) (f : Finds words v e (Asks first) n pass mid) where
    pub found_in : InCall s f.before mid f.step
    found_in = due_on (cells_of words) s f.steps v f.before e mid (Asks first) (Asks f.step) over due f.leads

    pub found_further : (new : Core) (then : Next) → IsResumed mid n then new → StepsOn words v e first pass new then
    found_further new then resumed =
        let less = smaller (cells_of words) f.before (view_of pass) f.over f.own.over mid new f.step n f.stepped.turn then resumed s found_in in
        let most = no_more (cells_of words) s f.steps v f.before e mid (Asks first) (Asks f.step) over due f.leads in
        record {
          own = f.own;
          steps = f.steps ++ (f.step, n) ∷ [];
          leads = leads_further (cells_of words) f.steps ((f.step, n) ∷ []) v f.before (view_of pass) e mid new (Asks first) (Asks f.step) then f.leads
              (leads_last refl f.stepped.moves f.stepped.turn f.own.over resumed);
          less = omega (arith, less, most);
        }

-- What a thread says of a call follows from the steps of its engine.
use Rattle.std.proofs.Common.{inl, inr, ◌≡◌, ℕ, zero, suc, ◌+◌, List, [], ◌∷◌, ◌++◌, refl, sym, ap, ◌∙◌, subst, arith, append_assoc, append-nil}
use Rattle.call_rules.proofs.Common.{Answer, Answers, Asks, Cas, Core, Drives, HasStepped, IsDriven, IsDue, IsOver, LeadsOn, Load, Next, Served, Stands, Start, Step, StepTells, Store, View, cases_Bool}
use Rattle.call_rules.{proofs.Steps.NextViews.exchanged, proofs.Steps.StepChains.goes, proofs.Steps.StepChains.starts}

-- what is due stays due, step by step
pub due_on : (cells : ℕ) (s : Start) (steps : List (Step × ℕ)) (v v' : View) (e e' : Core) (next next' : Next) → IsOver cells v → IsDue s v e next → LeadsOn cells v e next steps v' e' next' → IsDue s v' e' next'
due_on cells s [] v v' e e' next next' over due l =
    subst (λ (x : View). IsDue s x e' next') (sym l.0) (subst (λ (x : Core). IsDue s v x next') (sym l.1) (subst (λ (x : Next). IsDue s v e x) (sym l.2) due))
due_on cells s (done ∷ rest) v v' e e' (Asks step) next' over due l =
    let d : Drives cells v e done l.1 l.2 l.3 = l.4 in
    let turn : StepTells v step done.1 l.1 = subst (λ (x : Step). StepTells v x done.1 l.1) l.0 d.stepped.turn in
    due_on cells s rest l.1 v' l.2 e' l.3 next' d.over (goes cells v l.1 over d.over e l.2 step done.1 turn l.3 d.resumed s due) l.5
due_on cells s (done ∷ rest) v v' e e' (Answers a) next' over due l = absurd l

-- so an answer to which the engine was driven is what is said of it
pub served : (cells : ℕ) (s : Start) (a : Answer) (v : View) (e : Core) → IsOver cells s.view → Stands s.view s.engine → IsDriven cells s a v e → Served s a v e × Stands v e
served cells s a v e over stands d =
    due_on cells s d.steps s.view v d.came e d.first (Answers a) over (starts s.view s.engine d.came s.call s.again stands d.first d.called) d.leads

-- ## The view notes the steps

-- one step, with what it found
noted_step : (v w : View) (n : ℕ) (step : Step) → HasStepped v step n w → w.steps ≡ v.steps ++ (step, n) ∷ []
noted_step v w n (Load zero) h = ap (λ (x : View). x.steps) (h.turn.0 refl).0
noted_step v w n (Load (suc word)) h =
    let told = h.turn.1 word (let x : suc word ≡ word + 1 = omega arith in x) in
    elim (cases_Bool v.holds) [ inl is ↦ ap (λ (x : View). x.steps) (told.1 is).0 | inr is ↦ ap (λ (x : View). x.steps) (told.0 is) ]
noted_step v w n (Store zero value) h =
    ap (λ (x : View). x.steps) (h.turn.0 refl).0 ∙ ap (λ (m : ℕ). v.steps ++ (Store 0 value, m) ∷ []) (sym h.moves.finds_it)
noted_step v w n (Store (suc word) value) h =
    ap (λ (x : View). x.steps) (h.turn.1 word (let x : suc word ≡ word + 1 = omega arith in x))
    ∙ ap (λ (m : ℕ). v.steps ++ (Store (suc word) value, m) ∷ []) (sym h.moves.finds_it)
noted_step v w n (Cas cell from to) h = (exchanged v w n cell from to h.turn).steps

-- and all of them
pub noted : (cells : ℕ) (steps : List (Step × ℕ)) (v v' : View) (e e' : Core) (next next' : Next) → LeadsOn cells v e next steps v' e' next' → v'.steps ≡ v.steps ++ steps
noted cells [] v v' e e' next next' l = ap (λ (x : View). x.steps) l.0 ∙ sym (append-nil v.steps)
noted cells (done ∷ rest) v v' e e' (Asks step) next' l =
    let d : Drives cells v e done l.1 l.2 l.3 = l.4 in
    let one : l.1.steps ≡ v.steps ++ done ∷ [] = noted_step v l.1 done.1 done.0 d.stepped in
    noted cells rest l.1 v' l.2 e' l.3 next' l.5 ∙ (ap (λ (x : List (Step × ℕ)). x ++ rest) one ∙ append_assoc v.steps (done ∷ []) rest)
noted cells (done ∷ rest) v v' e e' (Answers a) next' l = absurd l

-- ## One row of steps after another

-- steps that lead on from where others led
pub leads_further : (cells : ℕ) (steps more : List (Step × ℕ)) (v w x : View) (e f g : Core) (next then last : Next) → LeadsOn cells v e next steps w f then → LeadsOn cells w f then more x g last → LeadsOn cells v e next (steps ++ more) x g last
leads_further cells [] more v w x e f g next then last l k =
    subst (λ (y : View). LeadsOn cells y e next more x g last) l.0 (subst (λ (y : Core). LeadsOn cells w y next more x g last) l.1 (subst (λ (y : Next). LeadsOn cells w f y more x g last) l.2 k))
leads_further cells (done ∷ rest) more v w x e f g (Asks step) then last l k = (l.0, l.1, l.2, l.3, l.4, leads_further cells rest more l.1 w x l.2 f g l.3 then last l.5 k)
leads_further cells (done ∷ rest) more v w x e f g (Answers a) then last l k = absurd l

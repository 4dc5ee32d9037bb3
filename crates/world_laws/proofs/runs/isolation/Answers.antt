use Rattle.std.proofs.Common.{◌≡◌, ◌⊎◌, ◌==◌, inl, inr, ℕ, Bool, true, false, if◌then◌else◌, List, [], ◌∷◌, ◌++◌, Some, refl, sym, ap, ◌∙◌}
use Rattle.world_laws.proofs.Common.{Again, State, again_at, answers_on, answers_through, arena_set, breaks_of}
use Rattle.tx_attempts.specs.Beginnings.{IsBeginningOf}
use Rattle.world_laws.specs.Isolation.{went_on_from}
use Rattle.world_laws.proofs.runs.isolation.Goals as goal

-- of two beginnings of one list the one is a beginning of the other
beginnings : {A : Type 0} (xs ys all : List A) → IsBeginningOf xs all → IsBeginningOf ys all → IsBeginningOf xs ys ⊎ IsBeginningOf ys xs
beginnings [] ys all x y = inl (ys, refl)
beginnings (x ∷ xs) [] all p q = inr (x ∷ xs, refl)
beginnings (x ∷ xs) (y ∷ ys) [] p q = absurd (let e = p.1 in cc)
beginnings (x ∷ xs) (y ∷ ys) (z ∷ all) p q =
    let first : x ≡ y = (let e = p.1 in let f = q.1 in cc) in
    let before : xs ++ p.0 ≡ all = (let e = p.1 in cc) in
    let after : ys ++ q.0 ≡ all = (let f = q.1 in cc) in
    elim (beginnings xs ys all (p.0, before) (q.0, after)) [
      | inl r ↦ inl (r.0, λ i. first i ∷ r.1 i)
      | inr r ↦ inr (r.0, λ i. sym first i ∷ r.1 i)
    ]

abbrev mark : Again → ℕ × List ℕ
mark r = (r.kept, r.arena)

-- blocks that ran again at the same calls and from equal arenas make the same of a run
breaks_same : (xs ys : List Again) → went_on_from xs ≡ went_on_from ys → (n : ℕ) (s : State) → breaks_of xs n s ≡ breaks_of ys n s
breaks_same [] [] same n s = refl
breaks_same [] (y ∷ ys) same n s = absurd (cc)
breaks_same (x ∷ xs) [] same n s = absurd (cc)
breaks_same (x ∷ xs) (y ∷ ys) same n s =
    let first : mark x ≡ mark y = cc in
    let rest : went_on_from xs ≡ went_on_from ys = cc in
    by_place (x.kept == n) (ap (λ (m : ℕ × List ℕ). m.1) first) (breaks_same xs ys rest n s) ∙ ap (λ (k : ℕ). arena_set (if k == n then Some y else again_at ys n) s) (ap (λ (m : ℕ × List ℕ). m.0) first)
  where
    by_place : (b : Bool) → x.arena ≡ y.arena → arena_set (again_at xs n) s ≡ arena_set (again_at ys n) s → arena_set (if b then Some x else again_at xs n) s ≡ arena_set (if b then Some y else again_at ys n) s
    by_place true arena rest = λ i. record s { arena = arena i }
    by_place false arena rest = rest

pub returns : goal.returns
returns g c p a b deepest n m memory x y arena props restarts =
    let breaks : breaks_of b.restarts ≡ breaks_of a.restarts = λ i k s. breaks_same b.restarts a.restarts (sym restarts) k s i in
    beginnings _ _ (answers_on g.P.Player deepest p a memory) x.beginning
    (y.beginning.0, y.beginning.1 ∙ (λ i. answers_through g.P.Player.next_call g.P.Player.answered g.P.Player.calls_left deepest (breaks i) p memory (sym arena i) (sym props i)))

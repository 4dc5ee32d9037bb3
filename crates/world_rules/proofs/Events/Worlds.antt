-- The actors of a world, over one event.
use Rattle.std.proofs.Common.{◌≡◌, ◌≢◌, ◌⊎◌, inl, inr, ℕ, zero, suc, ◌%◌, ◌<◌, ◌==◌, true, false, List, [], ◌∷◌, length, Option, None, Some, IsSome, slice_get, slice_set, eqb-true, refl, sym, ap, ◌∙◌, subst, arith}
use Rattle.world_rules.proofs.Common.{Actor, AreActors, Core, Ended, IsCell, Rows, Rules, Status, StatusIs, Step, Waits, World, cases_Bool, cases_lt, ending_of, eqb-false, found, is_ready, is_waiting, operation_at, option_and_then, option_map, slice_get-set_same, slice_get_read, slice_get_within, slice_index_or, there_is, waiting_step, waits_at}
use Rattle.itm_types.proofs.Words.{slice_get-set_other}
use Rattle.norec_core.specs.Proceeds.{IsLawful}
use Rattle.itm_types.specs.declared.step.Step.TheVariants.{Cas, Load, Store}

pub within_some : {A B : Type 0} (f : A → Option B) (xs : List A) (i : ℕ) → IsSome (option_and_then f (slice_get xs i)) → i < length xs
within_some f [] i h = absurd (cc)
within_some f (x ∷ xs) zero h = omega arith
within_some f (x ∷ xs) (suc i) h = (let l = within_some f xs i h in omega arith)

pub odd_or_even : (n : ℕ) → (n % 2 ≡ 0) ⊎ (n % 2 ≡ 1)
odd_or_even n = elim (cases_lt (n % 2) 1) [ inl l ↦ inl (omega arith) | inr l ↦ inr (omega arith) ]

-- who stands where, once one is replaced
pub set_place : {A : Type 0} (xs : List A) (i : ℕ) (got new : A) → slice_get xs i ≡ Some got → (j : ℕ) (b : A) → slice_get (slice_set xs i new) j ≡ Some b → ((i ≡ j) × (b ≡ new)) ⊎ ((i ≢ j) × (slice_get xs j ≡ Some b))
set_place xs i got new here j b e = elim (cases_Bool (i == j)) [
  | inl h ↦
      (let same : i ≡ j = eqb-true i j h in
      let found : Some b ≡ Some new = sym e ∙ (ap (slice_get (slice_set xs i new)) (sym same) ∙ slice_get-set_same xs i new (slice_get_within xs i got here)) in
      inl (same, cc))
  | inr h ↦ (let apart : i ≢ j = eqb-false i j h in inr (apart, sym (slice_get-set_other xs i j new apart) ∙ e))
]

-- the step that a sound actor waits for is one of the algorithm's
module _ {P : Type 0} (rules : Rules P) where
  pub lawful_as : (r : Rows) (a : Actor P) (s : Status) (step : Step) → StatusIs rules a s → waiting_step s ≡ Some step → IsLawful a.engine step
  lawful_as r a (Waits call other) step i w = (let same : other ≡ step = cc in subst (IsLawful a.engine) same i.lawful)
  lawful_as r a s step i w = absurd (cc)

  pub lawful_at : (w : World P) (r : Rows) → AreActors rules w.cells r w.actors → (i : ℕ) (a : Actor P) (step : Step)
      → slice_get w.actors i ≡ Some a → waiting_step a.status ≡ Some step → IsLawful a.engine step
  lawful_at w r s i a step e waits = lawful_as r a a.status step (s.each i a e).sound.status waits

pub waiting_some : (s : Status) → IsSome (waiting_step s) → is_waiting s ≡ true
waiting_some (Waits call step) e = refl
waiting_some s e = absurd (cc)

pub waiting_going : (s : Status) → is_waiting s ≡ true → ending_of s ≡ None
waiting_going (Ended end) e = absurd (cc)
waiting_going s e = refl

pub some_waiting : (s : Status) → is_waiting s ≡ true → IsSome (waiting_step s)
some_waiting (Waits call step) e = refl
some_waiting s e = absurd (cc)

pub some_ended : (s : Status) → is_waiting s ≡ false → is_ready s ≡ false → IsSome (ending_of s)
some_ended (Ended end) e r = refl
some_ended s e r = absurd (cc)

pub waiting_there : {P : Type 0} (w : World P) (actor : ℕ) (a : Actor P) → slice_get w.actors actor ≡ Some a → IsSome (waits_at w actor) → is_waiting a.status ≡ true
waiting_there {P} w actor a here some = waiting_some a.status (subst IsSome (ap (option_and_then (λ (x : Actor P). waiting_step x.status)) here) some)

-- the actor at its place in a world, where it waits for an operation; the world may have another name
pub going_in : {P : Type 0} {w v : World P} → w ≡ v → (actor : ℕ) (a : Actor P) → IsSome (waits_at v actor) → a ≡ slice_index_or w.actors actor a → (slice_get w.actors actor ≡ Some a) × (is_waiting a.status ≡ true)
going_in {P} {w} same actor a some is =
    let waits = subst (λ (x : World P). IsSome (waits_at x actor)) (sym same) some in
    let here = slice_get_read w.actors (length w.actors) actor a refl (within_some (λ x. waiting_step x.status) w.actors actor waits) is in
    (here, waiting_there w actor a here waits)

-- who waits for an operation is there, and waits
pub waits_there : {P : Type 0} (w : World P) (actor : ℕ) → IsSome (waits_at w actor) → (a : Actor P) × (slice_get w.actors actor ≡ Some a) × (is_waiting a.status ≡ true)
waits_there {P} w actor some =
    let here = there_is w.actors actor (within_some (λ (a : Actor P). waiting_step a.status) w.actors actor some) in
    (here.0, here.1, waiting_there w actor here.0 here.1 some)

-- ## The operation that comes next

lawful_cell : (e : Core) (words : ℕ) (step : Step) → e.words ≡ words → IsLawful e step → IsCell words step
lawful_cell e words (Load cell) is l = (let le = l.0 in omega arith)
lawful_cell e words (Store cell value) is l = (let le = l.0 in omega arith)
lawful_cell e words (Cas cell from to) is l = l.0

-- who is read at a place is there
pub read_there : {A : Type 0} (items xs : List A) (i : ℕ) (a : A) → items ≡ xs → i < length items → a ≡ slice_index_or items i a → slice_get xs i ≡ Some a
read_there items xs i a same within is = subst (λ l. slice_get l i ≡ Some a) same (slice_get_read items (length items) i a refl within is)

module _ {P : Type 0} (w : World P) (i : ℕ) (a : Actor P) (step : Step) (here : slice_get w.actors i ≡ Some a) (waits : Some step ≡ waiting_step a.status) where
  -- it is on a cell that there is
  pub next_cell : (rules : Rules P) → AreActors rules w.cells w.attempts w.actors → IsCell (length w.cells.words) step
  next_cell rules sound = lawful_cell a.engine (length w.cells.words) step (sound.each i a here).sound.tied.words (lawful_at rules w w.attempts sound i a step here (sym waits))

  pub next_here : (value : ℕ) → value ≡ found w.cells step → Some (record { step = step; found = value }) ≡ operation_at w i
  next_here value is =
      let as_waits : waits_at w i ≡ Some step = ap (option_and_then (λ (x : Actor P). waiting_step x.status)) here ∙ sym waits in
      ap (λ (n : ℕ). Some (record { step = step; found = n })) is ∙ sym (ap (option_map (λ (s : Step). record { step = s; found = found w.cells s })) as_waits)

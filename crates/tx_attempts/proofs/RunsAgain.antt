-- Runs with records: of two that tell alike, and of a block that runs again.
use Rattle.std.proofs.Common.{◌≡◌, ℕ, zero, suc, ◌<◌, ◌≤◌, List, [], ◌∷◌, ◌++◌, length, Option, None, Some, refl, sym, ap, subst, ◌∙◌, arith, inl, inr, nat_lt, ◌==◌, if◌then◌else◌, slice_get}
use Rattle.tx_attempts.proofs.Common.{Again, AreAgain, AtEach, Breaks, CallRecord, IsAgain, IsAlone, IsInnerBegin, Rules, State, after, again_at, arena_set, before, breaks_in, breaks_of, cases_Bool, eq-eqb, later, lt-ltb, ltb-false, ltb-true, ne_eqb, run_on, state_then, take-append-le, with_again}
use Rattle.std.proofs.lemmas.Option.{slice_get_within}
use Rattle.tx_attempts.proofs.AloneCalls.{state_snoc}

-- ## Breaks that are alike between the calls

-- after fewer than so many calls
abbrev pub AreAlike : ℕ → Breaks → Breaks → Type 0
AreAlike top b c = (n : ℕ) → 0 < n → n < top → (s : State) → b n s ≡ c n s

later_alike : (top : ℕ) (b c : Breaks) → AreAlike (suc top) b c → AreAlike top (later b) (later c)
later_alike top b c h n l u s = h (suc n) (omega arith) (omega (arith, u)) s

pub state_alike : (deepest : ℕ) (b c : Breaks) (s : State) (xs : List CallRecord) → AreAlike (suc (length xs)) b c → state_then deepest b s xs ≡ state_then deepest c s xs
state_alike deepest b c s [] h = refl
state_alike deepest b c s (x ∷ xs) h =
    ap (λ (t : State). state_then deepest (later b) t xs) (h 1 (omega arith) (omega arith) (after deepest s x.call))
    ∙ state_alike deepest (later b) (later c) (c 1 (after deepest s x.call)) xs (later_alike (suc (length xs)) b c h)

module _ {P : Type 0} (rules : Rules P) (deepest : ℕ) where
  -- calls made alone are so with each of two such breaks
  pub alone_alike : (b c : Breaks) (p : P) (s : State) (xs : List CallRecord) → AreAlike (length xs) b c → IsAlone rules deepest b p s xs → IsAlone rules deepest c p s xs
  alone_alike b c p s [] h a = tt
  alone_alike b c p s (x ∷ []) h a = (a.0, a.1, tt)
  alone_alike b c p s (x ∷ y ∷ ys) h a = (
    a.0,
    a.1,
    subst (λ (t : State). IsAlone rules deepest (later c) (rules.answered p x.reply) t (y ∷ ys)) (h 1 (omega arith) (omega arith) (after deepest s x.call))
        (alone_alike (later b) (later c) (rules.answered p x.reply) (b 1 (after deepest s x.call)) (y ∷ ys) (later_alike (length (y ∷ ys)) b c h) a.2),
  )

  -- so are the first of them
  pub alone_start : (b : Breaks) (p : P) (s : State) (xs ys : List CallRecord) → IsAlone rules deepest b p s (xs ++ ys) → IsAlone rules deepest b p s xs
  alone_start b p s [] ys a = tt
  alone_start b p s (x ∷ xs) ys a = (a.0, a.1, alone_start (later b) (rules.answered p x.reply) (b 1 (after deepest s x.call)) xs ys a.2)

-- ## A block runs again

-- what records make of a run, where a block that runs again does this to its state
abbrev by : (Option Again → State → State) → List Again → Breaks
by does rs n s = does (again_at rs n) s

module _ (a : Again) where
  -- the record is the one after its calls
  pub again_there : (rs : List Again) → again_at (with_again a rs) a.kept ≡ Some a
  again_there [] = rw (eq-eqb a.kept a.kept refl) refl
  again_there (r ∷ rest) = elim (cases_Bool (nat_lt r.kept a.kept)) [
    | inl e ↦ rw (e, ne_eqb r.kept a.kept (λ f. (let l = ltb-true r.kept a.kept e in omega arith))) (again_there rest)
    | inr e ↦ rw e (again_there rest)
  ]

  -- and those before it stay
  pub again_before : (n : ℕ) → n < a.kept → (rs : List Again) → again_at (with_again a rs) n ≡ again_at rs n
  again_before n l [] = rw (ne_eqb a.kept n (λ e. omega arith)) refl
  again_before n l (r ∷ rest) = elim (cases_Bool (nat_lt r.kept a.kept)) [
    | inl e ↦ rw e (ap (λ (o : Option Again). if r.kept == n then Some r else o) (again_before n l rest))
    | inr e ↦ rw (e, ne_eqb r.kept n (λ f. (let g = ltb-false r.kept a.kept e in omega arith))) (again_before n l rest)
  ]

  pub alike_before : (does : Option Again → State → State) (rs : List Again) → AreAlike a.kept (by does rs) (by does (with_again a rs))
  alike_before does rs n l u s = ap (λ (o : Option Again). does o s) (sym (again_before n u rs))

  -- where the calls up to its begin lead is where they led, once it has run again
  state_by : (does : Option Again → State → State) (deepest : ℕ) (rs : List Again) (s : State) (xs : List CallRecord) (x : CallRecord) → suc (length xs) ≡ a.kept
      → state_then deepest (by does (with_again a rs)) s (xs ++ x ∷ []) ≡ does (Some a) (after deepest (state_then deepest (by does rs) s xs) x.call)
  state_by does deepest rs s xs x e =
      state_snoc deepest (by does (with_again a rs)) s xs x
      ∙ (ap (λ (o : Option Again). does o (after deepest (state_then deepest (by does (with_again a rs)) s xs) x.call)) (ap (again_at (with_again a rs)) e ∙ again_there rs)
      ∙ ap (λ (t : State). does (Some a) (after deepest t x.call))
      (sym (state_alike deepest (by does rs) (by does (with_again a rs)) s xs (subst (λ (k : ℕ). AreAlike k (by does rs) (by does (with_again a rs))) (sym e) (alike_before does rs)))))

  pub state_again : (deepest : ℕ) (rs : List Again) (s : State) (xs : List CallRecord) (x : CallRecord) → suc (length xs) ≡ a.kept
      → state_then deepest (breaks_of (with_again a rs)) s (xs ++ x ∷ []) ≡ record (after deepest (state_then deepest (breaks_of rs) s xs) x.call) { arena = a.arena }
  state_again deepest rs s xs x e = state_by arena_set deepest rs s xs x e

  -- and so it is with all that has run
  pub state_again_in : (deepest : ℕ) (rs : List Again) (s : State) (xs : List CallRecord) (x : CallRecord) → suc (length xs) ≡ a.kept
      → state_then deepest (breaks_in (with_again a rs)) s (xs ++ x ∷ []) ≡ run_on (Some a) (after deepest (state_then deepest (breaks_in rs) s xs) x.call)
  state_again_in deepest rs s xs x e = state_by run_on deepest rs s xs x e

-- ## One call more

is_within : (calls : List CallRecord) (place : ℕ) (o : Option CallRecord) → slice_get calls place ≡ o → IsInnerBegin o → place < length calls
is_within calls place None e i = absurd i
is_within calls place (Some x) e i = slice_get_within calls place x e

kept_within : (size : ℕ) (calls : List CallRecord) (r : Again) → IsAgain size calls r → r.kept ≤ length calls
kept_within size calls r h = omega (arith, h.kept, is_within calls h.place (slice_get calls h.place) refl h.begins)

-- no record stands after more calls than there are
pub none_past : (size from : ℕ) (calls : List CallRecord) (rs : List Again) (n : ℕ) → length calls < n → AreAgain size from calls rs → again_at rs n ≡ None
none_past size from calls [] n l h = refl
none_past size from calls (r ∷ rest) n l h = rw (ne_eqb r.kept n (λ e. (let k = kept_within size calls r h.0 in omega arith))) (none_past size r.kept calls rest n l h.2)

-- so each stands before the next one
pub all_before : (size from : ℕ) (calls : List CallRecord) (rs : List Again) → AreAgain size from calls rs → before (suc (length calls)) rs ≡ rs
all_before size from calls [] h = refl
all_before size from calls (r ∷ rest) h =
    rw (lt-ltb r.kept (suc (length calls)) (omega (arith, kept_within size calls r h.0))) (ap (λ (xs : List Again). r ∷ xs) (all_before size r.kept calls rest h.2))

-- so one call more leads on from where they led
more_by : (does : Option Again → State → State) (size deepest : ℕ) (rs : List Again) (s : State) (xs : List CallRecord) (x : CallRecord) → AreAgain size 0 xs rs
    → state_then deepest (by does rs) s (xs ++ x ∷ []) ≡ does None (after deepest (state_then deepest (by does rs) s xs) x.call)
more_by does size deepest rs s xs x h =
    state_snoc deepest (by does rs) s xs x ∙ ap (λ (o : Option Again). does o (after deepest (state_then deepest (by does rs) s xs) x.call)) (none_past size 0 xs rs (suc (length xs)) (omega arith) h)

pub state_more : (size deepest : ℕ) (rs : List Again) (s : State) (xs : List CallRecord) (x : CallRecord) → AreAgain size 0 xs rs
    → state_then deepest (breaks_of rs) s (xs ++ x ∷ []) ≡ after deepest (state_then deepest (breaks_of rs) s xs) x.call
state_more size deepest rs s xs x h = more_by arena_set size deepest rs s xs x h

pub state_more_in : (size deepest : ℕ) (rs : List Again) (s : State) (xs : List CallRecord) (x : CallRecord) → AreAgain size 0 xs rs
    → state_then deepest (breaks_in rs) s (xs ++ x ∷ []) ≡ after deepest (state_then deepest (breaks_in rs) s xs) x.call
state_more_in size deepest rs s xs x h = more_by run_on size deepest rs s xs x h

-- ## More calls

get_before : (xs ys : List CallRecord) (n : ℕ) → n < length xs → slice_get (xs ++ ys) n ≡ slice_get xs n
get_before [] ys n l = absurd (omega arith)
get_before (x ∷ xs) ys zero l = refl
get_before (x ∷ xs) ys (suc n) l = get_before xs ys n (omega (arith, l))

-- a record stands where it stood
again_still : (size : ℕ) (calls more : List CallRecord) (r : Again) → IsAgain size calls r → IsAgain size (calls ++ more) r
again_still size calls more r h = record {
  place = h.place;
  kept = h.kept;
  begins = subst IsInnerBegin (sym (get_before calls more h.place (is_within calls h.place (slice_get calls h.place) refl h.begins))) h.begins;
  arena = h.arena;
}

pub again_more : (size from : ℕ) (calls more : List CallRecord) (rs : List Again) → AreAgain size from calls rs → AreAgain size from (calls ++ more) rs
again_more size from calls more [] h = tt
again_more size from calls more (r ∷ rest) h = (again_still size calls more r h.0, h.1, again_more size r.kept calls more rest h.2)

-- what is true of the calls up to each record stays so
pub all_more : (P : List CallRecord → Type 0) (size from : ℕ) (calls more : List CallRecord) (rs : List Again) → AreAgain size from calls rs → AtEach P calls rs → AtEach P (calls ++ more) rs
all_more P size from calls more [] h a = tt
all_more P size from calls more (r ∷ rest) h a =
    (subst P (sym (take-append-le r.kept calls more (kept_within size calls r h.0))) a.0, all_more P size r.kept calls more rest h.2 a.1)

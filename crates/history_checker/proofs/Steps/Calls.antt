-- One call after the other.
use Rattle.std.proofs.Common.{◌≡◌, ℕ, zero, suc, ◌+◌, ◌-◌, ◌<◌, Bool, true, List, [], ◌∷◌, length, get_or, take, drop, map, refl, ap, subst, ◌∙◌, arith, drop-cons, Option, None, Some}
use Rattle.history_checker.proofs.Common.{Again, Begin, Breaks, Call, CallRecord, Fault, Refusal, State, Undoable, after, again_fault, arena_set, before_after, before_next, before_unless, calls_fault, cond-true, is_open, last_is, later, refusal, reply, same_reply, state_through}
use Rattle.history_checker.specs.declared.verdict.BadKind.TheVariants as kind

-- the last of some calls
pub last_item : (test : CallRecord → Bool) (es : List CallRecord) (d : CallRecord) → 0 < length es → last_is test es ≡ test (get_or es (length es - 1) d)
last_item test [] d h = absurd (omega (arith, h))
last_item test (e ∷ []) d h = refl
last_item test (e ∷ f ∷ rest) d h =
    last_item test (f ∷ rest) d (omega arith) ∙ (let at : suc (length (f ∷ rest) - 1) ≡ length (e ∷ f ∷ rest) - 1 = omega arith in ap (λ (n : ℕ). test (get_or (e ∷ f ∷ rest) n d)) at)

-- ## The fault of the calls from one on

module _ (deepest : ℕ) (again : ℕ → Option Again) (s : State) (i : ℕ) (es : List CallRecord) (d : CallRecord) (h : i < length es) where
  -- behind i calls
  abbrev pub fault_from : Option Fault
  fault_from = calls_fault deepest (λ n. again (i + n)) s i (drop i es)

  pub calls_next : is_open s ≡ true → same_reply (get_or es i d).reply (reply deepest s (get_or es i d).call) ≡ true
      → fault_from ≡ again_fault (again (i + 1)) (after deepest s (get_or es i d).call) (calls_fault deepest (λ n. again (i + 1 + n)) (arena_set (again (i + 1)) (after deepest s (get_or es i d).call)) (i + 1) (drop (i + 1) es))
  calls_next o r =
      let e = get_or es i d in
      let t = after deepest s e.call in
      let more : (n : ℕ) → i + suc n ≡ i + 1 + n = λ n. omega arith in
      let at : suc i ≡ i + 1 = omega arith in
      ap (calls_fault deepest (λ n. again (i + n)) s i) (drop-cons es i d h)
      ∙ (cond-true (is_open s) _ _ o
      ∙ (cond-true (same_reply e.reply (reply deepest s e.call)) _ _ r
      ∙ (λ j. again_fault (again (i + 1)) t (calls_fault deepest (λ n. again (more n j)) (arena_set (again (i + 1)) t) (at j) (drop (at j) es)))))

-- the calls of these entries
abbrev pub made : List CallRecord → List Call
made es = map (λ (e : CallRecord). e.call) es

pub state_suc : (deepest : ℕ) (b : Breaks) (s : State) (es : List CallRecord) (i : ℕ) (d : CallRecord) → i < length es
    → state_through deepest b s (made (take (suc i) es)) ≡ b (suc i) (after deepest (state_through deepest b s (made (take i es))) (get_or es i d).call)
state_suc deepest b s [] i d h = absurd (omega (arith, h))
state_suc deepest b s (e ∷ es) zero d h = refl
state_suc deepest b s (e ∷ es) (suc i) d h = state_suc deepest (later b) (b 1 (after deepest s e.call)) es i d (omega (arith, h))

pub state_next : (deepest : ℕ) (b : Breaks) (s : State) (es : List CallRecord) (i : ℕ) (d : CallRecord) → i < length es
    → state_through deepest b s (made (take (i + 1) es)) ≡ b (i + 1) (after deepest (state_through deepest b s (made (take i es))) (get_or es i d).call)
state_next deepest b s es i d h =
    let at : suc i ≡ i + 1 = omega arith in
    subst (λ (n : ℕ). state_through deepest b s (made (take n es)) ≡ b n (after deepest (state_through deepest b s (made (take i es))) (get_or es i d).call)) at (state_suc deepest b s es i d h)

-- a call within a block leaves what stood at its begin
before_same : (r : Option Refusal) (old new : List ℕ) → new ≡ old → before_unless r old new ≡ old
before_same None old new e = e
before_same (Some refusal) old new e = refl

before_within : (u : Undoable) (call : Call) → is_open u.state ≡ true → before_next u call ≡ u.before
before_within u (Begin props room) o = cond-true (is_open u.state) _ _ o
before_within u call o = refl

pub before_stays : (n : ℕ) (u : Undoable) (call : Call) → is_open u.state ≡ true → before_after n u call ≡ u.before
before_stays n u call o = before_same (refusal n u.state call) u.before (before_next u call) (before_within u call o)

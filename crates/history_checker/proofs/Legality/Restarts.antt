-- The tests of blocks that ran again are true exactly where they stand as they may.
use Rattle.std.proofs.Common.{◌≡◌, ℕ, suc, ◌-◌, ◌<◌, true, ◌&&◌, ◌==◌, nat_lt, is_some, List, [], ◌∷◌, length, take, Option, None, Some, refl, sym, ap, subst, ◌∙◌, arith, inl, inr, slice_get}
use Rattle.history_checker.proofs.Common.{Again, AreAgain, AtEach, CallRecord, Code, Decides, Decides-and, IsAgain, IsInnerBegin, again_at, and_from, and_parts, are_again, cases_Bool, cond-false, cond-true, eq-eqb, eqb-true, is_again, is_inner_begin, lt-ltb, ltb-true, same_reply, slice_get_within}
use Rattle.itm_types.specs.Calls.{is_begin}
use Rattle.history_checker.proofs.Legality.Replies.{reply_decides}

-- ## Where they stand

-- the test of a begin that was accepted
begin_decides : (o : Option CallRecord) → Decides (is_inner_begin o) (IsInnerBegin o)
begin_decides None = (λ h. absurd (cc), λ h. absurd h)
begin_decides (Some e) = Decides-and (is_begin e.call) (same_reply e.reply (Code 5)) (λ h. h, λ h. h) (reply_decides e.reply (Code 5))

module _ (size : ℕ) (calls : List CallRecord) where
  -- one that passes stands behind so many calls
  again_from : (from : ℕ) (a : Again) → is_again size from calls a ≡ true → IsAgain size calls a × (from < a.kept)
  again_from from a e =
      let begins = is_inner_begin (slice_get calls (a.kept - 1)) in
      let parts = and_parts (nat_lt from a.kept) (begins && (length a.arena == size)) e in
      let whole = and_parts begins (length a.arena == size) parts.1 in
      let ahead : from < a.kept = ltb-true from a.kept parts.0 in
      (record { place = a.kept - 1; kept = omega arith; begins = (begin_decides (slice_get calls (a.kept - 1))).0 whole.0; arena = eqb-true (length a.arena) size whole.1 }, ahead)

  -- and one that does passes
  again_passes : (from : ℕ) (a : Again) → IsAgain size calls a → from < a.kept → is_again size from calls a ≡ true
  again_passes from a h l =
      let kept = h.kept in
      let at : h.place ≡ a.kept - 1 = omega arith in
      let begins = is_inner_begin (slice_get calls (a.kept - 1)) in
      and_from (nat_lt from a.kept) (begins && (length a.arena == size)) (lt-ltb from a.kept l)
      (and_from begins (length a.arena == size) ((begin_decides (slice_get calls (a.kept - 1))).1 (subst (λ (n : ℕ). IsInnerBegin (slice_get calls n)) at h.begins)) (eq-eqb (length a.arena) size h.arena))

-- the test of them all
pub again_decides : (size from : ℕ) (calls : List CallRecord) (rs : List Again) → Decides (are_again size from calls rs) (AreAgain size from calls rs)
again_decides size from calls [] = (λ h. tt, λ h. refl)
again_decides size from calls (a ∷ rest) =
    let later = again_decides size a.kept calls rest in (
      λ h. (let parts = and_parts (is_again size from calls a) (are_again size a.kept calls rest) h in
          let here = again_from size calls from a parts.0 in
          (here.0, here.1, later.0 parts.1)),
      λ h. and_from (is_again size from calls a) (are_again size a.kept calls rest) (again_passes size calls from a h.0 h.1) (later.1 h.2),
    )

-- ## What is so of the calls up to each

begin_within : (calls : List CallRecord) (place : ℕ) (o : Option CallRecord) → slice_get calls place ≡ o → IsInnerBegin o → place < length calls
begin_within calls place None e i = absurd i
begin_within calls place (Some x) e i = slice_get_within calls place x e

-- one that is found among the later ones is found
found_later : (a : Again) (rest : List Again) (n : ℕ) → is_some (again_at rest n) ≡ true → is_some (again_at (a ∷ rest) n) ≡ true
found_later a rest n h = elim (cases_Bool (a.kept == n)) [
  | inl on ↦ ap (is_some {T = Again}) (cond-true (a.kept == n) (Some a) (again_at rest n) on)
  | inr off ↦ ap (is_some {T = Again}) (cond-false (a.kept == n) (Some a) (again_at rest n) off) ∙ h
]

-- of each of them, where it is of those that are found
pub each_from : (P : List CallRecord → Type 0) (size from : ℕ) (calls : List CallRecord) (rs : List Again) → AreAgain size from calls rs
    → ((n : ℕ) → n < length calls → is_some (again_at rs (suc n)) ≡ true → P (take (suc n) calls)) → AtEach P calls rs
each_from P size from calls [] h f = tt
each_from P size from calls (a ∷ rest) h f =
    let first = h.0 in
    let there = begin_within calls first.place (slice_get calls first.place) refl first.begins in
    let found : is_some (again_at (a ∷ rest) (suc first.place)) ≡ true = ap (is_some {T = Again}) (cond-true (a.kept == suc first.place) (Some a) (again_at rest (suc first.place)) (eq-eqb a.kept (suc first.place) first.kept)) in
    (subst (λ (n : ℕ). P (take n calls)) (sym first.kept) (f first.place there found), each_from P size a.kept calls rest h.2 (λ n l is. f n l (found_later a rest (suc n) is)))

-- and of those that are found, where it is of each
pub each_at : (P : List CallRecord → Type 0) (calls : List CallRecord) (rs : List Again) → AtEach P calls rs → (n : ℕ) → is_some (again_at rs n) ≡ true → P (take n calls)
each_at P calls [] h n is = absurd (cc)
each_at P calls (a ∷ rest) h n is = elim (cases_Bool (a.kept == n)) [
  | inl on ↦ subst (λ (k : ℕ). P (take k calls)) (eqb-true a.kept n on) h.0
  | inr off ↦ each_at P calls rest h.1 n (sym (ap (is_some {T = Again}) (cond-false (a.kept == n) (Some a) (again_at rest n) off)) ∙ is)
]

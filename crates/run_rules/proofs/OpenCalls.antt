-- Which inner blocks are open, by the calls: after one call more, and after the calls up to the begin of one of them.
use Rattle.std.proofs.Common.{◌≡◌, ◌⊎◌, inl, inr, ℕ, suc, ◌+◌, ◌-◌, ◌≤◌, Bool, true, false, List, [], ◌∷◌, ◌++◌, length, take, Option, Some, refl, sym, ap, subst, ◌∙◌, arith, drop}
use Rattle.run_rules.proofs.Common.{CallRecord, Code, Done, Reply, abort_of, is_begin, is_commit, open_after, open_by, open_from, open_in}

-- ## One call more

open_more : (n : ℕ) (begins : List ℕ) (calls : List CallRecord) (x : CallRecord) → open_from n begins (calls ++ x ∷ []) ≡ open_after (n + length calls) (open_from n begins calls) x
open_more n begins [] x = (let same : n ≡ n + 0 = omega arith in ap (λ (m : ℕ). open_after m begins x) same)
open_more n begins (e ∷ more) x =
    open_more (suc n) (open_after n begins e) more x
    ∙ (let same : suc n + length more ≡ n + suc (length more) = omega arith in ap (λ (m : ℕ). open_after m (open_from (suc n) (open_after n begins e) more) x) same)

pub open_snoc : (calls : List CallRecord) (x : CallRecord) → open_in (calls ++ x ∷ []) ≡ open_after (suc (length calls)) (open_in calls) x
open_snoc calls x = open_more 1 [] calls x ∙ (let same : 1 + length calls ≡ suc (length calls) = omega arith in ap (λ (m : ℕ). open_after m (open_in calls) x) same)

-- ## Up to a begin

-- these are all of those, or the outer ones
abbrev IsOuter : List ℕ → List ℕ → Type 0
IsOuter outer [] = outer ≡ []
IsOuter outer (b ∷ begins) = (outer ≡ b ∷ begins) ⊎ IsOuter outer begins

all_outer : (begins : List ℕ) → IsOuter begins begins
all_outer [] = refl
all_outer (b ∷ begins) = inl refl

-- the blocks that are open were open before a call, or the first of them is the one that it opened
module _ (n k : ℕ) (rest begins : List ℕ) where
  abbrev WasOpen : List ℕ → Type 0
  WasOpen now = IsOuter (k ∷ rest) begins ⊎ ((k ≡ n) × (now ≡ k ∷ rest))

  fewer : (bs : List ℕ) → IsOuter (k ∷ rest) (drop 1 bs) → IsOuter (k ∷ rest) bs
  fewer [] o = o
  fewer (b ∷ bs) o = inr o

  was_open : (b c : Bool) (o : Option Bool) (r : Reply) → IsOuter (k ∷ rest) (open_by b c o n begins r) → WasOpen (open_by b c o n begins r)
  was_open true c o (Code code) (inl e) = inr ((let first : k ≡ n = cc in first), sym e)
  was_open true c o (Code code) (inr outer) = inl outer
  was_open false true o Done outer = inl (fewer begins outer)
  was_open false false (Some true) (Code code) outer = absurd (cc)
  was_open false false (Some false) (Code code) outer = inl (fewer begins outer)
  was_open b c o r outer = inl outer

open_up_to : (n k : ℕ) (rest begins : List ℕ) (calls : List CallRecord) → IsOuter (k ∷ rest) (open_from n begins calls) → IsOuter (k ∷ rest) begins ⊎ ((n ≤ k) × (open_from n begins (take (suc k - n) calls) ≡ k ∷ rest))
open_up_to n k rest begins [] outer = inl outer
open_up_to n k rest begins (e ∷ more) outer = by_rest (open_up_to (suc n) k rest (open_after n begins e) more outer)
  where
    by_call : WasOpen n k rest begins (open_after n begins e) → IsOuter (k ∷ rest) begins ⊎ ((n ≤ k) × (open_from n begins (take (suc k - n) (e ∷ more)) ≡ k ∷ rest))
    by_call (inl o) = inl o
    by_call (inr now) =
        let is = now.0 in
        let one : suc k - n ≡ 1 = omega arith in
        inr (omega arith, ap (λ (m : ℕ). open_from n begins (take m (e ∷ more))) one ∙ now.1)

    by_rest : IsOuter (k ∷ rest) (open_after n begins e) ⊎ ((suc n ≤ k) × (open_from (suc n) (open_after n begins e) (take (suc k - suc n) more) ≡ k ∷ rest))
        → IsOuter (k ∷ rest) begins ⊎ ((n ≤ k) × (open_from n begins (take (suc k - n) (e ∷ more)) ≡ k ∷ rest))
    by_rest (inl o) = by_call (was_open n k rest begins (is_begin e.call) (is_commit e.call) (abort_of e.call) e.reply o)
    by_rest (inr later) =
        let within = later.0 in
        let one : suc k - n ≡ suc (suc k - suc n) = omega arith in
        inr (omega arith, ap (λ (m : ℕ). open_from n begins (take m (e ∷ more))) one ∙ later.1)

-- with the innermost one's begin the last call, those are open that are open now
pub open_cut : (calls : List CallRecord) (k : ℕ) (rest : List ℕ) → open_in calls ≡ k ∷ rest → open_in (take k calls) ≡ k ∷ rest
open_cut calls k rest e = by_where (open_up_to 1 k rest [] calls (outer e))
  where
    outer : open_in calls ≡ k ∷ rest → IsOuter (k ∷ rest) (open_in calls)
    outer same = subst (IsOuter (k ∷ rest)) (sym same) (all_outer (k ∷ rest))

    by_where : (k ∷ rest ≡ []) ⊎ ((1 ≤ k) × (open_from 1 [] (take (suc k - 1) calls) ≡ k ∷ rest)) → open_in (take k calls) ≡ k ∷ rest
    by_where (inl none) = absurd (cc)
    by_where (inr there) = (let one : k ≡ suc k - 1 = omega arith in ap (λ (m : ℕ). open_in (take m calls)) one ∙ there.1)

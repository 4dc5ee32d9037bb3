-- How many positions there are, where each number below n is one of them once.
use Rattle.std.proofs.Common.{◌≡◌, ℕ, zero, suc, ◌+◌, ◌<◌, ◌≤◌, ◌==◌, ltb, cond, List, [], ◌∷◌, length, sym, refl, ap, ◌∙◌, arith}
use Rattle.shared_words.proofs.Common.{count_by, sum_by-cons, times}
use Rattle.std.proofs.lemmas.Bool.Decides.{nat_tests}

is_here : (q p : ℕ) → q ≡ p → cond {A = ℕ} (q == p) 1 0 ≡ 1
is_here q p e = grind (arith, nat_tests)

below : ℕ → List ℕ → ℕ
below n ps = count_by (λ (q : ℕ). ltb q n) ps

below_one : (q n : ℕ) → cond {A = ℕ} (ltb q (n + 1)) 1 0 ≡ cond {A = ℕ} (ltb q n) 1 0 + cond {A = ℕ} (q == n) 1 0
below_one q n = grind (arith, nat_tests)

below_suc : (n : ℕ) (ps : List ℕ) → below (n + 1) ps ≡ below n ps + times n ps
unfolding below
below_suc n [] = refl
below_suc n (q ∷ qs) =
    let t = below_suc n qs in
    let h = below_one q n in
    omega (arith, sum_by-cons (λ (x : ℕ). cond {A = ℕ} (ltb x (n + 1)) 1 0) q qs, sum_by-cons (λ (x : ℕ). cond {A = ℕ} (ltb x n) 1 0) q qs, sum_by-cons (λ (x : ℕ). cond {A = ℕ} (x == n) 1 0) q qs)

below_zero : (ps : List ℕ) → below 0 ps ≡ 0
unfolding below
below_zero [] = refl
below_zero (q ∷ qs) = let t = below_zero qs in let h : cond {A = ℕ} (ltb q 0) 1 0 ≡ 0 = grind (arith, nat_tests) in omega (arith, sum_by-cons (λ (x : ℕ). cond {A = ℕ} (ltb x 0) 1 0) q qs)

below_count : (n : ℕ) (ps : List ℕ) → ((p : ℕ) → p < n → times p ps ≡ 1) → below n ps ≡ n
below_count zero ps once = below_zero ps
below_count (suc n) ps once =
    let t : below n ps ≡ n = below_count n ps (λ p l. once p (omega arith)) in
    let h : times n ps ≡ 1 = once n (omega arith) in
    let s : below (suc n) ps ≡ below (n + 1) ps = ap (λ (m : ℕ). below m ps) (omega arith) in
    let u = below_suc n ps in omega arith

below_all : (n : ℕ) (ps : List ℕ) → ((p : ℕ) → n ≤ p → times p ps ≡ 0) → below n ps ≡ length ps
unfolding below
below_all n [] none = refl
below_all n (q ∷ qs) none =
    let parts : (p : ℕ) → times p (q ∷ qs) ≡ cond {A = ℕ} (q == p) 1 0 + times p qs = λ p. sum_by-cons (λ (x : ℕ). cond {A = ℕ} (x == p) 1 0) q qs in
    let t = below_all n qs (λ p l. (let z = none p l in let s = parts p in omega arith)) in
    let low : q < n → cond {A = ℕ} (ltb q n) 1 0 ≡ 1 = λ l. grind (arith, nat_tests) in
    let high : n ≤ q → ⊥ = λ l. (let z = none q l in let s = parts q in let o = is_here q q refl in omega arith) in
    let here : q < n = grind arith in
    let one = low here in
    omega (arith, sum_by-cons (λ (x : ℕ). cond {A = ℕ} (ltb x n) 1 0) q qs)

-- where each number below n is there once and no other is, there are n
pub count_is : (n : ℕ) (ps : List ℕ) → ((p : ℕ) → p < n → times p ps ≡ 1) → ((p : ℕ) → n ≤ p → times p ps ≡ 0) → length ps ≡ n
count_is n ps once none = sym (below_all n ps none) ∙ below_count n ps once

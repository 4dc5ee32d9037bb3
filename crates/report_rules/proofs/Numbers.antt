-- Lists whose members have numbers.
use Rattle.std.proofs.Common.{◌≡◌, ℕ, ◌+◌, List, [], ◌∷◌, ◌++◌, length, subst, arith}
use Rattle.report_rules.proofs.Common.{Numbered}

pub numbered_push : {A : Type 0} (P : ℕ → A → Type 0) (n m : ℕ) (xs : List A) (x : A) → n + length xs ≡ m → Numbered P n xs → P m x → Numbered P n (xs ++ x ∷ [])
numbered_push P n m [] x e t h = (let e' : m ≡ n = omega arith in subst (λ k. P k x) e' h, tt)
numbered_push P n m (y ∷ ys) x e t h = (t.0, numbered_push P (n + 1) m ys x (omega arith) t.1 h)

pub numbered_map : {A : Type 0} (P Q : ℕ → A → Type 0) (n : ℕ) (xs : List A) → ((k : ℕ) (x : A) → P k x → Q k x) → Numbered P n xs → Numbered Q n xs
numbered_map P Q n [] f t = tt
numbered_map P Q n (y ∷ ys) f t = (f n y t.0, numbered_map P Q (n + 1) ys f t.1)

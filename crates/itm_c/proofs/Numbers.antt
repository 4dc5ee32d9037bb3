-- Numbers and their bytes.
use Rattle.std.proofs.Common.{◌≡◌, ℕ, ◌+◌, ◌^◌, ◌<◌, List, [], ◌∷◌, ◌++◌, length, take, drop, replicate, refl, sym, ap, ◌∙◌, subst, arith, min}
use Rattle.itm_c.proofs.Common.{bytes_of_number, number_of_bytes}
use Rattle.std.proofs.lemmas.Nat.{from_le_bytes-to_le_bytes_8}

-- a number's 8 bytes are that number's
pub number_back : (n : ℕ) → n < 2 ^ 64 → n ≡ number_of_bytes (bytes_of_number n)
number_back n fits = sym (from_le_bytes-to_le_bytes_8 n fits)

-- so many bytes, with zeros after them up to the eighth
abbrev filled : List ℕ → ℕ → List ℕ
filled bs n = take n bs ++ drop n (replicate 8 0)

filled_is : (bs : List ℕ) → filled bs (min (length bs) 8) ≡ take 8 (bs ++ replicate 8 0)
filled_is [] = refl
filled_is (a ∷ []) = refl
filled_is (a ∷ b ∷ []) = refl
filled_is (a ∷ b ∷ c ∷ []) = refl
filled_is (a ∷ b ∷ c ∷ d ∷ []) = refl
filled_is (a ∷ b ∷ c ∷ d ∷ e ∷ []) = refl
filled_is (a ∷ b ∷ c ∷ d ∷ e ∷ f ∷ []) = refl
filled_is (a ∷ b ∷ c ∷ d ∷ e ∷ f ∷ g ∷ []) = refl
filled_is (a ∷ b ∷ c ∷ d ∷ e ∷ f ∷ g ∷ h ∷ rest) =
    let all = a ∷ b ∷ c ∷ d ∷ e ∷ f ∷ g ∷ h ∷ rest in let eight : min (length all) 8 ≡ 8 = omega arith in
    subst (λ (n : ℕ). filled all n ≡ take 8 (all ++ replicate 8 0)) (sym eight) refl

-- what is copied into eight zeros is the first eight bytes, with zeros after them
pub padded : (bs copied : List ℕ) (n : ℕ) → copied ≡ take n bs → n ≡ min (length bs) 8 → copied ++ drop n (replicate 8 0) ≡ take 8 (bs ++ replicate 8 0)
padded bs copied n is n_is = ap (λ (ws : List ℕ). ws ++ drop n (replicate 8 0)) is ∙ subst (λ (m : ℕ). filled bs m ≡ take 8 (bs ++ replicate 8 0)) (sym n_is) (filled_is bs)

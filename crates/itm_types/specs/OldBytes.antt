-- Bytes of a list as they were once: what stands when they are put back, and what is kept of each byte.
use Rattle.std.specs.Prelude.{ℕ, zero, suc, ◌+◌, ◌≤◌, List, [], ◌∷◌, length, Option, Some}
use Rattle.std.specs.List.{AllByRecursion}
use Rattle.itm_types.specs.Slices.{with_slice}
use Rattle.itm_types.specs.KeptBytes.{first_of_two, nothing}

-- some bytes of a list, as they were once
pub record Old : Type 0 where
  pub place : ℕ
  pub bytes : List ℕ

-- the list once these are put back, the newest first
abbrev pub put_back : List Old → List ℕ → List ℕ
put_back [] list = list
put_back (o ∷ os) list = with_slice (put_back os list) o.place o.bytes

-- what is kept once bytes are laid from a place on: places that have a byte keep it
abbrev pub laid : List (Option ℕ) → ℕ → List ℕ → List (Option ℕ)
laid [] place bytes = []
laid (k ∷ ks) (suc place) bytes = k ∷ laid ks place bytes
laid (k ∷ ks) zero [] = k ∷ ks
laid (k ∷ ks) zero (b ∷ bs) = first_of_two k (Some b) ∷ laid ks zero bs

-- what is kept once these were laid too, the oldest first
abbrev pub kept_from : List (Option ℕ) → List Old → List (Option ℕ)
kept_from ks [] = ks
kept_from ks (o ∷ os) = kept_from (laid ks o.place o.bytes) os

-- what these keep of the list
abbrev pub kept_of : List ℕ → List Old → List (Option ℕ)
kept_of list olds = kept_from (nothing list) olds

-- each lies in a list of so many bytes
abbrev pub AreWithin : ℕ → List Old → Type 0
AreWithin size olds = AllByRecursion (λ o. o.place + length o.bytes ≤ size) olds

-- Where the cells of a vector lie.
use Rattle.std.specs.Prelude.{ℕ, refl}
use Rattle.std.specs.Coded.{Coded, code_by, coded×, coded_ℕ}
use denote.RawPtr.{Ptr, coded_ptr}

-- where they begin, and how many there are
pub record Extent : Type 0 where
  pub ptr : Ptr
  pub len : ℕ

-- it is kept as the pair of its fields
abbrev pub extent_code : Coded Extent
extent_code = code_by (Ptr × ℕ) (coded× coded_ptr coded_ℕ) (λ e. (e.ptr, e.len)) (λ p. record { ptr = p.0; len = p.1 }) (λ _. refl)

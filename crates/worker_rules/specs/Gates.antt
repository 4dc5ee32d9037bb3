-- What gates may answer.
use Rattle.std.specs.Prelude.{◌≡◌, ℕ, min, Bool, true, false}
use Rattle.call_rules.specs.Standing.{Standing}

-- which calls of a thread, by the thread's number and the call's, a gate may shut out, and which it may let through
pub record Gating : Type 0 where
  pub shuts : ℕ → ℕ → Bool
  pub lets : ℕ → ℕ → Bool

-- it lets all through
abbrev pub all_let : Gating
all_let = record { shuts = λ thread call. false; lets = λ thread call. true }

-- it may do either with each
abbrev pub any_answer : Gating
any_answer = record { shuts = λ thread call. true; lets = λ thread call. true }

-- the number of the call after so many: they are numbered from 0, and all from the last number on have that one
abbrev pub call_number : ℕ → ℕ
call_number n = min n 18446744073709551615

-- the gate let the thread's call through, which is not asked in an irrevocable transaction
abbrev pub IsLet : Gating → ℕ → ℕ → Standing → Type 0
IsLet gate thread call s = s.engine.irrevocable ≡ false → gate.lets thread call ≡ true

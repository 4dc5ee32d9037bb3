-- Fields as bytes: two hexadecimal digits for each, in lower case.
use Rattle.std.specs.Prelude.{◌≡◌, ℕ, ◌*◌, ◌/◌, ◌%◌, ◌==◌, ◌&&◌, ◌||◌, not, Bool, nat_le, List, [], ◌++◌, length, true, Option, Some, None, Result, Ok, Err, if◌then◌else◌, codes, bytes_eq}
use Rattle.std.specs.List.{list_all}
use Rattle.std.specs.Borrow.{Bor}
use Rattle.std.proofs.Common.{take, replicate, arith, length-append}
use Rattle.std.proofs.lemmas.List.{length-take, length-replicate}
use Rattle.itm_types.specs.declared.access.Width.{Width}
use Rattle.itm_types.specs.declared.datum.Datum.{Datum}
use Rattle.itm_types.specs.declared.limits.TheConstants.{MAX_ARENA}
use Rattle.itm_types.specs.Access.{size_of}
use Rattle.script_fields.specs.declared.fault.FaultKind.{FaultKind}
use Rattle.script_fields.specs.declared.fault.FaultKind.TheVariants as kinds
use Rattle.script_fields.specs.Operands.{◌>>=◌, decoded}

abbrev pub is_lower_digit : ℕ → Bool
is_lower_digit b = (nat_le 48 b && nat_le b 57) || (nat_le 97 b && nat_le b 102)

-- an even number of digits, at least 2
abbrev pub is_lower_hex : List ℕ → Bool
is_lower_hex f = not (length f == 0) && (length f % 2 == 0 && list_all is_lower_digit f)

-- the bytes that digits say, where they are as many as may be
abbrev pub bytes_if : Bool → List ℕ → Result (List ℕ) FaultKind
bytes_if fits f = if is_lower_hex f then (if fits then Ok (decoded f) else Err kinds.Range) else Err kinds.Operand

-- so many bytes
unfoldable pub sized : ℕ → List ℕ → Result (List ℕ) FaultKind
sized n f = bytes_if (length f / 2 == n) f

-- the digits of a memory: 8 bytes or more in whole words, and no more than the limit
abbrev pub are_words : ℕ → ℕ → Bool
are_words limit digits = nat_le 16 digits && (nat_le digits (2 * limit) && digits % 16 == 0)

unfoldable pub memory_bytes : ℕ → List ℕ → Result (List ℕ) FaultKind
memory_bytes limit f = bytes_if (are_words limit (length f)) f

-- an arena: no bytes, or at most 4,096
unfoldable pub arena_bytes : List ℕ → Result (List ℕ) FaultKind
arena_bytes f = if bytes_eq f (codes "-") then Ok [] else bytes_if (nat_le (length f) (2 * MAX_ARENA)) f

-- the arena from which a block runs again: it has so many bytes
unfoldable pub restart_bytes : ℕ → List ℕ → Result (List ℕ) FaultKind
restart_bytes n f = if bytes_eq f (codes "-") then (if n == 0 then Ok [] else Err kinds.Range) else sized n f

-- ## Values of a width

-- the first bytes, as many as are wanted; where there are fewer, zeros stand for the rest
abbrev pub low : ℕ → List ℕ → List ℕ
low n bytes = take n (bytes ++ replicate n 0)

pub length-low : (n : ℕ) (bytes : List ℕ) → length (low n bytes) ≡ n
length-low n bytes = omega (arith, length-take n (bytes ++ replicate n 0), length-append bytes (replicate n 0), length-replicate {A = ℕ} n 0)

-- a value of a type, of bytes that are as many as the type has
abbrev pub datum_of : Width → List ℕ → Datum
datum_of width bytes = record { width = width; bytes = record { items = low (size_of width) bytes }; sized = length-low (size_of width) bytes }

unfoldable pub datum : Width → List ℕ → Result Datum FaultKind
datum width f = sized (size_of width) f >>= λ bytes. Ok (datum_of width bytes)

-- ## What the code sees of them

-- the bytes of an arena: those that digits say, or none
abbrev pub arena_of : Option (Bor (List ℕ)) → List ℕ
arena_of None = []
arena_of (Some digits) = decoded digits.now

abbrev pub AreLowerHex : Option (Bor (List ℕ)) → Type 0
AreLowerHex None = Unit {0}
AreLowerHex (Some digits) = is_lower_hex digits.now ≡ true

-- Worked cases: the pieces of three bytes that lie in two words; chunks that are part of a range, and one that is not; a memory that a log agrees with.
use Rattle.std.proofs.Common.{◌≡◌, ◌<◌, [], ◌∷◌, refl, arith}
use Rattle.access_rules.proofs.Common.{pieces_of}
use Rattle.access_rules.{proofs.Overlays.laid_over, proofs.Ranges.IsPart, proofs.Writings.AllFitIn}

-- ## Three bytes from place 6 on

fit_two : AllFitIn 2 (pieces_of 6 3) (1 ∷ 2 ∷ 3 ∷ [])
fit_two = (omega arith, omega arith, omega arith, (omega arith, omega arith, omega arith, tt))

-- the second word is not there
not_one : AllFitIn 1 (pieces_of 6 3) (1 ∷ 2 ∷ 3 ∷ []) → ⊥
not_one f = absurd (let second : 1 < 1 = f.3.0 in omega arith)

-- ## A range of 40 bytes

two_parts : IsPart 40 (record { at = 0; size = 32 }) × IsPart 40 (record { at = 32; size = 8 })
two_parts = (record { some = omega arith; small = omega arith; within = omega arith }, record { some = omega arith; small = omega arith; within = omega arith })

-- one access has at most 32 bytes
not_whole : IsPart 40 (record { at = 0; size = 40 }) → ⊥
not_whole p = (let small = p.small in absurd (omega arith))

-- ## A memory of two words that has what the log has

laid : laid_over 2 (record { word = 1; value = 7 } ∷ []) ≡ 0 ∷ 7 ∷ []
laid = refl

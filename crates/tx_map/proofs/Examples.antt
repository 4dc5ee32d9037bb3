-- Worked cases.
use Rattle.std.proofs.Common.{◌≡◌, ℕ, ◌+◌, ◌*◌, ◌^◌, List, [], ◌∷◌, ap, refl, arith}
use Rattle.tx_map.proofs.Common.{Holds, Passes, slot_of, slots_in, to_le_bytes, w64, with_slice}
use Rattle.tx_map.proofs.Finds.{walks_none, walks_on}

-- key 6 in three slots is looked for at 0, then at 1 and 2
homes : slot_of 3 6 0 ∷ slot_of 3 6 1 ∷ slot_of 3 6 2 ∷ [] ≡ 0 ∷ 1 ∷ 2 ∷ []
homes = refl

-- and key 5 at 2, then at 0 and 1
wraps : slot_of 3 5 0 ∷ slot_of 3 5 1 ∷ slot_of 3 5 2 ∷ [] ≡ 2 ∷ 0 ∷ 1 ∷ []
wraps = refl

-- a word of another cell, and two slots: key 6 with 7 and a free one
bytes : List ℕ
bytes = 1 ∷ 1 ∷ 1 ∷ 1 ∷ 1 ∷ 1 ∷ 1 ∷ 1 ∷ 6 ∷ 0 ∷ 0 ∷ 0 ∷ 7 ∷ 0 ∷ 0 ∷ 0 ∷ 0 ∷ 0 ∷ 0 ∷ 0 ∷ 0 ∷ 0 ∷ 0 ∷ 0 ∷ []

first_slot : slots_in bytes 8 0 ≡ (6, 7)
unfolding bytes
first_slot = refl

free_slot : slots_in bytes 8 1 ≡ (0, 0)
unfolding bytes
free_slot = refl

six : Holds 2 (slots_in bytes 8) 6 7
six = record { at = 0; within = omega arith; key_is = ap (λ (x : ℕ × ℕ). x.0) first_slot; value_is = ap (λ (x : ℕ × ℕ). x.1) first_slot }

-- key 8 has the same home, passes key 6 there, and goes into the slot behind it
shared_home : slot_of 2 8 0 ∷ slot_of 2 8 1 ∷ [] ≡ 0 ∷ 1 ∷ []
shared_home = refl

passes_six : Passes 2 (slots_in bytes 8) 8 1
passes_six = (walks_on 8 2 8 0 (6, 7) (λ e. omega (arith, e)) (λ e. omega (arith, e)) bytes bytes bytes (walks_none 8 2 8 bytes) (record { same = refl; pair_is = first_slot })).passes

bytes_then : List ℕ
bytes_then = with_slice bytes 16 (to_le_bytes w64 (8 + 2 ^ 32 * 9))

eight_put : slots_in bytes_then 8 1 ≡ (8, 9)
unfolding bytes_then bytes
eight_put = refl

six_kept : slots_in bytes_then 8 0 ≡ (6, 7)
unfolding bytes_then bytes
six_kept = refl

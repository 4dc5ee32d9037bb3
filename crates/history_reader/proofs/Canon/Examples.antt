-- Worked canonical calls and attempts, by computation.
use Rattle.std.proofs.Common.{◌≡◌, ℕ, List, [], ◌∷◌, false, refl}
use Rattle.history_reader.proofs.Common.{Attempt, Begin, CallRecord, Commit, Committed, Done, Fill, Mode, Props, canonical_attempt, canonical_call}
use Rattle.itm_types.specs.declared.access.WriteHint.TheVariants.{W}

abbrev plain : Props
plain = record { no_abort = false; no_irrevocable = false; goes_irrevocable = false }

room_of_a_begin : canonical_call (Begin plain 5) ≡ Begin plain 0
room_of_a_begin = refl

room_of_a_mode : canonical_call (Mode 3) ≡ Mode 0
room_of_a_mode = refl

low_bits_of_a_fill : canonical_call (Fill W 8 263 1) ≡ Fill W 8 7 1
low_bits_of_a_fill = refl

byte_of_a_fill : canonical_call (Fill W 0 255 2) ≡ Fill W 0 255 2
byte_of_a_fill = refl

-- an attempt that began when two had committed, with these calls
abbrev tried : ℕ → List CallRecord → Attempt
tried began calls = record { thread = 1; nth = 2; began = began; at = 3; props = plain; arena = []; calls = record { list = calls; room = 0 }; restarts = []; ran = []; outcome = Committed }

begin_of_an_attempt : canonical_attempt (tried 2 (record { call = Fill W 8 263 1; reply = Done } ∷ record { call = Commit; reply = Done } ∷ []))
    ≡ tried 0 (record { call = Fill W 8 7 1; reply = Done } ∷ record { call = Commit; reply = Done } ∷ [])
begin_of_an_attempt = refl

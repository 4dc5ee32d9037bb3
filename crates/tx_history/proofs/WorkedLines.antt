-- Worked copies and fills with their lines, by computation.
use Rattle.std.proofs.Common.{◌≡◌, List, ℕ, [], ◌∷◌, ◌++◌, refl, arith, false, true, codes, decimal}
use Rattle.tx_history.proofs.Common.{Copy, Fill, Outside, Overlap, W, WaR, body_text, call_line, copy_text, decimal_digit, decimal_step, fill_text, reply_text}
use Rattle.itm_types.specs.declared.copy.CopyPair.TheVariants.{In, Out, Within}
use Rattle.itm_types.specs.declared.call.Reply.TheVariants.{Done, Refused}
use Rattle.itm_types.specs.declared.copy.SharedSide.TheVariants.{T, TaR, TaW}

abbrev pub line : List ℕ → List ℕ
line t = t ++ 10 ∷ []

-- the destination stands before the source

overlapping_copy : call_line (record { call = Copy (record { moves = false; pair = Within T T; to = 3; from = 0; size = 4 }); reply = Refused Overlap })
    ≡ line (codes "call _ITM_memcpyRtWt 3 0 4 = refused 4")
unfolding call_line body_text copy_text reply_text
overlapping_copy = rw (decimal_digit 0 (omega arith), decimal_digit 3 (omega arith), decimal_digit 4 (omega arith)) refl

move_of_read_bytes : call_line (record { call = Copy (record { moves = true; pair = Within TaR TaW; to = 1; from = 2; size = 0 }); reply = Done })
    ≡ line (codes "call _ITM_memmoveRtaRWtaW 1 2 0 = ok")
unfolding call_line body_text copy_text reply_text
move_of_read_bytes = rw (decimal_digit 0 (omega arith), decimal_digit 1 (omega arith), decimal_digit 2 (omega arith)) refl

copy_to_the_arena : call_line (record { call = Copy (record { moves = false; pair = In T; to = 0; from = 2; size = 4 }); reply = Done })
    ≡ line (codes "call _ITM_memcpyRtWn 0 2 4 = ok")
unfolding call_line body_text copy_text reply_text
copy_to_the_arena = rw (decimal_digit 0 (omega arith), decimal_digit 2 (omega arith), decimal_digit 4 (omega arith)) refl

copy_from_the_arena : call_line (record { call = Copy (record { moves = false; pair = Out T; to = 6; from = 1; size = 2 }); reply = Done })
    ≡ line (codes "call _ITM_memcpyRnWt 6 1 2 = ok")
unfolding call_line body_text copy_text reply_text
copy_from_the_arena = rw (decimal_digit 1 (omega arith), decimal_digit 2 (omega arith), decimal_digit 6 (omega arith)) refl

-- of a fill's byte its low 8 bits stand there

byte_text : decimal 255 ≡ codes "255"
byte_text = rw (decimal_step 255 (omega arith) (omega arith), decimal_step 25 (omega arith) (omega arith), decimal_digit 2 (omega arith)) refl

fill_of_ones : call_line (record { call = Fill W 0 255 2; reply = Done }) ≡ line (codes "call _ITM_memsetW 0 255 2 = ok")
unfolding call_line body_text fill_text reply_text
fill_of_ones = rw (byte_text, decimal_digit 0 (omega arith), decimal_digit 2 (omega arith)) refl

fill_of_more_bits : call_line (record { call = Fill WaR 8 263 1; reply = Refused Outside }) ≡ line (codes "call _ITM_memsetWaR 8 7 1 = refused 1")
unfolding call_line body_text fill_text reply_text
fill_of_more_bits = rw (decimal_digit 1 (omega arith), decimal_digit 7 (omega arith), decimal_digit 8 (omega arith)) refl

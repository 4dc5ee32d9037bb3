-- Worked calls that fit their types and their limits, and some that do not.
use Rattle.std.proofs.Common.{inl, inr, refl, arith, lit<}
use Rattle.tx_history.proofs.Common.{CallFits, Fill, HasArenaWidth, Load, Read, W}
use Rattle.itm_types.specs.declared.access.ReadHint.TheVariants.{R}
use Rattle.itm_types.specs.declared.access.Width.TheVariants.{U1, U8, M256}

last_word : CallFits (Read R U1 18446744073709551615)
last_word = lit< tt

past_the_last_word : CallFits (Read R U1 18446744073709551616) → ⊥
past_the_last_word h = omega arith

-- of a fill the text tells the low bits of its byte alone
any_byte : CallFits (Fill W 0 18446744073709551616 8)
any_byte = (lit< tt, lit< tt)

word_of_the_arena : HasArenaWidth (Load U8 0)
word_of_the_arena = inr (inr (inr refl))

too_wide_for_the_arena : HasArenaWidth (Load M256 0) → ⊥
too_wide_for_the_arena (inl e) = cc
too_wide_for_the_arena (inr (inl e)) = cc
too_wide_for_the_arena (inr (inr (inl e))) = cc
too_wide_for_the_arena (inr (inr (inr e))) = cc

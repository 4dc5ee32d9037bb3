-- Schedules of programs, and what is said of threads, by computation.
use Rattle.std.proofs.Common.{◌≡◌, [], ◌∷◌, ◌++◌, true, false, None, Some, refl, arith, codes}
use Rattle.run_commands.proofs.Common.{Finished, GaveUp, NoMemory, Out, Take, codes_of, counter_code, decimal_digit, ending_line, ending_lines, fell_short, line, list_any, listing, lost_update, opening, players_of, schedule_of, thread_line}

-- ## Schedules

two_players : players_of lost_update ≡ opening lost_update.limits.depth counter_code ∷ opening lost_update.limits.depth counter_code ∷ []
unfolding codes_of
two_players = refl

given_schedule : schedule_of lost_update ≡ Take 0 3 ∷ Take 1 6 ∷ Out 0 ∷ []
given_schedule = refl

each_in_turn : schedule_of (listing 8 3 counter_code) ≡ Out 0 ∷ Out 1 ∷ Out 2 ∷ []
unfolding codes_of
each_in_turn = refl

-- ## Lines on threads

two_lines : ending_lines 0 (Some GaveUp ∷ Some Finished ∷ None ∷ Some NoMemory ∷ []) ≡ line (codes "itmrun: thread 0 gave up") ++ line (codes "itmrun: thread 3 found no memory")
unfolding ending_line thread_line
two_lines = rw (decimal_digit 0 (omega arith), decimal_digit 3 (omega arith)) refl

one_short : list_any fell_short (None ∷ Some Finished ∷ Some NoMemory ∷ []) ≡ true
one_short = refl

none_short : list_any fell_short (None ∷ Some Finished ∷ []) ≡ false
none_short = refl

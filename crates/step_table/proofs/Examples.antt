-- Lines of the table of two threads that add one to a word, of which the second gets in between.
use Rattle.std.proofs.Common.{◌≡◌, ℕ, List, [], ◌∷◌, refl, codes}
use Rattle.step_table.proofs.Common.{Event, Step, back_text, cell_of, cell_text, column_text, event_text, exchange_text, front_text, number_text, step_text}
use Rattle.std.specs.Fmt.{digits}
use Rattle.itm_types.specs.declared.step.Step.TheVariants.{Load, Store, Cas}
use Rattle.tx_attempts.specs.declared.attempt.Outcome.TheVariants.{Committed, Conflict}
use Rattle.step_table.specs.Came.{conflict_text, end_text}

abbrev event_of : ℕ → ℕ → Step → ℕ → ℕ → Event
event_of number thread step found clock = record { number = number; thread = thread; operation = record { step = step; found = found }; clock = clock }

abbrev both : List ℕ
both = 0 ∷ 1 ∷ []

reads : event_text both (event_of 2 0 (Load 1) 0 0) [] ≡ codes "    2  [0] = 0                    |                            |     0\n"
unfolding back_text cell_of cell_text column_text event_text front_text number_text step_text digits
reads = refl

takes : event_text both (event_of 7 1 (Cas 0 0 1) 0 1) [] ≡ codes "    7                             | take 0                     |     1\n"
unfolding back_text cell_of column_text event_text exchange_text front_text number_text step_text digits
takes = refl

frees : event_text both (event_of 9 1 (Store 0 2) 0 2) (codes " | committed at 0") ≡ codes "    9                             | clock := 2                 |     2 | committed at 0\n"
unfolding back_text cell_of cell_text column_text event_text front_text number_text step_text digits
frees = refl

loses : event_text both (event_of 10 0 (Cas 0 0 1) 2 2) [] ≡ codes "   10  take 0: finds 2            |                            |     2\n"
unfolding back_text cell_of column_text event_text exchange_text front_text number_text step_text digits
loses = refl

-- of the second thread alone, in a column that is not wide enough
overflows : event_text (1 ∷ []) (event_of 8 1 (Store 1000 18446744073709551615) 0 1) [] ≡ codes "    8  [7992] := 18446744073709551615 |     1\n"
unfolding back_text cell_of cell_text column_text event_text front_text number_text step_text digits
overflows = refl

-- ## What came of it

commits : end_text (Store 0 4) 1 Committed ≡ codes "committed at 1"
unfolding digits end_text
commits = refl

differs : end_text (Load 3) 0 Conflict ≡ codes "conflict at [16]"
unfolding conflict_text end_text digits
differs = refl

-- a round more than may be
tires : end_text (Load 0) 0 Conflict ≡ codes "conflict"
unfolding conflict_text end_text digits
tires = refl

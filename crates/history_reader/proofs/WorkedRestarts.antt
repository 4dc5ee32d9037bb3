-- Worked lines of blocks that ran again, and of versions, as they are read, by computation.
use Rattle.std.proofs.Common.{◌≡◌, [], ◌∷◌, false, Ok, Err, refl, codes}
use Rattle.history_reader.proofs.Common.{Abort, Begin, Code, Commit, Done, Head, One, Props, Ran, ReadOnly, Refused, State, TooDeep, Two, again_or_later, behind_call, call_or_later, initial, later_line, meaning, placed, restart_bytes, with_undone}
use Rattle.itm_types.specs.declared.call.ActionKind.TheVariants.{Undo}
use Rattle.script_fields.specs.declared.fault.FaultKind.TheVariants as operands
use Rattle.history_reader.specs.declared.fault.ReadKind.TheVariants as kinds
use Rattle.history_reader.specs.declared.state.Behind.TheVariants as behinds
use Rattle.history_reader.specs.declared.state.Place.TheVariants as places

abbrev plain : Props
plain = record { no_abort = false; no_irrevocable = false; goes_irrevocable = false }

-- ## What may stand behind a call

behind_a_begin : behind_call Two (record { call = Begin plain 0; reply = Code 5 }) ≡ behinds.Begin
behind_a_begin = refl

behind_another_code : behind_call Two (record { call = Begin plain 0; reply = Code 9 }) ≡ behinds.Call
behind_another_code = refl

behind_a_refusal : behind_call Two (record { call = Begin plain 0; reply = Refused TooDeep }) ≡ behinds.Call
behind_a_refusal = refl

behind_an_abort : behind_call Two (record { call = Abort false; reply = Code 24 }) ≡ behinds.Call
behind_an_abort = refl

behind_a_commit : behind_call Two (record { call = Commit; reply = Done }) ≡ behinds.Call
behind_a_commit = refl

in_the_first_version : behind_call One (record { call = Begin plain 0; reply = Code 5 }) ≡ behinds.Call
in_the_first_version = refl

-- ## Lines

abbrev head : Head
head = record { thread = 0; nth = 1; at = 1; outcome = ReadOnly; props = plain }

-- an action is of the last block that ran again
abbrev action : Ran
action = record { kind = Undo; action = record { fun = 1; arg = 0 } }

of_the_last : with_undone (record { kept = 1; arena = []; undone = [] } ∷ record { kept = 2; arena = []; undone = [] } ∷ []) action
    ≡ record { kept = 1; arena = []; undone = [] } ∷ record { kept = 2; arena = []; undone = action ∷ [] } ∷ []
of_the_last = refl

-- a second restart line, and an action without one, are bad lines
again_twice : (s : State) → placed (places.InCalls head behinds.Restart) s (codes "restart") (codes "-" ∷ []) ≡ Err operands.Operand
unfolding placed call_or_later again_or_later later_line
again_twice s = refl

undone_alone : (s : State) → placed (places.InCalls head behinds.Begin) s (codes "undone") (codes "1" ∷ codes "0" ∷ []) ≡ Err operands.Operand
unfolding placed call_or_later again_or_later later_line
undone_alone s = refl

-- ## Arenas

no_bytes : restart_bytes 0 (codes "-") ≡ Ok []
unfolding restart_bytes
no_bytes = refl

no_bytes_for_two : restart_bytes 2 (codes "-") ≡ Err operands.Range
unfolding restart_bytes
no_bytes_for_two = refl

-- ## First lines

second_version : meaning initial (codes "itm-history 2") ≡ Ok (record initial { place = places.AtMemory; version = Two })
unfolding meaning
second_version = refl

third_version : meaning initial (codes "itm-history 3") ≡ Ok (record initial { place = places.AtDepth })
unfolding meaning
third_version = refl

no_fourth : meaning initial (codes "itm-history 4") ≡ Err kinds.Header
unfolding meaning
no_fourth = refl

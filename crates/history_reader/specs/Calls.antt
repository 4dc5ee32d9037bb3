-- The line of a call: an entry point or an access of the arena, its operands, and its reply.
use Rattle.std.specs.Prelude.{ℕ, Bool, List, [], ◌∷◌, Option, Some, None, Result, Ok, codes}
use Rattle.itm_entries.specs.Entries.{entry_of}
use Rattle.itm_types.specs.declared.access.Width.{Width}
use Rattle.itm_types.specs.declared.access.Width.TheVariants.{U1, U2, U4, U8}
use Rattle.itm_types.specs.declared.call.Call.TheVariants as calls
use Rattle.itm_types.specs.declared.call.Props.{Props}
use Rattle.itm_types.specs.declared.call.Reply.{Reply}
use Rattle.itm_types.specs.declared.datum.Datum.{Datum}
use Rattle.itm_entries.specs.declared.entry.Control.{Control}
use Rattle.itm_entries.specs.declared.entry.Control.TheVariants as controls
use Rattle.itm_entries.specs.declared.entry.Entry.{Entry as Point}
use Rattle.itm_entries.specs.declared.entry.Entry.TheVariants as points
use Rattle.script_fields.specs.declared.fault.FaultKind.{FaultKind}
use Rattle.script_fields.specs.Names.{lookup}
use Rattle.script_fields.specs.Operands.{◌>>=◌, both, or_operand, number, function, scope, mode, no_transaction}
use Rattle.tx_attempts.specs.declared.attempt.CallRecord.{CallRecord}
use Rattle.history_reader.specs.declared.reply.ReplyKind.{ReplyKind}
use Rattle.history_reader.specs.declared.reply.ReplyKind.TheVariants as answers
use Rattle.history_reader.specs.declared.verb.Verb.{Verb}
use Rattle.history_reader.specs.declared.verb.Verb.TheVariants as verbs
use Rattle.history_reader.specs.Fields.{next, next_three}
use Rattle.history_reader.specs.Numbers.{byte}
use Rattle.history_reader.specs.Words.{block_props}
use Rattle.history_reader.specs.Digits.{datum}
use Rattle.history_reader.specs.Replies.{with_reply}

-- ## What is called

-- the accesses of the arena, by name
abbrev pub access_names : List (List ℕ × Verb)
access_names =
    (codes "ld1", verbs.Load U1)
    ∷ (codes "ld2", verbs.Load U2)
    ∷ (codes "ld4", verbs.Load U4)
    ∷ (codes "ld8", verbs.Load U8)
    ∷ (codes "st1", verbs.Save U1)
    ∷ (codes "st2", verbs.Save U2)
    ∷ (codes "st4", verbs.Save U4)
    ∷ (codes "st8", verbs.Save U8)
    ∷ []

abbrev pub point_verb : Option Point → Option Verb
point_verb None = None
point_verb (Some e) = Some (verbs.Point e)

abbrev pub or_point : Option Verb → List ℕ → Option Verb
or_point (Some verb) f = Some verb
or_point None f = point_verb (entry_of f)

-- an access of the arena, or the entry point of this name
unfoldable pub verb_of : List ℕ → Option Verb
verb_of f = or_point (lookup access_names f) f

-- ## Operands, and the reply behind them

-- so many operands, each read in its way
abbrev pub one_operand : {A : Type 0} → (List ℕ → Result A FaultKind) → ReplyKind → List (List ℕ) → Result (A × Reply) FaultKind
one_operand read answer fs = next fs >>= λ x. with_reply (read x.0) answer x.1

abbrev pub two_operands : {A B : Type 0} → (List ℕ → Result A FaultKind) → (List ℕ → Result B FaultKind) → ReplyKind → List (List ℕ) → Result ((A × B) × Reply) FaultKind
two_operands first second answer fs = next fs >>= λ x. next x.1 >>= λ y. with_reply (both (first x.0) (second y.0)) answer y.1

abbrev pub three_operands : {A B C : Type 0} → (List ℕ → Result A FaultKind) → (List ℕ → Result B FaultKind) → (List ℕ → Result C FaultKind) → ReplyKind → List (List ℕ)
    → Result ((A × (B × C)) × Reply) FaultKind
three_operands first second third answer fs =
    next_three fs >>= λ x. with_reply (both (first x.0) (both (second x.1) (third x.2))) answer x.3

unfoldable pub no_operand : ReplyKind → List (List ℕ) → Result (Unit {0} × Reply) FaultKind
no_operand answer fs = with_reply (Ok tt) answer fs

unfoldable pub begin_operand : List (List ℕ) → Result (Props × Reply) FaultKind
begin_operand fs = one_operand block_props answers.Code fs

unfoldable pub abort_operand : List (List ℕ) → Result (Bool × Reply) FaultKind
abort_operand fs = one_operand scope answers.Code fs

unfoldable pub mode_operand : List (List ℕ) → Result (Unit {0} × Reply) FaultKind
mode_operand fs = one_operand mode answers.Done fs

unfoldable pub place_operand : ReplyKind → List (List ℕ) → Result (ℕ × Reply) FaultKind
place_operand answer fs = one_operand number answer fs

unfoldable pub place_size : List (List ℕ) → Result ((ℕ × ℕ) × Reply) FaultKind
place_size fs = two_operands number number answers.Done fs

unfoldable pub place_datum : Width → List (List ℕ) → Result ((ℕ × Datum) × Reply) FaultKind
place_datum width fs = two_operands number (datum width) answers.Done fs

unfoldable pub undo_action : List (List ℕ) → Result ((ℕ × ℕ) × Reply) FaultKind
undo_action fs = two_operands function number answers.Done fs

unfoldable pub commit_action : List (List ℕ) → Result ((ℕ × (Unit {0} × ℕ)) × Reply) FaultKind
commit_action fs = three_operands function no_transaction number answers.Done fs

unfoldable pub copy_operands : List (List ℕ) → Result ((ℕ × (ℕ × ℕ)) × Reply) FaultKind
copy_operands fs = three_operands number number number answers.Done fs

unfoldable pub fill_operands : List (List ℕ) → Result ((ℕ × (ℕ × ℕ)) × Reply) FaultKind
fill_operands fs = three_operands number byte number answers.Done fs

-- ## Calls

-- blocks, modes and actions
unfoldable pub control_call : Control → List (List ℕ) → Result CallRecord FaultKind
control_call controls.BeginTransaction fs = begin_operand fs >>= λ x. Ok (record { call = calls.Begin x.0 0; reply = x.1 })
control_call controls.CommitTransaction fs = no_operand answers.Done fs >>= λ x. Ok (record { call = calls.Commit; reply = x.1 })
control_call controls.AbortTransaction fs = abort_operand fs >>= λ x. Ok (record { call = calls.Abort x.0; reply = x.1 })
control_call controls.ChangeTransactionMode fs = mode_operand fs >>= λ x. Ok (record { call = calls.Mode 0; reply = x.1 })
control_call controls.InTransaction fs = no_operand answers.Code fs >>= λ x. Ok (record { call = calls.InTransaction; reply = x.1 })
control_call controls.AddUserCommitAction fs =
    commit_action fs >>= λ x. Ok (record { call = calls.CommitAction (record { fun = x.0.0; arg = x.0.1.1 }); reply = x.1 })
control_call controls.AddUserUndoAction fs =
    undo_action fs >>= λ x. Ok (record { call = calls.UndoAction (record { fun = x.0.0; arg = x.0.1 }); reply = x.1 })

-- the call of an entry point
unfoldable pub point_call : Point → List (List ℕ) → Result CallRecord FaultKind
point_call (points.Control control) fs = control_call control fs
point_call (points.Read hint width) fs = place_operand (answers.Bytes width) fs >>= λ x. Ok (record { call = calls.Read hint width x.0; reply = x.1 })
point_call (points.Write hint width) fs = place_datum width fs >>= λ x. Ok (record { call = calls.Write hint x.0.0 x.0.1; reply = x.1 })
point_call (points.Log width) fs = place_operand answers.Done fs >>= λ x. Ok (record { call = calls.Log width x.0; reply = x.1 })
point_call points.LogBytes fs = place_size fs >>= λ x. Ok (record { call = calls.LogBytes x.0.0 x.0.1; reply = x.1 })
point_call (points.Copy moves pair) fs =
    copy_operands fs >>= λ x. Ok (record { call = calls.Copy (record { moves = moves; pair = pair; to = x.0.0; from = x.0.1.0; size = x.0.1.1 }); reply = x.1 })
point_call (points.Fill hint) fs = fill_operands fs >>= λ x. Ok (record { call = calls.Fill hint x.0.0 x.0.1.0 x.0.1.1; reply = x.1 })

unfoldable pub verb_call : Verb → List (List ℕ) → Result CallRecord FaultKind
verb_call (verbs.Point point) fs = point_call point fs
verb_call (verbs.Load width) fs = place_operand (answers.Bytes width) fs >>= λ x. Ok (record { call = calls.Load width x.0; reply = x.1 })
verb_call (verbs.Save width) fs = place_datum width fs >>= λ x. Ok (record { call = calls.Save x.0.0 x.0.1; reply = x.1 })

-- a call and its reply
unfoldable pub call_of : List (List ℕ) → Result CallRecord FaultKind
call_of fs = next fs >>= λ x. or_operand (verb_of x.0) >>= λ verb. verb_call verb x.1

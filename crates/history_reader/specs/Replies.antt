-- Replies: of which kind a call's reply is, and the fields that tell it.
use Rattle.std.specs.Prelude.{ℕ, ◌==◌, Bool, false, List, Result, Ok, if◌then◌else◌, codes, bytes_eq}
use Rattle.itm_types.specs.Access.{size_of}
use Rattle.itm_types.specs.declared.call.Refusal.{Refusal}
use Rattle.itm_types.specs.declared.call.Refusal.TheVariants as refusals
use Rattle.itm_types.specs.declared.call.Reply.{Reply}
use Rattle.itm_types.specs.declared.call.Reply.TheVariants as replies
use Rattle.script_fields.specs.declared.fault.FaultKind.{FaultKind}
use Rattle.script_fields.specs.Operands.{◌>>=◌, both, exactly}
use Rattle.history_reader.specs.declared.reply.ReplyKind.{ReplyKind}
use Rattle.history_reader.specs.declared.reply.ReplyKind.TheVariants as answers
use Rattle.history_reader.specs.Fields.{next, none, one, equals}
use Rattle.history_reader.specs.Numbers.{ranged, byte}
use Rattle.history_reader.specs.Digits.{sized}

-- the refusal of a number from 1 to 8
unfoldable pub refusal_of : ℕ → Refusal
refusal_of n =
    if n == 1 then refusals.Outside
    else if n == 2 then refusals.OutOfRange
    else if n == 3 then refusals.OutOfArena
    else if n == 4 then refusals.Overlap
    else if n == 5 then refusals.NoAbort
    else if n == 6 then refusals.IsIrrevocable
    else if n == 7 then refusals.NoIrrevocable
    else refusals.TooDeep

-- why a call is refused
unfoldable pub refused : List (List ℕ) → Result Reply FaultKind
refused fs = one fs >>= λ f. ranged 1 8 f >>= λ n. Ok (replies.Refused (refusal_of n))

-- a reply of the kind that the call has, told from its first field on
unfoldable pub accepted : ReplyKind → List ℕ → List (List ℕ) → Result Reply FaultKind
accepted answers.Done f fs = exactly (codes "ok") f >>= λ _. none fs >>= λ _. Ok replies.Done
accepted answers.Code f fs = exactly (codes "code") f >>= λ _. one fs >>= λ n. byte n >>= λ c. Ok (replies.Code c)
accepted (answers.Bytes width) f fs = none fs >>= λ _. sized (size_of width) f >>= λ bytes. Ok (replies.Bytes (record { items = bytes }))

-- the reply of a call: any may be refused
unfoldable pub reply_of : ReplyKind → List (List ℕ) → Result Reply FaultKind
reply_of answer fs = next fs >>= λ x. if bytes_eq x.0 (codes "refused") then refused x.1 else accepted answer x.0 x.1

-- operands, and the reply that stands behind them
abbrev pub with_reply : {A : Type 0} → Result A FaultKind → ReplyKind → List (List ℕ) → Result (A × Reply) FaultKind
with_reply operands answer fs = equals fs >>= λ rest. both operands (reply_of answer rest)

-- the answer of the begin of a block that is entered
abbrev pub is_five : Reply → Bool
is_five replies.Done = false
is_five (replies.Bytes value) = false
is_five (replies.Code n) = n == 5
is_five (replies.Refused refusal) = false

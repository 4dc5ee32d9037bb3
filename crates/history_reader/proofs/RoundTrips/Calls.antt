-- A call that is spelled, with its reply, is read again.
use Rattle.std.proofs.Common.{◌≡◌, ℕ, ◌%◌, ◌≤◌, Bool, cond, List, [], ◌∷◌, ◌++◌, Option, Result, Ok, refl, sym, ap, ◌∙◌, arith, decimal, codes}
use Rattle.history_reader.proofs.Common.{FaultKind, Call, CallRecord, IsCall, IsEntry, IsReply, Refusal, Reply, ReplyKind, Verb, Width, abort_operand, accepted, answer_to, begin_operand, byte, call_of, commit_action, control_call, copy_operands, encode_lower, equals, fill_operands, function_again, mode_again, mode_operand, next, next_three, no_operand, no_transaction_again, none, number_again, number_of, one, operands_of, or_operand, place_datum, place_operand, place_size, point_call, refusal_of, refused, reply_fields, reply_of, rest_of, scope_again, size_of, undo_action, verb_call, verb_in, verb_text, ◌>>=◌}
use Rattle.itm_types.specs.declared.call.Call.TheVariants as calls
use Rattle.itm_types.specs.declared.call.Reply.TheVariants as replies
use Rattle.history_reader.specs.declared.reply.ReplyKind.TheVariants as answers
use Rattle.history_reader.proofs.RoundTrips.Fields.{ranged_again, sized_again, no_digits, some_bytes, datum_again, block_props_again, refusal_number, refusal_again, IsCalled, verb_again}

-- ## Replies

-- a refusal is read again, whatever the call
refused_again : (answer : ReplyKind) (r : Refusal) → reply_of answer (codes "refused" ∷ decimal (number_of r) ∷ []) ≡ Ok (replies.Refused r)
unfolding reply_of refused next none one
refused_again answer r =
    let small = refusal_number r in
    ap (λ (q : Result ℕ FaultKind). q >>= λ n. Ok (replies.Refused (refusal_of n))) (ranged_again 1 8 (number_of r) small.0 small.1 (omega arith))
    ∙ ap (λ (x : Refusal). Ok (replies.Refused x)) (refusal_again r)

-- bytes are read again
value_again : (width : Width) (bytes : List ℕ) → IsReply (answers.Bytes width) (replies.Bytes (record { items = bytes }))
    → reply_of (answers.Bytes width) (encode_lower bytes ∷ []) ≡ Ok (replies.Bytes (record { items = bytes }))
unfolding reply_of accepted next none
value_again width bytes h =
    ap (λ (t : Bool). cond t (refused []) (accepted (answers.Bytes width) (encode_lower bytes) [])) (no_digits bytes (codes "refused") refl)
    ∙ ap (λ (q : Result (List ℕ) FaultKind). q >>= λ bs. Ok (replies.Bytes (record { items = bs }))) (sized_again (size_of width) bytes h.0 (some_bytes width) h.1)

-- a reply of the kind that the call has, or a refusal, is read again
reply_again : (answer : ReplyKind) (r : Reply) → IsReply answer r → reply_of answer (reply_fields r) ≡ Ok r
unfolding reply_of accepted next none one
reply_again answer (replies.Refused r) h = refused_again answer r
reply_again answers.Done replies.Done h = refl
reply_again answers.Code (replies.Code n) h = ap (λ (q : Result ℕ FaultKind). q >>= λ c. Ok (replies.Code c)) (ranged_again 0 255 n (omega arith) h (omega (arith, h)))
reply_again (answers.Bytes width) (replies.Bytes value) h = value_again width value.items h
reply_again answer r h = absurd h

-- ## Calls

-- a byte is read as it was
byte_again : (n : ℕ) → n ≤ 255 → byte (decimal (n % 256)) ≡ Ok n
byte_again n h =
    let same : n % 256 ≡ n = omega arith in
    ap (λ (m : ℕ). byte (decimal m)) same ∙ ranged_again 0 255 n (omega arith) h (omega arith)

-- the fields behind the name of a call
abbrev behind : Call → Reply → List (List ℕ)
behind c r = operands_of c ++ codes "=" ∷ reply_fields r

-- a call with its reply
abbrev replied : Call → Reply → CallRecord
replied c r = record { call = c; reply = r }

-- the fields behind the name of a call are read as the call and its reply
behind_again : (c : Call) (r : Reply) → IsCall c → IsReply (answer_to c) r → verb_call (verb_in c) (behind c r) ≡ Ok (replied c r)
unfolding verb_call point_call control_call no_operand begin_operand abort_operand mode_operand place_operand place_size place_datum undo_action commit_action copy_operands fill_operands equals next next_three
behind_again (calls.Begin props room) r c h = rw (block_props_again props, reply_again answers.Code r h) (ap (λ (n : ℕ). Ok (replied (calls.Begin props n) r)) (sym c))
behind_again calls.Commit r c h = rw (reply_again answers.Done r h) refl
behind_again (calls.Abort outer) r c h = rw (scope_again outer, reply_again answers.Code r h) refl
behind_again (calls.Mode room) r c h = rw (mode_again, reply_again answers.Done r h) (ap (λ (n : ℕ). Ok (replied (calls.Mode n) r)) (sym c))
behind_again calls.InTransaction r c h = rw (reply_again answers.Code r h) refl
behind_again (calls.Read hint width at) r c h = rw (number_again at c, reply_again (answers.Bytes width) r h) refl
behind_again (calls.Write hint at value) r c h = rw (number_again at c.0, datum_again value c.1, reply_again answers.Done r h) refl
behind_again (calls.Log width at) r c h = rw (number_again at c, reply_again answers.Done r h) refl
behind_again (calls.LogBytes at size) r c h = rw (number_again at c.0, number_again size c.1, reply_again answers.Done r h) refl
behind_again (calls.Copy copy) r c h = rw (number_again copy.to c.0, number_again copy.from c.1, number_again copy.size c.2, reply_again answers.Done r h) refl
behind_again (calls.Fill hint to byte_said size) r c h = rw (number_again to c.0, byte_again byte_said c.1, number_again size c.2, reply_again answers.Done r h) refl
behind_again (calls.CommitAction action) r c h = rw (function_again action.fun (omega (arith, c.0)), no_transaction_again, number_again action.arg c.1, reply_again answers.Done r h) refl
behind_again (calls.UndoAction action) r c h = rw (function_again action.fun (omega (arith, c.0)), number_again action.arg c.1, reply_again answers.Done r h) refl
behind_again (calls.Load width at) r c h = rw (number_again at c.1, reply_again (answers.Bytes width) r h) refl
behind_again (calls.Save at value) r c h = rw (number_again at c.1, datum_again value c.2, reply_again answers.Done r h) refl

-- ## Names

-- a call that a text can tell is called by a name
pub called : (c : Call) → IsCall c → IsCalled (verb_in c)
called (calls.Load width at) h = h.0
called (calls.Save at value) h = h.0
called c h = tt

-- the name of a call is read as what is called
named_again : (verb : Verb) (fs : List (List ℕ)) → IsCalled verb → call_of (verb_text verb ∷ fs) ≡ verb_call verb fs
unfolding call_of next
named_again verb fs h = ap (λ (o : Option Verb). or_operand o >>= λ v. verb_call v fs) (verb_again verb h)

-- a call with its reply is read again
pub call_again : (e : CallRecord) → IsEntry e → call_of (verb_text (verb_in e.call) ∷ rest_of e) ≡ Ok e
call_again e h = named_again (verb_in e.call) (rest_of e) (called e.call h.0) ∙ behind_again e.call e.reply h.0 h.1

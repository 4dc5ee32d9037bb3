-- What is spelled stands in fields: visible bytes, with one space between each two fields of a line.
use Rattle.std.proofs.Common.{◌≡◌, ℕ, ◌%◌, ◌<◌, ◌≤◌, Bool, true, false, cond, eqb, List, [], ◌∷◌, ◌++◌, length, All, refl, sym, ap, subst, ◌∙◌, arith, lit<, lit≤, decimal, codes, Contains}
use Rattle.history_reader.proofs.Common.{ActionKind, All-weaker, AllByRecursion, Attempt, Call, CallRecord, IsAttempt, IsBytes, IsCall, IsEntry, IsField, IsMemory, IsRan, IsReply, IsUndone, IsWord, Outcome, Point, Ran, Reply, ReplyKind, Verb, Version, all_append, and_parts, answer_to, arena_fields, arena_text, call_fields, decimal_field, depth_fields, encode_lower, entries, fields, final_fields, head_fields, hex_field, is_field_byte, is_space, joined, kind_text, leb-true, list_all, memory_fields, mode_field, name_of, ne_eqb, no_transaction_field, number_of, operands_of, outcome_name, props_field, ran_fields, reply_fields, restart_fields, scope_field, size_of, slice_split_at, slice_split_none, thread_limit, undone_fields, verb_in, verb_text}
use Rattle.std.proofs.lemmas.List.Sums.{AllPass-from_list_all}
use Rattle.itm_entries.proofs.AllEntries.{listed}
use Rattle.itm_types.specs.declared.call.ActionKind.TheVariants as when
use Rattle.itm_types.specs.declared.call.Call.TheVariants as calls
use Rattle.itm_types.specs.declared.call.Reply.TheVariants as replies
use Rattle.tx_attempts.specs.declared.attempt.Outcome.TheVariants as outcomes
use Rattle.tx_history.specs.declared.history.Version.TheVariants as versions
use Rattle.history_reader.specs.declared.reply.ReplyKind.TheVariants as answers
use Rattle.history_reader.specs.declared.verb.Verb.TheVariants as verbs
use Rattle.history_reader.proofs.RoundTrips.Fields.{some_bytes, refusal_number, IsCalled, arena_cases}
use Rattle.history_reader.proofs.RoundTrips.Calls.{called}

-- ## Fields of a line

-- each is of visible bytes
abbrev pub AreFields : List (List ℕ) → Type 0
AreFields fs = AllByRecursion IsField fs

-- a byte of a field is no space
unspaced : (b : ℕ) → is_field_byte b ≡ true → is_space b ≡ false
unspaced b h =
    let range = (and_parts _ _ h).0 in
    let low = leb-true 33 b (and_parts _ _ range).0 in
    ne_eqb b 32 (λ e. omega arith)

-- a field has no spaces
all_unspaced : (f : List ℕ) → IsField f → All (λ x. is_space x ≡ false) f
all_unspaced f h = All-weaker (λ (b : ℕ). is_field_byte b ≡ true) (λ (b : ℕ). is_space b ≡ false) unspaced f (AllPass-from_list_all is_field_byte f h.1)

-- fields with one space between each two are the fields of their line
pub fields_again : (f : List ℕ) (fs : List (List ℕ)) → AreFields (f ∷ fs) → fields (joined (f ∷ fs)) ≡ f ∷ fs
unfolding fields
fields_again f [] h = slice_split_none is_space f (all_unspaced f h.0)
fields_again f (g ∷ gs) h = slice_split_at is_space f 32 (joined (g ∷ gs)) (all_unspaced f h.0) refl ∙ ap (λ (l : List (List ℕ)). f ∷ l) (fields_again g gs h.1)

-- ## What is spelled in a field

-- the digits of some bytes are a field
bytes_field : (n : ℕ) (bytes : List ℕ) → length bytes ≡ n → 1 ≤ n → IsBytes bytes → IsField (encode_lower bytes)
bytes_field n bytes e some h = hex_field bytes h (omega arith)

-- the name of an entry point is a field
name_field : (point : Point) → IsField (name_of point)
name_field point =
    let place : Contains entries point = listed point in
    let all = AllPass-from_list_all (λ (e : Point). list_all is_field_byte (name_of e)) entries refl in
    (omega arith, subst (λ (e : Point). list_all is_field_byte (name_of e) ≡ true) place.2 (all place.0 point place.1))

-- the name of a read of the arena
load_field : (n : ℕ) → n < 10 → IsField (codes "ld" ++ decimal n)
load_field n h = (omega arith, (decimal_field n (omega arith)).1)

-- the name of a write of it
save_field : (n : ℕ) → n < 10 → IsField (codes "st" ++ decimal n)
save_field n h = (omega arith, (decimal_field n (omega arith)).1)

-- what is called is named by a field
verb_field : (verb : Verb) → IsCalled verb → IsField (verb_text verb)
verb_field (verbs.Point point) h = name_field point
verb_field (verbs.Load width) h =
    arena_cases (λ w. IsField (verb_text (verbs.Load w))) (load_field 1 (lit< tt)) (load_field 2 (lit< tt)) (load_field 4 (lit< tt)) (load_field 8 (lit< tt)) width h
verb_field (verbs.Save width) h =
    arena_cases (λ w. IsField (verb_text (verbs.Save w))) (save_field 1 (lit< tt)) (save_field 2 (lit< tt)) (save_field 4 (lit< tt)) (save_field 8 (lit< tt)) width h

-- the operands of a call are fields
operand_fields : (c : Call) → IsCall c → AreFields (operands_of c)
operand_fields (calls.Begin props room) h = (props_field props, tt)
operand_fields calls.Commit h = tt
operand_fields (calls.Abort outer) h = (scope_field outer, tt)
operand_fields (calls.Mode room) h = (mode_field, tt)
operand_fields calls.InTransaction h = tt
operand_fields (calls.Read hint width at) h = (decimal_field at h, tt)
operand_fields (calls.Write hint at value) h = (decimal_field at h.0, (bytes_field (size_of value.width) value.bytes.items value.sized (some_bytes value.width) h.1, tt))
operand_fields (calls.Log width at) h = (decimal_field at h, tt)
operand_fields (calls.LogBytes at size) h = (decimal_field at h.0, (decimal_field size h.1, tt))
operand_fields (calls.Copy copy) h = (decimal_field copy.to h.0, (decimal_field copy.from h.1, (decimal_field copy.size h.2, tt)))
operand_fields (calls.Fill hint to byte size) h = (decimal_field to h.0, (decimal_field (byte % 256) (omega arith), (decimal_field size h.2, tt)))
operand_fields (calls.CommitAction action) h = (decimal_field action.fun (omega (arith, h.0)), (no_transaction_field, (decimal_field action.arg h.1, tt)))
operand_fields (calls.UndoAction action) h = (decimal_field action.fun (omega (arith, h.0)), (decimal_field action.arg h.1, tt))
operand_fields (calls.Load width at) h = (decimal_field at h.1, tt)
operand_fields (calls.Save at value) h = (decimal_field at h.1, (bytes_field (size_of value.width) value.bytes.items value.sized (some_bytes value.width) h.2, tt))

-- those that tell a reply are fields
replied_fields : (answer : ReplyKind) (r : Reply) → IsReply answer r → AreFields (reply_fields r)
replied_fields answer (replies.Refused refusal) h = ((lit< tt, refl), (decimal_field (number_of refusal) (omega (arith, (refusal_number refusal).1)), tt))
replied_fields answers.Done replies.Done h = ((lit< tt, refl), tt)
replied_fields answers.Code (replies.Code n) h = ((lit< tt, refl), (decimal_field n (omega (arith, h)), tt))
replied_fields (answers.Bytes width) (replies.Bytes value) h = (bytes_field (size_of width) value.items h.0 (some_bytes width) h.1, tt)
replied_fields answer r h = absurd h

-- the line of a call is of fields
pub call_are : (e : CallRecord) → IsEntry e → AreFields (call_fields e)
call_are e h = (
  (lit< tt, refl),
  (
    verb_field (verb_in e.call) (called e.call h.0),
    all_append IsField (operands_of e.call) (codes "=" ∷ reply_fields e.reply) (operand_fields e.call h.0) ((lit< tt, refl), replied_fields (answer_to e.call) e.reply h.1),
  ),
)

-- when an action runs
kind_field : (k : ActionKind) → IsField (kind_text k)
kind_field when.Commit = (lit< tt, refl)
kind_field when.Undo = (lit< tt, refl)

-- the line of an action that ran is of fields
pub ran_are : (r : Ran) → IsRan r → AreFields (ran_fields r)
ran_are r h = ((lit< tt, refl), (kind_field r.kind, (decimal_field r.action.fun (omega (arith, h.0)), (decimal_field r.action.arg h.1, tt))))

-- how an attempt stands
outcome_field : (o : Outcome) → IsField (outcome_name o)
outcome_field outcomes.Full = (lit< tt, refl)
outcome_field o = (lit< tt, refl)

-- threads are few
pub few_threads : (version : Version) → thread_limit version ≤ 63
few_threads versions.One = lit≤ tt
few_threads version = lit≤ tt

-- the first line of an attempt is of fields
pub head_are : (version : Version) (a : Attempt) → IsAttempt version a → AreFields (head_fields a)
head_are version a h = (
  (lit< tt, refl),
  (
    decimal_field a.thread (omega (arith, h.thread, few_threads version)),
    (decimal_field a.nth (omega (arith, h.nth.1)), (decimal_field a.at h.at, (outcome_field a.outcome, (props_field a.props, tt)))),
  ),
)

-- the digits of an arena, or the dash
arena_field : (bytes : List ℕ) → IsBytes bytes → IsField (arena_text bytes)
arena_field [] h = (lit< tt, refl)
arena_field (b ∷ rest) h =
    let some : eqb (length (b ∷ rest)) 0 ≡ false = ne_eqb _ 0 (λ e. omega arith) in
    subst IsField (sym (ap (λ (t : Bool). cond t (codes "-") (encode_lower (b ∷ rest))) some)) (hex_field (b ∷ rest) h (omega arith))

-- the line of an arena is of fields
pub arena_are : (bytes : List ℕ) → IsBytes bytes → AreFields (arena_fields bytes)
arena_are bytes h = ((lit< tt, refl), (arena_field bytes h, tt))

-- so is that of a block that ran again
pub restart_are : (bytes : List ℕ) → IsBytes bytes → AreFields (restart_fields bytes)
restart_are bytes h = ((lit< tt, refl), (arena_field bytes h, tt))

-- and that of an action that had run in it before
pub undone_are : (r : Ran) → IsUndone r → AreFields (undone_fields r)
undone_are r h = ((lit< tt, refl), (decimal_field r.action.fun (omega (arith, h.1.0)), (decimal_field r.action.arg h.1.1, tt)))

-- the line of how many blocks may be open is of fields
pub depth_are : (blocks : ℕ) → blocks ≤ 64 → AreFields (depth_fields blocks)
depth_are blocks few = ((lit< tt, refl), (decimal_field blocks (omega (arith, few)), tt))

-- the line of the memory before the run is of fields
pub memory_are : (limit : ℕ) (bytes : List ℕ) → IsMemory limit bytes → AreFields (memory_fields bytes)
memory_are limit bytes h = ((lit< tt, refl), (hex_field bytes h.0 (omega (arith, h.1)), tt))

-- the last line is of fields
pub final_are : (clock : ℕ) (bytes : List ℕ) → IsWord clock → IsBytes bytes → 1 ≤ length bytes → AreFields (final_fields clock bytes)
final_are clock bytes w h some = ((lit< tt, refl), (decimal_field clock w, (hex_field bytes h some, tt)))

-- The line of a call that is read is so spelled.
use Rattle.std.proofs.Common.{◌≡◌, ℕ, ◌%◌, ◌<◌, ◌≤◌, List, [], ◌∷◌, ◌++◌, Option, Some, None, refl, sym, ap, subst, inl, inr, lit<, ◌+◌, decimal, codes}
use Rattle.history_reader.proofs.Common.{AllByRecursion, CallRecord, IfOk, IfOk-weaker, IfSome, IsArenaWidth, IsDatum, IsEntry, IsWord, Point, ReplyKind, Verb, Width, abort_operand, access_names, begin_operand, bind_if, block_props, byte, call_of, commit_action, control_call, copy_operands, datum, decimal_digit, encode_lower, entry_of, entry_of-exact, fill_operands, function, lookup, mode, mode_operand, mode_text, next, no_operand, no_transaction, no_transaction_text, number, or_operand, or_point, place_datum, place_operand, place_size, point_call, point_verb, props_text, rest_of, scope, scope_text, undo_action, verb_call, verb_in, verb_of, verb_text}
use Rattle.itm_types.specs.declared.call.Call.TheVariants as calls
use Rattle.itm_entries.specs.declared.entry.Control.{Control}
use Rattle.itm_entries.specs.declared.entry.Control.TheVariants as controls
use Rattle.itm_entries.specs.declared.entry.Entry.TheVariants as points
use Rattle.history_reader.specs.declared.reply.ReplyKind.TheVariants as answers
use Rattle.history_reader.specs.declared.verb.Verb.TheVariants as verbs
use Rattle.history_reader.proofs.RoundTrips.Fields.{IsCalled}
use Rattle.history_reader.proofs.Exactness.Fields.{exactly_is, function_is, lookup_if, number_is, or_operand_if}
use Rattle.history_reader.proofs.Exactness.Calls.{Replied, byte_is, datum_is, no_operand_is, one_operand_is, props_is, scope_is, three_operands_is, two_operands_is}

-- the call of this verb that the fields behind its name tell
record IsCallOf (verb : Verb) (fs : List (List ℕ)) (e : CallRecord) : Type 0 where
  called : verb_in e.call ≡ verb
  rest : fs ≡ rest_of e
  is : IsEntry e

-- ## Blocks, modes and actions

control_exact : (control : Control) (fs : List (List ℕ)) → IfOk (control_call control fs) (IsCallOf (verbs.Point (points.Control control)) fs)
unfolding control_call begin_operand no_operand abort_operand mode_operand commit_action undo_action mode no_transaction
control_exact controls.BeginTransaction fs =
    bind_if _ _ (begin_operand fs) _ (one_operand_is block_props props_text (λ p. Unit {0}) props_is answers.Code fs) (λ x o. record { called = refl; rest = o.0; is = (refl, o.1.1) })
control_exact controls.CommitTransaction fs = bind_if _ _ (no_operand answers.Done fs) _ (no_operand_is answers.Done fs) (λ x o. record { called = refl; rest = o.0; is = o.1 })
control_exact controls.AbortTransaction fs =
    bind_if _ _ (abort_operand fs) _ (one_operand_is scope scope_text (λ outer. Unit {0}) scope_is answers.Code fs) (λ x o. record { called = refl; rest = o.0; is = o.1 })
control_exact controls.ChangeTransactionMode fs =
    bind_if _ _ (mode_operand fs) _ (one_operand_is mode (λ u. mode_text) (λ u. Unit {0}) (exactly_is mode_text) answers.Done fs) (λ x o. record { called = refl; rest = o.0; is = (refl, o.1.1) })
control_exact controls.InTransaction fs = bind_if _ _ (no_operand answers.Code fs) _ (no_operand_is answers.Code fs) (λ x o. record { called = refl; rest = o.0; is = o.1 })
control_exact controls.AddUserCommitAction fs =
    bind_if _ _ (commit_action fs) _
    (three_operands_is function no_transaction number decimal (λ u. no_transaction_text) decimal (λ n. n ≤ 4294967295) (λ u. Unit {0}) IsWord function_is (exactly_is no_transaction_text) number_is answers.Done fs)
    (λ x o. record { called = refl; rest = o.0; is = ((o.1.0.0, o.1.0.1.1), o.1.1) })
control_exact controls.AddUserUndoAction fs =
    bind_if _ _ (undo_action fs) _ (two_operands_is function number decimal decimal (λ n. n ≤ 4294967295) IsWord function_is number_is answers.Done fs) (λ x o. record { called = refl; rest = o.0; is = o.1 })

-- ## The other entry points

place_is : (answer : ReplyKind) (fs : List (List ℕ)) → IfOk (place_operand answer fs) (Replied (λ at. decimal at ∷ []) IsWord answer fs)
unfolding place_operand
place_is answer fs = one_operand_is number decimal IsWord number_is answer fs

datum_put : (width : Width) (fs : List (List ℕ))
    → IfOk (place_datum width fs) (Replied (λ x. decimal x.0 ∷ encode_lower x.1.bytes.items ∷ []) (λ x. IsWord x.0 × ((x.1.width ≡ width) × IsDatum x.1)) answers.Done fs)
unfolding place_datum
datum_put width fs = two_operands_is number (datum width) decimal (λ d. encode_lower d.bytes.items) IsWord (λ d. (d.width ≡ width) × IsDatum d) number_is (datum_is width) answers.Done fs

point_exact : (point : Point) (fs : List (List ℕ)) → IfOk (point_call point fs) (IsCallOf (verbs.Point point) fs)
unfolding point_call place_size copy_operands fill_operands
point_exact (points.Control control) fs = control_exact control fs
point_exact (points.Read hint width) fs = bind_if _ _ (place_operand (answers.Bytes width) fs) _ (place_is (answers.Bytes width) fs) (λ x o. record { called = refl; rest = o.0; is = o.1 })
point_exact (points.Write hint width) fs =
    bind_if _ _ (place_datum width fs) _ (datum_put width fs)
    (λ x o. record { called = ap (λ (w : Width). verbs.Point (points.Write hint w)) o.1.0.1.0; rest = o.0; is = ((o.1.0.0, o.1.0.1.1), o.1.1) })
point_exact (points.Log width) fs = bind_if _ _ (place_operand answers.Done fs) _ (place_is answers.Done fs) (λ x o. record { called = refl; rest = o.0; is = o.1 })
point_exact points.LogBytes fs = bind_if _ _ (place_size fs) _ (two_operands_is number number decimal decimal IsWord IsWord number_is number_is answers.Done fs) (λ x o. record { called = refl; rest = o.0; is = o.1 })
point_exact (points.Copy moves pair) fs =
    bind_if _ _ (copy_operands fs) _ (three_operands_is number number number decimal decimal decimal IsWord IsWord IsWord number_is number_is number_is answers.Done fs)
    (λ x o. record { called = refl; rest = o.0; is = ((o.1.0.0, o.1.0.1.0, o.1.0.1.1), o.1.1) })
point_exact (points.Fill hint) fs =
    bind_if _ _ (fill_operands fs) _ (three_operands_is number byte number decimal (λ n. decimal (n % 256)) decimal IsWord (λ n. n ≤ 255) IsWord number_is byte_is number_is answers.Done fs)
    (λ x o. record { called = refl; rest = o.0; is = ((o.1.0.0, o.1.0.1.0, o.1.0.1.1), o.1.1) })

-- ## The accesses of the arena

verb_exact : (verb : Verb) (fs : List (List ℕ)) → IsCalled verb → IfOk (verb_call verb fs) (IsCallOf verb fs)
unfolding verb_call
verb_exact (verbs.Point point) fs w = point_exact point fs
verb_exact (verbs.Load width) fs w = bind_if _ _ (place_operand (answers.Bytes width) fs) _ (place_is (answers.Bytes width) fs) (λ x o. record { called = refl; rest = o.0; is = ((w, o.1.0), o.1.1) })
verb_exact (verbs.Save width) fs w =
    bind_if _ _ (place_datum width fs) _ (datum_put width fs)
    (λ x o. record { called = ap (λ (v : Width). verbs.Save v) o.1.0.1.0; rest = o.0; is = ((subst IsArenaWidth (sym o.1.0.1.0) w, o.1.0.0, o.1.0.1.1), o.1.1) })

-- ## Names

-- the name of a verb that has one
abbrev Names : List ℕ → Verb → Type 0
Names f verb = (f ≡ verb_text verb) × IsCalled verb

load_named : (n : ℕ) → n < 10 → codes "ld" ++ (48 + n) ∷ [] ≡ codes "ld" ++ decimal n
load_named n h = ap (λ (ds : List ℕ). codes "ld" ++ ds) (sym (decimal_digit n h))

save_named : (n : ℕ) → n < 10 → codes "st" ++ (48 + n) ∷ [] ≡ codes "st" ++ decimal n
save_named n h = ap (λ (ds : List ℕ). codes "st" ++ ds) (sym (decimal_digit n h))

all_named : AllByRecursion (λ row. Names row.0 row.1) access_names
all_named = (
  (load_named 1 (lit< tt), inl refl),
  (
    (load_named 2 (lit< tt), inr (inl refl)),
    (
      (load_named 4 (lit< tt), inr (inr (inl refl))),
      (
        (load_named 8 (lit< tt), inr (inr (inr refl))),
        ((save_named 1 (lit< tt), inl refl), ((save_named 2 (lit< tt), inr (inl refl)), ((save_named 4 (lit< tt), inr (inr (inl refl))), ((save_named 8 (lit< tt), inr (inr (inr refl))), tt)))),
      ),
    ),
  ),
)

point_named : (f : List ℕ) (o : Option Point) → entry_of f ≡ o → IfSome (point_verb o) (Names f)
point_named f None p = tt
point_named f (Some point) p = ((entry_of-exact f point).0 p, tt)

name_exact : (f : List ℕ) (o : Option Verb) → IfSome o (Names f) → IfSome (or_point o f) (Names f)
name_exact f (Some verb) h = h
name_exact f None h = point_named f (entry_of f) refl

-- a call that is read, with its reply, is one that a text can tell, and so spelled
pub call_exact : (fs : List (List ℕ)) → IfOk (call_of fs) (λ e. (fs ≡ verb_text (verb_in e.call) ∷ rest_of e) × IsEntry e)
unfolding call_of verb_of next
call_exact [] = tt
call_exact (f ∷ fs) =
    bind_if _ _ (or_operand (verb_of f)) _ (or_operand_if (Names f) (verb_of f) (name_exact f (lookup access_names f) (lookup_if Names access_names f all_named))) (λ verb n.
    IfOk-weaker (verb_call verb fs) (IsCallOf verb fs) _ (λ e c. (cc (n.0, ap verb_text c.called, c.rest), c.is)) (verb_exact verb fs n.1))

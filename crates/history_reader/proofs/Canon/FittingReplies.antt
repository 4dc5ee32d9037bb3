-- A reply of the plain machine is of the kind that its call has.
use Rattle.std.proofs.Common.{◌≡◌, ℕ, ◌≤◌, Bool, true, if◌then◌else◌, List, [], ◌∷◌, map, All, Option, None, Some, refl, sym, subst, arith, lit≤}
use Rattle.history_reader.proofs.Common.{All-cons, All-head, All-nil, All-tail, Breaks, Call, CallFits, CallRecord, EntryFits, HasArenaWidth, IsCall, IsEntry, IsReply, OutOfArena, OutOfRange, Refusal, ReplyFits, ReplyKind, after, answer, answer_to, canonical_call, canonical_entry, later, refusal, replies_through as replies_to, reply, reply_unless, size_of, standing}
use Rattle.itm_types.specs.declared.call.Call.TheVariants as calls
use Rattle.itm_types.specs.declared.call.Reply.TheVariants as replies
use Rattle.itm_model.{specs.State.State, proofs.Journals.Rollbacks.length-slice, proofs.KeptEffects.later_none, proofs.KeptEffects.within}
use Rattle.history_reader.specs.declared.reply.ReplyKind.TheVariants as answers
use Rattle.tx_history.proofs.Runs.AloneCalls.{same_head, same_tail}
use Rattle.history_reader.proofs.Canon.Runs.{calls_in, replies_in}

-- ## Replies

few_codes : (inside irrevocable : Bool) → (if inside then (if irrevocable then 2 else 1) else 0) ≤ 255
few_codes true true = lit≤ tt
few_codes inside irrevocable = lit≤ tt

refused_is : (a : ReplyKind) (refusal : Refusal) → IsReply a (replies.Refused refusal)
refused_is answers.Done refusal = tt
refused_is a refusal = tt

module _ (deepest : ℕ) where
  answer_is : (s : State) (c : Call) → refusal deepest s c ≡ None → ReplyFits (answer s c) → IsReply (answer_to c) (answer s c)
  answer_is s (calls.Begin props room) e f = lit≤ tt
  answer_is s (calls.Abort outer) e f = lit≤ tt
  answer_is s calls.InTransaction e f = few_codes _ s.irrevocable
  answer_is s (calls.Read hint width at) e f = (length-slice s.memory at (size_of width) (within s.memory at (size_of width) OutOfRange (later_none (standing deepest s (calls.Read hint width at)) _ e)), f)
  answer_is s (calls.Load width at) e f = (length-slice s.arena at (size_of width) (within s.arena at (size_of width) OutOfArena (later_none (standing deepest s (calls.Load width at)) _ e)), f)
  answer_is s c e f = tt

  by_refusal : (s : State) (c : Call) (o : Option Refusal) → refusal deepest s c ≡ o → ReplyFits (reply_unless o (answer s c)) → IsReply (answer_to c) (reply_unless o (answer s c))
  by_refusal s c None e f = answer_is s c e f
  by_refusal s c (Some why) e f = refused_is (answer_to c) why

  reply_is : (s : State) (c : Call) → ReplyFits (reply deepest s c) → IsReply (answer_to c) (reply deepest s c)
  reply_is s c f = by_refusal s c (refusal deepest s c) refl f

-- ## Entries

same_kind : (c : Call) → answer_to (canonical_call c) ≡ answer_to c
same_kind calls.Commit = refl
same_kind c = refl

-- a text can tell the canonical call of one whose numbers fit
call_is : (c : Call) → CallFits c → HasArenaWidth c → IsCall (canonical_call c)
call_is (calls.Begin props room) f w = refl
call_is calls.Commit f w = tt
call_is (calls.Abort outer) f w = tt
call_is (calls.Mode room) f w = refl
call_is calls.InTransaction f w = tt
call_is (calls.Read hint width at) f w = f
call_is (calls.Write hint at value) f w = f
call_is (calls.Log width at) f w = f
call_is (calls.LogBytes at size) f w = f
call_is (calls.Copy c) f w = f
call_is (calls.Fill hint to byte size) f w = (f.0, omega arith, f.1)
call_is (calls.CommitAction action) f w = f
call_is (calls.UndoAction action) f w = f
call_is (calls.Load width at) f w = (w, f)
call_is (calls.Save at value) f w = (w, f.0, f.1)

entry_is : (deepest : ℕ) (s : State) (e : CallRecord) → e.reply ≡ reply deepest s e.call → EntryFits e → HasArenaWidth e.call → IsEntry (canonical_entry e)
entry_is deepest s e is f w = (
  call_is e.call f.0 w,
  subst (λ (a : ReplyKind). IsReply a e.reply) (sym (same_kind e.call)) (subst (IsReply (answer_to e.call)) (sym is) (reply_is deepest s e.call (subst ReplyFits is f.1))),
)

-- so can it those of calls, where the replies are the plain machine's
pub entries_are : (deepest : ℕ) (breaks : Breaks) (s : State) (es : List CallRecord) → replies_in es ≡ replies_to deepest breaks s (calls_in es) → All EntryFits es → All (λ (e : CallRecord). HasArenaWidth e.call) es → All IsEntry (map canonical_entry es)
entries_are deepest breaks s [] is f w = All-nil IsEntry
entries_are deepest breaks s (e ∷ es) is f w =
    All-cons IsEntry (canonical_entry e) (map canonical_entry es)
    (entry_is deepest s e (same_head _ _ _ _ is) (All-head EntryFits e es f) (All-head (λ (e : CallRecord). HasArenaWidth e.call) e es w))
    (entries_are deepest (later breaks) (breaks 1 (after deepest s e.call)) es (same_tail _ _ _ _ is) (All-tail EntryFits e es f) (All-tail (λ (e : CallRecord). HasArenaWidth e.call) e es w))

-- What was read in a block that was taken back is the plain machine's.
use Rattle.std.proofs.Common.{◌≡◌, ◌∙◌, ℕ, Bool, false, true, List, [], ◌∷◌, Result, Ok, Err, IfOk, ap, subst}
use Rattle.std.proofs.lemmas.Result.{IfOk-weaker}
use Rattle.std.specs.Borrow.{MutBor}
use Rattle.std.specs.Fn.{Called, CalledAtMut, Mut}
use Rattle.itm_types.specs.declared.access.ReadHint.TheVariants.{R}
use Rattle.itm_types.specs.declared.access.Width.TheVariants.{U8}
use Rattle.itm_types.specs.declared.access.WriteHint.TheVariants.{W}
use Rattle.itm_types.specs.declared.call.Action.{Action}
use Rattle.itm_types.specs.declared.call.Call.{Call}
use Rattle.itm_types.specs.declared.call.Call.TheVariants.{Abort, Begin, Commit, Read, Write}
use Rattle.itm_types.specs.declared.call.Reply.{Reply}
use Rattle.itm_types.specs.declared.call.Reply.TheVariants.{Code, Done}
use Rattle.itm_types.specs.declared.datum.Datum.{Datum}
use Rattle.itm_types.specs.Slices.{slice}
use Rattle.itm_model.specs.Machine.{after, back, bytes_reply, effect, refusal, written}
use Rattle.itm_model.specs.Runs.{replies, state_after}
use Rattle.itm_model.specs.State.{State}
use Rattle.shared_words.specs.InGlobal.{Words}
use Rattle.shared_words.specs.Passes.{view_of}
use Rattle.call_rules.specs.Standing.{Standing}
use Rattle.itm_runtime.specs.Stops.{bytes_of_number, number}
use Rattle.itm_runtime.specs.declared.stop.Stop.{Stop}
use Rattle.transactions.proofs.Deeds.{makes_then}
use Rattle.transactions.proofs.FirstReplies.{done_by, first_of, read_by, rest_of}
use Rattle.transactions.specs.Blocks.{KeepsBlocks, StaysWithin}
use Rattle.transactions.specs.Lent.{Lent}
use Rattle.transactions.specs.Plain.{Calls, Cancellings, IsPlain, IsPlainBack, IsPlainBackIn, IsPlainRun, Makes, Makings, begun_at, cancelled_of}
use Rattle.transactions.specs.Runs.{KeepsBody, usual}
use Rattle.transactions.specs.declared.failed.Failed.{Failed}
use Rattle.transactions.specs.declared.stopped.Stopped.{Stopped}
use Rattle.transactions.specs.declared.stopped.Stopped.TheVariants.{Cancelled}
use Rattle.transactions.specs.declared.tried.Done.{Done as Value}
use Rattle.client_tests.specs.Learning.{EndsNoBlock, HasCopied, HasLearned, HasPeeked, HasTakenBack, deeds_of_copy, deeds_of_look}

-- ## On the plain machine

module _ (d : ℕ) (s : State) (calls : List Call) (rs : List Reply) where
  begin_first : Code 5 ∷ rs ≡ replies d s (Begin usual 0 ∷ calls) → (rs ≡ replies d (effect s (Begin usual 0)) calls) × (state_after d s (Begin usual 0 ∷ calls) ≡ state_after d (effect s (Begin usual 0)) calls)
  begin_first e =
      let by = done_by (Code 5) (refusal d s (Begin usual 0)) s (effect s (Begin usual 0)) tt (ap (first_of Done) e) in
      (ap rest_of e ∙ ap (λ (t : State). replies d t calls) by, ap (λ (t : State). state_after d t calls) by)

  read_first : (at : ℕ) (xs : List ℕ) → bytes_reply xs ∷ rs ≡ replies d s (Read R U8 at ∷ calls) → (slice s.memory at 8 ≡ xs) × (rs ≡ replies d s calls) × (state_after d s (Read R U8 at ∷ calls) ≡ state_after d s calls)
  read_first at xs e =
      let by = read_by (refusal d s (Read R U8 at)) xs (slice s.memory at 8) s (ap (first_of Done) e) in
      (by.0, ap rest_of e ∙ ap (λ (t : State). replies d t calls) by.1, ap (λ (t : State). state_after d t calls) by.1)

  abort_first : Code 24 ∷ rs ≡ replies d s (Abort false ∷ calls) → (rs ≡ replies d (back s) calls) × (state_after d s (Abort false ∷ calls) ≡ state_after d (back s) calls)
  abort_first e =
      let by = done_by (Code 24) (refusal d s (Abort false)) s (back s) tt (ap (first_of Done) e) in
      (ap rest_of e ∙ ap (λ (t : State). replies d t calls) by, ap (λ (t : State). state_after d t calls) by)

  write_first : (at : ℕ) (value : Datum) → Done ∷ rs ≡ replies d s (Write W at value ∷ calls) → (rs ≡ replies d (written s at value.bytes.items) calls) × (state_after d s (Write W at value ∷ calls) ≡ state_after d (written s at value.bytes.items) calls)
  write_first at value e =
      let by = done_by Done (refusal d s (Write W at value)) s (written s at value.bytes.items) tt (ap (first_of (Code 0)) e) in
      (ap rest_of e ∙ ap (λ (t : State). replies d t calls) by, ap (λ (t : State). state_after d t calls) by)

has_learned : (d : ℕ) (arena : List ℕ) (from to : ℕ) (gone : List Action) (done : Value ℕ) (new : Standing) → IsPlain d arena (deeds_of_copy from to done.value gone) done.at done.wrote new → HasLearned from to done new
has_learned d arena from to gone done new plain =
    let s = begun_at (view_of new.pass) done.at arena in
    let datum = number done.value in
    let last = Write W to datum ∷ [] in
    let begins = begin_first d s (Read R U8 from ∷ Abort false ∷ last) (bytes_reply (bytes_of_number done.value) ∷ Code 24 ∷ Done ∷ []) plain.replied in
    let u = effect s (Begin usual 0) in
    let reads = read_first d u (Abort false ∷ last) (Code 24 ∷ Done ∷ []) from (bytes_of_number done.value) begins.0 in
    let goes = abort_first d u last (Done ∷ []) reads.1 in
    let writes = write_first d (back u) [] [] to datum goes.0 in
    let state = begins.1 ∙ reads.2 ∙ goes.1 ∙ writes.1 in
    let wrote : done.wrote ≡ true = plain.wrote_is ∙ ap (λ (v : State). (after d v Commit).wrote) state in
    let next = plain.next wrote in
    record {
      wrote = wrote;
      seen = next.0;
      learned = reads.0;
      copied = next.1 ∙ ap (λ (v : State). (after d v Commit).memory) state;
    }

-- ## The block

module _ {F : Type 0} (fn : Mut F (MutBor Lent × Unit {0}) (Result (Unit {0}) (Stopped ℕ) × (MutBor Lent × Unit {0}))) where
  pub keeps_blocks : ((f : F) (shown left : MutBor Lent) (r : Result (Unit {0}) (Stopped ℕ)) (f' : F) → Called fn f (shown, tt) (r, (left, tt)) f' → EndsNoBlock shown.now left.now) → KeepsBlocks fn
  keeps_blocks within f x r f' x' run = subst (λ (l : Lent). StaysWithin x l) run.leaves (subst (λ (l : Lent). StaysWithin l run.left.now) run.shows (within f run.shown run.left r f' run.called).within)

module _ {F : Type 0} (fn : Mut F (MutBor Lent × Unit {0}) (Result (Unit {0}) (Stopped ℕ) × (MutBor Lent × Unit {0}))) (from_of : F → ℕ) where
  -- each run of the closure that takes its block back has read the number that it tells
  abbrev pub Peeked : Type 0
  Peeked = (f : F) (shown left : MutBor Lent) (found : ℕ) (f' : F) → Called fn f (shown, tt) (Err (Cancelled found), (left, tt)) f' → HasPeeked (from_of f) found shown.now.words shown.now.thread left.now.thread

  peeked_at : Peeked → (f : F) (x : Lent) (found : ℕ) (f' : F) (x' : Lent) → CalledAtMut fn f x (Err (Cancelled found)) f' x' → HasPeeked (from_of f) found x.words x.thread x'.thread
  peeked_at peeked f x found f' x' run =
      subst (λ (l : Lent). HasPeeked (from_of f) found x.words x.thread l.thread) run.leaves
      (subst (λ (l : Lent). HasPeeked (from_of f) found l.words l.thread run.left.now.thread) run.shows (peeked f run.shown run.left found f' run.called))

  cancellings_of : Peeked → Cancellings fn
  cancellings_of peeked f x found f' x' run = (deeds_of_look (from_of f) found, (peeked_at peeked f x found f' x' run).makes)

  pub block_peeked : Peeked → KeepsBody fn → (first : F) (old new : Lent) (told : Result (Result (Unit {0}) ℕ) Stop) (gave : Result (Unit {0}) ℕ) (found : ℕ) → told ≡ Ok gave → gave ≡ Err found → ((cancellings : Cancellings fn) → IsPlainBackIn fn cancellings first old told new)
      → HasTakenBack (from_of first) found old.words old.thread new.thread
  unfolding cancellings_of
  block_peeked peeked steady first old new told gave found is so plain =
      let b : IsPlainBack fn (cancellings_of peeked) first old found new = subst (λ (r : Result (Result (Unit {0}) ℕ) Stop). IsPlainBackIn fn (cancellings_of peeked) first old r new) (is ∙ ap Ok so) (plain (cancellings_of peeked)) in
      subst (λ (f : F). HasTakenBack (from_of f) found old.words old.thread new.thread) (b.run.same steady) (record { gone = b.gone; makes = b.makes })

-- ## The body

pub copied_by : (words w : Words) (from to found : ℕ) (old mid new : Standing) → w ≡ words → HasTakenBack from found words old mid → Makes w mid (Calls (Write W to (number found)) Done ∷ []) new → HasCopied from to found words old new
copied_by words w from to found old mid new e block last = record {
  gone = block.gone;
  makes = makes_then words old mid new (cancelled_of block.gone (deeds_of_look from found)) (Calls (Write W to (number found)) Done ∷ []) block.makes (subst (λ (v : Words). Makes v mid (Calls (Write W to (number found)) Done ∷ []) new) e last);
}

-- ## The transaction

module _ {F : Type 0} (fn : Mut F (MutBor Lent × Unit {0}) (Result ℕ (Stopped (Unit {0})) × (MutBor Lent × Unit {0}))) (from_of to_of : F → ℕ) where
  -- each run of the closure that gives a number has copied it
  abbrev pub Copied : Type 0
  Copied = (f : F) (shown left : MutBor Lent) (found : ℕ) (f' : F) → Called fn f (shown, tt) (Ok found, (left, tt)) f' → HasCopied (from_of f) (to_of f) found shown.now.words shown.now.thread left.now.thread

  copied_at : Copied → (f : F) (x : Lent) (found : ℕ) (f' : F) (x' : Lent) → CalledAtMut fn f x (Ok found) f' x' → HasCopied (from_of f) (to_of f) found x.words x.thread x'.thread
  copied_at copied f x found f' x' run =
      subst (λ (l : Lent). HasCopied (from_of f) (to_of f) found x.words x.thread l.thread) run.leaves
      (subst (λ (l : Lent). HasCopied (from_of f) (to_of f) found l.words l.thread run.left.now.thread) run.shows (copied f run.shown run.left found f' run.called))

  makings_of : Copied → Makings fn
  makings_of copied f x found f' x' run = let m = copied_at copied f x found f' x' run in (deeds_of_copy (from_of f) (to_of f) found m.gone, m.makes)

  pub all_learned : Copied → KeepsBody fn → (After : F → Lent → Bool → Type 0) (first : F) (words : Words) (r : Result (Value ℕ) (Failed (Unit {0}))) (new : Standing) → ((makings : Makings fn) → IfOk r (λ done. IsPlainRun fn makings After first words done new)) → IfOk r (λ done. HasLearned (from_of first) (to_of first) done new)
  unfolding makings_of
  all_learned copied steady After first words r new plain =
      IfOk-weaker r _ _ (λ done run. let m = copied_at copied run.body run.began done.value run.body' run.last run.runs in
      subst (λ (f : F). HasLearned (from_of f) (to_of f) done new) (run.same steady) (has_learned run.began.thread.engine.depth run.began.thread.engine.arena (from_of run.body) (to_of run.body) m.gone done new run.plain)) (plain (makings_of copied))

-- A transfer's calls on the plain machine move the amount.
use Rattle.std.proofs.Common.{◌≡◌, ◌∙◌, ℕ, ◌+◌, ◌-◌, Bool, true, List, [], ◌∷◌, Result, Ok, IfOk, ap, refl, subst}
use Rattle.bank.proofs.Common.{Begin, Call, Called, CalledAtMut, CanMove, Code, Commit, CommitAction, Done, HasMoved, IsMade, IsPlain, IsPlainRun, KeepsBody, Lent, Makings, Mut, MutBor, R, RECEIPT, Read, Replied as Reply, Standing, Stopped, Transfer, U8, Unmade, W, Words, Write, after, begun_at, bytes_of_number, bytes_reply, closed, deeds_of_transfer, effect, number, refusal, usual, with_action, written}
use Rattle.std.proofs.lemmas.Result.{IfOk-weaker}
use Rattle.itm_types.{specs.declared.call.Action.Action, specs.declared.datum.Datum.Datum, specs.Slices.slice}
use Rattle.itm_types.specs.declared.call.ActionKind.TheVariants as kinds
use Rattle.itm_model.{specs.Runs.replies, specs.Runs.state_after, specs.State.State}
use Rattle.shared_words.specs.Passes.{view_of}
use Rattle.transactions.specs.declared.failed.Failed.{Failed}
use Rattle.transactions.specs.declared.tried.Done.{Done as Value}
use Rattle.transactions.proofs.FirstReplies.{done_by, first_of, read_by, rest_of}

module _ (d : ℕ) (s : State) (calls : List Call) (rs : List Reply) where
  pub read_first : (at : ℕ) (xs : List ℕ) → bytes_reply xs ∷ rs ≡ replies d s (Read R U8 at ∷ calls) → (slice s.memory at 8 ≡ xs) × (rs ≡ replies d s calls) × (state_after d s (Read R U8 at ∷ calls) ≡ state_after d s calls)
  read_first at xs e =
      let by = read_by (refusal d s (Read R U8 at)) xs (slice s.memory at 8) s (ap (first_of Done) e) in
      (by.0, ap rest_of e ∙ ap (λ (t : State). replies d t calls) by.1, ap (λ (t : State). state_after d t calls) by.1)

  pub write_first : (at : ℕ) (value : Datum) → Done ∷ rs ≡ replies d s (Write W at value ∷ calls) → (rs ≡ replies d (written s at value.bytes.items) calls) × (state_after d s (Write W at value ∷ calls) ≡ state_after d (written s at value.bytes.items) calls)
  write_first at value e =
      let by = done_by Done (refusal d s (Write W at value)) s (written s at value.bytes.items) tt (ap (first_of (Code 0)) e) in
      (ap rest_of e ∙ ap (λ (t : State). replies d t calls) by, ap (λ (t : State). state_after d t calls) by)

  pub action_first : (action : Action) → Done ∷ rs ≡ replies d s (CommitAction action ∷ calls) → (rs ≡ replies d (with_action s kinds.Commit action) calls) × (state_after d s (CommitAction action ∷ calls) ≡ state_after d (with_action s kinds.Commit action) calls)
  action_first action e =
      let by = done_by Done (refusal d s (CommitAction action)) s (with_action s kinds.Commit action) tt (ap (first_of (Code 0)) e) in
      (ap rest_of e ∙ ap (λ (t : State). replies d t calls) by, ap (λ (t : State). state_after d t calls) by)

  pub begin_first : Code 5 ∷ rs ≡ replies d s (Begin usual 0 ∷ calls) → (rs ≡ replies d (effect s (Begin usual 0)) calls) × (state_after d s (Begin usual 0 ∷ calls) ≡ state_after d (effect s (Begin usual 0)) calls)
  begin_first e =
      let by = done_by (Code 5) (refusal d s (Begin usual 0)) s (effect s (Begin usual 0)) tt (ap (first_of Done) e) in
      (ap rest_of e ∙ ap (λ (t : State). replies d t calls) by, ap (λ (t : State). state_after d t calls) by)

  pub commit_first : Done ∷ rs ≡ replies d s (Commit ∷ calls) → (rs ≡ replies d (closed s) calls) × (state_after d s (Commit ∷ calls) ≡ state_after d (closed s) calls)
  commit_first e =
      let by = done_by Done (refusal d s Commit) s (closed s) tt (ap (first_of (Code 0)) e) in
      (ap rest_of e ∙ ap (λ (t : State). replies d t calls) by, ap (λ (t : State). state_after d t calls) by)

pub has_moved : (d : ℕ) (arena : List ℕ) (t : Transfer) (had has : ℕ) (gone : List Action) (done : Value (Unit {0})) (new : Standing) → CanMove t.amount had has → IsPlain d arena (deeds_of_transfer t had has gone) done.at done.wrote new → HasMoved t done new
has_moved d arena t had has gone done new can plain =
    let s = begun_at (view_of new.pass) done.at arena in
    let less = number (had - t.amount) in
    let more = number (has + t.amount) in
    let receipt : Action = record { fun = RECEIPT; arg = t.amount } in
    let last = CommitAction receipt ∷ [] in
    let paid = Read R U8 t.to.place ∷ Write W t.to.place more ∷ Commit ∷ last in
    let told = bytes_reply (bytes_of_number has) ∷ Done ∷ Done ∷ Done ∷ [] in
    let a = read_first d s (Write W t.from.place less ∷ Begin usual 0 ∷ paid) (Done ∷ Code 5 ∷ told) t.from.place (bytes_of_number had) plain.replied in
    let b = write_first d s (Begin usual 0 ∷ paid) (Code 5 ∷ told) t.from.place less a.1 in
    let s' = written s t.from.place less.bytes.items in
    let begins = begin_first d s' paid told b.0 in
    let u = effect s' (Begin usual 0) in
    let c = read_first d u (Write W t.to.place more ∷ Commit ∷ last) (Done ∷ Done ∷ Done ∷ []) t.to.place (bytes_of_number has) begins.0 in
    let e = write_first d u (Commit ∷ last) (Done ∷ Done ∷ []) t.to.place more c.1 in
    let u' = written u t.to.place more.bytes.items in
    let ends = commit_first d u' last (Done ∷ []) e.0 in
    let f = action_first d (closed u') [] [] receipt ends.0 in
    let state = a.2 ∙ b.1 ∙ begins.1 ∙ c.2 ∙ e.1 ∙ ends.1 ∙ f.1 in
    let wrote : done.wrote ≡ true = plain.wrote_is ∙ ap (λ (v : State). (after d v Commit).wrote) state in
    let next = plain.next wrote in
    record {
      wrote = wrote;
      seen = next.0;
      moved = record { had = had; has = has; can = can; had_is = a.0; less = _; less_is = refl; has_is = c.0; new_is = next.1 ∙ ap (λ (v : State). (after d v Commit).memory) state };
    }

module _ {F : Type 0} (fn : Mut F (MutBor Lent × Unit {0}) (Result (Unit {0}) (Stopped Unmade) × (MutBor Lent × Unit {0}))) (transfer_of : F → Transfer) where
  -- each run of the closure that gives a value has made its transfer
  abbrev pub Made : Type 0
  Made = (f : F) (shown left : MutBor Lent) (value : Unit {0}) (f' : F) → Called fn f (shown, tt) (Ok value, (left, tt)) f' → IsMade (transfer_of f) shown.now.words shown.now.thread left.now.thread

  made_at : Made → (f : F) (x : Lent) (value : Unit {0}) (f' : F) (x' : Lent) → CalledAtMut fn f x (Ok value) f' x' → IsMade (transfer_of f) x.words x.thread x'.thread
  made_at made f x value f' x' run =
      subst (λ (l : Lent). IsMade (transfer_of f) x.words x.thread l.thread) run.leaves
      (subst (λ (l : Lent). IsMade (transfer_of f) l.words l.thread run.left.now.thread) run.shows (made f run.shown run.left value f' run.called))

  makings_of : Made → Makings fn
  makings_of made f x value f' x' run = let m = made_at made f x value f' x' run in (deeds_of_transfer (transfer_of f) m.had m.has m.gone, m.makes)

  pub all_moved : Made → KeepsBody fn → (After : F → Lent → Bool → Type 0) (first : F) (words : Words) (r : Result (Value (Unit {0})) (Failed Unmade)) (new : Standing) → ((makings : Makings fn) → IfOk r (λ done. IsPlainRun fn makings After first words done new)) → IfOk r (λ done. HasMoved (transfer_of first) done new)
  unfolding makings_of
  all_moved made steady After first words r new plain =
      IfOk-weaker r _ _ (λ done run. let m = made_at made run.body run.began done.value run.body' run.last run.runs in
      subst (λ (f : F). HasMoved (transfer_of f) done new) (run.same steady) (has_moved run.began.thread.engine.depth run.began.thread.engine.arena (transfer_of run.body) m.had m.has m.gone done new m.can run.plain)) (plain (makings_of made))

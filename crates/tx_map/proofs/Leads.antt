-- What is told of a transaction whose body does something to the plain machine's bytes.
use Rattle.std.proofs.Common.{◌≡◌, ◌∙◌, ◌||◌, ℕ, suc, Bool, true, false, List, Result, Ok, refl, subst, sym, arith, IfOk}
use Rattle.tx_map.proofs.Common.{Does, Failed, HasLed, IfOk-weaker, IsPlain, IsPlainRun, KeepsBody, Lent, Makings, MutBor, Standing, Words, begun_at, bytes_of, calls_of, state_after, view_of}
use Rattle.std.specs.Fn.{Called, CalledAtMut, Mut}
use Rattle.call_rules.specs.Ties.{memory_of}
use Rattle.transactions.{specs.declared.stopped.Stopped.Stopped, specs.declared.tried.Done.Done}
use Rattle.tx_map.proofs.Machines.{committed_memory, committed_wrote}

or_none : (b : Bool) → (b || false) ≡ b
or_none false = refl
or_none true = refl

module _ {R : Type 0} (writes : R → Bool) (So : R → List ℕ → List ℕ → Type 0) (words : Words) (a b : Standing) (d : ℕ) (arena : List ℕ) (new : Standing) where
  wrote_so : (value : R) (at : ℕ) (wrote : Bool) (x : Does words a b (writes value) (So value)) → IsPlain d arena x.made at wrote new → wrote ≡ writes value
  wrote_so value at wrote x plain =
      let s = begun_at (view_of new.pass) at arena in
      plain.wrote_is ∙ committed_wrote d (state_after d s (calls_of x.made)) ∙ (x.plainly d s plain.replied).wrote ∙ or_none (writes value)

  led : (value : R) (at : ℕ) (wrote : Bool) (x : Does words a b (writes value) (So value)) → IsPlain d arena x.made at wrote new → HasLed writes So (record { value = value; at = at; wrote = wrote }) new
  led value at true x plain =
      let s = begun_at (view_of new.pass) at arena in
      let u = state_after d s (calls_of x.made) in
      let next = plain.next refl in
      let left : bytes_of (memory_of (view_of new.pass) (suc at)) ≡ u.memory = next.1 ∙ committed_memory d u in
      record { wrote_is = wrote_so value at true x plain; seen = omega (arith, next.0); so = subst (λ (m : List ℕ). So value s.memory m) (sym left) (x.plainly d s plain.replied).so }
  led value at false x plain =
      let s = begun_at (view_of new.pass) at arena in
      let goes = x.plainly d s plain.replied in
      let is = wrote_so value at false x plain in
      record { wrote_is = is; seen = plain.seen; so = subst (λ (m : List ℕ). So value s.memory m) (goes.still (sym is)) goes.so }

module _ {F R E : Type 0} (fn : Mut F (MutBor Lent × Unit {0}) (Result R (Stopped E) × (MutBor Lent × Unit {0}))) (writes : R → Bool) (So : F → R → List ℕ → List ℕ → Type 0) where
  -- each run of the closure that gives a value has done so
  abbrev pub Made : Type 0
  Made = (f : F) (shown left : MutBor Lent) (value : R) (f' : F) → Called fn f (shown, tt) (Ok value, (left, tt)) f' → Does shown.now.words shown.now.thread left.now.thread (writes value) (So f value)

  made_at : Made → (f : F) (x : Lent) (value : R) (f' : F) (x' : Lent) → CalledAtMut fn f x (Ok value) f' x' → Does x.words x.thread x'.thread (writes value) (So f value)
  made_at made f x value f' x' run =
      subst (λ (l : Lent). Does x.words x.thread l.thread (writes value) (So f value)) run.leaves
      (subst (λ (l : Lent). Does l.words l.thread run.left.now.thread (writes value) (So f value)) run.shows (made f run.shown run.left value f' run.called))

  makings_of : Made → Makings fn
  makings_of made f x value f' x' run = let m = made_at made f x value f' x' run in (m.made, m.makes)

  pub all_led : Made → KeepsBody fn → (After : F → Lent → Bool → Type 0) (first : F) (words : Words) (r : Result (Done R) (Failed E)) (new : Standing) → ((makings : Makings fn) → IfOk r (λ done. IsPlainRun fn makings After first words done new)) → IfOk r (λ done. HasLed writes (So first) done new)
  unfolding makings_of
  all_led made steady After first words r new plain =
      IfOk-weaker r _ _ (λ done run.
      let x = made_at made run.body run.began done.value run.body' run.last run.runs in
      subst (λ (f : F). HasLed writes (So f) done new) (run.same steady)
      (led writes (So run.body) run.began.words run.began.thread run.last.thread run.began.thread.engine.depth run.began.thread.engine.arena new done.value done.at done.wrote x run.plain)) (plain (makings_of made))

-- The second account's part as a block.
use Rattle.std.proofs.Common.{◌≡◌, ◌∙◌, ℕ, Result, Ok, ap, subst}
use Rattle.bank.proofs.Common.{Called, CalledAtMut, EndsNoBlock, HasPaidIn, IsPaidIn, IsPlainBlock, IsPlainIn, KeepsBody, Lent, Makings, Mut, MutBor, Standing, Stop, Stopped, Unmade, Words, deeds_of_payment}
use Rattle.transactions.specs.Blocks.{KeepsBlocks, StaysWithin}

module _ {F : Type 0} (fn : Mut F (MutBor Lent × Unit {0}) (Result (Unit {0}) (Stopped Unmade) × (MutBor Lent × Unit {0}))) where
  pub keeps_blocks : ((f : F) (shown left : MutBor Lent) (r : Result (Unit {0}) (Stopped Unmade)) (f' : F) → Called fn f (shown, tt) (r, (left, tt)) f' → EndsNoBlock shown.now left.now) → KeepsBlocks fn
  keeps_blocks within f x r f' x' run = subst (λ (l : Lent). StaysWithin x l) run.leaves (subst (λ (l : Lent). StaysWithin l run.left.now) run.shows (within f run.shown run.left r f' run.called).within)

module _ {F : Type 0} (fn : Mut F (MutBor Lent × Unit {0}) (Result (Unit {0}) (Stopped Unmade) × (MutBor Lent × Unit {0}))) (place_of amount_of : F → ℕ) where
  -- each run of the closure that gives a value has paid in
  abbrev pub Paid : Type 0
  Paid = (f : F) (shown left : MutBor Lent) (value : Unit {0}) (f' : F) → Called fn f (shown, tt) (Ok value, (left, tt)) f' → IsPaidIn (place_of f) (amount_of f) shown.now.words shown.now.thread left.now.thread

  paid_at : Paid → (f : F) (x : Lent) (value : Unit {0}) (f' : F) (x' : Lent) → CalledAtMut fn f x (Ok value) f' x' → IsPaidIn (place_of f) (amount_of f) x.words x.thread x'.thread
  paid_at paid f x value f' x' run =
      subst (λ (l : Lent). IsPaidIn (place_of f) (amount_of f) x.words x.thread l.thread) run.leaves
      (subst (λ (l : Lent). IsPaidIn (place_of f) (amount_of f) l.words l.thread run.left.now.thread) run.shows (paid f run.shown run.left value f' run.called))

  makings_of : Paid → Makings fn
  makings_of paid f x value f' x' run = let p = paid_at paid f x value f' x' run in (deeds_of_payment (place_of f) (amount_of f) p.has, p.makes)

  pub block_paid : Paid → KeepsBody fn → (first : F) (old new : Lent) (told : Result (Result (Unit {0}) Unmade) Stop) (gave : Result (Unit {0}) Unmade) (value : Unit {0}) → told ≡ Ok gave → gave ≡ Ok value → ((makings : Makings fn) → IsPlainIn fn makings first old told new)
      → HasPaidIn (place_of first) (amount_of first) old.words old.thread new.thread
  unfolding makings_of
  block_paid paid steady first old new told gave value is so plain =
      let b : IsPlainBlock fn (makings_of paid) first old value new = subst (λ (r : Result (Result (Unit {0}) Unmade) Stop). IsPlainIn fn (makings_of paid) first old r new) (is ∙ ap Ok so) (plain (makings_of paid)) in
      let p = paid_at paid b.body b.began value b.body' b.last b.run.runs in
      subst (λ (f : F). HasPaidIn (place_of f) (amount_of f) old.words old.thread new.thread) (b.run.same steady) (record { has = p.has; room = p.room; gone = b.gone; makes = b.makes })

pub paid_over : (w words : Words) (place amount : ℕ) (old new : Standing) → w ≡ words → HasPaidIn place amount w old new → HasPaidIn place amount words old new
paid_over w words place amount old new e paid = subst (λ (v : Words). HasPaidIn place amount v old new) e paid

-- What all tries of a body come to.
use Rattle.std.proofs.Common.{◌≡◌, ◌∙◌, ◌+◌, ◌≤◌, ℕ, List, Result, Ok, Err, IfErr, ap, arith}
use Rattle.transactions.proofs.Common.{ComesTo, Failed, Fails, HasLooked, IsCancelled, IsKept, IsLeft, KeepsBody, KeepsLent, Lent, Mut, MutBor, Standing, Stopped, Value, Words, mine_left, mine_of, view_of, went_on}
use Rattle.transactions.specs.declared.failed.Failed.TheVariants as failures
use Rattle.transactions.proofs.Tries.{rebased}

module _ {F R E : Type 0} (fn : Mut F (MutBor Lent × Unit {0}) (Result R (Stopped E) × (MutBor Lent × Unit {0}))) where
  -- told of the words and the body that came first
  pub came_first : (words first : Words) → (KeepsLent fn → words ≡ first) → (body passed : F) → (KeepsBody fn → body ≡ passed) → (told : Result (Value R) (Failed E)) (new : Standing) → ComesTo fn body words told new → ComesTo fn passed first told new
  came_first words first is body passed same (Ok done) new t = rebased fn words first is body passed same _ new t
  came_first words first is body passed same (Err failures.Tries) new t = tt
  came_first words first is body passed same (Err why) new t = rebased fn words first is body passed same _ new t

-- a try whose body took it back has looked at the clock
pub cancelled_goes : (R : Type 0) {E : Type 0} (why : Failed E) → IsCancelled {R = R} (Err why) → HasLooked {R = R} (Fails why)
cancelled_goes R (failures.Cancelled why) is = tt
cancelled_goes R why is = absurd is

module _ {R E : Type 0} where
  -- after transactions that left nothing
  pub left_after : (old mid new : Lent) (told : Result (Value R) (Failed E)) → IsKept old mid → IsLeft (mine_left (mine_of mid) told) mid new → IsLeft (mine_left (mine_of old) told) old new
  left_after old mid new told was now = record { words = now.words ∙ was.words; mine_is = now.mine_is ∙ ap (λ (m : List ℕ). mine_left m told) was.mine_is; went = went_on (view_of old.thread.pass) (view_of mid.thread.pass) (view_of new.thread.pass) was.went now.went }

  pub tried_after : (told : Result (Value R) (Failed E)) (looked looks left tries tried : ℕ) → IfErr told (λ why. why ≡ failures.Tries → looks + tries ≤ left) → looked ≤ looks → tries ≡ tried → IfErr told (λ why. why ≡ failures.Tries → looked + tried ≤ left)
  tried_after (Ok done) looked looks left tries tried t more same = tt
  tried_after (Err why) looked looks left tries tried t more same = λ is. let now = t is in omega (arith, now, more, same)

  -- one that was taken back leaves nothing
  pub kept_cancelled : (old new : Lent) (told : Result (Value R) (Failed E)) → IsCancelled told → IsLeft (mine_left (mine_of old) told) old new → IsKept old new
  kept_cancelled old new (Ok done) is left = absurd is
  kept_cancelled old new (Err why) is left = left

-- Steps in a row with one client.
use Rattle.std.specs.Prelude.{◌≡◌, ℕ, zero, suc, ◌<◌, Result, Ok, Err}
use Rattle.std.specs.Borrow.{MutBor}
use Rattle.std.specs.Fn.{Called, Mut}
use Rattle.transactions.specs.declared.client.Client.{Client}

module _ {F T E : Type 0} (fn : Mut F (MutBor Client × (T × (ℕ × Unit {0}))) (Result T E × (MutBor Client × Unit {0}))) where
  -- a call with this client, this value and this number gives that, and leaves the client so
  pub record Steps (f : F) (old : Client) (value : T) (number : ℕ) (gives : Result T E) (f' : F) (new : Client) : Type 0 where
    pub shown : MutBor Client
    pub shows : shown.now ≡ old
    pub left : MutBor Client
    pub called : Called fn f (shown, (value, (number, tt))) (gives, (left, tt)) f'
    pub leaves : left.now ≡ new

  -- each call hands back a client over the same words
  abbrev pub KeepsWords : Type 0
  KeepsWords = (f : F) (old : Client) (value : T) (number : ℕ) (gives : Result T E) (f' : F) (new : Client) → Steps f old value number gives f' new → new.transaction.words ≡ old.transaction.words

  -- calls with the first n numbers in order, each with what the one before gave and left, came to this value and this client
  abbrev pub Folds : F → Client → T → ℕ → F → Client → T → Type 0
  Folds f old first zero f' new value = (f' ≡ f) × (new ≡ old) × (value ≡ first)
  Folds f old first (suc n) f' new value = (g : F) × (mid : Client) × (before : T) × Folds f old first n g mid before × Steps g mid before n (Ok value) f' new

  -- so did the calls with all numbers, or the next one after some of them gave this error
  abbrev pub HasFolded : F → Client → T → ℕ → Result T E → Client → Type 0
  HasFolded f old first times (Ok value) new = (f' : F) × Folds f old first times f' new value
  HasFolded f old first times (Err why) new = (n : ℕ) × (n < times) × (g : F) × (mid : Client) × (before : T) × (f' : F) × Folds f old first n g mid before × Steps g mid before n (Err why) f' new

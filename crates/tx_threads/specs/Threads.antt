-- What threads come to.
use Rattle.std.specs.Prelude.{◌≡◌, ℕ, suc, List, [], ◌∷◌, length, Some, Result, IfErr, IfOk}
use Rattle.std.specs.List.{flat_map}
use Rattle.std.specs.Borrow.{MutBor}
use denote.Param.Members.{Shared}
use Rattle.itm_types.specs.Memory.{bytes_of}
use Rattle.shared_words.specs.declared.view.View.{View}
use Rattle.shared_words.specs.Commits.{StartsWith, Stores}
use Rattle.shared_words.specs.Good.{EndsWith}
use Rattle.shared_words.specs.InGlobal.{Words}
use Rattle.shared_words.specs.Passes.{IsWrongSize, view_of}
use Rattle.shared_words.specs.declared.fault.WordsFault.TheVariants.{Length}
use Rattle.transactions.specs.declared.client.Client.{Client}
use Rattle.tx_threads.specs.declared.fault.ThreadsFault.{ThreadsFault}
use Rattle.tx_threads.specs.declared.fault.ThreadsFault.TheVariants.{Words as NoWords}
use Rattle.tx_threads.specs.declared.seats.Seat.{Seat}
use Rattle.tx_threads.specs.Seats.{IsNewClient}

-- a wrong size is told exactly where so many bytes are no memory
pub record TellsWrongSize {T : Type 0} (size : ℕ) (result : Result T ThreadsFault) : Type 0 where
  pub only : IfErr result (λ why. why ≡ NoWords Length → IsWrongSize size)
  pub wrong : IfErr result (λ why. IsWrongSize size → why ≡ NoWords Length)
  pub right : IfOk result (λ _. IsWrongSize size → ⊥)

-- what each view has seen are first ones of these commits
abbrev pub AllBegin : List Stores → List View → Type 0
AllBegin log [] = Unit {0}
AllBegin log (v ∷ vs) = StartsWith log v.seen × AllBegin log vs

-- what a seat's client knows of the words
abbrev pub seat_view : {T : Type 0} → Seat T → View
seat_view seat = view_of seat.client.transaction.thread.pass

module _ {F T : Type 0} (fn : Shared F (ℕ × (MutBor Client × Unit {0})) (T × (MutBor Client × Unit {0}))) (f : F) where
  -- the body hands back a client over the same words
  abbrev pub KeepsWords : Type 0
  KeepsWords = (n : ℕ) (lent left : MutBor Client) (r : T) → fn.post f (n, (lent, tt)) (r, (left, tt)) → left.now.transaction.words ≡ lent.now.transaction.words

  -- as the thread of this number the body was lent the seat's client, and handed it back so; what it gave lies there
  pub record HasServed (n : ℕ) (old new : Seat T) : Type 0 where
    pub lent : MutBor Client
    pub left : MutBor Client
    pub value : T
    pub runs : fn.post f (n, (lent, tt)) (value, (left, tt))
    pub lends : lent.now ≡ old.client
    pub leaves : left.now ≡ new.client
    pub gives : new.value ≡ Some value

  -- as the thread of this number the body was lent a new client over these words; it gave this, and handed the client back with what its pass then knew
  pub record HasRun (words : Words) (base : List ℕ) (tries n : ℕ) (r : T) (v : View) : Type 0 where
    pub lent : MutBor Client
    pub left : MutBor Client
    pub begins : IsNewClient words base tries lent.now
    pub runs : fn.post f (n, (lent, tt)) (r, (left, tt))
    pub ends : v ≡ view_of left.now.transaction.thread.pass

  -- so of each thread from this number on
  abbrev pub EachHasRun : Words → List ℕ → ℕ → ℕ → List T → List View → Type 0
  EachHasRun words base tries n [] [] = Unit {0}
  EachHasRun words base tries n (r ∷ rs) (v ∷ vs) = HasRun words base tries n r v × EachHasRun words base tries (suc n) rs vs
  EachHasRun words base tries n [] (v ∷ vs) = ⊥
  EachHasRun words base tries n (r ∷ rs) [] = ⊥

  -- the thread of this number has run so, and its seat has what it gave and the client
  pub record IsServed (words : Words) (base : List ℕ) (tries n : ℕ) (seat : Seat T) : Type 0 where
    pub value : T
    pub given : seat.value ≡ Some value
    pub here : seat.client.transaction.words ≡ words
    pub run : HasRun words base tries n value (seat_view seat)

  abbrev pub AreServed : Words → List ℕ → ℕ → ℕ → List (Seat T) → Type 0
  AreServed words base tries n [] = Unit {0}
  AreServed words base tries n (seat ∷ seats) = IsServed words base tries n seat × AreServed words base tries (suc n) seats

  -- so many threads, from 0 on, have run so and gave these values; their commits are those of this view, each position that of one thread, and it has seen what each of them has
  pub record AllHaveRun (words : Words) (base : List ℕ) (tries count : ℕ) (values : List T) (v : View) : Type 0 where
    pub count_is : length values ≡ count
    pub views : List View
    pub each : EachHasRun words base tries 0 values views
    pub mine : v.mine ≡ flat_map (λ (w : View). w.mine) views
    pub begin : AllBegin v.seen views

  -- so many threads ran the body over words of these bytes, with clients that try so often, and gave these values. All commits begin from these bytes and are theirs, and the clock and the bytes are as all commits have left them
  pub record HaveRun (count tries : ℕ) (old : List ℕ) (values : List T) (clock : ℕ) (new : List ℕ) : Type 0 where
    pub words : Words
    pub whole : View
    pub bytes : bytes_of whole.base ≡ old
    pub all : AllHaveRun words whole.base tries count values whole
    pub ends : EndsWith whole clock new

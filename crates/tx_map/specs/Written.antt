-- What the commits of one thread do to the pairs of a map.
use Rattle.std.specs.Prelude.{◌≡◌, ℕ, suc, ◌+◌, ◌*◌, ◌<◌, ◌≤◌, true, List, [], ◌∷◌, ◌++◌, length}
use Rattle.shared_words.specs.declared.view.View.{View}
use Rattle.shared_words.specs.Passes.{view_of}
use Rattle.call_rules.specs.Served.{Went}
use Rattle.transactions.specs.Lent.{Lent}
use Rattle.tx_map.specs.declared.table.Put.{Put}
use Rattle.tx_map.specs.Puts.{HasPut, added_of, is_put}
use Rattle.tx_map.specs.Told.{bytes_in}

-- a commit's position, and what was told of its put: it puts the pair of this number
pub record PutsPair (first count n : ℕ) (v : View) (made : ℕ × Put) : Type 0 where
  pub seen : made.0 < length v.seen
  pub put_is : is_put made.1 ≡ true
  pub puts : HasPut first count (8 * n + 1) (n + 1_000) made.1 (bytes_in v made.0) (bytes_in v (suc made.0))

-- so of each, in the order of the numbers, from this one on
abbrev pub EachPuts : ℕ → ℕ → ℕ → View → List (ℕ × Put) → Type 0
EachPuts first count n v [] = Unit {0}
EachPuts first count n v (made ∷ rest) = PutsPair first count n v made × EachPuts first count (suc n) v rest

abbrev pub positions : List (ℕ × Put) → List ℕ
positions [] = []
positions (made ∷ rest) = made.0 ∷ positions rest

-- how many of the keys were new
abbrev pub added_in : List (ℕ × Put) → ℕ
added_in [] = 0
added_in (made ∷ rest) = added_of made.1 + added_in rest

-- from the one view to a later one the thread's own commits are these: as many as pairs from this number on, and each puts its pair; so many of the keys were new
pub record HasWrittenIn (first count from upto added : ℕ) (old new : View) : Type 0 where
  pub went : Went old new
  pub made : List (ℕ × Put)
  pub count_is : length made ≡ upto
  pub added_is : added_in made ≡ added
  pub mine_is : new.mine ≡ old.mine ++ positions made
  pub puts : EachPuts first count from new made

-- so of a thread as it was and as it is
abbrev pub HasWritten : ℕ → ℕ → ℕ → ℕ → ℕ → Lent → Lent → Type 0
HasWritten first count from upto added old new = HasWrittenIn first count from upto added (view_of old.thread.pass) (view_of new.thread.pass)

-- so of some first ones of these pairs
pub record HasWrittenSome (first count from most : ℕ) (old new : Lent) : Type 0 where
  pub upto : ℕ
  pub few : upto ≤ most
  pub added : ℕ
  pub written : HasWritten first count from upto added old new

-- Attempts among the commits that a pass has seen.
use Rattle.std.specs.Prelude.{◌≡◌, ℕ, suc, ◌<◌, ◌≤◌, true, if◌then◌else◌, List, [], ◌∷◌, length}
use Rattle.itm_types.specs.Memory.{bytes_of}
use Rattle.call_rules.specs.Ties.{memory_of}
use Rattle.shared_words.specs.declared.view.View.{View}
use Rattle.tx_attempts.specs.declared.attempt.Attempt.{Attempt}
use Rattle.tx_attempts.specs.declared.attempt.Outcome.TheVariants.{Unfinished}
use Rattle.tx_attempts.specs.Attempts.{alone, is_committed}

-- the bytes after the first k commits that were seen
abbrev pub bytes_at : View → ℕ → List ℕ
bytes_at v k = bytes_of (memory_of v k)

-- the positions of those that committed, in order
abbrev pub positions : List Attempt → List ℕ
positions [] = []
positions (a ∷ rest) = if is_committed a.outcome then a.at ∷ positions rest else positions rest

-- the commit at its position was seen, and takes the bytes before it to those that its attempt leaves alone on them, where `deepest` blocks may be open
pub record IsLeft (deepest : ℕ) (v : View) (a : Attempt) : Type 0 where
  pub seen : a.at < length v.seen
  pub leaves : bytes_at v (suc a.at) ≡ (alone deepest (bytes_at v a.at) a).memory

-- so does each that committed
abbrev pub AreLeft : ℕ → View → List Attempt → Type 0
AreLeft deepest v [] = Unit {0}
AreLeft deepest v (a ∷ rest) = (is_committed a.outcome ≡ true → IsLeft deepest v a) × AreLeft deepest v rest

-- how many commits a thread knows of by an attempt of its own
abbrev pub known_by : Attempt → ℕ
known_by a = if is_committed a.outcome then suc a.at else a.at

-- each attempt began with no fewer commits than the one before it told its thread of, the first one with no fewer than so many
abbrev pub AreSince : ℕ → List Attempt → Type 0
AreSince known [] = Unit {0}
AreSince known (a ∷ rest) = (known ≤ a.began) × AreSince (known_by a) rest

-- and so many are known after them
abbrev pub known_after : ℕ → List Attempt → ℕ
known_after known [] = known
known_after known (a ∷ rest) = known_after (known_by a) rest

-- each is of this thread, and of at most so many tries
abbrev pub AreOwn : ℕ → ℕ → List Attempt → Type 0
AreOwn thread tries [] = Unit {0}
AreOwn thread tries (a ∷ rest) = (a.thread ≡ thread) × (a.nth ≤ tries) × AreOwn thread tries rest

-- each that committed stands below this limit
abbrev pub AreFew : ℕ → List Attempt → Type 0
AreFew most [] = Unit {0}
AreFew most (a ∷ rest) = (is_committed a.outcome ≡ true → a.at < most) × AreFew most rest

-- none of them has not ended
abbrev pub AreOver : List Attempt → Type 0
AreOver [] = Unit {0}
AreOver (a ∷ rest) = (a.outcome ≡ Unfinished → ⊥) × AreOver rest

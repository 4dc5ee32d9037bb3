-- What a body is lent, and leaves.
use Rattle.std.specs.Prelude.{◌≡◌, ℕ, false, List, length}
use Rattle.shared_words.specs.InGlobal.{Words}
use Rattle.shared_words.specs.Passes.{Owns, view_of}
use Rattle.call_rules.specs.Served.{Went}
use Rattle.call_rules.specs.Standing.{Standing}

-- the words, and the thread whose transaction is open
pub record Lent : Type 0 where
  pub words : Words
  pub thread : Standing

-- the thread's pass is one of these words, and the clock is not held
pub record IsLent (words : Words) (thread : Standing) : Type 0 where
  pub own : Owns words thread.pass
  pub revocable : thread.engine.irrevocable ≡ false

-- the positions of the pass's own commits
abbrev pub mine_of : Lent → List ℕ
mine_of l = (view_of l.thread.pass).mine

-- how often the pass has looked at the clock
abbrev pub looks_of : Lent → ℕ
looks_of l = (view_of l.thread.pass).looks

-- how many commits the pass has seen
abbrev pub seen_of : Lent → ℕ
seen_of l = length (view_of l.thread.pass).seen

-- the same words; the pass's own commits are these, and what it knows of all commits has only grown
pub record IsLeft (mine : List ℕ) (old new : Lent) : Type 0 where
  pub words : new.words ≡ old.words
  pub mine_is : mine_of new ≡ mine
  pub went : Went (view_of old.thread.pass) (view_of new.thread.pass)

-- the same words, and the pass has made no commit
abbrev pub IsKept : Lent → Lent → Type 0
IsKept old new = IsLeft (mine_of old) old new

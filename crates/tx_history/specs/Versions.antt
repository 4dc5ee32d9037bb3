-- What each version of a history's text allows.
use Rattle.std.specs.Prelude.{◌≡◌, ℕ, ◌-◌, List, []}
use Rattle.itm_types.specs.declared.limits.TheConstants.{MAX_ACTORS, MAX_MEMORY, USUAL_DEPTH}
use Rattle.tx_attempts.specs.declared.attempt.Again.{Again}
use Rattle.tx_history.specs.declared.history.TheConstants.{EARLY_ACTORS, EARLY_MEMORY}
use Rattle.tx_history.specs.declared.history.Version.{Version}
use Rattle.tx_history.specs.declared.history.Version.TheVariants.{One, Two, Three}

-- how many blocks may be open at once
abbrev pub depth_of : Version → ℕ
depth_of One = USUAL_DEPTH
depth_of Two = USUAL_DEPTH
depth_of (Three depth) = depth.blocks

-- how many bytes the largest memory has
abbrev pub memory_limit : Version → ℕ
memory_limit One = EARLY_MEMORY
memory_limit Two = EARLY_MEMORY
memory_limit (Three depth) = MAX_MEMORY

-- the last thread
abbrev pub thread_limit : Version → ℕ
thread_limit One = EARLY_ACTORS - 1
thread_limit Two = EARLY_ACTORS - 1
thread_limit (Three depth) = MAX_ACTORS - 1

-- the first version tells of no block that ran again
abbrev pub MayTell : Version → List Again → Type 0
MayTell One restarts = restarts ≡ []
MayTell Two restarts = Unit {0}
MayTell (Three depth) restarts = Unit {0}

-- so none may in a run that it tells of, where they may run again so often at most
abbrev pub MayRestart : Version → ℕ → Type 0
MayRestart One most = most ≡ 0
MayRestart Two most = Unit {0}
MayRestart (Three depth) most = Unit {0}

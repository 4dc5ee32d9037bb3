-- What is told of a run, and the page of a program: what its first thread does alone on the memory that the program begins with.
use Rattle.std.specs.Prelude.{◌≡◌, ℕ, ◌+◌, ◌*◌, ◌/◌, ◌%◌, List, [], length, map, replicate, slice_index_or, Option, None, Some}
use Rattle.tx_runs.specs.declared.ending.End.{End}
use Rattle.tx_runs.specs.declared.ending.End.TheVariants.{Finished, GaveUp, NoMemory}
use Rattle.tx_attempts.specs.declared.attempt.Outcome.TheVariants as outcomes
use Rattle.world_laws.specs.Solo.{Solo, one_if, solo, without_room}
use Rattle.world_laws.specs.SoFar.{IsSoFar}
use Rattle.world_rules.specs.Commits.{CommitsInOrder}
use Rattle.world_rules.specs.Headline.{AreOpaque}
use Rattle.world_rules.specs.Tied.{AreTied}
use Rattle.world_rules.specs.World.{World, ending_at, observed}
use Rattle.script_program.specs.Listing.{Listing, opening_of, threads_of}
use Rattle.script_vm.specs.Threads.{Thread, opening, thread_rules}
use Rattle.tx_history.specs.declared.history.History.{History}
use Rattle.tx_history.specs.Histories.{history_text}
use Rattle.tx_history.specs.Legal.{IsLegal}
use Rattle.report_rules.specs.Versions.{version_of}
use Rattle.world_laws.specs.Starved.{IsFed, LeavesNoneOpen}
use Rattle.world_laws.specs.Told.{told_of}
use Rattle.run_commands.specs.Scheduled.{Leaves}

abbrev pub first_thread : Listing → Thread
first_thread p = opening p.limits.depth (slice_index_or (threads_of p) 0 [])

-- all that the first thread does alone
unfoldable pub solo_of : Listing → Solo
solo_of p = solo thread_rules p.limits.depth p.limits.max_commits 0 (first_thread p) (opening_of p) (replicate p.arena 0)

-- its history: the clock is odd where its last transaction is irrevocable and has not ended
unfoldable pub page : Listing → History
page p = record { version = version_of p; memory = opening_of p; attempts = (solo_of p).attempts; clock = 2 * (solo_of p).commits + one_if (solo_of p).held; bytes = (solo_of p).memory }

-- the history, with no room in its attempts
abbrev pub roomless : History → History
roomless h = record h { attempts = map without_room h.attempts }

-- The history of a run after which the one thread stands so: the page, where it ran to its end, but for the room for more calls that an unfinished attempt has, and with the same text; a beginning of what it does, with what the commits so far left, where it found no memory, at an even clock, or has not ended.
abbrev pub IsOf : Listing → Option End → History → Type 0
IsOf p (Some Finished) h = ((solo_of p).ending ≡ Finished) × (roomless h ≡ page p) × (history_text h ≡ history_text (page p))
IsOf p (Some GaveUp) h = ((solo_of p).ending ≡ GaveUp) × (roomless h ≡ page p) × (history_text h ≡ history_text (page p))
IsOf p (Some NoMemory) h = (h.memory ≡ opening_of p) × (h.clock % 2 ≡ 0)
    × IsSoFar thread_rules p.limits.depth p.limits.max_commits 0 (first_thread p) (opening_of p) (replicate p.arena 0) (h.clock / 2) h.bytes outcomes.NoMemory h.attempts
IsOf p None h = (h.memory ≡ opening_of p) × (memory : List ℕ)
    × IsSoFar thread_rules p.limits.depth p.limits.max_commits 0 (first_thread p) (opening_of p) (replicate p.arena 0) (h.clock / 2) memory outcomes.Unfinished h.attempts
    × (h.clock % 2 ≡ 0 → h.bytes ≡ memory)

-- ## The run of a program

-- The schedule leads to this world, which began with the program's memory, whose commits are in order and whose attempts are opaque, in which no thread that found no memory has an irrevocable attempt, nor one that has not ended, and of which a legal history is told; and where the program has one thread, what is told of it is what that one does alone.
pub record IsWorldOf (p : Listing) (w : World Thread) : Type 0 where
  pub leaves : Leaves p w
  pub base : w.base ≡ opening_of p
  pub commits : CommitsInOrder w
  pub opaque : AreOpaque thread_rules (observed w)
  pub tied : AreTied thread_rules w
  pub fed : IsFed w
  pub none_open : LeavesNoneOpen w
  pub legal : IsLegal (told_of (version_of p) w)
  pub alone : length (threads_of p) ≡ 1 → IsOf p (ending_at w 0) (told_of (version_of p) w)

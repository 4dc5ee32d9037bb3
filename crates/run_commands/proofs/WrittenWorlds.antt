-- What was written of a program's world.
use Rattle.std.proofs.Common.{◌≡◌, ℕ, List, length, Option, Result, Ok, Err, refl}
use Rattle.run_commands.proofs.Common.{Appends, AreOpaque, AreTied, ArrayVec, Begins, CommitsInOrder, End, HasNestedCode, HistoryFits, IsCutOff, IsLimitedListing, IsWorldOf, Listing, Outputs, Puts, Thread, World, Writes, Writing, endings_of, history_text, observed, schedule_of, thread_rules, threads_of, told_of, version_of}
use Rattle.run_commands.proofs.FedRuns.{fed, none_open}
use Rattle.run_commands.proofs.ProgramPages.{read_as_legal}
use Rattle.run_commands.proofs.ScheduleItems.{items_begun_led}
use Rattle.run_commands.specs.Running.{IsRun, running}

module _ (p : Listing) (w : World Thread) (o n : Option (List ℕ)) (is : IsWorldOf p w) where
  run_of : HistoryFits (told_of (version_of p) w) → IsLimitedListing p → (endings : ArrayVec (Option End)) → endings.items ≡ endings_of (length (threads_of p)) w → IsRun p endings (history_text (told_of (version_of p) w))
  run_of fits limits endings stand = record { world = w; of_program = is; stand = stand; told = refl; read = read_as_legal p w is limits fits }

  -- the history
  pub told : HistoryFits (told_of (version_of p) w) → IsLimitedListing p → (endings : ArrayVec (Option End)) → endings.items ≡ endings_of (length (threads_of p)) w → Appends o n (history_text (told_of (version_of p) w)) → Outputs running (Ok endings) (Ok p) o n
  told fits limits endings stand grew = (p, history_text (told_of (version_of p) w), refl, run_of fits limits endings stand, grew)

-- where a write failed, a beginning of it
pub cut_written : {X E : Type 0} (r : Result X E) (u v : Option (List ℕ)) (text : List ℕ) → Puts u v r text → Writes u v r text
cut_written (Ok x) u v text p = p
cut_written (Err e) u v text p = (p.0, p.2)

-- a beginning of it, where a write failed
pub begun : (p : Listing) (first w : World Thread) (o n : Option (List ℕ)) → HasNestedCode p → Begins p first → CommitsInOrder w → AreOpaque thread_rules (observed w) → AreTied thread_rules w
    → IsCutOff thread_rules (version_of p) (schedule_of p) first w o n → Outputs running (Err Writing) (Ok p) o n
begun p first w o n nested begins commits opaque tied stops =
    let led = items_begun_led first w (schedule_of p) stops.begun in (
      p,
      refl,
      record {
        first = first;
        begins = begins;
        world = w;
        stops = stops;
        commits = commits;
        opaque = opaque;
        tied = tied;
        fed = fed p nested first w begins led.0 led.1 commits tied;
        none_open = none_open p nested first w begins led.0 led.1 commits tied;
      },
    )

-- Worked cases: the try that comes next after a lost update, and one that does not; a world that has no actors.
use Rattle.std.proofs.Common.{[], ◌∷◌, refl, arith, replicate, true}
use Rattle.event_rules.proofs.Common.{Actor, AreActors, IsTry, IsWorld, Outside, Ready, Rows, World, opening}
use Rattle.event_rules.{proofs.Commits.CommitCounts.commits_first, proofs.Runs.Others.laid_first, proofs.Tries.Dates.dated_first}
use Rattle.world_rules.proofs.Examples.{Counter, at_step, counter_rules, lost, other, retried}

-- ## The counter whose first try was lost, once both counters' first tries have ended

abbrev second : Actor Counter
second = record { run = record { thread = 0; retries = 1; player = at_step 0; nth = 2; again = true; current = Outside }; engine = opening 1 [] 2 1 16 0; status = Ready }

abbrev both_tried : Rows
both_tried = record { ended = other ∷ lost ∷ []; room = 2 }

-- its second try comes next
comes_next : IsTry 1 both_tried second retried
comes_next = record { thread = refl; nth = refl; dated = record { later = omega arith; few = omega arith; after = omega arith; by_now = omega arith; at_once = λ e. refl } }

-- and not the first one again, nor the other counter's
not_again : (IsTry 1 both_tried second lost → ⊥) × (IsTry 1 both_tried second other → ⊥)
not_again = (λ t. (let e = t.nth in absurd (omega arith)), λ t. (let e = t.thread in absurd (omega arith)))

-- ## A world of one word and no actors, before its first event

abbrev empty : World Counter
empty = record { opening = []; base = replicate 8 0; arena = 0; limits = record { patience = 1; retries = 1; max_commits = 1; depth = 1; restarts = 0 }; cells = record { clock = 0; words = 0 ∷ [] }; actors = []; attempts = record { ended = []; room = 0 }; events = 0 }

empty_actors : AreActors counter_rules empty.cells empty.attempts empty.actors
empty_actors = record { few = omega arith; each = λ place a e. absurd (cc); one = λ i j a b e. absurd (cc); held = λ odd. absurd (cc); room = omega arith }

empty_is_world : IsWorld counter_rules empty
empty_is_world = record {
  actors = empty_actors;
  long = refl;
  commits = commits_first counter_rules empty empty_actors refl refl (λ place a e. absurd (cc));
  running = record { laid = laid_first 1 (replicate 8 0) empty.cells empty.attempts refl (omega arith, tt) refl refl; threads = tt; each = λ place p a e. absurd (cc) };
  dated = dated_first empty refl refl (λ place a e. absurd (cc));
}

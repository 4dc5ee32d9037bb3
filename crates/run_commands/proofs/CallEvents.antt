-- The events of a call in progress, and the lines of what the last of them ended.
use Rattle.std.proofs.Common.{◌≡◌, ◌≤◌, ℕ, List, [], length, drop, flat_map, None, sym, ap, ◌∙◌, append-nil, All}
use Rattle.run_commands.proofs.Common.{Adds, AddsEnded, All-nil, Attempt, AttemptFits, Fails, ItemBegins, Out, Rules, StreamState, Takes, World, adds_nothing, attempt_lines, ended_within}
use Rattle.run_commands.proofs.Plays.{adds_both, event_adds, event_ends_none, fails_here}
use Rattle.norec_world.proofs.EventsInRow.{takes_on}
use Rattle.norec_world.specs.Taken.{EndsLast}

module _ {P : Type 0} (rules : Rules P) (thread : ℕ) (old new : World P) (e : EndsLast rules thread old new) where
  -- as many have ended before the last one
  same_count : (n : ℕ) → n ≡ length old.attempts.ended → n ≡ length e.before.attempts.ended
  same_count n long = long ∙ ap (λ (l : List Attempt). length l) (sym e.ended)

  -- nothing is added before the last one
  adds_still : (s : StreamState) → AddsEnded old e.before s s
  adds_still s = record { base = e.opening.base; more = []; ended = e.ended ∙ sym (append-nil old.attempts.ended); adds = adds_nothing s; fits = λ good. All-nil AttemptFits }

  pub first_within : (n : ℕ) → n ≡ length old.attempts.ended → n ≤ length new.attempts.ended
  first_within n long = ended_within rules e.before new thread n e.waits e.last (same_count n long)

  -- the lines of what it ended
  pub call_adds : (n : ℕ) (s t : StreamState) → n ≡ length old.attempts.ended → Adds s t (flat_map attempt_lines (drop n new.attempts.ended)) → (t.fault ≡ None → All AttemptFits (drop n new.attempts.ended)) → AddsEnded old new s t
  call_adds n s t long p fits = adds_both old e.before new s s t (adds_still s) (event_adds rules e.before new thread n s t e.waits e.last (same_count n long) p fits)

  -- it ended none
  pub call_ends_none : (n m : ℕ) (s : StreamState) → n ≡ length old.attempts.ended → m ≡ length new.attempts.ended → m ≡ n → AddsEnded old new s s
  call_ends_none n m s before after same = adds_both old e.before new s s s (adds_still s) (event_ends_none rules e.before new thread n m s e.waits e.last (same_count n before) after same)

  -- their writing failed
  pub call_fails : (n : ℕ) (s t : StreamState) → s.fault ≡ None → n ≡ length old.attempts.ended → Adds s t (flat_map attempt_lines (drop n new.attempts.ended)) → (t.fault ≡ None → All AttemptFits (drop n new.attempts.ended))
      → ((k : ℕ) × Takes rules thread k old new) → Fails rules (ItemBegins rules (Out thread)) old new s t
  call_fails n s t fresh long p fits all =
      fails_here rules (ItemBegins rules (Out thread)) old e.before new thread s s t fresh fresh (adds_still s) (event_adds rules e.before new thread n s t e.waits e.last (same_count n long) p fits) (e.goes_on.0, takes_on rules thread e.goes_on.0 old e.before e.goes_on.1) all e.last

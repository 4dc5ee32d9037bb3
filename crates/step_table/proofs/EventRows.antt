-- One event of a world as a row.
use Rattle.std.proofs.Common.{◌≡◌, ℕ, Bool, true, [], ◌∷◌, drop, length, Option, None, Some, IsSome, refl, sym, ap, subst, ◌∙◌}
use Rattle.step_table.proofs.Common.{LeavesLessSoFar, Row, Rules, SoMany, Step, World, attempt_at, ending_at, event_result, operation_at, waits_at}
use Rattle.std.specs.Option.{option_map}
use Rattle.world_rules.specs.declared.operation.Operation.{Operation}
use Rattle.world_rules.specs.Cells.{found}
use Rattle.world_rules.specs.Progress.{TellsEvent}
use Rattle.world_rules.specs.Sound.{IsNoMore}
use Rattle.world_rules.specs.WorldEvents.{Goes}
use Rattle.world_rules.proofs.Events.Measures.{same_less}
use Rattle.world_rules.proofs.Events.Worlds.{waiting_there}
use Rattle.tx_attempts.specs.declared.attempt.Attempt.{Attempt}

-- ## The operation that comes next

none_mapped : {A B : Type 0} (f : A → B) (o : Option A) → IsSome o → None ≡ option_map f o → ⊥
none_mapped f None some e = absurd (cc)
none_mapped f (Some x) some e = absurd (cc)

-- who waits has one
pub next_there : {P : Type 0} (w : World P) (thread : ℕ) → IsSome (waits_at w thread) → None ≡ operation_at w thread → ⊥
next_there w thread some none = none_mapped (λ (s : Step). record { step = s; found = found w.cells s }) (waits_at w thread) some none

-- ## The row

module _ {P : Type 0} (rules : Rules P) (old new : World P) (thread : ℕ) where
  module _ (o : Operation) (goes_on : Bool) (had : Option ℕ) (first calls number clock : ℕ) where
    abbrev pub row : Row
    row = record {
      event = record { number = number; thread = thread; operation = o; clock = clock };
      goes_on = goes_on;
      had = had;
      calls = calls;
      ended = drop first new.attempts.ended;
      active = attempt_at new thread;
      ending = ending_at new thread;
    }

    pub is_row : Some o ≡ operation_at old thread → Goes rules thread old (event_result (ending_at new thread)) new → TellsEvent rules thread goes_on calls old new
        → had ≡ option_map (λ (a : Attempt). length a.calls.list) (attempt_at old thread) → first ≡ length old.attempts.ended → number ≡ new.events → clock ≡ new.cells.clock
        → SoMany rules thread 1 old (row ∷ []) new
    is_row next goes told had_is first_is number_is clock_is = (
      record {
        leads = (
          new,
          record {
            operation = sym next;
            goes = goes;
            number = number_is;
            clock = clock_is;
            had = had_is;
            told = told;
            ended = ap (λ (n : ℕ). drop n new.attempts.ended) first_is;
            active = refl;
            ending = refl;
          },
          refl,
        );
        mine = (refl, tt);
      },
      refl,
    )

-- ## Loops of events of one thread

-- no event yet
pub less_first : {P : Type 0} (rules : Rules P) (thread : ℕ) (w : World P) → IsSome (waits_at w thread) → LeavesLessSoFar rules thread true w w
less_first rules thread w waits a b here there =
    let same : a ≡ b = (let z : Some a ≡ Some b = sym here ∙ there in cc) in
    (waiting_there w thread a here waits, waiting_there w thread b there waits, subst (IsNoMore rules a) same (same_less rules a))

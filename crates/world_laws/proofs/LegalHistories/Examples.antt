-- Worlds whose one actor found no memory: its attempt has ended, or stays open.
use Rattle.std.proofs.Common.{◌≡◌, [], ◌∷◌, refl, Some, true}
use Rattle.world_laws.proofs.Common.{Actor, All-cons, All-head, All-nil, Attempt, Current, Ended, IsFed, LeavesNoneOpen, Outside, Unfinished, Within, World, ending_at}
use Rattle.tx_runs.specs.OpenAttempts.{Open}
use Rattle.tx_attempts.specs.declared.attempt.Outcome.TheVariants.{NoMemory}
use Rattle.tx_runs.specs.declared.ending.End.TheVariants as ends

module _ {P : Type 0} (w : World P) (a : Actor P) (o : Open) (row : Attempt) where
  abbrev starved : Current → Actor P
  starved current = record a { run = record a.run { current = current }; status = Ended ends.NoMemory }

  abbrev over : World P
  over = record w { actors = starved Outside ∷ []; attempts = record { ended = record row { thread = 0; outcome = NoMemory } ∷ []; room = 0 } }

  abbrev on_its_way : World P
  on_its_way = record w { actors = starved (Within (record o { row = record row { thread = 0; outcome = Unfinished } })) ∷ []; attempts = record { ended = []; room = 0 } }

  over_leaves_none : LeavesNoneOpen over
  over_leaves_none =
      let Q : Attempt → Type 0 = λ x. ending_at over x.thread ≡ Some ends.NoMemory → x.outcome ≡ Unfinished → ⊥ in
      All-cons Q (record row { thread = 0; outcome = NoMemory }) [] (λ starved unfinished. absurd (cc)) (All-nil Q)

  on_its_way_leaves_one : LeavesNoneOpen on_its_way → ⊥
  on_its_way_leaves_one leaves =
      let Q : Attempt → Type 0 = λ x. ending_at on_its_way x.thread ≡ Some ends.NoMemory → x.outcome ≡ Unfinished → ⊥ in
      All-head Q (record row { thread = 0; outcome = Unfinished }) [] leaves refl refl

  -- nor is it fed where it is irrevocable
  irrevocable_unfed : a.engine.irrevocable ≡ true → IsFed on_its_way → ⊥
  irrevocable_unfed irrevocable fed = absurd (let revocable = fed 0 (starved (Within (record o { row = record row { thread = 0; outcome = Unfinished } }))) refl refl in cc)

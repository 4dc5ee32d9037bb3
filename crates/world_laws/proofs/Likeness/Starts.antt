-- Two worlds of equal beginning, before their first event, are the same.
use Rattle.std.proofs.Common.{◌≡◌, ℕ, ◌/◌, List, [], ◌∷◌, ◌++◌, length, Some, slice_get, sym, ap, subst, ◌∙◌, arith}
use Rattle.world_laws.proofs.Common.{Actor, AreAlike, Attempt, Core, HasStarted, IsNew, Limits, Rules, SameOpening, SameWorld, World, ending_of, first_engine, option_and_then, slice_get_within, tally_of, there_is, words_of}
use Rattle.world_laws.proofs.Likeness.Work.{IsFed, work_alike}

pub none_first : (xs ys : List Attempt) → xs ++ ys ≡ [] → xs ≡ []
none_first [] ys e = λ i. []
none_first (x ∷ xs) ys e = absurd (cc)

starts_alike : {P : Type 0} (rules : Rules P) (clock : ℕ) (engine : Core) (retries place : ℕ) (p : P) (a b : Actor P) → HasStarted rules clock engine retries place p a → HasStarted rules clock engine retries place p b → IsFed a → IsFed b → AreAlike a b
starts_alike {P} rules clock engine retries place p a b f g fed fed' = (work_alike rules clock f.rows g.rows f.rows' g.rows' f.fresh g.fresh a b first f.works g.works f.done g.done fed fed').alike
  where
    run : f.fresh.run ≡ g.fresh.run
    run = f.run ∙ sym g.run

    first : AreAlike f.fresh g.fresh
    first = record {
      thread = λ i. (run i).thread;
      retries = λ i. (run i).retries;
      tally = λ i. tally_of (run i);
      engine = f.engine_is ∙ sym g.engine_is;
      status = f.ready ∙ sym g.ready;
    }

module _ {P : Type 0} (rules : Rules P) (v w : World P) (same : SameOpening v w) (f : IsNew rules v) (g : IsNew rules w) where
  cells_first : v.cells ≡ w.cells
  cells_first =
      let clock : v.cells.clock ≡ w.cells.clock = f.clock ∙ sym g.clock in
      let words : v.cells.words ≡ w.cells.words = f.words ∙ (ap words_of (sym same.base) ∙ sym g.words) in
      λ i. record { clock = clock i; words = words i }

  fed_at : (x : World P) → IsNew rules x → (place : ℕ) (a : Actor P) → slice_get x.actors place ≡ Some a → IsFed a
  fed_at x k place a e z = k.fed place (ap (option_and_then (λ (y : Actor P). ending_of y.status)) e ∙ z)

  -- the other one's start, with the limits of this one
  start_of : (place : ℕ) (p : P) (b : Actor P) → slice_get v.opening place ≡ Some p → slice_get w.actors place ≡ Some b
      → HasStarted rules v.cells.clock (first_engine (length v.base / 8) v.arena v.limits) v.limits.retries place p b
  start_of place p b e d = subst (λ (n : ℕ). HasStarted rules n (first_engine (length v.base / 8) v.arena v.limits) v.limits.retries place p b) (g.clock ∙ sym f.clock)
      (subst (λ (n : ℕ). HasStarted rules w.cells.clock (first_engine (length v.base / 8) v.arena v.limits) n place p b) (ap (λ (l : Limits). l.retries) same.limits)
      (subst (λ (c : Core). HasStarted rules w.cells.clock c w.limits.retries place p b) (λ i. first_engine (length (same.base i) / 8) (same.arena i) (same.limits i))
      (g.starts place p b (ap (λ (xs : List P). slice_get xs place) same.opening ∙ e) d)))

  actors_first : (place : ℕ) (a b : Actor P) → slice_get v.actors place ≡ Some a → slice_get w.actors place ≡ Some b → AreAlike a b
  actors_first place a b e d =
      let p = there_is v.opening place (let l = slice_get_within v.actors place a e in let n = f.actors in omega arith) in
      starts_alike rules v.cells.clock (first_engine (length v.base / 8) v.arena v.limits) v.limits.retries place p.0 a b (f.starts place p.0 a p.1 e) (start_of place p.0 b p.1 d) (fed_at v f place a e) (fed_at w g place b d)

  pub new_same : SameWorld v w
  new_same = record {
    opening = same;
    cells = cells_first;
    events = f.events ∙ sym g.events;
    ended = none_first v.attempts.ended _ f.none ∙ sym (none_first w.attempts.ended _ g.none);
    count = f.actors ∙ (ap length (sym same.opening) ∙ sym g.actors);
    actors = actors_first;
  }

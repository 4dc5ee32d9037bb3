-- The history of a world is legal.
use Rattle.std.proofs.Common.{◌≡◌, inl, inr, get_or, ℕ, ◌/◌, ◌%◌, ◌≤◌, true, true≢false, All, List, ◌∷◌, ◌++◌, length, Some, slice_get, nat_lt, sym, ap, subst, ◌∙◌, arith, append_assoc}
use Rattle.world_laws.proofs.Common.{Actor, All-append, AreOpaque, AreTied, Attempt, CommitsInOrder, EndsFree, EndsHeld, IsLegal, Rules, Version, World, active_of, alone, attempts_of, bytes_at, count_committed, count_holding, depth_of, first_of, in_transaction, is_holding, observed, odd_or_even, of_thread, one_where, opens, row_unfinished, same_Some, there_is, told_of}
use Rattle.tx_history.{specs.Legal.IsAlone, proofs.Runs.AloneRuns.IsPlaced, proofs.Runs.AloneRuns.of_run}
use Rattle.world_laws.proofs.LegalHistories.EachThread.{of_threads}
use Rattle.world_laws.proofs.LegalHistories.Holders.{HeldBy, count_holding_both, each_open, ended_free, ended_there, irrevocable_of, none_held, one_held, placed_there, stands_among}

module _ {P : Type 0} (rules : Rules P) (version : Version) (w : World P) (allows : depth_of version ≡ w.limits.depth) (commits : CommitsInOrder w) (opaque : AreOpaque rules (observed w)) (tied : AreTied rules w) where
  half : count_committed (attempts_of w) ≡ w.cells.clock / 2
  half = opaque.counted.all

  placed : All (IsPlaced rules w.limits.depth (w.cells.clock / 2) (bytes_at w.limits.depth w.base (attempts_of w))) (attempts_of w)
  placed = of_threads (IsPlaced rules w.limits.depth (w.cells.clock / 2) (bytes_at w.limits.depth w.base (attempts_of w))) (length w.opening) (attempts_of w) opaque.threads (λ thread l.
      (let p = there_is w.opening thread l in
      of_run rules w.limits.depth (w.cells.clock / 2) (bytes_at w.limits.depth w.base (attempts_of w)) (Some (first_of p.0 w.arena)) (of_thread thread (attempts_of w)) (opaque.runs thread p.0 p.1)))

  module _ (place : ℕ) (a : Actor P) (row : Attempt) (here : slice_get w.actors place ≡ Some a) (some : active_of a ≡ Some row) where
    -- an open attempt that holds the clock in the history is that of an actor that does
    holds_there : is_holding (told_of version w) row ≡ true → a.engine.holds ≡ true
    holds_there t = tied.irrevocable place a here (sym (tied.modes place a row here some) ∙ (ap (λ (n : ℕ). (alone n (bytes_at n w.base (attempts_of w) row.at) row).irrevocable) (sym allows) ∙ irrevocable_of (told_of version w) row t))

  -- of those that have ended none holds it
  open_holding : count_holding (told_of version w) (attempts_of w) ≡ count_holding (told_of version w) (opens w.actors)
  open_holding = omega (arith, count_holding_both (told_of version w) w.attempts.ended (opens w.actors), ended_free (told_of version w) w.attempts.ended commits.ended)

  free : w.cells.clock % 2 ≡ 0 → EndsFree (told_of version w) (count_committed (attempts_of w))
  free even = record {
    clock = omega (arith, half);
    bytes = opaque.free even ∙ (ap (bytes_at w.limits.depth w.base (attempts_of w)) (sym half) ∙ ap (λ (n : ℕ). bytes_at n w.base (attempts_of w) (count_committed (attempts_of w))) (sym allows));
    holding = open_holding ∙ none_held (told_of version w) (opens w.actors) (each_open (λ (x : Attempt). is_holding (told_of version w) x ≡ true → ⊥) w.actors
        (λ place a row here some t. true≢false (sym (holds_there place a row here some t) ∙ commits.free even place a here)));
  }

  held : w.cells.clock % 2 ≡ 1 → EndsHeld (told_of version w) (count_committed (attempts_of w))
  held odd =
      let holder = commits.held odd in
      let place = holder.0 in
      let own = tied.holder place holder.1 holder.2 holder.3 in
      let r = stands_among w.actors place holder.1 own.0 holder.2 own.1 in
      record {
        clock = omega (arith, half);
        bytes = opaque.size;
        holder = (
          w.attempts.ended ++ r.0,
          r.1,
          own.0,
          ap (λ (l : List Attempt). w.attempts.ended ++ l) r.2 ∙ sym (append_assoc w.attempts.ended r.0 (own.0 ∷ r.1)),
          row_unfinished (in_transaction holder.1.engine) holder.1 own.0 (tied.rows place holder.1 holder.2) own.1,
          own.2 ∙ sym half,
        );
        holding =
            (let one = one_held (told_of version w) place 0 (opens w.actors) tied.open_rows.by_actor (each_open (HeldBy (told_of version w) place) w.actors
            (λ i a row here some t. placed_there tied i a row here some ∙ commits.one i place a holder.1 here holder.2 (holds_there i a row here some t) holder.3)) in
            omega (arith, open_holding));
        there = All-append (λ (x : Attempt). is_holding (told_of version w) x ≡ true → x.at ≡ count_committed (attempts_of w)) w.attempts.ended (opens w.actors)
            (ended_there (told_of version w) (count_committed (attempts_of w)) w.attempts.ended commits.ended)
            (each_open (λ (x : Attempt). is_holding (told_of version w) x ≡ true → x.at ≡ count_committed (attempts_of w)) w.actors
            (λ i a row here some t.
            (let y = tied.holder i a here (holds_there i a row here some t) in
            let same : row ≡ y.0 = same_Some _ _ (sym some ∙ y.1) in
            ap (λ (x : Attempt). x.at) same ∙ (y.2 ∙ sym half))));
      }

  pub legal_world : IsLegal (told_of version w)
  legal_world = record {
    positions = λ k. opaque.counted.each k ∙ ap (λ (n : ℕ). one_where (nat_lt k n)) (sym half);
    others = λ k d l. subst (λ (n : ℕ). (get_or (attempts_of w) k d).at ≤ n) (sym half) (placed k d l).1;
    alone = λ k d l. subst (λ (n : ℕ). IsAlone n (bytes_at n w.base (attempts_of w) (get_or (attempts_of w) k d).at) (get_or (attempts_of w) k d)) (sym allows) (placed k d l).0;
    final = elim (odd_or_even w.cells.clock) [ inl even ↦ inl (free even) | inr odd ↦ inr (held odd) ];
  }

use Rattle.norec_world.proofs.{Actor, AreActors, HasStarted, IsFirst, MAX_ACTORS, NoMemory, RunsFrom, bytes_of, ending_in, first_engine, first_of, rows_in, ◌≡◌, ℕ, ◌+◌, ◌≤◌, [], length, slice_get, drop, All, Some}
use Rattle.norec_world.proofs.start.start_all.Given as goal

abbrev pub invariant-loop-player : goal.invariant-loop-player
invariant-loop-player g l = record {
  count : length l.actors.items + length l.player-iterator.rest.items ≡ length l.initial.player-iterator.rest.items;
  few : length l.initial.player-iterator.rest.items ≤ MAX_ACTORS;
  outside : All (λ p. g.P.Player.depth p ≡ 0) l.player-iterator.rest.items;
  sound : AreActors g.P.Player l.memory (rows_in l.ended) l.actors.items;
  ended : l.ended.items ≡ [];
  tries : (place : ℕ) (a : Actor g.row.P.Denot) → slice_get l.actors.items place ≡ Some a → IsFirst l.memory.clock l.terms.limits a;
  rest : l.player-iterator.rest.items ≡ drop (length l.actors.items) l.initial.player-iterator.rest.items;
  runs : (place : ℕ) (p : g.row.P.Denot) (a : Actor g.row.P.Denot) → slice_get l.initial.player-iterator.rest.items place ≡ Some p → slice_get l.actors.items place ≡ Some a
      → RunsFrom g.P.Player (first_of p l.terms.arena) l.terms.limits.depth (bytes_of l.memory.words) l.memory (rows_in l.ended) a;
  starts : (place : ℕ) (p : g.row.P.Denot) (a : Actor g.row.P.Denot) → slice_get l.initial.player-iterator.rest.items place ≡ Some p → slice_get l.actors.items place ≡ Some a
      → HasStarted g.P.Player l.memory.clock (first_engine (length l.memory.words) l.terms.arena l.terms.limits) l.terms.limits.retries place p a;
  fed : (place : ℕ) → ending_in l.actors.items place ≡ Some NoMemory → ⊥;
}

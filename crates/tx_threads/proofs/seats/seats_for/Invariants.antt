use Rattle.std.proofs.Common.{◌≡◌, ◌≤◌, vec_len, vec_capacity}
use Rattle.shared_words.specs.Passes.{Owns, view_of}
use Rattle.tx_threads.specs.Seats.{AllNew, HasGivenShares}
use Rattle.tx_threads.proofs.seats.seats_for.Given as goal

abbrev pub invariant-loop : goal.invariant-loop
invariant-loop g l = record {
  own : Owns l.words.value l.pass;
  shares : HasGivenShares l.counter (view_of l.fn.pass) (view_of l.pass);
  new : AllNew l.words.value (view_of l.fn.pass).base l.tries l.seats.items;
  count : vec_len l.seats ≡ l.counter;
  room : l.threads ≤ vec_capacity l.seats;
}

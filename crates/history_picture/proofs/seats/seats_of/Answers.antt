use Rattle.std.proofs.Common.{List, subst}
use Rattle.history_picture.proofs.Common.{IsPermutation, Seat}
use Rattle.history_picture.proofs.Orders.{seats_sorted}
use Rattle.history_picture.proofs.seats.seats_of.Goals as goal

pub returns : goal.returns
returns c = record {
  each = subst (λ (xs : List Seat). IsPermutation xs c.sort_unstable.new.self.items) c.in_ok-seats.ensures c.sort_unstable.ensures.permutation;
  sorted = seats_sorted _ c.sort_unstable.ensures.sorted;
}

use Rattle.std.proofs.Common.{◌≡◌, ◌+◌, ◌≤◌, false, vec_len, vec_capacity}
use Rattle.std.specs.Vec.Iter.{into_iter_items, into_iter_len}
use Rattle.shared_words.specs.Passes.{Owns, view_of}
use Rattle.tx_threads.specs.Threads.{AllHaveRun, AreServed}
use Rattle.tx_threads.proofs.serving.serve_all.Given as goal

abbrev pub invariant-loop-seat : goal.invariant-loop-seat
invariant-loop-seat g l = record {
  own : Owns l.words.value l.pass;
  idle : (view_of l.pass).holds ≡ false;
  base : (view_of l.pass).base ≡ (view_of l.fn.pass).base;
  share : 128 + vec_len l.values ≤ (view_of l.pass).share + l.threads;
  run : AllHaveRun g.F.Fn l.body l.words.value (view_of l.fn.pass).base l.tries (vec_len l.values) l.values.items (view_of l.pass);
  rest : AreServed g.F.Fn l.body l.words.value (view_of l.fn.pass).base l.tries (vec_len l.values) (into_iter_items l.seat-iterator);
  count : vec_len l.values + into_iter_len l.seat-iterator ≡ l.threads;
  room : l.threads ≤ vec_capacity l.values;
}

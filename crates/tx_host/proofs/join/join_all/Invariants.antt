use Rattle.std.proofs.Common.{◌≡◌, ◌+◌, ◌≤◌, true, false, vec_len, vec_capacity}
use Rattle.tx_host.proofs.Common.{HeldAmong, Joins, Owns, Promised, into_iter_items, into_iter_len, view_of}
use Rattle.tx_host.proofs.join.join_all.Given as goal

abbrev pub invariant-loop-handle : goal.invariant-loop-handle
invariant-loop-handle g l = record {
  own : Owns l.words l.pass;
  idle : (view_of l.pass).holds ≡ false;
  joins : l.held ≡ false → Joins l.words (view_of l.fn.pass) l.fn.program g.G.Gate.answers (vec_len l.all) (view_of l.pass) l.all.items;
  held : l.held ≡ true → HeldAmong l.words l.fn.program (view_of l.fn.pass).base g.G.Gate.answers (vec_len l.all);
  rest : Promised l.words (view_of l.fn.pass).base l.fn.program (vec_len l.all) (into_iter_items l.handle-iterator);
  count : vec_len l.all + into_iter_len l.handle-iterator ≡ vec_len l.fn.handles;
  room : vec_len l.fn.handles ≤ vec_capacity l.all;
}

use Rattle.std.proofs.Common.{◌≡◌, ◌+◌, ◌≤◌, true, vec_len, vec_capacity}
use Rattle.tx_host.proofs.Common.{AllReady, Promised, into_iter_items, into_iter_len, view_of}
use Rattle.tx_host.proofs.start.start_all.Given as goal

abbrev pub invariant-loop-ready : goal.invariant-loop-ready
invariant-loop-ready g l = record {
  handles : Promised l.words (view_of l.fn.base.value).base l.program 0 l.handles.items;
  ready : AllReady l.words (view_of l.fn.base.value).base l.program (vec_len l.handles) (into_iter_items l.ready-iterator);
  count : vec_len l.handles + into_iter_len l.ready-iterator ≡ vec_len l.fn.all;
  room : vec_len l.fn.all ≤ vec_capacity l.handles;
  whole : l.whole ≡ true;
}

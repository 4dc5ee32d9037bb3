use Rattle.std.proofs.Common.{◌≡◌, ◌+◌, ◌≤◌, length, vec_len, vec_capacity}
use Rattle.tx_host.proofs.Common.{AllReady, Owns, threads_of, view_of}
use Rattle.tx_host.proofs.start.prepare.Given as goal

abbrev pub invariant-loop-number : goal.invariant-loop-number
invariant-loop-number l = record {
  own : Owns l.words l.pass;
  pass : view_of l.pass ≡ record (view_of l.fn.pass) { share = (view_of l.pass).share };
  ready : AllReady l.words (view_of l.fn.pass).base l.program 0 l.all.items;
  threads : l.count ≡ length (threads_of l.program);
  count : vec_len l.all ≡ l.number;
  parts : (view_of l.pass).share + l.number ≡ (view_of l.fn.pass).share;
  room : l.count ≤ vec_capacity l.all;
}

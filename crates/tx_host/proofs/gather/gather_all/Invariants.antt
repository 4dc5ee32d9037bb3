use Rattle.std.proofs.Common.{◌≡◌, ◌++◌}
use Rattle.tx_host.proofs.Common.{attempts_in, ends_in, into_iter_items}
use Rattle.tx_host.proofs.gather.gather_all.Given as goal

abbrev pub invariant-loop-done : goal.invariant-loop-done
invariant-loop-done l = record {
  attempts : l.attempts.items ++ attempts_in (into_iter_items l.done-iterator) ≡ attempts_in l.fn.all.items;
  ends : l.ends.items ++ ends_in (into_iter_items l.done-iterator) ≡ ends_in l.fn.all.items;
}

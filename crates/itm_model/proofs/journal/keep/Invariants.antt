use Rattle.std.proofs.Common.{◌+◌, ◌*◌, ◌-◌, ◌≤◌, length, vec_len, vec_capacity}
use Rattle.itm_model.proofs.Common.{AreWithin, Logged}
use Rattle.itm_model.proofs.journal.keep.Given as goal

abbrev pub invariant-loop-done : goal.invariant-loop-done
invariant-loop-done l = record {
  done : l.done ≤ l.size;
  room : l.size + 32 * vec_len l.logs ≤ l.done + 32 * vec_capacity l.logs;
  longer : length l.fn.logs.items ≤ length l.logs.items;
  within : AreWithin (length l.bytes) l.logs.items;
  logged : Logged l.bytes l.start l.done l.fn.logs.items l.logs.items;
}

abbrev pub decreases-loop-done : goal.decreases-loop-done
decreases-loop-done l = l.size - l.done

use Rattle.std.proofs.Common.{◌≡◌, ◌*◌, take}
use Rattle.itm_types.specs.Memory.{bytes_of}
use Rattle.shared_words.specs.Passes.{Owns, view_of}
use Rattle.tx_threads.proofs.OnlyPass.{HasLookedOn, memory_of}
use Rattle.tx_threads.proofs.closing.read_all.Given as goal

abbrev pub invariant-loop-i : goal.invariant-loop-i
invariant-loop-i l = record {
  own : Owns l.words l.pass;
  on : HasLookedOn (view_of l.fn.pass) (view_of l.pass);
  laid : take (8 * l.i) l.bytes ≡ bytes_of (take l.i (memory_of (view_of l.fn.pass)));
}

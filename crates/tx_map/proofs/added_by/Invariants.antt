use Rattle.std.proofs.Common.{◌≡◌, ℕ, ◌-◌, ◌^◌, ◌<◌, min, None, IsSome, get_or, take}
use Rattle.tx_map.proofs.Common.{told_in_all}
use Rattle.tx_map.proofs.added_by.Given as goal

abbrev pub invariant-loop-by_one : goal.invariant-loop-by_one
invariant-loop-by_one l = record {
  tell : (k : ℕ) → k < l.by_one-index → IsSome (get_or l.told k None);
  sum : l.added ≡ min (told_in_all (take l.by_one-index l.told)) (2 ^ 64 - 1);
}

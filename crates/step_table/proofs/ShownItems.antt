-- What a writer has of the lines of events, item by item.
use Rattle.std.proofs.Common.{ℕ, ◌+◌, ◌<◌, List, length, take, get_or, Option}
use Rattle.step_table.proofs.Common.{Item, ItemFirst, ItemRows, Rules, ScheduleFirst, ScheduleRows, View, World}
use Rattle.step_table.proofs.RowLists.{schedule_begun, schedule_more}
use Rattle.step_table.proofs.ShownRows.{Begun, Written, written_begun, written_on}

module _ {P : Type 0} (rules : Rules P) (view : View) (a b c : World P) (u v w : Option (List ℕ)) (items : List Item) (i : ℕ) (d : Item) (h : i < length items) where
  -- the next item is done
  pub item_written : Written view (ScheduleRows rules (take i items)) a b u v → Written view (ItemRows rules (get_or items i d)) b c v w → Written view (ScheduleRows rules (take (i + 1) items)) a c u w
  item_written p q =
      written_on view (ScheduleRows rules (take i items)) (ItemRows rules (get_or items i d)) (ScheduleRows rules (take (i + 1) items)) a b c u v w
      (λ xs ys r s. schedule_more rules a b c items i d xs ys h r s) p q

  -- a write failed within it
  pub item_begun : Written view (ScheduleRows rules (take i items)) a b u v → Begun view (ItemFirst rules (get_or items i d)) b c v w → Begun view (ScheduleFirst rules items) a c u w
  item_begun p q =
      written_begun view (ScheduleRows rules (take i items)) (ItemFirst rules (get_or items i d)) (ScheduleFirst rules items) a b c u v w
      (λ xs ys r s. schedule_begun rules a b c items i d xs ys h r s) p q

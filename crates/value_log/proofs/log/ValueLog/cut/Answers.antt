use Rattle.std.proofs.Common.{ℕ, List, ◌<◌, ◌≤◌, ◌^◌, length, take, sym, subst, ◌∙◌}
use Rattle.value_log.proofs.Common.{AllBelow, AreSingle, IsRight, LogRow, single_cut}
use Rattle.value_log.proofs.IndexedRows.{few_rows}
use Rattle.itm_types.proofs.Elements.{all_take}
use Rattle.value_log.proofs.log.ValueLog.cut.Goals as goal

pub keep-requires-clause-few : goal.keep-requires-clause-few
keep-requires-clause-few c =
    let kept = c.self.invariant in
    let rows = c.self.inside.rows.items in
    let len = c.args.len in
    subst (λ (rs : List LogRow). length rs < 2 ^ 32) (sym (c.as_slice.ensures ∙ c.truncate.ensures.items)) (few_rows (take len rows) (single_cut len rows kept.single) (all_take _ len rows kept.below))

pub invariant_of-self : goal.invariant_of-self
invariant_of-self c =
    let kept = c.self.invariant in
    let rows = c.self.inside.rows.items in
    let cut = c.truncate.ensures.items in
    record {
      single = subst AreSingle (sym cut) (single_cut c.args.len rows kept.single);
      below = subst AllBelow (sym cut) (all_take _ c.args.len rows kept.below);
      index = subst (IsRight c.keep.new.self.last.items c.keep.new.self.before.items) c.as_slice.ensures c.keep.ensures.right;
      room = λ made. subst (λ (n : ℕ). c.truncate.new.self.capacity ≤ n) (sym c.keep.ensures.before)
          (subst (λ (n : ℕ). n ≤ length c.self.inside.index.before.items) (sym c.truncate.ensures.capacity) (kept.room (subst (λ (n : ℕ). 0 < n) c.keep.ensures.last made)));
    }

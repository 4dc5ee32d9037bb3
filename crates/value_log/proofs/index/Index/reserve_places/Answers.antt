use Rattle.std.proofs.Common.{ℕ, List, is_ok, subst, sym, arith}
use Rattle.value_log.proofs.Common.{IsIndex}
use Rattle.value_log.proofs.IndexedRows.{index_resized}
use Rattle.value_log.proofs.index.Index.reserve_places.Goals as goal

pub returns-clause-right : goal.returns-clause-right
returns-clause-right c =
    let last = c.args.self.now.last.items in
    let before = c.args.self.now.before.items in
    record {
      few = c.requires.right.few;
      index = λ made. subst (λ (b : List ℕ). IsIndex last b c.args.rows.now) (sym c.resize.ensures.items)
          (index_resized (is_ok c.resize.result) last before _ c.args.rows.now c.args.room (omega (arith, c.if-room-len.false, c.len.ensures, c.args.self.now.before.ok.0)) (c.requires.right.index made));
    }

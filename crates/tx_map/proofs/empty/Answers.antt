use Rattle.std.proofs.Common.{sym, subst}
use Rattle.tx_map.proofs.Common.{IfOk-weaker, IsEmpty}
use Rattle.tx_map.proofs.Bytes.{zeros_empty}
use Rattle.tx_map.proofs.empty.Goals as goal

pub returns : goal.returns
returns c =
    let t = c.args.table.now.slots in
    IfOk-weaker c.vec.result _ _ (λ v e. subst (IsEmpty t.first t.count) (sym (e (λ y same. same))) (zeros_empty c.args.size t.first t.count c.requires)) c.vec.ensures.items_if_clones_equal

use Rattle.std.proofs.Common.{ℕ, subst}
use Rattle.itm_types.{specs.declared.access.WriteHint.TheVariants.W, specs.declared.call.Call.TheVariants.Write}
use Rattle.call_rules.specs.CallResults.{Tells}
use Rattle.itm_runtime.specs.Stops.{answer_to_write, number}
use Rattle.typed_cells.proofs.cell.Cell.write.Goals as goal

pub returns-clause-tells : goal.returns-clause-tells
returns-clause-tells g c =
    let tx = c.args.tx.now in
    subst (λ (n : ℕ). Tells tx.words tx.thread (Write W c.args.self.now.place (number n)) (answer_to_write c.write_u64.result) c.write_u64.new.self.thread) c.to_number.ensures.number c.write_u64.ensures.tells

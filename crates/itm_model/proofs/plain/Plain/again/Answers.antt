use Rattle.std.proofs.Common.{length, subst, sym}
use Rattle.itm_model.proofs.Common.{AreAmong}
use Rattle.itm_model.proofs.Journals.Overwrites.{in_table}
use Rattle.itm_model.proofs.plain.Plain.again.Goals as goal

pub forget-requires-clause-among : goal.forget-requires-clause-among
forget-requires-clause-among c =
    let p = c.self.inside in
    subst (AreAmong (length p.newest.items)) (sym c.deref.ensures.value) (in_table (length p.memory.items) p.journal.items p.newest.items c.self.invariant.indexed)

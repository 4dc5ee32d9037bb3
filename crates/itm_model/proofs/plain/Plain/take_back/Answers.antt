use Rattle.std.proofs.Common.{◌≡◌, List, [], length, take, reverse, subst, sym}
use Rattle.itm_model.proofs.Common.{AreAmong, AreNewest, AreOnce, AreUnder, Mark, Old}
use Rattle.itm_model.proofs.Journals.Overwrites.{in_table, is_cut}
use Rattle.itm_model.proofs.plain.Plain.take_back.Goals as goal

pub forget-requires-clause-among : goal.forget-requires-clause-among
forget-requires-clause-among c =
    let p = c.self.inside in
    subst (AreAmong (length p.newest.items)) (sym c.deref.ensures.value) (in_table (length p.memory.items) p.journal.items p.newest.items c.self.invariant.indexed)

pub invariant_of-self : goal.invariant_of-self
invariant_of-self c =
    let p = c.self.inside in
    let j' = c.unwind.new.journal.items in
    let none : c.clear.new.self.items ≡ [] = c.clear.ensures.items in
    let table : AreNewest (take 0 p.journal.items) c.forget.new.newest.items = subst (λ (t : List Old). AreNewest (take 0 t) c.forget.new.newest.items) c.deref.ensures.value c.forget.ensures.newest in
    record {
      within = c.unwind.ensures.within;
      logged = c.self.invariant.logged;
      under = subst (λ (t : List Mark). AreUnder (length j') (length p.logs.items) (reverse t)) (sym none) tt;
      indexed = is_cut 0 p.journal.items p.newest.items p.memory.items j' c.forget.new.newest.items c.unwind.new.memory.items c.self.invariant.within c.self.invariant.indexed c.unwind.ensures.memory c.unwind.ensures.rest table c.forget.ensures.count;
      once = subst (λ (t : List Mark). AreOnce j' (reverse t)) (sym none) (subst (λ (t : List Old). AreOnce t []) (sym c.unwind.ensures.rest) tt);
    }

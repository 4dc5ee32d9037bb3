use Rattle.std.proofs.Common.{◌≡◌, List, [], ◌∷◌, ◌++◌, length, take, reverse, subst, ap, sym, ◌∙◌, arith}
use Rattle.itm_model.proofs.Common.{ActionList, AreAmong, AreNewest, AreOnce, AreUnder, Mark, Old, Undoable, back, length-take-le, reverse-append}
use Rattle.itm_model.proofs.Journals.Overwrites.{in_table, is_cut}
use Rattle.itm_model.proofs.OpenBlocks.{AreUnder-more, under_last, back_is, back_nothing, fewer_blocks, state_of}
use Rattle.itm_types.proofs.Elements.{all_drop}
use Rattle.itm_model.proofs.plain.Plain.back.Goals as goal

pub returns-in-Some-clause-back : goal.returns-in-Some-clause-back
returns-in-Some-clause-back c =
    let p = c.self.inside in
    let mark = c.in-Some.mark in
    let rest = c.pop.new.self.items in
    let e : p.marks.items ≡ rest ++ mark ∷ [] = c.in-Some.ensures.items in
    let under = under_last (length p.journal.items) (length p.logs.items) rest mark (subst (λ (t : List Mark). AreUnder (length p.journal.items) (length p.logs.items) (reverse t)) e c.self.invariant.under) in
    back_is p.irrevocable p.journal.items p.memory.items c.unwind.new.journal.items c.unwind.new.memory.items p.arena.items c.unwind-in-Some.new.memory.items p.logs.items c.unwind-in-Some.new.journal.items rest mark p.actions.actions c.roll_back.new.self.actions p.wrote c.if-self.false
    c.unwind.ensures.memory c.unwind.ensures.restores under.2 c.unwind-in-Some.ensures.memory c.unwind-in-Some.ensures.rest (all_drop _ mark.logs p.logs.items c.self.invariant.logged) (ap (λ (t : ActionList). t.actions) c.roll_back.ensures)
    ∙ (ap (λ (t : List Mark). back (state_of p.irrevocable p.journal.items p.memory.items p.arena.items p.logs.items t p.actions.actions p.wrote)) (sym e)
    ∙ ap (λ (u : Undoable). back u.state) c.self.view_is)

pub returns-then-self-clause-back : goal.returns-then-self-clause-back
returns-then-self-clause-back c =
    let p = c.self.inside in
    ap (λ (u : Undoable). u.state) (sym c.self.view_is)
    ∙ (back_nothing p.irrevocable p.journal.items p.memory.items p.arena.items p.logs.items p.marks.items p.actions.actions p.wrote c.if-self.true
    ∙ ap (λ (u : Undoable). back u.state) c.self.view_is)

pub returns-in-Some-clause-fewer : goal.returns-in-Some-clause-fewer
returns-in-Some-clause-fewer c = λ revocable.
    let p = c.self.inside in
    fewer_blocks p.irrevocable p.journal.items c.unwind.new.journal.items p.memory.items c.unwind.new.memory.items p.arena.items c.unwind-in-Some.new.memory.items p.logs.items c.unwind-in-Some.new.journal.items
    p.marks.items c.pop.new.self.items c.in-Some.mark p.actions.actions p.wrote _ (ap (λ (u : Undoable). u.state) c.self.view_is) c.in-Some.ensures.items

pub forget-requires-clause-among : goal.forget-requires-clause-among
forget-requires-clause-among c =
    let p = c.self.inside in
    subst (AreAmong (length p.newest.items)) (sym c.deref.ensures.value) (in_table (length p.memory.items) p.journal.items p.newest.items c.self.invariant.indexed)

pub invariant_of-self : goal.invariant_of-self
invariant_of-self c =
    let p = c.self.inside in
    let mark = c.in-Some.mark in
    let rest = c.pop.new.self.items in
    let j' = c.unwind.new.journal.items in
    let os' = c.unwind-in-Some.new.journal.items in
    let e : p.marks.items ≡ rest ++ mark ∷ [] = c.in-Some.ensures.items in
    let under = under_last (length p.journal.items) (length p.logs.items) rest mark (subst (λ (t : List Mark). AreUnder (length p.journal.items) (length p.logs.items) (reverse t)) e c.self.invariant.under) in
    let once : AreOnce p.journal.items (mark ∷ reverse rest) = subst (AreOnce p.journal.items) (reverse-append rest (mark ∷ [])) (subst (λ (t : List Mark). AreOnce p.journal.items (reverse t)) e c.self.invariant.once) in
    let long : length j' ≡ mark.at = ap (length {A = Old}) c.unwind.ensures.rest ∙ length-take-le mark.at p.journal.items under.0 in
    let high : length os' ≡ mark.logs = ap (length {A = Old}) c.unwind-in-Some.ensures.rest ∙ length-take-le mark.logs p.logs.items under.1 in
    let table : AreNewest (take mark.at p.journal.items) c.forget.new.newest.items = subst (λ (t : List Old). AreNewest (take mark.at t) c.forget.new.newest.items) c.deref.ensures.value c.forget.ensures.newest in
    record {
      within = c.unwind.ensures.within;
      logged = c.unwind-in-Some.ensures.within;
      under = AreUnder-more mark.at (length j') mark.logs (length os') (reverse rest) (omega (arith, long)) (omega (arith, high)) under.2;
      indexed = is_cut mark.at p.journal.items p.newest.items p.memory.items j' c.forget.new.newest.items c.unwind.new.memory.items c.self.invariant.within c.self.invariant.indexed c.unwind.ensures.memory c.unwind.ensures.rest table c.forget.ensures.count;
      once = subst (λ (t : List Old). AreOnce t (reverse rest)) (sym c.unwind.ensures.rest) once.1;
    }

pub returns-in-Some-clause-before : goal.returns-in-Some-clause-before
returns-in-Some-clause-before c = c.unwind.ensures.restores 0 (omega arith) ∙ ap (λ (u : Undoable). u.before) c.self.view_is

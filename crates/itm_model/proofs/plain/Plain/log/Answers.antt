use Rattle.std.proofs.Common.{List, ℕ, length, reverse, subst, ap, sym, ◌∙◌, arith}
use Rattle.itm_model.proofs.Common.{AreWithin, Logged, Undoable, logged}
use Rattle.itm_model.proofs.OpenBlocks.{AreUnder-more, logged_is, logged_nothing}
use Rattle.itm_model.proofs.plain.Plain.log.Goals as goal

pub invariant_of-self-2 : goal.invariant_of-self-2
invariant_of-self-2 c =
    let p = c.self.inside in
    let logged = subst (λ (t : List ℕ). AreWithin (length t) c.keep.new.logs.items) c.deref.ensures.value c.in_ok-keep.ensures.within in
    assumption (logged, AreUnder-more (length p.journal.items) (length p.journal.items) (length p.logs.items) (length c.keep.new.logs.items) (reverse p.marks.items) (omega arith) c.in_ok-keep.ensures.longer c.self.invariant.under, c.self.invariant)

pub returns-clause-ok : goal.returns-clause-ok
returns-clause-ok c =
    let p = c.self.inside in
    let all : Logged p.arena.items c.args.place c.args.size p.logs.items c.keep.new.logs.items = subst (λ (t : List ℕ). Logged t c.args.place c.args.size p.logs.items c.keep.new.logs.items) c.deref.ensures.value c.in_ok-keep.ensures.ok in
    let blocks = logged_is p.irrevocable p.journal.items p.memory.items p.arena.items p.logs.items c.keep.new.logs.items (reverse p.marks.items) (length p.journal.items) c.args.place c.args.size c.self.invariant.under all in
    (λ i. record { memory = p.memory.items; arena = p.arena.items; blocks = blocks i; actions = p.actions.actions; wrote = p.wrote; irrevocable = p.irrevocable })
    ∙ ap (λ (u : Undoable). logged u.state c.args.place c.args.size) c.self.view_is

pub returns-then-self-clause-ok : goal.returns-then-self-clause-ok
returns-then-self-clause-ok c =
    let p = c.self.inside in
    let blocks = logged_nothing p.irrevocable p.journal.items p.memory.items p.arena.items p.logs.items (reverse p.marks.items) c.args.place c.args.size c.if-self.true in
    ap (λ (u : Undoable). u.state) (sym c.self.view_is)
    ∙ ((λ i. record { memory = p.memory.items; arena = p.arena.items; blocks = blocks i; actions = p.actions.actions; wrote = p.wrote; irrevocable = p.irrevocable })
    ∙ ap (λ (u : Undoable). logged u.state c.args.place c.args.size) c.self.view_is)

use Rattle.std.proofs.Common.{nat_lt, length, ap, sym, ◌∙◌, arith}
use Rattle.itm_model.proofs.Common.{Block, Undoable, cond-true, lt-ltb}
use Rattle.itm_model.proofs.OpenBlocks.{one_open}
use Rattle.itm_model.proofs.plain.Plain.enter.Goals as goal

pub returns-then-props-clause-outermost : goal.returns-then-props-clause-outermost
returns-then-props-clause-outermost c =
    let p = c.self.inside in
    let opens = one_open p.irrevocable p.journal.items p.memory.items p.arena.items p.logs.items p.marks.items p.actions.actions p.wrote _ (ap (λ (u : Undoable). u.state) c.self.view_is) (grind (arith, c.is_empty.ensures, c.if-is_empty.false)) in
    λ none. absurd (omega (arith, opens, ap (length {A = Block}) none))

pub returns-else-props-clause-outermost : goal.returns-else-props-clause-outermost
returns-else-props-clause-outermost c =
    let p = c.self.inside in
    let opens = one_open p.irrevocable p.journal.items p.memory.items p.arena.items p.logs.items p.marks.items p.actions.actions p.wrote _ (ap (λ (u : Undoable). u.state) c.self.view_is) (grind (arith, c.is_empty.ensures, c.if-is_empty.false)) in
    λ none. absurd (omega (arith, opens, ap (length {A = Block}) none))

pub returns-then-props-clause-before : goal.returns-then-props-clause-before
returns-then-props-clause-before c =
    let p = c.self.inside in
    let opens = one_open p.irrevocable p.journal.items p.memory.items p.arena.items p.logs.items p.marks.items p.actions.actions p.wrote _ (ap (λ (u : Undoable). u.state) c.self.view_is) (grind (arith, c.is_empty.ensures, c.if-is_empty.false)) in
    let u = c.args.self.now in
    let blocks = length u.state.blocks in
    c.go_irrevocable.ensures.before
    ∙ (ap (λ (v : Undoable). v.before) c.self.view_is ∙ sym (cond-true (nat_lt 0 blocks) u.before u.state.memory (lt-ltb 0 blocks opens)))

pub returns-else-props-clause-before : goal.returns-else-props-clause-before
returns-else-props-clause-before c =
    let p = c.self.inside in
    let opens = one_open p.irrevocable p.journal.items p.memory.items p.arena.items p.logs.items p.marks.items p.actions.actions p.wrote _ (ap (λ (u : Undoable). u.state) c.self.view_is) (grind (arith, c.is_empty.ensures, c.if-is_empty.false)) in
    let u = c.args.self.now in
    let blocks = length u.state.blocks in
    ap (λ (v : Undoable). v.before) c.self.view_is ∙ sym (cond-true (nat_lt 0 blocks) u.before u.state.memory (lt-ltb 0 blocks opens))

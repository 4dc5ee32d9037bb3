use Rattle.std.proofs.Common.{◌≡◌, ◌+◌, ◌≤◌, ℕ, length, reverse, ap, ◌∙◌, rules}
use Rattle.itm_model.proofs.Common.{Undoable, saved_in_arena, with_slice}
use Rattle.itm_model.{proofs.Journals.Rollbacks.length-with_slice, proofs.OpenBlocks.blocks_long}
use Rattle.itm_model.proofs.plain.Plain.save.Goals as goal

pub returns-clause-ok : goal.returns-clause-ok
returns-clause-ok c =
    let p = c.self.inside in
    let new = c.args.value.now.bytes.items in
    let a = p.arena.items in
    let view = c.self.view_is in
    let fits : c.args.place + length new ≤ length a = search rules in
    let put : c.replace.new.bytes.items ≡ with_slice a c.args.place new = c.replace.ensures ∙ ap (with_slice a c.args.place) c.deref.ensures.0 in
    let long : length c.replace.new.bytes.items ≡ length a = ap (length {A = ℕ}) put ∙ length-with_slice a c.args.place new fits in
    let blocks = blocks_long p.irrevocable p.journal.items p.memory.items a c.replace.new.bytes.items p.logs.items (reverse p.marks.items) long in
    (λ i. record { memory = p.memory.items; arena = put i; blocks = blocks i; actions = p.actions.actions; wrote = p.wrote; irrevocable = p.irrevocable })
    ∙ ap (λ (u : Undoable). saved_in_arena u.state c.args.place new) c.self.view_is

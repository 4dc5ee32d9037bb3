use Rattle.std.proofs.Common.{◌≡◌, ◌+◌, ◌≤◌, ℕ, length, reverse, ap, sym, ◌∙◌, rules}
use Rattle.itm_model.proofs.Common.{Undoable, saved_in_arena, slice, with_slice}
use Rattle.itm_model.{proofs.Journals.Rollbacks.length-slice, proofs.Journals.Rollbacks.length-with_slice, proofs.OpenBlocks.blocks_long}
use Rattle.itm_model.proofs.plain.Plain.copy_in.Goals as goal

pub returns-clause-ok : goal.returns-clause-ok
returns-clause-ok c =
    let p = c.self.inside in
    let new = slice p.memory.items c.args.from c.args.size in
    let a = p.arena.items in
    let len : c.args.size ≡ length new = sym (length-slice p.memory.items c.args.from c.args.size (search rules)) in
    let fits : c.args.to + length new ≤ length a = search (rules, len) in
    let put : c.replace.new.bytes.items ≡ with_slice a c.args.to new = c.replace.ensures ∙ ap (with_slice a c.args.to) (c.range_at.ensures ∙ ap (λ t. slice t c.args.from c.args.size) c.deref.ensures.value) in
    let long : length c.replace.new.bytes.items ≡ length a = ap (length {A = ℕ}) put ∙ length-with_slice a c.args.to new fits in
    let blocks = blocks_long p.irrevocable p.journal.items p.memory.items a c.replace.new.bytes.items p.logs.items (reverse p.marks.items) long in
    (λ i. record { memory = p.memory.items; arena = put i; blocks = blocks i; actions = p.actions.actions; wrote = p.wrote; irrevocable = p.irrevocable })
    ∙ ap (λ (u : Undoable). saved_in_arena u.state c.args.to (slice u.state.memory c.args.from c.args.size)) c.self.view_is

use Rattle.std.proofs.Common.{◌≡◌, ◌≤◌, ◌+◌, ◌*◌, ℕ, length, reverse, refl, subst, sym, ◌∙◌}
use Rattle.itm_model.proofs.Common.{Undoable, blocks_of, length-reverse, pieces_in}
use Rattle.itm_model.{proofs.Journals.EntryBounds.few_entries, proofs.OpenBlocks.length-blocks_of, proofs.Journals.Overwrites.in_table}
use Rattle.itm_model.proofs.plain.Plain.kept.Goals as goal

pub returns-clause-few : goal.returns-clause-few
returns-clause-few c =
    let p = c.self.inside in
    let i = c.self.invariant in
    let j = p.journal.items in
    let m = p.memory.items in
    let blocks = blocks_of p.irrevocable j m p.arena.items p.logs.items p.marks.items in
    let count : length (reverse p.marks.items) ≡ length blocks = length-reverse p.marks.items ∙ sym (length-blocks_of p.irrevocable j m p.arena.items p.logs.items p.marks.items) in
    let few : length j ≤ length p.newest.items * (length (reverse p.marks.items) + 1) =
    few_entries (length p.newest.items) (length j) (length p.logs.items) j (reverse p.marks.items) refl i.under i.indexed.linked (in_table (length m) j p.newest.items i.indexed) i.once in
    let pieces : length j ≤ pieces_in (length m) * (length (reverse p.marks.items) + 1) = subst (λ (n : ℕ). length j ≤ n * (length (reverse p.marks.items) + 1)) i.indexed.count few in
    subst (λ (u : Undoable). u.kept ≤ pieces_in (length u.state.memory) * (length u.state.blocks + 1)) c.self.view_is
    (subst (λ (n : ℕ). length j ≤ pieces_in (length m) * (n + 1)) count pieces)

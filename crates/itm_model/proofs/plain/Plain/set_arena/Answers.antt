use Rattle.std.proofs.Common.{◌≡◌, ℕ, length, reverse, ap, sym, ◌∙◌}
use Rattle.itm_model.proofs.Common.{Undoable, put_back}
use Rattle.itm_model.proofs.OpenBlocks.{blocks_long}
use Rattle.itm_model.proofs.plain.Plain.set_arena.Goals as goal

pub returns : goal.returns
returns c =
    let p = c.self.inside in
    let new = c.copy_from_slice.new.self in
    let put : new.items ≡ c.args.arena.now = c.copy_from_slice.ensures.items in
    let view : length p.arena.items ≡ length c.args.self.now.state.arena = ap (λ (u : Undoable). length u.state.arena) c.self.view_is in
    let long : length new.items ≡ length p.arena.items = ap (length {A = ℕ}) put ∙ (c.requires ∙ sym view) in
    let blocks = blocks_long p.irrevocable p.journal.items p.memory.items p.arena.items new.items p.logs.items (reverse p.marks.items) long in
    (λ i. record {
      state = record { memory = p.memory.items; arena = put i; blocks = blocks i; actions = p.actions.actions; wrote = p.wrote; irrevocable = p.irrevocable };
      before = put_back p.journal.items p.memory.items;
      kept = length p.journal.items;
      deepest = p.deepest.blocks;
    })
    ∙ ap (λ (u : Undoable). record u { state = record u.state { arena = c.args.arena.now } }) c.self.view_is

use Rattle.std.proofs.Common.{ℕ, ◌+◌, length, ap, arith, rules, subst, sym}
use Rattle.norec_blocks.proofs.Common.{Free, IsSound, storing}
use Rattle.norec_blocks.{proofs.Counts.fits, proofs.StoredRows.sound_free}
use Rattle.norec_blocks.proofs.commits.ask_free.Goals as goal

pub returns-clause-sound : goal.returns-clause-sound
returns-clause-sound c =
    let s = c.args.state.now in
    subst (λ (n : ℕ). IsSound (record s { spent = s.spent + (n + c.args.loads + 1) }) Free) (sym c.len-rows.ensures.len) (sound_free s c.requires.sound c.args.loads c.requires.commit c.requires.few)

pub returns-clause-state : goal.returns-clause-state
returns-clause-state c =
    let s = c.args.state.now in
    ap (λ (n : ℕ). record s { spent = s.spent + (n + c.args.loads + 1) }) c.len-rows.ensures.len

pub overflow_add-state : goal.overflow_add-state
overflow_add-state c =
    let s = c.args.state.now in
    omega (arith, fits (storing s s.got (length s.frames.writes.rows + c.args.loads + 1)) Free (sound_free s c.requires.sound c.args.loads c.requires.commit c.requires.few) tt (omega (arith, c.len-rows.ensures.len, c.len-rows.type_inv)) (search rules))

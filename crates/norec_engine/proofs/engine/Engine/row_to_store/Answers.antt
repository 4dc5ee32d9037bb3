use Rattle.std.proofs.Common.{◌≡◌, ◌≢◌, ◌+◌, ◌<◌, ◌∙◌, [], None, length, ap, refl, subst, sym, arith}
use Rattle.norec_engine.proofs.Common.{AllWritesWithin-at, Commit, Core, IsWhole, Load, Row, Store, next_step, part_stage, step_in, whole_stage, write_at, write_at_of}
use Rattle.word_pieces.specs.Masks.{whole}
use Rattle.norec_turns.proofs.Phases.{loads_as, stores_as}
use Rattle.norec_engine.proofs.RowSteps.{exchanges}
use Rattle.norec_engine.proofs.engine.Engine.row_to_store.Goals as goal

pub row-written-requires : goal.row-written-requires
row-written-requires c =
    let s = c.self.inside in
    let x = exchanges s.irrevocable s.state s.pending c.args.self.now c.self.view_is c.self.invariant c.requires.back in
    subst (λ (e : Core). c.args.row < length e.writes) (sym x.same) c.requires.within

pub overflow_add-cell : goal.overflow_add-cell
overflow_add-cell c =
    let s = c.self.inside in
    let x = exchanges s.irrevocable s.state s.pending c.args.self.now c.self.view_is c.self.invariant c.requires.back in
    let rows = s.state.frames.writes.rows in
    let within : c.args.row < length rows = subst (λ (e : Core). c.args.row < length e.writes) (sym x.same) c.requires.within in
    let less = AllWritesWithin-at s.state.words rows c.args.row x.sound.in_phase.0.writes within in
    let is = ap (λ (r : Row). r.word) (write_at_of rows c.args.row c.row-written.result c.row-written.ensures.row) in
    omega (arith, less, is, x.sound.bounds.small)

pub returns-then-written-clause-cell : goal.returns-then-written-clause-cell
returns-then-written-clause-cell c =
    let s = c.self.inside in
    let x = exchanges s.irrevocable s.state s.pending c.args.self.now c.self.view_is c.self.invariant c.requires.back in
    ap (λ (r : Row). r.word + 1) (sym (write_at_of s.state.frames.writes.rows c.args.row c.row-written.result c.row-written.ensures.row)) ∙ ap (λ (e : Core). (write_at e.writes c.args.row).word + 1) x.same

pub returns-else-written-clause-cell : goal.returns-else-written-clause-cell
returns-else-written-clause-cell c =
    let s = c.self.inside in
    let x = exchanges s.irrevocable s.state s.pending c.args.self.now c.self.view_is c.self.invariant c.requires.back in
    ap (λ (r : Row). r.word + 1) (sym (write_at_of s.state.frames.writes.rows c.args.row c.row-written.result c.row-written.ensures.row)) ∙ ap (λ (e : Core). (write_at e.writes c.args.row).word + 1) x.same

pub returns-then-written-clause-whole : goal.returns-then-written-clause-whole
returns-then-written-clause-whole c =
    let s = c.self.inside in
    let x = exchanges s.irrevocable s.state s.pending c.args.self.now c.self.view_is c.self.invariant c.requires.back in
    let d = s.state in
    let rows = d.frames.writes.rows in
    let row = c.args.row in
    let r = c.row-written.result in
    let is : write_at rows row ≡ r = write_at_of rows row r c.row-written.ensures.row in
    let mask = ap (λ (x : Row). x.mask) is ∙ c.if-written.true in
    let within : row < length rows = subst (λ (e : Core). row < length e.writes) (sym x.same) c.requires.within in
    let step : step_in d.log.rows d.snapshot rows [] _ ≡ Store (r.word + 1) r.value =
    sym (ap (step_in d.log.rows d.snapshot rows []) (whole_stage Commit rows row within mask)) ∙ sym (stores_as r (write_at rows row) is None r.value refl) in
    (subst (λ (e : Core). IsWhole e row) x.same mask, subst (λ (e : Core). next_step e row ≡ Store (r.word + 1) r.value) x.same step)

pub returns-else-written-clause-part : goal.returns-else-written-clause-part
returns-else-written-clause-part c =
    let s = c.self.inside in
    let x = exchanges s.irrevocable s.state s.pending c.args.self.now c.self.view_is c.self.invariant c.requires.back in
    let d = s.state in
    let rows = d.frames.writes.rows in
    let row = c.args.row in
    let r = c.row-written.result in
    let is : write_at rows row ≡ r = write_at_of rows row r c.row-written.ensures.row in
    let mask : (write_at rows row).mask ≢ whole = λ m. c.if-written.false (ap (λ (x : Row). x.mask) (sym is) ∙ m) in
    let within : row < length rows = subst (λ (e : Core). row < length e.writes) (sym x.same) c.requires.within in
    let step : step_in d.log.rows d.snapshot rows [] _ ≡ Load (r.word + 1) =
    sym (ap (step_in d.log.rows d.snapshot rows []) (part_stage Commit rows row within mask)) ∙ sym (loads_as r (write_at rows row) is) in
    (subst (λ (e : Core). ¬ IsWhole e row) x.same mask, subst (λ (e : Core). next_step e row ≡ Load (r.word + 1)) x.same step)

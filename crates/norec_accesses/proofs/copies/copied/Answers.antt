use Rattle.std.proofs.Common.{ℕ, ◌<◌, List, length, refl, sym, ap, subst, ◌∙◌, arith, rules}
use Rattle.norec_accesses.proofs.Common.{Agrees, AllWritesWithin, AreFrames, AreRows, Idle, IsMemory, Nest, Row, arena_copied, begun_same, bytes_of, core, is_inside, overlay, rows_before, source_in, state_over, writes_copied}
use Rattle.norec_accesses.proofs.CopyCalls.Effects.{copies}
use Rattle.norec_accesses.proofs.CopyCalls.Sources.{rows_before-fit, copied_fits, overlay_for, length-arena_copied}
use Rattle.norec_accesses.proofs.copies.copied.Goals as goal

pub returns-clause-proceeds : goal.returns-clause-proceeds
returns-clause-proceeds c log =
    let s = c.args.state.now in
    let k = c.args.copying in
    let may = c.requires.may in
    let served = may.source.served in
    let before : List Row = rows_before s in
    let blocks = ap (λ (n : Nest). n.blocks) c.deliver.ensures.kept in
    let actions = ap (λ (n : Nest). n.actions) c.deliver.ensures.kept in
    let fits = rows_before-fit s.words s.written s.frames.writes.rows may.is_open.rows may.is_open.writes in
    let got = λ (m : List ℕ) (mem : IsMemory s.words m) (agrees : Agrees m s.log.rows).
    may.source.has m mem agrees
    ∙ ap (λ (x : List ℕ). source_in k.pair s.arena (bytes_of x) k.from k.size) (ap (overlay m) served.reserved ∙ overlay_for k k.pair m before mem.1 fits.0) in
    let all = λ (m : List ℕ) (mem : IsMemory s.words m) (agrees : Agrees m s.log.rows).
    copies s.frames.depth before s.frames.blocks s.arena s.frames.actions m s.words k may.is_open.is_open mem fits.0 served.accepted s.buffer.items c.deliver.ensures.bytes (got m mem agrees) in
    rw c.deliver.ensures.frame (record {
      meets = λ m mem agrees. (λ i. state_over (c.deliver.ensures.rows i) (blocks i) (c.deliver.ensures.arena i) (actions i) m) ∙ (all m mem agrees).0;
      reply_is = λ m mem agrees. (all m mem agrees).1;
      stays = (λ i. record (core (record s { arena = c.deliver.new.state.arena; frames = c.deliver.new.state.frames }) Idle) { depth = (c.deliver.ensures.kept i).depth; room = (c.deliver.ensures.kept i).room });
      writes = λ m mem agrees. c.deliver.ensures.rows ∙ ap (writes_copied before k k.pair) (got m mem agrees);
      arena = λ m mem agrees. c.deliver.ensures.arena ∙ ap (arena_copied s.arena k k.pair) (got m mem agrees);
      free = refl;
      revocable = refl;
      unfreed = refl;
      still = λ other o. ap is_inside blocks ∙ o;
      blocks = blocks;
      actions = actions;
      settled = λ o. (may.settled, may.bounds.even);
    })

pub returns-clause-goes : goal.returns-clause-goes
returns-clause-goes c = record {
  sound =
      (let s = c.args.state.now in
      let k = c.args.copying in
      let may = c.requires.may in
      let served = may.source.served in
      let before = rows_before s in
      let blocks = ap (λ (n : Nest). n.blocks) c.deliver.ensures.kept in
      let fits = rows_before-fit s.words s.written s.frames.writes.rows may.is_open.rows may.is_open.writes in
      let rows = copied_fits s.words (length s.arena) before k s.buffer.items fits.0 fits.1 served.accepted served.sized c.deliver.ensures.bytes in
      rw c.deliver.ensures.frame (record {
        asked = tt;
        sound = record {
          bounds = record {
            patient = may.bounds.patient;
            commits = may.bounds.commits;
            few = may.bounds.few;
            small = may.bounds.small;
            sized = ap (λ (n : Nest). n.size) c.deliver.ensures.kept ∙ (may.bounds.sized ∙ sym (ap (length {A = ℕ}) c.deliver.ensures.arena ∙ length-arena_copied s.words s.arena k s.buffer.items served.accepted served.sized));
            deep = subst (λ (n : ℕ). 0 < n) (sym (ap (λ (n : Nest). n.depth) c.deliver.ensures.kept)) may.bounds.deep;
            even = may.bounds.even;
          };
          reached = omega (arith, may.settled);
          in_phase = (
            λ o. (
              record {
                is_open = o;
                log = may.is_open.log;
                writes = subst (AllWritesWithin s.words) (sym c.deliver.ensures.rows) rows.1;
                rows = subst AreRows (sym c.deliver.ensures.rows) rows.0;
                frames = subst (AreFrames s.words) (sym blocks) may.is_open.frames;
                begun = begun_same s.log.rows s.log.rows s.frames.actions c.deliver.new.state.frames.actions s.frames.blocks c.deliver.new.state.frames.blocks refl (ap (λ (n : Nest). n.actions) c.deliver.ensures.kept) blocks may.is_open.begun;
                tries = may.is_open.tries;
              },
              may.settled,
            ),
            λ o. (let yes = ap is_inside blocks ∙ may.is_open.is_open in absurd (cc)),
          );
        };
      }));
  proceeds = returns-clause-proceeds c c.args.state.now.log.rows;
  stays = search rules;
  order = search rules;
  ends = search rules;
  tries = search rules;
}

use Rattle.itm_runtime.proofs.Common.{Load, cell_within, cells_of, fewer_left, fits_of, in_call, lawful_of, one_further, one_step, view_of}
use Rattle.itm_runtime.proofs.rounds.round.Goals as goal

pub loop-cell-init : goal.loop-cell-init
loop-cell-init g c =
    let seen = c.step-seen in
    one_step c.args.words.now (view_of c.args.pass.now) c.args.engine.now (Load 0) c.requires.due.0 c.requires.due.1 c.requires.own.over
    seen.new.pass _ _ seen.result (record { turn = seen.ensures.turn; moves = seen.ensures.moves }) seen.ensures.own c.round_started-next.ensures

-- ## A logged word

pub step-seen-requires-in-Some-clause-cell : goal.step-seen-requires-in-Some-clause-cell
step-seen-requires-in-Some-clause-cell g c =
    let on = c.loop-cell.invariant in
    let i = in_call c.args.words.now (view_of c.args.pass.now) c.args.engine.now (Load 0) c.requires.due.0 c.requires.due.1 c.requires.own.over _ _ _ on (Load c.in-Some.cell) c.in-Some.ensures.some.1.waits in
    cell_within (cells_of c.args.words.now) _ _ (Load c.in-Some.cell) on.own.over i.tied i.lawful

pub step-seen-requires-in-Some-clause-lawful : goal.step-seen-requires-in-Some-clause-lawful
step-seen-requires-in-Some-clause-lawful g c =
    let on = c.loop-cell.invariant in
    let i = in_call c.args.words.now (view_of c.args.pass.now) c.args.engine.now (Load 0) c.requires.due.0 c.requires.due.1 c.requires.own.over _ _ _ on (Load c.in-Some.cell) c.in-Some.ensures.some.1.waits in
    lawful_of _ _ i.tied (Load c.in-Some.cell) i.lawful

pub loop-cell-smaller : goal.loop-cell-smaller
loop-cell-smaller g c =
    let seen = c.step-seen-in-Some in
    fewer_left c.args.words.now (view_of c.args.pass.now) c.args.engine.now (Load 0) c.requires.due.0 c.requires.due.1 c.requires.own.over _ _ _ c.loop-cell.invariant (Load c.in-Some.cell) c.in-Some.ensures.some.1.waits
    seen.new.pass _ _ seen.result (record { turn = seen.ensures.turn; moves = seen.ensures.moves }) seen.ensures.own c.row_loaded-next.ensures

pub loop-cell-preserved : goal.loop-cell-preserved
loop-cell-preserved g c =
    let seen = c.step-seen-in-Some in
    one_further c.args.words.now (view_of c.args.pass.now) c.args.engine.now (Load 0) c.requires.due.0 c.requires.due.1 c.requires.own.over _ _ _ c.loop-cell.invariant (Load c.in-Some.cell) c.in-Some.ensures.some.1.waits
    seen.new.pass _ _ seen.result (record { turn = seen.ensures.turn; moves = seen.ensures.moves }) seen.ensures.own c.row_loaded-next.ensures

-- ## The clock at the end

pub step-seen-requires-then-ends_round-clause-lawful : goal.step-seen-requires-then-ends_round-clause-lawful
step-seen-requires-then-ends_round-clause-lawful g c =
    let ends = c.ends_round.ensures.0 c.if-ends_round.true in
    let i = in_call c.args.words.now (view_of c.args.pass.now) c.args.engine.now (Load 0) c.requires.due.0 c.requires.due.1 c.requires.own.over _ _ _ c.loop-cell.invariant (Load 0) ends.waits in
    lawful_of _ _ i.tied (Load 0) i.lawful

pub round_ended-next-requires-clause-fits : goal.round_ended-next-requires-clause-fits
round_ended-next-requires-clause-fits g c =
    let ends = c.ends_round.ensures.0 c.if-ends_round.true in
    let i = in_call c.args.words.now (view_of c.args.pass.now) c.args.engine.now (Load 0) c.requires.due.0 c.requires.due.1 c.requires.own.over _ _ _ c.loop-cell.invariant (Load 0) ends.waits in
    fits_of c.requires.due.0 _ _ _ _ (Load 0) i c.step-seen-then-ends_round.ensures.turn

pub returns-then-ends_round : goal.returns-then-ends_round
returns-then-ends_round g c =
    let ends = c.ends_round.ensures.0 c.if-ends_round.true in
    let seen = c.step-seen-then-ends_round in
    one_further c.args.words.now (view_of c.args.pass.now) c.args.engine.now (Load 0) c.requires.due.0 c.requires.due.1 c.requires.own.over _ _ _ c.loop-cell.invariant (Load 0) ends.waits
    seen.new.pass _ _ seen.result (record { turn = seen.ensures.turn; moves = seen.ensures.moves }) seen.ensures.own c.round_ended-next.ensures

use Rattle.std.proofs.Common.{refl, ◌+◌}
use Rattle.itm_runtime.proofs.Common.{Load, cells_of, goes, last_finishes, may_look, then_finishes, view_of}
use Rattle.itm_runtime.proofs.drive.finish_read.Goals as goal

pub step-clock-requires-clause-lawful : goal.step-clock-requires-clause-lawful
step-clock-requires-clause-lawful g c =
    may_look (cells_of c.args.words.now) (view_of c.args.pass.now) (view_of c.step-value.new.pass) c.requires.own.over c.step-value.ensures.own.over c.args.engine.now c.args.engine.now c.args.word c.step-value.result c.step-value.ensures.turn c.requires.loads.free c.requires.due.0 c.requires.due.1

pub finish_moved-requires-clause-due : goal.finish_moved-requires-clause-due
finish_moved-requires-clause-due g c =
    let looked = goes (cells_of c.args.words.now) (view_of c.args.pass.now) (view_of c.step-value.new.pass) c.requires.own.over c.step-value.ensures.own.over c.args.engine.now c.load_fast.new.self (Load (c.args.word + 1)) c.step-value.result c.step-value.ensures.turn _ c.load_fast.ensures.resumed c.requires.due.0 c.requires.due.1 in
    (c.requires.due.0, view_of c.step-value.new.pass, c.step-value.ensures.own.over, looked, c.step-clock.ensures.turn)

pub returns-then-clock-snapshot : goal.returns-then-clock-snapshot
returns-then-clock-snapshot g c =
    then_finishes refl c.step-value.ensures.moves c.step-value.ensures.turn c.step-value.ensures.own c.load_fast.ensures.resumed
    (c.finish_moved.ensures (view_of c.step-value.new.pass) (record { turn = c.step-clock.ensures.turn; moves = c.step-clock.ensures.moves }))

pub returns : goal.returns
returns g c =
    then_finishes refl c.step-value.ensures.moves c.step-value.ensures.turn c.step-value.ensures.own c.load_fast.ensures.resumed
    (last_finishes refl c.step-clock.ensures.moves c.step-clock.ensures.turn c.step-clock.ensures.own c.confirm_fast.ensures)

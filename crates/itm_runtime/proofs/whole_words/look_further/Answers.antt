use Rattle.std.proofs.Common.{◌+◌, ◌∙◌, false, sym}
use Rattle.itm_runtime.proofs.Common.{Asks, Load, R, Read, U8, start_of, starts, view_of}
use Rattle.itm_runtime.proofs.whole_words.look_further.Goals as goal

pub load_both-requires-clause-due : goal.load_both-requires-clause-due
load_both-requires-clause-due g c = (
  start_of (record { pass = c.args.pass.now; engine = c.args.engine.now }) (Read R U8 c.args.at) false,
  starts (view_of c.args.pass.now) c.args.engine.now c.read_fast.new.self (Read R U8 c.args.at) false c.requires.stands _ c.in-Some.ensures.called,
)

pub returns-in-Err : goal.returns-in-Err
returns-in-Err g c = (
  record {
    came = c.read_fast.new.self;
    first = Asks (Load (c.in-Some.word + 1));
    called = c.in-Some.ensures.called;
    finds = c.in-Err.ensures.moved.0;
  },
  c.in-Err.ensures.moved.1,
  λ is. c.in-Err.ensures.other (is ∙ sym c.in-Some.ensures.called.stays.snapshot),
)

use Rattle.std.proofs.Common.{[], ◌∷◌, ◌+◌, refl}
use Rattle.itm_runtime.proofs.Common.{Load, cells_of, may_look, view_of}
use Rattle.itm_runtime.proofs.whole_words.load_both.Goals as goal

pub step-clock-requires-clause-lawful : goal.step-clock-requires-clause-lawful
step-clock-requires-clause-lawful g c =
    may_look (cells_of c.args.words.now) (view_of c.args.pass.now) (view_of c.step-value.new.pass) c.requires.own.over c.step-value.ensures.own.over c.args.engine.now c.args.engine.now c.args.word c.step-value.result c.step-value.ensures.turn c.requires.loads.free c.requires.due.0 c.requires.due.1

pub returns-then-clock-snapshot-clause-moved : goal.returns-then-clock-snapshot-clause-moved
returns-then-clock-snapshot-clause-moved g c = (
  record {
    own = c.step-clock.ensures.own;
    steps = (Load (c.args.word + 1), c.step-value.result) ∷ [];
    before = view_of c.step-value.new.pass;
    step = Load 0;
    over = c.step-value.ensures.own.over;
    leads = (
      refl,
      view_of c.step-value.new.pass,
      c.load_fast.new.self,
      _,
      record { stepped = record { turn = c.step-value.ensures.turn; moves = c.step-value.ensures.moves }; over = c.step-value.ensures.own.over; resumed = c.load_fast.ensures.resumed },
      (refl, refl, refl),
    );
    stepped = record { turn = c.step-clock.ensures.turn; moves = c.step-clock.ensures.moves };
  },
  refl,
)

pub returns-clause-number : goal.returns-clause-number
returns-clause-number g c =
    let confirmed = c.confirm_number.ensures in
    record {
      own = c.step-clock.ensures.own;
      steps = (Load (c.args.word + 1), c.step-value.result) ∷ (Load 0, c.step-clock.result) ∷ [];
      leads = (
        refl,
        view_of c.step-value.new.pass,
        confirmed.loaded,
        _,
        record { stepped = record { turn = c.step-value.ensures.turn; moves = c.step-value.ensures.moves }; over = c.step-value.ensures.own.over; resumed = confirmed.asked },
        (
          refl,
          view_of c.step-clock.new.pass,
          c.confirm_number.new.self,
          _,
          record { stepped = record { turn = c.step-clock.ensures.turn; moves = c.step-clock.ensures.moves }; over = c.step-clock.ensures.own.over; resumed = confirmed.answered },
          (refl, refl, refl),
        ),
      );
    }

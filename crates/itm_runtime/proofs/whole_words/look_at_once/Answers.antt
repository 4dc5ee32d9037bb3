use Rattle.std.proofs.Common.{ℕ, ◌+◌, [], ◌∷◌, refl, subst, sym, ◌∙◌, arith}
use Rattle.itm_runtime.proofs.Common.{Asks, Bytes, Load, R, Reply, U8, cells_of, clock_next, view_of, word_first}
use Rattle.std.specs.Int.{w64, to_le_bytes}
use Rattle.norec_engine.specs.WholeReads.{IsConfirmed}
use Rattle.itm_runtime.proofs.whole_words.look_at_once.Goals as goal

pub step-value-requires : goal.step-value-requires
step-value-requires g c =
    let reads = c.requires.reads in
    let first = word_first (cells_of c.args.words.now) (view_of c.args.pass.now) c.requires.own.over c.args.engine.now c.requires.stands reads.revocable c.args.word (omega (arith, reads.new.at_is, reads.new.within)) in
    record { own = c.requires.own; cell = first.0; lawful = first.1 }

pub step-clock-requires : goal.step-clock-requires
step-clock-requires g c =
    let reads = c.requires.reads in
    let next = clock_next (cells_of c.args.words.now) (view_of c.args.pass.now) c.requires.own.over c.args.engine.now c.requires.stands reads.revocable c.args.word (omega (arith, reads.new.at_is, reads.new.within)) (view_of c.step-value.new.pass) c.step-value.result c.step-value.ensures.turn in
    record { own = c.step-value.ensures.own; cell = next.0; lawful = next.1 }

pub returns-then-clock-snapshot : goal.returns-then-clock-snapshot
returns-then-clock-snapshot g c = (
  record {
    came = c.ask_word.new.self;
    first = Asks (Load (c.args.word + 1));
    called = c.ask_word.ensures.called c.args.word c.requires.reads;
    finds = record {
      own = c.step-clock.ensures.own;
      steps = (Load (c.args.word + 1), c.step-value.result) ∷ [];
      before = view_of c.step-value.new.pass;
      step = Load 0;
      over = c.step-value.ensures.own.over;
      leads = (
        refl,
        view_of c.step-value.new.pass,
        c.load_fast.new.self,
        _,
        record { stepped = record { turn = c.step-value.ensures.turn; moves = c.step-value.ensures.moves }; over = c.step-value.ensures.own.over; resumed = c.load_fast.ensures.resumed },
        (refl, refl, refl),
      );
      stepped = record { turn = c.step-clock.ensures.turn; moves = c.step-clock.ensures.moves };
    };
  },
  refl,
  λ is. c.if-clock-snapshot.true (is ∙ sym c.snapshot.ensures),
)

pub returns : goal.returns
returns g c =
    let done = c.read_at_once.ensures R U8 c.args.at c.requires.reads in
    let confirmed : IsConfirmed done.mid c.step-value.result c.step-clock.result (Reply (Bytes (record { items = to_le_bytes w64 c.step-value.result }))) c.read_at_once.new.self =
    subst (λ (n : ℕ). IsConfirmed done.mid c.step-value.result n (Reply (Bytes (record { items = to_le_bytes w64 c.step-value.result }))) c.read_at_once.new.self) (sym (c.if-clock-snapshot.false ∙ c.snapshot.ensures)) done.confirmed in
    record {
      came = done.mid;
      first = Asks (Load (c.args.word + 1));
      called = done.called;
      finishes = record {
        own = c.step-clock.ensures.own;
        steps = (Load (c.args.word + 1), c.step-value.result) ∷ (Load 0, c.step-clock.result) ∷ [];
        leads = (
          refl,
          view_of c.step-value.new.pass,
          confirmed.loaded,
          _,
          record { stepped = record { turn = c.step-value.ensures.turn; moves = c.step-value.ensures.moves }; over = c.step-value.ensures.own.over; resumed = confirmed.asked },
          (
            refl,
            view_of c.step-clock.new.pass,
            c.read_at_once.new.self,
            _,
            record { stepped = record { turn = c.step-clock.ensures.turn; moves = c.step-clock.ensures.moves }; over = c.step-clock.ensures.own.over; resumed = confirmed.answered },
            (refl, refl, refl),
          ),
        );
      };
    }

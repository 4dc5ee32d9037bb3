use Rattle.std.proofs.Common.{arith, refl, rules}
use Rattle.norec_blocks.proofs.Common.{AllWritesWithin-at, stores_part}
use Rattle.norec_blocks.proofs.commits.back_loaded.Goals as goal

pub returns : goal.returns
returns c =
    let rows = c.args.state.now.frames.writes.rows in
    let phase = c.requires.sound.in_phase in
    record {
      sound = search rules;
      proceeds = record {
        unfreed = refl;
        lawful = (
          omega (arith, AllWritesWithin-at c.args.state.now.words rows c.args.row phase.0.is_open.writes phase.1),
          refl,
          λ r. record { some = phase.1; word_is = refl; value_is = λ m mem got. stores_part m rows c.args.row c.args.seen phase.1 got },
        );
        stays = refl;
      };
      stays = search rules;
      order = search rules;
      ends = tt;
      tries = search rules;
    }

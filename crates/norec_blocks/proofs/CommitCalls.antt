-- A commit that takes the clock: what the fields come to.
use Rattle.std.proofs.Common.{◌≡◌, ◌≢◌, ◌/◌, ◌<◌, false, List, [], ◌∷◌, length, true, arith, refl, rules}
use Rattle.norec_blocks.proofs.Common.{CallTurns, Commit, Data, Frame, Idle, IsSound, Row, Wait, in_block, is_inside, is_outermost}
use Rattle.norec_data.specs.declared.pending.Pending.TheVariants.{Exchange}
use Rattle.norec_blocks.specs.CommitCalls.{asking_commit}

inside : (blocks : List Frame) → is_outermost blocks ≡ true → is_inside blocks ≡ true
inside [] is = absurd (cc)
inside (b ∷ bs) is = refl

some_rows : (rows : List Row) → 0 < length rows → rows ≢ []
some_rows [] some is = omega (arith, some)
some_rows (r ∷ rs) some is = cc

pub asks : (s : Data) → IsSound s Idle → is_outermost s.frames.blocks ≡ true → 0 < length s.frames.writes.rows → s.snapshot / 2 < s.limits.max_commits → CallTurns s Commit false (Wait Exchange) (asking_commit s)
asks s sound outermost some free =
    let open_now : in_block s ≡ true = inside s.frames.blocks outermost in
    let p = sound.in_phase.0 open_now in
    let o = p.0 in
    record {
      sound = record {
        asked = tt;
        sound = record {
          bounds = sound.bounds;
          reached = sound.reached;
          in_phase = (
            record { is_open = o.is_open; log = o.log; writes = o.writes; rows = o.rows; frames = o.frames; begun = o.begun; tries = omega arith },
            record { wants = (outermost, some_rows s.frames.writes.rows some); grown = omega arith },
            p.1,
            free,
            omega arith,
          );
        };
      };
      proceeds = record { lawful = (refl, refl, open_now, refl, sound.bounds.even, free, refl); unfreed = refl; stays = refl };
      stays = record { opens = λ o. o; log = λ o. refl; snapshot = refl };
      order = search rules;
      ends = tt;
      tries = refl;
    }

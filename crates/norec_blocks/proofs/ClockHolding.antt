-- The clock is held as one step more is asked for.
use Rattle.std.proofs.Common.{ℕ, Option, ◌+◌, ◌*◌, arith}
use Rattle.norec_blocks.proofs.Common.{Data, IsHolding, wants_later}

pub holds_on : (s : Data) (got : Option ℕ) (row : ℕ) → IsHolding s s.taking (2 * row) → IsHolding (record s { got = got; spent = s.spent + 1 }) s.taking (2 * row + 1)
holds_on s got row hold =
    let o = hold.is_open in
    record {
      is_open = record { is_open = o.is_open; log = o.log; writes = o.writes; rows = o.rows; frames = o.frames; begun = o.begun; tries = o.tries };
      wants = wants_later s s.taking s.clock s.snapshot (s.spent + 1) hold.wants;
      settled = hold.settled;
      free = hold.free;
      spent = omega (arith, hold.spent);
    }

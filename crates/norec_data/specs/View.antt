-- The engine's fields as what its callers see.
use Rattle.std.specs.Prelude.{ℕ, Bool, true, false, List, [], ◌∷◌, ◌++◌, length, take, Option, None, Some}
use Rattle.itm_types.specs.declared.row.LogRow.{LogRow}
use Rattle.write_set.specs.declared.row.Row.{Row}
use Rattle.itm_types.specs.declared.call.Call.{Call}
use Rattle.itm_types.specs.declared.call.Call.TheVariants.{Begin, Commit, Mode, Read, Write, Copy, Fill}
use Rattle.itm_types.specs.declared.step.Step.{Step}
use Rattle.norec_core.specs.Aims.{Aim}
use Rattle.norec_core.specs.Aims as aims
use Rattle.norec_core.specs.declared.call_parts.Taking.TheVariants as takings
use Rattle.norec_core.specs.Phases.{Phase}
use Rattle.norec_core.specs.Phases as at
use Rattle.norec_core.specs.declared.call_parts.Purpose.{Purpose}
use Rattle.norec_core.specs.declared.call_parts.Purpose.TheVariants as for
use Rattle.norec_core.specs.declared.call_parts.Target.{Target}
use Rattle.norec_core.specs.declared.call_parts.Target.TheVariants as into
use Rattle.norec_core.specs.declared.call_parts.Reading.{Reading}
use Rattle.norec_core.specs.declared.call_parts.Taking.{Taking}
use Rattle.norec_data.specs.declared.pending.Cause.{Cause}
use Rattle.norec_data.specs.declared.pending.Cause.TheVariants as causes
use Rattle.norec_data.specs.declared.pending.Pending.{Pending}
use Rattle.norec_data.specs.declared.pending.Pending.TheVariants as waits
use Rattle.norec_data.specs.declared.data.Data.{Data}
use Rattle.norec_core.specs.Core.{Core, is_inside}
use Rattle.norec_core.specs.OwnAccesses.{word_of}
use Rattle.norec_core.specs.Rows.{row_at}
use Rattle.norec_core.specs.Order.{step_in, asked_in}

-- what a round is made for
abbrev pub aim_for : Cause → Reading → Taking → Aim
aim_for causes.Read r taking = aims.Read r
aim_for causes.Take r taking = aims.Take taking

abbrev pub aim_of : Data → Aim
aim_of d = aim_for d.cause d.reading d.taking

-- where the call in progress stands, by what it waits for and the fields
abbrev pub phase_of : Data → Pending → Phase
phase_of d waits.Idle = at.Idle
phase_of d waits.Begin = at.Begin d.opening
phase_of d waits.Take = at.Take d.opening
phase_of d waits.Load = at.Load d.reading
phase_of d (waits.Confirm value) = at.Confirm d.reading value
phase_of d waits.RoundStart = at.RoundStart (aim_of d)
phase_of d (waits.RoundRow row) = at.RoundRow (aim_of d) row
phase_of d waits.RoundEnd = at.RoundEnd (aim_of d)
phase_of d (waits.RoundBack row) = at.RoundBack (aim_of d) row
phase_of d waits.Exchange = at.Exchange d.taking
phase_of d (waits.BackLoad row) = at.BackLoad d.taking row
phase_of d (waits.Store row) = at.Store d.taking row d.got
phase_of d waits.Free = at.Free
phase_of d waits.Fetch = at.Fetch d.writing
phase_of d waits.Place = at.Place d.writing d.got

-- the call that an access is made for
abbrev pub call_for : Purpose → ℕ → Call
call_for (for.Value hint width) at = Read hint width at
call_for (for.Chunk k number) at = Copy k

abbrev pub call_of : Aim → Call
call_of (aims.Read r) = call_for r.purpose r.at
call_of (aims.Take takings.Commit) = Commit
call_of (aims.Take (takings.Mode room)) = Mode room
call_of (aims.Take (takings.Begin props room)) = Begin props room

abbrev pub doing_of : Phase → Option Call
doing_of at.Idle = None
doing_of (at.Begin b) = Some (Begin b.props b.room)
doing_of (at.Load r) = Some (call_of (aims.Read r))
doing_of (at.Confirm r value) = Some (call_of (aims.Read r))
doing_of (at.RoundStart aim) = Some (call_of aim)
doing_of (at.RoundRow aim row) = Some (call_of aim)
doing_of (at.RoundEnd aim) = Some (call_of aim)
doing_of (at.RoundBack aim row) = Some (call_of aim)
doing_of (at.Take b) = Some (Begin b.props b.room)
doing_of (at.Exchange taking) = Some (call_of (aims.Take taking))
doing_of (at.BackLoad taking row) = Some (call_of (aims.Take taking))
doing_of (at.Store taking row got) = Some (call_of (aims.Take taking))
doing_of _ = Some Commit

abbrev pub again_of : Phase → Bool
again_of (at.Begin b) = b.again
again_of (at.Take b) = b.again
again_of _ = false

-- the rows that were there as the call came: a copy's destination is given rows before its source is read
abbrev pub rows_before : Data → List Row
rows_before d = take d.written d.frames.writes.rows

abbrev pub writes_for : Data → Aim → List Row
writes_for d (aims.Read r) = rows_before d
writes_for d (aims.Take taking) = d.frames.writes.rows

-- the write set in this phase
abbrev pub writes_of : Data → Phase → List Row
writes_of d (at.Load r) = rows_before d
writes_of d (at.Confirm r value) = rows_before d
writes_of d (at.RoundStart aim) = writes_for d aim
writes_of d (at.RoundRow aim row) = writes_for d aim
writes_of d (at.RoundEnd aim) = writes_for d aim
writes_of d (at.RoundBack aim row) = writes_for d aim
writes_of d _ = d.frames.writes.rows

-- the step that the phase waits for
abbrev pub step_of : Data → Phase → Step
step_of d phase = step_in d.log.rows d.snapshot (writes_of d phase) d.gathered.items phase

abbrev pub waits_of : Data → Phase → Option Step
waits_of d phase = asked_in d.log.rows d.snapshot (writes_of d phase) [] phase

-- what was found of a row that differs
abbrev pub found_at : List LogRow → Option ℕ → ℕ → List LogRow
found_at log None row = []
found_at log (Some found) row = record { word = (row_at log row).word; value = found } ∷ []

abbrev pub fresh_of : List LogRow → Option ℕ → Phase → List LogRow
fresh_of log got (at.Confirm r value) = record { word = word_of r; value = value } ∷ []
fresh_of log got (at.RoundRow aim row) = take row log
fresh_of log got (at.RoundEnd aim) = log
fresh_of log got (at.RoundBack aim row) = take row log ++ found_at log got row
fresh_of log got _ = []

abbrev pub holds_of : Phase → Bool
holds_of (at.BackLoad taking row) = true
holds_of (at.Store taking row got) = true
holds_of at.Free = true
holds_of _ = false

abbrev pub done_of : List Row → Phase → ℕ
done_of writes (at.BackLoad taking row) = row
done_of writes (at.Store taking row got) = row
done_of writes at.Free = length writes
done_of writes _ = 0

abbrev pub got_of : Phase → Option ℕ
got_of (at.Store taking row got) = got
got_of _ = None

-- tries are of the call in progress
abbrev pub tries_of : Phase → ℕ → ℕ
tries_of at.Idle tries = 0
tries_of _ tries = tries

abbrev pub in_block : Data → Bool
in_block d = is_inside d.frames.blocks

-- the engine with these fields, in this phase
abbrev pub core : Data → Phase → Core
core d phase = record {
  words = d.words;
  patience = d.limits.patience;
  max_commits = d.limits.max_commits;
  restarts = d.limits.restarts;
  restarted = d.restarted;
  depth = d.frames.depth;
  arena = d.arena;
  snapshot = d.snapshot;
  clock = d.clock;
  fresh = fresh_of d.log.rows d.got phase;
  log = d.log.rows;
  writes = writes_of d phase;
  blocks = d.frames.blocks;
  actions = d.frames.actions;
  irrevocable = false;
  room = d.frames.room;
  holds = holds_of phase;
  done = done_of d.frames.writes.rows phase;
  freed = false;
  got = got_of phase;
  gathered = [];
  doing = doing_of phase;
  again = again_of phase;
  waits = waits_of d phase;
  spent = d.spent;
  stage = phase;
  tries = tries_of phase d.tries;
  entry = d.entry;
}

-- ## In an irrevocable transaction

abbrev pub placed_for : Data → Target → ℕ → Call
placed_for d (into.Value hint width) at = Write hint at d.value
placed_for d (into.Fill hint to byte size number) at = Fill hint to byte size
placed_for d (into.Chunk k number) at = Copy k

abbrev pub doing_held : Data → Phase → Option Call
doing_held d (at.Load r) = Some (call_for r.purpose r.at)
doing_held d (at.Fetch w) = Some (placed_for d w.target w.at)
doing_held d (at.Place w got) = Some (placed_for d w.target w.at)
doing_held d at.Free = Some Commit
doing_held d _ = None

abbrev pub got_held : Phase → Option ℕ
got_held (at.Place w got) = got
got_held _ = None

-- outside an access nothing is gathered
abbrev pub gathered_held : Data → Phase → List ℕ
gathered_held d (at.Load r) = d.gathered.items
gathered_held d (at.Fetch w) = d.gathered.items
gathered_held d (at.Place w got) = d.gathered.items
gathered_held d _ = []

-- the engine with these fields, in this phase of an irrevocable transaction: it holds the clock
abbrev pub held : Data → Phase → Core
held d phase = record {
  words = d.words;
  patience = d.limits.patience;
  max_commits = d.limits.max_commits;
  restarts = d.limits.restarts;
  restarted = d.restarted;
  depth = d.frames.depth;
  arena = d.arena;
  snapshot = d.snapshot;
  clock = d.clock;
  fresh = [];
  log = d.log.rows;
  writes = d.frames.writes.rows;
  blocks = d.frames.blocks;
  actions = d.frames.actions;
  irrevocable = true;
  room = d.frames.room;
  holds = true;
  done = 0;
  freed = false;
  got = got_held phase;
  gathered = gathered_held d phase;
  doing = doing_held d phase;
  again = false;
  waits = asked_in d.log.rows d.snapshot d.frames.writes.rows (gathered_held d phase) phase;
  spent = d.spent;
  stage = phase;
  tries = 0;
  entry = d.entry;
}

-- and between two calls
abbrev pub core_held : Data → Core
core_held d = held d at.Idle

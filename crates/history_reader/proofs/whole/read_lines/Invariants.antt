use Rattle.std.proofs.Common.{◌≡◌, ◌+◌, ◌≤◌, length}
use Rattle.history_reader.proofs.Common.{initial, is_feed, parts_say, slice_split}
use Rattle.history_reader.proofs.RoundTrips.ReadLines.{HasRead}
use Rattle.history_reader.proofs.whole.read_lines.Given as goal

abbrev pub invariant-loop-line : goal.invariant-loop-line
invariant-loop-line l = record {
  ahead : parts_say l.state (l.number + 1) (slice_split is_feed l.rest) ≡ parts_say initial 1 (slice_split is_feed l.text);
  before : HasRead l.text l.rest l.number l.state;
  small : l.number + length l.rest ≤ length l.text;
}

abbrev pub decreases-loop-line : goal.decreases-loop-line
decreases-loop-line l = length l.rest

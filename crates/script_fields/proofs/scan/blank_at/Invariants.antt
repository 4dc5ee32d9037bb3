use Rattle.std.proofs.Common.{◌≡◌, ◌+◌, ◌-◌, ◌≤◌, length, drop}
use Rattle.script_fields.proofs.Common.{is_blank, position_or_len}
use Rattle.script_fields.proofs.scan.blank_at.Given as goal

abbrev pub invariant-loop-at : goal.invariant-loop-at
invariant-loop-at l =
    (position_or_len is_blank l.line ≡ l.at + position_or_len is_blank (drop l.at l.line)) × (l.at ≤ length l.line)

abbrev pub decreases-loop-at : goal.decreases-loop-at
decreases-loop-at l = length l.line - l.at

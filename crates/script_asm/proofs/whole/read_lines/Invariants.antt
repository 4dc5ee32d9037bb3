use Rattle.std.proofs.Common.{◌≡◌, ◌+◌, ◌≤◌, Ok, length, take, drop, true}
use Rattle.script_asm.proofs.Common.{initial, is_plain, lines, lines_say, list_all}
use Rattle.script_asm.proofs.whole.read_lines.Given as goal

abbrev pub invariant-loop-line : goal.invariant-loop-line
invariant-loop-line l = record {
  ahead : lines_say l.state (l.number + 1) (lines l.rest) ≡ lines_say initial 1 (lines l.text);
  before : lines_say initial 1 (take l.number (lines l.text)) ≡ Ok l.state;
  rest : drop l.number (lines l.text) ≡ lines l.rest;
  small : l.number + length l.rest ≤ length l.text;
  plain : l.plain ≡ true → list_all (list_all is_plain) (lines l.rest) ≡ true;
}

abbrev pub decreases-loop-line : goal.decreases-loop-line
decreases-loop-line l = length l.rest

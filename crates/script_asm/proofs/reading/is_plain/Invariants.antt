use Rattle.std.proofs.Common.{◌≡◌, take}
use Rattle.script_asm.proofs.Common.{is_plain_or_feed, list_all}
use Rattle.script_asm.proofs.reading.is_plain.Given as goal

abbrev pub invariant-loop-b : goal.invariant-loop-b
invariant-loop-b l = l.plain ≡ list_all is_plain_or_feed (take l.b-index l.text)

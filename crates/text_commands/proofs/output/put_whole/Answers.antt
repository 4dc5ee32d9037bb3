use Rattle.text_commands.proofs.WrittenTexts.{flushed}
use Rattle.text_commands.proofs.output.put_whole.Goals as goal

pub returns : goal.returns
returns g c = flushed _ _ _ c.flush.result _ c.in_ok-put_pieces.ensures c.flush.ensures.bytes

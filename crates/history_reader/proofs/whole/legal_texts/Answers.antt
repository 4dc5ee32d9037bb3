use Rattle.history_reader.proofs.Canon.LegalTexts.{legal_text}
use Rattle.history_reader.proofs.whole.legal_texts.Goals as goal

pub returns : goal.returns
returns c h legal fits limited = legal_text h legal fits limited

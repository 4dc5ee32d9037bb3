use Rattle.std.proofs.Common.{length, ap, arith, ◌∙◌}
use Rattle.norec_accesses.proofs.Common.{Data, lookup, rows_before, take_all}
use Rattle.norec_accesses.proofs.new_words.begin_word.Goals as goal

pub returns-clause-unwritten : goal.returns-clause-unwritten
returns-clause-unwritten c =
    let word = c.in_ok-word.word in
    let rows = c.args.state.now.frames.writes.rows in
    ap (λ (d : Data). lookup word (rows_before d)) c.ask_word.ensures.state ∙ (ap (lookup word) (take_all (length rows) rows (omega arith)) ∙ c.in_ok-word.ensures.unwritten)

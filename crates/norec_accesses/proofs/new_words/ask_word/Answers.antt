use Rattle.std.proofs.Common.{[], false, refl, subst, sym, ◌∙◌}
use Rattle.norec_accesses.proofs.Common.{CallTurns, Read, Wait, asking_word}
use Rattle.norec_data.specs.declared.pending.Pending.TheVariants as waits
use Rattle.norec_accesses.proofs.ReadCalls.WholeReads.{asks}
use Rattle.norec_accesses.proofs.new_words.ask_word.Goals as goal

pub returns-clause-state : goal.returns-clause-state
returns-clause-state c =
    (λ i. record (c.start.ensures i) { reading = c.set_value.ensures i })
    ∙ (λ i. record (asking_word c.args.state.now c.args.hint c.args.width c.args.at) { gathered = record { items = c.new-state.ensures i }; written = c.len-state.ensures.len i })

pub returns-clause-called : goal.returns-clause-called
returns-clause-called c =
    let s = c.args.state.now in
    subst (CallTurns s (Read c.args.hint c.args.width c.args.at) false (Wait waits.Load)) (sym (returns-clause-state c))
    (asks s c.args.hint c.args.width c.args.at c.requires.new.0 c.requires.new.1 c.requires.sound (record { items = [] }) s.log refl refl c.requires.room)

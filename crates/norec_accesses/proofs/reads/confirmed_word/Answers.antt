use Rattle.std.proofs.Common.{arith}
use Rattle.norec_accesses.proofs.ReadCalls.ConfirmedWords.{confirms, may_join}
use Rattle.norec_accesses.proofs.reads.confirmed_word.Goals as goal

pub add-requires : goal.add-requires
add-requires c = (let may = may_join c.args.state.now c.args.word c.args.value c.requires.sound c.requires.word in record { room = may.0; word = may.1; first = may.2 })

pub returns : goal.returns
returns c = confirms c.args.state.now c.args.word c.args.value c.args.seen c.overlaid.result c.add.new.self c.requires.sound c.requires.word c.requires.same (omega arith) c.add.ensures.rows c.add.ensures.single c.overlaid.ensures

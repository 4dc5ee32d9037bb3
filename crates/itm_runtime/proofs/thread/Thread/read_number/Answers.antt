use Rattle.itm_runtime.proofs.Common.{R, Read, U8, answer_to_read, view_of}
use Rattle.itm_runtime.proofs.NumberAnswers.{read_number, told_of}
use Rattle.itm_runtime.proofs.thread.Thread.read_number.Goals as goal

pub number_of-requires : goal.number_of-requires
number_of-requires g c = record {
  number = λ on.
      (let t = c.read_slow.new.self in
      read_number c.args.self.now R c.args.at c.in-Ok.answer (view_of t.pass) t.engine c.in-Ok.ensures.served on);
}

pub returns-in-Ok : goal.returns-in-Ok
returns-in-Ok g c = told_of (answer_to_read c.number_of.result) c.in-Ok.answer c.args.words.now c.args.self.now (Read R U8 c.args.at) c.read_slow.new.self c.number_of.ensures c.in-Ok.ensures

use Rattle.std.proofs.Common.{false}
use Rattle.itm_runtime.proofs.Common.{Answers, Asks, R, Read, U8, cells_of, due_on, start_of, view_of}
use Rattle.itm_runtime.proofs.NumberAnswers.{read_number}
use Rattle.itm_runtime.proofs.numbers.read_from.Goals as goal

pub number_of-requires : goal.number_of-requires
number_of-requires g c = record {
  number = λ on.
      (let t = c.requires.done.0 in
      let d = c.requires.done.2 in
      let moved = c.go_on_from-answer in
      let k = moved.ensures d.before d.step c.requires.done.3 in
      let due = due_on (cells_of c.args.words.now) (start_of t (Read R U8 c.requires.done.1) false) k.steps d.before (view_of moved.new.pass) c.args.engine.now moved.new.engine (Asks d.step) (Answers moved.result) d.over d.in_call k.leads in
      read_number t R c.requires.done.1 moved.result (view_of moved.new.pass) moved.new.engine due.0 on);
}

pub returns : goal.returns
returns g c v step stepped = (c.go_on_from-answer.result, c.number_of.ensures, c.go_on_from-answer.ensures v step stepped)

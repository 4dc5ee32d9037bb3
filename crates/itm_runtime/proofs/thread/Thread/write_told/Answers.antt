use Rattle.std.proofs.Common.{false, subst}
use Rattle.itm_runtime.proofs.Common.{Datum, IsAnswered, IsThreadStarved, W, Write, answer_to_write, done_or, number, start_of, view_of}
use Rattle.itm_runtime.proofs.NumberAnswers.{told_of, write_done}
use Rattle.itm_runtime.proofs.thread.Thread.write_told.Goals as goal

pub tell_done-requires : goal.tell_done-requires
tell_done-requires g c =
    let new = c.write.new.self in
    let t = c.args.self.now in
    let value = number c.args.value in
    let answered : IsAnswered c.args.words.now (start_of t (Write W c.args.at value) false) c.in-Ok.answer new.pass new.engine =
    subst (λ (d : Datum). IsAnswered c.args.words.now (start_of t (Write W c.args.at d) false) c.in-Ok.answer new.pass new.engine) c.datum_of-datum.ensures c.in-Ok.ensures in
    record { done = λ on. write_done t W c.args.at value c.in-Ok.answer (view_of new.pass) new.engine answered.served on }

pub returns-in-Ok : goal.returns-in-Ok
returns-in-Ok g c =
    let new = c.write.new.self in
    let t = c.args.self.now in
    let value = number c.args.value in
    let answered : IsAnswered c.args.words.now (start_of t (Write W c.args.at value) false) c.in-Ok.answer new.pass new.engine =
    subst (λ (d : Datum). IsAnswered c.args.words.now (start_of t (Write W c.args.at d) false) c.in-Ok.answer new.pass new.engine) c.datum_of-datum.ensures c.in-Ok.ensures in
    told_of (answer_to_write (done_or c.tell_done.result c.tell_done.new.stop)) c.in-Ok.answer c.args.words.now t (Write W c.args.at value) new c.tell_done.ensures answered

pub returns-in-Err : goal.returns-in-Err
returns-in-Err g c = subst (λ (d : Datum). IsThreadStarved c.args.words.now c.args.self.now (Write W c.args.at d) c.write.new.self) c.datum_of-datum.ensures c.in-Err.ensures

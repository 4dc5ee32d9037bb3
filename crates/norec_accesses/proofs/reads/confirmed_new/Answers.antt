use Rattle.std.proofs.Common.{◌≡◌, List, None, subst, ◌∙◌, arith}
use Rattle.norec_accesses.proofs.Common.{Row, lookup, overlay-unwritten}
use Rattle.norec_accesses.{proofs.ReadCalls.ConfirmedWords.confirms, proofs.ReadCalls.ConfirmedWords.may_join, proofs.ReadCalls.Replies.all_before}
use Rattle.norec_accesses.proofs.reads.confirmed_new.Goals as goal

pub add-requires : goal.add-requires
add-requires c = (let may = may_join c.args.state.now c.args.word c.args.value c.requires.sound c.requires.word in record { room = may.0; word = may.1; first = may.2 })

pub returns : goal.returns
returns c =
    let s = c.args.state.now in
    let r = s.reading in
    let none : lookup c.args.word s.frames.writes.rows ≡ None = subst (λ (rows : List Row). lookup c.args.word rows ≡ None) (all_before s r.purpose r.at r.size c.requires.sound.in_phase.1.reading.purpose c.requires.word.value) c.requires.unwritten in
    confirms s c.args.word c.args.value c.args.seen c.args.value c.add.new.self c.requires.sound c.requires.word c.requires.same (omega arith) c.add.ensures.rows c.add.ensures.single (λ m there. overlay-unwritten m s.frames.writes.rows c.args.word none ∙ there)

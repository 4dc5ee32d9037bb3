use Rattle.std.proofs.Common.{◌≡◌, ◌∙◌, refl, ap, length, arith, rules}
use Rattle.norec_accesses.proofs.Common.{count, gathered, gathered-pieces_of, length-overlay, overlay, take_all-pieces_of}
use Rattle.norec_accesses.proofs.ReadCalls.Replies.{Finds, replies}
use Rattle.norec_accesses.proofs.reads.reply_gathered.Goals as goal

pub returns-clause-proceeds : goal.returns-clause-proceeds
returns-clause-proceeds c log =
    let s = c.args.state.now in
    let r = c.args.reading in
    let may = c.requires.may in
    let finds : Finds s r s.gathered.items = record {
      bounds = may.bounds;
      is_open = may.is_open;
      within = may.whole.within;
      purpose = may.whole.purpose;
      settled = may.settled;
      has = λ m mem agrees.
          (let under = overlay m s.frames.writes.rows in
          let size : length under ≡ s.words = length-overlay m s.frames.writes.rows ∙ mem.0 in
          may.whole.has m mem agrees
          ∙ (ap (gathered under) (take_all-pieces_of r.at r.size (count r) (omega arith))
          ∙ gathered-pieces_of under r.at r.size (omega (arith, size, may.whole.within))));
    } in
    replies s r s.gathered.items finds log r.purpose refl may.value

pub returns-clause-goes : goal.returns-clause-goes
returns-clause-goes c = search (rules, returns-clause-proceeds c c.args.state.now.log.rows)

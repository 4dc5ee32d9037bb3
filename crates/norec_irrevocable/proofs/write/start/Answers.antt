use Rattle.std.proofs.Common.{None, refl, arith, rules}
use Rattle.norec_irrevocable.proofs.Common.{Data, counted, some_count_of}
use Rattle.norec_irrevocable.proofs.Pieces.NextPlaces.{next_sound, places_later}
use Rattle.norec_irrevocable.proofs.write.start.Goals as goal

pub unreachable-requires : goal.unreachable-requires
unreachable-requires c =
    let may = c.requires.may in
    let none = rw c.in-None.is at c.next_place.ensures.past in
    absurd (omega (arith, some_count_of c.args.writing.at c.args.writing.size may.some, may.first, none))

pub returns-clause-goes : goal.returns-clause-goes
returns-clause-goes c bytes past same = record {
  sound =
      (let s = c.args.state.now in
      let w = c.args.writing in
      let h = c.requires.held in
      let may = c.requires.may in
      let e : Data = record s { writing = w; got = None } in
      let next = (rw c.in-Some.is at c.next_place.ensures.some) e refl refl in
      next_sound e w c.in-Some.pending
      (record { bounds = h.bounds; is_open = h.is_open; log = h.log; writes = h.writes; settled = h.settled; free = h.free; tries = h.tries })
      (record {
        within = may.within;
        small = may.small;
        some = next.1;
        sized = may.sized;
        target = places_later s (counted e) w.target w.at w.size refl refl refl refl may.target;
        spent = omega (arith, may.spent, may.first);
      })
      next);
  proceeds = search rules;
  comes = search rules;
  stays = record { opens = λ o. o; log = λ o. refl; snapshot = refl };
  order = search rules;
  ends = search rules;
}

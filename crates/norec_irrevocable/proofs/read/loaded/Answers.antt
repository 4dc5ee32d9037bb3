use Rattle.std.proofs.Common.{◌≡◌, ℕ, suc, ◌+◌, ◌<◌, ◌≤◌, ◌==◌, List, [], ◌++◌, drop, Some, slice_get, refl, sym, ap, subst, ◌∙◌, add-one, arith, eq-eqb}
use Rattle.norec_irrevocable.proofs.Common.{Core, Data, HeldTurns, IsSoundAfter, Load, Piece, Reading, Steps, Wait, access_saved, answered, call_for, cond-false, cond-true, count_of, counted, gathered, handed, held, in_call, kept, ne_eqb, none_there, part, part_of, piece_there, pieces_of, read_from, read_past, reading_of, word-pieces_of, word_of}
use Rattle.norec_irrevocable.proofs.Replies.PartsOfCalls.{comes_as}
use Rattle.norec_data.specs.declared.pending.Pending.TheVariants as waits
use Rattle.norec_irrevocable.proofs.Pieces.ChunkPhases.{first_piece}
use Rattle.norec_irrevocable.proofs.Replies.HeldAccesses.{gathers_on}
use Rattle.access_rules.proofs.Readings.{longer}
use Rattle.norec_irrevocable.proofs.Pieces.LoadedPieces.{gathers_all, loads_later, more_left, none_left, read_ends, reading_next, whole_length}
use Rattle.norec_irrevocable.proofs.read.loaded.Goals as goal

pub unreachable-requires : goal.unreachable-requires
unreachable-requires c =
    let r = c.args.state.now.reading in
    let past = none_there r.at r.size r.number (sym c.piece.ensures.value ∙ c.in_default.is) in
    absurd (omega (arith, past, c.requires.sound.in_phase.some))

more : (c : goal.After-next-1) → c.args.state.now.reading.number + 1 < count_of c.args.state.now.reading.at c.args.state.now.reading.size
more c =
    let r = c.args.state.now.reading in
    more_left r.at r.size (r.number + 1) c.piece-2.result (sym (c.piece-2.ensures.value ∙ ap (λ (x : Reading). slice_get (pieces_of x.at x.size) x.number) c.next-next.ensures)) (sym c.is_some.ensures ∙ c.if-is_some.true)

pub whole-requires-clause-loaded : goal.whole-requires-clause-loaded
whole-requires-clause-loaded c =
    let s = c.args.state.now in
    let r = c.args.state.now.reading in
    let loading = c.requires.sound.in_phase in
    let next = rw c.in-Some.is at c.piece.ensures.next in
    let left : count_of r.at r.size ≤ r.number + 1 = none_left r.at r.size (r.number + 1) c.piece-2.result (sym (c.piece-2.ensures.value ∙ ap (λ (x : Reading). slice_get (pieces_of x.at x.size) x.number) c.next-next.ensures)) (sym c.is_some.ensures ∙ c.if-is_some.false) in
    record {
      within = loading.within;
      small = loading.small;
      purpose = loads_later s (record s { gathered = c.gather.new.value }) r.purpose r.at r.size refl refl loading.purpose;
      sized = longer s.gathered.items c.gather.new.value.items _ _ c.in-Some.piece c.args.seen next.piece.in_word (next.reads_on []) loading.sized c.gather.ensures ∙ whole_length r.at r.size (r.number + 1) loading.small left;
      spent = omega (arith, loading.spent, loading.some);
    }

-- the piece that was loaded
this_part : (c : goal.After-next-1) → part_of c.in-Some.piece c.args.seen ≡ part_of (part c.args.state.now.reading) c.args.seen
this_part c = (let r = c.args.state.now.reading in ap (λ (p : Piece). part_of p c.args.seen) (piece_there r.at r.size r.number c.in-Some.piece (sym c.piece.ensures.value ∙ c.in-Some.is)).1)

pub returns-then-is_some : goal.returns-then-is_some
returns-then-is_some c =
    let s = c.args.state.now in
    let r = c.args.state.now.reading in
    record {
      sound =
          (let h = c.requires.sound.held in
          let loading = c.requires.sound.in_phase in
          let next = rw c.in-Some.is at c.piece.ensures.next in
          let n : Reading = record r { number = r.number + 1 } in
          let e : Data = record s { gathered = c.gather.new.value; reading = n } in
          subst (λ (x : Reading). IsSoundAfter (Wait waits.Load) (record e { reading = x })) (sym c.next-next.ensures) (
            record {
              held = record { bounds = h.bounds; is_open = h.is_open; log = h.log; writes = h.writes; settled = h.settled; free = h.free; tries = h.tries };
              in_phase = record {
                within = loading.within;
                small = loading.small;
                some = more c;
                purpose = loads_later s (counted e) r.purpose r.at r.size refl refl loading.purpose;
                sized = longer s.gathered.items c.gather.new.value.items _ _ c.in-Some.piece c.args.seen next.piece.in_word (next.reads_on []) loading.sized c.gather.ensures;
                spent = omega (arith, loading.spent);
              };
            },
            tt,
          ));
      proceeds =
          (let n = r.number in
          let e : Data = record s { gathered = c.gather.new.value; reading = record r { number = n + 1 } } in
          let within = c.requires.sound.in_phase.within in
          let word = word-pieces_of r.at r.size (n + 1) s.words (more c) within in
          let unsaved = cond-false (suc n == count_of r.at r.size) (access_saved r.purpose r.at s.arena (s.gathered.items ++ part_of (part r) c.args.seen)) s.arena (ne_eqb (suc n) (count_of r.at r.size) (λ same. omega (arith, same, more c))) in
          let kept_on = cond-false (n + 1 == 0) [] (s.gathered.items ++ part_of (part r) c.args.seen) (ne_eqb (n + 1) 0 (λ z. omega (arith, z))) in
          subst (λ (x : Reading). HeldTurns (handed (held s (Load r)) c.args.seen) (Wait waits.Load) (record e { reading = x })) (sym c.next-next.ensures)
          (record {
            lawful = (omega (arith, word), (c.requires.sound.held.is_open, λ x y. absurd (cc)));
            unfreed = refl;
            stays = (λ i. record (held (counted e) (Load (record r { number = n + 1 }))) {
              arena = sym unsaved i;
              gathered = (c.gather.ensures ∙ (ap (λ (t : List ℕ). s.gathered.items ++ t) (this_part c) ∙ sym kept_on)) i;
            });
          }));
      steps =
          (let n = r.number in
          let e : Data = record s { gathered = c.gather.new.value; reading = record r { number = n + 1 } } in
          subst (λ (x : Reading). Steps s (Load r) c.args.seen (Wait waits.Load) (record e { reading = x })) (sym c.next-next.ensures)
          (λ m mem found.
          (let is = piece_there r.at r.size n c.in-Some.piece (sym c.piece.ensures.value ∙ c.in-Some.is) in
          let there : slice_get m c.in-Some.piece.word ≡ Some c.args.seen = ap (λ (p : Piece). slice_get m p.word) is.1 ∙ found in
          let bytes : c.gather.new.value.items ++ gathered m (drop (n + 1) (pieces_of r.at r.size)) ≡ s.gathered.items ++ gathered m (drop n (pieces_of r.at r.size)) =
          (λ i. c.gather.ensures i ++ gathered m (drop (add-one n i) (pieces_of r.at r.size)))
          ∙ gathers_on m s.gathered.items r.at r.size n c.in-Some.piece c.args.seen (sym c.piece.ensures.value ∙ c.in-Some.is) there in
          (reading_next r.purpose r (n + 1) (kept s m) _ ∙ ap (λ (b : List ℕ). reading_of r.purpose r (kept s m) b) bytes, ap (λ (b : List ℕ). answered r.purpose b) bytes))));
      stays = record { opens = λ o. o; log = λ o. refl; snapshot = refl };
      order =
          (subst (λ (x : Reading). Load x ≡ read_from (read_past r.purpose) (record r { number = suc r.number })) (sym (c.next-next.ensures ∙ ap (λ (m : ℕ). record r { number = m }) (add-one r.number)))
          (first_piece (read_past r.purpose) (record r { number = suc r.number }) (omega (arith, more c))));
      ends = tt;
      snapshot = refl;
    }

-- the last piece was loaded
all_gathered : (c : goal.After-whole) → (m : List ℕ) → slice_get m (word_of c.args.state.now.reading) ≡ Some c.args.seen → c.gather.new.value.items ≡ c.args.state.now.gathered.items ++ gathered m (drop c.args.state.now.reading.number (pieces_of c.args.state.now.reading.at c.args.state.now.reading.size))
all_gathered c m found =
    let s = c.args.state.now in
    let r = c.args.state.now.reading in
    let left : count_of r.at r.size ≤ r.number + 1 = none_left r.at r.size (r.number + 1) c.piece-2.result (sym (c.piece-2.ensures.value ∙ ap (λ (x : Reading). slice_get (pieces_of x.at x.size) x.number) c.next-next.ensures)) (sym c.is_some.ensures ∙ c.if-is_some.false) in
    let this = sym c.piece.ensures.value ∙ c.in-Some.is in
    let there : slice_get m c.in-Some.piece.word ≡ Some c.args.seen = ap (λ (p : Piece). slice_get m p.word) (piece_there r.at r.size r.number c.in-Some.piece this).1 ∙ found in
    c.gather.ensures ∙ gathers_all m s.gathered.items r.at r.size r.number c.in-Some.piece c.args.seen this there (omega (arith, left))

pub returns-else-is_some : goal.returns-else-is_some
returns-else-is_some c =
    let s = c.args.state.now in
    let r = c.args.state.now.reading in
    let left : count_of r.at r.size ≤ r.number + 1 = none_left r.at r.size (r.number + 1) c.piece-2.result (sym (c.piece-2.ensures.value ∙ ap (λ (x : Reading). slice_get (pieces_of x.at x.size) x.number) c.next-next.ensures)) (sym c.is_some.ensures ∙ c.if-is_some.false) in
    record {
      sound = c.whole.ensures.sound;
      proceeds =
          (let n = r.number in
          let e : Data = record s { gathered = c.gather.new.value } in
          let bytes = s.gathered.items ++ part_of (part r) c.args.seen in
          let got : c.gather.new.value.items ≡ bytes = c.gather.ensures ∙ ap (λ (p : Piece). s.gathered.items ++ part_of p c.args.seen) (piece_there r.at r.size n c.in-Some.piece (sym c.piece.ensures.value ∙ c.in-Some.is)).1 in
          let saved = cond-true (suc n == count_of r.at r.size) (access_saved r.purpose r.at s.arena bytes) s.arena (eq-eqb (suc n) (count_of r.at r.size) (omega (arith, left, c.requires.sound.in_phase.some))) in
          let mid : record (in_call e (call_for r.purpose r.at) c.gather.new.value.items) { arena = access_saved r.purpose r.at s.arena c.gather.new.value.items } ≡ handed (held s (Load r)) c.args.seen =
          (λ i. record (in_call e (call_for r.purpose r.at) (got i)) { arena = (ap (access_saved r.purpose r.at s.arena) got ∙ sym saved) i }) in
          subst (λ (x : Core). HeldTurns x c.whole.result c.whole.new.state) mid c.whole.ensures.proceeds);
      steps = λ m mem found.
          (let bytes = all_gathered c m found in
          comes_as c.whole.result c.whole.new.state m (ap (reading_of r.purpose r (kept s m)) bytes, ap (answered r.purpose) bytes) (c.whole.ensures.comes m mem));
      stays = record { opens = c.whole.ensures.stays.opens; log = c.whole.ensures.stays.log; snapshot = c.whole.ensures.stays.snapshot };
      order =
          (c.whole.ensures.order ∙ sym (read_ends (read_past r.purpose) (record r { number = suc r.number }) (omega (arith, left))));
      ends = c.whole.ensures.ends;
      snapshot = c.whole.ensures.stays.snapshot;
    }

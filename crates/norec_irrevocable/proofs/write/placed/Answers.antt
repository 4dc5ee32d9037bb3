use Rattle.std.proofs.Common.{◌≡◌, ℕ, suc, ◌+◌, List, [], drop, None, slice_get, slice_set, refl, sym, ap, subst, ◌∙◌, add-one, arith, inl, inr, rules}
use Rattle.norec_irrevocable.proofs.Replies.PartsOfCalls.{comes_as}
use Rattle.norec_irrevocable.proofs.Common.{AreBytes, Data, Got, IsMemory, Phase, Piece, Place, StepsHeld, Writing, counted, held, is_piece, kept, no_pieces, piece_here, pieces_of, place_from, placed_past, placed_piece, placed_value, rest_of, step_of, written}
use Rattle.norec_core.specs.declared.answer.Next.TheVariants.{Step as Asks}
use Rattle.norec_irrevocable.proofs.Replies.HeldAccesses.{fits_stored, stores_on}
use Rattle.norec_irrevocable.proofs.Pieces.NextPlaces.{next_sound, places_later}
use Rattle.norec_irrevocable.proofs.Pieces.PlacedPieces.{placing_facts}
use Rattle.norec_irrevocable.proofs.write.placed.Goals as goal

-- the piece was stored, and the next one is waited for in this phase
abbrev StepsBy : Data → Phase → Data → Type 0
StepsBy s phase e = StepsHeld (held s (Place s.writing s.got)) 0 (Asks (step_of e phase)) (held (counted e) phase)

pub returns-in-Some : goal.returns-in-Some
returns-in-Some c =
    let s = c.args.state.now in
    let w = c.args.state.now.writing in
    record {
      sound =
          (let h = c.requires.sound.held in
          let placing = placing_facts s w s.got c.requires.sound.in_phase in
          let on : Writing = record w { number = w.number + 1 } in
          let e : Data = record s { writing = on; got = None } in
          let next = (rw c.in-Some.is at c.next_place.ensures.some) e refl refl in
          next_sound e on c.in-Some.pending
          (record { bounds = h.bounds; is_open = h.is_open; log = h.log; writes = h.writes; settled = h.settled; free = h.free; tries = h.tries })
          (record {
            within = placing.0.within;
            small = placing.0.small;
            some = next.1;
            sized = placing.0.sized;
            target = places_later s (counted e) w.target w.at w.size refl refl refl refl placing.0.target;
            spent = omega (arith, placing.0.spent);
          })
          next);
      proceeds = search rules;
      steps =
          (let facts = placing_facts s w c.args.state.now.got c.requires.sound.in_phase in
          let fit : AreBytes s.gathered.items = subst AreBytes c.deref.ensures.0 c.are_bytes.ensures in
          let next : Writing = record w { number = w.number + 1 } in
          let stored = λ (m : List ℕ) (found : Got c.args.state.now.got (slice_get m (placed_piece w).word)).
          ap (λ (x : ℕ). written (slice_set m (placed_piece w).word (placed_value w s.gathered.items c.args.state.now.got)) (drop x (pieces_of w.at w.size)) s.gathered.items) (add-one w.number)
          ∙ stores_on m s.gathered.items w c.args.state.now.got (piece_here w.at w.size w.number facts.0.some) fit facts.1 found in
          let e : Data = record s { writing = next; got = None } in
          elim ((rw c.in-Some.is at c.next_place.ensures.some) e refl refl).2 [
            | inl whole ↦ subst (λ (x : Phase). StepsBy s x e) (sym whole.1) (λ m mem found. (ap (λ (x : List ℕ). rest_of w.target (kept s x)) (stored m found), refl))
            | inr part ↦ subst (λ (x : Phase). StepsBy s x e) (sym part.1) (λ m mem found. (ap (λ (x : List ℕ). rest_of w.target (kept s x)) (stored m found), refl))
          ]);
      stays = record { opens = λ o. o; log = λ o. refl; snapshot = refl };
      order =
          (let next = (rw c.in-Some.is at c.next_place.ensures.some) (record c.args.state.now { writing = record w { number = w.number + 1 }; got = None }) refl refl in
          next.0 (placed_past w.target) ∙ ap (λ (x : ℕ). place_from (placed_past w.target) (record w { number = x })) (add-one w.number));
      ends = tt;
      snapshot = refl;
    }

pub returns-in-None : goal.returns-in-None
returns-in-None c =
    let w = c.args.state.now.writing in
    record {
      sound = (c.past.ensures c.args.state.now.gathered.items).sound;
      proceeds = (c.past.ensures c.args.state.now.gathered.items).proceeds;
      steps =
          (λ m mem found.
          (let s = c.args.state.now in
          let bytes = s.gathered.items in
          let facts = placing_facts s w c.args.state.now.got c.requires.sound.in_phase in
          let fit : AreBytes bytes = subst AreBytes c.deref.ensures.0 c.are_bytes.ensures in
          let past = rw c.in-None.is at c.next_place.ensures.past in
          let now = slice_set m (placed_piece w).word (placed_value w bytes c.args.state.now.got) in
          let none : drop (suc w.number) (pieces_of w.at w.size) ≡ [] = no_pieces w.at w.size (suc w.number) (omega (arith, past)) in
          let stored : now ≡ written m (drop w.number (pieces_of w.at w.size)) bytes =
          sym (ap (λ (ps : List Piece). written now ps bytes) none) ∙ stores_on m bytes w c.args.state.now.got (piece_here w.at w.size w.number facts.0.some) fit facts.1 found in
          let there : IsMemory s.words now = fits_stored s.words m bytes w c.args.state.now.got mem fit (is_piece w.at w.size w.number facts.0.small facts.0.some) found in
          comes_as c.past.result c.past.new.state now (ap (λ (x : List ℕ). rest_of w.target (kept s x)) stored, refl) ((c.past.ensures bytes).comes now there)));
      stays = (c.past.ensures c.args.state.now.gathered.items).stays;
      order =
          (let none = rw c.in-None.is at c.next_place.ensures.none in
          (c.past.ensures c.args.state.now.gathered.items).order ∙ (sym (none (placed_past w.target)) ∙ ap (λ (x : ℕ). place_from (placed_past w.target) (record w { number = x })) (add-one w.number)));
      ends = (c.past.ensures c.args.state.now.gathered.items).ends;
      snapshot = (c.past.ensures c.args.state.now.gathered.items).stays.snapshot;
    }

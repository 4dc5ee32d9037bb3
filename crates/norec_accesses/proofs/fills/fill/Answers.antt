use Rattle.std.proofs.Common.{◌≡◌, ℕ, ◌%◌, List, All, length, IsSome, false, refl, ap, sym, subst, ◌∙◌, arith}
use Rattle.norec_accesses.proofs.Common.{All-from_recursion, CallTurns, End, Fill, Piece, Row, Up, WriteHint, all_reserved, chunks_of, length-replicate, lookup, range_pieces, reserved_all}
use Rattle.norec_data.specs.declared.end.CallEnd.TheVariants as ends
use Rattle.norec_accesses.proofs.KeptFrames.{kept_on}
use Rattle.norec_accesses.proofs.CopyCalls.Fills.{none_filled, some_filled, fill_turns}
use Rattle.norec_accesses.proofs.fills.fill.Goals.{then-size-gt0+in_ok-set_all+in_ok-reserve_range, else-size-gt0}
use Rattle.norec_accesses.proofs.fills.fill.Goals as goal

pub returns-in-Some : goal.returns-in-Some
returns-in-Some c hint = c.refuse.ensures (Fill hint c.args.to c.args.byte c.args.size) c.args.to c.args.size refl (sym c.access_refusal.ensures.value ∙ c.in-Some.is)

pub put_range-requires-clause-room : goal.put_range-requires-clause-room
put_range-requires-clause-room c =
    let old = c.args.state.now.frames.writes.rows in
    let ps = range_pieces c.args.to (chunks_of Up (length c.deref.result.now)) in
    let size : c.args.size ≡ length c.deref.result.now = sym (ap (length {A = ℕ}) (c.deref.ensures.value ∙ c.in_ok-set_all.ensures) ∙ length-replicate c.args.size (c.args.byte % 256)) in
    let same : c.reserve_range.new.frames.writes.rows ≡ reserved_all old ps =
    c.in_ok-reserve_range.ensures.rows ∙ (λ i. reserved_all old (range_pieces c.args.to (chunks_of (c.new.ensures.direction i) ((c.new.ensures.size ∙ size) i)))) in
    subst (λ (rows : List Row). All (λ (p : Piece). IsSome (lookup p.word rows)) ps) (sym same)
    (All-from_recursion (λ (p : Piece). IsSome (lookup p.word (reserved_all old ps))) ps (all_reserved old ps))

-- the bytes are put, if there are some
filled_turn : (c : goal.After-start_call) (hint : WriteHint) → CallTurns c.args.state.now (Fill hint c.args.to c.args.byte c.args.size) false (End ends.Done) c.start_call.new.self
filled_turn c hint =
    let s = c.args.state.now in
    let to = c.args.to in
    let byte = c.args.byte in
    let size = c.args.size in
    let accepted = sym c.in_default.ensures.value in
    rw c.start_call.ensures (elim c.if-size-gt0.branch [
      | then-size-gt0+in_ok-set_all+in_ok-reserve_range w ↦ (
          let made = w.in_ok-reserve_range.ensures.rows ∙ (λ i. reserved_all s.frames.writes.rows (range_pieces to (chunks_of (w.new.ensures.direction i) (w.new.ensures.size i)))) in
          let is = some_filled s to byte size w.reserve_range.new.frames.writes.rows w.deref.result.now w.put_range.new.frames accepted made
          (w.deref.ensures.value ∙ w.in_ok-set_all.ensures) w.put_range.ensures.rows (kept_on s.frames w.reserve_range.new.frames w.put_range.new.frames w.reserve_range.ensures.kept w.put_range.ensures.kept) in
          let sound = c.requires.sound in
          rw w.state-is (fill_turns s to byte size w.put_range.new.frames w.set_all.new.buffer sound is hint))
      | else-size-gt0 w ↦ (
          let is = none_filled s to byte size accepted (omega (arith, w.if-size-gt0.false)) in
          let sound = c.requires.sound in
          rw w.state-is (fill_turns s to byte size s.frames s.buffer sound is hint))
    ])

pub returns : goal.returns
returns c hint = filled_turn c hint

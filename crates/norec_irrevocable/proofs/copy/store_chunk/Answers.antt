use Rattle.std.proofs.Common.{◌+◌, drop, refl, sym, subst, add-one, arith}
use Rattle.norec_irrevocable.proofs.Common.{AreBytes, Chunk, chunk_part, chunks_in, copied_each, direction_of}
use Rattle.norec_irrevocable.{proofs.Pieces.ChunkPhases.target_in_memory, proofs.Replies.HeldAccesses.kept_written, proofs.Replies.PartsOfCalls.turned}
use Rattle.norec_irrevocable.proofs.copy.store_chunk.Goals as goal

pub overflow_add-copying : goal.overflow_add-copying
overflow_add-copying c =
    let may = c.requires.may in
    let l = target_in_memory c.args.state.now c.args.copying c.args.number (record { at = c.args.at; size = c.args.size }) may.served may.shared may.chunk in
    omega (arith, l, c.requires.held.bounds.small)

pub start-requires-clause-may : goal.start-requires-clause-may
start-requires-clause-may c =
    let k = c.args.copying in
    let may = c.requires.may in
    let chunk : Chunk = record { at = c.args.at; size = c.args.size } in
    let part = chunk_part (direction_of k) k.size c.args.number chunk may.chunk in
    record {
      within = target_in_memory c.args.state.now k c.args.number chunk may.served may.shared may.chunk;
      small = part.small;
      some = part.some;
      first = refl;
      sized = may.sized;
      target = (record { served = may.served; chunk = chunk; is = may.chunk; start_is = refl; size_is = refl }, may.shared, may.source);
      spent = may.spent;
    }

pub returns-clause-goes : goal.returns-clause-goes
returns-clause-goes c bytes past same =
    let s = c.args.state.now in
    let k = c.args.copying in
    let may = c.requires.may in
    let l = target_in_memory s k c.args.number (record { at = c.args.at; size = c.args.size }) may.served may.shared may.chunk in
    let fit : AreBytes s.gathered.items = subst AreBytes c.deref.ensures.0 c.are_bytes.ensures in
    turned s s.arena s.gathered _ _ (c.start.ensures.goes bytes past same) refl refl
    (λ m mem. ((λ i. copied_each (kept_written s m s.gathered.items (k.to + c.args.at) c.args.size mem fit may.sized l i) k (drop (sym (add-one c.args.number) i) (chunks_in k))), refl))

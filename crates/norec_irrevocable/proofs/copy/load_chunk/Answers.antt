use Rattle.std.proofs.Common.{◌≡◌, ℕ, suc, ◌+◌, ◌-◌, List, ◌++◌, drop, refl, sym, ap, subst, ◌∙◌}
use Rattle.norec_irrevocable.proofs.Common.{ComesBy, Copy, Data, Done, HeldTurns, IsHeld, IsSoundAfter, Load, MayCopy, Reading, Wait, chunk_from, chunk_reading, chunks_in, copied_each, gathered, in_call, kept, pieces_of, target_written}
use Rattle.norec_data.specs.declared.pending.Pending.TheVariants as waits
use Rattle.access_rules.proofs.CopyChunks.{no_reading, reading_of}
use Rattle.norec_irrevocable.proofs.Pieces.ChunkPhases.{copy_over, load_asks, load_comes_next, load_sound}
use Rattle.norec_irrevocable.proofs.Pieces.HeldCopies.{chunk_comes}
use Rattle.norec_irrevocable.proofs.copy.load_chunk.Goals as goal

pub returns-in_default : goal.returns-in_default
returns-in_default c bytes =
    copy_over c.args.state.now c.args.copying c.args.number bytes c.requires.held c.requires.may.served (no_reading c.args.copying c.args.number (sym c.in_default.is ∙ c.chunk_reading.ensures.value))

-- nothing is gathered yet
abbrev start : goal.After-reading-2-1 → Reading → Data
start c r = record c.args.state.now { gathered = c.new-state.result; reading = r }

held_start : (c : goal.After-reading-2-1) (r : Reading) → IsHeld (start c r)
held_start c r = (let h = c.requires.held in record { bounds = h.bounds; is_open = h.is_open; log = h.log; writes = h.writes; settled = h.settled; free = h.free; tries = h.tries })

may_start : (c : goal.After-reading-2-1) (r : Reading) → MayCopy (start c r) c.args.copying c.args.number
may_start c r = record { served = c.requires.may.served; spent = c.requires.may.spent }

pub returns : goal.returns
returns c bytes =
    let s = c.args.state.now in
    let k = c.args.copying in
    let n = c.args.number in
    let loads = reading_of k n c.in-Some.reading (sym c.in-Some.is ∙ c.chunk_reading.ensures.value) in
    let chunk = loads.0 in
    let shared = c.requires.shared in
    let r : Reading = chunk_reading k n chunk in
    record {
      sound = subst (λ (x : Reading). IsSoundAfter (Wait waits.Load) (start c x)) (sym loads.2) (load_sound (start c r) k n chunk loads.1 shared (held_start c r) (may_start c r) c.new-state.ensures, tt);
      proceeds =
          subst (λ (x : Reading). HeldTurns (in_call s (Copy k) bytes) (Wait waits.Load) (start c x)) (sym loads.2)
          (load_asks (start c r) k n chunk loads.1 shared (held_start c r) c.requires.may.served c.new-state.ensures bytes);
      comes =
          subst (λ (x : Reading). ComesBy s (λ m. copied_each (kept s m) k (drop n (chunks_in k))) (λ m. Done) (Wait waits.Load) (start c x)) (sym loads.2)
          (λ m mem. (
            ap (λ (bytes : List ℕ). copied_each (target_written (kept s m) k.pair (k.to + (k.from + chunk.at - k.from)) (bytes ++ gathered m (pieces_of (k.from + chunk.at) chunk.size))) k (drop (suc n) (chunks_in k))) c.new-state.ensures
                ∙ chunk_comes s k c.requires.may.served n chunk loads.1 shared m mem,
            refl,
          ));
      stays = record { opens = λ o. o; log = λ o. refl; snapshot = refl };
      order = subst (λ (x : Reading). Load x ≡ chunk_from k n) (sym loads.2) (load_comes_next (start c r) k n chunk loads.1 shared);
      ends = tt;
    }

-- A vector is its cells and the way back. Assumes `Logic`.
use Rattle.std.proofs.Common.{◌≡◌, ℕ, ◌+◌, ◌*◌, ◌^◌, ◌<◌, List, [], ◌∷◌, length, true, refl, sym, arith, Vec}
use Rattle.shared_words.proofs.Common.{Extent, Frees, Ghosts, IsSend, Logic, RattleType, Ura, Val, assume, block_of, count_of, done, drop, each, ent, fall, feq, feq_i, feq_l, fjoin, flt_i, flt_l, fpack, frame, fsep, fsplit, full_share, fwand, id⊢, in_a_block, in_block, lies_at, move, never, nothing, part_at, part_keyless, sem, sendable, sep, show, strip, struct_send, wand, with_items, with_items_is, ‵, ◌$◌}
use Rattle.std.{proofs.lemmas.Bool.ne_eqb, proofs.lemmas.Bool.not_from_false, specs.Allocator.block_with_items}
use base.Fml.{ftrue}
use base.Shift.{Keyless}
use types.Kit.{◌∵◌, !, qed, by, use1, rewrite}
use types.SemTy.{cells}
use denote.Builtin.{u64}
use denote.Array.{Array}
use denote.ArrayMemory.{Array-apart, Array-whole}
use denote.Index.{row, whole_in, whole_out}
use denote.Memory.{mem}
use denote.RawPtr.{Ptr, block_ptr}
use denote.Struct.Declared as declared
use Rattle.std_alloc.{specs.Vec.Ownership.owns_if, specs.Vec.Ownership.has_block, proofs.SendSync.Vec-send}
use Rattle.std_alloc.specs.contracts.vec.Vec as V
use Rattle.shared_words.specs.contracts.in_place.Hollow as Hollow
use Rattle.shared_words.specs.contracts.in_place.Hollow.TheInside as Inside
use Rattle.shared_words.proofs.StructSteps.{plainly, one, one_made}

u64-send : IsSend u64
u64-send = search sendable

cells_keyless : (xs : List ℕ) (b o : ℕ) → Keyless (cells (mem u64) xs b o)
cells_keyless [] b o = tt
cells_keyless (x ∷ xs) b o = (part_keyless u64 u64-send full_share x b o, cells_keyless xs b (o + 8))

strip_keyless : (p : Ptr) (xs : List ℕ) → Keyless (strip u64 p xs)
strip_keyless p xs = ((λ _. tt), cells_keyless xs (block_of p) (count_of p))

pub hollow-send : (A : RattleType) (g : Ghosts A.Denot) → IsSend A → Frees g g.dealloc_token → IsSend (Hollow.the_row A g)
hollow-send A g s f = record {
  owned = λ e vs. (
    (λ _. tt),
    λ v. (
      tt,
      λ xs. (
        (tt, strip_keyless e.ptr xs),
        (struct_send (declared.shape (Inside.the_type A g)) (Vec-send u64 A g u64-send s f, tt)).owned (with_items v.vec xs, tt) vs,
      ),
    ),
  );
  leaving = λ k x w. tt;
}

module _ {M : Type 1} {𝓤 : Ura M} (𝓛 : Logic 𝓤) (b o : ℕ) (xs : List ℕ) where
  strips : (n : ℕ) → length xs * 8 < 2 ^ 63 → ent 𝓤 (sem 𝓛 (lies_at (Array u64 n) full_share (block_ptr b o) xs)) (sem 𝓛 (strip u64 (block_ptr b o) xs))
  strips n fit = qed 𝓛 (‵ (part_at (Array u64 n) full_share xs b o) ∷ []) ∵ use1 𝓛 (‵ (fsep (feq ℕ (length xs) n) (row u64 full_share xs b o))) (Array-apart 𝓛 u64 full_share tt n xs b o) $ fsplit ! $ drop ! $
      use1 𝓛 (‵ (cells (mem u64) xs b o)) (whole_in 𝓛 u64 xs b o) $ nothing ! $ fpack ! (Unit {0} × (length xs * 8 < 2 ^ 63)) (λ _. ftrue) (tt, fit) $ fjoin ! $ done !

  unstrips : (n : ℕ) → length xs ≡ n → ent 𝓤 (sem 𝓛 (strip u64 (block_ptr b o) xs)) (sem 𝓛 (lies_at (Array u64 n) full_share (block_ptr b o) xs))
  unstrips n e = qed 𝓛 (‵ (strip u64 (block_ptr b o) xs) ∷ []) ∵ fsplit ! $ drop ! $ use1 𝓛 (‵ (row u64 full_share xs b o)) (whole_out 𝓛 u64 xs b o) $
      feq_i ! ℕ (length xs) n e $ fjoin ! $ by ! (Array-whole 𝓛 u64 full_share n xs b o)

module _ (P : RattleType) (g : Ghosts P.Denot) {M : Type 1} {𝓤 : Ura M} (𝓛 : Logic 𝓤) (v : Vec ℕ P.Denot) (u : Val) where
  pub carve : 0 < v.len → ent 𝓤 (sem 𝓛 ((V.the_row u64 P g).own_val v (u ∷ []))) (sep 𝓤 (sem 𝓛 (strip u64 v.ptr v.items)) (sem 𝓛 (Hollow.the_own P g (record { ptr = v.ptr; len = v.len }) (one u ∷ []))))
  carve some =
      let live : has_block v.cap ≡ true = not_from_false _ (ne_eqb v.cap 0 (λ e. omega (arith, v.ok.1))) in
      let t = g.dealloc_token v.alloc in
      let Blk = λ (p : Ptr) (xs : List ℕ). block_with_items t u64 p v.len v.cap xs in
      let Given = λ (ys : List ℕ). fsep (feq ℕ (length ys) v.len) (strip u64 v.ptr ys) in
      let Whole = λ (ys : List ℕ). (plainly (V.the_row u64 P g ∷ [])).own_val (with_items v ys, tt) (one u ∷ []) in
      qed 𝓛 (‵ ((V.the_row u64 P g).own_val v (u ∷ [])) ∷ []) ∵ fsplit ! $ move ! (1 ∷ []) $ fsplit ! $ flt_l ! (λ room. flt_i ! (v.cap * 8) (2 ^ 63) room $ move ! (1 ∷ []) $
      in_a_block ! v.ptr (λ p. in_block p (owns_if (has_block v.cap) (Blk p v.items))) (id⊢ 𝓤 (never 𝓤)) (λ b o at.
      let fit : length v.items * 8 < 2 ^ 63 = omega (arith, v.ok.0, v.ok.1, room) in
      rewrite ! 0 (λ y. ‵ (owns_if y (Blk (block_ptr b o) v.items))) live refl $ fsplit ! $
      use1 𝓛 (‵ (strip u64 (block_ptr b o) v.items)) (strips 𝓛 b o v.items v.len fit) $
      rewrite ! 0 (λ p. ‵ (strip u64 p v.items)) (sym at) refl $ frame ! $
      -- [the spare room and the right to free; the bound; the fields]
      show ! (λ i. sem 𝓛 (fsep (feq Extent (record { ptr = i.vec.ptr; len = i.vec.len }) (record { ptr = v.ptr; len = v.len })) (fall (List ℕ) (λ ys. fwand (Given ys) ((plainly (V.the_row u64 P g ∷ [])).own_val (with_items i.vec ys, tt) (one u ∷ [])))))) (record { vec = v }) $
      feq_i ! Extent (record { ptr = v.ptr; len = v.len }) (record { ptr = v.ptr; len = v.len }) refl $ frame ! $ each ! (λ ys. wand 𝓤 (sem 𝓛 (Given ys)) (sem 𝓛 (Whole ys))) (λ ys. assume ! (‵ (Given ys)) $ fsplit ! $ feq_l ! (λ long.
      rewrite ! 0 (λ p. ‵ (strip u64 p ys)) at refl $ use1 𝓛 (‵ (lies_at (Array u64 v.len) full_share (block_ptr b o) ys)) (unstrips 𝓛 b o ys v.len long) $
      fjoin ! $
      rewrite ! 0 (λ xs. ‵ (Blk (block_ptr b o) xs)) (sym (with_items_is v ys long)) refl $
      let zs = (with_items v ys).items in
      rewrite ! 0 (λ y. ‵ (owns_if y (Blk (block_ptr b o) zs))) (sym live) refl $
      rewrite ! 0 (λ p. ‵ (in_block p (owns_if (has_block v.cap) (Blk p zs)))) (sym at) refl $
      move ! (1 ∷ 0 ∷ []) $ fjoin ! $ move ! (1 ∷ 0 ∷ []) $ fjoin ! $ one_made ! (V.the_row u64 P g) (with_items v ys) u $ done !))))

-- The box of what a handle holds, and the two structs that own as much as it does.
use Rattle.itm_c.proofs.Common.{Bx, D, R, RattleType, Ura, bare, block_ptr, box_in, cell_at, dnil, handle, impl, mem, part_at, part_of, tnil, token, with_kept, word, τ}
use Rattle.itm_c.proofs.Steps.{◌≡◌, ℕ, List, [], ◌∷◌, refl, Option, None, Some, IsSome, full_share, ent, sep, id⊢, Fml, fsep, Val, Logic, sem, ‵, ◌$◌, ◌∵◌, !, qed, done, move, use1, fsplit, fjoin, fpack}
use Rattle.std_heap.specs.contracts.Global as Heap
use Rattle.std_heap.specs.contracts.GlobalAllocator.TheImpl.{ghosts, dict}
use Rattle.std_heap.proofs.Global.TheLaws as heap
use Rattle.itm_c.specs.contracts.kept.Kept as Kept
use Rattle.itm_c.proofs.kept.Kept.TheLaws as kept
use Rattle.itm_c.specs.contracts.parts.Parts as Parts
use Rattle.itm_c.specs.contracts.handle.Handle as Handle

abbrev pub Held : RattleType
Held = Kept.the_row

abbrev pub InBox : Bx
InBox = record { row = Held; laws = kept.the_row_laws; al = record { row = Heap.the_row; laws = heap.the_row_laws; g = ghosts; d = dict; drops = impl [] tnil dnil } }

abbrev pub Taken : RattleType
Taken = Parts.the_row Held Heap.the_row ghosts

abbrev pub Handed : RattleType
Handed = Handle.the_row

-- the box that the parts were
abbrev pub box_of_parts : Taken.Denot → D InBox
box_of_parts p = record { ptr = p.ptr; alloc = p.alloc; value = p.value }

-- the box that a handle of this value is
abbrev pub box_of_handle : Handed.Denot → Held.Denot → D InBox
box_of_handle h x = record { ptr = h.at; alloc = h.alloc; value = x }

-- what the handle holds, where it holds something
pub held_by : (o : Option Held.Denot) → IsSome o → (x : Held.Denot) × (o ≡ Some x)
held_by (Some x) is = (x, refl)
held_by None is = absurd (cc)

module _ {M : Type 1} {𝓤 : Ura M} (𝓛 : Logic 𝓤) (h : Handed.Denot) (b c n o : ℕ) (a : Val) where
  -- all of a handle but what it holds
  abbrev pub Around : Fml
  Around = fsep (fsep (token InBox.al h.alloc (bare (τ InBox)) (block_ptr n o)) (handle InBox h.alloc a)) (cell_at full_share Handed.mir (word InBox a n o ∷ []) b c)

  -- with anything in its place it is a handle again
  pub refilled : h.at ≡ block_ptr n o → (x : Held.Denot) → ent 𝓤 (sep 𝓤 (sem 𝓛 ((mem Held).own_at x n o)) (sem 𝓛 Around)) (sem 𝓛 ((mem Handed).own_at (with_kept h x) b c))
  unfolding part_of
  refilled at x =
      qed 𝓛 (‵ (part_at (R InBox) full_share x n o) ∷ ‵ Around ∷ []) ∵ move ! (1 ∷ []) $ fsplit ! $ fsplit ! $ move ! (3 ∷ []) $
      box_in InBox ! (box_of_handle h x) n o x at refl $ use1 𝓛 (‵ (Handed.own_val (with_kept h x) (word InBox a n o ∷ []))) (id⊢ 𝓤 _) $ move ! (1 ∷ 0 ∷ []) $ fjoin ! $
      fpack ! (List Val) (λ us. fsep (cell_at full_share Handed.mir us b c) (Handed.own_val (with_kept h x) us)) (word InBox a n o ∷ []) $ done !

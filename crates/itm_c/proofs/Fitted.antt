-- Cells that lie in a vector's block, with no block of their own. Assumes `Logic`.
use Rattle.itm_c.proofs.Steps.{◌≡◌, ℕ, ◌^◌, ◌<◌, List, [], ◌∷◌, refl, sym, ftrue, ‵, ◌$◌, ◌∵◌, !, qed, done, move, keep, drop, use0, fsplit, fsplit3, fjoin, rewrite, nothing, Fml, Logic, sem, ent}
use Rattle.std.proofs.Common.{◌*◌, ◌+◌, ◌-◌, ◌≤◌, true, suc, zero, arith}
use Rattle.itm_c.proofs.Common.{Good, Ptr, RawPtr, Ty, Ura, bare, block_ptr, block_with_items, by, flt_i, flt_l, has_block, lit<, lodged, lone, null_ptr, owns_if, ptr_val, ty_array, u64, vec_owns}
use Rattle.std.proofs.lemmas.Bool.{ne_eqb, not_from_false}
use base.Fml.{froom, flt, ffalse}
use base.Logic.{never_e}
use Rattle.std_alloc.proofs.RawLayout.{as_raw}

module _ {M : Type 1} {𝓤 : Ura M} (𝓛 : Logic 𝓤) (t : Ty → Ptr → Fml) where
  -- what room is behind them stays behind
  pub fitted : (p : Ptr) (n c : ℕ) (xs : List ℕ) → n ≤ c → ent 𝓤 (sem 𝓛 (vec_owns t u64 p n c xs)) (sem 𝓛 (lodged u64 p n n xs))
  fitted null_ptr n c xs le = qed 𝓛 (‵ (flt (c * 8) (2 ^ 63)) ∷ ‵ ffalse ∷ []) ∵ keep ! (1 ∷ []) $ by ! (never_e 𝓤 _)
  fitted (block_ptr b o) zero c xs le = qed 𝓛 (‵ (vec_owns t u64 (block_ptr b o) 0 c xs) ∷ []) ∵ drop ! $ nothing ! $ flt_i ! 0 (2 ^ 63) (lit< tt) $ done !
  fitted (block_ptr b o) (suc m) c xs le =
      let n = suc m in
      let had : has_block c ≡ true = not_from_false _ (ne_eqb c 0 (λ e. omega (arith, le))) in
      let has : has_block n ≡ true = not_from_false _ (ne_eqb n 0 (λ e. omega arith)) in
      let none : 0 ≡ n - n = omega arith in
      qed 𝓛 (‵ (vec_owns t u64 (block_ptr b o) n c xs) ∷ []) ∵ fsplit ! $ flt_l ! (λ fit.
      rewrite ! 0 (λ y. ‵ (owns_if y (block_with_items t u64 (block_ptr b o) n c xs))) had refl $ fsplit3 ! $ keep ! (0 ∷ []) $
      nothing ! $ use0 𝓛 (‵ (froom (ty_array (lone (u64).mir) 0) b (o + n * 8))) (𝓛.laws.room_nil (lone (u64).mir) b (o + n * 8)) $ as_raw ! (ty_array (lone (u64).mir) 0) b (o + n * 8) $
      rewrite ! 0 (λ (k : ℕ). ‵ (froom (bare (ty_array (lone (u64).mir) k)) b (o + n * 8))) none refl $ fjoin ! $ move ! (1 ∷ 0 ∷ []) $ fjoin ! $
      rewrite ! 0 (λ y. ‵ (owns_if y (block_with_items (λ _ _. ftrue) u64 (block_ptr b o) n n xs))) (sym has) refl $ flt_i ! (n * 8) (2 ^ 63) (omega (arith, le, fit)) $ fjoin ! $ done !)

pub pointer_good : (p : Ptr) → Good RawPtr (ptr_val p)
pointer_good null_ptr = (tt, record { fits = lit< tt })
pointer_good (block_ptr b o) = (tt, tt)

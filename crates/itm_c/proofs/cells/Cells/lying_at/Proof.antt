-- `lying_at` takes the cells out of the vector where they lie, and leaves what room is behind them.
use Rattle.itm_c.proofs.Steps.{◌≡◌, ℕ, ◌^◌, ◌<◌, List, [], ◌∷◌, ◌++◌, refl, ap, ◌∙◌, proved_at, full_share, emp, id⊢, ftrue, fsep, flft, Val, fact, fact_i, tables, ‵, raw, ◌⊛◌, some, later, prop, ◌$◌, ◌∵◌, !, qed, done, move, keep, drop, use0, use1, split, split3, join, fsplit, fjoin, feq_i, feq_l, pick, await, rewrite, regoal, suffices, agg, enter, of_opd, no_more, and_then, returns, alloc_all, pass_all, free_all, look_at, get, sets, yes, no, plain, nothing, heard, only, triple_of, Stays, walk_of, says, stay_dropped, Goes-dropped, ends_at}
use Rattle.std.proofs.Common.{◌*◌, ◌+◌, ◌-◌, Vec, arith}
use Rattle.itm_c.proofs.Common.{Good, Laws, Ptr, RattleType, RawPtr, WpFn, as_fields, calls_at, copy_shared, flt_i, flt_l, framed, ghosts, lodged, of_field, ptr_val, tells, two, two_made, ty_int, ty_ptr, u64, u64-copy, u64-field, u64-laws, usize, vint, w64, ⊑_refl, ◌⊑◌}
use denote.Exit.{left as left_at}
use types.ByLocal.{lands_as}
use Rattle.itm_c.proofs.Fitted.{fitted, pointer_good}
use Rattle.std_alloc.specs.contracts.vec.Vec as V
use Rattle.std_alloc.specs.contracts.vec.lodged.Lodged as L
use Rattle.std_alloc.specs.contracts.vec.lodged.Vec+T+Lodged.dislodge as g
use Rattle.std_alloc.proofs.vec.Vec.TheLaws as vec
use Rattle.std_alloc.proofs.vec.lodged.Lodged.TheLaws as lodged_type
use Rattle.std_alloc.proofs.vec.lodged.Vec+T+Lodged.dislodge.Met.{met}
use Rattle.itm_c.specs.contracts.cells.Cells as Cells
use Rattle.itm_c.specs.contracts.cells.Cells.lying_at as f
use Rattle.itm_c.proofs.cells.Cells.lying_at.Statement.{statement}
use Rattle.itm_c.proofs.cells.Cells.lying_at.Code as code

abbrev number_laws : Laws u64
number_laws = of_field u64-field u64-laws refl (copy_shared u64-field u64-copy)

abbrev Made : RattleType
Made = V.the_row u64 L.the_row ghosts

abbrev made_laws : Laws Made
made_laws = vec.the_row_laws u64 L.the_row ghosts number_laws lodged_type.the_row_laws

abbrev stayed : Stays (f.ended).signature.params (f.ended).kept
stayed = (stay_dropped (plain (λ _. RawPtr)) yes, (stay_dropped (plain (λ _. Made)) yes, tt))

pub lying_at_spec : {M : Type 1} → statement M
lying_at_spec 𝓤 𝓛 𝓜 𝓡 wired =
    let c = f.clauses 𝓛 𝓜.mem 𝓡.returns in let 𝓣 = tables 𝓤 𝓛.H 𝓜 𝓡 𝓡.env in
    proved_at 𝓛 f.ended stayed c 𝓜 𝓡 (Goes-dropped 𝓛 0 (plain (λ _. RawPtr)) yes (λ κs x w. refl), (Goes-dropped 𝓛 0 (plain (λ _. Made)) yes (λ κs x w. refl), tt))
    f.Key.name code.function (code.unfolded 𝓤 𝓛.H 𝓜 𝓡 wired) (λ y are.
    let at = y.0.3.0 in let v = y.0.3.1.0 in let n = v.len in let vs = y.0.4.0 in let ws = y.0.4.1.0 in let Post = (walk_of 𝓛 f.ended stayed c).post y in
    let Call = triple_of 𝓛 (g.signature u64) (g.spec u64 𝓛 𝓜.mem 𝓡.returns) in
    qed 𝓛 ((‵ ftrue ⊛ ‵ (fsep (RawPtr.own_val at vs) (fsep (Made.own_val v ws) ftrue))) ∷ raw (fact 𝓤 (v.ptr ≡ at)) ∷ []) ∵ split ! $ drop ! $
    move ! (1 ∷ []) $ heard ! (v.ptr ≡ at) (λ here. fsplit ! $ feq_l ! (λ ptr. fsplit ! $ tells ! Made made_laws v ws (λ u is good.
    regoal ! (λ (us : List Val). prop (WpFn 𝓤 𝓛.H 𝓣.C 𝓣.Λ code.function (us ++ (ws ++ [])) Post)) ptr refl $
    regoal ! (λ (us : List Val). prop (WpFn 𝓤 𝓛.H 𝓣.C 𝓣.Λ code.function ((ptr_val at ∷ []) ++ (us ++ [])) Post)) is refl $
    enter ! _ _ _ _ _ $ alloc_all ! (λ l. pass_all ! refl (pointer_good at, (good, tt)) $
    sets ! (of_opd ! (get ! refl)) refl good $
    let z : Call.Ghost = ((([], tt), (full_share, tt), tt, (v, tt), (u ∷ [], tt)), tt) in
    nothing ! $ use0 𝓛 (raw (fact 𝓤 ([] ⊑ []))) (fact_i 𝓤 ([] ⊑ []) (emp 𝓤) (⊑_refl [])) $ join ! $
    nothing ! $ move ! (2 ∷ 0 ∷ []) $ fjoin ! $ nothing ! $ use0 𝓛 (‵ (flft [] full_share)) (𝓛.lfts.lft-nil full_share) $ join ! $ join ! $ join ! $ use1 𝓛 (raw (Call.pre z)) (id⊢ 𝓤 _) $
    calls_at ! (framed 𝓤 𝓛.H 𝓜 𝓣) Call (met 𝓤 𝓛 𝓜 𝓡 (code.calls-std_alloc::vec::lodged::Vec+T+Lodged::dislodge 𝓡.env wired) u64 number_laws) z (and_then ! (get ! refl) (no_more !)) (λ w.
    use1 𝓛 (later (some (λ (r : ℕ). ((‵ (flft [] full_share) ⊛ ‵ ftrue) ⊛ ‵ (usize.own_val r (w ∷ []))) ⊛
    some (λ (ls : Unit {0} × Unit {0}). ‵ (fsep (left_at (Made.exit no) v ls.0) ftrue) ⊛ raw (fact 𝓤 (r ≡ n)) ⊛ ‵ (lodged u64 v.ptr n v.cap v.items))))) (id⊢ 𝓤 _) $ await ! tt $ pick ! (λ r.
    split ! $ move ! (1 ∷ []) $ pick ! (λ ls. split3 ! $ drop ! $ heard ! (r ≡ n) (λ counts. move ! (1 ∷ []) $ split ! $ drop ! $ fsplit ! $ feq_l ! (λ e. flt_l ! (λ low. fsplit ! $ flt_l ! (λ room.
    let fits : n < 2 ^ 64 = omega (arith, low, counts) in
    let s : (Cells.the_row).Denot = record { at = at; count = n; items = v.items; counted = v.ok.0; few = omega (arith, v.ok.1, room) } in
    let number : Good usize (vint w64 n) = (tt, record { fits = fits }) in
    flt_i ! (v.cap * 8) (2 ^ 63) room $ fjoin ! $ rewrite ! 0 (λ (p : Ptr). ‵ (lodged u64 p n v.cap v.items)) here refl $ use1 𝓛 (‵ (lodged u64 at n n v.items)) (fitted 𝓛 (λ _ _. ftrue) at n v.cap v.items v.ok.1) $
    lands_as ! (ap only e ∙ ap (vint w64) counts) refl number $
    sets ! (agg ! (and_then ! (get ! refl) (and_then ! (get ! refl) (no_more !)))) refl (as_fields (ty_ptr ∷ ty_int w64 ∷ []) (ptr_val at ∷ vint w64 n ∷ []) (pointer_good at, (number, tt))) $
    returns ! (look_at ! 0 refl) $ free_all ! refl $
    flt_i ! n (2 ^ 64) fits $ feq_i ! (List Val) (vint w64 n ∷ []) (vint w64 n ∷ []) refl $ fjoin ! $ feq_i ! (List Val) (ptr_val at ∷ []) (ptr_val at ∷ []) refl $
    two_made ! RawPtr usize at n (ptr_val at) (vint w64 n) $ fjoin ! $ keep ! (0 ∷ []) $
    suffices ! _ (ends_at 𝓛 f.ended stayed c y (two (ptr_val at) (vint w64 n)) s (tt, (tt, tt)) (tt, (tt, tt))) $ says ! (refl, refl) $
    nothing ! $ nothing ! $ fjoin ! $ nothing ! $ fjoin ! $ join ! $ nothing ! $ join ! $ done !))))))))))))

-- `into_vec` hands the cells to `lodge`, which makes a vector of them where they lie.
use Rattle.itm_c.proofs.Steps.{◌≡◌, ℕ, ◌^◌, ◌<◌, List, [], ◌∷◌, ◌++◌, length, refl, sym, ap, ◌∙◌, subst, proved_at, full_share, emp, id⊢, never, ftrue, fsep, flft, Val, vptr, vstruct, fact, fact_i, tables, ‵, raw, ◌⊛◌, some, later, prop, at_ret, ◌$◌, ◌∵◌, !, qed, done, move, drop, use0, use1, split, join, fsplit, fjoin, fpick, feq_i, feq_l, pick, await, rewrite, regoal, suffices, sub, whole, enter, of_opd, stop, fld, no_more, and_then, first, blocks, exec, returns, alloc_all, pass_all, free_all, look_at, get, get_in, sets, lands_last, env, yes, plain, nothing, heard, only, triple_of, Stays, walk_of, says, stay_dropped, Goes-dropped, ends_at}
use Rattle.std.proofs.Common.{◌*◌, ◌≤◌, Vec, arith}
use Rattle.itm_c.proofs.Common.{Good, Laws, Lodged, Ptr, RattleType, WpFn, after, block_ptr, block_with_items, calls_at_last, copy_shared, flt_i, flt_l, framed, ghosts, has_block, in_a_block, in_block, of_field, of_list, owns_if, ptr_val, tells, u64, u64-copy, u64-field, u64-laws, vint, w64, ⊑_refl, ◌⊑◌}
use Rattle.std_alloc.specs.contracts.vec.Vec as V
use Rattle.std_alloc.specs.contracts.vec.lodged.Lodged as L
use Rattle.std_alloc.specs.contracts.vec.lodge as g
use Rattle.std_alloc.proofs.vec.Vec.TheLaws as vec
use Rattle.std_alloc.proofs.vec.lodged.Lodged.TheLaws as lodged
use Rattle.std_alloc.proofs.vec.lodge.Met.{met}
use Rattle.itm_c.specs.contracts.cells.Cells as Cells
use Rattle.itm_c.specs.contracts.cells.Cells.into_vec as f
use Rattle.itm_c.proofs.cells.Cells.into_vec.Statement.{statement}
use Rattle.itm_c.proofs.cells.Cells.into_vec.Code as code

abbrev number_laws : Laws u64
number_laws = of_field u64-field u64-laws refl (copy_shared u64-field u64-copy)

abbrev Made : RattleType
Made = V.the_row u64 L.the_row ghosts

abbrev made_laws : Laws Made
made_laws = vec.the_row_laws u64 L.the_row ghosts number_laws lodged.the_row_laws

abbrev stayed : Stays (f.ended).signature.params (f.ended).kept
stayed = (stay_dropped (plain (λ _. Cells.the_row)) yes, tt)

pub into_vec_spec : {M : Type 1} → statement M
into_vec_spec 𝓤 𝓛 𝓜 𝓡 wired =
    let c = f.clauses 𝓛 𝓜.mem 𝓡.returns in let 𝓣 = tables 𝓤 𝓛.H 𝓜 𝓡 𝓡.env in
    proved_at 𝓛 f.ended stayed c 𝓜 𝓡 (Goes-dropped 𝓛 0 (plain (λ _. Cells.the_row)) yes (λ κs x w. refl), tt)
    f.Key.name code.function (code.unfolded 𝓤 𝓛.H 𝓜 𝓡 wired) (λ y are.
    let s = y.0.3.0 in let vs = y.0.4.0 in let n = s.count in let xs = s.items in let Post = (walk_of 𝓛 f.ended stayed c).post y in
    let Call = triple_of 𝓛 (g.signature u64) (g.spec u64 𝓛 𝓜.mem 𝓡.returns) in
    qed 𝓛 ((‵ ftrue ⊛ ‵ (fsep ((Cells.the_row).own_val s vs) ftrue)) ∷ raw (emp 𝓤) ∷ []) ∵ split ! $ drop ! $ fsplit ! $ fsplit ! $
    fpick ! (λ vss. fsplit ! $ feq_l ! (λ word. fsplit ! $ feq_l ! (λ ptr. fsplit ! $ fsplit ! $ feq_l ! (λ number. flt_l ! (λ fits. drop ! $
    -- [the cells; nothing; nothing]
    fsplit ! $ flt_l ! (λ small. in_a_block ! s.at (λ p. in_block p (owns_if (has_block n) (block_with_items (λ _ _. ftrue) u64 p n n xs))) (id⊢ 𝓤 (never 𝓤)) (λ b o at.
    let p = block_ptr b o in
    regoal ! (λ (us : List Val). prop (WpFn 𝓤 𝓛.H 𝓣.C 𝓣.Λ code.function (us ++ []) Post))
    (word ∙ (λ i. vstruct (of_list ((ptr ∙ ap (λ (q : Ptr). ptr_val q ∷ []) at) i ++ (number i ++ []))) ∷ [])) refl $
    enter ! _ _ _ _ _ $ alloc_all ! (λ l. pass_all ! refl ((tt, (tt, (record { fits = fits }, tt))), tt) $
    sets ! (of_opd ! (get_in ! (fld ! refl (stop !)) (sub ! 0 refl (whole !)))) refl (tt, tt) $
    sets ! (of_opd ! (get_in ! (fld ! refl (stop !)) (sub ! 1 refl (whole !)))) refl (tt, record { fits = fits }) $
    first ! $ blocks ! $
    let z : Call.Ghost = ((([], tt), (full_share, tt), tt, (p, (n, (n, tt))), (vptr b o ∷ [], (vint w64 n ∷ [], (vint w64 n ∷ [], tt)))), xs) in
    let Asked : Type 0 = (n ≡ length xs) × (n ≤ n) × (n < 2 ^ 63) in
    let Is : Vec ℕ Lodged → Type 0 = λ r. (r.items ≡ xs) × (r.len ≡ n) × (r.cap ≡ n) × (r.ptr ≡ p) in
    flt_i ! (n * 8) (2 ^ 63) small $ fjoin ! $
    use0 𝓛 (raw (fact 𝓤 Asked)) (fact_i 𝓤 Asked (emp 𝓤) (s.counted, omega arith, s.few)) $ join ! $
    use0 𝓛 (raw (fact 𝓤 ([] ⊑ []))) (fact_i 𝓤 ([] ⊑ []) (emp 𝓤) (⊑_refl [])) $ join ! $
    nothing ! $ flt_i ! n (2 ^ 64) (omega (arith, s.few)) $ feq_i ! (List Val) (vint w64 n ∷ []) (vint w64 n ∷ []) refl $ fjoin ! $ fjoin ! $
    flt_i ! n (2 ^ 64) (omega (arith, s.few)) $ feq_i ! (List Val) (vint w64 n ∷ []) (vint w64 n ∷ []) refl $ fjoin ! $ fjoin ! $
    feq_i ! (List Val) (vptr b o ∷ []) (vptr b o ∷ []) refl $ fjoin ! $ nothing ! $ use0 𝓛 (‵ (flft [] full_share)) (𝓛.lfts.lft-nil full_share) $ join ! $ join ! $ join ! $ use1 𝓛 (raw (Call.pre z)) (id⊢ 𝓤 _) $
    calls_at_last ! (framed 𝓤 𝓛.H 𝓜 𝓣) Call (met 𝓤 𝓛 𝓜 𝓡 (code.calls-std_alloc::vec::lodge 𝓡.env wired) u64 number_laws) z
    (and_then ! (get ! refl) (and_then ! (get ! refl) (and_then ! (get ! refl) (no_more !)))) (λ v.
    use1 𝓛 (later (some (λ (r : Vec ℕ Lodged). ((‵ (flft [] full_share) ⊛ ‵ ftrue) ⊛ ‵ (Made.own_val r (v ∷ []))) ⊛
    some (λ (_ : Unit {0} × (Unit {0} × (Unit {0} × Unit {0}))). ‵ (fsep ftrue (fsep ftrue (fsep ftrue ftrue))) ⊛ raw (fact 𝓤 (Is r)))))) (id⊢ 𝓤 _) $
    await ! tt $ pick ! (λ r. split ! $ move ! (1 ∷ []) $ pick ! (λ _. split ! $ drop ! $ heard ! (Is r) (λ is. split ! $ drop ! $
    tells ! Made made_laws r (v ∷ []) (λ u same good.
    let fine : Good Made v = subst (Good Made) (sym (ap only same)) good in
    rewrite ! 0 (λ w. ‵ (Made.own_val r (w ∷ []))) (sym (ap only same)) refl $ lands_last ! refl fine $
    exec ! 𝓣.C 𝓣.Λ (env (code.function).locals l) (after 3 (code.function).body) (at_ret (env (code.function).locals l) Post) $
    sets ! (of_opd ! (get ! refl)) refl fine $ returns ! (look_at ! 0 refl) $ free_all ! refl $ move ! (1 ∷ 2 ∷ []) $ drop ! $ drop ! $
    suffices ! _ (ends_at 𝓛 f.ended stayed c y v r (tt, tt) (tt, tt)) $ says ! (is.0, is.3 ∙ sym at) $
    nothing ! $ nothing ! $ fjoin ! $ join ! $ nothing ! $ join ! $ done !))))))))))))))

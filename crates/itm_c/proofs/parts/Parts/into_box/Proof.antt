-- `into_box` makes a box of the parts, which owns what they owned.
use Rattle.itm_c.proofs.Common.{Args, B, Bx, D, Fn, Goes-blank, P, R, T, WT, WpFn, a_type, after, block_ptr, bounded, box_in, box_out, box_ty, box_typed, calls_at_last, dcons, dnil, framed, has_ty, inst_fn, ◌⊑◌}
use Rattle.itm_c.proofs.Steps.{◌≡◌, List, [], ◌∷◌, ◌++◌, refl, sym, ap, subst, proved_at, id⊢, ftrue, fsep, flft, Val, vptr, fact, tables, Item, ‵, raw, ◌⊛◌, some, later, prop, at_ret, ◌$◌, ◌∵◌, !, qed, done, move, drop, use1, split, split3, join, fsplit, fjoin, feq_i, pick, await, rewrite, regoal, suffices, sub, whole, enter, of_opd, stop, fld, no_more, and_then, first, blocks, exec, returns, alloc_all, pass_all, free_all, look_at, get, get_in, sets, lands_last, env, no, plain, nothing, heard, only, triple_of, Stays, walk_of, says, stay_dropped, ends_at}
use Rattle.std_alloc.specs.contracts.boxed.Box.from_raw as g
use Rattle.std_alloc.proofs.boxed.Box.from_raw.Met.{met}
use Rattle.itm_c.specs.contracts.parts.Parts as Parts
use Rattle.itm_c.specs.contracts.parts.Parts.into_box as f
use Rattle.itm_c.proofs.parts.Parts.into_box.Statement.{statement}
use Rattle.itm_c.proofs.parts.Parts.into_box.Code as code

pub into_box_spec : {M : Type 1} → statement M
into_box_spec 𝓤 𝓛 𝓜 𝓡 wired X Z LX LZ gh d dd allocator md =
    let E : Bx = record { row = X; laws = LX; al = record { row = Z; laws = LZ; g = gh; d = d; drops = dd } } in
    let inst : Args = bounded (a_type ∷ a_type ∷ []) (X, (Z, tt)) (dcons d (dcons dd dnil)) in
    let fn : Fn = inst_fn inst code.function in
    let From = Parts.the_row (R E) (P E) gh in
    let S = f.ended X Z gh d dd in let c = f.clauses X Z gh d dd 𝓛 𝓜.mem 𝓡.returns in let 𝓣 = tables 𝓤 𝓛.H 𝓜 𝓡 𝓡.env in
    let stayed : Stays S.signature.params S.kept = (stay_dropped (plain (λ _. From)) no, tt) in
    proved_at 𝓛 S stayed c 𝓜 𝓡 (Goes-blank 𝓛 2 (plain (λ _. From)) no (λ κs x w. tt), tt)
    (f.Key.name inst) fn (code.unfolded 𝓤 𝓛.H 𝓜 𝓡 wired (X, (Z, tt)) d dd) (λ y are.
    let κs = y.0.0 in let qs = y.0.1 in let p = y.0.3.0 in let vs = y.0.4.0 in let Post = (walk_of 𝓛 S stayed c).post y in
    let box : D E = record { ptr = p.ptr; alloc = p.alloc; value = p.value } in
    let alive : Item 𝓤 = ‵ (flft κs.0 qs.0) ⊛ ‵ (flft κs.1.0 qs.1.0) ⊛ ‵ ftrue in
    let lasting = raw (fact 𝓤 (κs.0 ⊑ X.lives)) in let lasting' = raw (fact 𝓤 (κs.1.0 ⊑ Z.lives)) in
    let Call = triple_of 𝓛 (g.signature X Z gh d dd) (g.spec X Z gh d dd 𝓛 𝓜.mem 𝓡.returns) in
    qed 𝓛 ((alive ⊛ ‵ (fsep ((B E).own_val box vs) ftrue)) ∷ (lasting ⊛ lasting' ⊛ ‵ ftrue) ∷ []) ∵ split ! $ move ! (1 ∷ []) $ fsplit ! $
    box_out E ! box vs (λ n o a at is fits. fjoin ! $
    -- [the value with the right to free it; the allocator; nothing; the tokens; the bounds]
    regoal ! (λ (us : List Val). prop (WpFn 𝓤 𝓛.H 𝓣.C 𝓣.Λ fn (us ++ []) Post)) is refl $
    enter ! _ _ _ _ _ $ alloc_all ! (λ l. pass_all ! refl (box_typed E a n o fits, tt) $
    sets ! (of_opd ! (get_in ! (fld ! refl (stop !)) (sub ! 0 refl (whole !)))) refl (tt, tt) $
    sets ! (of_opd ! (get_in ! (fld ! refl (stop !)) (sub ! 1 refl (whole !)))) refl fits $
    first ! $ blocks ! $ sets ! (of_opd ! (get ! refl)) refl fits $
    let z : Call.Ghost = ((κs, qs, tt, (p.alloc, (block_ptr n o, tt)), (a ∷ [], (vptr n o ∷ [], tt))), p.value) in
    move ! (4 ∷ []) $ split3 ! $ move ! (2 ∷ []) $ drop ! $ move ! (1 ∷ 2 ∷ []) $ join ! $ move ! (1 ∷ 0 ∷ []) $ join ! $
    -- [what the call asks for; the allocator; nothing; the tokens]
    move ! (2 ∷ []) $ feq_i ! (List Val) (vptr n o ∷ []) (vptr n o ∷ []) refl $ fjoin ! $ move ! (2 ∷ 0 ∷ []) $ fjoin ! $ move ! (2 ∷ 0 ∷ []) $ join ! $ join ! $ use1 𝓛 (raw (Call.pre z)) (id⊢ 𝓤 _) $
    calls_at_last ! (framed 𝓤 𝓛.H 𝓜 𝓣) Call (met 𝓤 𝓛 𝓜 𝓡 (code.calls-std_alloc::boxed::Box::from_raw 𝓡.env wired) X Z LX LZ gh d dd allocator md) z
    (and_then ! (get ! refl) (and_then ! (get ! refl) (no_more !))) (λ u.
    use1 𝓛 (later (some (λ (r : D E). (alive ⊛ ‵ ((B E).own_val r (u ∷ []))) ⊛
    some (λ (_ : Unit {0} × (Unit {0} × Unit {0})). ‵ (fsep ftrue (fsep ftrue ftrue)) ⊛ (raw (fact 𝓤 (r.value ≡ p.value)) ⊛ raw (fact 𝓤 (r.alloc ≡ p.alloc))))))) (id⊢ 𝓤 _) $
    await ! tt $ pick ! (λ r. split ! $ move ! (1 ∷ []) $ pick ! (λ _. split3 ! $ drop ! $ heard ! (r.value ≡ p.value) (λ same. drop ! $ split ! $ move ! (1 ∷ []) $
    box_out E ! r (u ∷ []) (λ n' o' a' at' is' fits'. box_in E ! r n' o' r.value at' refl $ rewrite ! 0 (λ (us : List Val). ‵ ((B E).own_val r us)) (sym is') refl $
    let good : T (has_ty (box_ty E) u) × WT u = subst (λ (v : Val). T (has_ty (box_ty E) v) × WT v) (sym (ap only is')) (box_typed E a' n' o' fits') in
    lands_last ! refl good $ exec ! 𝓣.C 𝓣.Λ (env fn.locals l) (after 3 fn.body) (at_ret (env fn.locals l) Post) $
    sets ! (of_opd ! (get ! refl)) refl good $ returns ! (look_at ! 0 refl) $ free_all ! refl $
    suffices ! _ (ends_at 𝓛 S stayed c y u r ((tt, (tt, tt)), tt) (tt, tt)) $ says ! same $
    nothing ! $ nothing ! $ fjoin ! $ join ! $ move ! (1 ∷ 0 ∷ []) $ join ! $ done !))))))))

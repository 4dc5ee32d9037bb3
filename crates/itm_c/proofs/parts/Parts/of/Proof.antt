-- `of` opens a box, and the parts own what it owned.
use Rattle.itm_c.proofs.Common.{Args, B, Bx, D, Fn, Goes-blank, P, Ptr, R, RawPtr, WpFn, a_type, bare, block_ptr, bounded, box_in, box_out, box_typed, calls_at, dcons, dnil, framed, handle_tells, in_a_block, inst_fn, null_ptr, of_list, ptr_val, token, word, τ, ◌⊑◌}
use Rattle.itm_c.proofs.Steps.{◌≡◌, List, [], ◌∷◌, ◌++◌, refl, ap, ◌∙◌, proved_at, id⊢, fst∗, never, ftrue, fsep, flft, sem, Val, vstruct, fact, tables, Item, ‵, raw, ◌⊛◌, some, later, prop, ◌$◌, ◌∵◌, !, qed, done, move, drop, use1, split, split3, join, fsplit, fjoin, fpick, feq_l, pick, await, rewrite, regoal, suffices, agg, sub, whole, enter, of_opd, stop, fld, no_more, and_then, returns, alloc_all, pass_all, free_all, look_at, get, get_in, sets, lands_as, no, plain, nothing, heard, only, triple_of, Stays, walk_of, says, stay_dropped, ends_at}
use denote.Struct.Tuple.{Tuple}
use Rattle.std_alloc.{specs.Box.Ownership.box_owns, proofs.boxed.Box.into_raw_with_allocator.Met.met}
use Rattle.std_alloc.specs.contracts.boxed.Box.into_raw_with_allocator as g
use Rattle.itm_c.specs.contracts.parts.Parts as Parts
use Rattle.itm_c.specs.contracts.parts.Parts.of as f
use Rattle.itm_c.proofs.parts.Parts.of.Statement.{statement}
use Rattle.itm_c.proofs.parts.Parts.of.Code as code

pub of_spec : {M : Type 1} → statement M
of_spec 𝓤 𝓛 𝓜 𝓡 wired X Z LX LZ gh d dd dx allocator md glue =
    let E : Bx = record { row = X; laws = LX; al = record { row = Z; laws = LZ; g = gh; d = d; drops = dd } } in
    let inst : Args = bounded (a_type ∷ a_type ∷ []) (X, (Z, tt)) (dcons d (dcons dd (dcons dx dnil))) in
    let fn : Fn = inst_fn inst code.function in
    let To = Parts.the_row (R E) (P E) gh in
    let T = f.ended X Z gh d dd dx in let c = f.clauses X Z gh d dd dx 𝓛 𝓜.mem 𝓡.returns in let 𝓣 = tables 𝓤 𝓛.H 𝓜 𝓡 𝓡.env in
    let stayed : Stays T.signature.params T.kept = (stay_dropped (plain (λ _. B E)) no, tt) in
    proved_at 𝓛 T stayed c 𝓜 𝓡 (Goes-blank 𝓛 2 (plain (λ _. B E)) no (λ κs x w. tt), tt)
    (f.Key.name inst) fn (code.unfolded 𝓤 𝓛.H 𝓜 𝓡 wired (X, (Z, tt)) d dd dx) (λ y are.
    let κs = y.0.0 in let qs = y.0.1 in let box = y.0.3.0 in let vs = y.0.4.0 in
    let alive : Item 𝓤 = ‵ (flft κs.0 qs.0) ⊛ ‵ (flft κs.1.0 qs.1.0) ⊛ ‵ ftrue in
    let bounds : Item 𝓤 = raw (fact 𝓤 (κs.0 ⊑ X.lives)) ⊛ raw (fact 𝓤 (κs.1.0 ⊑ Z.lives)) ⊛ ‵ ftrue in
    let Call = triple_of 𝓛 (g.signature X Z gh d dd dx) (g.spec X Z gh d dd dx 𝓛 𝓜.mem 𝓡.returns) in
    qed 𝓛 ((alive ⊛ ‵ (fsep ((B E).own_val box vs) ftrue)) ∷ bounds ∷ []) ∵ split ! $ move ! (1 ∷ []) $ fsplit ! $
    box_out E ! box vs (λ n o a at is fits. box_in E ! box n o box.value at refl $
    regoal ! (λ (us : List Val). prop (WpFn 𝓤 𝓛.H 𝓣.C 𝓣.Λ fn (us ++ []) ((walk_of 𝓛 T stayed c).post y))) is refl $
    enter ! _ _ _ _ _ $ alloc_all ! (λ l. pass_all ! refl (box_typed E a n o fits, tt) $
    sets ! (of_opd ! (get ! refl)) refl (box_typed E a n o fits) $
    let z : Call.Ghost = ((κs, qs, tt, (box, tt), (word E a n o ∷ [], tt)), tt) in
    fjoin ! $ move ! (1 ∷ 0 ∷ []) $ join ! $ join ! $ use1 𝓛 (raw (Call.pre z)) (id⊢ 𝓤 _) $
    calls_at ! (framed 𝓤 𝓛.H 𝓜 𝓣) Call (met 𝓤 𝓛 𝓜 𝓡 (code.calls-std_alloc::boxed::Box::into_raw_with_allocator 𝓡.env wired) X Z LX LZ gh d dd dx allocator md glue) z
    (and_then ! (get ! refl) (no_more !)) (λ u.
    use1 𝓛 (later (some (λ (r : Ptr × Z.Denot). (alive ⊛ ‵ ((Tuple (RawPtr ∷ P E ∷ [])).own_val r (u ∷ []))) ⊛
    some (λ (_ : (Unit {0} × (Unit {0} × Unit {0})) × Unit {0}). ‵ (fsep (fsep ftrue (fsep ftrue ftrue)) ftrue) ⊛ (raw (fact 𝓤 (r.1 ≡ box.alloc)) ⊛ ‵ (box_owns (token E.al box.alloc) (R E) r.0 box.value)))))) (id⊢ 𝓤 _) $
    await ! tt $ pick ! (λ r. split ! $ move ! (1 ∷ []) $ pick ! (λ _. split3 ! $ drop ! $ heard ! (r.1 ≡ box.alloc) (λ same.
    in_a_block ! r.0 (λ p. box_owns (token E.al box.alloc) (R E) p box.value) (fst∗ 𝓤 (never 𝓤) (sem 𝓛 (token E.al box.alloc (bare (τ E)) null_ptr))) (λ n' o' at'.
    -- [the value with the right to free it; the tokens and the pair; ..]
    move ! (1 ∷ []) $ split ! $ move ! (1 ∷ []) $ fpick ! (λ vss. fsplit ! $ feq_l ! (λ pair. fsplit ! $ feq_l ! (λ ptr. fsplit ! $
    rewrite ! 0 (λ (s : Z.Denot). ‵ (Z.own_val s vss.1.0)) same refl $ handle_tells E.al ! box.alloc vss.1.0 (λ a' handle fits'.
    let made : To.Denot = record { ptr = block_ptr n' o'; alloc = box.alloc; value = box.value } in
    let again : D E = record { ptr = block_ptr n' o'; alloc = box.alloc; value = box.value } in
    let good = box_typed E a' n' o' fits' in
    lands_as ! (ap only (pair ∙ (λ i. vstruct (of_list ((ptr ∙ ap (λ (p : Ptr). ptr_val p ∷ []) at') i ++ (handle i ++ []))) ∷ []))) refl good $
    sets ! (of_opd ! (get_in ! (fld ! refl (stop !)) (sub ! 0 refl (whole !)))) refl (tt, tt) $
    sets ! (of_opd ! (get_in ! (fld ! refl (stop !)) (sub ! 1 refl (whole !)))) refl fits' $
    sets ! (of_opd ! (get ! refl)) refl fits' $
    sets ! (agg ! (and_then ! (get ! refl) (and_then ! (get ! refl) (no_more !)))) refl good $
    returns ! (look_at ! 0 refl) $ free_all ! refl $
    -- [the allocator; nothing; the tokens; the value with the right to free it]
    move ! (3 ∷ []) $ fsplit ! $ box_in E ! again n' o' box.value refl refl $ use1 𝓛 (‵ (To.own_val made (word E a' n' o' ∷ []))) (id⊢ 𝓤 _) $ move ! (1 ∷ []) $ drop ! $
    suffices ! _ (ends_at 𝓛 T stayed c y (word E a' n' o') made ((tt, (tt, tt)), tt) (tt, tt)) $ says ! refl $
    nothing ! $ nothing ! $ fjoin ! $ join ! $ move ! (1 ∷ 0 ∷ []) $ join ! $ done !))))))))))))

-- `of_parts` hands the two fields on, and the handle owns what the parts owned.
use Rattle.itm_c.proofs.Common.{B, WpFn, box_in, box_out, box_typed, word}
use Rattle.itm_c.proofs.Steps.{[], ◌∷◌, ◌++◌, refl, Some, proved_at, ftrue, fsep, emp, id⊢, List, Val, tables, ‵, raw, ◌⊛◌, prop, ◌$◌, ◌∵◌, !, qed, done, move, drop, use1, split, join, fsplit, fjoin, regoal, suffices, agg, sub, whole, enter, of_opd, stop, fld, no_more, and_then, returns, alloc_all, pass_all, free_all, look_at, get, get_in, sets, yes, plain, nothing, Stays, walk_of, says, stay_dropped, Goes-dropped, ends_at}
use Rattle.itm_c.proofs.KeptBoxes.{InBox, Taken, Handed, box_of_parts}
use Rattle.itm_c.specs.contracts.handle.Handle.of_parts as f
use Rattle.itm_c.proofs.handle.Handle.of_parts.Statement.{statement}
use Rattle.itm_c.proofs.handle.Handle.of_parts.Code as code

abbrev stayed : Stays (f.ended).signature.params (f.ended).kept
stayed = (stay_dropped (plain (λ _. Taken)) yes, tt)

pub of_parts_spec : {M : Type 1} → statement M
of_parts_spec 𝓤 𝓛 𝓜 𝓡 wired =
    let c = f.clauses 𝓛 𝓜.mem 𝓡.returns in let 𝓣 = tables 𝓤 𝓛.H 𝓜 𝓡 𝓡.env in
    proved_at 𝓛 f.ended stayed c 𝓜 𝓡 (Goes-dropped 𝓛 0 (plain (λ _. Taken)) yes (λ κs x w. refl), tt)
    f.Key.name code.function (code.unfolded 𝓤 𝓛.H 𝓜 𝓡 wired) (λ y are.
    let p = y.0.3.0 in let vs = y.0.4.0 in let x = box_of_parts p in
    let h : Handed.Denot = record { at = p.ptr; alloc = p.alloc; kept = Some p.value } in
    qed 𝓛 ((‵ ftrue ⊛ ‵ (fsep ((B InBox).own_val x vs) ftrue)) ∷ raw (emp 𝓤) ∷ []) ∵ split ! $ drop ! $ fsplit ! $
    box_out InBox ! x vs (λ n o a at is fits.
    regoal ! (λ (us : List Val). prop (WpFn 𝓤 𝓛.H 𝓣.C 𝓣.Λ code.function (us ++ []) ((walk_of 𝓛 f.ended stayed c).post y))) is refl $
    enter ! _ _ _ _ _ $ alloc_all ! (λ l. pass_all ! refl (box_typed InBox a n o fits, tt) $
    sets ! (of_opd ! (get_in ! (fld ! refl (stop !)) (sub ! 0 refl (whole !)))) refl (tt, tt) $
    sets ! (of_opd ! (get_in ! (fld ! refl (stop !)) (sub ! 1 refl (whole !)))) refl fits $
    sets ! (of_opd ! (get ! refl)) refl (tt, tt) $
    sets ! (agg ! (and_then ! (get ! refl) (and_then ! (get ! refl) (no_more !)))) refl (box_typed InBox a n o fits) $
    returns ! (look_at ! 0 refl) $ free_all ! refl $
    box_in InBox ! x n o p.value at refl $ use1 𝓛 (‵ (Handed.own_val h (word InBox a n o ∷ []))) (id⊢ 𝓤 _) $ move ! (1 ∷ 2 ∷ []) $ drop ! $ drop ! $
    suffices ! _ (ends_at 𝓛 f.ended stayed c y (word InBox a n o) h (tt, tt) (tt, tt)) $ says ! refl $
    nothing ! $ nothing ! $ fjoin ! $ join ! $ nothing ! $ join ! $ done !)))

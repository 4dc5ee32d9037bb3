-- `into_parts` hands the two fields on, and what the handle owns goes with them.
use Rattle.itm_c.proofs.Common.{B, WpFn, box_in, box_out, box_typed, word}
use Rattle.itm_c.proofs.Steps.{[], ◌∷◌, ◌++◌, refl, Option, IsSome, proved_at, ftrue, fsep, id⊢, List, Val, fact, tables, ‵, raw, ◌⊛◌, prop, ◌$◌, ◌∵◌, !, qed, done, move, drop, use1, split, join, fsplit, fjoin, rewrite, regoal, suffices, agg, sub, whole, enter, of_opd, stop, fld, no_more, and_then, returns, alloc_all, pass_all, free_all, look_at, get, get_in, sets, yes, plain, nothing, heard, Stays, walk_of, says, stay_dropped, Goes-dropped, ends_at}
use Rattle.itm_c.proofs.KeptBoxes.{InBox, Held, Taken, Handed, box_of_handle, held_by}
use Rattle.itm_c.specs.contracts.handle.Handle.into_parts as f
use Rattle.itm_c.proofs.handle.Handle.into_parts.Statement.{statement}
use Rattle.itm_c.proofs.handle.Handle.into_parts.Code as code

abbrev stayed : Stays (f.ended).signature.params (f.ended).kept
stayed = (stay_dropped (plain (λ _. Handed)) yes, tt)

pub into_parts_spec : {M : Type 1} → statement M
into_parts_spec 𝓤 𝓛 𝓜 𝓡 wired =
    let c = f.clauses 𝓛 𝓜.mem 𝓡.returns in let 𝓣 = tables 𝓤 𝓛.H 𝓜 𝓡 𝓡.env in
    proved_at 𝓛 f.ended stayed c 𝓜 𝓡 (Goes-dropped 𝓛 0 (plain (λ _. Handed)) yes (λ κs x w. refl), tt)
    f.Key.name code.function (code.unfolded 𝓤 𝓛.H 𝓜 𝓡 wired) (λ y are.
    let h = y.0.3.0 in let vs = y.0.4.0 in
    qed 𝓛 ((‵ ftrue ⊛ ‵ (fsep (Handed.own_val h vs) ftrue)) ∷ raw (fact 𝓤 (IsSome h.kept)) ∷ []) ∵ move ! (1 ∷ []) $ heard ! (IsSome h.kept) (λ some.
    let k = held_by h.kept some in let x = box_of_handle h k.0 in
    let p : Taken.Denot = record { ptr = h.at; alloc = h.alloc; value = k.0 } in
    split ! $ drop ! $ fsplit ! $ rewrite ! 0 (λ (o : Option Held.Denot). ‵ (Handed.own_val (record h { kept = o }) vs)) k.1 refl $
    use1 𝓛 (‵ ((B InBox).own_val x vs)) (id⊢ 𝓤 _) $
    box_out InBox ! x vs (λ n o a at is fits.
    regoal ! (λ (us : List Val). prop (WpFn 𝓤 𝓛.H 𝓣.C 𝓣.Λ code.function (us ++ []) ((walk_of 𝓛 f.ended stayed c).post y))) is refl $
    enter ! _ _ _ _ _ $ alloc_all ! (λ l. pass_all ! refl (box_typed InBox a n o fits, tt) $
    sets ! (of_opd ! (get_in ! (fld ! refl (stop !)) (sub ! 0 refl (whole !)))) refl (tt, tt) $
    sets ! (of_opd ! (get_in ! (fld ! refl (stop !)) (sub ! 1 refl (whole !)))) refl fits $
    sets ! (of_opd ! (get ! refl)) refl (tt, tt) $
    sets ! (agg ! (and_then ! (get ! refl) (and_then ! (get ! refl) (no_more !)))) refl (box_typed InBox a n o fits) $
    returns ! (look_at ! 0 refl) $ free_all ! refl $
    box_in InBox ! x n o k.0 at refl $ use1 𝓛 (‵ (Taken.own_val p (word InBox a n o ∷ []))) (id⊢ 𝓤 _) $ move ! (1 ∷ []) $ drop ! $
    suffices ! _ (ends_at 𝓛 f.ended stayed c y (word InBox a n o) p (tt, tt) (tt, tt)) $ says ! k.1 $
    nothing ! $ nothing ! $ fjoin ! $ join ! $ nothing ! $ join ! $ done !))))

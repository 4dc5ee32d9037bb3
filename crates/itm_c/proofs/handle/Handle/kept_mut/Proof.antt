-- `kept_mut` lends what lies behind the pointer, and the handle follows it.
use Rattle.itm_c.proofs.Common.{B, after, box_out, cell_at, with_kept}
use Rattle.itm_c.proofs.Steps.{[], ◌∷◌, refl, Option, IsSome, proved, full_share, id⊢, GName, ftrue, flft, named, List, Val, vptr, fact, tables, ‵, raw, ◌⊛◌, some, later, at_ret, ◌$◌, ◌∵◌, !, qed, done, move, keep, use1, split, split3, join, group, fsplit3, fjoin, pick, await, rewrite, suffices, frame, sub, whole, look_in, enter, of_opd, addr, load, stop, fld, first, blocks, exec, returns, alloc_all, pass_all, free_all, look_at, get, through, sets, sets_last, env, no, plain, nothing, heard, opens, Stays, walk_of, says, stay_dropped, ends_at, sem}
use denote.Follow.{follows, Part, lends_Part}
use denote.Ref.{MutRef, MutBor, mut_vals, mut_Tells}
use denote.Signature.{mut_ref_to}
use denote.Triple.Walked.{Goes-spent_ref}
use Rattle.itm_c.proofs.KeptBoxes.{InBox, Held, Handed, box_of_handle, held_by, Around, refilled}
use Rattle.itm_c.specs.contracts.handle.Handle.kept_mut as f
use Rattle.itm_c.proofs.handle.Handle.kept_mut.Statement.{statement}
use Rattle.itm_c.proofs.handle.Handle.kept_mut.Code as code

abbrev stayed : Stays (f.ended).signature.params (f.ended).kept
stayed = (stay_dropped (mut_ref_to (0 ∷ []) tt (plain (λ _. Handed))) no, tt)

pub kept_mut_spec : {M : Type 1} → statement M
kept_mut_spec 𝓤 𝓛 𝓜 𝓡 wired =
    let cl = f.clauses 𝓛 𝓜.mem 𝓡.returns in let 𝓣 = tables 𝓤 𝓛.H 𝓜 𝓡 𝓡.env in
    proved 𝓛 f.ended stayed cl 𝓜 𝓡 (Goes-spent_ref 𝓛 1 (0 ∷ []) tt (plain (λ _. Handed)), tt)
    f.Key.name code.function (code.unfolded 𝓤 𝓛.H 𝓜 𝓡 wired)
    (λ κs. (mut_vals, tt)) (λ κs. (mut_Tells (named 0) κs.0 Handed, tt)) (λ κs qs bounds args _ are.
    let r = args.0 in let b = r.ref_ptr.0 in let c = r.ref_ptr.1 in let h = r.now in let vs = mut_vals r in
    let y : (walk_of 𝓛 f.ended stayed cl).Ghost = ((κs, qs, bounds, args, (vs, tt)), tt) in
    qed 𝓛 (((‵ (flft κs.0 qs.0) ⊛ ‵ ftrue) ⊛ ‵ ((MutRef (named 0) κs.0 Handed).own_val r vs) ⊛ ‵ ftrue) ∷ raw (fact 𝓤 (IsSome h.kept)) ∷ []) ∵
    move ! (1 ∷ []) $ heard ! (IsSome h.kept) (λ there. let k = held_by h.kept there in
    split ! $ split ! $ move ! (2 ∷ []) $ split ! $ keep ! (0 ∷ 2 ∷ []) $
    enter ! _ _ _ _ _ $ alloc_all ! (λ l. pass_all ! refl ((tt, tt), tt) $
    fsplit3 ! $ move ! (1 ∷ 2 ∷ 3 ∷ []) $ opens ! tt Handed b c (λ us.
    move ! (1 ∷ []) $ rewrite ! 0 (λ (o : Option Held.Denot). ‵ (Handed.own_val (record h { kept = o }) us)) k.1 refl $
    use1 𝓛 (‵ ((B InBox).own_val (box_of_handle h k.0) us)) (id⊢ 𝓤 _) $
    box_out InBox ! (box_of_handle h k.0) us (λ n o a at is fits.
    rewrite ! 3 (λ (ws : List Val). ‵ (cell_at full_share Handed.mir ws b c)) is refl $
    -- [what it holds; the right to free it; the allocator; the handle's cell; the open borrow, in three entries]
    first ! $ blocks ! $
    sets ! (of_opd ! (load ! (through ! refl (fld ! refl (stop !))) (look_in ! 3 (sub ! 0 refl (whole !))))) refl (tt, tt) $
    sets ! (of_opd ! (get ! refl)) refl (tt, tt) $
    sets_last ! (addr ! (through ! refl (stop !))) refl (tt, tt) $
    exec ! 𝓣.C 𝓣.Λ (env (code.function).locals l) (after 1 (code.function).body) (at_ret _ ((walk_of 𝓛 f.ended stayed cl).post y)) $
    sets ! (of_opd ! (get ! refl)) refl (tt, tt) $
    move ! (1 ∷ 2 ∷ []) $ fjoin ! $ move ! (0 ∷ 2 ∷ []) $ fjoin ! $ move ! (2 ∷ 3 ∷ 4 ∷ 1 ∷ 0 ∷ []) $ group ! 5 $
    let F = with_kept h in let back = refilled 𝓛 h b c n o a at in let Rest = sem 𝓛 (Around 𝓛 h b c n o a) in
    use1 𝓛 (later (some (λ (γ : GName). raw (Part 𝓛 Handed Held F (named 0) κs.0 qs.0 b c n o r.ghost_name Rest back k.0 γ))))
    (lends_Part 𝓛 Handed Held F (named 0) κs.0 qs.0 b c n o r.ghost_name Rest back ((Handed).coded.code h) ((Handed).coded.code h) k.0) $ await ! tt $ pick ! (λ γ.
    returns ! (look_at ! 0 refl) $ free_all ! refl $ keep ! (0 ∷ []) $
    let lent : MutBor Held.Denot = record { ref_ptr = (n, o); ghost_name = γ; now = k.0 } in
    use1 𝓛 (‵ ((MutRef (named 0) κs.0 Held).own_val lent (vptr n o ∷ [])) ⊛ ‵ (flft κs.0 qs.0) ⊛ ‵ (follows Handed Held r.ghost_name γ F)) (id⊢ 𝓤 _) $ split3 ! $
    suffices ! _ (ends_at 𝓛 f.ended stayed cl y (vptr n o) lent (tt, tt) (tt, tt)) $
    nothing ! $ nothing ! $ fjoin ! $ join ! $ nothing ! $ move ! (2 ∷ 0 ∷ []) $ join ! $ join ! $ frame ! $ says ! k.1 $ done !))))))

-- `empty` makes a handle of the null pointer, which owns nothing beside its allocator.
use Rattle.itm_c.proofs.Steps.{[], ◌∷◌, ◌++◌, refl, None, proved_at, ftrue, fsep, emp, id⊢, List, Val, vnull, vstruct, vcons, vnil, tables, ‵, raw, ◌⊛◌, prop, ◌$◌, ◌∵◌, !, qed, done, move, drop, split, join, fsplit, fjoin, use1, fpack, feq_i, regoal, suffices, agg, enter, no_more, and_then, returns, alloc_all, pass_all, free_all, look_at, get, sets, yes, plain, nothing, Stays, walk_of, says, stay_dropped, Goes-dropped, ends_at}
use types.Run.{lit}
use Rattle.std.proofs.Common.{lit<}
use Rattle.itm_c.proofs.Common.{RawPtr, Valss, WpFn, handle_tells, has_ty, null_ptr, ptr_val, shape, to, within, α}
use Rattle.std_alloc.proofs.ResultValues.{and_tt}
use Rattle.std_heap.specs.contracts.Global as Heap
use Rattle.itm_c.proofs.KeptBoxes.{InBox, Handed}
use Rattle.itm_c.specs.contracts.handle.Handle as Handle
use Rattle.itm_c.specs.contracts.handle.Handle.empty as f
use Rattle.itm_c.proofs.handle.Handle.empty.Statement.{statement}
use Rattle.itm_c.proofs.handle.Handle.empty.Code as code

abbrev stayed : Stays (f.ended).signature.params (f.ended).kept
stayed = (stay_dropped (plain (λ _. Heap.the_row)) yes, tt)

pub empty_spec : {M : Type 1} → statement M
empty_spec 𝓤 𝓛 𝓜 𝓡 wired =
    let c = f.clauses 𝓛 𝓜.mem 𝓡.returns in let 𝓣 = tables 𝓤 𝓛.H 𝓜 𝓡 𝓡.env in
    proved_at 𝓛 f.ended stayed c 𝓜 𝓡 (Goes-dropped 𝓛 0 (plain (λ _. Heap.the_row)) yes (λ κs x w. refl), tt)
    f.Key.name code.function (code.unfolded 𝓤 𝓛.H 𝓜 𝓡 wired) (λ y are.
    let alloc = y.0.3.0 in let vs = y.0.4.0 in
    let h : Handed.Denot = record { at = null_ptr; alloc = alloc; kept = None } in
    qed 𝓛 ((‵ ftrue ⊛ ‵ (fsep ((Heap.the_row).own_val alloc vs) ftrue)) ∷ raw (emp 𝓤) ∷ []) ∵ split ! $ drop ! $ fsplit ! $
    handle_tells (InBox.al) ! alloc vs (λ a is fits.
    regoal ! (λ (us : List Val). prop (WpFn 𝓤 𝓛.H 𝓣.C 𝓣.Λ code.function (us ++ []) ((walk_of 𝓛 f.ended stayed c).post y))) is refl $
    enter ! _ _ _ _ _ $ alloc_all ! (λ l. pass_all ! refl (fits, tt) $
    let v : Val = vstruct (vcons vnull (vcons a vnil)) in
    sets ! (agg ! (and_then ! (lit ! tt) (and_then ! (get ! refl) (no_more !)))) refl (and_tt (has_ty (α InBox.al) a) fits.0, (record { fits = lit< tt }, (fits.1, tt))) $
    returns ! (look_at ! 0 refl) $ free_all ! refl $
    nothing ! $ move ! (1 ∷ 0 ∷ []) $ fjoin ! $ feq_i ! (List Val) (vnull ∷ []) (ptr_val null_ptr ∷ []) refl $ fjoin ! $ feq_i ! (List Val) (v ∷ []) (v ∷ []) refl $ fjoin ! $
    fpack ! (Valss (RawPtr ∷ (Heap.the_field).row ∷ [])) (within (shape Handle.the_type) (to Handle.the_type h) (v ∷ [])) (vnull ∷ [], (a ∷ [], tt)) $
    nothing ! $ move ! (1 ∷ 0 ∷ []) $ fjoin ! $ use1 𝓛 (‵ (Handed.own_val h (v ∷ []))) (id⊢ 𝓤 _) $ move ! (1 ∷ 2 ∷ []) $ drop ! $ drop ! $
    suffices ! _ (ends_at 𝓛 f.ended stayed c y v h (tt, tt) (tt, tt)) $ says ! refl $
    nothing ! $ nothing ! $ fjoin ! $ join ! $ nothing ! $ join ! $ done !)))

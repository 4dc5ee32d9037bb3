-- `attach` hands the cells to what waits for them. Assumes `Logic`.
use Rattle.std.proofs.Common.{◌≡◌, ℕ, List, [], ◌∷◌, ◌++◌, length, refl, sym, ap, ◌∙◌, subst}
use Rattle.shared_words.proofs.Common.{Args, Calls, Clauses, Dict, Ended, Extent, Fn, Fun, Ghosts, Goes-blank, Laws, Logic, Loops, Meets, Memory, RattleType, Routine, Tables, Typed, Ura, Val, WpFn, WpFn-mono, a_type, all_e, apply∗, bounded, closing, copy_shared, dcons, dnil, done, drop, ends_at, ent, entered, feq, feq_i, feq_l, fjoin, fld, fpick, fsep, fsplit, fwand, get_in, heard, inst_fn, move, no, nothing, of_field, param, param_laws, prop, regoal, says, sem, strip, sub, suffices, tables_of, triple_of, u64-copy, u64-field, u64-laws, walk_Meets, whole, with_items, with_items_is, ‵, ◌$◌, ◌⊑◌}
use base.Logic.{SProp}
use contract.Monad.{fact}
use contract.Running.{tables}
use types.Kit.{raw, ◌⊛◌, ◌∵◌, !, qed, use1, use2, split, rewrite}
use types.Run.{enter, returns, of_opd, stop}
use types.ByLocal.{alloc_all, pass_all, free_all, look_at, get, sets}
use denote.Exit.{yes}
use denote.RattleType.{owns}
use denote.Builtin.{u64}
use denote.Signature.{plain, types_at}
use denote.Triple.Entry.{alive}
use denote.Triple.Walked.{Stays, stay_dropped, walk_of}
use Rattle.shared_words.proofs.StructSteps.{plainly, none, one, one_had, none_had}
use Rattle.shared_words.specs.contracts.in_place.Row as Row
use Rattle.shared_words.specs.contracts.in_place.Hollow as Hollow
use Rattle.std_alloc.specs.contracts.vec.Vec as Vec
use Rattle.std_alloc.proofs.vec.Vec.TheLaws as vec_laws
use Rattle.shared_words.specs.contracts.in_place.attach as F
use Rattle.shared_words.specs.contracts.in_place.attach.Key.{name as #self}
use Rattle.shared_words.proofs.in_place.attach.Statement as stated
use Rattle.shared_words.proofs.in_place.attach.Code as code

module _ (A : RattleType) (L : Laws A) (g : Ghosts A.Denot) (d dd : Dict) where
  abbrev args : Args
  args = bounded (a_type ∷ []) (A, tt) (dcons d (dcons dd dnil))

  abbrev P : RattleType
  P = param 0 A

  abbrev function : Fn
  function = inst_fn args code.function

  abbrev ended : Ended
  ended = F.ended A g d dd

  abbrev stayed : Stays ended.signature.params ended.kept
  stayed = (stay_dropped (plain (λ _. Row.the_row)) yes, (stay_dropped (plain (λ _. Hollow.the_row P g)) no, tt))

  module _ {M : Type 1} {𝓤 : Ura M} (𝓛 : Logic 𝓤) (at_mem : Memory → SProp 𝓤) (run : Routine → Fun 𝓤) where
    open 𝓛 use {H}

    abbrev held : Clauses 𝓤 ended
    held = F.clauses A g d dd 𝓛 at_mem run

    module _ (C : Calls 𝓤 H) (Λ : Loops 𝓤 H) (z : (walk_of 𝓛 ended stayed held).Ghost) where
      abbrev Post : Val → SProp 𝓤
      Post = (walk_of 𝓛 ended stayed held).post z

      walks : ent 𝓤 ((walk_of 𝓛 ended stayed held).pre z) (WpFn 𝓤 H C Λ function ((walk_of 𝓛 ended stayed held).args z) Post)
      walks =
          let a = z.0.3 in
          let vss = z.0.4 in
          let xs = a.0.items in
          let e = a.1.0 in
          let V = Vec.the_row u64 P g in
          let Asked = (a.0.ptr ≡ e.ptr) × (length xs ≡ e.len) in
          qed 𝓛 ((raw (alive 𝓛 ended.signature z.0.0 z.0.1) ⊛ ‵ (owns (types_at ended.signature.params z.0.0) a vss)) ∷ (raw (fact 𝓤 (z.0.0.0 ⊑ A.lives)) ⊛ raw (fact 𝓤 Asked)) ∷ []) ∵
          move ! (1 ∷ []) $ split ! $ drop ! $ heard ! Asked (λ asked. split ! $ move ! (1 ∷ []) $
          fsplit ! $ fsplit ! $ none_had ! vss.0 (λ is₀. move ! (1 ∷ []) $ fsplit ! $ fsplit ! $ fpick ! (λ typed. drop ! $ fpick ! (λ v. fsplit ! $ feq_l ! (λ is.
          let len : v.vec.len ≡ e.len = ap (λ (x : Extent). x.len) is in let there : v.vec.ptr ≡ e.ptr = ap (λ (x : Extent). x.ptr) is in
          let Given = λ (ys : List ℕ). fsep (feq ℕ (length ys) e.len) (strip u64 e.ptr ys) in
          let Whole = λ (ys : List ℕ). (plainly (V ∷ [])).own_val (with_items v.vec ys, tt) vss.1.0 in
          -- [the way back; nothing; the cells; the tokens]
          use1 𝓛 (‵ (fwand (Given xs) (Whole xs))) (all_e 𝓤 (λ ys. sem 𝓛 (fwand (Given ys) (Whole ys))) xs) $ move ! (2 ∷ []) $
          rewrite ! 0 (λ p. ‵ (strip u64 p xs)) asked.0 refl $ feq_i ! ℕ (length xs) e.len asked.1 $ fjoin ! $
          use2 𝓛 (‵ (Whole xs)) (apply∗ 𝓤 (sem 𝓛 (Given xs)) (sem 𝓛 (Whole xs))) $ one_had ! V (vec_laws.the_row_laws u64 P g (of_field u64-field u64-laws refl (copy_shared u64-field u64-copy)) (param_laws 0 A L)) (with_items v.vec xs) vss.1.0 (λ u is₁ good.
          move ! (1 ∷ []) $ drop ! $
          regoal ! (λ (us : List Val). prop (WpFn 𝓤 H C Λ function (us ++ (vss.1.0 ++ [])) Post)) is₀ refl $
          regoal ! (λ (us : List Val). prop (WpFn 𝓤 H C Λ function ((none ∷ []) ++ (us ++ [])) Post)) is₁ refl $
          enter ! C Λ function (none ∷ one u ∷ []) Post $ alloc_all ! (λ l. pass_all ! refl ((tt, tt), ((subst (Typed (Hollow.the_row P g).mir) is₁ typed).0, tt)) $
          sets ! (of_opd ! (get_in ! (fld ! refl (stop !)) (sub ! 0 refl (whole !)))) refl good $
          sets ! (of_opd ! (get ! refl)) refl good $
          returns ! (look_at ! 0 refl) $ free_all ! refl $
          suffices ! _ (ends_at 𝓛 ended stayed held z u (with_items v.vec xs) (tt, (tt, tt)) (tt, (tt, tt))) $ says ! (with_items_is v.vec xs (asked.1 ∙ sym len), there) $
          nothing ! $ nothing ! $ fjoin ! $ nothing ! $ fjoin ! $ move ! (2 ∷ 0 ∷ 1 ∷ []) $ done !)))))))

    meets : (𝓣 : Tables 𝓤 H) → Meets 𝓛 ended.signature (WpFn 𝓤 H 𝓣.C 𝓣.Λ function) (closing 𝓛 ended held)
    meets 𝓣 =
        walk_Meets 𝓛 ended stayed (Goes-blank 𝓛 1 (plain (λ _. Row.the_row)) yes (λ κs x f. tt), (Goes-blank 𝓛 1 (plain (λ _. Hollow.the_row P g)) no (λ κs x f. tt), tt)) held
        (WpFn 𝓤 H 𝓣.C 𝓣.Λ function) (WpFn-mono 𝓤 H 𝓛.laws 𝓣 function) (walks 𝓣.C 𝓣.Λ)

pub attach_spec : {M : Type 1} → stated.statement M
unfolding tables_of
attach_spec 𝓤 𝓛 𝓜 𝓡 wired A L g d dd met md =
    let 𝓣 : Tables 𝓤 𝓛.H = tables_of 𝓤 𝓛.H 𝓜 (tables 𝓤 𝓛.H 𝓜 𝓡 𝓡.env) in
    entered 𝓤 𝓛.H (triple_of 𝓛 (ended A L g d dd).signature (closing 𝓛 (ended A L g d dd) (held A L g d dd 𝓛 𝓜.mem 𝓡.returns))) 𝓣.C 𝓣.Λ (#self (args A L g d dd)) (function A L g d dd)
    (code.unfolded 𝓤 𝓛.H 𝓜 𝓡 wired (A, tt) d dd) (meets A L g d dd 𝓛 𝓜.mem 𝓡.returns 𝓣)

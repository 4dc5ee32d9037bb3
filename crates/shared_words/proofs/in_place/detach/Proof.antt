-- `detach` takes the cells out, and leaves the way back. Assumes `Logic`.
use Rattle.std.proofs.Common.{◌<◌, List, [], ◌∷◌, ◌++◌, refl}
use Rattle.shared_words.proofs.Common.{Args, Calls, Clauses, Dict, Ended, Fn, Fun, Ghosts, Goes-blank, Laws, Logic, Loops, Meets, Memory, RattleType, Routine, Tables, Typed, Ura, Val, WpFn, WpFn-mono, a_type, as_fields, bounded, closing, copy_shared, dcons, dnil, done, drop, ends_at, ent, entered, fjoin, fpack, fsplit, heard, inst_fn, layout, move, no, nothing, of_field, param, param_laws, prop, regoal, says, strip, suffices, tables_of, triple_of, u64-copy, u64-field, u64-laws, walk_Meets, ‵, ◌$◌, ◌⊑◌}
use base.Logic.{SProp}
use base.Fml.{ftrue}
use contract.Monad.{fact}
use contract.Running.{tables}
use types.Kit.{raw, ◌⊛◌, ◌∵◌, !, qed, use1, split}
use types.Part.{agg}
use types.Run.{enter, returns, of_opd, and_then, no_more}
use types.ByLocal.{alloc_all, pass_all, free_all, look_at, get, sets}
use denote.RattleType.{owns}
use denote.Builtin.{u64}
use denote.Signature.{plain, types_at}
use denote.Triple.Entry.{alive}
use denote.Triple.Walked.{Stays, stay_dropped, walk_of}
use Rattle.shared_words.proofs.StructSteps.{none, one, two, tells, none_made, two_made}
use Rattle.shared_words.specs.contracts.in_place.Row as Row
use Rattle.shared_words.specs.contracts.in_place.Hollow as Hollow
use Rattle.std_alloc.specs.contracts.vec.Vec as Vec
use Rattle.std_alloc.proofs.vec.Vec.TheLaws as vec_laws
use Rattle.shared_words.proofs.HollowVecs.{carve}
use Rattle.shared_words.specs.contracts.in_place.detach as F
use Rattle.shared_words.specs.contracts.in_place.detach.Key.{name as #self}
use Rattle.shared_words.proofs.in_place.detach.Statement as stated
use Rattle.shared_words.proofs.in_place.detach.Code as code

module _ (A : RattleType) (L : Laws A) (g : Ghosts A.Denot) (d dd : Dict) where
  abbrev args : Args
  args = bounded (a_type ∷ []) (A, tt) (dcons d (dcons dd dnil))

  abbrev P : RattleType
  P = param 0 A

  abbrev function : Fn
  function = inst_fn args code.function

  abbrev ended : Ended
  ended = F.ended A g d dd

  abbrev stayed : Stays ended.signature.params ended.kept
  stayed = (stay_dropped (plain (λ _. Vec.the_row u64 P g)) no, tt)

  module _ {M : Type 1} {𝓤 : Ura M} (𝓛 : Logic 𝓤) (at_mem : Memory → SProp 𝓤) (run : Routine → Fun 𝓤) where
    open 𝓛 use {H}

    abbrev held : Clauses 𝓤 ended
    held = F.clauses A g d dd 𝓛 at_mem run

    module _ (C : Calls 𝓤 H) (Λ : Loops 𝓤 H) (z : (walk_of 𝓛 ended stayed held).Ghost) where
      abbrev Post : Val → SProp 𝓤
      Post = (walk_of 𝓛 ended stayed held).post z

      walks : ent 𝓤 ((walk_of 𝓛 ended stayed held).pre z) (WpFn 𝓤 H C Λ function ((walk_of 𝓛 ended stayed held).args z) Post)
      walks =
          let a = z.0.3 in
          let vss = z.0.4 in
          let v = a.0 in
          let V = Vec.the_row u64 P g in
          let S = Hollow.the_row P g in
          let Asked = 0 < v.len in
          let e : S.Denot = record { ptr = v.ptr; len = v.len } in
          let r : (Row.the_row).Denot = record { ptr = v.ptr; items = v.items } in
          qed 𝓛 ((raw (alive 𝓛 ended.signature z.0.0 z.0.1) ⊛ ‵ (owns (types_at ended.signature.params z.0.0) a vss)) ∷ (raw (fact 𝓤 (z.0.0.0 ⊑ A.lives)) ⊛ raw (fact 𝓤 Asked)) ∷ []) ∵
          move ! (1 ∷ []) $ split ! $ drop ! $ heard ! Asked (λ asked. split ! $ move ! (1 ∷ []) $
          fsplit ! $ tells ! V (vec_laws.the_row_laws u64 P g (of_field u64-field u64-laws refl (copy_shared u64-field u64-copy)) (param_laws 0 A L)) v vss.0 (λ u is good. move ! (1 ∷ []) $ drop ! $
          let inner = as_fields ((layout V) ∷ []) (u ∷ []) (good, tt) in
          use1 𝓛 (‵ (strip u64 v.ptr v.items) ⊛ ‵ (Hollow.the_own P g e (one u ∷ []))) (carve P g 𝓛 v u asked) $ split ! $
          none_made ! $ fjoin ! $ move ! (1 ∷ []) $ nothing ! $ fpack ! (Typed S.mir (one u ∷ [])) (λ _. ftrue) (inner, tt) $ fjoin ! $ move ! (1 ∷ 0 ∷ []) $
          two_made ! Row.the_row S r e none (one u) $
          regoal ! (λ (us : List Val). prop (WpFn 𝓤 H C Λ function (us ++ []) Post)) is refl $
          enter ! C Λ function (u ∷ []) Post $ alloc_all ! (λ l. pass_all ! refl (good, tt) $
          sets ! (agg ! (no_more !)) refl (tt, tt) $
          sets ! (of_opd ! (get ! refl)) refl good $
          sets ! (agg ! (and_then ! (get ! refl) (no_more !))) refl inner $
          sets ! (agg ! (and_then ! (get ! refl) (and_then ! (get ! refl) (no_more !)))) refl (as_fields (layout Row.the_row ∷ layout S ∷ []) (none ∷ one u ∷ []) ((tt, tt), (inner, tt))) $
          returns ! (look_at ! 0 refl) $ free_all ! refl $
          suffices ! _ (ends_at 𝓛 ended stayed held z (two none (one u)) (r, e) ((tt, (tt, (tt, (tt, tt)))), tt) (tt, tt)) $ says ! (refl, refl, refl, refl) $
          nothing ! $ nothing ! $ fjoin ! $ move ! (2 ∷ 0 ∷ 1 ∷ []) $ done !)))

    meets : (𝓣 : Tables 𝓤 H) → Meets 𝓛 ended.signature (WpFn 𝓤 H 𝓣.C 𝓣.Λ function) (closing 𝓛 ended held)
    meets 𝓣 =
        walk_Meets 𝓛 ended stayed (Goes-blank 𝓛 1 (plain (λ _. Vec.the_row u64 P g)) no (λ κs x f. tt), tt) held
        (WpFn 𝓤 H 𝓣.C 𝓣.Λ function) (WpFn-mono 𝓤 H 𝓛.laws 𝓣 function) (walks 𝓣.C 𝓣.Λ)

pub detach_spec : {M : Type 1} → stated.statement M
unfolding tables_of
detach_spec 𝓤 𝓛 𝓜 𝓡 wired A L g d dd met md =
    let 𝓣 : Tables 𝓤 𝓛.H = tables_of 𝓤 𝓛.H 𝓜 (tables 𝓤 𝓛.H 𝓜 𝓡 𝓡.env) in
    entered 𝓤 𝓛.H (triple_of 𝓛 (ended A L g d dd).signature (closing 𝓛 (ended A L g d dd) (held A L g d dd 𝓛 𝓜.mem 𝓡.returns))) 𝓣.C 𝓣.Λ (#self (args A L g d dd)) (function A L g d dd)
    (code.unfolded 𝓤 𝓛.H 𝓜 𝓡 wired (A, tt) d dd) (meets A L g d dd 𝓛 𝓜.mem 𝓡.returns 𝓣)

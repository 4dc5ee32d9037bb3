-- The table's lifetime ends, and the words that it lent come back where they are, in a state that has the seat's view.
use Rattle.shared_words.proofs.Common.{Final, Fml, Goes-dropped, Goes-ref, InBlock, List, Ptr, SProp, Seen, Stays, TableId, Ty, addr, agg, alloc_all, and_then, assigns_last, at_ret, await, block_ptr, blocks, by, closes, emp, enter, env, exec, fact, fact_i, fat, first, fjoin3, flft, free_all, from, fsplit3, ftrue, full_share, gathers_with, get, given, hand_good, hand_of, hand_told, join, keep, later, learn, leaves, length, lit, lit<, look_at, mine, mut_Tells, mut_vals, named, no_more, of_opd, opens, owns, pass_all, pick, plain, proved, qed, raw, refl, returns, rewrite, sets, split, split3, spot_of, stay_dropped, stay_ref, stop, store, strip, sym, table_lies, table_owns, tables, through, types_at, u64, u8, use0, use1, use2, via, vptr, walk_of, yes, ℕ, !, [], ◌∵◌, ◌∷◌, ◌≡◌, ◌⊛◌}
use Rattle.atomic_table.proofs.Names.{Val, ‵, some, ◌$◌, move, drop, fsplit, fjoin, feq_i, nothing}
use Rattle.std.proofs.VecSteps.Shapes.{after}
use Rattle.shared_words.specs.contracts.rule.CellRuleTableRuleU8ViewInitialWords.TheImpl as rule
use Rattle.shared_words.specs.contracts.in_place.Row as row
use Rattle.shared_words.specs.contracts.in_place.gather_with as f
use Rattle.shared_words.specs.contracts.in_place.gather_with.Key.{name as key}
use Rattle.shared_words.proofs.RowFields.{Views, Initials, Rules, Cells, Seats, RowData, nothing_val, row_made}
use Rattle.shared_words.proofs.in_place.gather_with.Statement.{statement}
use Rattle.shared_words.proofs.in_place.gather_with.Code as code

abbrev stayed : Stays (f.ended).signature.params (f.ended).kept
stayed = (stay_dropped (plain (λ _. Cells)) yes, (stay_ref (0 ∷ []) tt (plain (λ _. Seats)), tt))

pub gather_with_spec : {M : Type 1} → statement M
gather_with_spec 𝓤 𝓛 𝓜 𝓡 wired =
    let H = 𝓛.H in let 𝓣 = tables 𝓤 H 𝓜 𝓡 𝓡.env in let c = f.clauses 𝓛 𝓜.mem 𝓡.returns in let cv = Views.coded in
    proved 𝓛 f.ended stayed c 𝓜 𝓡 (Goes-dropped 𝓛 1 (plain (λ _. Cells)) yes (λ κs x f. refl), (Goes-ref 𝓛 1 0 tt (plain (λ _. Seats)), tt)) key code.function (code.unfolded 𝓤 H 𝓜 𝓡 wired)
    (λ κs. ((λ x. hand_of x.words x.slots ∷ []), (mut_vals, tt))) (λ κs. ((λ x vs so. hand_told u8 Views Initials Rules rule.ghosts x.words x.slots vs so.0), (mut_Tells (named 0) κs.0 Seats, tt))) (λ κs qs bounds a gh are.
    let w : Ptr = a.0.words in let p : Ptr = a.0.slots in let z : TableId = a.0.table_id in let b' : ℕ = a.1.0.ref_ptr.0 in let o' : ℕ = a.1.0.ref_ptr.1 in let h : Seats.Denot = a.1.0.now in let rules = (rule.ghosts).holds a.0.key in let good = Seen rules h.id h.me.0 in let Mine : TableId → Fml = λ x. mine u8 cv.code x h.id h.me in
    let Owns : Fml = table_owns u8 cv.code rules w p z in
    let y : (walk_of 𝓛 f.ended stayed c).Ghost = ((κs, qs, bounds, a, (hand_of w p ∷ [], (vptr b' o' ∷ [], tt))), gh) in let Post : Val → SProp 𝓤 = (walk_of 𝓛 f.ended stayed c).post y in
    qed 𝓛 (((‵ (flft κs.0 qs.0) ⊛ ‵ ftrue) ⊛ ‵ (owns (types_at f.signature.params κs) a y.0.4)) ∷ given (h.table_id ≡ z) (‵ ftrue) ∷ []) ∵
    keep ! (1 ∷ 0 ∷ []) $ learn ! (λ same. drop ! $ split ! $ split ! $ move ! (2 ∷ []) $ fsplit3 ! $ fsplit ! $ move ! (2 ∷ []) $ fsplit3 ! $ keep ! (4 ∷ 1 ∷ 2 ∷ 6 ∷ 7 ∷ []) $
    use1 𝓛 (given (InBlock w × InBlock p) (‵ Owns)) (table_lies 𝓛 u8 cv rules w p z) $ learn ! (λ at.
    enter ! 𝓣.C 𝓣.Λ code.function (hand_of w p ∷ vptr b' o' ∷ []) Post $ alloc_all ! (λ l. pass_all ! refl (hand_good w p at.0 at.1, ((tt, tt), tt)) $
    move ! (1 ∷ 2 ∷ 3 ∷ []) $ opens ! tt Seats b' o' (λ ts. move ! (1 ∷ []) $ fsplit ! $ rewrite ! 1 (λ (x : TableId). ‵ (Mine x)) same refl $ move ! (6 ∷ 1 ∷ []) $
    use2 𝓛 (later (some (λ (t : List ℕ × List ℕ). given ((length t.0 ≡ z.words) × (length t.1 ≡ z.slots) × Final good t.0 t.1 × InBlock w × InBlock p) (‵ (strip u64 w t.0) ⊛ ‵ (strip u8 p t.1) ⊛ ‵ (Mine z))))) (gathers_with 𝓛 u8 cv rules w p z h.id h.me) $ await ! tt $ pick ! (λ t. learn ! (λ so. split3 ! $
    rewrite ! 2 (λ (x : TableId). ‵ (Mine x)) (sym same) refl $ move ! (3 ∷ 2 ∷ []) $ fjoin ! $ move ! (3 ∷ 0 ∷ 4 ∷ 5 ∷ 6 ∷ []) $ closes ! tt Seats h ts b' o' $ feq_i ! (List Val) (vptr b' o' ∷ []) (vptr b' o' ∷ []) refl $ fjoin3 ! $
    nothing ! $ move ! (1 ∷ 0 ∷ []) $ fjoin ! $ nothing ! $ fjoin ! $ move ! (1 ∷ 4 ∷ []) $ join ! $ move ! (2 ∷ 3 ∷ []) $
    let r : (row.the_row).Denot = record { ptr = w; items = t.0 } in
    use0 𝓛 (‵ (RowData.own_val tt (nothing_val ∷ []))) (row_made 𝓛) $ fjoin ! $
    let τ : ℕ → Ty = λ k. (spot_of 𝓤 H (env (code.function).locals l) k).0 in
    sets ! (of_opd ! (lit ! tt)) refl (tt, record { fits = lit< tt }) $ sets ! (addr ! (from ! (stop !))) refl (tt, tt) $ sets ! (of_opd ! (get ! refl)) refl (tt, tt) $ sets ! (agg ! (no_more !)) refl (tt, tt) $
    sets ! (agg ! (and_then ! (get ! refl) (and_then ! (get ! refl) (and_then ! (get ! refl) (no_more !))))) refl (tt, (tt, (tt, (tt, tt)))) $
    first ! $ blocks ! $ sets ! (addr ! (from ! (stop !))) refl (tt, tt) $ sets ! (of_opd ! (get ! refl)) refl (hand_good w p at.0 at.1) $
    let n : Ptr = block_ptr (l 3) 0 in
    move ! (12 ∷ []) $ use1 𝓛 (‵ (fat full_share (τ 9) (l 5) 0 (hand_of n n))) (via 𝓤 _ (𝓛.laws.at_raw full_share (τ 5) (l 5) 0 (hand_of n n)) (𝓛.laws.raw_at full_share (τ 9) (l 5) 0 (hand_of n n))) $ move ! (1 ∷ 2 ∷ 3 ∷ 4 ∷ 5 ∷ 6 ∷ 7 ∷ 8 ∷ 9 ∷ 10 ∷ 11 ∷ 12 ∷ 0 ∷ []) $
    assigns_last ! (of_opd ! (get ! refl)) (through ! refl (stop !)) (store ! 12 refl (hand_good w p at.0 at.1)) $
    exec ! 𝓣.C 𝓣.Λ (env code.function.locals l) (after 6 (code.function).body) (at_ret _ Post) $
    move ! (12 ∷ []) $ use1 𝓛 (‵ (fat full_share (τ 5) (l 5) 0 (hand_of w p))) (via 𝓤 _ (𝓛.laws.at_raw full_share (τ 9) (l 5) 0 (hand_of w p)) (𝓛.laws.raw_at full_share (τ 5) (l 5) 0 (hand_of w p))) $ move ! (1 ∷ 2 ∷ 3 ∷ 4 ∷ 5 ∷ 6 ∷ 7 ∷ 8 ∷ 9 ∷ 10 ∷ 11 ∷ 12 ∷ 0 ∷ []) $
    sets ! (agg ! (no_more !)) refl (tt, tt) $
    let A₁ : Type 0 = (w ≡ w) × (length t.0 ≡ z.words) in let A₂ : Type 0 = (xs : List ℕ) × Final good t.0 xs in
    use0 𝓛 (raw (fact 𝓤 A₂)) (fact_i 𝓤 A₂ (emp 𝓤) (t.1, so.2)) $ use0 𝓛 (raw (fact 𝓤 A₁)) (fact_i 𝓤 A₁ (emp 𝓤) (refl, so.0)) $ join ! $
    returns ! (look_at ! 0 refl) $ free_all ! refl $ keep ! (3 ∷ 4 ∷ 1 ∷ 0 ∷ []) $ by ! (leaves 𝓛 f.ended stayed c y nothing_val r (tt, (h, tt)) (tt, (tt, tt))))))))))

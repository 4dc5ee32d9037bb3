-- The table's lifetime ends, and the words that it lent come back where they are.
use Rattle.shared_words.proofs.Common.{Final, Fml, Goes-dropped, InBlock, List, Ptr, SProp, Stays, TableId, Ty, addr, agg, alive, alloc_all, and_then, assigns_last, at_ret, await, block_ptr, blocks, by, emp, enter, env, exec, fact, fact_i, fat, first, free_all, from, ftrue, full_share, gathers, get, given, hand_good, hand_of, hand_told, keep, later, learn, leaves, length, lit, lit<, look_at, no_more, of_opd, owns, pass_all, pick, plain, proved, qed, raw, refl, returns, sets, split, split3, spot_of, stay_dropped, stop, store, strip, table_lies, table_owns, tables, through, types_at, u64, u8, use0, use1, via, walk_of, yes, ℕ, !, [], ◌∵◌, ◌∷◌, ◌≡◌, ◌⊛◌}
use Rattle.atomic_table.proofs.Names.{Val, ‵, some, ◌$◌, move, drop, fsplit, fjoin, nothing}
use Rattle.std.proofs.VecSteps.Shapes.{after}
use Rattle.shared_words.specs.contracts.rule.CellRuleTableRuleU8ViewInitialWords.TheImpl as rule
use Rattle.shared_words.specs.contracts.in_place.Row as row
use Rattle.shared_words.specs.contracts.in_place.gather as f
use Rattle.shared_words.specs.contracts.in_place.gather.Key.{name as key}
use Rattle.shared_words.proofs.RowFields.{Views, Initials, Rules, Cells, RowData, nothing_val, row_made}
use Rattle.shared_words.proofs.in_place.gather.Statement.{statement}
use Rattle.shared_words.proofs.in_place.gather.Code as code

abbrev stayed : Stays (f.ended).signature.params (f.ended).kept
stayed = (stay_dropped (plain (λ _. Cells)) yes, tt)

pub gather_spec : {M : Type 1} → statement M
gather_spec 𝓤 𝓛 𝓜 𝓡 wired =
    let H = 𝓛.H in let 𝓣 = tables 𝓤 H 𝓜 𝓡 𝓡.env in let c = f.clauses 𝓛 𝓜.mem 𝓡.returns in let cv = Views.coded in
    proved 𝓛 f.ended stayed c 𝓜 𝓡 (Goes-dropped 𝓛 0 (plain (λ _. Cells)) yes (λ κs x f. refl), tt) key code.function (code.unfolded 𝓤 H 𝓜 𝓡 wired)
    (λ κs. ((λ x. hand_of x.words x.slots ∷ []), tt)) (λ κs. ((λ x vs so. hand_told u8 Views Initials Rules rule.ghosts x.words x.slots vs so.0), tt)) (λ κs qs bounds a gh are.
    let w : Ptr = a.0.words in let p : Ptr = a.0.slots in let z : TableId = a.0.table_id in let rules = (rule.ghosts).holds a.0.key in let Owns : Fml = table_owns u8 cv.code rules w p z in
    let y : (walk_of 𝓛 f.ended stayed c).Ghost = ((κs, qs, bounds, a, (hand_of w p ∷ [], tt)), gh) in let Post : Val → SProp 𝓤 = (walk_of 𝓛 f.ended stayed c).post y in
    qed 𝓛 ((raw (alive 𝓛 f.signature κs qs) ⊛ ‵ (owns (types_at f.signature.params κs) a y.0.4)) ∷ raw ((c κs a).requires gh) ∷ []) ∵
    split ! $ move ! (1 ∷ []) $ fsplit ! $ fsplit ! $ keep ! (1 ∷ 3 ∷ []) $
    use1 𝓛 (given (InBlock w × InBlock p) (‵ Owns)) (table_lies 𝓛 u8 cv rules w p z) $ learn ! (λ at.
    enter ! 𝓣.C 𝓣.Λ code.function (hand_of w p ∷ []) Post $ alloc_all ! (λ l. pass_all ! refl (hand_good w p at.0 at.1, tt) $
    use1 𝓛 (later (some (λ (t : List ℕ × List ℕ). given ((length t.0 ≡ z.words) × (length t.1 ≡ z.slots) × Final rules t.0 t.1 × InBlock w × InBlock p) (‵ (strip u64 w t.0) ⊛ ‵ (strip u8 p t.1) ⊛ ‵ ftrue)))) (gathers 𝓛 u8 cv rules w p z) $ await ! tt $ pick ! (λ t. learn ! (λ so. split3 ! $ move ! (1 ∷ 2 ∷ []) $ drop ! $ drop ! $
    let r : (row.the_row).Denot = record { ptr = w; items = t.0 } in
    use0 𝓛 (‵ (RowData.own_val tt (nothing_val ∷ []))) (row_made 𝓛) $ fjoin ! $
    let τ : ℕ → Ty = λ k. (spot_of 𝓤 H (env (code.function).locals l) k).0 in
    sets ! (of_opd ! (lit ! tt)) refl (tt, record { fits = lit< tt }) $ sets ! (addr ! (from ! (stop !))) refl (tt, tt) $ sets ! (of_opd ! (get ! refl)) refl (tt, tt) $ sets ! (agg ! (no_more !)) refl (tt, tt) $
    sets ! (agg ! (and_then ! (get ! refl) (and_then ! (get ! refl) (and_then ! (get ! refl) (no_more !))))) refl (tt, (tt, (tt, (tt, tt)))) $
    first ! $ blocks ! $ sets ! (addr ! (from ! (stop !))) refl (tt, tt) $ sets ! (of_opd ! (get ! refl)) refl (hand_good w p at.0 at.1) $
    let n : Ptr = block_ptr (l 2) 0 in
    move ! (10 ∷ []) $ use1 𝓛 (‵ (fat full_share (τ 8) (l 4) 0 (hand_of n n))) (via 𝓤 _ (𝓛.laws.at_raw full_share (τ 4) (l 4) 0 (hand_of n n)) (𝓛.laws.raw_at full_share (τ 8) (l 4) 0 (hand_of n n))) $ move ! (1 ∷ 2 ∷ 3 ∷ 4 ∷ 5 ∷ 6 ∷ 7 ∷ 8 ∷ 9 ∷ 10 ∷ 0 ∷ []) $
    assigns_last ! (of_opd ! (get ! refl)) (through ! refl (stop !)) (store ! 10 refl (hand_good w p at.0 at.1)) $
    exec ! 𝓣.C 𝓣.Λ (env code.function.locals l) (after 6 (code.function).body) (at_ret _ Post) $
    move ! (10 ∷ []) $ use1 𝓛 (‵ (fat full_share (τ 4) (l 4) 0 (hand_of w p))) (via 𝓤 _ (𝓛.laws.at_raw full_share (τ 8) (l 4) 0 (hand_of w p)) (𝓛.laws.raw_at full_share (τ 4) (l 4) 0 (hand_of w p))) $ move ! (1 ∷ 2 ∷ 3 ∷ 4 ∷ 5 ∷ 6 ∷ 7 ∷ 8 ∷ 9 ∷ 10 ∷ 0 ∷ []) $
    sets ! (agg ! (no_more !)) refl (tt, tt) $
    let A₁ : Type 0 = (w ≡ w) × (length t.0 ≡ z.words) in
    use0 𝓛 (raw (fact 𝓤 A₁)) (fact_i 𝓤 A₁ (emp 𝓤) (refl, so.0)) $
    nothing ! $ nothing ! $ fjoin ! $ returns ! (look_at ! 0 refl) $ free_all ! refl $ keep ! (3 ∷ 0 ∷ 2 ∷ 1 ∷ []) $ by ! (leaves 𝓛 f.ended stayed c y nothing_val r (tt, tt) (tt, tt)))))))

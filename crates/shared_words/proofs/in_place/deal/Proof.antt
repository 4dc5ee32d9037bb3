-- The cells go under the table's invariant where they lie, and the first seat is made.
use Rattle.atomic_table.proofs.Names.{Val, vstruct, fsep, ‵, some, ◌$◌, move, drop, fsplit, fjoin, fpack, feq_i, nothing, heard}
use Rattle.std.proofs.Common.{drop as drop_list}
use Rattle.shared_words.proofs.Common.{Goes-dropped, Good, HandData, InBlock, List, Ptr, Ptr-Good, RawPtr, SProp, Stays, TableId, Token, Ty, Valss, View, addr, agg, alive, alloc_all, and_then, at_ret, await, blocks, by, deals, dealt_good, emp, enter, env, exec, fact, fact_i, fat, first, fjoin3, free_all, from, ftrue, full_share, get, given, hand_good, hand_made, hand_of, join, keep, later, learn, leaves, length, lit<, load, look, look_at, mem, mine, no_more, of_list, of_opd, opening, owns, pair_of, pass_all, pick, plain, proved, ptr_val, qed, raw, rawptr_Tells, rawptr_vals, refl, returns, rewrite, sets, sets_last, split, spot_of, stay_dropped, stop, strip, strip_lies, table_owns, tables, through, token_made, token_val, types_at, u64, u8, use0, use1, use2, via, walk_of, yes, ℕ, !, [], ◌*◌, ◌++◌, ◌<◌, ◌^◌, ◌∵◌, ◌∷◌, ◌≡◌, ◌⊛◌}
use Rattle.std.proofs.VecSteps.Shapes.{after}
use Rattle.shared_words.specs.contracts.rule.CellRuleTableRuleU8ViewInitialWords.TheImpl as rule
use Rattle.shared_words.specs.contracts.in_place.Row as row
use Rattle.shared_words.specs.contracts.in_place.deal as f
use Rattle.shared_words.specs.contracts.in_place.deal.Key.{name as key}
use Rattle.shared_words.proofs.RowFields.{Views, Initials, Rules, Cells, Seats, nothing_val, row_told}
use Rattle.shared_words.proofs.in_place.deal.Statement.{statement}
use Rattle.shared_words.proofs.in_place.deal.Code as code

abbrev stayed : Stays (f.ended).signature.params (f.ended).kept
stayed = (stay_dropped (plain (λ _. RawPtr)) yes, (stay_dropped (plain (λ _. row.the_row)) yes, tt))

pub deal_spec : {M : Type 1} → statement M
deal_spec 𝓤 𝓛 𝓜 𝓡 wired =
    let H = 𝓛.H in let 𝓣 = tables 𝓤 H 𝓜 𝓡 𝓡.env in let c = f.clauses 𝓛 𝓜.mem 𝓡.returns in let cv = Views.coded in
    proved 𝓛 f.ended stayed c 𝓜 𝓡 (Goes-dropped 𝓛 0 (plain (λ _. RawPtr)) yes (λ κs x f. refl), (Goes-dropped 𝓛 0 (plain (λ _. row.the_row)) yes (λ κs x f. refl), tt)) key code.function (code.unfolded 𝓤 H 𝓜 𝓡 wired)
    (λ κs. (rawptr_vals, ((λ x. nothing_val ∷ []), tt))) (λ κs. (rawptr_Tells, ((λ x vs so. row_told vs so.0), tt))) (λ κs qs bounds a gh are.
    let w : Ptr = a.0 in let ns : List ℕ = a.1.0.items in let v : View = opening (drop_list 1 ns) in let first_words : Initials.Denot = record { words = drop_list 1 ns } in let rules = (rule.ghosts).holds first_words in
    let y : (walk_of 𝓛 f.ended stayed c).Ghost = ((κs, qs, bounds, a, (ptr_val w ∷ [], (nothing_val ∷ [], tt))), gh) in let Post : Val → SProp 𝓤 = (walk_of 𝓛 f.ended stayed c).post y in
    qed 𝓛 ((raw (alive 𝓛 f.signature κs qs) ⊛ ‵ (owns (types_at f.signature.params κs) a y.0.4)) ∷ (raw (fact 𝓤 (a.1.0.ptr ≡ w)) ⊛ raw (fact 𝓤 (Good ns (v ∷ [])))) ∷ []) ∵
    move ! (1 ∷ []) $ split ! $ heard ! (a.1.0.ptr ≡ w) (λ here. heard ! (Good ns (v ∷ [])) (λ good. split ! $ move ! (1 ∷ []) $ fsplit ! $ drop ! $ fsplit ! $ fsplit ! $ keep ! (1 ∷ 3 ∷ []) $
    rewrite ! 0 (λ (x : Ptr). ‵ (strip u64 x ns)) here refl $
    use1 𝓛 (given (InBlock w × (length ns * 8 < 2 ^ 63)) (‵ (strip u64 w ns))) (strip_lies 𝓛 u64 w ns) $ learn ! (λ fw.
    enter ! 𝓣.C 𝓣.Λ code.function (ptr_val w ∷ nothing_val ∷ []) Post $ alloc_all ! (λ l. pass_all ! refl (Ptr-Good w fw.0, ((tt, tt), tt)) $
    nothing ! $ nothing ! $ fpack ! (InBlock w × (0 * (mem u8).size < 2 ^ 63)) (λ _. ftrue) (fw.0, lit< tt) $ fjoin ! $ move ! (1 ∷ 0 ∷ []) $
    use2 𝓛 (later (some (λ (z : TableId). given ((z.words ≡ length ns) × (z.slots ≡ 0) × InBlock w × InBlock w) (‵ (table_owns u8 cv.code rules w w z) ⊛ ‵ (mine u8 cv.code z 0 (v, [])))))) (deals 𝓛 u8 cv rules w w ns [] v good) $ await ! tt $ pick ! (λ z. learn ! (λ so. split ! $
    let u : Val = pair_of (hand_of w w) token_val in
    let t : Cells.Denot = record { words = w; slots = w; marker = record {}; table_id = z; key = first_words } in let r : Seats.Denot = record { marker = record {}; table_id = z; id = 0; me = (v, []) } in
    let A₁ : Type 0 = w ≡ w in let A₂ : Type 0 = (z.words ≡ length ns) × (z.slots ≡ 0) in let A₃ : Type 0 = (z ≡ z) × (r.me ≡ r.me) in
    use0 𝓛 (‵ ((HandData u8 Views Initials Rules rule.ghosts).own_val (w, (w, (tt, tt))) (hand_of w w ∷ []))) (hand_made u8 Views Initials Rules rule.ghosts 𝓛 w w) $ fjoin ! $ move ! (1 ∷ []) $
    use0 𝓛 (‵ ((Token u8 Views).own_val (tt, tt) (token_val ∷ []))) (token_made u8 Views 𝓛) $ fjoin ! $ nothing ! $ move ! (2 ∷ 1 ∷ 0 ∷ []) $ fjoin3 ! $ feq_i ! (List Val) (u ∷ []) (u ∷ []) refl $ fjoin ! $
    fpack ! (Valss (Cells ∷ Seats ∷ [])) (λ vss. fsep (base.Fml.feq (List Val) (u ∷ []) (vstruct (of_list (vss.0 ++ (vss.1.0 ++ []))) ∷ [])) (owns (Cells ∷ Seats ∷ []) (t, (r, tt)) vss)) (hand_of w w ∷ [], (token_val ∷ [], tt)) $
    sets ! (of_opd ! (get ! refl)) refl (Ptr-Good w fw.0) $ sets ! (agg ! (no_more !)) refl (tt, tt) $
    sets ! (agg ! (and_then ! (get ! refl) (and_then ! (get ! refl) (and_then ! (get ! refl) (no_more !))))) refl (hand_good w w fw.0 fw.0) $
    sets ! (agg ! (no_more !)) refl (tt, tt) $ sets ! (agg ! (and_then ! (get ! refl) (no_more !))) refl (tt, (tt, tt)) $
    let τ : ℕ → Ty = λ k. (spot_of 𝓤 H (env (code.function).locals l) k).0 in
    first ! $ blocks ! $ sets ! (addr ! (from ! (stop !))) refl (tt, tt) $
    move ! (18 ∷ []) $ use1 𝓛 (‵ (fat full_share (τ 9) (l 3) 0 (hand_of w w))) (via 𝓤 _ (𝓛.laws.at_raw full_share (τ 3) (l 3) 0 (hand_of w w)) (𝓛.laws.raw_at full_share (τ 9) (l 3) 0 (hand_of w w))) $ move ! (1 ∷ 2 ∷ 3 ∷ 4 ∷ 5 ∷ 6 ∷ 7 ∷ 8 ∷ 9 ∷ 10 ∷ 11 ∷ 12 ∷ 13 ∷ 14 ∷ 15 ∷ 16 ∷ 17 ∷ 18 ∷ 0 ∷ []) $
    sets ! (of_opd ! (load ! (through ! refl (stop !)) (look ! 18 refl))) refl (hand_good w w fw.0 fw.0) $
    move ! (18 ∷ []) $ use1 𝓛 (‵ (fat full_share (τ 3) (l 3) 0 (hand_of w w))) (via 𝓤 _ (𝓛.laws.at_raw full_share (τ 9) (l 3) 0 (hand_of w w)) (𝓛.laws.raw_at full_share (τ 3) (l 3) 0 (hand_of w w))) $ move ! (1 ∷ 2 ∷ 3 ∷ 4 ∷ 5 ∷ 6 ∷ 7 ∷ 8 ∷ 9 ∷ 10 ∷ 11 ∷ 12 ∷ 13 ∷ 14 ∷ 15 ∷ 16 ∷ 17 ∷ 18 ∷ 0 ∷ []) $
    sets ! (addr ! (from ! (stop !))) refl (tt, tt) $
    move ! (16 ∷ []) $ use1 𝓛 (‵ (fat full_share (τ 11) (l 4) 0 token_val)) (via 𝓤 _ (𝓛.laws.at_raw full_share (τ 4) (l 4) 0 token_val) (𝓛.laws.raw_at full_share (τ 11) (l 4) 0 token_val)) $ move ! (1 ∷ 2 ∷ 3 ∷ 4 ∷ 5 ∷ 6 ∷ 7 ∷ 8 ∷ 9 ∷ 10 ∷ 11 ∷ 12 ∷ 13 ∷ 14 ∷ 15 ∷ 16 ∷ 0 ∷ []) $
    sets ! (of_opd ! (load ! (through ! refl (stop !)) (look ! 16 refl))) refl (tt, (tt, tt)) $
    move ! (16 ∷ []) $ use1 𝓛 (‵ (fat full_share (τ 4) (l 4) 0 token_val)) (via 𝓤 _ (𝓛.laws.at_raw full_share (τ 11) (l 4) 0 token_val) (𝓛.laws.raw_at full_share (τ 4) (l 4) 0 token_val)) $ move ! (1 ∷ 2 ∷ 3 ∷ 4 ∷ 5 ∷ 6 ∷ 7 ∷ 8 ∷ 9 ∷ 10 ∷ 11 ∷ 12 ∷ 13 ∷ 14 ∷ 15 ∷ 16 ∷ 0 ∷ []) $
    sets_last ! (agg ! (and_then ! (get ! refl) (and_then ! (get ! refl) (no_more !)))) refl (dealt_good w w fw.0 fw.0) $
    exec ! 𝓣.C 𝓣.Λ (env code.function.locals l) (after 6 (code.function).body) (at_ret _ Post) $
    sets ! (of_opd ! (get ! refl)) refl (dealt_good w w fw.0 fw.0) $
    use0 𝓛 (raw (fact 𝓤 A₃)) (fact_i 𝓤 A₃ (emp 𝓤) (refl, refl)) $ use0 𝓛 (raw (fact 𝓤 A₂)) (fact_i 𝓤 A₂ (emp 𝓤) (so.0, so.1)) $ join ! $ use0 𝓛 (raw (fact 𝓤 A₁)) (fact_i 𝓤 A₁ (emp 𝓤) refl) $ join ! $
    nothing ! $ nothing ! $ fjoin ! $ nothing ! $ fjoin ! $ returns ! (look_at ! 0 refl) $ free_all ! refl $ keep ! (3 ∷ 0 ∷ 2 ∷ 1 ∷ []) $ by ! (leaves 𝓛 f.ended stayed c y u (t, r) (tt, (tt, tt)) (tt, (tt, tt))))))))))

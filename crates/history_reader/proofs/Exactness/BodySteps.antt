-- A line within an attempt that is read adds just itself to the text that the state stands for.
use Rattle.std.proofs.Common.{◌≡◌, ℕ, suc, Bool, true, false, cond, List, [], ◌∷◌, ◌++◌, length, Some, refl, sym, ap, subst, ◌∙◌, arith, append_assoc, append-nil, length-append, All, codes}
use Rattle.history_reader.proofs.Common.{Again, All-append, All-cons, All-nil, All-push, AreAgain, Behind, CallRecord, Head, IfOk, IsAttempt, IsEntry, IsInnerBegin, IsRan, IsTold, IsUndone, One, Place, Reply, State, Three, Two, Version, again_lines, and_parts, behind_call, bind_if, call_lines, call_of, end_line, eqb-true, is_begin, is_entered, is_five, none, ran_of, restart_line, restart_of, restart_said, slice_get, undone_of, with_undone}
use Rattle.itm_types.specs.declared.call.Reply.TheVariants as replies
use Rattle.history_reader.specs.declared.state.Behind.TheVariants as behinds
use Rattle.history_reader.specs.declared.state.Place.TheVariants as places
use Rattle.history_reader.specs.Lines.{call_line, undone_line, ran_line}
use Rattle.history_reader.proofs.BlocksAgain.{AreBetween, also, again_also, again_more, again_push, between_first, between_of, got_last, lines_also, told_also, undone_is, whole_again, whole_call}
use Rattle.history_reader.proofs.Exactness.Calls.{none_exact}
use Rattle.history_reader.proofs.Exactness.Entries.{call_exact}
use Rattle.history_reader.proofs.Exactness.Heads.{restart_of_exact, ran_exact, undone_exact}
use Rattle.history_reader.proofs.Exactness.Lines.{line_of, ran_joined, restart_joined, undone_joined, call_joined}
use Rattle.history_reader.proofs.Exactness.States.{attempt_of, open_lines, done_lines, so_far, IsBegun, IsBehind, IsOpen, IsSoFar, Follows, Grows, Tells, may_tell, body_grows, ran_grows, end_grows}

five : (r : Reply) → is_five r ≡ true → r ≡ replies.Code 5
five (replies.Code n) e = ap (λ (c : ℕ). replies.Code c) (eqb-true n 5 e)
five r e = absurd cc

by_test : (s : State) (b : Bool) → (b ≡ true → IsBegun s) → IsBehind (cond b behinds.Begin behinds.Call) s
by_test s true f = f refl
by_test s false f = tt

begun_so : (s : State) → Tells s.version → (place : ℕ) → length s.calls ≡ suc place → IsInnerBegin (slice_get s.calls place) → AreBetween 0 place s.restarts → IsBegun s
begun_so s tells place last begins earlier = record { tells = tells; place = place; last = last; begins = begins; earlier = earlier }

-- ## Within the calls

entered_begins : (e : CallRecord) → is_entered e ≡ true → IsInnerBegin (Some e)
entered_begins e h =
    let p = and_parts (is_begin e.call) (is_five e.reply) h in
    (p.0, five e.reply p.1)

-- a call leaves what stands behind it
behind_is : (version : Version) (e : CallRecord) (s : State) → s.version ≡ version → (is_entered e ≡ true → Tells s.version → IsBegun s) → IsBehind (behind_call version e) s
behind_is One e s v f = tt
behind_is Two e s v f = by_test s (is_entered e) (λ i. f i (subst Tells (sym v) tt))
behind_is (Three depth) e s v f = by_test s (is_entered e) (λ i. f i (subst Tells (sym v) tt))

pub call_step : (h : Head) (b : Behind) (s : State) (fs : List (List ℕ)) → IsSoFar (places.InCalls h b) s → IfOk (call_line s h fs) (Grows (places.InCalls h b) s (codes "call" ∷ fs))
unfolding call_line
call_step h b s fs k =
    bind_if _ _ (call_of fs) _ (call_exact fs) (λ e c.
    let u = record s { place = places.InCalls h (behind_call s.version e); calls = s.calls ++ e ∷ [] } in
    let d = done_lines s.version s.memory s.attempts in
    let o = k.0 in
    let there = between_of (length s.arena) 0 s.calls s.restarts o.again in
    let begun = λ (i : is_entered e ≡ true) (tells : Tells s.version). begun_so u tells (length s.calls) (omega (arith, length-append s.calls (e ∷ []))) (subst IsInnerBegin (sym (got_last s.calls e)) (entered_begins e i)) there in
    record {
      text = body_grows d h s.arena s.calls (s.calls ++ e ∷ []) s.restarts s.restarts s.ran (line_of (codes "call" ∷ fs)) k.1
          (whole_call s.calls e s.restarts there ∙ ap (λ (l : List ℕ). call_lines 0 s.calls s.restarts ++ l) (call_joined e ∙ ap (λ (l : List (List ℕ)). line_of (codes "call" ∷ l)) (sym c.0)));
      kept = (assumption (All-push IsEntry s.calls e o.calls c.1, again_more (length s.arena) 0 s.calls e s.restarts o.again, o), k.1, behind_is s.version e u refl begun);
    })

pub restart_step : (h : Head) (s : State) (fs : List (List ℕ)) → IsSoFar (places.InCalls h behinds.Begin) s → IfOk (restart_said s h fs) (Grows (places.InCalls h behinds.Begin) s (codes "restart" ∷ fs))
unfolding restart_said again_lines
restart_step h s fs k =
    let size = length s.arena in
    bind_if _ _ (restart_of size fs) _ (restart_of_exact size fs) (λ bytes r.
    let a : Again = record { kept = length s.calls; arena = bytes; undone = [] } in
    let d = done_lines s.version s.memory s.attempts in
    let o = k.0 in
    let g = k.2 in
    let there = between_of size 0 s.calls s.restarts o.again in
    let again = again_push size 0 g.place s.calls s.restarts a o.again g.earlier (omega arith) (sym g.last) (record { place = g.place; kept = g.last; begins = g.begins; arena = r.1.1 }) in
    let restarts = All-append IsTold s.restarts (a ∷ []) o.restarts (All-cons IsTold a [] (r.1.0, All-nil IsUndone) (All-nil IsTold)) in
    record {
      text = body_grows d h s.arena s.calls s.calls s.restarts (s.restarts ++ a ∷ []) s.ran (line_of (codes "restart" ∷ fs)) k.1
          (whole_again s.calls s.restarts a there refl
          ∙ ap (λ (l : List ℕ). call_lines 0 s.calls s.restarts ++ l) (append-nil (restart_line bytes) ∙ restart_joined bytes ∙ ap (λ (l : List (List ℕ)). line_of (codes "restart" ∷ l)) (sym r.0)));
      kept = (assumption (again, restarts, may_tell s.version (s.restarts ++ a ∷ []) g.tells, o), k.1, record { tells = g.tells; others = s.restarts; last = a; all = refl; kept = refl });
    })

pub undone_step : (h : Head) (s : State) (fs : List (List ℕ)) → s.place ≡ places.InCalls h behinds.Restart → IsSoFar (places.InCalls h behinds.Restart) s
    → IfOk (undone_line s fs) (Grows (places.InCalls h behinds.Restart) s (codes "undone" ∷ fs))
unfolding undone_line
undone_step h s fs at k =
    let size = length s.arena in
    let o = k.0 in
    let g = k.2 in
    let a = g.last in
    let p = places.InCalls h behinds.Restart in
    let said : List ℕ = line_of (codes "undone" ∷ fs) in
    let d = done_lines s.version s.memory s.attempts in
    let again : AreAgain size 0 s.calls (g.others ++ a ∷ []) = subst (AreAgain size 0 s.calls) g.all o.again in
    let there = between_first size 0 s.calls g.others a again in
    bind_if _ _ (undone_of fs) _ (undone_exact fs) (λ x r.
    let more = also a x in
    let rs = g.others ++ more ∷ [] in
    let u = record s { restarts = rs } in
    let same : with_undone s.restarts x ≡ rs = ap (λ (l : List Again). with_undone l x) g.all ∙ undone_is g.others a x in
    let lines : call_lines 0 s.calls rs ≡ call_lines 0 s.calls s.restarts ++ said =
    whole_again s.calls g.others more there g.kept
    ∙ ap (λ (l : List ℕ). call_lines 0 s.calls g.others ++ l) (lines_also a x ∙ ap (λ (l : List ℕ). again_lines a ++ l) (undone_joined x ∙ ap (λ (l : List (List ℕ)). line_of (codes "undone" ∷ l)) (sym r.0)))
    ∙ sym (append_assoc (call_lines 0 s.calls g.others) (again_lines a) said)
    ∙ ap (λ (l : List ℕ). l ++ said) (sym (whole_again s.calls g.others a there g.kept) ∙ ap (call_lines 0 s.calls) (sym g.all)) in
    let told = told_also g.others a x (subst (λ (l : List Again). All IsTold l) g.all o.restarts) r.1 in
    let kept : IsSoFar p u = (
      assumption (again_also size 0 s.calls g.others a x again, told, may_tell s.version rs g.tells, o),
      k.1,
      record { tells = g.tells; others = g.others; last = more; all = refl; kept = g.kept },
    ) in
    let grown : Follows p s u said = record {
      text = subst (λ (q : Place). so_far q u ≡ so_far p s ++ said) (sym at) (body_grows d h s.arena s.calls s.calls s.restarts rs s.ran said k.1 lines);
      kept = subst (λ (q : Place). IsSoFar q u) (sym at) kept;
    } in
    subst (λ (l : List Again). Follows p s (record s { restarts = l }) said) (sym same) grown)

-- ## Behind the calls

pub ran_step : (p : Place) (h : Head) (s : State) (fs : List (List ℕ)) → so_far p s ≡ so_far (places.InRan h) s → IsOpen h s → IfOk (ran_line s h fs) (Grows p s (codes "ran" ∷ fs))
unfolding ran_line
ran_step p h s fs at k =
    let d = done_lines s.version s.memory s.attempts in
    bind_if _ _ (ran_of fs) _ (ran_exact fs) (λ x r. record {
      text = ran_grows d h s.arena s.calls s.restarts s.ran x
          ∙ ap (λ (l : List ℕ). d ++ open_lines h s.arena s.calls s.restarts s.ran ++ l) (ran_joined x ∙ ap (λ (l : List (List ℕ)). line_of (codes "ran" ∷ l)) (sym r.0))
          ∙ ap (λ (l : List ℕ). l ++ line_of (codes "ran" ∷ fs)) (sym at);
      kept = assumption (All-push IsRan s.ran x k.ran r.1, k);
    })

tellable : (h : Head) (s : State) → IsOpen h s → IsAttempt s.version (attempt_of h s.arena s.calls s.restarts s.ran)
tellable h s k =
    let none : ℕ = 0 in
    let same : none ≡ none = refl in
    assumption (same, k.head.0, k.head.1, k.head.2, k)

pub end_step : (p : Place) (h : Head) (s : State) (fs : List (List ℕ)) → so_far p s ≡ so_far (places.InRan h) s → IsOpen h s → IfOk (end_line s h fs) (Grows p s (codes "end" ∷ fs))
unfolding end_line
end_step p h s fs at k =
    bind_if _ _ (none fs) _ (none_exact fs) (λ u no. record {
      text = end_grows s.version s.memory s.attempts h s.arena s.calls s.restarts s.ran ∙ ap (λ (l : List ℕ). l ++ codes "end\n") (sym at)
          ∙ ap (λ (l : List (List ℕ)). so_far p s ++ line_of (codes "end" ∷ l)) (sym no);
      kept = ((k.done.0, All-push (IsAttempt s.version) s.attempts (attempt_of h s.arena s.calls s.restarts s.ran) k.done.1 (tellable h s k)), (refl, refl, refl));
    })

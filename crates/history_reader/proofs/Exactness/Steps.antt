-- A line that is read adds just itself to the text that the state stands for.
use Rattle.std.proofs.Common.{◌≡◌, ℕ, true, cond, List, [], ◌∷◌, ◌++◌, length, Result, Ok, Err, refl, sym, ap, subst, ◌∙◌, append-nil, codes, bytes_eq}
use Rattle.history_reader.proofs.Common.{Again, All-nil, All-same, AreAgain, FaultKind, Attempt, Behind, Head, IfOk, IsAttempt, IsEntry, IsRan, IsTold, MayTell, One, Place, State, Three, Two, Version, again_or_later, arena_fields, arena_of, attempt_lines, between_line, bind_if, by_place, bytes_eq-Decides, call_or_later, choice_if, depth_fields, depth_line, depth_of, end_line, exactly, fields, fields_line, final_line, final_of, first_lines, flat_map, head_of, header_line, join_with_byte-slice_split, later_line, meaning, memory_fields, memory_limit, memory_line, memory_of, next, none, placed, restart_said, thread_limit, version_lines, ◌>>=◌}
use Rattle.script_fields.specs.declared.fault.FaultKind.TheVariants as operands
use Rattle.history_reader.specs.declared.fault.ReadKind.TheVariants as kinds
use Rattle.history_reader.specs.declared.state.Behind.TheVariants as behinds
use Rattle.history_reader.specs.declared.state.Place.TheVariants as places
use Rattle.history_reader.specs.Lines.{head_line, arena_line, call_line, undone_line, ran_line}
use Rattle.history_reader.proofs.Exactness.Fields.{exactly_is, told_if}
use Rattle.history_reader.proofs.Exactness.Calls.{next_exact}
use Rattle.history_reader.proofs.Exactness.Heads.{head_exact, depth_exact, memory_of_exact, arena_of_exact, final_exact}
use Rattle.history_reader.proofs.Exactness.Lines.{line_of, arena_joined, depth_joined, memory_joined, final_joined}
use Rattle.history_reader.proofs.Exactness.BodySteps.{call_step, end_step, ran_step, restart_step, undone_step}
use Rattle.history_reader.proofs.Exactness.States.{head_text, done_lines, so_far, IsOpen, IsSoFar, Follows, Grows, arena_grows}

may_none : (version : Version) (rs : List Again) → rs ≡ [] → MayTell version rs
may_none One rs e = e
may_none Two rs e = tt
may_none (Three depth) rs e = tt

-- ## Each line

depth_step : (s : State) (word : List ℕ) (fs : List (List ℕ)) → IsSoFar places.AtDepth s → IfOk (depth_line s word fs) (Grows places.AtDepth s (word ∷ fs))
unfolding depth_line
depth_step s word fs k =
    bind_if _ _ (exactly (codes "depth") word) _ (exactly_is (codes "depth") word) (λ u w. bind_if _ _ (depth_of fs) _ (depth_exact fs) (λ d f.
    let all : word ∷ fs ≡ depth_fields d.blocks = cc (w.0, f.0) in
    record { text = depth_joined d ∙ ap (λ (l : List (List ℕ)). codes "itm-history 3\n" ++ line_of l) (sym all); kept = k }))

memory_step : (s : State) (word : List ℕ) (fs : List (List ℕ)) → IsSoFar places.AtMemory s → IfOk (memory_line s word fs) (Grows places.AtMemory s (word ∷ fs))
unfolding memory_line
memory_step s word fs k =
    bind_if _ _ (exactly (codes "memory") word) _ (exactly_is (codes "memory") word) (λ u w. bind_if _ _ (memory_of (memory_limit s.version) fs) _ (memory_of_exact (memory_limit s.version) fs) (λ bytes m.
    let all : word ∷ fs ≡ memory_fields bytes = cc (w.0, m.0) in
    record {
      text = ap (λ (l : List Attempt). first_lines s.version bytes ++ flat_map attempt_lines l) k.0 ∙ append-nil (first_lines s.version bytes) ∙ memory_joined s.version bytes
          ∙ ap (λ (l : List (List ℕ)). version_lines s.version ++ line_of l) (sym all);
      kept = ((m.1, All-same (IsAttempt s.version) s.attempts [] k.0 (All-nil (IsAttempt s.version))), k.1);
    }))

head_step : (s : State) (fs : List (List ℕ)) → IsSoFar places.Between s → IfOk (head_line s fs) (Grows places.Between s (codes "attempt" ∷ fs))
unfolding head_line
head_step s fs k =
    bind_if _ _ (head_of (thread_limit s.version) fs) _ (head_exact (thread_limit s.version) fs) (λ h e.
    record { text = ap (λ (l : List (List ℕ)). done_lines s.version s.memory s.attempts ++ line_of (codes "attempt" ∷ l)) (sym e.0); kept = (k.0, e.1, k.1) })

final_step : (s : State) (fs : List (List ℕ)) → IsSoFar places.Between s → IfOk (final_line s fs) (Grows places.Between s (codes "final" ∷ fs))
unfolding final_line
final_step s fs k =
    bind_if _ _ (final_of (length s.memory) fs) _ (final_exact (length s.memory) fs) (λ x f. record {
      text = ap (λ (l : List ℕ). done_lines s.version s.memory s.attempts ++ l) (final_joined x.0 x.1 ∙ ap (λ (l : List (List ℕ)). line_of (codes "final" ∷ l)) (sym f.0));
      kept = record { memory = k.0.0; attempts = k.0.1; clock = f.1; bytes = f.2 };
    })

arena_step : (h : Head) (s : State) (word : List ℕ) (fs : List (List ℕ)) → IsSoFar (places.AtArena h) s → IfOk (arena_line s h word fs) (Grows (places.AtArena h) s (word ∷ fs))
unfolding arena_line
arena_step h s word fs k =
    bind_if _ _ (exactly (codes "arena") word) _ (exactly_is (codes "arena") word) (λ u w. bind_if _ _ (arena_of fs) _ (arena_of_exact fs) (λ bytes a.
    let all : word ∷ fs ≡ arena_fields bytes = cc (w.0, a.0) in
    let d = done_lines s.version s.memory s.attempts in
    let again = subst (λ (rs : List Again). AreAgain (length bytes) 0 s.calls rs) (sym k.2.1) tt in
    record {
      text = arena_grows d h bytes s.calls s.restarts s.ran k.2.0 k.2.1 k.2.2 ∙ ap (λ (l : List ℕ). d ++ head_text h ++ l) (arena_joined bytes ∙ ap line_of (sym all));
      kept = (
        assumption (All-same IsEntry s.calls [] k.2.0 (All-nil IsEntry), All-same IsTold s.restarts [] k.2.1 (All-nil IsTold), All-same IsRan s.ran [] k.2.2 (All-nil IsRan), may_none s.version s.restarts k.2.1, again, a.1, k.1, k.0),
        k.2.2,
        tt,
      );
    }))

-- ## By the first field

by_word : (p : Place) (s : State) (name word : List ℕ) (fs : List (List ℕ)) (r other : Result State FaultKind) → IfOk r (Grows p s (name ∷ fs)) → IfOk other (Grows p s (word ∷ fs))
    → IfOk (cond (bytes_eq word name) r other) (Grows p s (word ∷ fs))
by_word p s name word fs r other h k =
    choice_if _ (bytes_eq word name) r other (λ same. subst (λ (w : List ℕ). IfOk r (Grows p s (w ∷ fs))) (sym ((bytes_eq-Decides word name).0 same)) h) (λ differs. k)

between_step : (s : State) (word : List ℕ) (fs : List (List ℕ)) → IsSoFar places.Between s → IfOk (between_line s word fs) (Grows places.Between s (word ∷ fs))
unfolding between_line
between_step s word fs k =
    by_word places.Between s (codes "attempt") word fs (head_line s fs) _ (head_step s fs k) (by_word places.Between s (codes "final") word fs (final_line s fs) (Err operands.Operand) (final_step s fs k) tt)

later_step : (p : Place) (h : Head) (s : State) (word : List ℕ) (fs : List (List ℕ)) → so_far p s ≡ so_far (places.InRan h) s → IsOpen h s → IfOk (later_line s h word fs) (Grows p s (word ∷ fs))
unfolding later_line
later_step p h s word fs at k = by_word p s (codes "ran") word fs (ran_line s h fs) _ (ran_step p h s fs at k) (by_word p s (codes "end") word fs (end_line s h fs) (Err operands.Operand) (end_step p h s fs at k) tt)

again_or_later_step : (h : Head) (b : Behind) (s : State) (word : List ℕ) (fs : List (List ℕ)) → s.place ≡ places.InCalls h b → IsSoFar (places.InCalls h b) s
    → IfOk (again_or_later b s h word fs) (Grows (places.InCalls h b) s (word ∷ fs))
unfolding again_or_later
again_or_later_step h behinds.Call s word fs at k = later_step (places.InCalls h behinds.Call) h s word fs refl k.0
again_or_later_step h behinds.Begin s word fs at k =
    by_word (places.InCalls h behinds.Begin) s (codes "restart") word fs (restart_said s h fs) (later_line s h word fs) (restart_step h s fs k) (later_step (places.InCalls h behinds.Begin) h s word fs refl k.0)
again_or_later_step h behinds.Restart s word fs at k =
    by_word (places.InCalls h behinds.Restart) s (codes "undone") word fs (undone_line s fs) (later_line s h word fs) (undone_step h s fs at k) (later_step (places.InCalls h behinds.Restart) h s word fs refl k.0)

-- ## By the place

placed_step : (p : Place) (s : State) (word : List ℕ) (fs : List (List ℕ)) → s.place ≡ p → IsSoFar p s → IfOk (placed p s word fs) (Grows p s (word ∷ fs))
unfolding placed call_or_later
placed_step places.AtHeader s word fs at k = tt
placed_step places.AtDepth s word fs at k = depth_step s word fs k
placed_step places.AtMemory s word fs at k = memory_step s word fs k
placed_step places.Between s word fs at k = between_step s word fs k
placed_step (places.AtArena h) s word fs at k = arena_step h s word fs k
placed_step (places.InCalls h b) s word fs at k = by_word (places.InCalls h b) s (codes "call") word fs (call_line s h fs) (again_or_later b s h word fs) (call_step h b s fs k) (again_or_later_step h b s word fs at k)
placed_step (places.InRan h) s word fs at k = later_step (places.InRan h) h s word fs refl k
placed_step (places.AtEnd clock) s word fs at k = tt

fields_step : (p : Place) (s : State) (line : List ℕ) → s.place ≡ p → IsSoFar p s → IfOk (fields_line s line) (λ t. Follows p s t (line ++ 10 ∷ []))
unfolding fields
fields_step p s line at k =
    told_if _ (next (fields line) >>= λ x. placed s.place s x.0 x.1) (bind_if _ _ (next (fields line)) _ (next_exact (fields line)) (λ x e.
    let whole : line_of (x.0 ∷ x.1) ≡ line ++ 10 ∷ [] = ap line_of (sym e) ∙ ap (λ (l : List ℕ). l ++ 10 ∷ []) (join_with_byte-slice_split 32 line) in
    subst (λ (q : Place). IfOk (placed q s x.0 x.1) (λ t. Follows p s t (line ++ 10 ∷ []))) (sym at)
    (subst (λ (l : List ℕ). IfOk (placed p s x.0 x.1) (λ t. Follows p s t l)) whole (placed_step p s x.0 x.1 at k))))

-- a version's name with its line feed is the line
header_fed : (name line : List ℕ) → bytes_eq line name ≡ true → name ++ 10 ∷ [] ≡ line ++ 10 ∷ []
header_fed name line same = ap (λ (l : List ℕ). l ++ 10 ∷ []) (sym ((bytes_eq-Decides line name).0 same))

header_step : (s : State) (line : List ℕ) → IsSoFar places.AtHeader s → IfOk (header_line s line) (λ t. Follows places.AtHeader s t (line ++ 10 ∷ []))
header_step s line k =
    choice_if _ (bytes_eq line (codes "itm-history 1")) (Ok (record s { place = places.AtMemory })) _ (λ first. record { text = ap version_lines k.0 ∙ header_fed (codes "itm-history 1") line first; kept = (k.1, k.2) }) (λ later.
    choice_if _ (bytes_eq line (codes "itm-history 2")) (Ok (record s { place = places.AtMemory; version = Two })) _ (λ second. record { text = header_fed (codes "itm-history 2") line second; kept = (k.1, k.2) }) (λ last.
    choice_if _ (bytes_eq line (codes "itm-history 3")) (Ok (record s { place = places.AtDepth })) (Err kinds.Header) (λ third. record { text = header_fed (codes "itm-history 3") line third; kept = (k.1, k.2) }) (λ none. tt)))

by_place_step : (p : Place) (s : State) (line : List ℕ) → s.place ≡ p → IsSoFar p s → IfOk (by_place p s line) (λ t. Follows p s t (line ++ 10 ∷ []))
by_place_step places.AtHeader s line at k = header_step s line k
by_place_step p s line at k = fields_step p s line at k

-- one more line adds itself to the text, and what is kept is what a text can tell
pub line_exact : (s : State) (line : List ℕ) → IsSoFar s.place s → IfOk (meaning s line) (λ t. Follows s.place s t (line ++ 10 ∷ []))
unfolding meaning
line_exact s line k = by_place_step s.place s line refl k

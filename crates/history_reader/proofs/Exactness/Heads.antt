-- What is read of the fields of a line that is no call's is so spelled.
use Rattle.std.proofs.Common.{◌≡◌, ℕ, ◌+◌, ◌≤◌, List, [], ◌∷◌, length, refl, sym, ap, ◌∙◌, decimal, Result}
use Rattle.history_reader.proofs.Common.{FaultKind, Head, IfOk, IfOk-weaker, IsBytes, IsMemory, IsRan, IsUndone, IsWord, MAX_ARENA, MAX_DEPTH, MAX_RETRIES, arena_bytes, arena_of, arena_text, bind_if, block_props, both, both_if, depth, depth_of, encode_lower, final_of, function, head_of, kind, kind_names, kind_text, lookup, memory_bytes, memory_of, near_is, next, next_three, none, nth, number, one, outcome, outcome_name, outcome_names, outcome_of, props_text, ran_of, ranged, restart_bytes, restart_of, sized, thread, try_of, undone_of, ◌>>=◌}
use Rattle.history_reader.proofs.Exactness.Calls.{next_exact, none_exact, one_exact, three_exact, props_is}
use Rattle.history_reader.proofs.Exactness.Fields.{Exact, function_is, lookup_if, number_is, or_operand_if, ranged_is}
use Rattle.history_reader.proofs.Exactness.Bytes.{arena_is, memory_is, restart_is, sized_is}

-- ## Words

outcome_exact : (f : List ℕ) → IfOk (outcome f) (λ o. f ≡ outcome_name o)
unfolding outcome
outcome_exact f = or_operand_if _ (lookup outcome_names f) (lookup_if (λ g o. g ≡ outcome_name o) outcome_names f (refl, (refl, (refl, (refl, (refl, (refl, (refl, tt))))))))

kind_exact : (f : List ℕ) → IfOk (kind f) (λ k. f ≡ kind_text k)
unfolding kind
kind_exact f = or_operand_if _ (lookup kind_names f) (lookup_if (λ g k. g ≡ kind_text k) kind_names f (refl, (refl, tt)))

-- ## The first line of an attempt

-- what it tells is what a text can tell
abbrev pub IsHead : ℕ → Head → Type 0
IsHead limit h = (h.thread ≤ limit) × ((1 ≤ h.nth) × (h.nth ≤ MAX_RETRIES + 1)) × IsWord h.at

-- the fields behind its first one
abbrev pub told_fields : Head → List (List ℕ)
told_fields h = decimal h.thread ∷ decimal h.nth ∷ decimal h.at ∷ outcome_name h.outcome ∷ props_text h.props ∷ []

pub head_exact : (limit : ℕ) (fs : List (List ℕ)) → IfOk (head_of limit fs) (λ h. (fs ≡ told_fields h) × IsHead limit h)
unfolding head_of
head_exact limit fs =
    bind_if _ _ (next_three fs) _ (three_exact fs) (λ x three. bind_if _ _ (next x.3) _ (next_exact x.3) (λ y fourth. bind_if _ _ (one y.1) _ (one_exact y.1) (λ last fifth.
    bind_if _ _ (both (try_of limit x.0 x.1 x.2) (outcome_of y.0 last)) _
    (both_if _ _ (try_of limit x.0 x.1 x.2) (outcome_of y.0 last)
    (both_if _ _ (thread limit x.0) _ (ranged_is 0 limit x.0) (both_if _ _ (nth x.1) (number x.2) (ranged_is 1 (MAX_RETRIES + 1) x.1) (number_is x.2)))
    (both_if _ _ (outcome y.0) (block_props last) (outcome_exact y.0) (props_is last)))
    (λ r o. (cc (three, fourth, fifth, o.0.0.0, o.0.1.0.0, o.0.1.1.0, o.1.0, o.1.1.0), (o.0.0.1.1, o.0.1.0.1, o.0.1.1.1))))))

-- ## One field

-- what is read of one field alone
alone_exact : {A : Type 0} (read : List ℕ → Result A FaultKind) (text : A → List ℕ) (Is : A → Type 0) → Exact read text Is → (fs : List (List ℕ)) → IfOk (one fs >>= read) (λ x. (fs ≡ text x ∷ []) × Is x)
unfolding one next none
alone_exact read text Is h (f ∷ []) = IfOk-weaker (read f) (λ x. (f ≡ text x) × Is x) _ (λ x e. (ap (λ (g : List ℕ). g ∷ []) e.0, e.1)) (h f)
alone_exact read text Is h fs = tt

pub memory_of_exact : (limit : ℕ) (fs : List (List ℕ)) → IfOk (memory_of limit fs) (λ bytes. (fs ≡ encode_lower bytes ∷ []) × IsMemory limit bytes)
unfolding memory_of
memory_of_exact limit fs = alone_exact (memory_bytes limit) encode_lower (IsMemory limit) (memory_is limit) fs

pub arena_of_exact : (fs : List (List ℕ)) → IfOk (arena_of fs) (λ bytes. (fs ≡ arena_text bytes ∷ []) × (IsBytes bytes × (length bytes ≤ MAX_ARENA)))
unfolding arena_of
arena_of_exact fs = alone_exact arena_bytes arena_text (λ bytes. IsBytes bytes × (length bytes ≤ MAX_ARENA)) arena_is fs

pub restart_of_exact : (size : ℕ) (fs : List (List ℕ)) → IfOk (restart_of size fs) (λ bytes. (fs ≡ arena_text bytes ∷ []) × (IsBytes bytes × (length bytes ≡ size)))
unfolding restart_of
restart_of_exact size fs = alone_exact (restart_bytes size) arena_text (λ bytes. IsBytes bytes × (length bytes ≡ size)) (restart_is size) fs

-- how many blocks may be open
depth_is : Exact depth (λ d. decimal d.blocks) (λ d. Unit {0})
unfolding depth
depth_is f = bind_if _ _ (ranged 1 MAX_DEPTH f) _ (ranged_is 1 MAX_DEPTH f) (λ n w. (w.0 ∙ ap decimal (sym (near_is n w.1.0 w.1.1)), tt))

pub depth_exact : (fs : List (List ℕ)) → IfOk (depth_of fs) (λ d. (fs ≡ decimal d.blocks ∷ []) × Unit {0})
unfolding depth_of
depth_exact fs = alone_exact depth (λ d. decimal d.blocks) (λ d. Unit {0}) depth_is fs

-- ## The end

-- the clock, and as many bytes as are wanted
pub final_exact : (size : ℕ) (fs : List (List ℕ)) → IfOk (final_of size fs) (λ x. (fs ≡ decimal x.0 ∷ encode_lower x.1 ∷ []) × IsWord x.0 × (IsBytes x.1 × (length x.1 ≡ size)))
unfolding final_of
final_exact size fs =
    bind_if _ _ (next fs) _ (next_exact fs) (λ x first. bind_if _ _ (one x.1) _ (one_exact x.1) (λ last second.
    IfOk-weaker (both (number x.0) (sized size last)) (λ y. ((x.0 ≡ decimal y.0) × IsWord y.0) × ((last ≡ encode_lower y.1) × ((length y.1 ≡ size) × IsBytes y.1))) _
    (λ y o. (cc (first, second, o.0.0, o.1.0), o.0.1, (o.1.1.1, o.1.1.0))) (both_if _ _ (number x.0) (sized size last) (number_is x.0) (sized_is size last))))

-- ## Actions

-- one that ran
pub ran_exact : (fs : List (List ℕ)) → IfOk (ran_of fs) (λ r. (fs ≡ kind_text r.kind ∷ decimal r.action.fun ∷ decimal r.action.arg ∷ []) × IsRan r)
unfolding ran_of
ran_exact fs =
    bind_if _ _ (next_three fs) _ (three_exact fs) (λ x three. bind_if _ _ (none x.3) _ (none_exact x.3) (λ u no.
    bind_if _ _ (both (kind x.0) (both (function x.1) (number x.2))) _
    (both_if _ _ (kind x.0) _ (kind_exact x.0) (both_if _ _ (function x.1) (number x.2) (function_is x.1) (number_is x.2))) (λ r o. (cc (three, no, o.0, o.1.0.0, o.1.1.0), (o.1.0.1, o.1.1.1)))))

-- one that had run in a block before it ran again
pub undone_exact : (fs : List (List ℕ)) → IfOk (undone_of fs) (λ r. (fs ≡ decimal r.action.fun ∷ decimal r.action.arg ∷ []) × IsUndone r)
unfolding undone_of
undone_exact fs =
    bind_if _ _ (next fs) _ (next_exact fs) (λ x first. bind_if _ _ (one x.1) _ (one_exact x.1) (λ last second.
    bind_if _ _ (both (function x.0) (number last)) _ (both_if _ _ (function x.0) (number last) (function_is x.0) (number_is last)) (λ r o. (cc (first, second, o.0.0, o.1.0), (refl, (o.0.1, o.1.1))))))

-- What a line's fields were spelled for is what they say where they stand.
use Rattle.std.proofs.Common.{◌≡◌, ℕ, ◌+◌, ◌≤◌, List, [], ◌∷◌, ◌++◌, length, Option, None, Some, Result, Ok, refl, sym, ap, ◌∙◌, arith, decimal, codes}
use Rattle.history_reader.proofs.Common.{ActionKind, FaultKind, Attempt, Behind, CallRecord, Depth, Head, IsAttempt, IsBytes, IsEntry, IsMemory, IsRan, IsUndone, IsWord, MAX_ARENA, MAX_RETRIES, Place, Ran, State, Three, again_or_later, arena_of, arena_text, behind_call, between_line, call_or_later, depth_line, depth_of, encode_lower, end_line, fields_line, final_line, final_of, function_again, head_of, joined, kind, kind_text, later_line, meaning, memory_limit, memory_line, memory_of, next, next_three, none, nth, number_again, one, outcome, outcome_name, placed, props_text, ran_of, rest_of, restart_of, thread, thread_limit, told, undone_of, verb_in, verb_text, with_undone, ◌>>=◌}
use Rattle.history_reader.specs.declared.state.Behind.TheVariants as behinds
use Rattle.history_reader.specs.declared.state.Place.TheVariants as places
use Rattle.history_reader.specs.Lines as lines
use Rattle.history_reader.proofs.RoundTrips.Fields.{depth_again, ranged_again, sized_again, memory_again, arena_again, restart_again, outcome_again, kind_again, block_props_again}
use Rattle.history_reader.proofs.RoundTrips.Calls.{call_again}
use Rattle.history_reader.proofs.RoundTrips.Spellings.{AreFields, few_threads, fields_again}

-- a line of fields says what its fields say where they stand
pub says_again : (s t : State) (word : List ℕ) (fs : List (List ℕ)) → meaning s (joined (word ∷ fs)) ≡ fields_line s (joined (word ∷ fs)) → AreFields (word ∷ fs)
    → placed s.place s word fs ≡ Ok t → meaning s (joined (word ∷ fs)) ≡ Ok t
unfolding next
says_again s t word fs m h e =
    m ∙ ap (λ (l : List (List ℕ)). told (next l >>= λ x. placed s.place s x.0 x.1)) (fields_again word fs h) ∙ ap (λ (r : Result State FaultKind). told r) e

-- how many blocks may be open
pub depth_says : (s : State) (d : Depth) → placed places.AtDepth s (codes "depth") (decimal d.blocks ∷ []) ≡ Ok (record s { place = places.AtMemory; version = Three d })
unfolding placed depth_line depth_of next none one
depth_says s d = ap (λ (r : Result Depth FaultKind). r >>= λ z. Ok (record s { place = places.AtMemory; version = Three z })) (depth_again d)

-- the memory before the run
pub memory_says : (s : State) (bytes : List ℕ) → IsMemory (memory_limit s.version) bytes → placed places.AtMemory s (codes "memory") (encode_lower bytes ∷ []) ≡ Ok (record s { place = places.Between; memory = bytes })
unfolding placed memory_line memory_of next none one
memory_says s bytes h = ap (λ (r : Result (List ℕ) FaultKind). r >>= λ b. Ok (record s { place = places.Between; memory = b })) (memory_again (memory_limit s.version) bytes h)

-- the clock and the memory after the run
pub final_says : (s : State) (clock : ℕ) (bytes : List ℕ) → IsWord clock → IsBytes bytes → length bytes ≡ length s.memory → 1 ≤ length s.memory
    → placed places.Between s (codes "final") (decimal clock ∷ encode_lower bytes ∷ []) ≡ Ok (record s { place = places.AtEnd clock; bytes = bytes })
unfolding placed between_line final_line final_of next none one
final_says s clock bytes w h e some = rw (number_again clock w, sized_again (length s.memory) bytes e some h) refl

-- what the first line of an attempt says of it
abbrev pub head_in : Attempt → Head
head_in a = record { thread = a.thread; nth = a.nth; at = a.at; outcome = a.outcome; props = a.props }

-- a new attempt
pub head_says : (s : State) (a : Attempt) → IsAttempt s.version a
    → placed places.Between s (codes "attempt") (decimal a.thread ∷ decimal a.nth ∷ decimal a.at ∷ outcome_name a.outcome ∷ props_text a.props ∷ []) ≡ Ok (record s { place = places.AtArena (head_in a) })
unfolding placed between_line lines.head_line head_of next next_three none one
head_says s a h =
    let limit = thread_limit s.version in
    let few = ranged_again 0 limit a.thread (omega arith) h.thread (omega (arith, h.thread, few_threads s.version)) in
    rw (few, ranged_again 1 (MAX_RETRIES + 1) a.nth h.nth.0 h.nth.1 (omega (arith, h.nth.1)), number_again a.at h.at, outcome_again a.outcome, block_props_again a.props) refl

-- the arena at its begin
pub arena_says : (s : State) (head : Head) (bytes : List ℕ) → IsBytes bytes → length bytes ≤ MAX_ARENA
    → placed (places.AtArena head) s (codes "arena") (arena_text bytes ∷ []) ≡ Ok (record s { place = places.InCalls head behinds.Call; arena = bytes })
unfolding placed lines.arena_line arena_of next none one
arena_says s head bytes h few = ap (λ (r : Result (List ℕ) FaultKind). r >>= λ b. Ok (record s { place = places.InCalls head behinds.Call; arena = b })) (arena_again bytes h few)

-- a call
pub call_says : (s : State) (head : Head) (b : Behind) (e : CallRecord) → IsEntry e
    → placed (places.InCalls head b) s (codes "call") (verb_text (verb_in e.call) ∷ rest_of e) ≡ Ok (record s { place = places.InCalls head (behind_call s.version e); calls = s.calls ++ e ∷ [] })
unfolding placed call_or_later lines.call_line
call_says s head b e h = ap (λ (r : Result CallRecord FaultKind). r >>= λ x. Ok (record s { place = places.InCalls head (behind_call s.version x); calls = s.calls ++ x ∷ [] })) (call_again e h)

-- that a block ran again, right behind its begin
pub restart_says : (s : State) (head : Head) (bytes : List ℕ) → IsBytes bytes → length bytes ≡ length s.arena
    → placed (places.InCalls head behinds.Begin) s (codes "restart") (arena_text bytes ∷ [])
    ≡ Ok (record s { place = places.InCalls head behinds.Restart; restarts = s.restarts ++ record { kept = length s.calls; arena = bytes; undone = [] } ∷ [] })
unfolding placed call_or_later again_or_later lines.restart_line restart_of next none one
restart_says s head bytes h e =
    ap (λ (r : Result (List ℕ) FaultKind). r >>= λ b. Ok (record s { place = places.InCalls head behinds.Restart; restarts = s.restarts ++ record { kept = length s.calls; arena = b; undone = [] } ∷ [] }))
    (restart_again (length s.arena) bytes h e)

-- an action that had run in it before
pub undone_says : (s : State) (head : Head) (r : Ran) → IsUndone r
    → placed (places.InCalls head behinds.Restart) s (codes "undone") (decimal r.action.fun ∷ decimal r.action.arg ∷ []) ≡ Ok (record s { restarts = with_undone s.restarts r })
unfolding placed call_or_later again_or_later lines.undone_line undone_of next none one
undone_says s head r h =
    rw (function_again r.action.fun (omega (arith, h.1.0)), number_again r.action.arg h.1.1)
    (ap (λ (k : ActionKind). Ok (record s { restarts = with_undone s.restarts (record { kind = k; action = r.action }) })) (sym h.0))

-- where an action that ran may stand, and the attempt's end: behind the calls, and behind an action
abbrev pub late : Option Behind → Head → Place
late (Some b) head = places.InCalls head b
late None head = places.InRan head

-- an action that ran is read alike in all these places
ran_later : (o : Option Behind) (s : State) (head : Head) (fs : List (List ℕ)) → placed (late o head) s (codes "ran") fs ≡ lines.ran_line s head fs
unfolding placed call_or_later again_or_later later_line
ran_later (Some behinds.Call) s head fs = refl
ran_later o s head fs = refl

-- an action that ran
pub ran_says : (o : Option Behind) (s : State) (head : Head) (r : Ran) → IsRan r
    → placed (late o head) s (codes "ran") (kind_text r.kind ∷ decimal r.action.fun ∷ decimal r.action.arg ∷ []) ≡ Ok (record s { place = places.InRan head; ran = s.ran ++ r ∷ [] })
unfolding lines.ran_line ran_of next next_three none
ran_says o s head r h =
    ran_later o s head (kind_text r.kind ∷ decimal r.action.fun ∷ decimal r.action.arg ∷ [])
    ∙ rw (function_again r.action.fun (omega (arith, h.0)), number_again r.action.arg h.1, kind_again r.kind) refl

-- the end of an attempt
pub end_says : (o : Option Behind) (s : State) (head : Head) → placed (late o head) s (codes "end") [] ≡ Ok (lines.ended s head)
unfolding placed call_or_later again_or_later later_line end_line none
end_says (Some behinds.Call) s head = refl
end_says o s head = refl

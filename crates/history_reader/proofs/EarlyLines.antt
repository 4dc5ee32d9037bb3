-- A line of the first two versions says what it said before there were others.
use Rattle.std.proofs.Common.{◌≡◌, ℕ, Bool, true, false, cond, List, [], ◌∷◌, ◌++◌, length, Result, Ok, Err, refl, ap, ◌∙◌, codes, bytes_eq}
use Rattle.history_reader.proofs.Common.{FaultKind, Behind, CallRecord, Head, IfOk, One, Place, State, Two, Version, after_if, again_or_later, arena_of, behind_call, between_line, call_of, call_or_later, choice_if, early_behind, early_call, early_head, early_later, early_line, early_memory, early_placed, end_line, exactly, fields, final_line, final_of, head_of, later_line, meaning, memory_limit, memory_line, memory_of, next, none, placed, ran_of, restart_of, restart_said as restart_line, thread_limit, told, undone_of, ◌>>=◌}
use Rattle.script_fields.specs.declared.fault.FaultKind.TheVariants as operands
use Rattle.history_reader.specs.declared.state.Behind.TheVariants as behinds
use Rattle.history_reader.specs.declared.state.Place.TheVariants as places
use Rattle.history_reader.specs.Lines.{arena_line, call_line, head_line, ran_line, undone_line}
use Rattle.history_reader.proofs.Exactness.Fields.{told_if}

-- the version that may tell that a block ran again, or not
abbrev pub early : Bool → Version
early false = One
early true = Two

-- what may stand behind a line of such a version within an attempt's calls
abbrev pub IsEarlyBehind : Bool → Behind → Type 0
IsEarlyBehind false b = b ≡ behinds.Call
IsEarlyBehind true b = Unit {0}

-- a place of such a version, behind its first line
abbrev pub IsEarlyPlace : Bool → Place → Type 0
IsEarlyPlace again places.AtHeader = ⊥
IsEarlyPlace again places.AtDepth = ⊥
IsEarlyPlace again places.AtMemory = Unit {0}
IsEarlyPlace again places.Between = Unit {0}
IsEarlyPlace again (places.AtArena h) = Unit {0}
IsEarlyPlace again (places.InCalls h b) = IsEarlyBehind again b
IsEarlyPlace again (places.InRan h) = Unit {0}
IsEarlyPlace again (places.AtEnd clock) = Unit {0}

pub record IsEarly (again : Bool) (s : State) : Type 0 where
  pub version : s.version ≡ early again
  pub place : IsEarlyPlace again s.place

-- ## A line says what it said

limits_are : (again : Bool) → (memory_limit (early again) ≡ 65536) × (thread_limit (early again) ≡ 31)
limits_are false = (refl, refl)
limits_are true = (refl, refl)

behind_is : (again : Bool) (e : CallRecord) → behind_call (early again) e ≡ early_behind again e
behind_is false e = refl
behind_is true e = refl

call_behind : (again : Bool) (e : CallRecord) → IsEarlyBehind again (early_behind again e)
call_behind false e = refl
call_behind true e = tt

arena_behind : (again : Bool) → IsEarlyBehind again behinds.Call
arena_behind false = refl
arena_behind true = tt

memory_same : (again : Bool) (s : State) (word : List ℕ) (fs : List (List ℕ)) → s.version ≡ early again → memory_line s word fs ≡ early_memory s word fs
unfolding memory_line early_memory
memory_same again s word fs v =
    ap (λ (limit : ℕ). exactly (codes "memory") word >>= λ _. memory_of limit fs >>= λ bytes. Ok (record s { place = places.Between; memory = bytes })) (ap memory_limit v ∙ (limits_are again).0)

head_same : (again : Bool) (s : State) (fs : List (List ℕ)) → s.version ≡ early again → head_line s fs ≡ early_head s fs
unfolding head_line early_head
head_same again s fs v = ap (λ (limit : ℕ). head_of limit fs >>= λ h. Ok (record s { place = places.AtArena h })) (ap thread_limit v ∙ (limits_are again).1)

call_same : (again : Bool) (s : State) (h : Head) (fs : List (List ℕ)) → s.version ≡ early again → call_line s h fs ≡ early_call again s h fs
unfolding call_line early_call
call_same again s h fs v =
    let same : (e : CallRecord) → behind_call s.version e ≡ early_behind again e = λ e. ap (λ (version : Version). behind_call version e) v ∙ behind_is again e in
    ap (λ (f : CallRecord → Result State FaultKind). call_of fs >>= f) (λ i e. Ok (record s { place = places.InCalls h (same e i); calls = s.calls ++ e ∷ [] }))

later_same : (again : Bool) (b : Behind) (s : State) (h : Head) (word : List ℕ) (fs : List (List ℕ)) → IsEarlyBehind again b → again_or_later b s h word fs ≡ early_later again b s h word fs
unfolding again_or_later
later_same false b s h word fs f = ap (λ (c : Behind). again_or_later c s h word fs) f
later_same true b s h word fs f = refl

placed_same : (again : Bool) (p : Place) (s : State) (word : List ℕ) (fs : List (List ℕ)) → s.version ≡ early again → IsEarlyPlace again p → placed p s word fs ≡ early_placed again p s word fs
unfolding placed between_line call_or_later
placed_same again places.AtHeader s word fs v f = absurd f
placed_same again places.AtDepth s word fs v f = absurd f
placed_same again places.AtMemory s word fs v f = memory_same again s word fs v
placed_same again places.Between s word fs v f =
    ap (λ (r : Result State FaultKind). cond (bytes_eq word (codes "attempt")) r (cond (bytes_eq word (codes "final")) (final_line s fs) (Err operands.Operand))) (head_same again s fs v)
placed_same again (places.AtArena h) s word fs v f = refl
placed_same again (places.InCalls h b) s word fs v f =
    ap (λ (r : Result State FaultKind). cond (bytes_eq word (codes "call")) r (again_or_later b s h word fs)) (call_same again s h fs v)
    ∙ ap (cond (bytes_eq word (codes "call")) (early_call again s h fs)) (later_same again b s h word fs f)
placed_same again (places.InRan h) s word fs v f = refl
placed_same again (places.AtEnd clock) s word fs v f = refl

line_by_place : (again : Bool) (p : Place) (s : State) (line : List ℕ) → s.place ≡ p → IsEarlyPlace again p → meaning s line ≡ told (next (fields line) >>= λ x. placed s.place s x.0 x.1)
unfolding meaning
line_by_place again places.AtHeader s line at f = absurd f
line_by_place again places.AtDepth s line at f = absurd f
line_by_place again p s line at f = rw at refl

pub line_same : (again : Bool) (s : State) (line : List ℕ) → IsEarly again s → meaning s line ≡ early_line again s line
line_same again s line h =
    line_by_place again s.place s line refl h.place
    ∙ ap (λ (f : List ℕ × List (List ℕ) → Result State FaultKind). told (next (fields line) >>= f)) (λ i x. placed_same again s.place s x.0 x.1 h.version h.place i)

-- ## It leaves a state of such a version

later_kept : (again : Bool) (s : State) (h : Head) (word : List ℕ) (fs : List (List ℕ)) → s.version ≡ early again → IfOk (later_line s h word fs) (IsEarly again)
unfolding later_line ran_line end_line
later_kept again s h word fs v =
    choice_if _ (bytes_eq word (codes "ran")) (ran_line s h fs) _ (λ ran. after_if _ (ran_of fs) _ (λ r. record { version = v; place = tt })) (λ other.
    choice_if _ (bytes_eq word (codes "end")) (end_line s h fs) (Err operands.Operand) (λ last. after_if _ (none fs) _ (λ u. record { version = v; place = tt })) (λ neither. tt))

other_kept : (again : Bool) (b : Behind) (s : State) (h : Head) (word : List ℕ) (fs : List (List ℕ)) → IsEarly again s → IfOk (early_later again b s h word fs) (IsEarly again)
unfolding again_or_later restart_line undone_line
other_kept false b s h word fs k = later_kept false s h word fs k.version
other_kept true behinds.Call s h word fs k = later_kept true s h word fs k.version
other_kept true behinds.Begin s h word fs k =
    choice_if _ (bytes_eq word (codes "restart")) (restart_line s h fs) (later_line s h word fs) (λ first. after_if _ (restart_of (length s.arena) fs) _ (λ bytes. record { version = k.version; place = tt })) (λ other. later_kept true s h word fs k.version)
other_kept true behinds.Restart s h word fs k =
    choice_if _ (bytes_eq word (codes "undone")) (undone_line s fs) (later_line s h word fs) (λ first. after_if _ (undone_of fs) _ (λ r. record { version = k.version; place = k.place })) (λ other. later_kept true s h word fs k.version)

placed_kept : (again : Bool) (p : Place) (s : State) (word : List ℕ) (fs : List (List ℕ)) → IsEarly again s → IfOk (early_placed again p s word fs) (IsEarly again)
unfolding early_memory early_head final_line arena_line early_call
placed_kept again places.AtMemory s word fs h = after_if _ (exactly (codes "memory") word) _ (λ u. after_if _ (memory_of 65536 fs) _ (λ bytes. record { version = h.version; place = tt }))
placed_kept again places.Between s word fs h =
    choice_if _ (bytes_eq word (codes "attempt")) (early_head s fs) _ (λ first. after_if _ (head_of 31 fs) _ (λ head. record { version = h.version; place = tt })) (λ other.
    choice_if _ (bytes_eq word (codes "final")) (final_line s fs) (Err operands.Operand) (λ last. after_if _ (final_of (length s.memory) fs) _ (λ x. record { version = h.version; place = tt })) (λ neither. tt))
placed_kept again (places.AtArena head) s word fs h = after_if _ (exactly (codes "arena") word) _ (λ u. after_if _ (arena_of fs) _ (λ bytes. record { version = h.version; place = arena_behind again }))
placed_kept again (places.InCalls head b) s word fs h =
    choice_if _ (bytes_eq word (codes "call")) (early_call again s head fs) (early_later again b s head word fs) (λ call. after_if _ (call_of fs) _ (λ e. record { version = h.version; place = call_behind again e })) (λ other. other_kept again b s head word fs h)
placed_kept again (places.InRan head) s word fs h = later_kept again s head word fs h.version
placed_kept again p s word fs h = tt

pub line_kept : (again : Bool) (s : State) (line : List ℕ) → IsEarly again s → IfOk (early_line again s line) (IsEarly again)
line_kept again s line h = told_if _ (next (fields line) >>= λ x. early_placed again s.place s x.0 x.1) (after_if _ (next (fields line)) _ (λ x. placed_kept again s.place s x.0 x.1 h))

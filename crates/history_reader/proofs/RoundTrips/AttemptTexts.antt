-- The lines of attempts are read as these attempts.
use Rattle.std.proofs.Common.{◌≡◌, ℕ, zero, suc, ◌+◌, ◌-◌, List, [], ◌∷◌, ◌++◌, length, take, drop, Option, None, Some, Ok, refl, sym, ap, subst, ◌∙◌, arith, append_assoc, append-nil, lit<, length-append, zero-add, codes, decimal, flat_map}
use Rattle.history_reader.proofs.Common.{Again, AllByRecursion, AreAgain, Attempt, Behind, CallRecord, Head, IsAgain, IsAttempt, IsEntry, IsInnerBegin, IsRan, IsTold, IsUndone, MayTell, One, Place, Ran, State, Three, Two, Version, again_lines, all_parts, arena_line, arena_text, attempt_lines, behind_call, call_fields, call_line, call_lines, fields_line, head_line, is_five, joined, kind_text, length-take-le, meaning, outcome_name, props_text, ran_fields, ran_line, recursion_from_All, rest_of, restart_fields, restart_line, slice_get, slice_get_within, take-append-drop, undone_fields, undone_line, verb_in, verb_text}
use Rattle.history_reader.specs.declared.state.Behind.TheVariants as behinds
use Rattle.history_reader.specs.declared.state.Place.TheVariants as places
use Rattle.history_reader.proofs.BlocksAgain.{undone_is}
use Rattle.history_reader.proofs.RoundTrips.LeadingLines.{Leads, all_lead, fields_lead, leads_on}
use Rattle.history_reader.proofs.RoundTrips.Spellings.{AreFields, call_are, ran_are, restart_are, undone_are, head_are, arena_are}
use Rattle.history_reader.proofs.Exactness.Lines.{call_joined, ran_joined, restart_joined, undone_joined, head_joined, arena_joined}
use Rattle.history_reader.proofs.RoundTrips.Lines.{head_in, head_says, arena_says, call_says, restart_says, undone_says, late, ran_says, end_says}

-- what stays of a state within an attempt: its version, its memory, the attempts that have ended, and the arena of this one
pub record Frame : Type 0 where
  pub version : Version
  pub memory : List ℕ
  pub attempts : List Attempt
  pub arena : List ℕ

-- the state within an attempt
abbrev pub within : Place → Frame → List CallRecord → List Again → List Ran → State
within place f calls restarts ran =
    record { place = place; version = f.version; memory = f.memory; attempts = f.attempts; arena = f.arena; calls = calls; restarts = restarts; ran = ran; bytes = [] }

-- the state between attempts
abbrev pub between : Version → List ℕ → List Attempt → State
between version memory attempts = within places.Between (record { version = version; memory = memory; attempts = attempts; arena = [] }) [] [] []

-- a line within an attempt is told by its fields
at_end : (o : Option Behind) (head : Head) (f : Frame) (es : List CallRecord) (agains : List Again) (rs : List Ran) (line : List ℕ)
    → meaning (within (late o head) f es agains rs) line ≡ fields_line (within (late o head) f es agains rs) line
unfolding meaning
at_end (Some b) head f es agains rs line = refl
at_end None head f es agains rs line = refl

-- ### Calls

-- what stands behind calls
abbrev behind_calls : Version → Behind → List CallRecord → Behind
behind_calls version b [] = b
behind_calls version b (e ∷ es) = behind_calls version (behind_call version e) es

behind_last : (version : Version) (b : Behind) (es : List CallRecord) (e : CallRecord) → behind_calls version b (es ++ e ∷ []) ≡ behind_call version e
behind_last version b [] e = refl
behind_last version b (x ∷ es) e = behind_last version (behind_call version x) es e

-- the lines of calls leave the calls
calls_lead : (head : Head) (f : Frame) (b : Behind) (before es : List CallRecord) (agains : List Again) (rest : List ℕ) → AllByRecursion IsEntry es
    → Leads (within (places.InCalls head b) f before agains []) (within (places.InCalls head (behind_calls f.version b es)) f (before ++ es) agains []) (flat_map call_line es ++ rest) rest
calls_lead head f b before es agains rest h =
    subst (λ (first : List CallRecord). Leads (within (places.InCalls head b) f first agains []) (left es) (flat_map call_line es ++ rest) rest) (append-nil before) (all_lead call_line IsEntry left each [] es rest h)
  where
    -- what these of them leave
    left : List CallRecord → State
    left made = within (places.InCalls head (behind_calls f.version b made)) f (before ++ made) agains []

    each : (made : List CallRecord) (e : CallRecord) (more : List ℕ) → IsEntry e → Leads (left made) (left (made ++ e ∷ [])) (call_line e ++ more) more
    each made e more i =
        let c : Behind = behind_calls f.version b made in
        subst (λ (t : State). Leads (left made) t (call_line e ++ more) more) (λ j. within (places.InCalls head (sym (behind_last f.version b made e) j)) f (append_assoc before made (e ∷ []) j) agains [])
        (fields_lead (left made) _ (codes "call") (verb_text (verb_in e.call) ∷ rest_of e) (call_line e) more (call_joined e) (at_end (Some c) head f (before ++ made) agains [] (joined (call_fields e))) (call_are e i) (call_says (left made) head c e i))

-- ### Blocks that ran again

-- such a block, with these actions
abbrev ran_again : ℕ → List ℕ → List Ran → Again
ran_again kept arena undone = record { kept = kept; arena = arena; undone = undone }

-- the lines of actions that had run in it before leave the actions
undone_lead : (head : Head) (f : Frame) (es : List CallRecord) (agains : List Again) (kept : ℕ) (arena : List ℕ) (before us : List Ran) (rest : List ℕ) → AllByRecursion IsUndone us
    → Leads (within (places.InCalls head behinds.Restart) f es (agains ++ ran_again kept arena before ∷ []) []) (within (places.InCalls head behinds.Restart) f es (agains ++ ran_again kept arena (before ++ us) ∷ []) [])
    (flat_map undone_line us ++ rest) rest
undone_lead head f es agains kept arena before us rest h = all_lead undone_line IsUndone left each before us rest h
  where
    left : List Ran → State
    left made = within (places.InCalls head behinds.Restart) f es (agains ++ ran_again kept arena made ∷ []) []

    each : (made : List Ran) (r : Ran) (more : List ℕ) → IsUndone r → Leads (left made) (left (made ++ r ∷ [])) (undone_line r ++ more) more
    each made r more i =
        fields_lead (left made) (left (made ++ r ∷ [])) (codes "undone") (decimal r.action.fun ∷ decimal r.action.arg ∷ []) (undone_line r) more (undone_joined r)
        (at_end (Some behinds.Restart) head f es (left made).restarts [] (joined (undone_fields r))) (undone_are r i)
        (undone_says (left made) head r i ∙ ap (λ (l : List Again). Ok (within (places.InCalls head behinds.Restart) f es l [])) (undone_is agains (ran_again kept arena made) r))

-- the lines of a block that ran again, right behind its begin, leave it
again_leads : (head : Head) (f : Frame) (es : List CallRecord) (agains : List Again) (a : Again) (rest : List ℕ) → length es ≡ a.kept → length a.arena ≡ length f.arena → IsTold a
    → Leads (within (places.InCalls head behinds.Begin) f es agains []) (within (places.InCalls head behinds.Restart) f es (agains ++ a ∷ []) []) (again_lines a ++ rest) rest
unfolding again_lines
again_leads head f es agains a rest kept size h =
    let s : State = within (places.InCalls head behinds.Begin) f es agains [] in
    let t : State = within (places.InCalls head behinds.Restart) f es (agains ++ ran_again a.kept a.arena [] ∷ []) [] in
    let u : State = within (places.InCalls head behinds.Restart) f es (agains ++ a ∷ []) [] in
    let later : List ℕ = flat_map undone_line a.undone ++ rest in
    let first : Leads s t (restart_line a.arena ++ later) later =
    fields_lead s t (codes "restart") (arena_text a.arena ∷ []) (restart_line a.arena) later (restart_joined a.arena) (at_end (Some behinds.Begin) head f es agains [] (joined (restart_fields a.arena))) (restart_are a.arena h.0)
    (restart_says s head a.arena h.0 size ∙ ap (λ (k : ℕ). Ok (within (places.InCalls head behinds.Restart) f es (agains ++ ran_again k a.arena [] ∷ []) [])) kept) in
    subst (λ (text : List ℕ). Leads s u text rest) (sym (append_assoc (restart_line a.arena) (flat_map undone_line a.undone) rest))
    (leads_on s t u (restart_line a.arena ++ later) later rest first (undone_lead head f es agains a.kept a.arena [] a.undone rest (recursion_from_All IsUndone a.undone h.1)))

-- ### Calls with the blocks that ran again

-- the last of these calls is one that such a line may stand behind
last_begins : (es : List CallRecord) (j : ℕ) (o : Option CallRecord) → slice_get es j ≡ o → IsInnerBegin o → (e : CallRecord) × (take (suc j) es ≡ take j es ++ e ∷ []) × IsInnerBegin (Some e)
last_begins es j None g b = absurd b
last_begins [] j (Some x) g b = absurd cc
last_begins (e ∷ es) zero (Some x) g b = (e, refl, subst IsInnerBegin (sym g) b)
last_begins (e ∷ es) (suc j) (Some x) g b =
    let m = last_begins es j (Some x) g b in
    (m.0, ap (λ (l : List CallRecord). e ∷ l) m.1, m.2)

there_is : (es : List CallRecord) (j : ℕ) (o : Option CallRecord) → slice_get es j ≡ o → IsInnerBegin o → length (take j es) ≡ j
there_is es j None g b = absurd b
there_is es j (Some x) g b = (let l = slice_get_within es j x g in length-take-le j es (omega (arith, l)))

got_past : (xs ys : List CallRecord) (j : ℕ) → slice_get (xs ++ ys) (length xs + j) ≡ slice_get ys j
got_past [] ys j = ap (slice_get ys) (zero-add j)
got_past (x ∷ xs) ys j =
    let n : suc (length xs) + j ≡ suc (length xs + j) = omega arith in
    ap (slice_get (x ∷ xs ++ ys)) n ∙ got_past xs ys j

begins_there : (version : Version) (e : CallRecord) (a : Again) (more : List Again) → MayTell version (a ∷ more) → IsInnerBegin (Some e) → behind_call version e ≡ behinds.Begin
begins_there One e a more m i = absurd cc
begins_there Two e a more m i = rw (i.0, ap is_five i.1) refl
begins_there (Three depth) e a more m i = rw (i.0, ap is_five i.1) refl

may_later : (version : Version) (a : Again) (more : List Again) → MayTell version (a ∷ more) → MayTell version more
may_later One a more m = absurd cc
may_later Two a more m = tt
may_later (Three depth) a more m = tt

-- some place within the calls
abbrev LeadsIn : Head → Frame → State → List CallRecord → List Again → List ℕ → List ℕ → Type 0
LeadsIn head f s es agains text rest = (b : Behind) × Leads s (within (places.InCalls head b) f es agains []) text rest

parts_three : (a b c rest : List ℕ) → (a ++ b ++ c) ++ rest ≡ a ++ (b ++ (c ++ rest))
parts_three a b c rest = simp append_assoc

-- the lines of calls, and within them those of the blocks that ran again, leave both
body_leads : (head : Head) (f : Frame) (b : Behind) (before es : List CallRecord) (agains more : List Again) (rest : List ℕ) → AllByRecursion IsEntry es → AllByRecursion IsTold more → MayTell f.version more
    → AreAgain (length f.arena) (length before) (before ++ es) more
    → LeadsIn head f (within (places.InCalls head b) f before agains []) (before ++ es) (agains ++ more) (call_lines (length before) es more ++ rest) rest
body_leads head f b before es agains [] rest h t m g = (
  behind_calls f.version b es,
  subst (λ (all : List Again). Leads (within (places.InCalls head b) f before agains []) (within (places.InCalls head (behind_calls f.version b es)) f (before ++ es) all []) (flat_map call_line es ++ rest) rest) (sym (append-nil agains))
      (calls_lead head f b before es agains rest h),
)
body_leads head f b before es agains (a ∷ more) rest h t m g =
    let i : IsAgain (length f.arena) (before ++ es) a = g.0 in
    let n = length before in
    let j = i.place - n in
    let count : a.kept - n ≡ suc j = omega (arith, i.kept, g.1) in
    let there : n + j ≡ i.place = omega (arith, i.kept, g.1) in
    let got : slice_get es j ≡ slice_get (before ++ es) i.place = sym (got_past before es j) ∙ ap (slice_get (before ++ es)) there in
    let l = last_begins es j (slice_get (before ++ es) i.place) got i.begins in
    let first : List CallRecord = take (suc j) es in
    let later : List CallRecord = drop (suc j) es in
    let parts = all_parts IsEntry (suc j) es h in
    let whole : (before ++ first) ++ later ≡ before ++ es = append_assoc before first later ∙ ap (λ (x : List CallRecord). before ++ x) (take-append-drop (suc j) es) in
    let size : length (before ++ first) ≡ a.kept = omega (arith, length-append before first, ap (length {A = CallRecord}) l.1, length-append (take j es) (l.0 ∷ []), there_is es j (slice_get (before ++ es) i.place) got i.begins, i.kept, g.1) in
    let begun : behind_calls f.version b first ≡ behinds.Begin = ap (behind_calls f.version b) l.1 ∙ behind_last f.version b (take j es) l.0 ∙ begins_there f.version l.0 a more m l.2 in
    let s : State = within (places.InCalls head b) f before agains [] in
    let u : State = within (places.InCalls head behinds.Begin) f (before ++ first) agains [] in
    let v : State = within (places.InCalls head behinds.Restart) f (before ++ first) (agains ++ a ∷ []) [] in
    let third : List ℕ = call_lines a.kept later more ++ rest in
    let second : List ℕ = again_lines a ++ third in
    let one : Leads s u (flat_map call_line first ++ second) second =
    subst (λ (c : Behind). Leads s (within (places.InCalls head c) f (before ++ first) agains []) (flat_map call_line first ++ second) second) begun (calls_lead head f b before first agains second parts.0) in
    let two : Leads u v second third = again_leads head f (before ++ first) agains a third size i.arena t.0 in
    let again : AreAgain (length f.arena) (length (before ++ first)) ((before ++ first) ++ later) more =
    subst (λ (k : ℕ). AreAgain (length f.arena) k ((before ++ first) ++ later) more) (sym size) (subst (λ (all : List CallRecord). AreAgain (length f.arena) a.kept all more) (sym whole) g.2) in
    let next = body_leads head f behinds.Restart (before ++ first) later (agains ++ a ∷ []) more rest parts.1 t.1 (may_later f.version a more m) again in
    let w : State = within (places.InCalls head next.0) f (before ++ es) (agains ++ a ∷ more) [] in
    let three : Leads v w third rest =
    subst (λ (k : ℕ). Leads v w (call_lines k later more ++ rest) rest) size
    (subst (λ (all : List CallRecord). Leads v (within (places.InCalls head next.0) f all (agains ++ a ∷ more) []) (call_lines (length (before ++ first)) later more ++ rest) rest) whole
    (subst (λ (all : List Again). Leads v (within (places.InCalls head next.0) f ((before ++ first) ++ later) all []) (call_lines (length (before ++ first)) later more ++ rest) rest) (append_assoc agains (a ∷ []) more) next.1)) in
    let text : call_lines n es (a ∷ more) ++ rest ≡ flat_map call_line first ++ second =
    ap (λ (k : ℕ). (flat_map call_line (take k es) ++ again_lines a ++ call_lines a.kept (drop k es) more) ++ rest) count
    ∙ parts_three (flat_map call_line first) (again_lines a) (call_lines a.kept later more) rest in
    (next.0, subst (λ (x : List ℕ). Leads s w x rest) (sym text) (leads_on s u w (flat_map call_line first ++ second) second rest one (leads_on u v w second third rest two three)))

-- ### Actions that ran, and the end

-- the attempt that these lines tell
abbrev told_by : Head → List ℕ → List CallRecord → List Again → List Ran → Attempt
told_by head arena calls restarts ran =
    record { thread = head.thread; nth = head.nth; began = 0; at = head.at; props = head.props; arena = arena; calls = record { list = calls; room = 0 }; restarts = restarts; ran = ran; outcome = head.outcome }

-- the last line of an attempt is of one field
end_field : AreFields (codes "end" ∷ [])
end_field = ((lit< tt, refl), tt)

-- the last line of an attempt leaves the attempt
end_leads : (o : Option Behind) (head : Head) (f : Frame) (calls : List CallRecord) (agains : List Again) (ran : List Ran) (rest : List ℕ)
    → Leads (within (late o head) f calls agains ran) (between f.version f.memory (f.attempts ++ told_by head f.arena calls agains ran ∷ [])) (codes "end\n" ++ rest) rest
end_leads o head f calls agains ran rest =
    fields_lead (within (late o head) f calls agains ran) (between f.version f.memory (f.attempts ++ told_by head f.arena calls agains ran ∷ [])) (codes "end") [] (codes "end\n") rest refl
    (at_end o head f calls agains ran (codes "end")) end_field (end_says o (within (late o head) f calls agains ran) head)

-- behind these actions
abbrev late_by : Option Behind → List Ran → Option Behind
late_by o [] = o
late_by o (r ∷ rs) = None

late_none : (o : Option Behind) (rs : List Ran) (r : Ran) → late_by o (rs ++ r ∷ []) ≡ None
late_none o [] r = refl
late_none o (x ∷ rs) r = refl

-- the lines of actions that ran, and the last line, leave the attempt
ran_lead : (o : Option Behind) (head : Head) (f : Frame) (calls : List CallRecord) (agains : List Again) (rs : List Ran) (rest : List ℕ) → AllByRecursion IsRan rs
    → Leads (within (late o head) f calls agains []) (between f.version f.memory (f.attempts ++ told_by head f.arena calls agains rs ∷ [])) (flat_map ran_line rs ++ (codes "end\n" ++ rest)) rest
ran_lead o head f calls agains rs rest h =
    leads_on (left []) (left rs) (between f.version f.memory (f.attempts ++ told_by head f.arena calls agains rs ∷ [])) (flat_map ran_line rs ++ (codes "end\n" ++ rest)) (codes "end\n" ++ rest) rest
    (all_lead ran_line IsRan left each [] rs (codes "end\n" ++ rest) h) (end_leads (late_by o rs) head f calls agains rs rest)
  where
    left : List Ran → State
    left made = within (late (late_by o made) head) f calls agains made

    each : (made : List Ran) (r : Ran) (more : List ℕ) → IsRan r → Leads (left made) (left (made ++ r ∷ [])) (ran_line r ++ more) more
    each made r more i =
        fields_lead (left made) (left (made ++ r ∷ [])) (codes "ran") (kind_text r.kind ∷ decimal r.action.fun ∷ decimal r.action.arg ∷ []) (ran_line r) more (ran_joined r)
        (at_end (late_by o made) head f calls agains made (joined (ran_fields r))) (ran_are r i)
        (ran_says (late_by o made) (left made) head r i ∙ ap (λ (q : Option Behind). Ok (within (late q head) f calls agains (made ++ r ∷ []))) (sym (late_none o made r)))

-- ### Whole attempts

-- when its begin was called is not told
told_again : (version : Version) (a : Attempt) → IsAttempt version a → told_by (head_in a) a.arena a.calls.list a.restarts a.ran ≡ a
told_again version a h = λ i. record a { began = sym h.began i; calls = record { list = a.calls.list; room = sym h.room i } }

-- the lines of an attempt in a row
attempt_parts : (a : Attempt) (rest : List ℕ)
    → attempt_lines a ++ rest ≡ head_line a ++ (arena_line a.arena ++ (call_lines 0 a.calls.list a.restarts ++ (flat_map ran_line a.ran ++ (codes "end\n" ++ rest))))
unfolding attempt_lines
attempt_parts a rest = simp append_assoc

-- the lines of an attempt leave the attempt
attempt_leads : (version : Version) (memory : List ℕ) (attempts : List Attempt) (a : Attempt) (rest : List ℕ) → IsAttempt version a
    → Leads (between version memory attempts) (between version memory (attempts ++ a ∷ [])) (attempt_lines a ++ rest) rest
unfolding meaning
attempt_leads version memory attempts a rest h =
    let head : Head = head_in a in
    let f : Frame = record { version = version; memory = memory; attempts = attempts; arena = a.arena } in
    let s : State = between version memory attempts in
    let t : State = within (places.AtArena head) (record f { arena = [] }) [] [] [] in
    let u : State = within (places.InCalls head behinds.Call) f [] [] [] in
    let w : State = between version memory (attempts ++ told_by head a.arena a.calls.list a.restarts a.ran ∷ []) in
    let last : List ℕ = flat_map ran_line a.ran ++ (codes "end\n" ++ rest) in
    let later : List ℕ = call_lines 0 a.calls.list a.restarts ++ last in
    let one : Leads s t (head_line a ++ (arena_line a.arena ++ later)) (arena_line a.arena ++ later) =
    fields_lead s t (codes "attempt") (decimal a.thread ∷ decimal a.nth ∷ decimal a.at ∷ outcome_name a.outcome ∷ props_text a.props ∷ []) (head_line a) (arena_line a.arena ++ later) (head_joined a) refl (head_are version a h) (head_says s a h) in
    let two : Leads t u (arena_line a.arena ++ later) later =
    fields_lead t u (codes "arena") (arena_text a.arena ∷ []) (arena_line a.arena) later (arena_joined a.arena) refl (arena_are a.arena h.arena.0) (arena_says t head a.arena h.arena.0 h.arena.1) in
    let body = body_leads head f behinds.Call [] a.calls.list [] a.restarts last (recursion_from_All IsEntry a.calls.list h.calls) (recursion_from_All IsTold a.restarts h.restarts) h.may h.again in
    let v : State = within (places.InCalls head body.0) f a.calls.list a.restarts [] in
    let four : Leads v w last rest = ran_lead (Some body.0) head f a.calls.list a.restarts a.ran rest (recursion_from_All IsRan a.ran h.ran) in
    let all : Leads s w (head_line a ++ (arena_line a.arena ++ later)) rest =
    leads_on s t w (head_line a ++ (arena_line a.arena ++ later)) (arena_line a.arena ++ later) rest one
    (leads_on t u w (arena_line a.arena ++ later) later rest two (leads_on u v w later last rest body.1 four)) in
    subst (λ (b : Attempt). Leads s (between version memory (attempts ++ b ∷ [])) (attempt_lines a ++ rest) rest) (told_again version a h)
    (subst (λ (text : List ℕ). Leads s w text rest) (sym (attempt_parts a rest)) all)

-- the lines of attempts leave the attempts
pub attempts_lead : (version : Version) (memory : List ℕ) (before more : List Attempt) (rest : List ℕ) → AllByRecursion (IsAttempt version) more
    → Leads (between version memory before) (between version memory (before ++ more)) (flat_map attempt_lines more ++ rest) rest
attempts_lead version memory before more rest h = all_lead attempt_lines (IsAttempt version) (between version memory) (attempt_leads version memory) before more rest h

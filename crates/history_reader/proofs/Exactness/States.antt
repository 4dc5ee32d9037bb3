-- The text that a state stands for, and what holds of a state that lines have led to.
use Rattle.std.proofs.Common.{◌≡◌, ℕ, suc, ◌≤◌, List, [], ◌∷◌, ◌++◌, length, refl, sym, ap, ◌∙◌, append_assoc, All, codes}
use Rattle.history_reader.proofs.Common.{Again, AreAgain, Attempt, Behind, CallRecord, Head, IsAttempt, IsBytes, IsEntry, IsHistory, IsInnerBegin, IsMemory, IsRan, IsTold, MAX_ARENA, MayTell, One, Place, Ran, State, Three, Two, Version, append-nil, arena_line, attempt_lines, call_lines, first_lines, flat_map, flat_map_more, history_text, last_line, memory_limit, ran_line, slice_get, thread_limit, version_lines}
use Rattle.history_reader.specs.declared.state.Behind.TheVariants as behinds
use Rattle.history_reader.specs.declared.state.Place.TheVariants as places
use Rattle.history_reader.proofs.BlocksAgain.{AreBetween}
use Rattle.history_reader.proofs.Exactness.Heads.{IsHead, told_fields}
use Rattle.history_reader.proofs.Exactness.Lines.{line_of, head_joined}

-- ## Texts

-- an attempt that began so
abbrev pub attempt_of : Head → List ℕ → List CallRecord → List Again → List Ran → Attempt
attempt_of h arena calls restarts ran = record {
  thread = h.thread;
  nth = h.nth;
  began = 0;
  at = h.at;
  props = h.props;
  arena = arena;
  calls = record { list = calls; room = 0 };
  restarts = restarts;
  ran = ran;
  outcome = h.outcome;
}

abbrev pub head_text : Head → List ℕ
head_text h = line_of (codes "attempt" ∷ told_fields h)

-- the lines of an attempt that has not ended
abbrev pub open_lines : Head → List ℕ → List CallRecord → List Again → List Ran → List ℕ
open_lines h arena calls restarts ran = head_text h ++ arena_line arena ++ call_lines 0 calls restarts ++ flat_map ran_line ran

-- the lines before that attempt, or before the last line
abbrev pub done_lines : Version → List ℕ → List Attempt → List ℕ
done_lines version memory attempts = first_lines version memory ++ flat_map attempt_lines attempts

-- the text that was read
abbrev pub so_far : Place → State → List ℕ
so_far places.AtHeader s = []
so_far places.AtDepth s = codes "itm-history 3\n"
so_far places.AtMemory s = version_lines s.version
so_far places.Between s = done_lines s.version s.memory s.attempts
so_far (places.AtArena h) s = done_lines s.version s.memory s.attempts ++ head_text h
so_far (places.InCalls h b) s = done_lines s.version s.memory s.attempts ++ open_lines h s.arena s.calls s.restarts s.ran
so_far (places.InRan h) s = done_lines s.version s.memory s.attempts ++ open_lines h s.arena s.calls s.restarts s.ran
so_far (places.AtEnd clock) s = done_lines s.version s.memory s.attempts ++ last_line clock s.bytes

-- ## What holds of a state

-- no attempt is open
abbrev pub IsIdle : State → Type 0
IsIdle s = (s.calls ≡ []) × (s.restarts ≡ []) × (s.ran ≡ [])

-- a text can tell the memory and the attempts that have ended
abbrev pub IsDone : State → Type 0
IsDone s = IsMemory (memory_limit s.version) s.memory × All (IsAttempt s.version) s.attempts

-- and the one that has not
pub record IsOpen (h : Head) (s : State) : Type 0 where
  pub done : IsDone s
  pub head : IsHead (thread_limit s.version) h
  pub arena : IsBytes s.arena × (length s.arena ≤ MAX_ARENA)
  pub calls : All IsEntry s.calls
  pub again : AreAgain (length s.arena) 0 s.calls s.restarts
  pub restarts : All IsTold s.restarts
  pub may : MayTell s.version s.restarts
  pub ran : All IsRan s.ran

-- this version tells of blocks that ran again
abbrev pub Tells : Version → Type 0
Tells One = ⊥
Tells Two = Unit {0}
Tells (Three depth) = Unit {0}

pub may_tell : (version : Version) (rs : List Again) → Tells version → MayTell version rs
may_tell One rs t = absurd t
may_tell Two rs t = tt
may_tell (Three depth) rs t = tt

-- the last call is the begin of a block within another, of which nothing more is told yet
pub record IsBegun (s : State) : Type 0 where
  pub tells : Tells s.version
  pub place : ℕ
  pub last : length s.calls ≡ suc place
  pub begins : IsInnerBegin (slice_get s.calls place)
  pub earlier : AreBetween 0 place s.restarts

-- it is that of the last block that ran again
pub record IsRestarted (s : State) : Type 0 where
  pub tells : Tells s.version
  pub others : List Again
  pub last : Again
  pub all : s.restarts ≡ others ++ last ∷ []
  pub kept : last.kept ≡ length s.calls

abbrev pub IsBehind : Behind → State → Type 0
IsBehind behinds.Call s = Unit {0}
IsBehind behinds.Begin s = IsBegun s
IsBehind behinds.Restart s = IsRestarted s

abbrev pub IsSoFar : Place → State → Type 0
IsSoFar places.AtHeader s = (s.version ≡ One) × (s.attempts ≡ []) × IsIdle s
IsSoFar places.AtDepth s = (s.attempts ≡ []) × IsIdle s
IsSoFar places.AtMemory s = (s.attempts ≡ []) × IsIdle s
IsSoFar places.Between s = IsDone s × IsIdle s
IsSoFar (places.AtArena h) s = IsDone s × IsHead (thread_limit s.version) h × IsIdle s
IsSoFar (places.InCalls h b) s = IsOpen h s × (s.ran ≡ []) × IsBehind b s
IsSoFar (places.InRan h) s = IsOpen h s
IsSoFar (places.AtEnd clock) s = IsHistory (record { version = s.version; memory = s.memory; attempts = s.attempts; clock = clock; bytes = s.bytes })

-- one more line led from this state to that one
pub record Follows (p : Place) (s t : State) (line : List ℕ) : Type 0 where
  pub text : so_far t.place t ≡ so_far p s ++ line
  pub kept : IsSoFar t.place t

-- and it is the line of these fields
abbrev pub Grows : Place → State → List (List ℕ) → State → Type 0
Grows p s fs t = Follows p s t (line_of fs)

-- ## How the text grows

pub arena_grows : (d : List ℕ) (h : Head) (arena : List ℕ) (calls : List CallRecord) (restarts : List Again) (ran : List Ran) → calls ≡ [] → restarts ≡ [] → ran ≡ []
    → d ++ open_lines h arena calls restarts ran ≡ d ++ head_text h ++ arena_line arena
arena_grows d h arena calls restarts ran c a r =
    (λ i. d ++ open_lines h arena (c i) (a i) (r i))
    ∙ ap (λ (l : List ℕ). d ++ l) (append-nil (head_text h ++ arena_line arena ++ []) ∙ append-nil (head_text h ++ arena_line arena))
    ∙ sym (append_assoc d (head_text h) (arena_line arena))

behind_front : (d front lines more : List ℕ) → d ++ (front ++ (lines ++ more) ++ []) ≡ d ++ (front ++ lines ++ []) ++ more
behind_front d front lines more =
    ap (λ (l : List ℕ). d ++ l)
    (append-nil (front ++ (lines ++ more)) ∙ sym (append_assoc front lines more) ∙ ap (λ (l : List ℕ). l ++ more) (sym (append-nil (front ++ lines))))
    ∙ sym (append_assoc d (front ++ lines ++ []) more)

-- by one more line among the calls
pub body_grows : (d : List ℕ) (h : Head) (arena : List ℕ) (calls calls' : List CallRecord) (restarts restarts' : List Again) (ran : List Ran) (more : List ℕ) → ran ≡ []
    → call_lines 0 calls' restarts' ≡ call_lines 0 calls restarts ++ more → d ++ open_lines h arena calls' restarts' ran ≡ d ++ open_lines h arena calls restarts ran ++ more
body_grows d h arena calls calls' restarts restarts' ran more r e =
    let front = head_text h ++ arena_line arena in
    ap (λ (l : List Ran). d ++ open_lines h arena calls' restarts' l) r
    ∙ ap (λ (l : List ℕ). d ++ (front ++ l ++ [])) e ∙ behind_front d front (call_lines 0 calls restarts) more
    ∙ ap (λ (l : List Ran). d ++ open_lines h arena calls restarts l ++ more) (sym r)

pub ran_grows : (d : List ℕ) (h : Head) (arena : List ℕ) (calls : List CallRecord) (restarts : List Again) (ran : List Ran) (r : Ran)
    → d ++ open_lines h arena calls restarts (ran ++ r ∷ []) ≡ d ++ open_lines h arena calls restarts ran ++ ran_line r
ran_grows d h arena calls restarts ran r =
    let front = head_text h ++ arena_line arena ++ call_lines 0 calls restarts in
    ap (λ (l : List ℕ). d ++ l) (sym (flat_map_more ran_line front ran r)) ∙ sym (append_assoc d (front ++ flat_map ran_line ran) (ran_line r))

ended_lines : (h : Head) (arena : List ℕ) (calls : List CallRecord) (restarts : List Again) (ran : List Ran)
    → attempt_lines (attempt_of h arena calls restarts ran) ≡ open_lines h arena calls restarts ran ++ codes "end\n"
unfolding attempt_lines
ended_lines h arena calls restarts ran =
    ap (λ (l : List ℕ). l ++ arena_line arena ++ call_lines 0 calls restarts ++ flat_map ran_line ran ++ codes "end\n") (head_joined (attempt_of h arena calls restarts ran))

pub end_grows : (version : Version) (memory : List ℕ) (attempts : List Attempt) (h : Head) (arena : List ℕ) (calls : List CallRecord) (restarts : List Again) (ran : List Ran)
    → done_lines version memory (attempts ++ attempt_of h arena calls restarts ran ∷ []) ≡ done_lines version memory attempts ++ open_lines h arena calls restarts ran ++ codes "end\n"
end_grows version memory attempts h arena calls restarts ran =
    let a = attempt_of h arena calls restarts ran in
    sym (flat_map_more attempt_lines (first_lines version memory) attempts a) ∙ ap (λ (l : List ℕ). done_lines version memory attempts ++ l) (ended_lines h arena calls restarts ran)
    ∙ sym (append_assoc (done_lines version memory attempts) (open_lines h arena calls restarts ran) (codes "end\n"))

-- at the end it is a history's
pub at_end : (clock : ℕ) (s : State) → so_far (places.AtEnd clock) s ≡ history_text (record { version = s.version; memory = s.memory; attempts = s.attempts; clock = clock; bytes = s.bytes })
unfolding history_text
at_end clock s = refl

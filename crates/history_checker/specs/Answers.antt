-- What the plain machine answers where a history tells another reply, and the verdict with its reason.
use Rattle.std.specs.Prelude.{◌≡◌, ◌≢◌, ℕ, Bool, true, false, ◌&&◌, nat_le, is_none, if◌then◌else◌, List, [], map, slice_get, take, Option, None, Some}
use Rattle.itm_types.specs.declared.call.Reply.{Reply}
use Rattle.itm_model.specs.State.{State}
use Rattle.itm_model.specs.Machine.{opened, reply}
use Rattle.itm_model.specs.Runs.{state_through}
use Rattle.itm_model.specs.Undoable.{Undoable}
use Rattle.tx_attempts.specs.declared.attempt.Again.{Again}
use Rattle.tx_attempts.specs.declared.attempt.Attempt.{Attempt}
use Rattle.tx_attempts.specs.declared.attempt.CallRecord.{CallRecord}
use Rattle.tx_attempts.specs.Counts.{count_committed}
use Rattle.tx_attempts.specs.Restarts.{again_at, breaks_of}
use Rattle.tx_history.specs.declared.history.History.{History}
use Rattle.tx_history.specs.Legal.{memory_at}
use Rattle.tx_history.specs.Versions.{depth_of}
use Rattle.history_checker.specs.declared.verdict.Fault.{Fault}
use Rattle.history_checker.specs.declared.verdict.Finding.{Finding}
use Rattle.history_checker.specs.declared.verdict.Spot.{Spot}
use Rattle.history_checker.specs.Replays.{calls_fault, may_stand}
use Rattle.history_checker.specs.Verdicts.{committed_fault, first_fault, position_fault, verdict_of}

-- ## One attempt

-- the state behind so many of the calls
abbrev pub state_behind : ℕ → List Again → State → List CallRecord → ℕ → State
state_behind deepest restarts s calls j = state_through deepest (breaks_of restarts) s (map (λ (e : CallRecord). e.call) (take j calls))

abbrev pub answer_to : ℕ → State → Option CallRecord → Option Reply
answer_to deepest s None = None
answer_to deepest s (Some e) = Some (reply deepest s e.call)

abbrev pub call_answer : ℕ → List Again → State → List CallRecord → Option ℕ → Option Reply
call_answer deepest restarts s calls None = None
call_answer deepest restarts s calls (Some j) = answer_to deepest (state_behind deepest restarts s calls j) (slice_get calls j)

-- what it answers to the call at which there is a fault, if there is one
abbrev pub answer_at : ℕ → List Again → State → List CallRecord → Option Fault → Option Reply
answer_at deepest restarts s calls None = None
answer_at deepest restarts s calls (Some fault) = call_answer deepest restarts s calls fault.call

-- to the first call of an attempt on this memory that has another reply
abbrev pub answer_in : ℕ → State → Attempt → Option Reply
answer_in deepest s a = answer_at deepest a.restarts s a.calls.list (calls_fault deepest (again_at a.restarts) s 0 a.calls.list)

abbrev pub answer_on : ℕ → List ℕ → Attempt → Option Reply
answer_on deepest memory a = if may_stand a then answer_in deepest (opened memory a.arena a.props) a else None

-- ## A history

-- so many have committed, and the first ones are right
abbrev pub is_reached : History → ℕ → Bool
is_reached h at = nat_le at (count_committed h.attempts) && is_none (committed_fault h at)

-- the memory that an attempt saw is known: each position is that of one attempt, and those of the ones before it are right
abbrev pub is_known : History → ℕ → Bool
is_known h at = is_none (position_fault (count_committed h.attempts) [] h.attempts) && is_reached h at

-- the machine is on the memory that so many commits leave, if that is reached
abbrev pub Reaches : History → ℕ → Option Undoable → Type 0
Reaches h at None = is_reached h at ≡ false
Reaches h at (Some u) = (is_reached h at ≡ true) × (u.state.memory ≡ memory_at h at) × (u.deepest ≡ depth_of h.version)

abbrev pub answer_of : History → Option Attempt → Option Reply
answer_of h None = None
answer_of h (Some a) = if is_known h a.at then answer_on (depth_of h.version) (memory_at h a.at) a else None

abbrev pub spot_answer : History → Option Spot → Option Reply
spot_answer h None = None
spot_answer h (Some spot) = answer_of h (slice_get h.attempts spot.attempt)

-- the verdict, the attempt that is wrong, and what the machine answers there
abbrev pub finding_of : History → Finding
finding_of h = record {
  verdict = verdict_of h;
  spot = first_fault h (count_committed h.attempts);
  answer = spot_answer h (first_fault h (count_committed h.attempts));
}

-- ## What that says

-- the call at this place of an attempt has another reply than the machine gives it on this memory, behind the calls before it, and that reply is the answer
pub record IsContradicted (deepest : ℕ) (memory : List ℕ) (a : Attempt) (call : ℕ) (answer : Option Reply) : Type 0 where
  pub entry : CallRecord
  pub there : slice_get a.calls.list call ≡ Some entry
  pub right : Reply
  pub replies : right ≡ reply deepest (state_behind deepest a.restarts (opened memory a.arena a.props) a.calls.list call) entry.call
  pub other : entry.reply ≢ right
  pub told : answer ≡ Some right

abbrev pub IsReasonIn : ℕ → List ℕ → Attempt → Option ℕ → Option Reply → Type 0
IsReasonIn deepest memory a None answer = answer ≡ None
IsReasonIn deepest memory a (Some call) answer = IsContradicted deepest memory a call answer

-- on the memory that the attempt saw
abbrev pub IsReason : History → Option Attempt → Option ℕ → Option Reply → Type 0
IsReason h None call answer = ⊥
IsReason h (Some a) call answer = IsReasonIn (depth_of h.version) (memory_at h a.at) a call answer

-- it is one of the attempts that is wrong, and an answer is told just where one of its calls is
abbrev pub HasReason : History → Option Spot → Option Reply → Type 0
HasReason h None answer = answer ≡ None
HasReason h (Some spot) answer = IsReason h (slice_get h.attempts spot.attempt) spot.fault.call answer

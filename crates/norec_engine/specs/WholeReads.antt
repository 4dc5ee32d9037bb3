-- The steps of a read of one whole word that is neither written nor logged.
use Rattle.std.specs.Prelude.{◌≡◌, ℕ, ◌+◌, ◌<◌, false, None, length}
use Rattle.std.specs.Int.{w64, to_le_bytes}
use Rattle.itm_types.specs.declared.access.Width.{Width}
use Rattle.itm_types.specs.declared.call.Call.{Call}
use Rattle.itm_types.specs.declared.call.Reply.TheVariants.{Bytes}
use Rattle.itm_types.specs.declared.limits.TheConstants.{MAX_WORDS}
use Rattle.value_log.specs.Log.{HasRoomBehind}
use Rattle.write_set.specs.Rows.{lookup}
use Rattle.norec_core.specs.Core.{Core}
use Rattle.norec_core.specs.Phases.{Load, Confirm}
use Rattle.norec_core.specs.declared.answer.Answer.{Answer}
use Rattle.norec_core.specs.declared.answer.Answer.TheVariants.{Reply}
use Rattle.norec_core.specs.declared.answer.Next.TheVariants.{Step as Asks, Answer as Answers}
use Rattle.norec_core.specs.Moves.{IsCalled, IsResumed}
use Rattle.itm_types.specs.declared.step.Step.TheVariants as steps
use Rattle.norec_core.specs.declared.call_parts.Reading.{Reading}
use Rattle.norec_turns.specs.Between.{IsWord}
use Rattle.norec_accesses.specs.WholeReads.{IsNewWord}

-- the log has room by the number of its rows alone, and the transaction is revocable: a read whose word has to be loaded may be done at once
pub record ReadsAtOnce (e : Core) (width : Width) (at word : ℕ) : Type 0 where
  pub revocable : e.irrevocable ≡ false
  pub behind : HasRoomBehind (length e.log)
  pub new : IsNewWord e width at word

-- the engine waits for the word
pub record LoadsWord (e : Core) (word : ℕ) : Type 0 where
  pub small : word < MAX_WORDS
  pub revocable : e.irrevocable ≡ false
  pub free : e.holds ≡ false
  pub reading : Reading
  pub stage : e.stage ≡ Load reading
  pub is_word : IsWord reading word
  pub unwritten : lookup word e.writes ≡ None

-- and then for the clock, to confirm what it found
pub record ConfirmsWord (e : Core) (word : ℕ) : Type 0 where
  pub revocable : e.irrevocable ≡ false
  pub reading : Reading
  pub value : ℕ
  pub stage : e.stage ≡ Confirm reading value
  pub is_word : IsWord reading word
  pub unwritten : lookup word e.writes ≡ None

-- this value was handed in for the word, and then this for the clock: the call came to this answer
pub record IsConfirmed (old : Core) (value clock : ℕ) (a : Answer) (new : Core) : Type 0 where
  pub loaded : Core
  pub asked : IsResumed old value (Asks (steps.Load 0)) loaded
  pub answered : IsResumed loaded clock (Answers a) new

-- the read came, this value was handed in for the word, and then the snapshot for the clock: it came to the answer with the bytes of that value
pub record IsReadAtOnce (old : Core) (call : Call) (word value : ℕ) (new : Core) : Type 0 where
  pub mid : Core
  pub called : IsCalled old call false (Asks (steps.Load (word + 1))) mid
  pub confirmed : IsConfirmed mid value old.snapshot (Reply (Bytes (record { items = to_le_bytes w64 value }))) new

-- What an answer leaves of an engine's blocks, and of its restarts.
use Rattle.std.specs.Prelude.{◌≡◌, ℕ, ◌<◌, ◌≤◌, Bool, true, false}
use Rattle.itm_types.specs.Calls.{is_abort, is_begin}
use Rattle.itm_types.specs.declared.call.Call.{Call}
use Rattle.itm_types.specs.declared.call.Call.TheVariants.{Commit}
use Rattle.norec_core.specs.declared.answer.Answer.{Answer}
use Rattle.norec_core.specs.declared.answer.Answer.TheVariants.{Reply, Committed, Conflict, Restarted, Busy, Full}
use Rattle.tx_player.specs.Depth.{depth_after}

-- what an answer leaves: the engine was open or not as the call came, with so many blocks, and now is as this says; the block that goes back to its begin is not the outermost one
abbrev pub AnswerFits : Bool → ℕ → Bool → ℕ → Call → Answer → Type 0
AnswerFits was before now deep call (Reply r) = (depth_after before call r ≡ deep) × (is_abort call ≡ false → was ≡ true → now ≡ true)
AnswerFits was before now deep call (Committed at wrote) = (was ≡ true) × (now ≡ false) × (call ≡ Commit) × (before ≡ 1)
AnswerFits was before now deep call (Conflict clock word) = (was ≡ false → is_begin call ≡ true) × (now ≡ false)
AnswerFits was before now deep call (Restarted clock word) = (was ≡ true) × (now ≡ true) × (before ≡ deep) × (1 < before)
AnswerFits was before now deep call (Busy clock) = (was ≡ false) × (now ≡ false)
AnswerFits was before now deep call (Full at) = (was ≡ false → is_begin call ≡ true) × (now ≡ false)

-- so many restarts were left as the call came, and so many are: one that was made is gone, and no other answer leaves more, but where a transaction has ended
abbrev pub LeavesRestarts : Bool → Bool → ℕ → ℕ → Answer → Type 0
LeavesRestarts was now before left (Restarted clock word) = left < before
LeavesRestarts was now before left answer = (was ≡ true → now ≡ false → ⊥) → left ≤ before

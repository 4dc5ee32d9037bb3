-- What a begin and a commit come to on the fast path.
use Rattle.std.specs.Prelude.{◌≡◌, ◌≢◌, ℕ, ◌+◌, ◌≤◌, Bool, true, false, if◌then◌else◌, List, length}
use Rattle.itm_types.specs.declared.step.Step.{Step}
use Rattle.itm_types.specs.declared.call.Call.{Call}
use Rattle.itm_types.specs.declared.call.Call.TheVariants.{Commit}
use Rattle.itm_types.specs.declared.call.Reply.TheVariants.{Code as Coded}
use Rattle.norec_core.specs.declared.answer.Answer.{Answer}
use Rattle.norec_core.specs.declared.answer.Answer.TheVariants.{Reply, Committed}
use Rattle.norec_core.specs.declared.answer.Next.{Next}
use Rattle.norec_core.specs.declared.answer.Next.TheVariants.{Step as Asks}
use Rattle.norec_core.specs.Core.{Core}
use Rattle.norec_engine.specs.BlockSteps.{next_step, storing}
use Rattle.shared_words.specs.declared.view.View.{View}
use Rattle.shared_words.specs.declared.pass.Pass.{Pass}
use Rattle.shared_words.specs.declared.words.Words.{Words}
use Rattle.shared_words.specs.Passes.{cells_of, Owns, view_of}
use Rattle.itm_runtime.specs.declared.blocks.Begun.{Begun}
use Rattle.itm_runtime.specs.declared.blocks.Begun.TheVariants as begins
use Rattle.itm_runtime.specs.declared.blocks.Ended.{Ended}
use Rattle.itm_runtime.specs.declared.blocks.Ended.TheVariants as ends
use Rattle.call_rules.specs.Drives.{LeadsOn}
use Rattle.call_rules.specs.Underway.{Finds, IsServed, IsUnderway}

-- in a commit that has taken the clock, with so many loads, the row was stored by these steps, and the next one is asked for: after so many loads
pub record RowStored {A : Type 0} (words : Words A) (v : View) (e : Core) (row loads : ℕ) (pass : Pass) (after : ℕ) : Type 0 where
  pub own : Owns words pass
  pub few : after ≤ row + 1
  pub steps : List (Step × ℕ)
  pub leads : LeadsOn (cells_of words) v (storing e row loads) (Asks (next_step e row)) steps (view_of pass) (storing e (row + 1) after) (Asks (next_step e (row + 1)))

-- in the commit of `e`, each row was stored, with so many loads, and the clock was freed: by the steps that were asked for from here on
pub record RowsStored {A : Type 0} (words : Words A) (v : View) (from : Core) (next : Next) (e : Core) (loads : ℕ) (pass : Pass) : Type 0 where
  pub few : loads ≤ length e.writes
  pub freed : ℕ
  pub finds : Finds words v from next freed pass (storing e (length e.writes) loads)

-- by what a begin tells
abbrev pub BeginsSo : {A : Type 0} → Words A → Pass → Core → Call → Bool → Begun → Pass → Core → Type 0
BeginsSo words pass e call again begins.Entered left new = IsServed words pass e call again (Reply (Coded (if again then 9 else 5))) left new
BeginsSo words pass e call again (begins.Odd clock) left new = IsUnderway words pass e call again clock left new
BeginsSo words pass e call again begins.Nothing left new = (left ≡ pass) × (new ≡ e)

-- and by what a commit tells
abbrev pub CommitsSo : {A : Type 0} → Words A → Pass → Core → Ended → Pass → Core → Type 0
CommitsSo words pass e (ends.Wrote at) left new = IsServed words pass e Commit false (Committed at true) left new
CommitsSo words pass e (ends.Read at) left new = IsServed words pass e Commit false (Committed at false) left new
CommitsSo words pass e (ends.Found found) left new = IsUnderway words pass e Commit false found left new × (found ≢ e.snapshot)
CommitsSo words pass e ends.Nothing left new = (left ≡ pass) × (new ≡ e)

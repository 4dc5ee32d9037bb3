-- What comes of a call of a thread.
use Rattle.std.specs.Prelude.{◌≡◌, Bool, false, Option, None, Some, Result, MatchResult}
use Rattle.itm_types.specs.declared.call.Call.{Call}
use Rattle.norec_core.specs.declared.answer.Answer.{Answer}
use Rattle.norec_core.specs.Core.{Core}
use Rattle.norec_core.specs.Proceeds.{MayStarve}
use Rattle.shared_words.specs.declared.pass.Pass.{Pass}
use Rattle.shared_words.specs.declared.words.Words.{Words}
use Rattle.shared_words.specs.Passes.{cells_of, Owns, view_of}
use Rattle.call_rules.specs.Drives.{IsDriven}
use Rattle.call_rules.specs.Served.{Start, Served}
use Rattle.call_rules.specs.Standing.{Standing, start_of}
use Rattle.call_rules.specs.Ties.{Stands}

-- the call was answered so, and the thread is left with this pass and this engine
pub record IsAnswered {A : Type 0} (words : Words A) (s : Start) (a : Answer) (pass : Pass) (engine : Core) : Type 0 where
  pub own : Owns words pass
  pub driven : IsDriven (cells_of words) s a (view_of pass) engine
  pub served : Served s a (view_of pass) engine  -- this follows from it
  pub stands : Stands (view_of pass) engine

-- memory was refused to the call, which is one that may want some, and nothing is changed
pub record IsThreadStarved {A : Type 0} (words : Words A) (old : Standing) (call : Call) (new : Standing) : Type 0 where
  pub own : Owns words new.pass
  pub stands : Stands (view_of new.pass) new.engine
  pub err : new ≡ old
  pub starves : MayStarve old.engine call

-- a call's whole result: there is its answer, which `answer` takes from it, or memory was refused
abbrev pub Returns : {R E A : Type 0} → (R → Answer) → Words A → Standing → Call → Bool → Result R E → Standing → Type 0
Returns answer words old call again result new = MatchResult result (λ a. IsAnswered words (start_of old call again) (answer a) new.pass new.engine) (λ e. IsThreadStarved words old call new)

-- the same where a typed result tells of the answer: it tells of none just where memory was refused
abbrev pub Tells : {A : Type 0} → Words A → Standing → Call → Option Answer → Standing → Type 0
Tells words old call (Some a) new = IsAnswered words (start_of old call false) a new.pass new.engine
Tells words old call None new = IsThreadStarved words old call new

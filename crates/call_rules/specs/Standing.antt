-- What a thread is to its callers.
use Rattle.std.specs.Prelude.{Bool}
use Rattle.itm_types.specs.declared.call.Call.{Call}
use Rattle.norec_core.specs.Core.{Core}
use Rattle.shared_words.specs.declared.pass.Pass.{Pass}
use Rattle.shared_words.specs.Passes.{view_of}
use Rattle.call_rules.specs.Served.{Start}

pub record Standing : Type 0 where
  pub pass : Pass
  pub engine : Core

-- the thread as a call came
abbrev pub start_of : Standing → Call → Bool → Start
start_of t call again = record { view = view_of t.pass; engine = t.engine; call = call; again = again }

-- What a read of a number comes to on the fast path.
use Rattle.std.specs.Prelude.{◌≡◌, ◌≢◌, false}
use Rattle.itm_types.specs.declared.call.Call.{Call}
use Rattle.itm_types.specs.declared.call.Reply.TheVariants.{Bytes}
use Rattle.itm_types.specs.declared.step.Step.TheVariants.{Load}
use Rattle.norec_core.specs.declared.answer.Answer.TheVariants.{Reply}
use Rattle.norec_core.specs.Core.{Core}
use Rattle.shared_words.specs.declared.pass.Pass.{Pass}
use Rattle.shared_words.specs.declared.words.Words.{Words}
use Rattle.itm_runtime.specs.declared.whole_words.Looked.{Looked}
use Rattle.itm_runtime.specs.declared.whole_words.Looked.TheVariants.{Number, Moved, Nothing}
use Rattle.call_rules.specs.Underway.{IsServed, IsUnderway}
use Rattle.itm_runtime.specs.Stops.{bytes_of_number}

abbrev pub LooksSo : {A : Type 0} → Words A → Pass → Core → Call → Looked → Pass → Core → Type 0
LooksSo words pass e call (Number n) left new = IsServed words pass e call false (Reply (Bytes (record { items = bytes_of_number n }))) left new
LooksSo words pass e call (Moved clock) left new = (u : IsUnderway words pass e call false clock left new) × (u.finds.step ≡ Load 0) × (clock ≢ e.snapshot)
LooksSo words pass e call Nothing left new = (left ≡ pass) × (new ≡ e)

-- What a client comes to that learns of a number in a block that it takes back.
use Rattle.std.specs.Prelude.{◌≡◌, ℕ, suc, ◌<◌, true, List, [], ◌∷◌, ◌++◌, length}
use Rattle.itm_types.specs.declared.access.ReadHint.TheVariants.{R}
use Rattle.itm_types.specs.declared.access.WriteHint.TheVariants.{W}
use Rattle.itm_types.specs.declared.access.Width.TheVariants.{U8}
use Rattle.itm_types.specs.declared.call.Action.{Action}
use Rattle.itm_types.specs.declared.call.Call.TheVariants.{Read, Write}
use Rattle.itm_types.specs.declared.call.Reply.TheVariants.{Done}
use Rattle.itm_types.specs.Memory.{bytes_of}
use Rattle.itm_types.specs.Slices.{slice, with_slice}
use Rattle.itm_model.specs.Machine.{bytes_reply}
use Rattle.shared_words.specs.InGlobal.{Words}
use Rattle.shared_words.specs.Passes.{view_of}
use Rattle.call_rules.specs.Standing.{Standing}
use Rattle.call_rules.specs.Ties.{memory_of}
use Rattle.itm_runtime.specs.Stops.{bytes_of_number, number}
use Rattle.transactions.specs.Blocks.{StaysWithin}
use Rattle.transactions.specs.Lent.{Lent}
use Rattle.transactions.specs.Plain.{Calls, Deed, Makes, cancelled_of}
use Rattle.transactions.specs.declared.stopped.Stopped.{Stopped}
use Rattle.transactions.specs.declared.stopped.Stopped.TheVariants.{Cancelled, Engine}
use Rattle.transactions.specs.declared.tried.Done.{Done as Value}

-- what is done in the block: this number is read there
abbrev pub deeds_of_look : ℕ → ℕ → List Deed
deeds_of_look from found = Calls (Read R U8 from) (bytes_reply (bytes_of_number found)) ∷ []

-- all deeds of the body: the block, which is taken back, and the write of what was read there
abbrev pub deeds_of_copy : ℕ → ℕ → ℕ → List Action → List Deed
deeds_of_copy from to found gone = cancelled_of gone (deeds_of_look from found) ++ Calls (Write W to (number found)) Done ∷ []

-- they led a thread from the one standing to the other: those in the block
pub record HasPeeked (from found : ℕ) (words : Words) (old new : Standing) : Type 0 where
  pub makes : Makes words old (deeds_of_look from found) new

-- where the body of the block takes it back
abbrev pub IsFound : ℕ → Stopped ℕ → Words → Standing → Standing → Type 0
IsFound from (Cancelled found) words old new = HasPeeked from found words old new
IsFound from (Engine stop) words old new = Unit {0}

-- it ends no block alone that was open
pub record EndsNoBlock (old new : Lent) : Type 0 where
  pub within : StaysWithin old new

-- those of the block
pub record HasTakenBack (from found : ℕ) (words : Words) (old new : Standing) : Type 0 where
  pub gone : List Action
  pub makes : Makes words old (cancelled_of gone (deeds_of_look from found)) new

-- those of the body
pub record HasCopied (from to found : ℕ) (words : Words) (old new : Standing) : Type 0 where
  pub gone : List Action
  pub makes : Makes words old (deeds_of_copy from to found gone) new

-- the bytes that the commits before the position told have left have this number at the one place, and the commit there has written it at the other one, and nothing else
pub record HasLearned (from to : ℕ) (done : Value ℕ) (new : Standing) : Type 0 where
  pub wrote : done.wrote ≡ true
  pub seen : done.at < length (view_of new.pass).seen
  pub learned : slice (bytes_of (memory_of (view_of new.pass) done.at)) from 8 ≡ bytes_of_number done.value
  pub copied : bytes_of (memory_of (view_of new.pass) (suc done.at)) ≡ with_slice (bytes_of (memory_of (view_of new.pass) done.at)) to (bytes_of_number done.value)

-- What a transfer that is made comes to.
use Rattle.std.specs.Prelude.{◌≡◌, ℕ, suc, ◌+◌, ◌-◌, ◌<◌, ◌≤◌, ◌^◌, true, List, [], ◌∷◌, ◌++◌, length}
use Rattle.itm_types.specs.declared.access.ReadHint.TheVariants.{R}
use Rattle.itm_types.specs.declared.access.WriteHint.TheVariants.{W}
use Rattle.itm_types.specs.declared.access.Width.TheVariants.{U8}
use Rattle.itm_types.specs.declared.call.Action.{Action}
use Rattle.itm_types.specs.declared.call.Call.TheVariants.{CommitAction, Read, Write}
use Rattle.itm_types.specs.declared.call.Reply.TheVariants.{Done}
use Rattle.itm_types.specs.Memory.{bytes_of}
use Rattle.itm_types.specs.Slices.{slice, with_slice}
use Rattle.itm_model.specs.Machine.{bytes_reply}
use Rattle.shared_words.specs.InGlobal.{Words}
use Rattle.shared_words.specs.Passes.{view_of}
use Rattle.call_rules.specs.Standing.{Standing}
use Rattle.itm_runtime.specs.Stops.{bytes_of_number, number}
use Rattle.call_rules.specs.Ties.{memory_of}
use Rattle.transactions.specs.Blocks.{StaysWithin}
use Rattle.transactions.specs.Lent.{Lent}
use Rattle.transactions.specs.Plain.{Calls, Deed, Makes, block_of}
use Rattle.transactions.specs.declared.tried.Done.{Done as Value}
use Rattle.bank.specs.declared.transfer.Transfer.{Transfer}
use Rattle.bank.specs.declared.transfer.TheConstants.{RECEIPT}

-- the first account had this much, the second one this much when it was read, and the amount can go from the one to the other
pub record CanMove (amount had has : ℕ) : Type 0 where
  pub known : had < 2 ^ 64
  pub enough : amount ≤ had
  pub room : has + amount < 2 ^ 64

-- the deeds of the second account's part, which has this place
abbrev pub deeds_of_payment : ℕ → ℕ → ℕ → List Deed
deeds_of_payment place amount has =
    Calls (Read R U8 place) (bytes_reply (bytes_of_number has))
    ∷ Calls (Write W place (number (has + amount))) Done
    ∷ []

-- the deeds of a transfer that is made: the second account's part is a block of its own
abbrev pub deeds_of_transfer : Transfer → ℕ → ℕ → List Action → List Deed
deeds_of_transfer t had has gone =
    Calls (Read R U8 t.from.place) (bytes_reply (bytes_of_number had))
    ∷ Calls (Write W t.from.place (number (had - t.amount))) Done
    ∷ (block_of gone (deeds_of_payment t.to.place t.amount has) ++ Calls (CommitAction (record { fun = RECEIPT; arg = t.amount })) Done ∷ [])

-- they led a thread from the one standing to the other: those of the part
pub record IsPaidIn (place amount : ℕ) (words : Words) (old new : Standing) : Type 0 where
  pub has : ℕ
  pub room : has + amount < 2 ^ 64
  pub makes : Makes words old (deeds_of_payment place amount has) new

-- the part ends no block alone that was open
pub record EndsNoBlock (old new : Lent) : Type 0 where
  pub within : StaysWithin old new

-- those of the part as a block
pub record HasPaidIn (place amount : ℕ) (words : Words) (old new : Standing) : Type 0 where
  pub has : ℕ
  pub room : has + amount < 2 ^ 64
  pub gone : List Action
  pub makes : Makes words old (block_of gone (deeds_of_payment place amount has)) new

-- those of the transfer
pub record IsMade (t : Transfer) (words : Words) (old new : Standing) : Type 0 where
  pub had : ℕ
  pub has : ℕ
  pub can : CanMove t.amount had has
  pub gone : List Action
  pub makes : Makes words old (deeds_of_transfer t had has gone) new

-- of these bytes the amount has gone from the first account to the second one, and nothing else is changed
pub record IsMoved (t : Transfer) (old new : List ℕ) : Type 0 where
  pub had : ℕ
  pub has : ℕ
  pub can : CanMove t.amount had has
  pub had_is : slice old t.from.place 8 ≡ bytes_of_number had
  pub less : List ℕ
  pub less_is : less ≡ with_slice old t.from.place (bytes_of_number (had - t.amount))
  pub has_is : slice less t.to.place 8 ≡ bytes_of_number has
  pub new_is : new ≡ with_slice less t.to.place (bytes_of_number (has + t.amount))

-- the commit at the position told has moved the amount, on the bytes that the commits before it have left
pub record HasMoved (t : Transfer) (done : Value (Unit {0})) (new : Standing) : Type 0 where
  pub wrote : done.wrote ≡ true
  pub seen : done.at < length (view_of new.pass).seen
  pub moved : IsMoved t (bytes_of (memory_of (view_of new.pass) done.at)) (bytes_of (memory_of (view_of new.pass) (suc done.at)))

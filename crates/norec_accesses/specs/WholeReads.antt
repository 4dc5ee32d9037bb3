-- A read of one whole word that is neither written nor logged.
use Rattle.std.specs.Prelude.{◌≡◌, ℕ, ◌+◌, ◌*◌, ◌≤◌, true, false, [], None, length}
use Rattle.itm_types.specs.declared.access.ReadHint.{ReadHint}
use Rattle.itm_types.specs.declared.access.Width.{Width}
use Rattle.itm_types.specs.declared.call.Call.TheVariants.{Read}
use Rattle.itm_types.specs.Access.{size_of}
use Rattle.itm_types.specs.LogRows.{value_of}
use Rattle.write_set.specs.Rows.{lookup}
use Rattle.norec_core.specs.Core.{Core, in_transaction}
use Rattle.norec_core.specs.Order.{value_reading}
use Rattle.norec_core.specs.Phases.{Confirm, Idle, Load}
use Rattle.norec_data.specs.declared.data.Data.{Data}
use Rattle.norec_data.specs.declared.end.CallEnd.TheVariants.{Word}
use Rattle.norec_data.specs.declared.pending.Pending.TheVariants as waits
use Rattle.norec_data.specs.declared.turn.Turn.TheVariants.{End, Wait}
use Rattle.norec_data.specs.Turns.{counted}
use Rattle.norec_data.specs.View.{core}
use Rattle.norec_turns.specs.InPhases.{IsSound}
use Rattle.norec_turns.specs.Moves.{CallTurns, StepGoesTo, StepTurns}

-- the read is served, and its word has to be loaded
pub record IsNewWord (e : Core) (width : Width) (at word : ℕ) : Type 0 where
  pub is_open : in_transaction e ≡ true
  pub at_is : at ≡ 8 * word
  pub size_is : size_of width ≡ 8
  pub within : at + 8 ≤ 8 * e.words
  pub unwritten : lookup word e.writes ≡ None
  pub unlogged : value_of word e.log ≡ None

-- the fields as such a read waits for its word
abbrev pub asking_word : Data → ReadHint → Width → ℕ → Data
asking_word d hint width at = record d {
  gathered = record { items = [] };
  written = length d.frames.writes.rows;
  spent = 0;
  entry = length d.log.rows;
  tries = 0;
  reading = value_reading hint width at;
}

-- such a read came, its word had this value, the clock was still the snapshot, and so it was answered. Fields that no caller sees between two calls may be others than those that the steps left
pub record ReadTurns (old : Data) (hint : ReadHint) (width : Width) (at word value : ℕ) (new : Data) : Type 0 where
  pub last : Data
  pub called : CallTurns old (Read hint width at) false (Wait waits.Load) (asking_word old hint width at)
  pub loaded : StepGoesTo (counted (asking_word old hint width at)) (Load (value_reading hint width at)) value (Wait (waits.Confirm value)) (counted (asking_word old hint width at))
  pub confirmed : StepTurns (counted (counted (asking_word old hint width at))) (Confirm (value_reading hint width at) value) old.snapshot (End (Word value)) last
  pub same : core last Idle ≡ core new Idle
  pub sound : IsSound new Idle

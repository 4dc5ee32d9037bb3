-- The steps of an outermost begin, and of a commit that stores what is written.
use Rattle.std.specs.Prelude.{◌≡◌, ◌⊎◌, ℕ, suc, ◌+◌, ◌/◌, ◌<◌, ◌≤◌, ◌||◌, not, Bool, true, false, if◌then◌else◌, [], None, Some, length}
use Rattle.itm_types.specs.declared.call.Call.TheVariants.{Begin, Commit as CommitCall}
use Rattle.itm_types.specs.declared.call.Props.{Props}
use Rattle.itm_types.specs.declared.call.Reply.TheVariants.{Code}
use Rattle.itm_types.specs.declared.step.Step.{Step}
use Rattle.itm_types.specs.declared.step.Step.TheVariants.{Cas, Load, Store as StoreIn}
use Rattle.word_pieces.specs.Masks.{whole}
use Rattle.norec_core.specs.declared.answer.Answer.TheVariants.{Reply}
use Rattle.norec_core.specs.declared.answer.Next.TheVariants.{Step as Asks, Answer as Answers}
use Rattle.norec_core.specs.Core.{Core, in_transaction, is_outermost}
use Rattle.norec_core.specs.Moves.{IsCalled, IsResumed}
use Rattle.norec_core.specs.Phases.{Phase, Exchange, Idle, Store}
use Rattle.norec_core.specs.Order.{step_in, store_stage}
use Rattle.norec_core.specs.Rows.{value_into, write_at}
use Rattle.norec_core.specs.declared.call_parts.Taking.TheVariants.{Commit}

-- a begin is one of an outermost block that stays revocable
abbrev pub begins_outer : Core → Props → Bool
begins_outer e props = not (props.goes_irrevocable || in_transaction e)

-- such a begin came, the clock that it asked for was this, and it has begun with this code
pub record IsBegun (old : Core) (props : Props) (room : ℕ) (again : Bool) (clock code : ℕ) (new : Core) : Type 0 where
  pub mid : Core
  pub called : IsCalled old (Begin props room) again (Asks (Load 0)) mid
  pub resumed : IsResumed mid clock (Answers (Reply (Code code))) new

-- between two calls
abbrev pub is_idle : Phase → Bool
is_idle Idle = true
is_idle _ = false

-- as a commit waits for the clock: one that waits for it, or that comes now
abbrev pub exchanging : Core → Core
exchanging e = record e {
  doing = Some CommitCall;
  again = false;
  waits = Some (Cas 0 e.snapshot (e.snapshot + 1));
  stage = Exchange Commit;
  spent = if is_idle e.stage then 1 else e.spent;
  tries = if is_idle e.stage then 0 else e.tries;
  entry = if is_idle e.stage then length e.log else e.entry;
}

-- a commit waits for the exchange that takes the clock
pub record WaitsForClock (e : Core) : Type 0 where
  pub revocable : e.irrevocable ≡ false
  pub stage : e.stage ≡ Exchange Commit
  pub some : 0 < length e.writes
  pub asked : exchanging e ≡ e

-- between two calls: a commit that comes now asks for the clock
pub record AsksForClock (e : Core) : Type 0 where
  pub revocable : e.irrevocable ≡ false
  pub stage : e.stage ≡ Idle
  pub outermost : is_outermost e.blocks ≡ true
  pub some : 0 < length e.writes
  pub free : e.snapshot / 2 < e.max_commits

-- what is written is to be stored: by a commit that waits for the clock, or that comes now
abbrev pub WritesBack : Core → Type 0
WritesBack e = WaitsForClock e ⊎ AsksForClock e

-- the row is one of a whole word
abbrev pub IsWhole : Core → ℕ → Type 0
IsWhole e row = (write_at e.writes row).mask ≡ whole

-- what is asked for once so many rows were stored: the store of the next one, or first the load of its word, where it has a part of it, or the store that frees the clock
abbrev pub next_step : Core → ℕ → Step
next_step e row = step_in e.log e.snapshot e.writes [] (store_stage Commit e.writes row)

-- the store of a row that has a part of its word, into what was found there
abbrev pub part_store : Core → ℕ → ℕ → Step
part_store e row found = StoreIn (suc (write_at e.writes row).word) (value_into (write_at e.writes row) (Some found))

-- `e` took the clock, and then stored so many rows, with so many loads
abbrev pub storing : Core → ℕ → ℕ → Core
storing e row loads = record e { holds = true; done = row; got = None; waits = Some (next_step e row); spent = e.spent + (row + loads + 1); stage = store_stage Commit e.writes row }

-- and this was found of the word of the next one
abbrev pub merging : Core → ℕ → ℕ → ℕ → Core
merging e row loads found = record e { holds = true; done = row; got = Some found; waits = Some (part_store e row found); spent = e.spent + (row + loads + 2); stage = Store Commit row (Some found) }

-- once it has taken the clock, it stores the rows so; it is no matter what a store finds
pub record StoresRows (e : Core) : Type 0 where
  pub first : IsResumed e e.snapshot (Asks (next_step e 0)) (storing e 0 0)
  pub whole : (row loads seen : ℕ) → row < length e.writes → IsWhole e row → loads ≤ row → IsResumed (storing e row loads) seen (Asks (next_step e (row + 1))) (storing e (row + 1) loads)
  pub load : (row loads found : ℕ) → row < length e.writes → ¬ IsWhole e row → loads ≤ row → IsResumed (storing e row loads) found (Asks (part_store e row found)) (merging e row loads found)
  pub part : (row loads found seen : ℕ) → row < length e.writes → loads ≤ row → IsResumed (merging e row loads found) seen (Asks (next_step e (row + 1))) (storing e (row + 1) (loads + 1))

-- The steps of a validation round.
use Rattle.std.specs.Prelude.{◌≡◌, ℕ, false, Some}
use Rattle.itm_types.specs.declared.step.Step.TheVariants.{Load}
use Rattle.norec_core.specs.Aims.{Aim}
use Rattle.norec_core.specs.Core.{Core}
use Rattle.norec_core.specs.Phases.{Phase}

-- in a round of a revocable transaction, at this stage of it, the engine waits for this load
pub record Validates (e : Core) (stage : Aim → Phase) (cell : ℕ) : Type 0 where
  pub revocable : e.irrevocable ≡ false
  pub aim : Aim
  pub stage_is : e.stage ≡ stage aim
  pub waits : e.waits ≡ Some (Load cell)

-- The attempts of a world, one after the other.
use Rattle.std.specs.Prelude.{List, ◌++◌}
use Rattle.tx_attempts.specs.declared.attempt.Attempt.{Attempt}
use Rattle.norec_world.specs.declared.listed.Attempts.{Attempts}
use Rattle.world_rules.specs.Stages.{opens}

-- those that are left
abbrev pub left_of : {P : Type 0} → Attempts P → List Attempt
left_of s = s.ended.now ++ opens s.actors.now

-- What a validation round is made for.
use Rattle.norec_core.specs.declared.call_parts.Reading.{Reading}
use Rattle.norec_core.specs.declared.call_parts.Taking.{Taking}

pub data Aim : Type 0 where
  Read : Reading → Aim  -- the read goes on, from the load of the word
  Take : Taking → Aim  -- the clock is taken

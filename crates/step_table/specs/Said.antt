-- What came of an event, as it is written.
use Rattle.std.specs.Prelude.{ℕ, List, ◌++◌, flat_map}
use Rattle.tx_history.specs.Spelling.{spelled}
use Rattle.step_table.specs.declared.came.Came.{Came}

abbrev pub said : Came → List ℕ
said c = spelled c.bar ++ flat_map spelled c.words ++ spelled c.ending

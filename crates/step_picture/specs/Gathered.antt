-- Marks that are gathered as events are taken.
use Rattle.std.specs.Prelude.{◌≡◌, true, List, [], ◌∷◌, ◌++◌, Result, Ok, Err}
use Rattle.world_rules.specs.World.{World}
use Rattle.step_table.specs.declared.view.View.{View}
use Rattle.step_table.specs.Rows.{Row}
use Rattle.step_table.specs.Table.{shows}
use Rattle.step_picture.specs.declared.mark.Mark.{Mark}
use Rattle.step_picture.specs.Marks.{marks_of}

-- events were taken, all that were asked for, and what is drawn of them stands behind what stood there
abbrev pub Gathered : {P : Type 0} → View → (World P → List Row → World P → Type 0) → World P → World P → List Mark → List Mark → Type 0
Gathered view all old new had has = (rows : List Row) × all old rows new × (has ≡ had ++ marks_of view rows)

-- the first ones of them were, up to one that is shown and has no mark, since memory was refused for it; what is drawn of those before it stands there
abbrev pub Stopped : {P : Type 0} → View → (World P → List Row → World P → Type 0) → World P → World P → List Mark → List Mark → Type 0
Stopped view first old new had has = (rows : List Row) × (last : Row) × first old (rows ++ last ∷ []) new × (shows view last.event ≡ true) × (has ≡ had ++ marks_of view rows)

-- the one or the other
abbrev pub Gathers : {P A E : Type 0} → View → (World P → List Row → World P → Type 0) → (World P → List Row → World P → Type 0) → World P → World P → List Mark → List Mark → Result A E → Type 0
Gathers view all first old new had has (Ok x) = Gathered view all old new had has
Gathers view all first old new had has (Err e) = Stopped view first old new had has

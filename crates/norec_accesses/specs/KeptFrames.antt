-- What a call keeps of the open blocks.
use Rattle.std.specs.Prelude.{◌≡◌}
use Rattle.nest_frames.specs.Nest.{Nest}

-- the write set may be another one; all else is the same
abbrev pub KeepsAllButWrites : Nest → Nest → Type 0
KeepsAllButWrites old new = new ≡ record old { writes = new.writes }

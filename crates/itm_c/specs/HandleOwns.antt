-- What a handle owns: what a box owns, or nothing.
use base.Fml.{Fml, ftrue}
use base.Stored.{Coded}
use denote.RawPtr.{Ptr}
use Rattle.std.specs.Box.Ownership.{box_owns}
use Rattle.std.specs.Coded.{coded_option}
use Rattle.std.specs.Global.{Global}
use Rattle.std.specs.Prelude.{Option, None, Some}
use Rattle.std.specs.contracts.impls.GlobalAllocator.TheImpl.{ghosts}
use Rattle.itm_c.specs.contracts.kept.Kept.{the_row}

abbrev pub handle_owns : Global → Ptr → Option the_row.Denot → Fml
handle_owns alloc at None = ftrue
handle_owns alloc at (Some kept) = box_owns (ghosts.dealloc_token alloc) the_row at kept

abbrev pub kept_code : Coded (Option the_row.Denot)
kept_code = coded_option the_row.coded

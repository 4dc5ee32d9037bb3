-- Worked cases, computed: names of entry points.
use Rattle.std.specs.Prelude.{◌≡◌, true, false, Some, None, codes, refl}
use Rattle.itm_types.specs.declared.access.Width.TheVariants as width
use Rattle.itm_types.specs.declared.access.ReadHint.TheVariants as read
use Rattle.itm_types.specs.declared.access.WriteHint.TheVariants as write
use Rattle.itm_types.specs.declared.copy.SharedSide.TheVariants as shared
use Rattle.itm_types.specs.declared.copy.CopyPair.TheVariants as pair
use Rattle.itm_entries.specs.declared.entry.Control.TheVariants as control
use Rattle.itm_entries.specs.declared.entry.Entry.TheVariants as entry
use Rattle.itm_entries.{specs.Names.name_of, specs.Entries.entry_of}

-- a rule's name, and the entry that it names

read_after_write : name_of (entry.Read read.RaW width.U4) ≡ codes "_ITM_RaWU4"
read_after_write = refl

widest_write : name_of (entry.Write write.W width.M256) ≡ codes "_ITM_WM256"
widest_write = refl

log_of_complex : name_of (entry.Log width.CD) ≡ codes "_ITM_LCD"
log_of_complex = refl

log_of_bytes : name_of entry.LogBytes ≡ codes "_ITM_LB"
log_of_bytes = refl

copy_within : name_of (entry.Copy false (pair.Within shared.TaR shared.TaW)) ≡ codes "_ITM_memcpyRtaRWtaW"
copy_within = refl

move_out : name_of (entry.Copy true (pair.Out shared.T)) ≡ codes "_ITM_memmoveRnWt"
move_out = refl

fill_after_read : name_of (entry.Fill write.WaR) ≡ codes "_ITM_memsetWaR"
fill_after_read = refl

begin : name_of (entry.Control control.BeginTransaction) ≡ codes "_ITM_beginTransaction"
begin = refl

found_read : entry_of (codes "_ITM_RaWU4") ≡ Some (entry.Read read.RaW width.U4)
unfolding entry_of
found_read = refl

found_copy : entry_of (codes "_ITM_memcpyRtaRWtaW") ≡ Some (entry.Copy false (pair.Within shared.TaR shared.TaW))
unfolding entry_of
found_copy = refl

found_begin : entry_of (codes "_ITM_beginTransaction") ≡ Some (entry.Control control.BeginTransaction)
unfolding entry_of
found_begin = refl

-- texts that are no names

no_hint : entry_of (codes "_ITM_RaU8") ≡ None
unfolding entry_of
no_hint = refl

no_copy_of_own : entry_of (codes "_ITM_memcpyRnWn") ≡ None
unfolding entry_of
no_copy_of_own = refl

no_end : entry_of (codes "_ITM_LBx") ≡ None
unfolding entry_of
no_end = refl

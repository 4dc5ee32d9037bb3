-- A handle crosses to another thread as what it holds does.
use Rattle.itm_c.proofs.Common.{Ptr, bare as raw, exits_of, fields, lone, shape, to}
use base.Shift.{Keyless}
use denote.Param.Send.{IsSend, AllSend, owning_send, struct_send, sendable}
use Rattle.std.{specs.Global.Global, specs.Prelude.Option, specs.Prelude.None, specs.Prelude.Some}
use Rattle.std.proofs.Crossing as heap
use Rattle.std_alloc.proofs.SendSync.{quiet, lies}
use Rattle.std_heap.proofs.Global.TheSendSync as alloc
use Rattle.itm_c.specs.HandleOwns.{handle_owns}
use Rattle.itm_c.specs.contracts.kept.Kept as Kept
use Rattle.itm_c.proofs.kept.Kept.TheSendSync.{the_send as kept}
use Rattle.itm_c.specs.contracts.handle.Handle.{the_row, the_type}

crosses : (a : Global) (p : Ptr) (o : Option (Kept.the_row).Denot) → Keyless (handle_owns a p o)
crosses a p None = tt
crosses a p (Some x) = (lies Kept.the_row kept p x, heap.frees.frees a (raw (lone (Kept.the_row).mir)) p)

pub send : IsSend the_row
send =
    let parts : AllSend (fields the_type) = (search sendable, (alloc.the_field_send, tt)) in
    owning_send the_type parts (λ h. crosses h.alloc h.at h.kept) (λ k. quiet (to the_type) (exits_of k (fields the_type)) ((struct_send (shape the_type) parts).leaving k))

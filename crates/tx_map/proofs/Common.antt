-- The names that more than one proof cites, passed on from one place. Declares nothing.
pub use Rattle.call_rules.proofs.LaterViews.{went_on, went_self}
pub use Rattle.call_rules.specs.Standing.{Standing}
pub use Rattle.itm_model.specs.Machine.{after, after_unless, bytes_reply, closed, refusal, written}
pub use Rattle.itm_model.specs.Runs.{replies, state_after}
pub use Rattle.itm_model.specs.State.{State}
pub use Rattle.itm_runtime.specs.Stops.{answer_to_read, answer_to_write, bytes_of_number, number}
pub use Rattle.itm_types.specs.Memory.{bytes_of}
pub use Rattle.itm_types.specs.Slices.{slice, with_slice}
pub use Rattle.itm_types.specs.declared.access.ReadHint.TheVariants.{R}
pub use Rattle.itm_types.specs.declared.access.Width.TheVariants.{U8}
pub use Rattle.itm_types.specs.declared.access.WriteHint.TheVariants.{W}
pub use Rattle.itm_types.specs.declared.call.Call.TheVariants.{Commit, Read, Write}
pub use Rattle.itm_types.specs.declared.call.Reply.TheVariants.{Done}
pub use Rattle.norec_core.proofs.Engines.Machines.{or_true}
pub use Rattle.shared_words.specs.Commits.{memory_at, StartsWith, Stores}
pub use Rattle.shared_words.specs.InGlobal.{Words}
pub use Rattle.shared_words.specs.Passes.{view_of}
pub use Rattle.shared_words.specs.Views.{times}
pub use Rattle.shared_words.specs.declared.view.View.{View}
pub use Rattle.transactions.specs.Lent.{IsKept, IsLeft, Lent, mine_of}
pub use Rattle.transactions.specs.Plain.{begun_at, Calls, calls_of, Deed, IsPlain, IsPlainRun, Makings, replies_of, TakesBack}
pub use Rattle.transactions.specs.Runs.{KeepsBody, mine_left}
pub use Rattle.transactions.specs.declared.failed.Failed.{Failed}
pub use Rattle.tx_map.specs.Finds.{HasFound}
pub use Rattle.tx_map.specs.Pairs.{HasAllPairs, HasOnlyPairs, HasPair, IsPair}
pub use Rattle.tx_map.specs.Plainly.{Does, Goes}
pub use Rattle.tx_map.specs.Puts.{added_of, HasGot, HasPut, is_put, IsPutIn, IsTold}
pub use Rattle.tx_map.specs.Slots.{HasNo, Holds, IsMap, IsPut, Passes, Reaches, slot_of, Slots}
pub use Rattle.tx_map.specs.Tables.{HasMap, IsEmpty, pair_of, SameBeside, slots_in}
pub use Rattle.tx_map.specs.Told.{AllTell, bytes_in, HasLed, told_in_all}
pub use Rattle.tx_map.specs.Written.{added_in, EachPuts, HasWritten, HasWrittenIn, HasWrittenSome, positions, PutsPair}
pub use Rattle.tx_map.specs.declared.table.Put.{Put}
pub use Rattle.tx_map.specs.declared.table.Put.TheVariants.{Added, Again, Full}
pub use Rattle.std.proofs.lemmas.Bool.{cases_lt, cases_order, eq-eqb, eqb-true}
pub use Rattle.std.proofs.lemmas.List.Sums.{sum_by-append, sum_by-cons, sum_by_more}
pub use Rattle.std.proofs.lemmas.Nat.{div-add-mod', from_le_bytes-to_le_bytes_8, mod-mul-add, mod_below}
pub use Rattle.std.proofs.lemmas.Result.{IfOk-weaker}
pub use Rattle.std.specs.Borrow.{MutBor}
pub use Rattle.std.specs.Int.{from_le_bytes, to_le_bytes, w64}

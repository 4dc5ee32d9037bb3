-- The names that more than one proof cites, passed on from one place. Declares nothing.
pub use Rattle.bank.specs.Tellers.{ended}
pub use Rattle.bank.specs.Transfers.{CanMove, deeds_of_payment, deeds_of_transfer, EndsNoBlock, HasMoved, HasPaidIn, IsMade, IsPaidIn}
pub use Rattle.bank.specs.declared.teller.TheConstants.{TRANSFERS}
pub use Rattle.bank.specs.declared.transfer.TheConstants.{RECEIPT}
pub use Rattle.bank.specs.declared.transfer.Transfer.{Transfer}
pub use Rattle.bank.specs.declared.transfer.Unmade.{Unmade}
pub use Rattle.call_rules.specs.Standing.{Standing, start_of}
pub use Rattle.itm_model.specs.Machine.{after, bytes_reply, closed, effect, refusal, with_action, written}
pub use Rattle.itm_runtime.specs.Stops.{answer_to_read, bytes_of_number, number}
pub use Rattle.itm_runtime.specs.declared.stop.Stop.{Stop}
pub use Rattle.itm_types.specs.declared.access.ReadHint.TheVariants.{R}
pub use Rattle.itm_types.specs.declared.access.Width.TheVariants.{U8}
pub use Rattle.itm_types.specs.declared.access.WriteHint.TheVariants.{W}
pub use Rattle.itm_types.specs.declared.call.Call.{Call}
pub use Rattle.itm_types.specs.declared.call.Call.TheVariants.{Begin, Commit, CommitAction, Read, Write}
pub use Rattle.itm_types.specs.declared.call.Reply.{Reply as Replied}
pub use Rattle.itm_types.specs.declared.call.Reply.TheVariants.{Code, Done}
pub use Rattle.shared_words.specs.InGlobal.{Words}
pub use Rattle.transactions.specs.Lent.{Lent}
pub use Rattle.transactions.specs.Plain.{begun_at, block_of, Calls, IsPlain, IsPlainBlock, IsPlainIn, IsPlainRun, Makings}
pub use Rattle.transactions.specs.Runs.{KeepsBody, usual}
pub use Rattle.transactions.specs.declared.stopped.Stopped.{Stopped}
pub use Rattle.std.specs.Borrow.{MutBor}
pub use Rattle.std.specs.Fn.{Called, CalledAtMut, Mut}
pub use Rattle.std.specs.Option.{SomeIff}

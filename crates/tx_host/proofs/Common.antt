-- The names that more than one proof cites, passed on from one place. Declares nothing.
pub use Rattle.itm_types.specs.declared.limits.Limits.{Limits}
pub use Rattle.report_rules.proofs.Histories.ToldLimits.{limited_listing, told_by_three}
pub use Rattle.report_rules.proofs.Numbers.{numbered_push}
pub use Rattle.report_rules.proofs.Passes.JoinedWorkers.{gathers, held_more, joins_more}
pub use Rattle.report_rules.specs.Joins.{attempts_in, ends_in, Joins}
pub use Rattle.report_rules.specs.Rows.{HeldAmong}
pub use Rattle.script_program.specs.Listing.{Listing, opening_of, threads_of}
pub use Rattle.shared_words.specs.Passes.{cells_of, Owns, view_of}
pub use Rattle.shared_words.specs.declared.view.View.{View}
pub use Rattle.tx_host.specs.Starts.{AllReady, IsFor, IsReady, IsUnused, Promised}
pub use Rattle.tx_host.specs.declared.start.Ready.{Ready}
pub use Rattle.std.specs.Vec.Iter.{into_iter_items, into_iter_len}

-- What joining all workers leaves.
use Rattle.std.specs.Prelude.{◌≡◌, ℕ, true, false, vec_len}
use Rattle.shared_words.specs.declared.view.View.{View}
use Rattle.shared_words.specs.InGlobal.{Words}
use Rattle.shared_words.specs.Passes.{Owns, view_of}
use Rattle.script_program.specs.Listing.{Listing}
use Rattle.worker_rules.specs.Gates.{Gating}
use Rattle.report_rules.specs.Joins.{Joins}
use Rattle.report_rules.specs.Rows.{HeldAmong}
use Rattle.tx_host.specs.declared.join.Joined.{Joined}

-- n workers are joined to a pass with the view `start`, which has the words still and does not hold the clock: one of them holds it, or all passes are back
pub record AreJoined (words : Words) (start : View) (p : Listing) (gate : Gating) (n : ℕ) (joined : Joined) : Type 0 where
  pub own : Owns words joined.pass
  pub idle : (view_of joined.pass).holds ≡ false
  pub len : vec_len joined.all ≡ n
  pub held : joined.held ≡ true → HeldAmong words p start.base gate n
  pub joins : joined.held ≡ false → Joins words start p gate n (view_of joined.pass) joined.all.items

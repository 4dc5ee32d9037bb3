-- What each thread begins with.
use Rattle.std.specs.Prelude.{◌≡◌, ℕ, ◌+◌, false, List, []}
use Rattle.std.specs.List.{AllByRecursion}
use Rattle.itm_types.specs.declared.limits.TheConstants.{MAX_COMMITS, USUAL_DEPTH}
use Rattle.norec_core.specs.Core.{Core}
use Rattle.shared_words.specs.declared.pass.Pass.{Pass}
use Rattle.shared_words.specs.declared.view.View.{View}
use Rattle.shared_words.specs.InGlobal.{Words}
use Rattle.shared_words.specs.Passes.{Owns, view_of}
use Rattle.transactions.specs.declared.client.Client.{Client}
use Rattle.tx_threads.specs.declared.seats.Seat.{Seat}

-- a client may be made of the pass, which has no commit of its own and has not looked at the clock
pub record IsNew (words : Words) (pass : Pass) : Type 0 where
  pub own : Owns words pass
  pub idle : (view_of pass).holds ≡ false
  pub mine : (view_of pass).mine ≡ []
  pub looks : (view_of pass).looks ≡ 0

-- a call starts eight rounds of validation at most, blocks may be open as deep as is usual, none goes back alone, and as many may commit as ever can
pub record HasUsualLimits (engine : Core) : Type 0 where
  pub patience : engine.patience ≡ 8
  pub depth : engine.depth ≡ USUAL_DEPTH
  pub restarts : engine.restarts ≡ 0
  pub commits : engine.max_commits ≡ MAX_COMMITS

-- a client over these words, whose commits begin from this memory, which tries each body so often, within the usual limits, with no arena, and that has committed nothing and not looked at the clock
pub record IsNewClient (words : Words) (base : List ℕ) (tries : ℕ) (client : Client) : Type 0 where
  pub here : client.transaction.words ≡ words
  pub base_is : (view_of client.transaction.thread.pass).base ≡ base
  pub tries_are : client.tries ≡ tries
  pub limits : HasUsualLimits client.transaction.thread.engine
  pub new : (view_of client.transaction.thread.pass).mine ≡ []
  pub looks : (view_of client.transaction.thread.pass).looks ≡ 0
  pub arena : client.transaction.thread.engine.arena ≡ []

abbrev pub AllNew : {T : Type 0} → Words → List ℕ → ℕ → List (Seat T) → Type 0
AllNew words base tries seats = AllByRecursion (λ seat. IsNewClient words base tries seat.client) seats

-- of the one view the other has, but for so many shares that it has given away
pub record HasGivenShares (count : ℕ) (old new : View) : Type 0 where
  pub base : new.base ≡ old.base
  pub mine : new.mine ≡ old.mine
  pub holds : new.holds ≡ old.holds
  pub share : new.share + count ≡ old.share

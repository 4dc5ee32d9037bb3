-- The engine's fields as what its callers see, once a transaction is over.
use Rattle.std.proofs.Common.{◌≡◌, ℕ, false, List, [], None}
use Rattle.user_actions.specs.Actions.{Actions}
use Rattle.norec_core.specs.Phases as at
use Rattle.norec_core.specs.Core.{ended}
use Rattle.norec_data.{specs.declared.data.Data.Data, specs.Turns.IsEnded, specs.View.core}

pub core_ended : (old new : Data) (arena : List ℕ) (actions : Actions) → IsEnded old arena actions new → core new at.Idle ≡ record (ended (core old at.Idle)) { tries = 0; arena = arena; actions = actions }
core_ended old new arena actions e = λ i. record {
  words = e.words i;
  patience = (e.limits i).patience;
  max_commits = (e.limits i).max_commits;
  restarts = (e.limits i).restarts;
  restarted = e.restarted i;
  depth = (e.frames i).depth;
  arena = e.arena i;
  snapshot = e.snapshot i;
  clock = e.clock i;
  fresh = [];
  log = e.log i;
  writes = (e.frames i).writes.rows;
  blocks = (e.frames i).blocks;
  actions = (e.frames i).actions;
  irrevocable = false;
  room = (e.frames i).room;
  holds = false;
  done = 0;
  freed = false;
  got = None;
  gathered = [];
  doing = None;
  again = false;
  waits = None;
  spent = e.spent i;
  stage = at.Idle;
  tries = 0;
  entry = e.entry i;
}

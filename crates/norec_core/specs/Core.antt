-- What an engine is to its callers.
use Rattle.std.specs.Prelude.{ℕ, ◌+◌, ◌==◌, ◌&&◌, ◌||◌, not, nat_lt, if◌then◌else◌, zero, suc, Bool, false, true, List, [], ◌∷◌, ◌++◌, Option, None, Some, unwrap_or, length, take}
use Rattle.itm_types.specs.declared.call.Props.{Props}
use Rattle.itm_types.specs.declared.call.Call.TheVariants as calls
use Rattle.itm_types.specs.declared.row.LogRow.{LogRow}
use Rattle.write_set.specs.declared.row.Row.{Row}
use Rattle.itm_types.specs.declared.call.Call.{Call}
use Rattle.user_actions.specs.Actions.{Actions, no_actions, committed}
use Rattle.nest_frames.specs.Nest.{Frame, arena_back, actions_back, actions_cancelled, log_of, reads_of, renewed as blocks_renewed, rows_of, stays_revocable}
use Rattle.undo_log.specs.Rollback.{put_back}
use Rattle.itm_types.specs.declared.step.Step.{Step}
use Rattle.itm_types.specs.declared.step.Step.TheVariants.{Load, Store, Cas}
use Rattle.norec_core.specs.Phases.{Phase}
use Rattle.norec_core.specs.Phases as at
use Rattle.norec_core.specs.OwnAccesses.{got_in, gathered_in, saved_in}

pub record Core : Type 0 where
  pub words : ℕ  -- of the shared memory
  pub patience : ℕ
  pub max_commits : ℕ
  pub restarts : ℕ  -- how often inner blocks may go back to their begins, in one transaction
  pub depth : ℕ  -- how many blocks may be open at once
  pub arena : List ℕ
  pub snapshot : ℕ
  pub clock : ℕ  -- the last clock value handed in
  pub fresh : List LogRow  -- the words loaded since then
  pub log : List LogRow  -- the value log
  pub writes : List Row  -- the write set
  pub blocks : List Frame  -- the open blocks, innermost first: what each goes back to
  pub actions : Actions  -- those that are registered, and those that have come to run
  pub irrevocable : Bool  -- the transaction is: it holds the clock from call to call, and what it writes is stored at once
  pub room : ℕ  -- how many more commit actions are registered with no memory
  pub holds : Bool  -- it holds the clock
  pub done : ℕ  -- how many rows of the write set were stored since it took the clock
  pub freed : Bool  -- the last step freed the clock
  pub got : Option ℕ  -- what the last step, a load by the holder, found
  pub gathered : List ℕ  -- of an access in an irrevocable transaction: what it has read so far, or what it writes
  pub doing : Option Call  -- the call that has no answer yet
  pub restarted : ℕ  -- how often inner blocks have, in this transaction
  pub again : Bool  -- that call begins a block that was begun before
  pub waits : Option Step  -- the step that it asked for
  pub spent : ℕ  -- how many steps the present or last call has asked for
  pub stage : Phase  -- where the call in progress stands
  pub tries : ℕ  -- validation rounds that the call in progress has started, or clock loads of a begin
  pub entry : ℕ  -- how many rows were logged as the call came

abbrev pub opening : ℕ → List ℕ → ℕ → ℕ → ℕ → ℕ → Core
opening words arena patience max_commits depth restarts = record {
  words = words;
  patience = patience;
  max_commits = max_commits;
  restarts = restarts;
  depth = depth;
  arena = arena;
  snapshot = 0;
  clock = 0;
  fresh = [];
  log = [];
  writes = [];
  blocks = [];
  actions = no_actions;
  irrevocable = false;
  room = 0;
  holds = false;
  done = 0;
  freed = false;
  got = None;
  gathered = [];
  doing = None;
  restarted = 0;
  again = false;
  waits = None;
  spent = 0;
  stage = at.Idle;
  tries = 0;
  entry = 0;
}

-- more than one block is open
abbrev pub is_within : List Frame → Bool
is_within [] = false
is_within (b ∷ []) = false
is_within (b ∷ p ∷ bs) = true

-- some block is open
abbrev pub is_inside : List Frame → Bool
is_inside [] = false
is_inside (b ∷ bs) = true

-- one block is open
abbrev pub is_outermost : List Frame → Bool
is_outermost [] = false
is_outermost (b ∷ []) = true
is_outermost (b ∷ p ∷ bs) = false

abbrev pub in_transaction : Core → Bool
in_transaction c = is_inside c.blocks

-- a begin of such a block is not refused for it
abbrev pub may_go : List Frame → Props → Bool
may_go blocks props = not (props.goes_irrevocable && (props.no_irrevocable || stays_revocable blocks))

-- the call makes the transaction irrevocable, or begins one that is: with this room
abbrev pub irrevocable_room : Core → Call → Option ℕ
irrevocable_room c (calls.Begin props room) = if props.goes_irrevocable && may_go c.blocks props && nat_lt (length c.blocks) c.depth && not c.irrevocable then Some room else None
irrevocable_room c (calls.Mode room) = if in_transaction c && not (stays_revocable c.blocks) && not c.irrevocable then Some room else None
irrevocable_room c _ = None

-- the call begins an outermost block
abbrev pub begins_anew : Core → Call → Bool
begins_anew c (calls.Begin props room) = not (in_transaction c) && may_go c.blocks props
begins_anew c _ = false

-- the bytes that a call brings
abbrev pub bytes_to_write : Call → List ℕ
bytes_to_write (calls.Write hint at value) = value.bytes.items
bytes_to_write _ = []

-- the engine as a call comes; one that makes the transaction irrevocable has its room reserved
abbrev pub came : Core → Call → Bool → Core
came c call again = record c {
  doing = Some call;
  again = again && not (in_transaction c);
  stage = at.Idle;
  tries = 0;
  fresh = [];
  done = 0;
  freed = false;
  got = None;
  gathered = if c.irrevocable then bytes_to_write call else [];
  room = unwrap_or (irrevocable_room c call) c.room;
  restarted = if begins_anew c call then 0 else c.restarted;
  spent = 0;
  entry = length c.log;
}

-- a word was loaded, by the holder of the clock or by another
abbrev pub word_loaded : Core → Bool → ℕ → ℕ → Core
word_loaded c true word seen = (let bytes = gathered_in c.stage c.gathered seen in record c { waits = None; stage = at.Idle; tries = 0; got = got_in c.stage seen; gathered = bytes; arena = if c.irrevocable then saved_in c.stage c.arena bytes else c.arena })
word_loaded c false word seen = record c { waits = None; stage = at.Idle; tries = 0; fresh = c.fresh ++ record { word = word; value = seen } ∷ [] }

-- the value that a load found
abbrev pub loaded : Core → ℕ → ℕ → Core
loaded c zero seen = record c { waits = None; stage = at.Idle; tries = 0; clock = seen; fresh = [] }
loaded c (suc word) seen = word_loaded c c.holds word seen

-- a store was done
abbrev pub stored : Core → ℕ → ℕ → Core
stored c zero value = record c { waits = None; stage = at.Idle; tries = 0; clock = value; fresh = []; holds = false; freed = true }
stored c (suc word) value = record c { waits = None; stage = at.Idle; tries = 0; got = None; done = if c.irrevocable then c.done else c.done + 1 }

-- the value that an exchange found: the clock is taken where that is the expected one
abbrev pub exchanged : Core → ℕ → ℕ → Core
exchanged c from seen = record c { waits = None; stage = at.Idle; tries = 0; clock = seen; fresh = []; holds = seen == from; done = 0; got = None }

-- the engine with the step's value taken in, by the kinds of step
abbrev pub handed_to : Core → Option Step → ℕ → Core
handed_to c None seen = c
handed_to c (Some (Load cell)) seen = loaded c cell seen
handed_to c (Some (Store cell value)) seen = stored c cell value
handed_to c (Some (Cas cell from to)) seen = exchanged c from seen

abbrev pub handed : Core → ℕ → Core
handed c seen = handed_to c c.waits seen

-- the engine outside, with nothing kept
abbrev pub ended : Core → Core
ended c = record c { waits = None; doing = None; again = false; freed = false; fresh = []; done = 0; got = None; gathered = []; log = []; writes = []; blocks = []; irrevocable = false; holds = false }

-- the same, with the transaction committed: its commit actions have come to run
abbrev pub finished : Core → Core
finished c = record (ended c) { actions = committed c.actions }

-- the same, with every open block rolled back: what they logged of the arena stands there again, and their undo actions have come to run
abbrev pub rolled_back : Core → Core
rolled_back c = record (ended c) { arena = arena_back c.blocks c.arena; actions = actions_back c.blocks c.actions }

-- the engine with its innermost block gone back to just after its begin, which reads at this clock from then on: the log is cut to what had been read by then, and what the call in progress was to do is dropped
abbrev pub renewed : Core → ℕ → Core
renewed c clock = record c {
  waits = None;
  doing = None;
  again = false;
  fresh = [];
  done = 0;
  gathered = [];
  snapshot = clock;
  log = take (reads_of c.blocks) c.log;
  writes = rows_of c.blocks;
  blocks = blocks_renewed c.blocks;
  arena = put_back (log_of c.blocks) c.arena;
  actions = actions_cancelled c.blocks c.actions;
  restarted = c.restarted + 1;
}

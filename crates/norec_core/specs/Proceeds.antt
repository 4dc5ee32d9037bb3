-- What an engine may do next. `mid` is the engine with a call that came, or with the value of the step that it waited for.
use Rattle.std.specs.Prelude.{◌≡◌, ◌≢◌, ◌⊎◌, ℕ, zero, suc, ◌+◌, ◌*◌, ◌/◌, ◌%◌, ◌<◌, ◌≤◌, Bool, true, false, if◌then◌else◌, List, [], ◌∷◌, ◌++◌, map, Option, None, Some, IsSome, slice_get, slice_set, take, replicate, length}
use Rattle.itm_types.specs.declared.limits.TheConstants.{MAX_COMMITS}
use Rattle.itm_types.specs.declared.row.LogRow.{LogRow}
use Rattle.itm_types.specs.declared.call.Call.{Call}
use Rattle.nest_frames.specs.Nest.{Frame, reads_of, rows_of, made_irrevocable}
use Rattle.itm_types.specs.Calls.{is_abort}
use Rattle.itm_types.specs.declared.call.Call.TheVariants.{Begin, Commit, Mode, Read, Write, Log, LogBytes, Copy, Fill, CommitAction, UndoAction}
use Rattle.word_pieces.specs.Chunks.{chunks_of}
use Rattle.word_pieces.specs.declared.chunk.Direction.TheVariants.{Up}
use Rattle.itm_types.specs.declared.call.Reply.{Reply as Replied}
use Rattle.itm_types.specs.declared.step.Step.{Step}
use Rattle.itm_types.specs.declared.step.Step.TheVariants.{Load, Store, Cas}
use Rattle.itm_types.specs.Access.{size_of}
use Rattle.word_pieces.specs.Pieces.{pieces_of, count_of}
use Rattle.itm_types.specs.Memory.{bytes_of, IsMemory, Agrees}
use Rattle.itm_model.specs.Machine.{after, bytes_reply, refusal, reply, reply_unless, undone}
use Rattle.norec_core.specs.declared.answer.Answer.{Answer as Answered}
use Rattle.norec_core.specs.declared.answer.Answer.TheVariants.{Reply, Committed, Conflict, Restarted, Busy, Full}
use Rattle.norec_core.specs.declared.answer.Next.{Next}
use Rattle.norec_core.specs.declared.answer.Next.TheVariants.{Step as Asks, Answer as Answers}
use Rattle.write_set.specs.Rows.{overlay}
use Rattle.norec_core.specs.Rows.{AreRoomy, write_at, IsLog}
use Rattle.norec_core.specs.Copies.{copy_refusal, source_words, words_in, words_read, words_written}
use Rattle.norec_core.specs.OwnAccesses.{gathered_at}
use Rattle.norec_core.specs.Core.{Core, irrevocable_room, in_transaction, ended, finished, rolled_back}
use Rattle.norec_core.specs.Stands.{stands_for}
use Rattle.norec_core.specs.Phases.{Idle}
use Rattle.norec_core.specs.Order.{load_stage, may_restart, value_reading}
use Rattle.norec_core.specs.Restarts.{Restarts}
use Rattle.norec_core.specs.Effects.{actions_after, arena_after, arena_held, blocks_after, recoded, room_left, writes_after}

-- ## Lawful steps

-- the words that the holder's stores have made of this memory
abbrev pub backed : Core → List ℕ → List ℕ
backed c m = overlay m (take c.done c.writes)

-- what the holder loaded is the word of this memory, if it has loaded one
abbrev pub Got : Option ℕ → Option ℕ → Type 0
Got None word = Unit {0}
Got (Some seen) word = word ≡ Some seen

-- a store by the holder is of the next row, and brings the memory on by that row
pub record StoresNext (c : Core) (word value : ℕ) : Type 0 where
  pub some : c.done < length c.writes  -- a row is left
  pub word_is : word ≡ (write_at c.writes c.done).word
  pub value_is : (m : List ℕ) → IsMemory c.words m → Got c.got (slice_get (backed c m) word) → overlay m (take (c.done + 1) c.writes) ≡ slice_set (backed c m) word value

-- the holder stores a word, or frees the clock once each row is stored; what an irrevocable transaction stores, it says itself (`Held.antt`)
abbrev pub StoresOrFrees : Core → ℕ → ℕ → Type 0
StoresOrFrees c zero value = (value ≡ c.clock + 2) × (c.done ≡ length c.writes)
StoresOrFrees c (suc word) value = c.irrevocable ≡ false → StoresNext c word value

-- the clock is loaded by one that does not hold it; a word by an open transaction, and in a write-back the one that is stored next
abbrev pub LoadsOwn : Core → ℕ → Type 0
LoadsOwn c zero = c.holds ≡ false
LoadsOwn c (suc word) = (in_transaction c ≡ true) × (c.holds ≡ true → c.irrevocable ≡ false → (c.done < length c.writes) × (word ≡ (write_at c.writes c.done).word))

-- the clock is taken by an open transaction, or by a begin that goes irrevocable
abbrev pub TakesFor : Core → Option Call → Type 0
TakesFor c (Some (Begin props room)) = (in_transaction c ≡ false → props.goes_irrevocable ≡ true)
TakesFor c call = in_transaction c ≡ true

-- the step of an engine that asks for it is one of the algorithm's
abbrev pub IsLawful : Core → Step → Type 0
IsLawful c (Load cell) = (cell ≤ c.words) × LoadsOwn c cell
IsLawful c (Store cell value) = (cell ≤ c.words) × (c.holds ≡ true) × StoresOrFrees c cell value
IsLawful c (Cas cell from to) =
    (cell ≡ 0) × (c.holds ≡ false) × TakesFor c c.doing × (from ≡ c.snapshot) × (from % 2 ≡ 0) × (from / 2 < c.max_commits) × (to ≡ from + 1)

-- ## What comes of an event

-- a step is asked for: all else stays, but the log and the snapshot (`Joins`), and what is gathered
pub record AsksFor (mid : Core) (step : Step) (new : Core) : Type 0 where
  pub lawful : IsLawful new step
  pub unfreed : mid.freed ≡ false
  pub stays : new ≡ record mid { waits = Some step; spent = mid.spent + 1; stage = new.stage; tries = new.tries; log = new.log; snapshot = new.snapshot; gathered = gathered_at new.stage mid.arena mid.gathered }

-- at a reply the engine is the plain machine's, over every memory that agrees with the log, and so is the reply
pub record Replies (mid : Core) (call : Call) (r : Replied) (new : Core) : Type 0 where
  pub meets : (m : List ℕ) → IsMemory mid.words m → Agrees m new.log → stands_for new m ≡ after mid.depth (stands_for mid m) call
  pub reply_is : (m : List ℕ) → IsMemory mid.words m → Agrees m new.log → r ≡ recoded call mid.again (reply mid.depth (stands_for mid m) call)
  pub stays : new ≡ record mid {
    stage = new.stage;
    tries = new.tries;
    waits = None;
    doing = None;
    again = false;
    fresh = [];
    done = 0;
    log = new.log;
    snapshot = new.snapshot;
    writes = new.writes;
    blocks = new.blocks;
    actions = new.actions;
    arena = new.arena;
    room = room_left mid call r;
    gathered = [];
  }
  pub writes : (m : List ℕ) → IsMemory mid.words m → Agrees m new.log → new.writes ≡ writes_after mid m call r
  pub arena : (m : List ℕ) → IsMemory mid.words m → Agrees m new.log → new.arena ≡ arena_after mid m call r
  pub free : mid.holds ≡ false
  pub revocable : mid.irrevocable ≡ false
  pub unfreed : mid.freed ≡ false
  pub blocks : new.blocks ≡ blocks_after mid call r
  pub actions : new.actions ≡ actions_after mid call r
  pub still : is_abort call ≡ false → in_transaction mid ≡ true → in_transaction new ≡ true  -- an abort alone ends a transaction by its reply
  pub settled : in_transaction new ≡ true → (new.clock ≡ new.snapshot) × (new.snapshot % 2 ≡ 0)

-- the transaction has become irrevocable: over every memory that agrees with the log, the stores leave the plain machine's memory, and all else is the plain machine's
pub record Enters (mid : Core) (call : Call) (r : Replied) (new : Core) : Type 0 where
  pub held : mid.holds ≡ true
  pub revocable : mid.irrevocable ≡ false
  pub goes : IsSome (irrevocable_room mid call)
  pub meets : (m : List ℕ) → IsMemory mid.words m → Agrees m mid.log → stands_for new (backed mid m) ≡ after mid.depth (stands_for mid m) call
  pub reply_is : (m : List ℕ) → r ≡ recoded call mid.again (reply mid.depth (stands_for mid m) call)
  pub stored : mid.done ≡ length mid.writes
  pub unfreed : mid.freed ≡ false
  pub taken : (mid.clock ≡ mid.snapshot) × (mid.snapshot % 2 ≡ 0)
  pub stays : new ≡ record mid {
    stage = new.stage;
    tries = new.tries;
    waits = None;
    doing = None;
    again = false;
    fresh = [];
    done = 0;
    got = None;
    gathered = [];
    log = [];
    writes = [];
    blocks = map made_irrevocable (blocks_after mid call r);
    actions = record (actions_after mid call r) { undos = [] };
    irrevocable = true;
  }

-- what is replied in an irrevocable transaction: a read tells what it has gathered, and the memory decides no other reply
abbrev pub reply_held : Core → Call → Replied
reply_held c (Read hint width at) = reply_unless (refusal c.depth (stands_for c (replicate c.words 0)) (Read hint width at)) (bytes_reply c.gathered)
reply_held c call = reply c.depth (stands_for c (replicate c.words 0)) call

-- a reply in an irrevocable transaction: that it is the plain machine's, with what it makes of the memory, is said in `Held.antt`
pub record RepliesHeld (mid : Core) (call : Call) (r : Replied) (new : Core) : Type 0 where
  pub held : mid.holds ≡ true
  pub irrevocable : mid.irrevocable ≡ true
  pub reply_is : r ≡ reply_held mid call
  pub unfreed : mid.freed ≡ false
  pub stays : new ≡ record mid {
    stage = new.stage;
    tries = new.tries;
    waits = None;
    doing = None;
    again = false;
    fresh = [];
    done = 0;
    got = None;
    gathered = [];
    blocks = blocks_after mid call r;
    actions = actions_after mid call r;
    arena = arena_held mid call r;
    room = room_left mid call r;
  }
  pub still : in_transaction mid ≡ true → in_transaction new ≡ true

-- the call is a commit: over every memory that agrees with the log, the stores leave the plain machine's memory
pub record Commits (mid : Core) (at : ℕ) (wrote : Bool) (new : Core) : Type 0 where
  pub doing : mid.doing ≡ Some Commit
  pub is_open : in_transaction mid ≡ true
  pub outermost : length mid.blocks ≡ 1
  pub at_is : at ≡ mid.snapshot / 2
  pub wrote_is : (m : List ℕ) → IsMemory mid.words m → Agrees m mid.log → wrote ≡ (after mid.depth (stands_for mid m) Commit).wrote
  pub memory_is : (m : List ℕ) → IsMemory mid.words m → Agrees m mid.log → bytes_of (backed mid m) ≡ (after mid.depth (stands_for mid m) Commit).memory
  pub arena_is : (m : List ℕ) → new.arena ≡ (after mid.depth (stands_for mid m) Commit).arena
  pub actions_is : (m : List ℕ) → new.actions ≡ (after mid.depth (stands_for mid m) Commit).actions
  pub free : mid.holds ≡ false
  pub freed : mid.freed ≡ wrote
  pub stays : new ≡ record (finished mid) { stage = new.stage; tries = new.tries }

-- the engine stands for the state with every open block rolled back
abbrev pub IsUndone : Core → Core → Type 0
IsUndone mid new = (m : List ℕ) → IsMemory mid.words m → stands_for new m ≡ undone (stands_for mid m)

abbrev pub IsBegin : Option Call → Type 0
IsBegin (Some (Begin props room)) = Unit {0}
IsBegin _ = ⊥

-- the word that differs was the last one loaded, and the block that read it does not go back to its begin alone
abbrev pub Differs : Core → Option ℕ → Type 0
Differs c None = c.fresh ≡ []
Differs c (Some word) =
    (before : List LogRow) × (found : ℕ) × (logged : LogRow) × (place : ℕ)
    × (c.fresh ≡ before ++ record { word = word; value = found } ∷ []) × (slice_get c.log place ≡ Some logged) × (logged.word ≡ word) × (logged.value ≢ found)
    × (may_restart c place ≡ false)

-- a begin that goes irrevocable found another clock as it took it, as often as it may
pub record IsLost (mid : Core) (clock : ℕ) (word : Option ℕ) (new : Core) : Type 0 where
  pub begins : IsBegin mid.doing
  pub clock_is : clock ≡ mid.clock
  pub later : mid.snapshot < clock
  pub word_is : word ≡ None
  pub free : mid.holds ≡ false
  pub unfreed : mid.freed ≡ false
  pub stays : new ≡ record (ended mid) { stage = new.stage; tries = new.tries }

-- the clock that was seen last is later than the snapshot, and the transaction is undone
pub record Conflicts (mid : Core) (clock : ℕ) (word : Option ℕ) (new : Core) : Type 0 where
  pub is_open : in_transaction mid ≡ true
  pub clock_is : clock ≡ mid.clock
  pub later : mid.snapshot < clock
  pub word_is : Differs mid word
  pub free : mid.holds ≡ false
  pub unfreed : mid.freed ≡ false
  pub stays : new ≡ record (rolled_back mid) { stage = new.stage; tries = new.tries }
  pub undone : IsUndone mid new

-- a begin found the clock odd as often as it may
pub record IsBusy (mid : Core) (clock : ℕ) (new : Core) : Type 0 where
  pub begins : IsBegin mid.doing
  pub closed : in_transaction mid ≡ false
  pub clock_is : clock ≡ mid.clock
  pub odd : clock % 2 ≡ 1
  pub free : mid.holds ≡ false
  pub unfreed : mid.freed ≡ false
  pub stays : new ≡ record (ended mid) { stage = new.stage; tries = new.tries }

-- a commit wants the clock where something is written, and any other call that makes the transaction irrevocable
abbrev pub WantsClock : Core → Option Call → Type 0
WantsClock c None = ⊥
WantsClock c (Some Commit) = (length c.blocks ≡ 1) × (c.writes ≢ [])
WantsClock c (Some call) = IsSome (irrevocable_room c call)

-- the clock is wanted, and as many commits are done as may be; the transaction is undone
pub record IsFull (mid : Core) (at : ℕ) (new : Core) : Type 0 where
  pub wants : WantsClock mid mid.doing
  pub at_is : at ≡ new.snapshot / 2
  pub full : mid.max_commits ≤ at
  pub free : mid.holds ≡ false
  pub unfreed : mid.freed ≡ false
  pub stays : new ≡ record (rolled_back mid) { stage = new.stage; tries = new.tries; snapshot = new.snapshot }
  pub undone : IsUndone mid new

-- with the clock held a transaction is irrevocable, or becomes so
abbrev pub RepliesBy : Bool → Bool → Core → Call → Replied → Core → Type 0
RepliesBy false irrevocable mid call r new = Replies mid call r new
RepliesBy true false mid call r new = Enters mid call r new
RepliesBy true true mid call r new = RepliesHeld mid call r new

abbrev pub RepliesTo : Core → Option Call → Replied → Core → Type 0
RepliesTo mid None r new = ⊥
RepliesTo mid (Some call) r new = RepliesBy mid.holds mid.irrevocable mid call r new

abbrev pub ConflictsIn : Bool → Core → ℕ → Option ℕ → Core → Type 0
ConflictsIn true mid clock word new = Conflicts mid clock word new
ConflictsIn false mid clock word new = IsLost mid clock word new

abbrev pub Ends : Core → Answered → Core → Type 0
Ends mid (Reply r) new = RepliesTo mid mid.doing r new
Ends mid (Committed at wrote) new = Commits mid at wrote new
Ends mid (Conflict clock word) new = ConflictsIn (in_transaction mid) mid clock word new
Ends mid (Restarted clock word) new = Restarts mid clock word new
Ends mid (Busy clock) new = IsBusy mid clock new
Ends mid (Full at) new = IsFull mid at new

abbrev pub Proceeds : Core → Next → Core → Type 0
Proceeds mid (Asks step) new = AsksFor mid step new
Proceeds mid (Answers a) new = Ends mid a new

-- ## The log and the snapshot

-- a clock load gives the even value that was handed in last before it
pub record Settles (old : Core) (seen : ℕ) : Type 0 where
  pub load : old.waits ≡ Some (Load 0)
  pub same : seen ≡ old.clock
  pub even : seen % 2 ≡ 0

-- an irrevocable transaction has no log
pub record GoesOver (old new : Core) : Type 0 where
  pub was : old.irrevocable ≡ false
  pub is : new.irrevocable ≡ true
  pub log : new.log ≡ []

-- the clock is taken at the snapshot
pub record Takes (old : Core) (seen : ℕ) : Type 0 where
  pub cas : old.waits ≡ Some (Cas 0 old.snapshot (old.snapshot + 1))
  pub same : seen ≡ old.snapshot

-- A block goes back to its begin where a row of its own part was found different between two loads of the clock that gave the same value. The rows before that one were as logged, and so are all that the log keeps: they were loaded between the two.
pub record GoesBack (old : Core) (seen : ℕ) (new : Core) : Type 0 where
  pub settles : Settles old seen
  pub log : new.log ≡ take (reads_of old.blocks) old.log
  pub moved : new.snapshot ≡ seen
  pub counted : new.restarted ≡ old.restarted + 1
  pub same : ℕ  -- so many rows were as logged
  pub may : may_restart old same ≡ true
  pub far : reads_of old.blocks ≤ same
  pub logged : LogRow
  pub there : slice_get old.log same ≡ Some logged
  pub found : ℕ
  pub loaded : old.fresh ≡ take same old.log ++ record { word = logged.word; value = found } ∷ []
  pub differs : logged.value ≢ found

-- rows join the log, and the snapshot moves, only there, and never both: the rows that join, or at a move all rows that the log then has, were loaded between the two loads
pub record Joins (old : Core) (seen : ℕ) (new : Core) : Type 0 where
  pub log : in_transaction new ≡ true → (new.log ≡ old.log) ⊎ (Settles old seen × (new.log ≡ old.log ++ old.fresh) × (new.snapshot ≡ seen) × (old.snapshot ≡ seen)) ⊎ GoesOver old new ⊎ GoesBack old seen new
  pub begins : in_transaction old ≡ false → in_transaction new ≡ true → ((old.waits ≡ Some (Load 0)) × (new.snapshot ≡ seen) × (seen % 2 ≡ 0)) ⊎ (Takes old seen × (new.snapshot ≡ seen) × (new.irrevocable ≡ true))
  pub snapshot : in_transaction old ≡ true → (new.snapshot ≡ old.snapshot) ⊎ (Settles old seen × (old.fresh ≡ old.log) × (new.snapshot ≡ seen)) ⊎ GoesBack old seen new

-- a transaction opens at a load of the clock or as it is taken, so not as a call comes; no row joins the log then, and the snapshot stays
pub record StaysOn (old new : Core) : Type 0 where
  pub opens : in_transaction new ≡ true → in_transaction old ≡ true
  pub log : in_transaction new ≡ true → new.log ≡ old.log
  pub snapshot : new.snapshot ≡ old.snapshot

-- what a call may be answered before its first step
abbrev pub IsAtOnce : Next → Type 0
IsAtOnce (Answers (Conflict clock word)) = ⊥
IsAtOnce (Answers (Restarted clock word)) = ⊥
IsAtOnce (Answers (Busy clock)) = ⊥
IsAtOnce _ = Unit {0}

-- memory is refused to a read, a write, a log, a copy, a fill, a registration or a call that makes the transaction irrevocable alone: to no refused one, to no read that takes no step, to no write to words that the innermost block has given rows, and to no log, copy or fill of no bytes
abbrev pub MayStarveOpen : Core → Call → Type 0
MayStarveOpen c (Read hint width at) = (in_transaction c ≡ true) × (at + size_of width ≤ 8 * c.words) × (load_stage c.writes c.log (value_reading hint width at) ≢ Idle)
MayStarveOpen c (Write hint at value) = (in_transaction c ≡ true) × (at + size_of value.width ≤ 8 * c.words) × (AreRoomy c.writes (rows_of c.blocks) (pieces_of at (size_of value.width)) → ⊥)
MayStarveOpen c (Log width at) = (in_transaction c ≡ true) × (at + size_of width ≤ length c.arena)
MayStarveOpen c (LogBytes at size) = (in_transaction c ≡ true) × (at + size ≤ length c.arena) × (0 < size)
MayStarveOpen c (Copy k) = (copy_refusal (in_transaction c) c.words (length c.arena) k ≡ None) × (0 < k.size)
MayStarveOpen c (Fill hint to byte size) = (in_transaction c ≡ true) × (to + size ≤ 8 * c.words) × (0 < size)
MayStarveOpen c (Begin props room) = (irrevocable_room c (Begin props room) ≡ Some room) × (0 < room)
MayStarveOpen c (Mode room) = (irrevocable_room c (Mode room) ≡ Some room) × (0 < room)
MayStarveOpen c (CommitAction action) = (in_transaction c ≡ true) × (c.room ≡ 0)
MayStarveOpen c (UndoAction action) = in_transaction c ≡ true
MayStarveOpen c _ = ⊥

-- in an irrevocable transaction only by a commit action beyond its room
abbrev pub MayStarveHeld : Core → Call → Type 0
MayStarveHeld c (CommitAction action) = c.room ≡ 0
MayStarveHeld c _ = ⊥

abbrev pub MayStarveIn : Bool → Core → Call → Type 0
MayStarveIn true c call = MayStarveHeld c call
MayStarveIn false c call = MayStarveOpen c call

abbrev pub MayStarve : Core → Call → Type 0
MayStarve c call = MayStarveIn c.irrevocable c call

-- ## Values and counts

-- a value that the memory can hand in: the clock never falls
abbrev pub FitsStep : Core → Option Step → ℕ → Type 0
FitsStep c (Some (Load zero)) seen = c.clock ≤ seen
FitsStep c (Some (Cas cell from to)) seen = c.clock ≤ seen
FitsStep c _ seen = Unit {0}

abbrev pub Fits : Core → ℕ → Type 0
Fits c seen = FitsStep c c.waits seen

-- the most steps of a call
abbrev pub most : Core → Option Call → ℕ
most c (Some (Begin props room)) = if in_transaction c then c.patience * (c.entry + 3) + 2 * length c.writes + 2 else 2 * c.patience
most c (Some Commit) = c.patience * (c.entry + 3) + 2 * length c.writes + 2
most c (Some (Mode room)) = c.patience * (c.entry + 3) + 2 * length c.writes + 2
most c (Some (Read hint width at)) = 2 * count_of at (size_of width) + c.patience * (c.entry + count_of at (size_of width) + 4)
most c (Some (Write hint at value)) = 2 * count_of at (size_of value.width)
most c (Some (Copy k)) = if c.irrevocable then words_read k k.pair + 2 * words_written k k.pair else 2 * source_words k + c.patience * (c.entry + source_words k + 4)
most c (Some (Fill hint to byte size)) = 2 * words_in to (chunks_of Up size)
most c _ = 0

-- while it waits, it has asked for no more than the call's most steps
abbrev pub IsWithin : Core → Type 0
IsWithin c = c.waits ≢ None → c.spent ≤ most c c.doing

-- of each open block but the outermost, which began with nothing read, no more had been read at its begin than as the one within it began, or than is
abbrev pub AreRead : ℕ → List Frame → Type 0
AreRead top [] = Unit {0}
AreRead top (b ∷ []) = b.reads ≡ 0
AreRead top (b ∷ p ∷ bs) = (b.reads ≤ top) × AreRead b.reads (p ∷ bs)

-- between calls: outside, nothing is kept; inside, the clock that was handed in last is the snapshot
pub record IsSettled (c : Core) : Type 0 where
  pub closed : in_transaction c ≡ false → (c.log ≡ []) × (c.writes ≡ []) × (c.actions.commits ≡ []) × (c.actions.undos ≡ [])
  pub reached : c.snapshot ≤ c.clock
  pub logged : IsLog c.words c.log
  pub agreed : (m : List ℕ) × IsMemory c.words m × Agrees m c.log  -- so some memory agrees with the log
  pub inside : c.waits ≡ None → in_transaction c ≡ true → (c.clock ≡ c.snapshot) × (c.snapshot % 2 ≡ 0)
  pub unfreed : c.freed ≡ false
  pub even : c.snapshot % 2 ≡ 0
  pub holder : c.holds ≡ true → (in_transaction c ≡ true) × (c.clock ≡ c.snapshot) × (c.snapshot / 2 < c.max_commits)
  pub limit : c.max_commits ≤ MAX_COMMITS
  pub reads : c.irrevocable ≡ false → AreRead (length c.log) c.blocks
  pub few : c.restarted ≤ c.restarts
  pub deep : 0 < c.depth
  pub irrevocable : c.irrevocable ≡ true → (c.holds ≡ true) × (c.writes ≡ []) × (c.log ≡ [])

-- Worked cases, computed: the attempts of one counter, and of two whose first try is lost; a block that is cancelled and the next one; the counts of a schedule; which transactions have a room that is kept; a block within another that goes back; which calls go on.
use Rattle.std.proofs.Common.{◌≡◌, ℕ, suc, ◌-◌, List, [], ◌∷◌, ◌++◌, length, map, refl, ap, ◌∙◌, false, true, replicate, Option, None, Some, Ok, Err, arith, slice_get}
use Rattle.world_rules.proofs.Common.{Abort, Attempt, Begin, Between, ByAbort, Call, CallRecord, Cells, Commit, Core, Done, GoesBack, IsOpaque, IsRunOf, Load, Log, Mode, Outcome, Props, Read, Reply, Rules, Save, Write, after, alone, asks_further, memory_after, opening, passes_of, slice_index_or, takes_clock}
use Rattle.world_rules.specs.Dates.{AreDated, IsDated}
use Rattle.itm_types.specs.declared.call.Reply.TheVariants.{Code, Refused}
use Rattle.nest_frames.specs.Nest.{Frame}
use Rattle.tx_runs.{specs.OpenAttempts.promised, specs.CallRooms.counted, specs.CallRooms.is_held, specs.CallRooms.wanted}
use Rattle.world_rules.proofs.Plan.{Plan, next_call, restarted, at_block}
use Rattle.world_rules.specs.PlayerRooms.{EndsWithin}
use Rattle.norec_core.{specs.declared.call_parts.Purpose.TheVariants.Value, specs.declared.call_parts.Reading.Reading, specs.Phases.Phase}
use Rattle.norec_core.specs.Phases as at
use Rattle.itm_types.specs.declared.step.Step.TheVariants as steps
use Rattle.tx_attempts.specs.declared.attempt.Outcome.TheVariants.{Cancelled, Committed, Conflict, Full, ReadOnly, Unfinished}
use Rattle.itm_types.specs.declared.{access.ReadHint.TheVariants.R, access.Width.TheVariants.U1, access.Width.TheVariants.U2, access.Width.TheVariants.U8, access.WriteHint.TheVariants.W, call.Refusal.TheVariants.Outside, call.Reply.TheVariants.Bytes, datum.Datum.Datum}
use Rattle.tx_player.specs.Replies.{MayReply}
use Rattle.world_rules.specs.declared.fault.WorldFault.TheVariants as faults
use Rattle.world_rules.proofs.Plan as plans

-- ## A player that adds one to the counter at place 0

abbrev pub plain : Props
plain = record { no_abort = false; no_irrevocable = false; goes_irrevocable = false }

-- a byte as a U8
abbrev pub eight : ℕ → List ℕ
eight b = b ∷ 0 ∷ 0 ∷ 0 ∷ 0 ∷ 0 ∷ 0 ∷ 0 ∷ []

abbrev pub word : ℕ → Datum
word b = record { width = U8; bytes = record { items = eight b }; sized = refl }

abbrev pub read : ℕ → CallRecord
read b = record { call = Read R U8 0; reply = Bytes (record { items = eight b }) }

abbrev pub write : ℕ → CallRecord
write b = record { call = Write W 0 (word b); reply = Done }

abbrev pub commit : CallRecord
commit = record { call = Commit; reply = Done }

pub record Counter : Type 0 where
  pub step : ℕ
  pub got : ℕ

-- at the step with this number, where this byte was read
abbrev pub call_at : ℕ → ℕ → Option Call
call_at step got = slice_get (Begin plain 3 ∷ Read R U8 0 ∷ Write W 0 (word (suc got)) ∷ Commit ∷ []) step

abbrev pub answered : Counter → Reply → Counter
answered p (Bytes v) = record { step = suc p.step; got = slice_index_or v.items 0 0 }
answered p r = record { step = suc p.step; got = p.got }

abbrev pub at_step : ℕ → Counter
at_step n = record { step = n; got = 0 }

abbrev pub counter_rules : Rules Counter
counter_rules = record { next_call = λ p. call_at p.step p.got; answered = answered; restarted = λ p. at_step 0; at_block = λ p d. at_step 1; calls_left = λ p. 4 - p.step; depth = λ p. 0 }

abbrev pub fresh : Between Counter
fresh = record { player = at_step 0; arena = []; again = false; tries = 0 }

-- ## One counter

-- the attempt of this thread, at this position, with these calls, which ended so
abbrev pub tried : ℕ → ℕ → ℕ → List ℕ → List CallRecord → Outcome → Attempt
tried thread nth position arena calls outcome = record { thread = thread; nth = nth; began = position; at = position; props = plain; arena = arena; calls = record { list = calls; room = 0 }; restarts = []; ran = []; outcome = outcome }

abbrev pub counter : Attempt
counter = tried 0 1 0 [] (read 0 ∷ write 1 ∷ commit ∷ []) Committed

counter_memory : memory_after 1 (replicate 8 0) (counter ∷ []) 1 ≡ 1 ∷ replicate 7 0
counter_memory = refl

counter_is_opaque : IsOpaque counter_rules 1 (at_step 1) counter 1 (replicate 8 0)
counter_is_opaque = record { no_older = omega arith; no_newer = omega arith; beginning = ([], refl); whole = λ e. refl; ends = (refl, refl); closed = (read 0 ∷ write 1 ∷ [], refl); ran = refl; again = record { stand = tt; revocable = tt }; full = λ f. absurd (cc) }

counter_run : IsRunOf counter_rules 1 1 (memory_after 1 (replicate 8 0) (counter ∷ [])) (Some fresh) (counter ∷ [])
counter_run = ((refl, refl, omega arith, counter_is_opaque), tt)

-- ## The lost update: of two counters the first to begin is the last to commit. Its first try conflicts, and is opaque all the same.

abbrev pub other : Attempt
other = tried 1 1 0 [] (read 0 ∷ write 1 ∷ commit ∷ []) Committed

abbrev pub lost : Attempt
lost = tried 0 1 0 [] (read 0 ∷ write 1 ∷ []) Conflict

abbrev pub retried : Attempt
retried = tried 0 2 1 [] (read 1 ∷ write 2 ∷ commit ∷ []) Committed

abbrev memory : ℕ → List ℕ
memory = memory_after 1 (replicate 8 0) (other ∷ lost ∷ retried ∷ [])

lost_update_memory : memory 2 ≡ 2 ∷ replicate 7 0
lost_update_memory = refl

abbrev commit_pair : List (Call × Reply)
commit_pair = (Commit, Done) ∷ []

lost_is_opaque : IsOpaque counter_rules 1 (at_step 1) lost 2 (memory 0)
lost_is_opaque = record { no_older = omega arith; no_newer = omega arith; beginning = (commit_pair, refl); whole = λ e. absurd (cc); ends = (refl, refl); closed = tt; ran = refl; again = record { stand = tt; revocable = tt }; full = λ f. absurd (cc) }

retried_is_opaque : IsOpaque counter_rules 1 (at_step 1) retried 2 (memory 1)
retried_is_opaque = record { no_older = omega arith; no_newer = omega arith; beginning = ([], refl); whole = λ e. refl; ends = (refl, refl); closed = (read 1 ∷ write 2 ∷ [], refl); ran = refl; again = record { stand = tt; revocable = tt }; full = λ f. absurd (cc) }

lost_update_run : IsRunOf counter_rules 1 2 memory (Some fresh) (lost ∷ retried ∷ [])
lost_update_run = ((refl, refl, omega arith, lost_is_opaque), ((refl, refl, omega arith, retried_is_opaque), tt))

-- the other one ended first. Both first tries began before any commit, and the second one with that commit done, as the lost try ended
lost_update_dated : AreDated 1 [] (other ∷ lost ∷ retried ∷ [])
lost_update_dated = (
  record { later = omega arith; few = omega arith; after = omega arith; by_now = omega arith; at_once = λ e. refl },
  (
    record { later = omega arith; few = omega arith; after = omega arith; by_now = omega arith; at_once = λ e. refl },
    (record { later = omega arith; few = omega arith; after = omega arith; by_now = omega arith; at_once = λ e. refl }, tt),
  ),
)

-- It cannot have begun before that, nor later, with one commit more; and the lost try counts.
not_otherwise : (IsDated 1 (other ∷ lost ∷ []) (record retried { began = 0 }) → ⊥) × (IsDated 1 (other ∷ lost ∷ other ∷ []) (record retried { began = 2 }) → ⊥) × (IsDated 1 (other ∷ lost ∷ []) (record retried { nth = 1 }) → ⊥)
not_otherwise = (λ d. (let l = d.after in absurd (omega arith)), λ d. (let e = d.at_once refl in absurd (omega arith)), λ d. (let l = d.later in absurd (omega arith)))

-- but where a try in between left no attempt
after_a_try : IsDated 2 (other ∷ lost ∷ other ∷ []) (record retried { nth = 3; began = 2 })
after_a_try = record { later = omega arith; few = omega arith; after = omega arith; by_now = omega arith; at_once = λ e. absurd (omega (arith, e)) }

-- a commit ends the block, so the next one begins with its first try
next_block : IsDated 0 (other ∷ []) (record other { began = 1 })
next_block = record { later = omega arith; few = omega arith; after = omega arith; by_now = omega arith; at_once = λ e. refl }

-- ## Full: the counter's commit is refused, and full is told of nothing before it

abbrev pub refused : Attempt
refused = tried 0 1 0 [] (read 0 ∷ write 1 ∷ []) Full

refused_is_opaque : IsOpaque counter_rules 1 (at_step 1) refused 0 (replicate 8 0)
refused_is_opaque = record { no_older = omega arith; no_newer = omega arith; beginning = (commit_pair, refl); whole = λ e. absurd (cc); ends = (refl, refl); closed = tt; ran = refl; again = record { stand = tt; revocable = tt }; full = λ f. record { call = Commit; rest = []; answers_are = refl; revocable = refl; takes = refl } }

-- one that would still write is not full
abbrev early : Attempt
early = tried 0 1 0 [] (read 0 ∷ []) Full

too_early : IsOpaque counter_rules 1 (at_step 1) early 0 (replicate 8 0) → ⊥
too_early o =
    let lacks = o.full refl in
    absurd (let taken : false ≡ true = ap (λ (l : List (Call × Reply)). takes_clock (after 1 (alone 1 (replicate 8 0) early) (slice_index_or l 1 (Commit, Done)).0)) lacks.answers_are ∙ lacks.takes in cc)

-- ## A block that logs a byte of its arena, saves that byte and the next one, writes, and is cancelled with the block in it. The next block begins with the logged byte as it was, and the other one as it was saved.

abbrev pub plan_rules : Rules Plan
plan_rules = record { next_call = next_call; answered = plans.answered; restarted = restarted; at_block = at_block; calls_left = λ p. length p.calls - p.at; depth = λ p. length p.blocks }

abbrev pub begin : Call
begin = Begin plain 3

abbrev pub two : ℕ → ℕ → List ℕ
two a b = a ∷ b ∷ []

abbrev pub save : Call
save = Save 0 (record { width = U2; bytes = record { items = two 1 2 }; sized = refl })

abbrev pub planned : Plan
planned = record { calls = begin ∷ Log U1 0 ∷ begin ∷ save ∷ Write W 0 (word 7) ∷ Abort true ∷ begin ∷ Load U2 0 ∷ Commit ∷ []; at = 0; blocks = [] }

-- once the begin before this place is accepted
abbrev pub planned_to : ℕ → Plan
planned_to at = record { calls = planned.calls; at = at; blocks = (at - 1) ∷ [] }

abbrev pub in_block : List CallRecord
in_block = record { call = Log U1 0; reply = Done } ∷ record { call = begin; reply = Code 5 } ∷ record { call = save; reply = Done } ∷ write 7 ∷ []

abbrev pub cancelled : Attempt
cancelled = tried 0 1 0 (two 0 0) (in_block ++ record { call = Abort true; reply = Code 24 } ∷ []) Cancelled

abbrev pub load : CallRecord
load = record { call = Load U2 0; reply = Bytes (record { items = two 0 2 }) }

abbrev pub next : Attempt
next = tried 0 1 0 (two 0 2) (load ∷ commit ∷ []) ReadOnly

cancelled_is_opaque : IsOpaque plan_rules 2 (planned_to 1) cancelled 0 (replicate 8 0)
cancelled_is_opaque = record { no_older = omega arith; no_newer = omega arith; beginning = ([], refl); whole = λ e. refl; ends = (refl, refl); closed = (in_block, true, refl); ran = refl; again = record { stand = tt; revocable = tt }; full = λ f. absurd (cc) }

next_is_opaque : IsOpaque plan_rules 2 (planned_to 7) next 0 (replicate 8 0)
next_is_opaque = record { no_older = omega arith; no_newer = omega arith; beginning = ([], refl); whole = λ e. refl; ends = (refl, refl); closed = (load ∷ [], refl); ran = refl; again = record { stand = tt; revocable = tt }; full = λ f. absurd (cc) }

abbrev before_it : Between Plan
before_it = record { player = planned; arena = two 0 0; again = false; tries = 0 }

cancelled_run : IsRunOf plan_rules 2 0 (memory_after 2 (replicate 8 0) (cancelled ∷ next ∷ [])) (Some before_it) (cancelled ∷ next ∷ [])
cancelled_run = ((refl, refl, omega arith, cancelled_is_opaque), ((refl, refl, omega arith, next_is_opaque), tt))

-- what ended by a commit was not cancelled
not_cancelled : ByAbort (commit ∷ []) → ⊥
not_cancelled ([], outer, e) = absurd (let calls = ap (map (λ (x : CallRecord). x.call)) e in cc)
not_cancelled (x ∷ [], outer, e) = absurd (cc)
not_cancelled (x ∷ y ∷ rest, outer, e) = absurd (cc)

-- ## A schedule of four entries: an event, an actor that is not there, an event that found no memory, and the same actor again

schedule_counts : passes_of (Ok tt ∷ Err faults.NoSuchActor ∷ Err faults.NoMemory ∷ Err faults.Ended ∷ []) ≡ record { taken = 1; passed = 2; starved = 1 }
schedule_counts = refl

-- ## Which transactions have a room that is kept: one whose `Mode` or begin is in progress, and one that is irrevocable

abbrev pub block : Props → Frame
block props = record { props = props; rows = []; log = []; commits = 0; undos = 0; reads = 0 }

abbrev pub inside : Props → Core
inside props = record (opening 1 [] 1 1 16 0) { blocks = block props ∷ []; actions = record { commits = record { fun = 1; arg = 2 } ∷ []; undos = []; ran = [] } }

abbrev pub going : Props
going = record plain { goes_irrevocable = true }

abbrev pub unwilling : Props
unwilling = record plain { no_irrevocable = true }

-- the engine with this call in progress
abbrev asked : Core → Call → Core
asked e call = record e { doing = Some call }

held_so : (is_held (opening 1 [] 1 1 16 0) ≡ false) × (is_held (asked (opening 1 [] 1 1 16 0) (Begin going 3)) ≡ true) × (is_held (asked (inside plain) (Mode 3)) ≡ true)
    × (is_held (asked (inside unwilling) (Mode 3)) ≡ false) × (is_held (asked (inside plain) Commit) ≡ false) × (is_held (asked (record (inside plain) { irrevocable = true }) Commit) ≡ true)
held_so = (refl, refl, refl, refl, refl, refl)

-- one action is registered within a block, and none counts outside
counted_so : (counted (inside plain) ≡ 1) × (counted (record (inside plain) { blocks = [] }) ≡ 0)
counted_so = (refl, refl)

-- the room that such a call wants, and what the list may promise: nothing before the transaction is irrevocable
wanted_so : (wanted (asked (opening 1 [] 1 1 16 0) (Begin going 3)) ≡ 3) × (wanted (asked (inside plain) (Mode 3)) ≡ 3) × (wanted (asked (inside unwilling) (Mode 3)) ≡ 0)
wanted_so = (refl, refl, refl)

promised_so : (promised (record (inside plain) { room = 3 }) ≡ 0) × (promised (record (inside plain) { irrevocable = true; room = 3 }) ≡ 3)
promised_so = (refl, refl)

-- ## Players that tell their room: one that has a commit to make, within its block, ends within one call and within no fewer

abbrev ending : Plan
ending = record { calls = Commit ∷ []; at = 0; blocks = 0 ∷ [] }

ends_in_one : EndsWithin plan_rules 1 ending × (EndsWithin plan_rules 0 ending → ⊥)
ends_in_one = (λ some call reply next may call' next'. absurd (let both : None ≡ Some call' = next' in cc), λ e. absurd (let one : 1 ≡ 0 = e Commit refl in omega arith))

-- a commit within a block is done, and a begin is not
may_not_reply : (MayReply 1 Commit (Refused Outside) → ⊥) × (MayReply 0 (Begin plain 3) Done → ⊥)
may_not_reply = (λ may. absurd (let same : Refused Outside ≡ Done = may (omega arith) in cc), λ may. may)

-- ## A block within another goes back once another thread has committed, and what it had read is taken out; not where none has, and not an outermost block

abbrev inner : CallRecord
inner = record { call = Begin plain 0; reply = Code 5 }

abbrev before : Attempt
before = tried 0 1 0 [] (inner ∷ read 0 ∷ []) Unfinished

abbrev begun_again : Attempt
begun_again = record (tried 0 1 0 [] (inner ∷ []) Unfinished) { at = 1; restarts = record { kept = 1; arena = []; undone = [] } ∷ [] }

went_back : GoesBack 2 before begun_again
went_back = record { moved = omega arith; same = record { thread = refl; nth = refl; began = refl; props = refl; arena = refl }; again = record { kept = 1; arena = []; undone = [] }; outer = []; innermost = refl; calls = refl; restarts = refl; told = 0; ran = refl }

not_alone : (row : Attempt) → GoesBack 1 before row → ⊥
not_alone row back = absurd (let moved = back.moved in omega arith)

not_outermost : (row : Attempt) → GoesBack 2 (tried 0 1 0 [] (read 0 ∷ []) Unfinished) row → ⊥
not_outermost row back = absurd (let some : [] ≡ back.again.kept ∷ back.outer = back.innermost in cc)

-- ## Which calls go on

abbrev pub at_clock : ℕ → Cells
at_clock clock = record { clock = clock; words = 0 ∷ [] }

-- with this many loads of the clock done, of two
abbrev pub begins : ℕ → Core
begins loads = record (opening 1 [] 2 1 16 0) { stage = at.Begin (record { props = plain; room = 0; again = false }); tries = loads }

-- a begin that finds the clock odd loads it once more, as long as its patience lasts, and is answered where it finds it even
begin_goes_on : (asks_further (at_clock 1) (begins 1) (Some (steps.Load 0)) ≡ true) × (asks_further (at_clock 1) (begins 2) (Some (steps.Load 0)) ≡ false) × (asks_further (at_clock 0) (begins 1) (Some (steps.Load 0)) ≡ false)
begin_goes_on = (refl, refl, refl)

abbrev pub one_word : Reading
one_word = record { purpose = Value R U8; at = 0; size = 8; number = 0 }

-- in a block, at this stage
abbrev pub stands : Phase → Core
stands stage = record (inside plain) { stage = stage }

-- a read of one word has it confirmed once it is loaded, and is answered where the clock has not moved; else it makes a round
read_goes_on : (asks_further (at_clock 0) (stands (at.Load one_word)) (Some (steps.Load 1)) ≡ true) × (asks_further (at_clock 0) (stands (at.Confirm one_word 0)) (Some (steps.Load 0)) ≡ false)
    × (asks_further (at_clock 2) (stands (at.Confirm one_word 0)) (Some (steps.Load 0)) ≡ true)
read_goes_on = (refl, refl, refl)

-- a commit is over once it has freed the clock; and where no step is waited for, none goes on
commit_goes_on : (asks_further (at_clock 1) (stands at.Free) (Some (steps.Store 0 2)) ≡ false) × (asks_further (at_clock 0) (inside plain) None ≡ false)
commit_goes_on = (refl, refl)

-- A call goes to the engine: what its result tells leaves room for what comes of it, and where memory is refused, what was asked for is used up.
use Rattle.std.proofs.Common.{◌≡◌, ◌&&◌, not, nat_lt, ◌+◌, ◌≤◌, Bool, true, false, [], length, None, Some, refl, sym, ap, ◌∙◌, arith, Result, Ok, Err, IfOk, OnErr, Option, if◌then◌else◌, unwrap_or}
use Rattle.event_rules.proofs.Common.{Actor, Answer, Answers, Asks, Attempt, BacksIn, BeganIn, Call, Core, Current, HasPlace, HasRoomFor, HasRow, IsAtOnce, IsPromised, IsSettled, MayRunOn, NestsBy, Next, Proceeds, Ready, StartsEmpty, Step, Within, active_of, asked, asked_from, came, came_restarted, cancels_in, counted, ends_in, in_transaction, irrevocable_room, is_abort, is_begin, may_go_back, not_at_once, open_in, pending_of, promised, row_open, same_Some, stage_at, stage_of, told_in, total, wanted}
use Rattle.norec_core.specs.Core.{is_within}
use Rattle.norec_core.specs.RestartingCalls.{can_restart, arena_ahead}
use Rattle.norec_core.specs.Proceeds.{MayStarve}
use Rattle.norec_core.proofs.Replies.ActionCounts.{registers}
use Rattle.run_rules.proofs.UsedRooms.{lacks_here, starves_here}
use Rattle.norec_world.proofs.Common.{ComesInto, next_in}
use Rattle.tx_runs.specs.OpenAttempts.{LacksPlaces, Open}
use Rattle.run_rules.proofs.HeldRooms.{held_as}
use Rattle.run_rules.proofs.RestartedEngines.{may_inside, restarts_by}
use Rattle.run_rules.proofs.StepCalls.{gave_plainly, starves_shut}
use Rattle.world_rules.specs.LocalWork.{HasUsedUp}
use Rattle.event_rules.proofs.Rooms.ActionRoom.{TakesRoom, gave_acting}

-- ## Blocks that may go back

-- so by one that waits for a step the innermost block may go back, if it may at all
pub waits_restarts : (old new : Core) (call : Call) (again : Bool) (step : Step) → new.stage ≡ stage_at old call again → new.waits ≡ asked new → new.waits ≡ Some step → may_go_back old ≡ true → can_restart old call ≡ true
waits_restarts old new call again step stage asks waits may = restarts_by old call again may (λ idle. (let both : None ≡ Some step = sym (ap (asked_from new) (stage ∙ idle)) ∙ (sym asks ∙ waits) in cc))

-- ## A call goes to the engine

-- the room is there that was made for a block that may run again by it
pub called_renews : {P : Type 0} (a : Actor P) (old : Core) (call : Call) (again : Bool) (what : Next) → Proceeds (came old call again) what a.engine → IsAtOnce what → a.engine.stage ≡ stage_at old call again → a.engine.waits ≡ asked a.engine
    → (can_restart old call ≡ true → BacksIn (length old.arena) (total old.actions) a.run.current) → TakesRoom what → may_go_back (came old call again) ≡ true → BacksIn (length old.arena) (total old.actions) a.run.current
called_renews a old call again (Asks step) g soon order asks renews takes may = renews (waits_restarts old a.engine call again step order asks (ap (λ (c : Core). c.waits) g.stays) within_same)
  where
    within_same : may_go_back old ≡ true
    within_same = (let same = sym (came_restarted old call again (may_inside (came old call again) may)) in (λ i. nat_lt (same i) old.restarts && (not old.irrevocable && is_within old.blocks)) ∙ may)
called_renews a old call again (Answers answer) g soon order asks renews takes may = absurd (not_at_once (Answers answer) soon answer refl takes)

-- there is room for what comes of it, which the result tells
pub called_acting : {P E : Type 0} (answer : Answer) (a : Actor P) (old : Core) (call : Call) (again was : Bool) (o : in_transaction (came old call again) ≡ was) (has : HasRow was a)
    → ((row : Attempt) → active_of a ≡ Some row → told_in row ≡ length (came old call again).actions.ran) → ((row : Attempt) → active_of a ≡ Some row → length row.restarts ≤ old.restarted) → NestsBy call a.run.current → BeganIn (stage_of a.run.current)
    → (can_restart old call ≡ true → BacksIn (length old.arena) (total old.actions) a.run.current)
    → ((row : Attempt) → active_of a ≡ Some row → total (came old call again).actions + registers call ≤ ends_in a.run.current)
    → ((row : Attempt) → active_of a ≡ Some row → is_abort call ≡ true → total (came old call again).actions ≤ cancels_in a.run.current)
    → StartsEmpty a → HasRoomFor (came old call again) a → ((row : Attempt) → active_of a ≡ Some row → HasPlace (came old call again) row) → ((row : Attempt) → pending_of a ≡ Some row → row.calls.room ≡ wanted (came old call again)) → wanted (came old call again) ≤ (came old call again).room
    → (in_transaction (came old call again) ≡ false → ((came old call again).actions.commits ≡ []) × ((came old call again).actions.undos ≡ []))
    → (result : Result (Option Step) E) → ComesInto old call again result answer a.engine → IfOk result (λ what. MayRunOn a call (next_in what answer))
called_acting answer a old call again was o has all few nests began renews places cancel pending room backed wants reserved shut (Ok what) e =
    gave_acting a (came old call again) call was o has refl all (λ row f. (let n = came_restarted old call again (o ∙ row_open was a row has f) in let l = few row f in omega arith)) nests began places cancel pending room backed wants reserved e.settled (next_in what answer) e.proceeds
    (called_renews a old call again (next_in what answer) e.proceeds e.at_once e.order e.asks renews) shut (gave_plainly (came old call again) a.engine old call again (next_in what answer) e.proceeds e.order e.asks)
called_acting answer a old call again was o has all few nests began renews places cancel pending room backed wants reserved shut (Err x) e = tt

pub starves_begin : {E : Type 0} (c new : Core) (call : Call) (answer : Answer) → IsSettled c → (result : Result (Option Step) E) → ComesInto c call false result answer new → OnErr result (in_transaction c ≡ false → is_begin call ≡ true)
starves_begin c new call answer s (Ok what) m = tt
starves_begin c new call answer s (Err x) m = λ shut. starves_shut c call s shut m.starves

-- ## Where memory is wanted in an irrevocable transaction

-- an open attempt that wants memory for the call itself has used up what it asked for
pub used_of_call : {P : Type 0} (a : Actor P) (call : Call) → IsPromised a Ready → MayStarve a.engine call → HasUsedUp a
used_of_call a call backed starves h row e = starves_here a.engine call h row.calls.room (backed row e) starves

-- and so has one that has no room for the call
pub used_of_room : {P : Type 0} (a : Actor P) (call : Call) (o : Open) → a.run.current ≡ Within o → in_transaction a.engine ≡ true → HasRoomFor a.engine a → length o.points + o.row.calls.room ≤ o.deep → o.row.calls.room ≤ promised a.engine
    → LacksPlaces call (total a.engine.actions) (unwrap_or (irrevocable_room a.engine call) 0) (arena_ahead a.engine call) o → HasUsedUp a
used_of_room a call o is inside room nests few lacks h row e =
    ap (λ (x : Attempt). x.calls.room) (same_Some _ _ (sym e ∙ ap (λ (c : Current). open_in (stage_of c)) is))
    ∙ lacks_here a.engine call h o few
    (λ some.
    (let both = room (held_as a.engine h) some in
    let n : counted a.engine ≡ total a.engine.actions = ap (λ (b : Bool). if b then total a.engine.actions else 0) inside in
    let ends = ap ends_in is in
    let cancels = ap cancels_in is in
    ((let x = both.0 in omega arith), (let x = both.1 in omega arith))))
    (λ some. nests) lacks

-- The stage of an actor's attempt, and what an answer makes of it.
use Rattle.tx_runs.proofs.TookIn.{IsTaken, OpensBy, is_taken, tried_as}
use Rattle.std.proofs.Common.{◌≡◌, ◌⊎◌, inl, inr, ℕ, ◌+◌, ◌-◌, ◌/◌, ◌<◌, ◌≤◌, Bool, true, false, nat_lt, List, [], ◌∷◌, ◌++◌, append_assoc, append-nil, length, Option, None, Some, unwrap_or, refl, sym, ap, subst, ◌∙◌, arith, Vec, Global, vec_capacity}
use Rattle.world_rules.proofs.Common.{Actor, AllOf, Answer, Attempt, Begin, Call, Core, Ended, GaveUp, HasPoints, HasRow, IsKept, IsSame, KeepsOthers, Outcome, Props, Ran, Ready, Records, Reply as Replied, Rows, Rules, Stage, Taken, TakesTo, active_of, begun_in, cases_Bool, count_in, count_of, in_transaction, irrevocable_room, length-append, moved_to, none-some, open_in, pending_of, points_in, reserved, rows_in, same_Some, stage_of, stand_of, status_after, tally_of, took_in}
use Rattle.tx_attempts.specs.declared.attempt.Outcome.TheVariants as outcomes
use Rattle.tx_runs.specs.Savepoints.{cut_back}
use Rattle.tx_runs.specs.Tallies.{outside, begins, stage_at}
use Rattle.world_rules.specs.ActionRoom.{BeganIn}
use Rattle.norec_core.specs.declared.answer.Answer.TheVariants.{Busy, Conflict, Reply, Restarted}
use Rattle.tx_runs.specs.Currents.{Current, Outside, Within}
use Rattle.norec_core.specs.Restarts.{IsRestart}
use Rattle.itm_types.specs.declared.limits.TheConstants.{MAX_ACTORS}
use Rattle.tx_runs.specs.declared.player_run.PlayerRun.{PlayerRun}
use Rattle.tx_runs.specs.declared.savepoint.Savepoint.{Savepoint}
use Rattle.tx_runs.specs.Tallies.{Stand, Tally, begun, over_as, sent_back, tried, within}

-- ## Stages

pub stage_open : (s : Stage) {row : Attempt} → open_in s ≡ Some row → s ≡ within row (points_in s)
stage_open (within x points) e = ap (λ (y : Attempt). within y points) (same_Some _ _ e)
stage_open s e = absurd (cc)

pub stage_begun : (s : Stage) {row : Attempt} → begun_in s ≡ Some row → s ≡ begins row
stage_begun (begins x) e = cc
stage_begun s e = absurd (cc)

pub stage_out : (s : Stage) → open_in s ≡ None → begun_in s ≡ None → s ≡ outside
stage_out outside e b = refl
stage_out s e b = absurd (cc)

-- one that is begun is not open
pub begun_shut : (s : Stage) {row : Attempt} → begun_in s ≡ Some row → open_in s ≡ None
begun_shut s e = ap open_in (stage_begun s e)

pub open_only : (s : Stage) {row : Attempt} → open_in s ≡ Some row → begun_in s ≡ None
open_only s e = ap begun_in (stage_open s e)

-- ## Told where its engine reads

pub moved_open : (at : ℕ) (c : Current) (row : Attempt) → open_in (stage_of (moved_to at c)) ≡ Some row → (was : Attempt) × (open_in (stage_of c) ≡ Some was) × (row ≡ record was { at = at })
moved_open at (Within o) row e = (o.row, refl, sym (same_Some _ _ e))
moved_open at c row e = absurd (cc)

pub moved_row : (at : ℕ) (c : Current) (row : Attempt) → open_in (stage_of c) ≡ Some row → open_in (stage_of (moved_to at c)) ≡ Some (record row { at = at })
moved_row at (Within o) row e = ap (λ (x : Attempt). Some (record x { at = at })) (same_Some _ _ e)
moved_row at c row e = absurd (cc)

pub moved_stage : (at : ℕ) (c : Current) (row : Attempt) (points : List Savepoint) → stage_of c ≡ within row points → stage_of (moved_to at c) ≡ within (record row { at = at }) points
moved_stage at (Within o) row points e = (let r : o.row ≡ row = cc in let p : o.points ≡ points = cc in λ i. within (record (r i) { at = at }) (p i))
moved_stage at c row points e = absurd (cc)

pub moved_begun : (at : ℕ) (c : Current) → begun_in (stage_of (moved_to at c)) ≡ begun_in (stage_of c)
moved_begun at Outside = refl
moved_begun at c = refl

pub moved_count : (at : ℕ) (c : Current) → count_in (stage_of (moved_to at c)) ≡ count_in (stage_of c)
moved_count at Outside = refl
moved_count at c = refl

-- one that stands there already
pub moved_none : (at : ℕ) (c : Current) → open_in (stage_of c) ≡ None → moved_to at c ≡ c
moved_none at (Within o) none = absurd (cc)
moved_none at c none = refl

pub moved_here : (at : ℕ) (c : Current) → ((row : Attempt) → open_in (stage_of c) ≡ Some row → row.at ≡ at) → moved_to at c ≡ c
moved_here at (Within o) reads = λ i. Within (record o { row = record o.row { at = sym (reads o.row refl) i } })
moved_here at c reads = refl

-- ## A call comes

-- as this actor's
abbrev pub asked_at : {P : Type 0} → ℕ → Actor P → Call → Stage → Stage
asked_at clock a call s = stage_at s call (λ props. begun a.run.thread a.run.nth (clock / 2) props a.engine.arena (unwrap_or (irrevocable_room a.engine call) 0)) (unwrap_or (irrevocable_room a.engine call) 0)

-- the open attempt is that of before, with room for the call and what it asks for
pub asked_open : {P : Type 0} (clock : ℕ) (a : Actor P) (call : Call) (s : Stage) (row : Attempt) → open_in (asked_at clock a call s) ≡ Some row
    → (was : Attempt) × (open_in s ≡ Some was) × (row ≡ record was { calls = reserved was.calls (unwrap_or (irrevocable_room a.engine call) 0 + 1) })
asked_open clock a call (within x points) row e = (x, refl, sym (same_Some _ _ e))
asked_open clock a (Begin props room) outside row e = absurd (cc)
asked_open clock a call s row e = absurd (cc)

-- one that is to be opened is that of this begin
pub asked_begun : {P : Type 0} (clock : ℕ) (a : Actor P) (call : Call) (s : Stage) (row : Attempt) → begun_in s ≡ None → begun_in (asked_at clock a call s) ≡ Some row
    → (props : Props) × (room : ℕ) × (call ≡ Begin props room) × (row ≡ begun a.run.thread a.run.nth (clock / 2) props a.engine.arena (unwrap_or (irrevocable_room a.engine call) 0))
asked_begun clock a call (begins x) row none e = absurd (cc)
asked_begun clock a (Begin props room) outside row none e = (props, room, refl, sym (same_Some _ _ e))
asked_begun clock a call s row none e = absurd (cc)

-- nor is a block begun by it
pub asked_points : {P : Type 0} (clock : ℕ) (a : Actor P) (call : Call) (deep : ℕ) (s : Stage) → HasPoints deep s → HasPoints deep (asked_at clock a call s)
asked_points clock a call deep (within x points) h = h
asked_points clock a (Begin props room) deep outside h = tt
asked_points clock a call deep s h = tt

pub asked_began : {P : Type 0} (clock : ℕ) (a : Actor P) (call : Call) (s : Stage) → BeganIn s → BeganIn (asked_at clock a call s)
asked_began clock a call (within x points) b = b
asked_began clock a (Begin props room) outside b = tt
asked_began clock a call s b = tt

-- ## The open attempt, where a transaction is open

module _ {P : Type 0} where
  pub row_open : (b : Bool) (a : Actor P) (row : Attempt) → HasRow b a → active_of a ≡ Some row → b ≡ true
  row_open true a row h some = refl
  row_open false a row h some = absurd (none-some row (sym h ∙ some))

  pub row_shut : (b : Bool) (a : Actor P) → HasRow b a → active_of a ≡ None → b ≡ false
  row_shut true a h none = absurd (none-some h.0 (sym none ∙ h.1))
  row_shut false a h none = refl

  -- it has not ended, and is the actor's
  pub row_unfinished : (b : Bool) (a : Actor P) (row : Attempt) → HasRow b a → active_of a ≡ Some row → row.outcome ≡ outcomes.Unfinished
  row_unfinished false a row h e = absurd (none-some row (sym h ∙ e))
  row_unfinished true a row h e = ap (λ (x : Attempt). x.outcome) (same_Some _ _ (sym e ∙ h.1)) ∙ h.2

  pub row_is_of : (b : Bool) (a : Actor P) (row : Attempt) → HasRow b a → active_of a ≡ Some row → row.thread ≡ a.run.thread
  row_is_of false a row h e = absurd (none-some row (sym h ∙ e))
  row_is_of true a row h e = ap (λ (x : Attempt). x.thread) (same_Some _ _ (sym e ∙ h.1)) ∙ h.3

  -- of another actor with the same attempt
  pub row_same : (b : Bool) (a a' : Actor P) → a'.run.thread ≡ a.run.thread → active_of a' ≡ active_of a → HasRow b a → HasRow b a'
  row_same false a a' thread same h = same ∙ h
  row_same true a a' thread same h = (h.0, same ∙ h.1, h.2, h.3 ∙ sym thread)

-- ## An answer

-- by which an attempt is open: a reply, or its innermost block went back to its begin
abbrev pub IsOpen : Stage → Call → Answer → Stand → Attempt → List Savepoint → Type 0
IsOpen g call answer s row points = ((reply : Replied) × (answer ≡ Reply reply) × OpensBy g call (Reply reply) s row points)
    ⊎ (IsRestart answer × (old : Attempt) × (g ≡ within old points) × (row ≡ cut_back points s.arena s.ran old))

open_so : (g : Stage) (call : Call) (answer : Answer) (s : Stand) (row : Attempt) (points : List Savepoint) → OpensBy g call answer s row points → IsOpen g call answer s row points
open_so g call (Reply reply) s row points x = inl (reply, refl, x)
open_so g call (Restarted clock word) s row points x = inr (tt, x.0, x.1, x.2)
open_so g call answer s row points x = absurd x

-- what is cut back is the same attempt, as far as it has come
pub record IsCut (row row' : Attempt) : Type 0 where
  pub same : IsSame row row'
  pub at : row'.at ≡ row.at
  pub outcome : row'.outcome ≡ row.outcome

pub is_cut : (points : List Savepoint) (arena : List ℕ) (due : List Ran) (row : Attempt) → IsCut row (cut_back points arena due row)
is_cut [] arena due row = record { same = record { thread = refl; nth = refl; began = refl; props = refl; arena = refl }; at = refl; outcome = refl }
is_cut (s ∷ outer) arena due row = record { same = record { thread = refl; nth = refl; began = refl; props = refl; arena = refl }; at = refl; outcome = refl }

abbrev pub stand_at : Bool → Core → Stand
stand_at b e = record { is_open = b; at = e.snapshot / 2; ran = e.actions.ran; arena = e.arena }

module _ {P : Type 0} where
  -- how the player stood, with this attempt
  abbrev pub tally_at : Actor P → Stage → Tally P
  tally_at a s = record { player = a.run.player; nth = a.run.nth; again = a.run.again; stage = s }

  -- within this one, as its inner blocks are open
  abbrev pub within_at : Actor P → Attempt → Stage
  within_at a row = within row (points_in (stage_of a.run.current))

  -- what comes of the answer, where the stage is this one, and a transaction is open now or not
  pub taken_at : {rules : Rules P} {r r' : Rows} {a last : Actor P} {call : Call} {answer : Answer} → Records rules r r' a last call answer → {s : Stage} → stage_of a.run.current ≡ s → {b : Bool} → in_transaction last.engine ≡ b
      → TakesTo (took_in rules a.run.retries (tally_at a s) call answer (stand_at b last.engine)) r r' a last
  taken_at {rules} {r} {r'} {a} {last} {call} {answer} t {s} e {b} o =
      subst (λ (x : Bool). TakesTo (took_in rules a.run.retries (tally_at a s) call answer (stand_at x last.engine)) r r' a last) o
      (subst (λ (x : Stage). TakesTo (took_in rules a.run.retries (tally_at a x) call answer (stand_of last.engine)) r r' a last) e t.takes)

  module _ {taken : Taken P} {r r' : Rows} {old new : Actor P} (t : TakesTo taken r r' old new) where
    pub told_player : new.run.player ≡ taken.tally.player
    told_player = ap (λ (x : Tally P). x.player) t.tally

    pub told_nth : new.run.nth ≡ taken.tally.nth
    told_nth = ap (λ (x : Tally P). x.nth) t.tally

    pub told_again : new.run.again ≡ taken.tally.again
    told_again = ap (λ (x : Tally P). x.again) t.tally

    pub told_stage : stage_of new.run.current ≡ taken.tally.stage
    told_stage = ap (λ (x : Tally P). x.stage) t.tally

    pub told_active : active_of new ≡ open_in taken.tally.stage
    told_active = ap open_in told_stage

    pub told_pending : pending_of new ≡ begun_in taken.tally.stage
    told_pending = ap begun_in told_stage

  pub tried_at : (t : Tally P) (over : List Attempt) (retries : ℕ) {r r' : Rows} {a last : Actor P} → TakesTo (tried retries t over) r r' a last → {b : Bool} → nat_lt retries t.nth ≡ b → TakesTo (tried_as b t over) r r' a last
  tried_at t over retries {r} {r'} {a} {last} x e = subst (λ (b : Bool). TakesTo (tried_as b t over) r r' a last) e x

  -- whichever it was, no attempt is left
  pub record IsTried (t : Tally P) (over : List Attempt) (retries : ℕ) (r r' : Rows) (last : Actor P) : Type 0 where
    pub player : last.run.player ≡ t.player
    pub again : last.run.again ≡ t.again
    pub stage : stage_of last.run.current ≡ outside
    pub ended : r'.ended ≡ r.ended ++ over
    pub either : ((nat_lt retries t.nth ≡ true) × (last.status ≡ Ended GaveUp)) ⊎ ((nat_lt retries t.nth ≡ false) × (last.status ≡ Ready) × (last.run.nth ≡ t.nth + 1))

  pub is_tried : (t : Tally P) (over : List Attempt) (retries : ℕ) {r r' : Rows} {a last : Actor P} → TakesTo (tried retries t over) r r' a last → IsTried t over retries r r' last
  is_tried t over retries {r} {r'} {a} {last} x = elim (cases_Bool (nat_lt retries t.nth)) [
    | inl e ↦ (let y = tried_at t over retries x e in record { player = told_player y; again = told_again y; stage = told_stage y; ended = y.ended; either = inl (e, y.status) })
    | inr e ↦ (let y = tried_at t over retries x e in record { player = told_player y; again = told_again y; stage = told_stage y; ended = y.ended; either = inr (e, y.status, told_nth y) })
  ]

  -- what becomes of the player
  pub reply_player : {rules : Rules P} {r r' : Rows} {a last : Actor P} {call : Call} (reply : Replied) → Records rules r r' a last call (Reply reply) → last.run.player ≡ rules.answered a.run.player reply
  reply_player {rules} {r} {r'} {a} {last} {call} reply t = by_stage (stage_of a.run.current) refl (in_transaction last.engine) refl
    where
      by_stage : (s : Stage) → stage_of a.run.current ≡ s → (b : Bool) → in_transaction last.engine ≡ b → last.run.player ≡ rules.answered a.run.player reply
      by_stage (begins row) e true o = told_player (taken_at t e o)
      by_stage (within row points) e true o = told_player (taken_at t e o)
      by_stage s e b o = told_player (taken_at t e o)

  pub conflict_player : {rules : Rules P} {r r' : Rows} {a last : Actor P} {call : Call} {clock : ℕ} {word : Option ℕ} → Records rules r r' a last call (Conflict clock word) → (s : Stage) → stage_of a.run.current ≡ s → last.run.player ≡ sent_back rules s a.run.player
  conflict_player {rules} {a = a} {last = last} t s e = (is_tried (record (tally_at a s) { player = sent_back rules s a.run.player }) (over_as outcomes.Conflict (stand_of last.engine) s) a.run.retries (taken_at t e refl)).player

  pub back_player : {rules : Rules P} {r r' : Rows} {a last : Actor P} {call : Call} {clock word : ℕ} {row : Attempt} {points : List Savepoint} → Records rules r r' a last call (Restarted clock word) → stage_of a.run.current ≡ within row points
      → last.run.player ≡ rules.at_block a.run.player (rules.depth a.run.player)
  back_player t e = told_player (taken_at t e refl)

  pub busy_player : {rules : Rules P} {r r' : Rows} {a last : Actor P} {call : Call} {clock : ℕ} → Records rules r r' a last call (Busy clock) → last.run.player ≡ a.run.player
  busy_player {a = a} t = (is_tried (tally_of a.run) [] a.run.retries t.takes).player

  -- whichever the answer was
  module _ {rules : Rules P} {r r' : Rows} {a last : Actor P} {call : Call} {answer : Answer} (t : Records rules r r' a last call answer) where
    pub taken_of : IsTaken (stage_of a.run.current) call answer (stand_of last.engine) (took_in rules a.run.retries (tally_of a.run) call answer (stand_of last.engine))
    taken_of = is_taken call (stand_of last.engine) rules a.run.retries a.run.player a.run.nth a.run.again (stage_of a.run.current) answer

    -- no attempt is to be opened then
    pub none_begun : (IsRestart answer → pending_of a ≡ None) → pending_of last ≡ None
    none_begun back = told_pending t.takes ∙ by_stage _ (taken_of.begun (λ is row e. absurd (none-some row (sym (back is) ∙ ap begun_in e))))
      where
        by_stage : (s : Stage) → ((row : Attempt) → s ≡ begins row → ⊥) → begun_in s ≡ None
        by_stage (begins row) never = absurd (never row refl)
        by_stage s never = refl

    -- and one is open so
    pub open_by : (row : Attempt) → active_of last ≡ Some row → (r'.ended ≡ r.ended) × (last.status ≡ Ready) × IsOpen (stage_of a.run.current) call answer (stand_of last.engine) row (points_in (stage_of last.run.current))
    open_by row e =
        let x = taken_of.still row (points_in (stage_of last.run.current)) (sym (told_stage t.takes) ∙ stage_open _ e) in
        (t.takes.ended ∙ (ap (λ (l : List Attempt). r.ended ++ l) x.0 ∙ append-nil r.ended), t.takes.status ∙ ap status_after x.1, open_so _ call answer (stand_of last.engine) row (points_in (stage_of last.run.current)) x.2)

pub sent_same : {P : Type 0} (rules : Rules P) (s : Stage) (p : P) → open_in s ≡ None → sent_back rules s p ≡ p
sent_same rules (within row points) p none = absurd (cc)
sent_same rules s p none = refl

-- ## What is over

all_both : (thread : ℕ) (xs ys : List Attempt) → AllOf thread xs → AllOf thread ys → AllOf thread (xs ++ ys)
all_both thread [] ys a b = b
all_both thread (x ∷ xs) ys a b = (a.0, all_both thread xs ys a.1 b)

-- it is the actor's, and a place less is wanted
pub record IsOwn (thread : ℕ) (s s' : Stage) (over : List Attempt) : Type 0 where
  pub mine : AllOf thread over
  pub count : length over + count_in s' ≤ count_in s

abbrev Mine : ℕ → Stage → Type 0
Mine thread s = (row : Attempt) → open_in s ≡ Some row → row.thread ≡ thread

over_own : (thread : ℕ) (outcome : Outcome) (stand : Stand) (s : Stage) → Mine thread s → IsOwn thread s outside (over_as outcome stand s)
over_own thread outcome stand (within row points) mine = record { mine = (mine row refl, tt); count = omega arith }
over_own thread outcome stand s mine = record { mine = tt; count = omega arith }

count_less : (s s' : Stage) → (s ≡ outside → s' ≡ outside) → count_in s' ≤ count_in s
count_less outside s' idle = (let none = ap count_in (idle refl) in omega arith)
count_less s outside idle = omega arith
count_less s s' idle = omega arith

taken_own : {P : Type 0} {call : Call} {answer : Answer} {stand : Stand} (thread : ℕ) (s : Stage) (taken : Taken P) → IsTaken s call answer stand taken → (IsRestart answer → (row : Attempt) → s ≡ begins row → ⊥) → Mine thread s → IsOwn thread s taken.tally.stage taken.over
taken_own thread s taken x back mine = elim x.over [
  | inl none ↦ (let less = count_less s taken.tally.stage x.idle in let n = ap (length {A = Attempt}) none in record { mine = subst (AllOf thread) (sym none) tt; count = omega arith })
  | inr y ↦
      (let is : s ≡ within y.0 y.1 = y.3 in
      let count = ap count_in is in
      let n = ap (length {A = Attempt}) y.4 in
      let out = by_stage taken.tally.stage refl (λ e. (let none : y.2 ∷ [] ≡ [] = sym y.4 ∙ e in cc)) in
      let shut = ap count_in out in
      record { mine = subst (AllOf thread) (sym y.4) (y.5 ∙ mine y.0 (ap open_in is), tt); count = omega arith })
]
  where
    by_stage : (now : Stage) → taken.tally.stage ≡ now → (taken.over ≡ [] → ⊥) → taken.tally.stage ≡ outside
    by_stage outside e some = e
    by_stage (begins row) e some = absurd (x.begun back row e)
    by_stage (within row points) e some = absurd (some (x.still row points e).0)

-- ## Its work is its own

-- a vector with more behind has so much less room
pub room_less : (v v' : Vec Attempt Global) (more : List Attempt) → v'.items ≡ v.items ++ more → vec_capacity v' ≡ vec_capacity v → (rows_in v).room - length more ≤ (rows_in v').room
room_less v v' more is same = (let long = ap (length {A = Attempt}) is ∙ length-append v.items more in let n = v.ok.0 in let m = v'.ok.0 in omega arith)

module _ {P : Type 0} where
  others_own : (a a' : Actor P) (r r' : Rows) (more : List Attempt) → a'.run.thread ≡ a.run.thread → r'.ended ≡ r.ended ++ more → IsOwn a.run.thread (stage_of a.run.current) (stage_of a'.run.current) more → r.room - length more ≤ r'.room → KeepsOthers a r a' r'
  others_own a a' r r' more thread ended own room = record { thread = thread; more = more; ended = ended; mine = own.mine; room = λ k few l. (let less = own.count in omega arith) }

  -- it stopped where it stood
  pub others_stopped : {was : Bool} (a a' : Actor P) (r r' : Rows) (outcome : Outcome) (stand : Stand) → IsKept was a → a'.run ≡ record a.run { current = Outside } → r'.ended ≡ r.ended ++ over_as outcome stand (stage_of a.run.current)
      → r.room - length (over_as outcome stand (stage_of a.run.current)) ≤ r'.room → KeepsOthers a r a' r'
  others_stopped {was} a a' r r' outcome stand kept run ended room =
      others_own a a' r r' _ (ap (λ (x : PlayerRun P). x.thread) run) ended
      (subst (λ (s : Stage). IsOwn a.run.thread (stage_of a.run.current) s (over_as outcome stand (stage_of a.run.current))) (sym (ap (λ (x : PlayerRun P). stage_of x.current) run))
      (over_own a.run.thread outcome stand (stage_of a.run.current) (λ row e. row_is_of was a row kept.row e))) room

  -- there is room for its own attempt
  pub others_place : {a a' : Actor P} {r r' : Rows} → KeepsOthers a r a' r' → count_of a ≤ r.room → count_of a' ≤ r'.room
  others_place {a} {a'} {r} {r'} x place =
      let some : 0 < MAX_ACTORS = omega arith in
      let p : 0 + count_of a ≤ r.room = omega arith in
      let q = x.room 0 some p in
      omega arith

  -- nothing ended
  pub others_same : (a a' : Actor P) (r r' : Rows) → a'.run.thread ≡ a.run.thread → count_of a' ≤ count_of a → r'.ended ≡ r.ended → r.room ≤ r'.room → KeepsOthers a r a' r'
  others_same a a' r r' thread count ended room = record { thread = thread; more = []; ended = ended ∙ sym (append-nil r.ended); mine = tt; room = λ k few l. omega arith }

  pub others_twice : (a b c : Actor P) (r r1 r2 : Rows) → KeepsOthers a r b r1 → KeepsOthers b r1 c r2 → KeepsOthers a r c r2
  others_twice a b c r r1 r2 x y = record {
    thread = y.thread ∙ x.thread;
    more = x.more ++ y.more;
    ended = y.ended ∙ (ap (λ (xs : List Attempt). xs ++ y.more) x.ended ∙ append_assoc r.ended x.more y.more);
    mine = all_both a.run.thread x.more y.more x.mine (subst (λ (n : ℕ). AllOf n y.more) x.thread y.mine);
    room = λ k few l. y.room k few (x.room k few l);
  }

  -- an answer was taken in
  pub others_taken : {rules : Rules P} {r r' : Rows} {a last : Actor P} {call : Call} {answer : Answer} {was : Bool} → IsKept was a → Records rules r r' a last call answer → (IsRestart answer → pending_of a ≡ None) → last.run.thread ≡ a.run.thread
      → r.room - length (took_in rules a.run.retries (tally_of a.run) call answer (stand_of last.engine)).over ≤ r'.room → KeepsOthers a r last r'
  others_taken {rules} {r} {r'} {a} {last} {call} {answer} {was} kept t back thread room =
      let taken = took_in rules a.run.retries (tally_of a.run) call answer (stand_of last.engine) in
      let own = taken_own a.run.thread (stage_of a.run.current) taken (taken_of t) (λ is row e. absurd (none-some row (sym (back is) ∙ ap begun_in e))) (λ row e. row_is_of was a row kept.row e) in
      others_own a last r r' taken.over thread t.takes.ended (subst (λ (s : Stage). IsOwn a.run.thread (stage_of a.run.current) s taken.over) (sym (told_stage t.takes)) own) room

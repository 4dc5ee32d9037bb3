-- A worker that stops where it stands, and one whose calls are counted.
use Rattle.std.proofs.Common.{◌≡◌, inl, inr, ℕ, ◌+◌, ◌/◌, Bool, false, true≢false, length, Option, None, Some, refl, sym, ap, subst, ◌∙◌, arith}
use Rattle.worker_rules.proofs.Common.{Account, Bounds, Course, End, GoesOnOrStops, GoesOnOrStopsAt, HasPlaces, IsSame, IsStopped, IsWorking, MayStop, MayTell, Rules, Standing, StopsAs, StopsAt, Words, Worker, account_of, stage_of, told_in}
use Rattle.tx_runs.specs.declared.ending.End.TheVariants.{Finished, GaveUp, NoMemory}
use Rattle.worker_rules.specs.Gates.{Gating, IsLet, call_number}
use Rattle.worker_rules.proofs.Laws.Places.{if_open, tells_in}
use Rattle.worker_rules.proofs.Laws.Rooms.{within_inside}

module _ {P : Type 0} {rules : Rules P} {words : Words} {c : Course P} {b : Bounds} {w : Worker P} (k : IsWorking rules words c b w) where
  pub may_stop_here : MayStop (w.thread.engine.snapshot / 2) w.thread.engine.actions.ran w.run.current
  may_stop_here = if_open (MayStop (w.thread.engine.snapshot / 2) w.thread.engine.actions.ran) tt (λ o. tt) w.run.current
      (λ o is. (let inside = within_inside w k.running o.row o.points (ap stage_of is) in
      let told : told_in o.row ≡ length w.thread.engine.actions.ran = ap told_in (sym inside.1) ∙ sym (k.running.inside inside.0).try.is_open.due in
      let room = (subst (HasPlaces w.thread.engine w.ended) is k.roomy).1 in
      (omega (arith, told), omega arith)))

  pub may_tell_here : MayTell w.run.current w.ended
  may_tell_here = tells_in w.thread.engine w.ended w.run.current k.roomy

  abbrev pub stops_here : (shuts : Bool) (end : End) → StopsAs words rules w.run.thread w.run.retries shuts end (account_of w) w.thread (account_of w) w.thread → IsStopped rules words c b shuts end w w
  stops_here shuts end stops = record { same = k.same; left = account_of w; stops = stops; over = k.same.over; below = k.same.below; told_is = refl; may_stop = may_stop_here; may_tell = may_tell_here }

-- ## The number of calls matters to nothing else

same_counted : {P : Type 0} (n : ℕ) (words : Words) (c : Course P) (b : Bounds) (w : Worker P) → IsSame words c b w → IsSame words c b (record w { calls = n })
same_counted n words c b w s = record { own = s.own; stands = s.stands; number = s.number; retries = s.retries; few = s.few; over = s.over; below = s.below; bounds = s.bounds; limit = s.limit }

pub turns_counted : {P : Type 0} (rules : Rules P) (words : Words) (shuts : Bool) (old new : Worker P) (n : ℕ) (end : Option End) → GoesOnOrStops rules words shuts old end new → GoesOnOrStops rules words shuts old end (record new { calls = n })
turns_counted rules words shuts old new n None t = record {
  made = t.made;
  works = λ c b k. (let w = t.works c b k in record { same = same_counted n words c b new w.same; running = w.running; roomy = w.roomy; blocks = w.blocks; actions = w.actions; promises = w.promises });
  falls = t.falls;
  thread = t.thread;
  retries = t.retries;
}
turns_counted rules words shuts old new n (Some end) t = λ c b k.
    (let s = t c b k in record { same = same_counted n words c b new s.same; left = s.left; stops = s.stops; over = s.over; below = s.below; told_is = s.told_is; may_stop = s.may_stop; may_tell = s.may_tell })

-- ## What a gate had to do with it

-- it has stopped so, whatever the gate may do
any_gate : {P : Type 0} (rules : Rules P) (words : Words) (number retries : ℕ) (shuts : Bool) (end : End) (a : Account P) (s : Standing) (a' : Account P) (s' : Standing) → StopsAs words rules number retries false end a s a' s' → StopsAs words rules number retries shuts end a s a' s'
any_gate rules words number retries shuts Finished a s a' s' k = k
any_gate rules words number retries shuts GaveUp a s a' s' (inl shut) = absurd (true≢false (sym shut.may))
any_gate rules words number retries shuts GaveUp a s a' s' (inr made) = inr made
any_gate rules words number retries shuts NoMemory a s a' s' k = k

let_gate : {P : Type 0} (rules : Rules P) (words : Words) (number retries : ℕ) (gate : Gating) (call : ℕ) (end : End) (a : Account P) (s : Standing) (a' : Account P) (s' : Standing) → IsLet gate number call s → StopsAs words rules number retries false end a s a' s' → StopsAt words rules number retries gate call end a s a' s'
let_gate rules words number retries gate call Finished a s a' s' l k = k
let_gate rules words number retries gate call GaveUp a s a' s' l (inl shut) = absurd (true≢false (sym shut.may))
let_gate rules words number retries gate call GaveUp a s a' s' l (inr made) = inr (made, l)
let_gate rules words number retries gate call NoMemory a s a' s' l k = (k, l)

-- a call that was let through is counted
pub turns_let : {P : Type 0} (rules : Rules P) (words : Words) (gate : Gating) (old new : Worker P) (n : ℕ) (end : Option End) → IsLet gate old.run.thread old.calls old.thread → n ≡ call_number (old.calls + 1) → GoesOnOrStops rules words false old end new → GoesOnOrStopsAt rules words gate old end (record new { calls = n })
turns_let rules words gate old new n None l counts t = (turns_counted rules words false old new n None t, l, counts)
turns_let rules words gate old new n (Some end) l counts t = λ c b k.
    (let s = turns_counted rules words false old new n (Some end) t c b k in
    record {
      stopped = record {
        same = s.same;
        left = s.left;
        stops = any_gate rules words old.run.thread old.run.retries (gate.shuts old.run.thread old.calls) end (account_of old) old.thread s.left new.thread s.stops;
        over = s.over;
        below = s.below;
        told_is = s.told_is;
        may_stop = s.may_stop;
        may_tell = s.may_tell;
      };
      stops = let_gate rules words old.run.thread old.run.retries gate old.calls end (account_of old) old.thread s.left new.thread l s.stops;
    })

-- Where a call in progress goes on: the engine, handed what its step found, stands at a further step just where it asks for one, and just then its actor waits once that is recorded.
use Rattle.std.proofs.Common.{◌≡◌, ℕ, false, List, Option, None, Some, is_some, refl, sym, ap, ◌∙◌}
use Rattle.event_rules.proofs.Common.{Actor, Answers, Asks, Call, Cells, Core, End, Idle, IsResumed, LogRow, Next, Phase, Proceeds, Rows, Rules, Status, Step, TakesIn, Tells, asked_from, asked_in, asks_further, is_step, is_waiting, rests, stage_after, status_after, waiting_step}
use Rattle.write_set.specs.declared.row.Row.{Row}

-- the stage alone decides whether a step is asked for
asks_by_stage : (log log' : List LogRow) (at at' : ℕ) (writes writes' : List Row) (bytes bytes' : List ℕ) (stage : Phase) → is_some (asked_in log at writes bytes stage) ≡ is_some (asked_in log' at' writes' bytes' stage)
asks_by_stage log log' at at' writes writes' bytes bytes' Idle = refl
asks_by_stage log log' at at' writes writes' bytes bytes' stage = refl

waits_as : (mid new : Core) (what : Next) → Proceeds mid what new → is_some new.waits ≡ is_step what
waits_as mid new (Asks step) p = ap (λ (c : Core). is_some c.waits) p.stays
waits_as mid new (Answers answer) p = ap (λ (o : Option Step). is_some o) (rests mid new answer p).idle

stands_as : (old new : Core) (seen : ℕ) (what : Next) → IsResumed old seen what new → is_some (asked_from old (stage_after old seen)) ≡ is_step what
stands_as old new seen what r =
    asks_by_stage old.log new.log old.snapshot new.snapshot old.writes new.writes old.gathered new.gathered (stage_after old seen)
    ∙ (ap (λ (stage : Phase). is_some (asked_from new stage)) (sym r.order) ∙ (ap (λ (o : Option Step). is_some o) (sym r.asks) ∙ waits_as _ new what r.proceeds))

-- an answer leaves nobody waiting
none_waits : (end : Option End) → is_waiting (status_after end) ≡ false
none_waits None = refl
none_waits (Some end) = refl

told_as : {P : Type 0} (rules : Rules P) (r r' : Rows) (old new : Actor P) (call : Call) (what : Next) → Tells rules r r' old new call what → is_waiting new.status ≡ is_step what
told_as {P} rules r r' old new call (Asks step) t = ap (λ (a : Actor P). is_waiting a.status) t.0
told_as rules r r' old new call (Answers answer) t = ap is_waiting t.takes.status ∙ none_waits _

module _ {P : Type 0} {rules : Rules P} {cells : Cells} {r r' : Rows} {a a' : Actor P} (t : TakesIn rules cells r a r' a') where
  pub asks_as : asks_further cells a.engine (waiting_step a.status) ≡ is_step t.what
  asks_as = ap (λ (s : Status). asks_further cells a.engine (waiting_step s)) t.waits ∙ stands_as a.engine a'.engine _ t.what t.resumed

  pub waits_on : is_waiting a'.status ≡ is_step t.what
  waits_on = ap (λ (x : Actor P). is_waiting x.status) t.moves ∙ told_as rules r r' _ t.recorded t.call t.what t.tells

-- Where an open attempt stands, once a value or a call was taken in and what the engine gave is recorded.
use Rattle.std.proofs.Common.{◌≡◌, ◌/◌, Bool, Some, inl, inr, sym, ap, ◌∙◌}
use Rattle.event_rules.proofs.Common.{Actor, Answer, Attempt, Call, Cells, Core, IsDone, Next, ReadsAt, Rows, Rules, Tells, active_of, is_cut, open_by, open_in, points_in, restarts_left, stage_of}
use Rattle.event_rules.proofs.Engines.Intakes.{HasAnswered, HasTaken, recorded}

module _ {P : Type 0} {rules : Rules P} {cells cells' : Cells} {r : Rows} {mid : Core} {a : Actor P} {call : Call} (stood : (row : Attempt) → active_of a ≡ Some row → row.at ≡ a.engine.snapshot / 2) where
  -- where it is still open, it has one call more, or a begin's attempt; or its innermost block went back
  answer_reads : {was : Bool} {r1 : Rows} {last : Actor P} (answer : Answer) → HasAnswered rules was cells cells' r r1 mid a last call answer → ReadsAt last
  answer_reads {last = last} answer t row e = elim (open_by t.told row e).2 [
    | inl reply ↦ elim reply.2 [
      | inl x ↦ ap (λ (x : Attempt). x.at) x.3 ∙ (stood x.0 (ap open_in x.2) ∙ ap (λ (c : Core). c.snapshot / 2) (sym t.settled.engine))
      | inr x ↦ ap (λ (x : Attempt). x.at) x.2
    ]
    | inr x ↦ ap (λ (x : Attempt). x.at) x.3 ∙ ((is_cut (points_in (stage_of last.run.current)) last.engine.arena last.engine.actions.ran x.1).at ∙ (stood x.1 (ap open_in x.2) ∙ ap (λ (c : Core). c.snapshot / 2) (sym t.settled.engine)))
  ]

  -- its engine has not moved where it reads
  pub still_reads : {was : Bool} {what : Next} (r1 : Rows) (last : Actor P) → HasTaken rules was cells cells' r mid a call what → IsDone rules was (restarts_left mid) r r1 a last call what → Tells rules r r1 a last call what → ReadsAt last
  still_reads {was} r1 last m done tells = recorded (λ x y. ReadsAt y) m done tells (λ step t row e. stood row e) (λ answer is t. answer_reads answer t)

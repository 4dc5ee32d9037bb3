-- Where memory is refused to a player's next call, or to the room for it.
use Rattle.std.proofs.Common.{inl, inr, ◌≡◌, ℕ, ◌≤◌, true, List, Result, Ok, Err, OnErr, refl, sym, ap, subst, ◌∙◌, arith}
use Rattle.worker_rules.proofs.Common.{Attempt, Bounds, Call, Course, Current, HasActionPlaces, HasBlockPlaces, HasPlaces, IsHungry, IsPromised, IsRoomier, IsUnprepared, IsWorking, LacksFor, Open, Rules, Savepoint, Within, Words, Worker, begins, outside, stage_of, within}
use Rattle.std.specs.declared.alloc.AllocError.{AllocError}
use Rattle.worker_rules.proofs.Laws.Places.{open_within}
use Rattle.run_rules.proofs.UsedRooms.{lacks_here, starves_here}

module _ {P : Type 0} {rules : Rules P} {words : Words} {c : Course P} {b : Bounds} {old : Worker P} (works : IsWorking rules words c b old) (call : Call) (o new : Open) (is : old.run.current ≡ Within o) where
  -- the open attempt is as it was, perhaps with more places
  pub unprepared : (r : Result (Unit {0}) AllocError) → OnErr r (new.row ≡ o.row) → new.points ≡ o.points → o.ends ≤ new.ends → OnErr r (IsUnprepared old call (record old { run = record old.run { current = Within new } }))
  unprepared (Ok done) same points kept = tt
  unprepared (Err error) same points kept =
      let roomy = subst (HasPlaces old.thread.engine old.ended) is works.roomy in
      record {
        roomier = subst (λ (x : Current). IsRoomier x (Within new)) (sym is)
            (same ∙ ap (λ (n : ℕ). record o.row { calls = record o.row.calls { room = n } }) (sym (ap (λ (a : Attempt). a.calls.room) same)), points);
        roomy = (roomy.0, (let places = roomy.1 in omega arith));
        ended = refl;
        begins = λ none. absurd (let open_is : within o.row o.points ≡ outside = ap stage_of (sym is) ∙ none in cc);
      }

module _ {P : Type 0} {rules : Rules P} {words : Words} {c : Course P} {b : Bounds} {old new : Worker P} {call : Call} (k : IsHungry rules words c b old call new) where
  -- an irrevocable attempt that is open has used up the room that it asked for
  pub used_here : old.thread.engine.irrevocable ≡ true → (row : Attempt) (points : List Savepoint) → stage_of old.run.current ≡ within row points → row.calls.room ≡ 0
  used_here held row points inside =
      let w = open_within old.run.current row points inside in
      let o = w.0 in
      let e = old.thread.engine in
      let actions = subst (HasActionPlaces e) w.1 k.works.actions in
      let few = subst (IsPromised e) w.1 k.works.promises in
      let none : o.row.calls.room ≡ 0 = elim k.short [
        | inl lacks ↦ lacks_here e call held o few (actions held) (subst HasBlockPlaces w.1 k.works.blocks) (subst (LacksFor e call) w.1 lacks)
        | inr starves ↦ starves_here e call held o.row.calls.room few starves
      ] in
      ap (λ (x : Attempt). x.calls.room) (sym w.2) ∙ none

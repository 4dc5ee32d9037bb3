-- What an engine gives for a call leaves room for the actions that have run.
use Rattle.std.proofs.Common.{◌≡◌, ℕ, ◌+◌, ◌/◌, ◌<◌, ◌≤◌, Bool, true, false, true≢false, [], length, is_some, Some, None, refl, sym, ap, subst, ◌∙◌, inl, inr, arith}
use Rattle.event_rules.proofs.Common.{Actor, Answer, Answers, Asks, AsksAs, Attempt, BacksIn, BeganIn, Call, Core, Current, Ended, Ends, HasPlace, HasRoomFor, HasRow, IsActing, IsRestart, IsSettled, LeavesRoom, MayRunOn, NestsAs, NestsBy, Next, NoCancel, Proceeds, PromisesAs, Ran, Ready, RenewsAs, Restarted, StartsEmpty, Status, Step, Waits, Within, active_of, cancels_in, cases_Bool, ends_in, in_transaction, is_abort, is_back, is_held, leaves_backed, leaves_room, left_in_room, may_go_back, moved_to, none-some, none_held, open_only, pending_of, promised_same, registered_by, rests, row_open, row_shut, same_Some, same_room, stage_of, told, told_in, total, wanted, wanted_same}
use Rattle.event_rules.{proofs.Rooms.RestartRoom.back_room, proofs.Rooms.LaterActions.first_here}
use Rattle.norec_core.proofs.Replies.ActionCounts.{registers, LeavesActions}
use Rattle.tx_runs.specs.OpenAttempts.{Open}
pub use Rattle.run_rules.proofs.StepCalls.{registers_none}
use Rattle.run_rules.proofs.StepCalls.{cancels_register_none}

-- the call waits, or its innermost block went back
abbrev pub TakesRoom : Next → Type 0
TakesRoom (Asks step) = Unit {0}
TakesRoom (Answers answer) = IsRestart answer

module _ {P : Type 0} (a : Actor P) (mid : Core) (call : Call) (was : Bool) (o : in_transaction mid ≡ was) (has : HasRow was a) (doing : mid.doing ≡ Some call)
    (all : (row : Attempt) → active_of a ≡ Some row → told_in row ≡ length mid.actions.ran) (few : (row : Attempt) → active_of a ≡ Some row → length row.restarts ≤ mid.restarted) (nests : NestsBy call a.run.current) (began : BeganIn (stage_of a.run.current))
    (places : (row : Attempt) → active_of a ≡ Some row → total mid.actions + registers call ≤ ends_in a.run.current)
    (cancel : (row : Attempt) → active_of a ≡ Some row → is_abort call ≡ true → total mid.actions ≤ cancels_in a.run.current)
    (pending : StartsEmpty a) (room : HasRoomFor mid a) (backed : (row : Attempt) → active_of a ≡ Some row → HasPlace mid row)
    (asks : (row : Attempt) → pending_of a ≡ Some row → row.calls.room ≡ wanted mid) (reserved : wanted mid ≤ mid.room) (settled : IsSettled a.engine) where
  was_open : (row : Attempt) → active_of a ≡ Some row → in_transaction mid ≡ true
  was_open row e = o ∙ row_open was a row has e

  -- there is room for a block that runs again
  abbrev Renews : Type 0
  Renews = may_go_back mid ≡ true → BacksIn (length mid.arena) (total mid.actions) a.run.current

  -- it waits for a step
  pub waits_acting : (step : Step) → Proceeds mid (Asks step) a.engine → (is_abort call ≡ false) × (is_some (registered_by call) ≡ false) → Renews → MayRunOn a call (Asks step)
  waits_acting step g other renews =
      let same : a.engine.actions ≡ mid.actions = ap (λ (c : Core). c.actions) g.stays in
      let n = wanted_same a.engine mid (ap (λ (c : Core). c.depth) g.stays) (ap (λ (c : Core). c.blocks) g.stays) (ap (λ (c : Core). c.irrevocable) g.stays) (ap (λ (c : Core). c.doing) g.stays) in
      record {
        all = λ row e. all row e ∙ ap (λ (x : _). length x.ran) (sym same);
        few = λ row e. (let f = few row e in let n = ap (λ (c : Core). c.restarted) g.stays in omega arith);
        places = λ row e. (let p = places row e in let n = ap total same in omega arith);
        pending = pending;
        status = other;
        room = same_room mid a.engine (ends_in a.run.current) (cancels_in a.run.current) (sym (ap (λ (c : Core). c.depth) g.stays)) (sym (ap (λ (c : Core). c.blocks) g.stays)) (sym (ap (λ (c : Core). c.irrevocable) g.stays)) (sym (ap (λ (c : Core). c.doing) g.stays)) (sym (ap (λ (c : Core). c.room) g.stays)) (sym same) room;
        backed = λ row e. (let p = backed row e in let least = p.least in let most = p.most in let m = promised_same a.engine mid (ap (λ (c : Core). c.irrevocable) g.stays) (ap (λ (c : Core). c.room) g.stays) in record { least = omega arith; most = omega arith });
        asks = record { pending = λ row e. asks row e ∙ sym n; backed = (let k = ap (λ (c : Core). c.room) g.stays in omega arith) };
        nests = nests;
        began = began;
        renews = λ may. subst (λ (c : Core). BacksIn (length c.arena) (total c.actions) a.run.current) (sym g.stays) (renews (sym (ap may_go_back g.stays) ∙ may));
      }

  module _ (answer : Answer) (g : Ends mid answer a.engine) (stays : IsRestart answer → ⊥) (shut : in_transaction mid ≡ false → (mid.actions.commits ≡ []) × (mid.actions.undos ≡ [])) where
    acts : LeavesActions mid call a.engine
    acts = (rests mid a.engine answer g).acts call doing stays

    left : LeavesRoom mid a.engine
    left = leaves_room mid a.engine call answer doing settled g stays shut

    cancel_place : in_transaction a.engine ≡ true → (row : Attempt) → active_of a ≡ Some row → told_in row < length a.engine.actions.ran → length a.engine.actions.ran ≤ cancels_in a.run.current
    cancel_place now row e less = elim (cases_Bool (is_abort call)) [
      | inl abort ↦
          (let c = cancel row e abort in
          let m = (acts.runs (was_open row e)).most in
          let n = cancels_register_none call abort in
          omega arith)
      | inr other ↦
          absurd (let one = all row e in
          let same = ap (length {A = Ran}) (acts.same (was_open row e) other now) in
          omega arith)
    ]

    -- it is answered
    pub answered_acting : MayRunOn a call (Answers answer)
    answered_acting = record {
      first = first_here a mid a.engine call (Answers answer) was o has doing g all;
      few = λ row e. (let f = few row e in let n = (rests mid a.engine answer g).restarted stays in omega arith);
      fewer = λ is. absurd (stays is);
      places = λ row e. (let p = places row e in let m = (acts.runs (was_open row e)).most in omega arith);
      cancel_places = λ no. cancel_place;
      pending = pending;
      anew = λ now none. (let x = o ∙ row_shut was a has none in acts.begins x (shut x).0 (shut x).1 now);
      room = left_in_room (ends_in a.run.current) (cancels_in a.run.current) left room;
      over = left.over;
      still = λ held row e. all row e ∙ ap (length {A = Ran}) (sym (left.ran held (was_open row e)));
      place = λ row e. (let some = (backed row e).least in omega arith);
      adds = λ no now row e. (leaves_backed mid a.engine call doing reserved settled answer g stays now).adds row.calls.room (backed row e).most;
      opens = λ now row e. (leaves_backed mid a.engine call doing reserved settled answer g stays now).opens row.calls.room (asks row e);
      nests = nests;
      began = began;
      renews = λ is. absurd (stays is);
    }

  -- its innermost block went back to its begin
  back_acting : (clock word : ℕ) → Ends mid (Restarted clock word) a.engine → Renews → MayRunOn a call (Answers (Restarted clock word))
  back_acting clock word g renews =
      let b = is_back mid a.engine clock word settled g in
      let free : is_held a.engine ≡ false = none_held a.engine b.revocable b.done in
      let row_now : HasRow true a = subst (λ (x : Bool). HasRow x a) (sym o ∙ b.was) has in
      record {
        first = first_here a mid a.engine call (Answers (Restarted clock word)) was o has doing g all;
        few = λ row e. (let f = few row e in let n = b.counted in omega arith);
        fewer = λ is row e. (let f = few row e in let n = b.counted in omega arith);
        places = λ row e. (let p = places row e in let n = b.most in omega arith);
        cancel_places = λ no. absurd (no tt);
        pending = pending;
        anew = λ now none. absurd (true≢false (sym b.was ∙ (o ∙ row_shut was a has none)));
        room = λ held. absurd (true≢false (sym held ∙ free));
        over = λ closed. absurd (true≢false (sym b.still ∙ closed));
        still = λ held. absurd (true≢false (sym held ∙ free));
        place = λ row e. (let some = (backed row e).least in omega arith);
        adds = λ no. absurd (no tt);
        opens = λ now row e. absurd (none-some row (sym (open_only _ row_now.1) ∙ e));
        nests = nests;
        began = began;
        renews = λ is. back_room mid a.engine b a.run.current all began (renews b.may);
      }

  -- whatever it gave
  pub gave_acting : (what : Next) → Proceeds mid what a.engine → (TakesRoom what → may_go_back mid ≡ true → BacksIn (length mid.arena) (total mid.actions) a.run.current) → (in_transaction mid ≡ false → (mid.actions.commits ≡ []) × (mid.actions.undos ≡ []))
      → ((step : Step) → what ≡ Asks step → (is_abort call ≡ false) × (is_some (registered_by call) ≡ false)) → MayRunOn a call what
  gave_acting (Asks step) g renews shut plain = waits_acting step g (plain step refl) (renews tt)
  gave_acting (Answers (Restarted clock word)) g renews shut plain = back_acting clock word g (renews tt)
  gave_acting (Answers answer) g renews shut plain = answered_acting answer g (λ is. is) shut

-- ## An actor that has no open attempt, and one whose attempt is changed

pub none_acting : {P : Type 0} (a : Actor P) → active_of a ≡ None → StartsEmpty a → NoCancel a.status → is_held a.engine ≡ false → AsksAs a a.status → NestsAs a.status a.run.current → BeganIn (stage_of a.run.current) → RenewsAs a a.status → IsActing a
none_acting a none pending status free asks nests began renews = record {
  all = λ row e. absurd (none-some row (sym none ∙ e));
  few = λ row e. absurd (none-some row (sym none ∙ e));
  places = λ row e. absurd (none-some row (sym none ∙ e));
  pending = pending;
  status = status;
  room = λ held some. absurd (true≢false (sym held ∙ free));
  backed = λ row e. absurd (none-some row (sym none ∙ e));
  asks = asks;
  nests = nests;
  began = began;
  renews = renews;
}

-- ## Told where its engine reads

module _ {P : Type 0} (a : Actor P) where
  -- where its run stands here
  abbrev pub at_current : Current → Actor P
  at_current c = record a { run = record a.run { current = c } }

  -- what goes by the status
  abbrev ByStatus : Status → Open → Type 0
  ByStatus s o = PromisesAs a.engine s o.row × AsksAs (at_current (Within o)) s × NestsAs s (Within o) × RenewsAs (at_current (Within o)) s

  moved_by : (s : Status) (o : Open) → ByStatus s o → ByStatus s (record o { row = record o.row { at = a.engine.snapshot / 2 } })
  moved_by Ready o x = x
  moved_by (Waits call step) o x = (
    record { least = x.0.least; most = x.0.most },
    record { pending = x.1.pending; backed = x.1.backed },
    x.2,
    λ may. (let b = x.3 may in record { room = b.room; has = b.has; records = b.records; arena = b.arena; undone = b.undone }),
  )
  moved_by (Ended end) o x = x

  moved_acting : (c : Current) → IsActing (at_current c) → IsActing (at_current (moved_to (a.engine.snapshot / 2) c))
  moved_acting (Within o) x =
      let same = moved_by a.status o (x.backed o.row refl, x.asks, x.nests, x.renews) in
      record {
        all = λ row e. ap told_in (sym (same_Some _ _ e)) ∙ x.all o.row refl;
        few = λ row e. (let n = ap (λ (y : Attempt). length y.restarts) (same_Some _ _ e) in let f = x.few o.row refl in omega arith);
        places = λ row e. x.places o.row refl;
        pending = x.pending;
        status = x.status;
        room = x.room;
        backed = λ row e. subst (PromisesAs a.engine a.status) (same_Some _ _ e) same.0;
        asks = same.1;
        nests = same.2;
        began = x.began;
        renews = same.3;
      }
  moved_acting c x = x

  pub told_acting : IsActing a → IsActing (told a)
  told_acting = moved_acting a.run.current

-- What a player that tells its room truly has left to call in an irrevocable transaction, over an answer: no more than its attempt has places for.
use Rattle.std.proofs.Common.{◌≡◌, ℕ, zero, suc, ◌-◌, ◌<◌, ◌≤◌, ◌&&◌, not, Bool, true, false, true≢false, nat_lt, if◌then◌else◌, length, Option, None, Some, IsSome, unwrap_or, refl, sym, ap, subst, ◌∙◌, inl, inr, arith}
use Rattle.event_rules.proofs.Common.{Actor, Answer, Asks, Attempt, Begin, Busy, Call, Cells, Code, Committed, Conflict, Core, Done, EndsWithin, Full, IsDeep, IsDone, IsFed, IsRestart, Mode, Next, NoMemory, Obeys, OpensBy, Replied, Reply, Restarted, Rows, Rules, Step, Tells, TellsRoom, Waits, Ways, abort_of, active_of, back_player, begin_call, begun_in, begun_shut, busy_player, cases_Bool, cond-false, cond-true, conflict_player, depth_after, depth_by, ending_of, engine_may, going_room, in_transaction, irrevocable_room, is_begin, is_commit, ltb-false, ltb-true, may_go, open_by, open_in, points_in, reply_cases, reply_player, restarts_left, row_open, row_shut, sent_same, stage_of, stage_open, stand_of, told_player, wanted, wanted_as, within_at}
use Rattle.event_rules.proofs.Engines.Intakes.{HasAnswered, HasTaken, not_starved, recorded}
use Rattle.tx_player.specs.Replies.{MayReply}
use Rattle.world_rules.specs.PlayerRooms.{ComesTo}

-- ## Room

told_if : (b : Bool) (room : ℕ) → IsSome (if b then Some room else None) → unwrap_or (if b then Some room else None) 0 ≡ room
told_if true room some = refl
told_if false room some = absurd (cc)

told_going : (going may few free : Bool) (room : ℕ) → IsSome (if going && may && few && free then Some room else None) → (if going then Some room else None) ≡ Some (unwrap_or (if going && may && few && free then Some room else None) 0)
told_going true true true true room some = refl
told_going going may few free room some = absurd (cc)

-- a call that makes its transaction irrevocable tells the room that it asks for
told_as_asked : (c : Core) (call : Call) → IsSome (irrevocable_room c call) → going_room call ≡ Some (unwrap_or (irrevocable_room c call) 0)
told_as_asked c (Begin props room) some = told_going props.goes_irrevocable (may_go c.blocks props) (nat_lt (length c.blocks) c.depth) (not c.irrevocable) room some
told_as_asked c (Mode room) some = ap (λ (n : ℕ). Some n) (sym (told_if _ room some))
told_as_asked c call some = absurd (cc)

module _ {P : Type 0} (rules : Rules P) where
  -- more room is enough as well
  pub more_within : (n m : ℕ) (p : P) → n ≤ m → EndsWithin rules n p → EndsWithin rules m p
  more_within zero zero p few e = e
  more_within zero (suc m) p few e = λ some call reply next may. absurd (let none = e call next in omega arith)
  more_within (suc n) zero p few e = absurd (omega arith)
  more_within (suc n) (suc m) p few e = λ some call reply next may. more_within n m (rules.answered p reply) (omega arith) (e some call reply next may)

  -- a call takes one place of it
  less_within : (n : ℕ) (p : P) (call : Call) (reply : Replied) → EndsWithin rules n p → 0 < rules.depth p → rules.next_call p ≡ Some call → MayReply (rules.depth p) call reply → EndsWithin rules (n - 1) (rules.answered p reply)
  less_within zero p call reply e some next may = absurd (let none = e call next in omega arith)
  less_within (suc n) p call reply e some next may = subst (λ (k : ℕ). EndsWithin rules k (rules.answered p reply)) (let one : n ≡ suc n - 1 = omega arith in one) (e some call reply next may)

  -- within a block it makes no call beyond it
  pub none_within : (n : ℕ) (p : P) (call : Call) → n ≡ 0 → EndsWithin rules n p → 0 < rules.depth p → rules.next_call p ≡ Some call → ⊥
  none_within zero p call none e some next = (let shut = e call next in omega arith)
  none_within (suc n) p call none e some next = omega arith

-- a call alone opens a block that begins one
deeper_begins : (deep : ℕ) (call : Call) (reply : Replied) → deep < depth_after deep call reply → is_begin call ≡ true
deeper_begins deep call reply more = by_kind (is_begin call) refl (is_commit call) (abort_of call) reply more
  where
    by_kind : (begin : Bool) → is_begin call ≡ begin → (commit : Bool) (abort : Option Bool) (r : Replied) → deep < depth_by begin commit abort deep r → is_begin call ≡ true
    by_kind true is commit abort r l = is
    by_kind false is true abort Done l = absurd (omega arith)
    by_kind false is false (Some true) (Code k) l = absurd (omega arith)
    by_kind false is false (Some false) (Code k) l = absurd (omega arith)
    by_kind begin is commit abort r l = absurd (omega arith)

-- ## An answer

-- how far a player has come from its first, and where its blocks go back to
module _ {P : Type 0} (rules : Rules P) (p : P) where
  abbrev pub Comes : P → Type 0
  Comes q = ((n : ℕ) × ComesTo rules n p q) × ((d : ℕ) → 1 < d → d ≤ rules.depth q → (n : ℕ) × ComesTo rules n p (rules.at_block q d))

  -- it has not moved
  pub comes_still : {a : Actor P} (q : P) → q ≡ a.run.player → IsFed rules p a → Comes q
  comes_still q same f = subst Comes (sym same) ((f.moves, f.comes), f.blocks)

  pub fed_by : (a : Actor P) → Comes a.run.player → (a.engine.irrevocable ≡ true → (row : Attempt) → active_of a ≡ Some row → EndsWithin rules row.calls.room a.run.player) → (ending_of a.status ≡ Some NoMemory → a.engine.irrevocable ≡ false) → IsFed rules p a
  fed_by a c within fed = record { moves = c.0.0; comes = c.0.1; blocks = c.1; within = within; fed = fed }

module _ {P : Type 0} {rules : Rules P} (laws : Obeys rules) {p : P} {a : Actor P} (before : IsFed rules p a) where
  -- a call has its reply
  reply_comes : (now : P) (call : Call) (reply : Replied) → now ≡ rules.answered a.run.player reply → rules.next_call a.run.player ≡ Some call → MayReply (rules.depth a.run.player) call reply → Comes rules p now
  reply_comes now call reply is asks may = ((suc before.moves, (a.run.player, before.comes, inl (call, reply, asks, may, is))), blocks)
    where
      blocks : (d : ℕ) → 1 < d → d ≤ rules.depth now → (k : ℕ) × ComesTo rules k p (rules.at_block now d)
      blocks d inner few =
          let deep : rules.depth now ≡ depth_after (rules.depth a.run.player) call reply = ap rules.depth is ∙ laws.nests a.run.player call reply asks in
          let law = ap (λ (q : P). rules.at_block q d) is ∙ laws.begins a.run.player call reply asks d (omega arith) (omega arith) in
          elim (cases_Bool (nat_lt (rules.depth a.run.player) d)) [
            | inl new ↦
                (let more : rules.depth a.run.player < d = ltb-true (rules.depth a.run.player) d new in
                let b = begin_call call (deeper_begins (rules.depth a.run.player) call reply (omega arith)) in
                (suc before.moves, (a.run.player, before.comes, inl (call, Code 5, asks, subst (λ (c : Call). MayReply (rules.depth a.run.player) c (Code 5)) (sym b.2) tt, law ∙ cond-true (nat_lt (rules.depth a.run.player) d) _ _ new))))
            | inr old ↦
                (let less : d ≤ rules.depth a.run.player = ltb-false (rules.depth a.run.player) d old in
                let there = before.blocks d inner less in
                (there.0, subst (ComesTo rules there.0 p) (sym (law ∙ cond-false (nat_lt (rules.depth a.run.player) d) _ _ old)) there.1))
          ]

module _ {P : Type 0} {rules : Rules P} (laws : Obeys rules) {cells cells' : Cells} {r : Rows} {mid : Core} {a : Actor P} {call : Call} (p : P) (tells_room : TellsRoom rules p) (before : IsFed rules p (record a { engine = mid })) (shut : in_transaction mid ≡ false → mid.irrevocable ≡ false) where
  -- the call waits for a step
  waits_left : {was : Bool} (step : Step) → HasTaken rules was cells cells' r mid a call (Asks step) → IsFed rules p (record a { status = Waits call step })
  waits_left step t = record { moves = before.moves; comes = before.comes; blocks = before.blocks; within = λ h. before.within (sym (ap (λ (c : Core). c.irrevocable) t.proceeds.stays) ∙ h); fed = λ e. absurd (cc) }

  module _ {r1 : Rows} {last : Actor P} where
    reply_may : {b : Bool} (reply : Replied) → HasAnswered rules b cells cells' r r1 mid a last call (Reply reply) → MayReply (rules.depth a.run.player) call reply
    reply_may reply t = subst (λ (d : ℕ). MayReply d call reply) (sym t.taken.depth) (engine_may mid a.engine reply call t.taken.doing t.taken.tied.settled t.ends)

    comes_on : (b : Bool) (answer : Answer) → HasAnswered rules b cells cells' r r1 mid a last call answer → Comes rules p last.run.player
    comes_on b (Reply reply) t = reply_comes laws before last.run.player call reply (reply_player reply t.told) t.answered.in_call.asks (reply_may reply t)
    comes_on b (Committed at wrote) t = reply_comes laws before last.run.player call Done (told_player t.told.takes) t.answered.in_call.asks (subst (λ (c : Call). MayReply (rules.depth a.run.player) c Done) (sym t.answered.fits.2) (λ some. refl))
    comes_on true (Conflict clock word) t =
        let is = conflict_player t.told (within_at a t.answered.kept.row.0) (stage_open _ t.answered.kept.row.1) in
        ((suc before.moves, (a.run.player, before.comes, inr (t.answered.nested.deep, is))), λ d inner few. (let none = ap rules.depth is ∙ t.answered.nested.begun refl in absurd (omega arith)))
    comes_on false (Conflict clock word) t = comes_still rules p last.run.player (conflict_player t.told (stage_of a.run.current) refl ∙ sent_same rules (stage_of a.run.current) a.run.player t.answered.kept.row) before
    comes_on true (Restarted clock word) t =
        let is = back_player t.told (stage_open _ t.answered.kept.row.1) in
        let block = t.answered.nested.blocks (rules.depth a.run.player) t.answered.nested.deep (omega arith) in
        let deep : rules.depth last.run.player ≡ rules.depth a.run.player = ap rules.depth is ∙ block.depth in
        let there = before.blocks (rules.depth a.run.player) t.answered.fits.3 (omega arith) in (
          (there.0, subst (ComesTo rules there.0 p) (sym is) there.1),
          λ d inner few.
              (let outer = before.blocks d inner (omega arith) in
              (outer.0, subst (ComesTo rules outer.0 p) (sym (ap (λ (q : P). rules.at_block q d) is ∙ block.around d (omega arith) (omega arith))) outer.1)),
        )
    comes_on false (Restarted clock word) t = absurd (let f : false ≡ true = t.answered.fits.0 in cc)
    comes_on b (Busy clock) t = comes_still rules p last.run.player (busy_player t.told) before
    comes_on b (Full at) t = comes_still rules p last.run.player (told_player t.told.takes) before

    -- as it has just become irrevocable
    entered_left : {was : Bool} (reply : Replied) → HasAnswered rules was cells cells' r r1 mid a last call (Reply reply) → IsSome (irrevocable_room mid call) → (room : ℕ) → wanted mid ≤ room → EndsWithin rules room (rules.answered a.run.player reply)
    entered_left reply t goes_so room enough =
        let asked : wanted mid ≡ unwrap_or (irrevocable_room mid call) 0 = wanted_as mid call t.taken.doing in
        more_within rules (unwrap_or (irrevocable_room mid call) 0) room (rules.answered a.run.player reply) (omega arith)
        (tells_room before.moves a.run.player call reply (unwrap_or (irrevocable_room mid call) 0) before.comes t.answered.in_call.asks (reply_may reply t) (told_as_asked mid call goes_so))

    -- no block goes back in an irrevocable transaction
    back_free : {was : Bool} (answer : Answer) → HasAnswered rules was cells cells' r r1 mid a last call answer → IsRestart answer → a.engine.irrevocable ≡ false
    back_free (Restarted clock word) t is = ap (λ (c : Core). c.irrevocable) t.ends.stays ∙ t.ends.revocable
    back_free answer t is = absurd is

    -- an open attempt had its reply
    within_on : {was : Bool} (answer : Answer) → HasAnswered rules was cells cells' r r1 mid a last call answer → a.engine.irrevocable ≡ true → (row : Attempt) → active_of last ≡ Some row → EndsWithin rules row.calls.room last.run.player
    within_on {was} answer t held row e =
        elim (open_by t.told row e).2 [
          | inl x ↦
              (let m = subst (λ (y : Answer). HasAnswered rules was cells cells' r r1 mid a last call y) x.1 t in
              subst (EndsWithin rules row.calls.room) (sym (reply_player x.0 m.told)) (by_case x.0 m x.2 (reply_cases mid a.engine call x.0 m.taken.doing m.ends)))
          | inr x ↦ absurd (true≢false (sym held ∙ back_free answer t x.0))
        ]
      where
        by_case : (reply : Replied) → HasAnswered rules was cells cells' r r1 mid a last call (Reply reply) → OpensBy (stage_of a.run.current) call (Reply reply) (stand_of last.engine) row (points_in (stage_of last.run.current)) → Ways mid a.engine call reply → EndsWithin rules row.calls.room (rules.answered a.run.player reply)
        by_case reply m y (inl w) = absurd (true≢false (sym held ∙ (ap (λ (c : Core). c.irrevocable) w.stays ∙ w.revocable)))
        by_case reply m (inl y) (inr (inl w)) = (let place = m.taken.place y.0 (ap open_in y.2) in let room = ap (λ (x : Attempt). x.calls.room) y.3 in entered_left reply m w.goes row.calls.room (omega arith))
        by_case reply m (inr y) (inr (inl w)) = (let room = ap (λ (x : Attempt). x.calls.room) y.2 ∙ m.taken.pending y.0 (ap begun_in y.1) in entered_left reply m w.goes row.calls.room (omega arith))
        by_case reply m (inl y) (inr (inr w)) =
            let here = ap open_in y.2 in
            let deep = subst (λ (b : Bool). IsDeep b (rules.depth a.run.player)) (row_open was a y.0 m.answered.kept.row here) m.answered.nested.deep in
            subst (λ (k : ℕ). EndsWithin rules k (rules.answered a.run.player reply)) (sym (ap (λ (x : Attempt). x.calls.room) y.3)) (less_within rules y.0.calls.room a.run.player call reply (before.within w.irrevocable y.0 here) deep m.answered.in_call.asks (reply_may reply m))
        by_case reply m (inr y) (inr (inr w)) = absurd (true≢false (sym w.irrevocable ∙ shut (m.taken.was_is ∙ row_shut was a m.answered.kept.row (begun_shut _ (ap begun_in y.1)))))

  -- it waits, or is answered
  pub fed_recorded : {was : Bool} {what : Next} (r1 : Rows) (last : Actor P) → HasTaken rules was cells cells' r mid a call what → IsDone rules was (restarts_left mid) r r1 a last call what → Tells rules r r1 a last call what → IsFed rules p last
  fed_recorded {was} r1 last m done tells =
      recorded (λ x y. IsFed rules p y) m done tells waits_left (λ answer is t. fed_by rules p last (comes_on was answer t)
      (λ held row e. within_on answer t (sym (ap (λ (c : Core). c.irrevocable) t.settled.engine) ∙ held) row e) (λ e. absurd (not_starved rules r r1 a last call answer t.told e)))

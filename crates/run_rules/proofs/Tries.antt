-- A try of a block: its calls go on alone, and it is over, or is to be told as it stands.
use Rattle.std.proofs.Common.{◌≡◌, ℕ, ◌+◌, ◌<◌, ◌≤◌, Bool, true, false, if◌then◌else◌, List, [], ◌∷◌, ◌++◌, length, map, None, Some, refl, sym, ap, subst, ◌∙◌, arith, append-nil, append_assoc}
use Rattle.run_rules.proofs.Common.{AreRestarts, Attempt, Begin, Beginning, Between, Breaks, Call, CallRecord, EndsAs, IsAlone, IsOfBlock, IsTryAt, LacksClock, Obeys, Outcome, Props, Ran, Reply, Rules, State, after, after_try, again_more, all_more, alone_snoc, answers_through, begin_code, begins_alone, breaks_after, breaks_of, follows, gets_none, gets_through, grown, is_begin, is_done, is_open, map-append, opened, player_snoc, player_then, ran_of, reply, state_more, state_then, takes_clock, turn}
use Rattle.tx_attempts.{specs.Attempts.ClosedBy, specs.Attempts.alone, specs.Attempts.pair_of, specs.Outrun.IsDisturbed}
use Rattle.tx_attempts.specs.declared.attempt.Outcome.TheVariants as outcomes

-- a begin, by its arguments
pub begin_call : (call : Call) → is_begin call ≡ true → (props : Props) × (room : ℕ) × (call ≡ Begin props room)
begin_call (Begin props room) e = (props, room, refl)
begin_call call e = absurd (cc)

pub no_begin : (call : Call) → ((props : Props) (room : ℕ) → call ≡ Begin props room → ⊥) → is_begin call ≡ false
no_begin (Begin props room) not = absurd (not props room refl)
no_begin call not = refl

-- one whose block has not ended
pub not_closed : (outcome : Outcome) → is_done outcome ≡ false → (calls : List CallRecord) → ClosedBy outcome calls
not_closed outcomes.Committed e calls = absurd (cc)
not_closed outcomes.ReadOnly e calls = absurd (cc)
not_closed outcomes.Cancelled e calls = absurd (cc)
not_closed outcome e calls = tt

-- after one whose block has ended the player goes on where its calls led
pub follows_done : {P : Type 0} (rules : Rules P) (deepest : ℕ) (outcome : Outcome) → is_done outcome ≡ true → (p : P) (a : Attempt) (s : State) → follows rules deepest outcome p a s ≡ Some (record { player = player_then rules.answered p a.calls.list; arena = s.arena; again = false; tries = 0 })
follows_done rules deepest outcomes.Committed done p a s = refl
follows_done rules deepest outcome done p a s = cc

-- a commit is a writer's or not
pub by_wrote : (Q : Outcome → Type 0) (wrote : Bool) → (wrote ≡ true → Q outcomes.Committed) → (wrote ≡ false → Q outcomes.ReadOnly) → Q (if wrote then outcomes.Committed else outcomes.ReadOnly)
by_wrote Q true writer reader = writer refl
by_wrote Q false writer reader = reader refl

-- with other room for its calls, elsewhere, an attempt is of the same block
abbrev pub block_with : {P : Type 0} {rules : Rules P} {deepest : ℕ} {b : Between P} {row : Attempt} {p : P} (at room : ℕ) → IsOfBlock rules deepest b row p → IsOfBlock rules deepest b (record row { at = at; calls = record row.calls { room = room } }) p
block_with at room t = record { start = t.start; begins = t.begins; arena = t.arena; props = t.props; tries = t.tries; player = t.player }

-- and with one call more
abbrev pub block_more : {P : Type 0} {rules : Rules P} {deepest : ℕ} {b : Between P} {row : Attempt} {p : P} (x : CallRecord) (ran : List Ran) → IsOfBlock rules deepest b row p → IsOfBlock rules deepest b (record row { calls = grown row.calls x; ran = ran }) (rules.answered p x.reply)
block_more {rules = rules} {b = b} {row = row} x ran t = record {
  start = t.start;
  begins = t.begins;
  arena = t.arena;
  props = t.props;
  tries = t.tries;
  player = ap (λ q. rules.answered q x.reply) t.player ∙ sym (player_snoc rules.answered (rules.answered t.start.player (begin_code b.again)) row.calls.list x);
}

-- over these bytes its calls are made alone, and lead to an open block
pub record IsMadeAlone {P : Type 0} (rules : Rules P) (deepest : ℕ) (b : Between P) (start : Beginning P) (row : Attempt) (memory : List ℕ) : Type 0 where
  pub alone : IsAlone rules deepest (breaks_of row.restarts) (rules.answered start.player (begin_code b.again)) (opened memory start.arena start.props) row.calls.list
  pub still_open : is_open (state_then deepest (breaks_of row.restarts) (opened memory start.arena start.props) row.calls.list) ≡ true
  pub again : AreRestarts deepest row memory

-- and with more calls
pub restarts_more : (deepest : ℕ) (row : Attempt) (memory : List ℕ) (more : List CallRecord) (at room : ℕ) (ran : List Ran) (outcome : Outcome) → AreRestarts deepest row memory
    → AreRestarts deepest (record row { calls = record { list = row.calls.list ++ more; room = room }; at = at; ran = ran; outcome = outcome }) memory
restarts_more deepest row memory more at room ran outcome g = record {
  stand = again_more (length row.arena) 0 row.calls.list more row.restarts g.stand;
  revocable = all_more (λ (xs : List CallRecord). (state_then deepest (breaks_of row.restarts) (opened memory row.arena row.props) xs).irrevocable ≡ false) (length row.arena) 0 row.calls.list more row.restarts g.stand g.revocable;
}

module _ {P : Type 0} {rules : Rules P} (laws : Obeys rules) (deepest : ℕ) where
  -- a call that the player makes in its open block
  pub alone_more : (br : Breaks) (p q : P) (s : State) (xs : List CallRecord) (x : CallRecord) → IsAlone rules deepest br p s xs → is_open (state_then deepest br s xs) ≡ true → q ≡ player_then rules.answered p xs → rules.next_call q ≡ Some x.call
      → x.reply ≡ reply deepest (state_then deepest br s xs) x.call → IsAlone rules deepest br p s (xs ++ x ∷ [])
  alone_more br p q s xs x h opened is asks =
      alone_snoc rules laws deepest br p s xs x h (ap (λ (o : Bool). if o then rules.next_call (player_then rules.answered p xs) else None) opened ∙ (ap rules.next_call (sym is) ∙ asks))

  -- calls made alone that end their block are all that the player makes
  pub all_alone : (br : Breaks) (p : P) (memory : List ℕ) (arena : List ℕ) (props : Props) (xs : List CallRecord) → IsAlone rules deepest br p (opened memory arena props) xs → is_open (state_then deepest br (opened memory arena props) xs) ≡ false
      → answers_through rules.next_call rules.answered rules.calls_left deepest br p memory arena props ≡ map pair_of xs
  all_alone br p memory arena props xs h shut =
      let s : State = opened memory arena props in
      begins_alone rules laws deepest (rules.calls_left p) br p s xs (omega arith) h
      ∙ (ap (λ (rest : List (Call × Reply)). map pair_of xs ++ rest) (no_more (rules.calls_left p) (breaks_after br xs) (player_then rules.answered p xs) (state_then deepest br s xs) shut) ∙ append-nil (map pair_of xs))
    where
      no_more : (k : ℕ) (c : Breaks) (q : P) (s : State) → is_open s ≡ false → gets_through rules.next_call rules.answered rules.calls_left deepest k c q s (turn rules.next_call rules.answered rules.calls_left q s) ≡ []
      no_more k c q s shut = ap (λ (o : Bool). gets_through rules.next_call rules.answered rules.calls_left deepest k c q s (if o then rules.next_call q else None)) shut ∙ gets_none rules laws deepest k c q s

  -- its calls are the first of those that its player makes alone on the memory of its position, and all of them where its block has ended
  pub is_try : (n : ℕ) (memory : ℕ → List ℕ) (b : Between P) (start : Beginning P) (row : Attempt) → row.arena ≡ start.arena → row.props ≡ start.props → b.tries < row.nth → IsDisturbed row → row.at ≤ n
      → IsAlone rules deepest (breaks_of row.restarts) (rules.answered start.player (begin_code b.again)) (opened (memory row.at) start.arena start.props) row.calls.list
      → EndsAs row.outcome (state_then deepest (breaks_of row.restarts) (opened (memory row.at) start.arena start.props) row.calls.list)
      → ClosedBy row.outcome row.calls.list → row.ran ≡ ran_of row.outcome (state_then deepest (breaks_of row.restarts) (opened (memory row.at) start.arena start.props) row.calls.list)
      → (row.outcome ≡ outcomes.Full → LacksClock rules deepest (rules.answered start.player (begin_code b.again)) row (memory row.at)) → AreRestarts deepest row (memory row.at)
      → IsTryAt rules deepest n memory b (Some start) row
  is_try n memory b start row arena props tries older newer h ends closed ran full again =
      let p : P = rules.answered start.player (begin_code b.again) in
      let same : opened (memory row.at) row.arena row.props ≡ opened (memory row.at) start.arena start.props = λ i. opened (memory row.at) (arena i) (props i) in
      let alone_so : IsAlone rules deepest (breaks_of row.restarts) p (opened (memory row.at) row.arena row.props) row.calls.list = subst (λ (s : State). IsAlone rules deepest (breaks_of row.restarts) p s row.calls.list) (sym same) h in (
        arena,
        props,
        tries,
        record {
          no_older = older;
          no_newer = newer;
          beginning = (_, sym (begins_alone rules laws deepest (rules.calls_left p) (breaks_of row.restarts) p (opened (memory row.at) row.arena row.props) row.calls.list (omega arith) alone_so));
          whole = λ closed. sym (all_alone (breaks_of row.restarts) p (memory row.at) row.arena row.props row.calls.list alone_so closed);
          ends = subst (λ (x : State). EndsAs row.outcome (state_then deepest (breaks_of row.restarts) x row.calls.list)) (sym same) ends;
          closed = closed;
          ran = ran ∙ ap (λ (x : State). ran_of row.outcome (state_then deepest (breaks_of row.restarts) x row.calls.list)) (sym same);
          again = again;
          full = full;
        },
      )

  -- and so they are with other room for more
  pub try_of_room : (n : ℕ) (memory : ℕ → List ℕ) (b : Between P) (start : Beginning P) (row : Attempt) (room : ℕ) → IsTryAt rules deepest n memory b (Some start) row
      → IsTryAt rules deepest n memory b (Some start) (record row { calls = record row.calls { room = room } })
  try_of_room n memory b start row room t =
      let o = t.3 in (
        t.0,
        t.1,
        t.2,
        record {
          no_older = o.no_older;
          no_newer = o.no_newer;
          beginning = o.beginning;
          whole = o.whole;
          ends = o.ends;
          closed = o.closed;
          ran = o.ran;
          again = record { stand = o.again.stand; revocable = o.again.revocable };
          full = λ f. (let l = o.full f in record { call = l.call; rest = l.rest; answers_are = l.answers_are; revocable = l.revocable; takes = l.takes });
        },
      )

  -- ## Over one memory

  module _ {b : Between P} {row : Attempt} {p : P} (t : IsOfBlock rules deepest b row p) where
    -- its calls alone, by its own fields
    pub alone_led : (memory : List ℕ) → alone deepest memory row ≡ state_then deepest (breaks_of row.restarts) (opened memory t.start.arena t.start.props) row.calls.list
    alone_led memory = λ i. state_then deepest (breaks_of row.restarts) (opened memory (t.arena i) (t.props i)) row.calls.list

    -- ## Without a commit

    -- in conflict, full, for want of memory, or not ended yet
    pub try_stops : (n : ℕ) (memories : ℕ → List ℕ) (k : ℕ) (memory : List ℕ) → memories k ≡ memory → (outcome : Outcome) (ran : List Ran) → is_done outcome ≡ false → IsMadeAlone rules deepest b t.start row memory → EndsAs outcome (state_then deepest (breaks_of row.restarts) (opened memory t.start.arena t.start.props) row.calls.list)
        → row.began + length row.restarts ≤ k → k ≤ n → ran ≡ ran_of outcome (state_then deepest (breaks_of row.restarts) (opened memory t.start.arena t.start.props) row.calls.list)
        → (outcome ≡ outcomes.Full → LacksClock rules deepest (rules.answered t.start.player (begin_code b.again)) row memory)
        → IsTryAt rules deepest n memories b (Some t.start) (record row { at = k; ran = ran; outcome = outcome })
    try_stops n memories k memory here outcome ran undone made ends older newer ran_is full =
        is_try n memories b t.start (record row { at = k; ran = ran; outcome = outcome }) t.arena t.props t.tries older newer
        (subst (λ (bytes : List ℕ). IsAlone rules deepest (breaks_of row.restarts) (rules.answered t.start.player (begin_code b.again)) (opened bytes t.start.arena t.start.props) row.calls.list) (sym here) made.alone)
        (subst (λ (bytes : List ℕ). EndsAs outcome (state_then deepest (breaks_of row.restarts) (opened bytes t.start.arena t.start.props) row.calls.list)) (sym here) ends) (not_closed outcome undone row.calls.list)
        (ran_is ∙ ap (λ (bytes : List ℕ). ran_of outcome (state_then deepest (breaks_of row.restarts) (opened bytes t.start.arena t.start.props) row.calls.list)) (sym here))
        (λ f. (let l = subst (LacksClock rules deepest (rules.answered t.start.player (begin_code b.again)) row) (sym here) (full f) in record { call = l.call; rest = l.rest; answers_are = l.answers_are; revocable = l.revocable; takes = l.takes }))
        (let again = subst (AreRestarts deepest row) (sym here) made.again in record { stand = again.stand; revocable = again.revocable })

    -- ## One call more

    module _ (memory : List ℕ) (call : Call) (r : Reply) (made : IsMadeAlone rules deepest b t.start row memory) (asks : rules.next_call p ≡ Some call)
        (replied : r ≡ reply deepest (state_then deepest (breaks_of row.restarts) (opened memory t.start.arena t.start.props) row.calls.list) call) where
      abbrev pub last : CallRecord
      last = record { call = call; reply = r }

      abbrev pub by : P
      by = rules.answered t.start.player (begin_code b.again)

      abbrev pub from : State
      from = opened memory t.start.arena t.start.props

      pub closing_state : state_then deepest (breaks_of row.restarts) (opened memory t.start.arena t.start.props) (row.calls.list ++ record { call = call; reply = r } ∷ []) ≡ after deepest (state_then deepest (breaks_of row.restarts) (opened memory t.start.arena t.start.props) row.calls.list) call
      closing_state = state_more (length row.arena) deepest row.restarts from row.calls.list last made.again.stand

      pub closing_alone : IsAlone rules deepest (breaks_of row.restarts) (rules.answered t.start.player (begin_code b.again)) (opened memory t.start.arena t.start.props) (row.calls.list ++ record { call = call; reply = r } ∷ [])
      closing_alone = alone_more (breaks_of row.restarts) by p from row.calls.list last made.alone made.still_open t.player asks replied

      -- its last call ends its block: the state that it leaves is that of the call
      pub try_closes : (room n : ℕ) (memories : ℕ → List ℕ) (at : ℕ) (outcome : Outcome) (ran : List Ran) → memories at ≡ memory → row.began + length row.restarts ≤ at → at ≤ n → EndsAs outcome (after deepest (state_then deepest (breaks_of row.restarts) (opened memory t.start.arena t.start.props) row.calls.list) call)
          → ClosedBy outcome (row.calls.list ++ record { call = call; reply = r } ∷ []) → ran ≡ ran_of outcome (after deepest (state_then deepest (breaks_of row.restarts) (opened memory t.start.arena t.start.props) row.calls.list) call) → (outcome ≡ outcomes.Full → ⊥)
          → IsTryAt rules deepest n memories b (Some t.start) (record row { calls = record { list = row.calls.list ++ record { call = call; reply = r } ∷ []; room = room }; at = at; ran = ran; outcome = outcome })
      try_closes room n memories at outcome ran here older newer ends closed ran_is never =
          let so : state_then deepest (breaks_of row.restarts) (opened (memories at) t.start.arena t.start.props) (row.calls.list ++ last ∷ []) ≡ after deepest (state_then deepest (breaks_of row.restarts) from row.calls.list) call =
          ap (λ (bytes : List ℕ). state_then deepest (breaks_of row.restarts) (opened bytes t.start.arena t.start.props) (row.calls.list ++ last ∷ [])) here ∙ closing_state in
          is_try n memories b t.start (record row { calls = record { list = row.calls.list ++ last ∷ []; room = room }; at = at; ran = ran; outcome = outcome }) t.arena t.props t.tries older newer
          (subst (λ (bytes : List ℕ). IsAlone rules deepest (breaks_of row.restarts) by (opened bytes t.start.arena t.start.props) (row.calls.list ++ last ∷ [])) (sym here) closing_alone)
          (subst (EndsAs outcome) (sym so) ends) closed (ran_is ∙ ap (ran_of outcome) (sym so)) (λ f. absurd (never f))
          (restarts_more deepest row (memories at) (last ∷ []) at room ran outcome (subst (AreRestarts deepest row) (sym here) made.again))

      pub closing_left : (room at : ℕ) (outcome : Outcome) (ran : List Ran)
          → alone deepest memory (record row { calls = record { list = row.calls.list ++ record { call = call; reply = r } ∷ []; room = room }; at = at; ran = ran; outcome = outcome })
          ≡ after deepest (state_then deepest (breaks_of row.restarts) (opened memory t.start.arena t.start.props) row.calls.list) call
      closing_left room at outcome ran = (λ i. state_then deepest (breaks_of row.restarts) (opened memory (t.arena i) (t.props i)) (row.calls.list ++ last ∷ [])) ∙ closing_state

      -- the player goes on from there
      pub closing_after : (room at : ℕ) (outcome : Outcome) (ran : List Ran) (memories : ℕ → List ℕ) → memories at ≡ memory → is_done outcome ≡ true
          → after_try rules deepest memories b (Some t.start) (record row { calls = record { list = row.calls.list ++ record { call = call; reply = r } ∷ []; room = room }; at = at; ran = ran; outcome = outcome })
          ≡ Some (record { player = rules.answered p r; arena = (after deepest (state_then deepest (breaks_of row.restarts) (opened memory t.start.arena t.start.props) row.calls.list) call).arena; again = false; tries = 0 })
      closing_after room at outcome ran memories here done =
          let over : Attempt = record row { calls = record { list = row.calls.list ++ last ∷ []; room = room }; at = at; ran = ran; outcome = outcome } in
          let player : player_then rules.answered by (row.calls.list ++ last ∷ []) ≡ rules.answered p r = player_snoc rules.answered by row.calls.list last ∙ ap (λ q. rules.answered q r) (sym t.player) in
          follows_done rules deepest outcome done by over _ ∙ (λ i. Some (record { player = player i; arena = (ap (λ (s : State). s.arena) (ap (λ (bytes : List ℕ). alone deepest bytes over) here ∙ closing_left room at outcome ran)) i; again = false; tries = 0 }))

      -- it takes the clock, which is refused as full
      pub lacks_clock : (state_then deepest (breaks_of row.restarts) (opened memory t.start.arena t.start.props) row.calls.list).irrevocable ≡ false → takes_clock (after deepest (state_then deepest (breaks_of row.restarts) (opened memory t.start.arena t.start.props) row.calls.list) call) ≡ true
          → LacksClock rules deepest (rules.answered t.start.player (begin_code b.again)) row memory
      lacks_clock revocable takes =
          let here = alone_led memory in
          let after_all : List (Call × Reply) = gets_through rules.next_call rules.answered rules.calls_left deepest (rules.calls_left by) (breaks_after (breaks_of row.restarts) (row.calls.list ++ last ∷ [])) (player_then rules.answered by (row.calls.list ++ last ∷ [])) (state_then deepest (breaks_of row.restarts) from (row.calls.list ++ last ∷ []))
          (turn rules.next_call rules.answered rules.calls_left (player_then rules.answered by (row.calls.list ++ last ∷ [])) (state_then deepest (breaks_of row.restarts) from (row.calls.list ++ last ∷ []))) in
          record {
            call = call;
            rest = after_all;
            answers_are = (λ i. answers_through rules.next_call rules.answered rules.calls_left deepest (breaks_of row.restarts) by memory (t.arena i) (t.props i))
                ∙ (begins_alone rules laws deepest (rules.calls_left by) (breaks_of row.restarts) by from (row.calls.list ++ last ∷ []) (let l : rules.calls_left by ≤ rules.calls_left by = omega arith in l) closing_alone
                ∙ (ap (λ (xs : List (Call × Reply)). xs ++ after_all) (map-append pair_of row.calls.list (last ∷ []))
                ∙ (append_assoc (map pair_of row.calls.list) ((call, r) ∷ []) after_all
                ∙ ap (λ (x : Reply). map pair_of row.calls.list ++ (call, x) ∷ after_all) (replied ∙ ap (λ (x : State). reply deepest x call) (sym here)))));
            revocable = ap (λ (x : State). x.irrevocable) here ∙ revocable;
            takes = ap (λ (x : State). takes_clock (after deepest x call)) here ∙ takes;
          }

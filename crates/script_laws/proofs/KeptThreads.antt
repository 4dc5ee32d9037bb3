-- What is kept of a thread of nested code from call to call.
use Rattle.std.proofs.Common.{◌≡◌, ◌⊎◌, inl, inr, ℕ, zero, suc, ◌+◌, ◌-◌, ◌<◌, ◌≤◌, Bool, true, false, true≢false, nat_lt, List, [], ◌∷◌, length, None, Some, IsSome, unwrap_or, refl, sym, ap, subst, ◌∙◌, arith, append-nil}
use Rattle.script_laws.proofs.Common.{Account, Attempt, Begin, Call, Code, Core, Done, Gating, GaveUp, HasMade, Instruction, IsDeep, IsNested, MayReply, Nested, Nests, Replied, Savepoint, Stage, Standing, Taken, Thread, Ways, Words, account_after, answered, answered_deepest, asked, at_block, at_block_deepest, back_nested, begins_again, begun, both, cases_Bool, cond-false, cond-true, course_of, depth_after, depth_of, first_account, gone_back, in_transaction, irrevocable_room, is_begin, is_inside, is_within, left, ltb-false, ltb-true, next_call, opening, opening_nested, outside, plays, reply_cases, reserved, restarted, restarted_deepest, sent_back, stage_at, stand_of, start_of, thread_laws, thread_rules, took_in, within}
use Rattle.nest_frames.specs.Nest.{Frame}
use Rattle.norec_core.proofs.Engines.Blocks.{none_inside}
use Rattle.norec_core.specs.declared.answer.Answer.{Answer}
use Rattle.norec_core.specs.declared.answer.Answer.TheVariants.{Busy, Committed, Conflict, Full, Reply, Restarted}
use Rattle.shared_words.specs.Passes.{Owns, cells_of, commits_known, view_of}
use Rattle.call_rules.{specs.CallResults.IsAnswered, specs.Served.Start, specs.Ties.Stands, proofs.LaterViews.went_self}
use Rattle.tx_attempts.proofs.LaterClocks.{outrun_none}
use Rattle.run_rules.{proofs.EngineReplies.engine_may, proofs.IrrevocableCalls.goes_same, proofs.Players.nested_outside}
use Rattle.worker_rules.{specs.Progress.Course, specs.Progress.IsRunning, proofs.Machines.LastEvents.IsLast, proofs.Machines.LastEvents.last_event}
use Rattle.script_laws.proofs.RepliedThreads.{HasLeft, deeper_begins, engine_fits, entered_may, one_deeper, open_room, replied_player, reserved_least, told_as_asked, tried_so}

-- ## Before the first call

pub some_open : (bs : List Frame) → length bs ≡ 0 → is_inside bs ≡ false
some_open [] e = refl
some_open (b ∷ bs) e = absurd (omega arith)

pub inner_open : (bs : List Frame) → is_within bs ≡ true → 1 < length bs
inner_open (b ∷ outer ∷ bs) e = omega arith
inner_open bs e = absurd (cc)

module _ (words : Words) (start : Standing) (code : List Instruction) (number retries : ℕ) where
  abbrev pub deepest : ℕ
  deepest = start.engine.depth

  abbrev pub course : Course Thread
  course = course_of start (opening deepest code) number retries

  first_running : Stands (view_of start.pass) start.engine → in_transaction start.engine ≡ false → IsRunning thread_rules course (view_of start.pass) start.engine (first_account (opening deepest code))
  first_running stands shut = record {
    has_run = record { went = went_self (view_of start.pass); run = tt; left = tt; since = tt; known = stands.over.known; own = tt; few = tt; outrun = outrun_none (view_of start.pass).high };
    mine = sym (append-nil (view_of start.pass).mine);
    tried = omega arith;
    tries = omega arith;
    nested = subst (λ (i : Bool). Nested thread_rules i (opening deepest code)) (sym shut) (nested_outside thread_rules (opening deepest code) refl);
    depth = sym (ap length (none_inside start.engine.blocks shut));
    deepest = refl;
    limit = refl;
    inside = λ i. absurd (true≢false (sym i ∙ shut));
    outside = λ o. record {
      between = record { player = opening deepest code; arena = start.engine.arena; again = false; tries = 0 };
      stage_is = refl;
      now_is = refl;
      before = record { calls = 0; leads = (refl, refl); again = refl; tries = omega arith };
      known = (let l : commits_known (view_of start.pass) ≤ commits_known (view_of start.pass) = omega arith in l);
      looked = omega arith;
    };
  }

  -- what is kept from call to call: its code is nested, and so is that to which a block goes back, no more blocks are open than may be, and an irrevocable attempt has room for all calls up to its end
  pub record IsKept (a : Account Thread) (s : Standing) : Type 0 where
    pub own : Owns words s.pass
    pub stands : Stands (view_of s.pass) s.engine
    pub running : IsRunning thread_rules course (view_of s.pass) s.engine a
    pub nested : IsNested a.player
    pub blocks : (d : ℕ) → 1 < d → d ≤ depth_of a.player → IsNested (at_block a.player d)
    pub deep : a.player.deepest ≡ deepest
    pub few : depth_of a.player ≤ deepest
    pub room : s.engine.irrevocable ≡ true → (row : Attempt) (points : List Savepoint) → a.stage ≡ within row points → left a.player ≤ row.calls.room

  pub first_kept : Nests code [] → Owns words start.pass → Stands (view_of start.pass) start.engine → in_transaction start.engine ≡ false → IsKept (first_account (opening deepest code)) start
  first_kept nests own stands shut = record {
    own = own;
    stands = stands;
    running = first_running stands shut;
    nested = opening_nested deepest code nests;
    blocks = λ d some few. absurd (omega arith);
    deep = refl;
    few = omega arith;
    room = λ held row points is. absurd (let f : outside ≡ within row points = is in cc);
  }

  -- ## From call to call

  module _ (a : Account Thread) (s : Standing) (k : IsKept a s) (s' : Standing) (call : Call) (asks : next_call a.player ≡ Some call) where
    abbrev came_so : Start
    came_so = start_of s call (begins_again a.stage a.again call)

    abbrev Answered : Answer → Type 0
    Answered answer = IsAnswered words came_so answer s'.pass s'.engine

    abbrev ahead : ℕ
    ahead = unwrap_or (irrevocable_room s.engine call) 0

    abbrev stage_came : Stage → Stage
    stage_came g = stage_at g call (λ props. begun number a.nth (commits_known (view_of s.pass)) props s.engine.arena ahead) ahead

    abbrev took : Answer → Taken Thread
    took answer = took_in thread_rules retries (asked words thread_rules number retries s a call) call answer (stand_of s'.engine)

    last : (answer : Answer) → Answered answer → IsLast came_so (view_of s'.pass) answer s'.engine
    last answer x = last_event (cells_of words) came_so answer (view_of s'.pass) s'.engine k.own.over k.stands x.driven

    same_depth : (answer : Answer) (x : Answered answer) → length (last answer x).mid.blocks ≡ depth_of a.player
    same_depth answer x = ap length (last answer x).is_mid.kept.blocks ∙ sym k.running.depth

    running_on : (answer : Answer) → Answered answer → (took answer).end ≡ None → IsRunning thread_rules course (view_of s'.pass) s'.engine (account_after a (took answer))
    running_on answer x none = ((both thread_laws words course a s k.running k.own k.stands number retries refl refl call asks answer s' x).0 none).0

    -- with no block open
    kept_shut : (b : Account Thread) → Owns words s'.pass → Stands (view_of s'.pass) s'.engine → IsRunning thread_rules course (view_of s'.pass) s'.engine b → b.stage ≡ outside → (b.player ≡ a.player) ⊎ ((b.player ≡ restarted a.player) × (depth_of (restarted a.player) ≡ 0)) → IsKept b s'
    kept_shut b own stands running is which = record {
      own = own;
      stands = stands;
      running = running;
      nested = elim which [ inl same ↦ subst IsNested (sym same) k.nested | inr back ↦ subst IsNested (sym back.0) (back_nested a.player k.nested) ];
      blocks = elim which [
        | inl same ↦ subst (λ (q : Thread). (d : ℕ) → 1 < d → d ≤ depth_of q → IsNested (at_block q d)) (sym same) k.blocks
        | inr back ↦ λ d some few. absurd (let none = ap depth_of back.0 ∙ back.1 in omega arith)
      ];
      deep = elim which [ inl same ↦ ap (λ (q : Thread). q.deepest) same ∙ k.deep | inr back ↦ ap (λ (q : Thread). q.deepest) back.0 ∙ (restarted_deepest a.player ∙ k.deep) ];
      few = elim which [ inl same ↦ subst (λ (q : Thread). depth_of q ≤ deepest) (sym same) k.few | inr back ↦ (let none = ap depth_of back.0 ∙ back.1 in omega arith) ];
      room = λ held row points now. absurd (let f : outside ≡ within row points = sym is ∙ now in cc);
    }

    -- ### The player that is told a reply

    module _ (r : Replied) where
      blocks_told : (d : ℕ) → 1 < d → d ≤ depth_of (answered a.player r) → IsNested (at_block (answered a.player r) d)
      blocks_told d some many =
          let now = thread_laws.nests a.player call r asks in
          let law = thread_laws.begins a.player call r asks d (omega arith) (omega arith) in
          elim (cases_Bool (nat_lt (depth_of a.player) d)) [
            | inl new ↦
                (let more = ltb-true (depth_of a.player) d new in
                let opens = deeper_begins (depth_of a.player) call r (omega arith) in
                subst IsNested (sym (law ∙ cond-true (nat_lt (depth_of a.player) d) _ _ new)) (plays a.player call (Code 5) k.nested asks (entered_may (depth_of a.player) call opens.0)).nested)
            | inr old ↦
                (let less = ltb-false (depth_of a.player) d old in
                subst IsNested (sym (law ∙ cond-false (nat_lt (depth_of a.player) d) _ _ old)) (k.blocks d some less))
          ]

      few_told : ((n : ℕ) → is_begin call ≡ true → r ≡ Code n → depth_of a.player < deepest) → depth_of (answered a.player r) ≤ deepest
      few_told fits =
          let now = thread_laws.nests a.player call r asks in
          let one = one_deeper (depth_of a.player) call r in
          let before = k.few in
          elim (cases_Bool (nat_lt (depth_of a.player) (depth_after (depth_of a.player) call r))) [
            | inl more ↦
                (let opens = deeper_begins (depth_of a.player) call r (ltb-true (depth_of a.player) (depth_after (depth_of a.player) call r) more) in
                let fit = fits opens.1 opens.0 opens.2 in
                omega arith)
            | inr less ↦ (let most = ltb-false (depth_of a.player) (depth_after (depth_of a.player) call r) less in omega arith)
          ]

    -- ### A reply

    module _ (r : Replied) (x : Answered (Reply r)) where
      may : MayReply (depth_of a.player) call r
      may = subst (λ (d : ℕ). MayReply d call r) (same_depth (Reply r) x) (engine_may (last (Reply r) x).mid s'.engine r call (last (Reply r) x).is_mid.kept.doing x.stands.settled (last (Reply r) x).ends)

      way : Ways (last (Reply r) x).mid s'.engine call r
      way = reply_cases (last (Reply r) x).mid s'.engine call r (last (Reply r) x).is_mid.kept.doing (last (Reply r) x).ends

      fits : (n : ℕ) → is_begin call ≡ true → r ≡ Code n → depth_of a.player < deepest
      fits n opens is =
          let fit = engine_fits (last (Reply r) x).mid s'.engine call r n opens is x.stands.settled way in
          let same = same_depth (Reply r) x in
          let limit : (last (Reply r) x).mid.depth ≡ deepest = (last (Reply r) x).is_mid.kept.depth ∙ k.running.deepest in
          omega arith

      -- as it becomes irrevocable, its call asks for the room that it tells
      goes : s.engine.irrevocable ≡ false → s'.engine.irrevocable ≡ true → IsSome (irrevocable_room s.engine call)
      goes free held = elim way [
        | inl g ↦ absurd (true≢false (sym held ∙ (ap (λ (c : Core). c.irrevocable) g.stays ∙ g.revocable)))
        | inr (inl g) ↦ subst IsSome (goes_same (last (Reply r) x).mid s.engine call (last (Reply r) x).is_mid.kept.depth (last (Reply r) x).is_mid.kept.blocks (last (Reply r) x).is_mid.kept.irrevocable) g.goes
        | inr (inr g) ↦ absurd (true≢false (sym (sym (last (Reply r) x).is_mid.kept.irrevocable ∙ g.irrevocable) ∙ free))
      ]

      least_outside : (c : Call) (n : ℕ) → HasLeft (stage_at outside c (λ props. begun number a.nth (commits_known (view_of s.pass)) props s.engine.arena ahead) ahead) n → ahead ≤ n
      least_outside (Begin props room) n h = omega arith
      least_outside c n h = absurd h

      least_within : (b : Attempt) (points : List Savepoint) (n : ℕ) → HasLeft (stage_came (within b points)) n → ahead ≤ n
      least_within b points n h = (let least = (reserved_least b.calls (ahead + 1)).1 in omega arith)

      -- an attempt that is open has room for what its call asks for
      least_came : (n : ℕ) → HasLeft (stage_came a.stage) n → ahead ≤ n
      least_came n h = by_mode (in_transaction s.engine) refl
        where
          by_mode : (i : Bool) → in_transaction s.engine ≡ i → ahead ≤ n
          by_mode true inside = (let i = k.running.inside inside in least_within i.row i.points n (subst (λ (g : Stage). HasLeft (stage_came g) n) i.stage_is h))
          by_mode false shut = (let o = k.running.outside shut in least_outside call n (subst (λ (g : Stage). HasLeft (stage_came g) n) o.stage_is h))

      room_told : s'.engine.irrevocable ≡ true → (row : Attempt) (points : List Savepoint) → (took (Reply r)).tally.stage ≡ within row points → left (answered a.player r) ≤ row.calls.room
      room_told held row points is = by_mode s.engine.irrevocable refl
        where
          had : HasLeft (stage_came a.stage) row.calls.room
          had = open_room (stage_came a.stage) (record (asked words thread_rules number retries s a call) { player = answered a.player r }) refl call r (stand_of s'.engine) row points is

          by_mode : (b : Bool) → s.engine.irrevocable ≡ b → left (answered a.player r) ≤ row.calls.room
          by_mode true was =
              let inside : in_transaction s.engine ≡ true = (k.stands.settled.holder (k.stands.settled.irrevocable was).0).0 in
              let i = k.running.inside inside in
              let some : 0 < depth_of a.player = subst (λ (b : Bool). IsDeep b (depth_of a.player)) inside k.running.nested.deep in
              let before : left a.player ≤ i.row.calls.room = k.room was i.row i.points i.stage_is in
              let now : row.calls.room ≡ (reserved i.row.calls (ahead + 1)).room - 1 = subst (λ (g : Stage). HasLeft (stage_came g) row.calls.room) i.stage_is had in
              let least = (reserved_least i.row.calls (ahead + 1)).0 in
              let less = (plays a.player call r k.nested asks may).falls some in
              omega arith
          by_mode false free =
              let told = (plays a.player call r k.nested asks may).told ahead (told_as_asked s.engine call (goes free held)) in
              let least = least_came row.calls.room had in
              omega arith

      player_told : (took (Reply r)).tally.player ≡ answered a.player r
      player_told = replied_player (stage_came a.stage) (record (asked words thread_rules number retries s a call) { player = answered a.player r }) call r (stand_of s'.engine)

      kept_reply : (took (Reply r)).end ≡ None → IsKept (account_after a (took (Reply r))) s'
      kept_reply none = record {
        own = x.own;
        stands = x.stands;
        running = running_on (Reply r) x none;
        nested = subst IsNested (sym player_told) (plays a.player call r k.nested asks may).nested;
        blocks = subst (λ (q : Thread). (d : ℕ) → 1 < d → d ≤ depth_of q → IsNested (at_block q d)) (sym player_told) (blocks_told r);
        deep = ap (λ (q : Thread). q.deepest) player_told ∙ (answered_deepest a.player r ∙ k.deep);
        few = subst (λ (q : Thread). depth_of q ≤ deepest) (sym player_told) (few_told r fits);
        room = λ held row points is. subst (λ (q : Thread). left q ≤ row.calls.room) (sym player_told) (room_told held row points is);
      }

    -- ### An answer

    sent_outside : (c : Call) → sent_back thread_rules (stage_at outside c (λ props. begun number a.nth (commits_known (view_of s.pass)) props s.engine.arena ahead) ahead) a.player ≡ a.player
    sent_outside (Begin props room) = refl
    sent_outside c = refl

    kept_on : (answer : Answer) (x : Answered answer) → (took answer).end ≡ None → IsKept (account_after a (took answer)) s'
    kept_on (Reply r) x none = kept_reply r x none
    kept_on (Committed at wrote) x none =
        let may : MayReply (depth_of a.player) call Done = subst (λ (c : Call). MayReply (depth_of a.player) c Done) (sym x.served.tells.call) (λ some. refl) in
        record {
          own = x.own;
          stands = x.stands;
          running = running_on (Committed at wrote) x none;
          nested = (plays a.player call Done k.nested asks may).nested;
          blocks = blocks_told Done;
          deep = answered_deepest a.player Done ∙ k.deep;
          few = few_told Done (λ n opens is. absurd (let f : Done ≡ Code n = is in cc));
          room = λ held row points is. absurd (let f : outside ≡ within row points = is in cc);
        }
    kept_on (Conflict clock word) x none = kept_shut (account_after a (took (Conflict clock word))) x.own x.stands (running_on (Conflict clock word) x none) now.1 (by_mode (in_transaction s.engine) refl)
      where
        now : ((took (Conflict clock word)).tally.player ≡ sent_back thread_rules (stage_came a.stage) a.player) × ((took (Conflict clock word)).tally.stage ≡ outside)
        now = tried_so retries (record (asked words thread_rules number retries s a call) { player = sent_back thread_rules (stage_came a.stage) a.player }) _

        by_mode : (i : Bool) → in_transaction s.engine ≡ i → ((took (Conflict clock word)).tally.player ≡ a.player) ⊎ (((took (Conflict clock word)).tally.player ≡ restarted a.player) × (depth_of (restarted a.player) ≡ 0))
        by_mode true inside = (let i = k.running.inside inside in inr (now.0 ∙ ap (λ (g : Stage). sent_back thread_rules (stage_came g) a.player) i.stage_is, k.running.nested.begun inside))
        by_mode false shut = (let o = k.running.outside shut in inl (now.0 ∙ (ap (λ (g : Stage). sent_back thread_rules (stage_came g) a.player) o.stage_is ∙ sent_outside call)))
    kept_on (Busy clock) x none = (let now = tried_so retries (asked words thread_rules number retries s a call) [] in kept_shut (account_after a (took (Busy clock))) x.own x.stands (running_on (Busy clock) x none) now.1 (inl now.0))
    kept_on (Restarted clock word) x none =
        let inside : in_transaction s.engine ≡ true = x.served.tells.still.0 in
        let i = k.running.inside inside in
        let same = k.running.depth in
        let inner = inner_open s.engine.blocks x.served.tells.within in
        let before = k.few in
        let some : 1 < depth_of a.player = omega arith in
        let block = k.running.nested.blocks (depth_of a.player) (omega arith) (omega arith) in
        let player : (took (Restarted clock word)).tally.player ≡ at_block a.player (depth_of a.player) = ap (λ (g : Stage). (gone_back thread_rules (asked words thread_rules number retries s a call) (stage_came g) (stand_of s'.engine)).player) i.stage_is in
        let deep : depth_of (took (Restarted clock word)).tally.player ≡ depth_of a.player = ap depth_of player ∙ block.depth in
        record {
          own = x.own;
          stands = x.stands;
          running = running_on (Restarted clock word) x none;
          nested = subst IsNested (sym player) (k.blocks (depth_of a.player) some (omega arith));
          blocks = λ d least most. subst IsNested (sym (ap (λ (q : Thread). at_block q d) player ∙ block.around d (omega arith) (omega arith))) (k.blocks d least (omega arith));
          deep = ap (λ (q : Thread). q.deepest) player ∙ (at_block_deepest a.player (depth_of a.player) ∙ k.deep);
          few = omega arith;
          room = λ held row points is. absurd (true≢false (sym held ∙ x.served.tells.revocable.1));
        }
    kept_on (Full at) x none = absurd (let f : Some GaveUp ≡ None = none in cc)

  pub kept_all : (gate : Gating) (n : ℕ) (a : Account Thread) (s : Standing) (a' : Account Thread) (s' : Standing) → IsKept a s → HasMade words thread_rules number retries gate n a s a' s' → IsKept a' s'
  kept_all gate zero a s a' s' k made = subst (λ (q : Account Thread × Standing). IsKept q.0 q.1) (λ i. (sym made.0 i, sym made.1 i)) k
  kept_all gate (suc n) a s a' s' k made = (let m = made.3 in subst (λ (b : Account Thread). IsKept b s') (sym m.account) (kept_on made.0 made.1 (kept_all gate n a s made.0 made.1 k made.2) s' m.call m.asks m.answer m.answered m.end_is))

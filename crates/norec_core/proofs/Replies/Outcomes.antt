-- What an engine gives, and what it is then, follow from what it was and what it is handed.
use Rattle.std.proofs.Common.{◌≡◌, ℕ, ◌+◌, Bool, true, false, List, [], map, Option, None, Some, refl, sym, ap, subst, ◌∙◌}
use Rattle.norec_core.proofs.Common.{Agrees, Answer, Answers, Asks, AsksFor, Busy, Call, Committed, Conflict, ConflictsIn, Core, Ends, EndsSo, Full, IsEnding, IsMemory, IsSettled, Next, Phase, Proceeds, Replied, RepliesBy, RepliesTo, Reply, Restarted, Step, actions_after, arena_after, arena_held, asked, asked_from, asked_in, blocks_after, came, ended, ending_after, ending_at, finished, gathered_at, handed, in_transaction, is_inside, made_irrevocable, renewed, rolled_back, room_left, tries_after, tries_at, writes_after}
use Rattle.norec_core.specs.Phases as at
use Rattle.norec_core.{proofs.Replies.AnsweredEngines.rests, specs.Moves.IsCalled, specs.Moves.IsResumed}

-- who waits for a step is not idle
idle_of : (c : Core) (s : Phase) → asked_from c s ≡ None → s ≡ at.Idle
idle_of c at.Idle e = refl
idle_of c s e = absurd (cc)

-- ## One outcome

module _ (mid new new' : Core) (end : Option Answer)
    (stage : new.stage ≡ new'.stage) (tries : new.tries ≡ new'.tries) (snapshot : new.snapshot ≡ new'.snapshot)
    (both_open : in_transaction new ≡ true → in_transaction new' ≡ true → new.log ≡ new'.log) (settled : IsSettled new) (settled' : IsSettled new')
    (asks : new.waits ≡ asked new) (asks' : new'.waits ≡ asked new') where
  same_log : in_transaction new ≡ (in_transaction new') → new.log ≡ new'.log
  same_log same = by_open (in_transaction new) refl
    where
      by_open : (b : Bool) → in_transaction new ≡ b → new.log ≡ new'.log
      by_open true o = both_open o (sym same ∙ o)
      by_open false o = (settled.closed o).0 ∙ sym (settled'.closed (sym same ∙ o)).0

  -- both ask for a step
  asks_both : (s s' : Step) → AsksFor mid s new → AsksFor mid s' new' → (Asks s ≡ Asks s') × (new ≡ new')
  asks_both s s' g g' =
      let e = g.stays in
      let e' = g'.stays in
      let open_same : in_transaction new ≡ (in_transaction new') = ap in_transaction e ∙ sym (ap in_transaction e') in
      let writes : new.writes ≡ new'.writes = ap (λ (c : Core). c.writes) e ∙ sym (ap (λ (c : Core). c.writes) e') in
      let log = same_log open_same in
      let gathered : new.gathered ≡ new'.gathered = ap (λ (c : Core). c.gathered) e ∙ ((λ i. gathered_at (stage i) mid.arena mid.gathered) ∙ sym (ap (λ (c : Core). c.gathered) e')) in
      let step : Some s ≡ Some s' = sym (ap (λ (c : Core). c.waits) e) ∙ (asks ∙ ((λ i. asked_in (log i) (snapshot i) (writes i) (gathered i) (stage i)) ∙ (sym asks' ∙ ap (λ (c : Core). c.waits) e'))) in
      let one : s ≡ s' = (cc) in (
        ap Asks one,
        e ∙ ((λ i. record mid { waits = Some (one i); spent = mid.spent + 1; stage = stage i; tries = tries i; log = log i; snapshot = snapshot i; gathered = gathered_at (stage i) mid.arena mid.gathered }) ∙ sym e'),
      )

  -- a memory that agrees with both logs
  one_memory : new.words ≡ mid.words → new'.words ≡ mid.words → (m : List ℕ) × IsMemory mid.words m × Agrees m new.log × Agrees m new'.log
  one_memory w w' = by_open (in_transaction new) (in_transaction new') refl refl
    where
      by_open : (a b : Bool) → in_transaction new ≡ a → in_transaction new' ≡ b → (m : List ℕ) × IsMemory mid.words m × Agrees m new.log × Agrees m new'.log
      by_open true true a b = let m = settled.agreed in (m.0, subst (λ (n : ℕ). IsMemory n m.0) w m.1, m.2, subst (Agrees m.0) (both_open a b) m.2)
      by_open true false a b = let m = settled.agreed in (m.0, subst (λ (n : ℕ). IsMemory n m.0) w m.1, m.2, subst (Agrees m.0) (sym (settled'.closed b).0) tt)
      by_open false other a b = let m = settled'.agreed in (m.0, subst (λ (n : ℕ). IsMemory n m.0) w' m.1, subst (Agrees m.0) (sym (settled.closed a).0) tt, m.2)

  -- the engine where it waits for nothing
  abbrev at_rest : Phase → ℕ → Core
  at_rest s n = record mid { stage = s; tries = n; waits = None; doing = None; again = false; fresh = []; done = 0; gathered = [] }

  replies_by : (holds irrevocable : Bool) (call : Call) (r r' : Replied) → RepliesBy holds irrevocable mid call r new → RepliesBy holds irrevocable mid call r' new' → (r ≡ r') × (new ≡ new')
  replies_by true false call r r' g g' =
      let one : r ≡ r' = g.reply_is [] ∙ sym (g'.reply_is []) in (
        one,
        g.stays
            ∙ ((λ i. record (at_rest (stage i) (tries i)) {
              got = None;
              log = [];
              writes = [];
              blocks = map made_irrevocable (blocks_after mid call (one i));
              actions = record (actions_after mid call (one i)) { undos = [] };
              irrevocable = true;
            }) ∙ sym g'.stays),
      )
  replies_by true true call r r' g g' =
      let one : r ≡ r' = g.reply_is ∙ sym g'.reply_is in (
        one,
        g.stays
            ∙ ((λ i. record (at_rest (stage i) (tries i)) {
              got = None;
              blocks = blocks_after mid call (one i);
              actions = actions_after mid call (one i);
              arena = arena_held mid call (one i);
              room = room_left mid call (one i);
            }) ∙ sym g'.stays),
      )
  replies_by false irrevocable call r r' g g' =
      let e = g.stays in
      let e' = g'.stays in
      let m = one_memory (ap (λ (c : Core). c.words) e) (ap (λ (c : Core). c.words) e') in
      let one : r ≡ r' = g.reply_is m.0 m.1 m.2 ∙ sym (g'.reply_is m.0 m.1 m.3) in
      let writes : new.writes ≡ new'.writes = g.writes m.0 m.1 m.2 ∙ (ap (writes_after mid m.0 call) one ∙ sym (g'.writes m.0 m.1 m.3)) in
      let blocks : new.blocks ≡ new'.blocks = g.blocks ∙ (ap (blocks_after mid call) one ∙ sym g'.blocks) in
      let arena : new.arena ≡ new'.arena = g.arena m.0 m.1 m.2 ∙ (ap (arena_after mid m.0 call) one ∙ sym (g'.arena m.0 m.1 m.3)) in
      let actions : new.actions ≡ new'.actions = g.actions ∙ (ap (actions_after mid call) one ∙ sym g'.actions) in
      let log = same_log (ap is_inside blocks) in (
        one,
        e ∙ ((λ i. record (at_rest (stage i) (tries i)) {
          log = log i;
          snapshot = snapshot i;
          writes = writes i;
          blocks = blocks i;
          actions = actions i;
          arena = arena i;
          room = room_left mid call (one i);
        }) ∙ sym e'),
      )

  replies_both : (o : Option Call) (r r' : Replied) → RepliesTo mid o r new → RepliesTo mid o r' new' → (r ≡ r') × (new ≡ new')
  replies_both None r r' g g' = absurd g
  replies_both (Some call) r r' g g' = replies_by mid.holds mid.irrevocable call r r' g g'

  conflicts_both : (clock : ℕ) (word : Option ℕ) (inside : Bool) → ConflictsIn inside mid clock word new → ConflictsIn inside mid clock word new' → new ≡ new'
  conflicts_both clock word true g g' = g.stays ∙ ((λ i. record (rolled_back mid) { stage = stage i; tries = tries i }) ∙ sym g'.stays)
  conflicts_both clock word false g g' = g.stays ∙ ((λ i. record (ended mid) { stage = stage i; tries = tries i }) ∙ sym g'.stays)

  ends_both : (a : Answer) → Ends mid a new → Ends mid a new' → new ≡ new'
  ends_both (Reply r) g g' = (replies_both mid.doing r r g g').1
  ends_both (Committed at wrote) g g' = g.stays ∙ ((λ i. record (finished mid) { stage = stage i; tries = tries i }) ∙ sym g'.stays)
  ends_both (Conflict clock word) g g' = conflicts_both clock word (in_transaction mid) g g'
  ends_both (Restarted clock word) g g' = g.stays ∙ ((λ i. record (renewed mid clock) { stage = stage i; tries = tries i }) ∙ sym g'.stays)
  ends_both (Busy clock) g g' = g.stays ∙ ((λ i. record (ended mid) { stage = stage i; tries = tries i }) ∙ sym g'.stays)
  ends_both (Full at) g g' = g.stays ∙ ((λ i. record (rolled_back mid) { stage = stage i; tries = tries i; snapshot = snapshot i }) ∙ sym g'.stays)

  -- neither ends, so both reply
  none_both : (a a' : Answer) → IsEnding None a → IsEnding None a' → Ends mid a new → Ends mid a' new' → (Answers a ≡ Answers a') × (new ≡ new')
  none_both (Reply r) (Reply r') i i' g g' = let x = replies_both mid.doing r r' g g' in (ap (λ (y : Replied). Answers (Reply y)) x.0, x.1)
  none_both (Reply r) a' i i' g g' = absurd i'
  none_both a a' i i' g g' = absurd i

  answers_both : (o : Option Answer) (a a' : Answer) → IsEnding o a → IsEnding o a' → Ends mid a new → Ends mid a' new' → (Answers a ≡ Answers a') × (new ≡ new')
  answers_both None a a' i i' g g' = none_both a a' i i' g g'
  answers_both (Some e) a a' i i' g g' =
      let one : a ≡ a' = i ∙ sym i' in
      (ap Answers one, ends_both a g (subst (λ (x : Answer). Ends mid x new') (sym one) g'))

  -- a step is waited for by both or by neither
  not_both : (s : Step) (a : Answer) (c d : Core) → c.stage ≡ d.stage → c.waits ≡ asked c → d.waits ≡ asked d → AsksFor mid s c → Ends mid a d → ⊥
  not_both s a c d same x y g h =
      let none : asked d ≡ None = sym y ∙ (rests mid d a h).idle in
      let idle : c.stage ≡ at.Idle = same ∙ idle_of d d.stage none in
      let some : None ≡ Some s = ap (asked_from c) (sym idle) ∙ (sym x ∙ ap (λ (e : Core). e.waits) g.stays) in
      absurd (cc)

  one_outcome : (what what' : Next) → Proceeds mid what new → Proceeds mid what' new' → EndsSo end what → EndsSo end what' → (what ≡ what') × (new ≡ new')
  one_outcome (Asks s) (Asks s') g g' i i' = asks_both s s' g g'
  one_outcome (Asks s) (Answers a) g g' i i' = absurd (not_both s a new new' stage asks asks' g g')
  one_outcome (Answers a) (Asks s) g g' i i' = absurd (not_both s a new' new (sym stage) asks' asks g' g)
  one_outcome (Answers a) (Answers a') g g' i i' = answers_both end a a' i i' g g'

-- ## Calls

-- a call came
pub called_once : (old : Core) (call : Call) (again : Bool) (what what' : Next) (new new' : Core) → IsCalled old call again what new → IsCalled old call again what' new' → (what ≡ what') × (new ≡ new')
called_once old call again what what' new new' f g =
    let stage : new.stage ≡ new'.stage = f.order ∙ sym g.order in
    one_outcome (came old call again) new new' (ending_at old call) stage (f.tries ∙ (ap tries_at stage ∙ sym g.tries)) (f.stays.snapshot ∙ sym g.stays.snapshot)
    (λ o o'. f.stays.log o ∙ sym (g.stays.log o')) f.settled g.settled f.asks g.asks what what' f.proceeds g.proceeds f.ends g.ends

-- a value was handed in
pub resumed_once : (old : Core) (seen : ℕ) (what what' : Next) (new new' : Core) → IsResumed old seen what new → IsResumed old seen what' new' → (what ≡ what') × (new ≡ new')
resumed_once old seen what what' new new' f g =
    let stage : new.stage ≡ new'.stage = f.order ∙ sym g.order in
    one_outcome (handed old seen) new new' (ending_after old seen) stage (f.tries ∙ ((λ i. tries_after (stage i) old.tries) ∙ sym g.tries)) (f.snapshot ∙ sym g.snapshot)
    (λ o o'. f.log o ∙ sym (g.log o')) f.settled g.settled f.asks g.asks what what' f.proceeds g.proceeds f.ends g.ends

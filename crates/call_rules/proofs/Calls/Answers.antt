-- Each kind of answer.
use Rattle.std.proofs.Common.{◌≡◌, inl, inr, ℕ, suc, ◌/◌, ◌<◌, ◌&&◌, not, Bool, true, false, List, [], ◌∷◌, ◌++◌, length, take, Option, None, Some, refl, sym, ap, subst, ◌∙◌, arith, length-append}
use Rattle.call_rules.proofs.Common.{Agrees, Answer, Answers, Asks, Busy, Call, ComesTo, Commit, Commits, Committed, Conflict, Conflicts, ConflictsIn, Core, Differs, Ends, Enters, Full, GoesBegin, IsAtOnce, IsBegin, IsBusy, IsDue, IsFull, IsMemory, IsPatient, IsRead, IsRest, IsWithin, Loads, Meets, Next, Proceeds, Replies, RepliesHeld, Reply as Replied, Restarted, Served, Stands, Start, State, Tells, View, WantsClock, after_call as after, after_snoc, backed, bytes_of, came, came_over, cases_Bool, false_from_ne_true, held_words, in_transaction, is_inside, left_over, memory_in, memory_of, mine_if, recoded, reply, rests, room_left, stands_for, stored, take_all, take_at, told_plainly, undone}
use Rattle.norec_core.{specs.declared.answer.Answer.TheVariants.Reply, proofs.Replies.ReplyCases.reply_cases}
use Rattle.norec_core.specs.Proceeds as engine
use Rattle.shared_words.specs.Commits as past
use Rattle.call_rules.specs.Served as served_so
use Rattle.call_rules.proofs.Steps.CallsInHand.{both, Freed, IsMid, IsHeldMid, Tried, is_memory}
use Rattle.call_rules.proofs.Steps.NewCalls.{asked_on}
use Rattle.call_rules.proofs.Calls.ActionRoom.{room_entered, room_same}
use Rattle.call_rules.proofs.Calls.BlocksBack.{went_back}
use Rattle.call_rules.proofs.Calls.Closes.{answered_so, closes, mode_then, open_then, read_so_far, same, to_mid, undone_shut, wants_same, whole}

-- over the memories that the mode chooses
in_mode : (s : Start) (r : Replied) (w : View) (e : Core) (was is : Bool) → s.engine.irrevocable ≡ was → e.irrevocable ≡ is
    → Meets s r e (memory_in was s.view w (e.snapshot / 2)) (memory_in is w w (e.snapshot / 2)) → Meets s r e (came_over s w e) (left_over w e)
in_mode s r w e was is x y meets =
    subst (λ (b : Bool). Meets s r e (memory_in b s.view w (e.snapshot / 2)) (left_over w e)) (sym x)
    (subst (λ (b : Bool). Meets s r e (memory_in was s.view w (e.snapshot / 2)) (memory_in b w w (e.snapshot / 2))) (sym y) meets)

module _ (s : Start) (w : View) (mid new : Core) (m : IsMid s w mid new) where
  abbrev k : ℕ
  k = new.snapshot / 2

  abbrev Done : Answer → Type 0
  Done a = Served s a w new × Stands w new

  again_is : mid.again ≡ (s.again && not (in_transaction s.engine))
  again_is = m.kept.again

  -- the room is that of the call as it came
  room_now : (r : Replied) → room_left mid s.call r ≡ room_left (came s.engine s.call s.again) s.call r
  room_now r = room_same mid (came s.engine s.call s.again) s.call r m.kept.room

  -- ## A reply

  logged_as : (b : Bool) → in_transaction new ≡ b → Agrees (memory_of w k) new.log
  logged_as true o = m.logged o
  logged_as false o = subst (Agrees (memory_of w k)) (sym (m.settled.closed o).0) tt

  replied : (r : Replied) (rest : IsRest mid (Reply r) new) → Replies mid s.call r new → Done (Reply r)
  replied r rest g =
      let stays = g.stays in
      let was : s.engine.irrevocable ≡ false = mode_then s w mid new m ∙ g.revocable in
      let is : new.irrevocable ≡ false = ap (λ (c : Core). c.irrevocable) stays ∙ g.revocable in
      let meets : (x : List ℕ) → IsMemory mid.words x → Agrees x new.log → Meets s r new x x = λ x f a. record {
        state = g.meets x f a ∙ (λ i. after (m.kept.depth i) (same s w mid new m was x i) s.call);
        reply_is = g.reply_is x f a ∙ (λ i. recoded s.call (again_is i) (reply (m.kept.depth i) (same s w mid new m was x i) s.call));
      } in
      answered_so s w mid new m rest (record {
        here = in_mode s r w new false false was is (meets (memory_of w k) (is_memory mid.words w m.over k) (logged_as (in_transaction new) refl));
        takes = λ x y. absurd (both new.irrevocable y is);
        all = λ x y z f a. meets z (to_mid s w mid new m z f) a;
        still = λ a x. g.still a (open_then s w mid new m x);
        restarted = rest.restarted (λ r. r) ∙ m.kept.restarted;
        room = ap (λ (c : Core). c.room) stays ∙ room_now r;
      }) (m.mine g.unfreed)

  -- the transaction becomes irrevocable
  entered : (r : Replied) (rest : IsRest mid (Reply r) new) → Enters mid s.call r new → Done (Reply r)
  entered r rest g =
      let stays = g.stays in
      let was : s.engine.irrevocable ≡ false = mode_then s w mid new m ∙ g.revocable in
      let is : new.irrevocable ≡ true = ap (λ (c : Core). c.irrevocable) stays in
      let snap : new.snapshot ≡ mid.snapshot = ap (λ (c : Core). c.snapshot) stays in
      let o : in_transaction new ≡ true = (m.settled.holder (rest.held ∙ g.held)).0 in
      let count = (m.clocks o).count in
      let taken = g.taken.0 in
      let long : length w.seen ≡ k = omega arith in
      let fits : IsMemory mid.words (memory_of w k) = is_memory mid.words w m.over k in
      let agrees : Agrees (memory_of w k) mid.log = read_so_far s w mid new m (rest.restarted (λ r. r)) (in_transaction mid) refl in
      let laid : backed mid (memory_of w k) ≡ held_words w = ap (backed mid) (whole s w mid new m k long) ∙ sym (m.holding g.held g.revocable).laid in
      let meets : Meets s r new (memory_of w k) (held_words w) = record {
        state = ap (stands_for new) (sym laid) ∙ (g.meets (memory_of w k) fits agrees ∙ (λ i. after (m.kept.depth i) (same s w mid new m was (memory_of w k) i) s.call));
        reply_is = g.reply_is (memory_of w k) ∙ (λ i. recoded s.call (again_is i) (reply (m.kept.depth i) (same s w mid new m was (memory_of w k) i) s.call));
      } in
      answered_so s w mid new m rest (record {
        here = in_mode s r w new false true was is meets;
        takes = λ x y. m.taken g.held g.revocable;
        all = λ x y. absurd (both new.irrevocable is y);
        still = λ a x. o;
        restarted = rest.restarted (λ r. r) ∙ m.kept.restarted;
        room = ap (λ (c : Core). c.room) stays ∙ (room_entered mid s.call r g.goes ∙ room_now r);
      }) (m.mine g.unfreed)

  -- it is irrevocable
  replied_held : (r : Replied) (rest : IsRest mid (Reply r) new) → RepliesHeld mid s.call r new → (s.engine.irrevocable ≡ true → IsHeldMid s w (Answers (Reply r)) new) → Done (Reply r)
  replied_held r rest g on =
      let was : s.engine.irrevocable ≡ true = mode_then s w mid new m ∙ g.irrevocable in
      let is : new.irrevocable ≡ true = ap (λ (c : Core). c.irrevocable) g.stays ∙ g.irrevocable in
      let comes = (on was).comes in
      let plainly : (s.again && not (in_transaction s.engine)) ≡ false = first_time in
      let meets : Meets s r new (held_words s.view) (held_words w) = record {
        state = comes.0;
        reply_is = comes.1 ∙ (sym (told_plainly s.call (reply s.engine.depth (stands_for s.engine (held_words s.view)) s.call)) ∙ ap (λ (b : Bool). recoded s.call b (reply s.engine.depth (stands_for s.engine (held_words s.view)) s.call)) (sym plainly));
      } in
      answered_so s w mid new m rest (record {
        here = in_mode s r w new true true was is meets;
        takes = λ x y. absurd (both s.engine.irrevocable was x);
        all = λ x y. absurd (both s.engine.irrevocable was x);
        still = λ a x. g.still (open_then s w mid new m x);
        restarted = rest.restarted (λ r. r) ∙ m.kept.restarted;
        room = ap (λ (c : Core). c.room) g.stays ∙ room_now r;
      }) (m.mine g.unfreed)
    where
      first_time : (s.again && not (in_transaction s.engine)) ≡ false
      first_time = elim (cases_Bool (in_transaction s.engine)) [
        | inl o ↦ ap (λ (b : Bool). s.again && not b) o ∙ elim s.again as (λ (b : Bool). (b && false) ≡ false) [ true ↦ refl | false ↦ refl ]
        | inr c ↦ absurd (both s.engine.irrevocable (mode_then s w mid new m ∙ g.irrevocable) (m.shut c).revocable)
      ]

  pub replied_to : (r : Replied) → (s.engine.irrevocable ≡ true → IsHeldMid s w (Answers (Reply r)) new) → Ends mid (Reply r) new → Done (Reply r)
  replied_to r on g =
      let rest = rests mid new (Reply r) g in
      elim (reply_cases mid new s.call r m.kept.doing g) [
        | inl x ↦ replied r rest x
        | inr (inl x) ↦ entered r rest x
        | inr (inr x) ↦ replied_held r rest x on
      ]

  -- ## A commit

  next_memory : (at : ℕ) → Freed s w mid new → at ≡ k → (at < length w.seen) × (take (suc at) w.seen ≡ w.seen)
  next_memory at f at_is =
      let count : length f.past ≡ at = f.count ∙ sym at_is in
      let long : length w.seen ≡ suc at = ap length f.seen_is ∙ omega (arith, length-append f.past (f.last ∷ [])) in
      (omega arith, take_all (suc at) w.seen (omega arith))

  laid_memory : (at : ℕ) → mid.irrevocable ≡ false → (f : Freed s w mid new) → at ≡ k → memory_of w (suc at) ≡ backed mid (memory_of w at)
  laid_memory at revocable f at_is =
      let count : length f.past ≡ at = f.count ∙ sym at_is in
      let here : take at w.seen ≡ f.past = ap (take at) f.seen_is ∙ take_at f.past (f.last ∷ []) at count in
      let there : take (suc at) w.seen ≡ f.past ++ f.last ∷ [] = (next_memory at f at_is).1 ∙ f.seen_is in
      let old : memory_of w at ≡ past.after w.base f.past = ap (past.after w.base) here in
      ap (past.after w.base) there ∙ (after_snoc w.base f.past f.last ∙ (f.laid revocable ∙ ap (backed mid) (sym old)))

  held_memory_is : (at : ℕ) → (f : Freed s w mid new) → at ≡ k → memory_of w (suc at) ≡ held_words w
  held_memory_is at f at_is = ap (past.after w.base) (next_memory at f at_is).1 ∙ ap (stored (past.after w.base w.seen)) (sym f.done)

  by_wrote : (at : ℕ) (b : Bool) → mid.freed ≡ b → at ≡ k → w.mine ≡ mine_if b s.view.mine at
  by_wrote at true e at_is = (m.freed e).mine ∙ ap (λ (n : ℕ). s.view.mine ++ n ∷ []) (sym at_is)
  by_wrote at false e at_is = m.mine e

  -- what the plain machine makes of the commit, by the memory that it was called over
  record CommitsOver (at : ℕ) (wrote : Bool) (x : List ℕ) : Type 0 where
    pub wrote_is : wrote ≡ (after s.engine.depth (stands_for s.engine x) Commit).wrote
    pub memory_is : wrote ≡ true → bytes_of (memory_of w (suc at)) ≡ (after s.engine.depth (stands_for s.engine x) Commit).memory
    pub arena_is : new.arena ≡ (after s.engine.depth (stands_for s.engine x) Commit).arena
    pub actions_is : new.actions ≡ (after s.engine.depth (stands_for s.engine x) Commit).actions

  module _ (at : ℕ) (wrote : Bool) (g : engine.Commits mid at wrote new) (at_is : at ≡ k) where
    over_position : s.engine.irrevocable ≡ false → CommitsOver at wrote (memory_of w k)
    over_position was =
        let fits : IsMemory mid.words (memory_of w k) = is_memory mid.words w m.over k in
        let agrees : Agrees (memory_of w k) mid.log = (m.before g.is_open).agrees ((rests mid new (Committed at wrote) g).restarted (λ r. r)) in
        let state = same s w mid new m was (memory_of w k) in
        let position : memory_of w at ≡ memory_of w k = ap (memory_of w) at_is in
        record {
          wrote_is = g.wrote_is (memory_of w k) fits agrees ∙ (λ i. (after (m.kept.depth i) (state i) Commit).wrote);
          memory_is = λ y. ap bytes_of (laid_memory at (sym (mode_then s w mid new m) ∙ was) (m.freed (g.freed ∙ y)) at_is ∙ ap (backed mid) position)
              ∙ (g.memory_is (memory_of w k) fits agrees ∙ (λ i. (after (m.kept.depth i) (state i) Commit).memory));
          arena_is = g.arena_is (memory_of w k) ∙ (λ i. (after (m.kept.depth i) (state i) Commit).arena);
          actions_is = g.actions_is (memory_of w k) ∙ (λ i. (after (m.kept.depth i) (state i) Commit).actions);
        }

    over_held : s.call ≡ Commit → IsHeldMid s w (Answers (Committed at wrote)) new → CommitsOver at wrote (held_words s.view)
    over_held call on =
        let Comes : Call → Type 0 = λ c. ComesTo (after s.engine.depth (stands_for s.engine (held_words s.view)) c) (reply s.engine.depth (stands_for s.engine (held_words s.view)) c) (Answers (Committed at wrote)) new (held_words w) in
        let comes = subst Comes call on.comes in
        record {
          wrote_is = comes.1 ∙ sym comes.2;
          memory_is = λ y. ap bytes_of (held_memory_is at (m.freed (g.freed ∙ y)) at_is) ∙ sym comes.0;
          arena_is = comes.3;
          actions_is = comes.4;
        }

    over : (b : Bool) → s.engine.irrevocable ≡ b → s.call ≡ Commit → (s.engine.irrevocable ≡ true → IsHeldMid s w (Answers (Committed at wrote)) new) → CommitsOver at wrote (memory_in b s.view w k)
    over true was call on = over_held call (on was)
    over false was call on = over_position was

  pub committed : (at : ℕ) (wrote : Bool) → (s.engine.irrevocable ≡ true → IsHeldMid s w (Answers (Committed at wrote)) new) → engine.Commits mid at wrote new → Done (Committed at wrote)
  committed at wrote on g =
      let stays = g.stays in
      let rest = rests mid new (Committed at wrote) g in
      let snap : new.snapshot ≡ mid.snapshot = ap (λ (c : Core). c.snapshot) stays in
      let at_is : at ≡ k = g.at_is ∙ ap (λ (n : ℕ). n / 2) (sym snap) in
      let same_call : Some s.call ≡ Some Commit = sym m.kept.doing ∙ g.doing in
      let call : s.call ≡ Commit = cc in
      let does = over at wrote g at_is s.engine.irrevocable refl call on in
      answered_so s w mid new m rest (record {
        closes = closes s w mid new m rest (λ r. r) at (ap in_transaction stays) at_is;
        was_open = sym (ap is_inside m.kept.blocks) ∙ g.is_open;
        outermost = ap length (sym m.kept.blocks) ∙ g.outermost;
        call = call;
        wrote_is = does.wrote_is;
        next = λ y. ((next_memory at (m.freed (g.freed ∙ y)) at_is).0, does.memory_is y);
        clock = λ y. ap (λ (c : Core). c.clock) stays ∙ (m.freed (g.freed ∙ y)).clock;
        few = λ y. (let l = (m.freed (g.freed ∙ y)).few in omega arith);
        arena_is = does.arena_is;
        actions_is = does.actions_is;
      }) (by_wrote at wrote g.freed at_is)

  -- ## The other answers

  -- no irrevocable transaction is answered so
  abbrev Never : Answer → Type 0
  Never a = (x : State) (r : Replied) → ComesTo x r (Answers a) new (held_words w) → ⊥

  revocable_by : (a : Answer) → Never a → (s.engine.irrevocable ≡ true → IsHeldMid s w (Answers a) new) → s.engine.irrevocable ≡ false
  revocable_by a never on = false_from_ne_true s.engine.irrevocable (λ i. never _ _ (on i).comes)

  undone_is : s.engine.irrevocable ≡ false → engine.IsUndone mid new → served_so.IsUndone s new
  undone_is was g x f = g x (to_mid s w mid new m x f) ∙ ap undone (same s w mid new m was x)

  -- what a conflict comes after, and a busy clock
  abbrev pub GaveUp : Option ℕ → Type 0
  GaveUp word = (word ≡ None → IsPatient s w) × (in_transaction s.engine ≡ false → GoesBegin s.call) × Loads w mid

  conflicted : (clock : ℕ) (word : Option ℕ) → GaveUp word → s.engine.irrevocable ≡ false → engine.Conflicts mid clock word new → IsRest mid (Conflict clock word) new → Done (Conflict clock word)
  conflicted clock word up was g rest =
      let stays = g.stays in
      let snap : new.snapshot ≡ mid.snapshot = ap (λ (c : Core). c.snapshot) stays in
      let later = g.later in
      let clock_is = g.clock_is in
      let is_open : in_transaction s.engine ≡ true = sym (ap is_inside m.kept.blocks) ∙ g.is_open in
      let now : w.clock ≡ mid.clock = m.clock g.is_open in
      let late = (m.before g.is_open).late in
      let first = m.first is_open in
      answered_so s w mid new m rest (record {
        closes = closes s w mid new m rest (λ r. r) k (ap in_transaction stays) refl;
        later = omega arith;
        clock_is = clock_is ∙ sym now;
        looks = elim (m.looked g.unfreed) [
          | inl still ↦ absurd (omega arith)
          | inr up ↦ up
        ];
        word_is = read_row word g.word_is;
        revocable = was;
        begins = λ shut. absurd (both (in_transaction s.engine) is_open shut);
        patient = up.0;
        undone = undone_is was g.undone;
      }) (m.mine g.unfreed)
    where
      read_row : (o : Option ℕ) → Differs mid o → IsRead s k w o
      read_row None d = tt
      read_row (Some told) d = (mid.log, d.3, d.2, d.1, (m.before g.is_open).log, (m.before g.is_open).agrees (rest.restarted (λ r. r)), d.5, d.6, up.2 d.0 (record { word = told; value = d.1 }) d.4, d.7)

  -- an engine that is closed has looked at the clock in this call
  abbrev pub HasLooked : Type 0
  HasLooked = in_transaction mid ≡ false → (w.clock ≡ mid.clock) × (s.view.looks < w.looks)

  shut_before : in_transaction mid ≡ false → in_transaction s.engine ≡ false
  shut_before c = sym (ap is_inside m.kept.blocks) ∙ c

  begins_with : IsBegin mid.doing → IsBegin (Some s.call)
  begins_with b = subst IsBegin m.kept.doing b

  lost : (clock : ℕ) (word : Option ℕ) → GaveUp word → s.engine.irrevocable ≡ false → in_transaction mid ≡ false → HasLooked → engine.IsLost mid clock word new → IsRest mid (Conflict clock word) new → Done (Conflict clock word)
  lost clock word up was shut looked g rest =
      let stays = g.stays in
      let snap : new.snapshot ≡ mid.snapshot = ap (λ (c : Core). c.snapshot) stays in
      let later = g.later in
      let now = looked shut in
      answered_so s w mid new m rest (record {
        closes = closes s w mid new m rest (λ r. r) k (ap in_transaction stays) refl;
        later = omega arith;
        clock_is = g.clock_is ∙ sym now.0;
        looks = now.1;
        word_is = subst (IsRead s k w) (sym g.word_is) tt;
        revocable = was;
        begins = up.1;
        patient = up.0;
        undone = undone_shut s w mid new m (shut_before shut) was (ap (λ (c : Core). c.irrevocable) stays) (ap (λ (c : Core). c.writes) stays) (ap (λ (c : Core). c.blocks) stays) (ap (λ (c : Core). c.arena) stays) (ap (λ (c : Core). c.actions) stays);
      }) (m.mine g.unfreed)

  by_open : (clock : ℕ) (word : Option ℕ) → GaveUp word → s.engine.irrevocable ≡ false → HasLooked → IsRest mid (Conflict clock word) new → (b : Bool) → in_transaction mid ≡ b → ConflictsIn b mid clock word new → Done (Conflict clock word)
  by_open clock word up was looked rest true is g = conflicted clock word up was g rest
  by_open clock word up was looked rest false is g = lost clock word up was is looked g rest

  busy : (clock : ℕ) → IsPatient s w → s.engine.irrevocable ≡ false → HasLooked → engine.IsBusy mid clock new → Done (Busy clock)
  busy clock up was looked g =
      let stays = g.stays in
      let rest = rests mid new (Busy clock) g in
      let now = looked g.closed in
      answered_so s w mid new m rest (record {
        closes = closes s w mid new m rest (λ r. r) k (ap in_transaction stays) refl;
        was_closed = shut_before g.closed;
        begins = begins_with g.begins;
        odd = g.odd;
        patient = up;
        clock_is = g.clock_is ∙ sym now.0;
        looks = now.1;
        undone = undone_shut s w mid new m (shut_before g.closed) was (ap (λ (c : Core). c.irrevocable) stays) (ap (λ (c : Core). c.writes) stays) (ap (λ (c : Core). c.blocks) stays) (ap (λ (c : Core). c.arena) stays) (ap (λ (c : Core). c.actions) stays);
      }) (m.mine g.unfreed)

  full : (at : ℕ) → s.engine.irrevocable ≡ false → engine.IsFull mid at new → Done (Full at)
  full at was g =
      let stays = g.stays in
      let rest = rests mid new (Full at) g in
      let limit : mid.max_commits ≡ s.engine.max_commits = m.kept.max_commits in
      let many = g.full in
      answered_so s w mid new m rest (record {
        closes = closes s w mid new m rest (λ r. r) at (ap in_transaction stays) g.at_is;
        wants = wants_same s w mid new m s.call (subst (WantsClock mid) m.kept.doing g.wants);
        full = omega arith;
        undone = undone_is was g.undone;
      }) (m.mine g.unfreed)

  -- a lost begin and a busy one have looked, as often as they may
  abbrev pub MayAnswer : Answer → Type 0
  MayAnswer (Conflict clock word) = HasLooked × GaveUp word
  MayAnswer (Busy clock) = HasLooked × IsPatient s w
  MayAnswer a = Unit {0}

  pub answered : (a : Answer) → MayAnswer a → (s.engine.irrevocable ≡ true → IsHeldMid s w (Answers a) new) → Ends mid a new → Done a
  answered (Reply r) looked on g = replied_to r on g
  answered (Committed at wrote) looked on g = committed at wrote on g
  answered (Conflict clock word) looked on g = by_open clock word looked.1 (revocable_by (Conflict clock word) (λ x r c. c) on) looked.0 (rests mid new (Conflict clock word) g) (in_transaction mid) refl g
  answered (Restarted clock word) looked on g = went_back s w mid new m clock word g
  answered (Busy clock) looked on g = busy clock looked.1 (revocable_by (Busy clock) (λ x r c. c) on) looked.0 g
  answered (Full at) looked on g = full at (revocable_by (Full at) (λ x r c. c) on) g

  abbrev pub MayEnd : Next → Type 0
  MayEnd (Asks step) = Unit {0}
  MayEnd (Answers a) = MayAnswer a

  -- what comes next is due
  pub due : (next : Next) → MayEnd next → Tried s w mid new → (s.engine.irrevocable ≡ true → IsHeldMid s w next new) → Proceeds mid next new → IsWithin new → IsDue s w new next
  due (Asks step) may q on g within = asked_on s w mid new m step g within q on
  due (Answers a) may q on g within = answered a may on g

  pub may : (next : Next) → ((a : Answer) → next ≡ Answers a → MayAnswer a) → MayEnd next
  may (Asks step) f = tt
  may (Answers a) f = f a refl

  -- what may be answered at once
  pub at_once : (next : Next) → IsAtOnce next → MayEnd next
  at_once (Answers (Conflict clock word)) a = absurd a
  at_once (Answers (Restarted clock word)) a = absurd a
  at_once (Answers (Busy clock)) a = absurd a
  at_once next a = tt

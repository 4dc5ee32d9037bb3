-- An actor's run between two tries: calls outside a transaction, and begins.
use Rattle.std.proofs.Common.{◌≡◌, ◌⊎◌, ℕ, ◌/◌, ◌≤◌, Bool, true, false, List, [], ◌++◌, None, Some, refl, sym, true≢false, ap, subst, ◌∙◌, arith, is_some, inl, inr, nat_lt}
use Rattle.event_rules.proofs.Common.{Actor, Agrees, Answer, Attempt, Begin, Between, Busy, Call, Cells, Committed, Conflict, ConflictsIn, Core, Enters, Full, IsBeforeTry, IsLost, IsOpenTry, IsRun, Obeys, Outcome, Props, Ready, Replied, Replies, Reply, Restarted, Rows, Rules, Stage, Stand, TakesTo, Tally, active_of, alone_whole, append-nil, backed, before_past, before_same, begin_call, begin_entered, begun_in, bytes_at, ending_of, in_transaction, is_tried, may_go, none-some, open_in, over_as, plain_reply, reply_cases, same_Some, sent_back, sent_same, served_may, served_outside, stage_of, stand_of, stands_for, tally_of, tried, within, words_at}
use Rattle.tx_attempts.specs.declared.attempt.Outcome.TheVariants as outcomes
use Rattle.event_rules.proofs.Runs.Answers.{RunOf, gave_run, now_at, open_run, run_same, shut_run, top}
use Rattle.event_rules.proofs.Tries.TryEnds.{IsBegun, RepliedOutside, begun_or_not, next_try}
use Rattle.event_rules.proofs.Commits.SeenMemories.{HasSeen, memory_at}
use Rattle.event_rules.proofs.Engines.Intakes.{HasAnswered, half_same, read_late, still_going}
use Rattle.run_rules.proofs.TriesBegin.{IsToOpen, begin_leaves, begins_held, begins_on}

-- where no attempt was open none is over
pub none_over : (outcome : Outcome) (stand : Stand) (s : Stage) → open_in s ≡ None → over_as outcome stand s ≡ []
none_over outcome stand (within row points) none = absurd (none-some row (sym none))
none_over outcome stand s none = refl

module _ {P : Type 0} {rules : Rules P} (laws : Obeys rules) {first : Between P} {base : List ℕ} {cells cells' : Cells} {r : Rows} (r1 : Rows) {mid : Core} (a last : Actor P) (call : Call)
    (seen : HasSeen mid.depth base cells cells' r mid a.engine) (run : IsRun rules first mid.depth base (cells.clock / 2) r (record a { engine = mid })) (revocable : mid.irrevocable ≡ false) where
  -- the run stays as it is where no attempt ends
  stays : r1.ended ≡ r.ended → last.run.thread ≡ a.run.thread → RunOf rules first mid.depth base (cells.clock / 2) r1.ended last.run.thread
  stays ended thread = run_same rules first mid.depth base (cells.clock / 2) r.ended r1.ended a.run.thread last.run.thread ended thread run.run

  -- where the actor stands before the answer
  before : in_transaction mid ≡ false → a.status ≡ Ready → (b : Between P) × (now_at rules first mid.depth base r.ended a.run.thread ≡ Some b) × IsBeforeTry rules mid.depth (cells.clock / 2) b (record a { engine = mid })
  before outside ready = run.between outside (still_going ready) (still_going ready)

  -- ## A reply outside a transaction

  module _ (reply : Replied) (m : HasAnswered rules false cells cells' r r1 mid a last call (Reply reply)) where
    abbrev position : List ℕ
    position = words_at mid.depth base r.ended (cells.clock / 2)

    -- a transaction is not irrevocable before it
    by_case : Replies mid call reply a.engine ⊎ Enters mid call reply a.engine
    by_case = elim (reply_cases mid a.engine call reply m.taken.doing m.ends) [
      | inl g ↦ inl g
      | inr (inl g) ↦ inr g
      | inr (inr g) ↦ absurd (true≢false (sym g.irrevocable ∙ revocable))
    ]

    outside_runs : (x : RepliedOutside rules r r1 a last call reply) → in_transaction last.engine ≡ false → last.run.again ≡ a.run.again → IsRun rules first mid.depth base (cells.clock / 2) r1 last
    outside_runs x closed again =
        let t = before m.taken.was_is m.answered.status in
        let k = t.2 in
        let shut : in_transaction a.engine ≡ false = ap in_transaction (sym m.settled.engine) ∙ closed in
        let g = plain_reply mid a.engine call reply m.taken.doing m.taken.tied.settled shut m.ends in
        -- its memory is the words as they are: nothing is logged
        let served = served_outside mid a.engine call reply cells'.words g m.taken.was_is shut (sym m.taken.words, m.taken.tied.fit) (subst (Agrees cells'.words) (sym (m.taken.tied.settled.closed shut).0) tt) in
        shut_run rules first mid.depth base (stays x.ended m.settled.thread) closed t.0 ((λ i. now_at rules first mid.depth base (x.ended i) (m.settled.thread i)) ∙ t.1) (λ gave_up. record {
          before = before_same (before_past k.before call m.answered.in_call.asks served.0 (x.player ∙ ap (rules.answered a.run.player) served.1) (ap (λ (c : Core). c.arena) m.settled.engine ∙ served.2)) refl refl again (omega (arith, x.nth));
          pending = λ row e. absurd (none-some row (sym x.pending ∙ e));
        })

    -- ## An accepted begin

    -- it may go, so its attempt is that which its player came to
    module _ (b : IsBegun rules r r1 a last call reply) (props : Props) (room : ℕ) (is : call ≡ Begin props room) where
      now : in_transaction a.engine ≡ true
      now = ap in_transaction (sym m.settled.engine) ∙ b.now

      enters : Enters mid call reply a.engine → Enters mid (Begin props room) reply a.engine
      enters = subst (λ (c : Call). Enters mid c reply a.engine) is

      opening : IsToOpen rules (before m.taken.was_is m.answered.status).0 b.row a.run.player mid props room
      opening =
          let k = (before m.taken.was_is m.answered.status).2 in
          let p = k.pending b.row b.pending in
          let same : b.row.props ≡ props = m.answered.in_call.props b.row props room b.pending is in
          let accepted = served_may (may_go [] props) (nat_lt 0 mid.depth) (begin_entered mid a.engine props room reply (m.taken.doing ∙ ap (λ (c : Call). Some c) is) m.taken.tied.settled m.ends m.taken.was_is revocable now).0 in
          record {
            comes = p.4 (subst (λ (x : Props). may_go [] x ≡ true) (sym same) accepted);
            asks = m.answered.in_call.asks ∙ ap (λ (c : Call). Some c) is;
            none_open = m.answered.nested.deep;
            arena = p.1;
            props = same;
            calls = p.2;
            ran = p.3;
            tries = (let nth = (m.answered.in_call.opens b.row b.pending).nth in let fewer = k.before.tries in omega arith);
            outside = m.taken.was_is;
            empty = m.taken.empty refl;
            again = p.5;
            restarts = p.6;
            revocable = revocable;
          }

      began : b.row.began ≤ a.engine.snapshot / 2
      began = (let opens = seen.opens m.taken.was_is now in let early = ((before m.taken.was_is m.answered.status).2.pending b.row b.pending).0 in omega arith)

      begin_runs : RepliedOutside rules r r1 a last call reply → IsRun rules first mid.depth base (cells.clock / 2) r1 last
      begin_runs x =
          let t = before m.taken.was_is m.answered.status in
          let row : Attempt = record b.row { at = last.engine.snapshot / 2 } in
          let Try : Core → P → List Attempt → Type 0 = λ e q xs. IsOpenTry rules mid.depth (words_at mid.depth base xs (cells.clock / 2)) t.0 row [] q e in
          let try : Try a.engine (rules.answered a.run.player reply) r.ended × (a.engine.again ≡ false) = elim by_case [
            | inl g ↦
                (begins_on laws position opening reply a.engine (last.engine.snapshot / 2) began (subst (λ (c : Call). Replies mid c reply a.engine) is g) (words_at mid.depth base r.ended (a.engine.snapshot / 2), memory_at seen (a.engine.snapshot / 2) (read_late m refl), seen.now now) now, ap (λ (c : Core). c.again) g.stays)
            | inr g ↦ (begins_held laws position opening reply a.engine (last.engine.snapshot / 2) began (enters g) now, ap (λ (c : Core). c.again) g.stays)
          ] in
          open_run rules first mid.depth base (stays x.ended m.settled.thread) b.now t.0 row [] ((λ i. now_at rules first mid.depth base (x.ended i) (m.settled.thread i)) ∙ t.1) b.stage
          (record {
            open_try = subst (λ (xs : List Attempt). Try last.engine last.run.player xs) (sym x.ended) (subst (λ (q : P). Try last.engine q r.ended) (sym x.player) (subst (λ (c : Core). Try c (rules.answered a.run.player reply) r.ended) (sym m.settled.engine) try.0));
            anew = ap (λ (c : Core). c.again) m.settled.engine ∙ try.1;
          })
          b.again ((m.answered.in_call.opens b.row b.pending).nth ∙ sym x.nth)

      -- one that goes irrevocable: the words are the memory of its position
      entered : Enters mid call reply a.engine → (row : Attempt) → active_of last ≡ Some row → stands_for a.engine cells'.words ≡ alone_whole mid.depth (bytes_at mid.depth base r.ended (cells.clock / 2)) row
      entered g row found =
          let at : ℕ = last.engine.snapshot / 2 in
          let memory : List ℕ = bytes_at mid.depth base r.ended (cells.clock / 2) in
          let same : record b.row { at = at } ≡ row = same_Some _ _ (sym (ap open_in b.stage) ∙ found) in
          let nothing : Agrees position mid.log = subst (Agrees position) (sym (seen.unlogged m.taken.was_is)) tt in
          let words : cells'.words ≡ backed mid position = (seen.loaded g.unfreed).held g.held g.revocable ∙ ap (λ (n : ℕ). backed mid (words_at mid.depth base r.ended n)) (half_same m refl) in
          ap (stands_for a.engine) words
          ∙ ((enters g).meets position (memory_at seen (cells.clock / 2) (top (cells.clock / 2))) nothing
          ∙ (begin_leaves laws position opening reply (enters g) now position
          ∙ (ap (λ (bytes : List ℕ). alone_whole mid.depth bytes b.row) (seen.laid.memories.same (cells.clock / 2) (top (cells.clock / 2))) ∙ ap (alone_whole mid.depth memory) same)))

    begin_is : IsBegun rules r r1 a last call reply → (props : Props) × (room : ℕ) × (call ≡ Begin props room)
    begin_is b = begin_call call (sym (m.answered.in_call.begins refl) ∙ ap is_some b.pending)

    pub begin_holds : in_transaction last.engine ≡ true → a.engine.irrevocable ≡ true → (row : Attempt) → active_of last ≡ Some row
        → stands_for a.engine cells'.words ≡ alone_whole mid.depth (bytes_at mid.depth base r.ended (cells.clock / 2)) row
    begin_holds now_open irrevocable row found = elim by_case [
      | inl g ↦ absurd (true≢false (sym irrevocable ∙ (ap (λ (c : Core). c.irrevocable) g.stays ∙ g.revocable)))
      | inr g ↦ elim (begun_or_not reply m).either [ inl b ↦ (let c = begin_is b in entered b c.0 c.1 c.2 g row found) | inr n ↦ absurd (true≢false (sym now_open ∙ n.shut)) ]
    ]

  -- ## A begin came to nothing

  nothing_runs : (t : Tally P) (over : List Attempt) → TakesTo (tried a.run.retries t over) r r1 a last → over ≡ [] → t.player ≡ a.run.player → t.nth ≡ a.run.nth → t.again ≡ a.run.again
      → last.run.thread ≡ a.run.thread → last.engine.arena ≡ mid.arena → in_transaction mid ≡ false → in_transaction last.engine ≡ false → a.status ≡ Ready → IsRun rules first mid.depth base (cells.clock / 2) r1 last
  nothing_runs tally over x nothing player nth again thread arena outside closed ready =
      let t = before outside ready in
      let k = t.2 in
      let d = is_tried tally over a.run.retries x in
      let ended : r1.ended ≡ r.ended = d.ended ∙ (ap (λ (l : List Attempt). r.ended ++ l) nothing ∙ append-nil r.ended) in
      shut_run rules first mid.depth base (stays ended thread) closed t.0 ((λ i. now_at rules first mid.depth base (ended i) (thread i)) ∙ t.1) (λ gave_up. record {
        before = before_same k.before (d.player ∙ player) arena (d.again ∙ again) (omega (arith, (next_try tally over a.run.retries x gave_up).1, nth));
        pending = λ row e. absurd (none-some row (sym (ap begun_in d.stage) ∙ e));
      })

  pub shut_runs : (answer : Answer) → HasAnswered rules false cells cells' r r1 mid a last call answer → IsRun rules first mid.depth base (cells.clock / 2) r1 last
  shut_runs (Reply reply) m =
      let x = begun_or_not reply m in
      elim x.either [ inl b ↦ (let c = begin_is reply m b in begin_runs reply m b c.0 c.1 c.2 x) | inr n ↦ outside_runs reply m x n.shut n.again ]
  shut_runs (Busy clock) m =
      nothing_runs (tally_of a.run) [] m.told.takes refl refl refl refl m.settled.thread (ap (λ (c : Core). c.arena) (m.settled.engine ∙ m.ends.stays)) m.taken.was_is (ap in_transaction m.settled.engine ∙ m.answered.fits.1) m.answered.status
  shut_runs (Conflict clock word) m =
      let lost : IsLost mid clock word a.engine = subst (λ (b : Bool). ConflictsIn b mid clock word a.engine) m.taken.was_is m.ends in
      let s = stage_of a.run.current in
      nothing_runs (record (tally_of a.run) { player = sent_back rules s a.run.player }) (over_as outcomes.Conflict (stand_of last.engine) s) m.told.takes (none_over outcomes.Conflict (stand_of last.engine) s m.answered.kept.row) (sent_same rules s a.run.player m.answered.kept.row) refl refl
      m.settled.thread (ap (λ (c : Core). c.arena) (m.settled.engine ∙ lost.stays)) m.taken.was_is (ap in_transaction m.settled.engine ∙ m.answered.fits.1) m.answered.status
  shut_runs (Full at) m =
      gave_run rules first mid.depth base
      (stays (m.told.takes.ended ∙ (ap (λ (l : List Attempt). r.ended ++ l) (none_over outcomes.Full (stand_of last.engine) (stage_of a.run.current) m.answered.kept.row) ∙ append-nil r.ended)) m.settled.thread)
      (ap in_transaction m.settled.engine ∙ m.answered.fits.1) (ap ending_of m.told.takes.status)
  shut_runs (Restarted clock word) m = absurd (let f : false ≡ true = m.answered.fits.0 in cc)
  shut_runs (Committed at wrote) m = absurd (let f : false ≡ true = m.answered.fits.0 in cc)

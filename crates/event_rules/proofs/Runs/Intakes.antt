-- A value or a call was taken in, and what the engine gave is recorded: the actor's run goes on, and the words are still those that the commits left.
use Rattle.std.proofs.Common.{◌≡◌, ℕ, suc, ◌+◌, ◌/◌, ◌≤◌, ◌==◌, Bool, true, false, List, [], ◌∷◌, ◌++◌, Option, None, Some, refl, sym, true≢false, ap, subst, ◌∙◌, arith, eq-eqb, append-nil, length, inl, inr}
use Rattle.event_rules.proofs.Common.{Actor, Agrees, Answer, Answers, AreCounted, AreLaid, Asks, Attempt, Between, Busy, Call, Cells, Committed, Conflict, Core, Full, HasRow, IsDone, IsHeld, IsRun, Loaded, Next, NoMemory, Obeys, Replied, Reply, Restarted, Rows, Rules, Sees, StandsIn, State, Step, Tells, Waits, active_of, after, alone, alone_whole, asks_on, backed, bytes_at, bytes_stay, committed_at, cond-true, ending_of, found_later, frees, in_transaction, is_open, memory_left, none_next, open_by, open_in, opened, ran_on, reply_cases, restarts_left, rests, same_Some, stands_for, stands_mode, stands_open, taken_at, told_active, with_call, words_at}
use Rattle.tx_attempts.proofs.RunsAgain.{state_more_in}
use Rattle.event_rules.proofs.Commits.LaidWords.{laid_more, laid_on}
use Rattle.event_rules.proofs.Runs.Answers.{back_runs, before_as, held_position, reply_runs, run_on, top}
use Rattle.event_rules.proofs.Runs.Endings.{cancel_runs, commit_ended, committed_row, commit_memory, commit_runs, conflict_runs, full_runs}
use Rattle.event_rules.proofs.Engines.HeldMoves.{HasHeld}
use Rattle.event_rules.proofs.Runs.Begins.{begin_holds, shut_runs}
use Rattle.event_rules.proofs.Commits.SeenMemories.{HasSeen, memory_at}
use Rattle.event_rules.proofs.Engines.Intakes.{HasAnswered, HasTaken, answered, still_going, clock_grows, half_same, not_starved, read_late, unfreed}

module _ {P : Type 0} (rules : Rules P) (first : Between P) (deepest : ℕ) (base : List ℕ) where
  -- what is true of the actor then; the words are laid as soon as its attempts are counted
  pub record HasRun (cells : Cells) (r : Rows) (last : Actor P) : Type 0 where
    pub run : IsRun rules first deepest base (cells.clock / 2) r last
    pub sees : Sees (words_at deepest base r.ended) cells last.engine
    pub held : last.engine.irrevocable ≡ true → (row : Attempt) → active_of last ≡ Some row → IsHeld deepest (bytes_at deepest base r.ended (cells.clock / 2)) cells.words row last.engine
    pub laid : AreCounted cells.clock r.ended → AreLaid deepest base cells r
    pub fed : ending_of last.status ≡ Some NoMemory → ⊥

module _ {P : Type 0} {rules : Rules P} (laws : Obeys rules) {first : Between P} {base : List ℕ} (was : Bool) {cells cells' : Cells} {r : Rows} {mid : Core} (a : Actor P) (call : Call)
    (seen : HasSeen mid.depth base cells cells' r mid a.engine) (run : IsRun rules first mid.depth base (cells.clock / 2) r (record a { engine = mid })) where
  -- no commit is done
  laid_still : (r1 : Rows) (more : List Attempt) → r1.ended ≡ r.ended ++ more → cells'.clock / 2 ≡ cells.clock / 2 → mid.freed ≡ false → AreCounted cells'.clock r1.ended → AreLaid mid.depth base cells' r1
  laid_still r1 more ended half unfreed counted =
      laid_on mid.depth base cells cells' r r1 seen.laid counted seen.long (bytes_stay seen.laid more ended) half (seen.even unfreed)

  -- ## The call goes on

  waits_on : (step : Step) → HasTaken rules was cells cells' r mid a call (Asks step) → HasHeld mid.depth base cells cells' r (active_of a) mid a.engine call (Asks step) → HasRun rules first mid.depth base cells' r (record a { status = Waits call step })
  waits_on step t held =
      let g = t.proceeds in
      let opens : in_transaction a.engine ≡ in_transaction mid = ap in_transaction g.stays in
      let half = t.moves.keeps g.unfreed in
      record {
        run = subst (λ (k : ℕ). IsRun rules first mid.depth base k r (record a { status = Waits call step })) (sym half)
            (run_on rules first mid.depth base (record a { status = Waits call step }) run run.run refl opens refl refl (λ end e. still_going t.ready e)
            (λ b row points o e x. (
              row,
              points,
              e,
              refl,
              record {
                open_try = asks_on x.open_try step g (seen.up o) seen.read (λ revocable. seen.longer (ap (λ (c : Core). c.restarted) g.stays) (opens ∙ o) (ap (λ (c : Core). c.irrevocable) g.stays ∙ revocable));
                anew = ap (λ (c : Core). c.again) g.stays ∙ x.anew;
              },
            ))
            (λ b o k. before_as (record a { status = Waits call step }) k (top (cells.clock / 2)) refl refl refl (ap (λ (c : Core). c.arena) g.stays) (ap (λ (c : Core). c.again) g.stays) (λ row e. e)));
        sees = record {
          loaded = subst (Loaded (words_at mid.depth base r.ended) cells') (sym g.stays) (let l = seen.loaded g.unfreed in record { fresh = l.fresh; held = l.held; got = l.got });
          logged = seen.now;
        };
        held = λ irrevocable row active.
            (let before : mid.irrevocable ≡ true = sym (ap (λ (c : Core). c.irrevocable) g.stays) ∙ irrevocable in
            subst (λ (k : ℕ). IsHeld mid.depth (bytes_at mid.depth base r.ended k) cells'.words row a.engine) (sym half) (record {
              still_open = held.still_open before row active;
              mode = held.mode before row active;
              stands = subst (λ (w : Option Step). StandsIn mid.depth w a.engine.doing a.engine cells'.words (alone_whole mid.depth (bytes_at mid.depth base r.ended (cells.clock / 2)) row)) (sym (ap (λ (c : Core). c.waits) g.stays))
                  (subst (λ (o : Option Call). StandsIn mid.depth (Some step) o a.engine cells'.words (alone_whole mid.depth (bytes_at mid.depth base r.ended (cells.clock / 2)) row)) (sym (ap (λ (c : Core). c.doing) g.stays ∙ t.doing)) (held.comes before row active));
              got = held.got before;
            }));
        laid = laid_still r [] (sym (append-nil r.ended)) half g.unfreed;
        fed = λ e. absurd (cc);
      }

  -- ## The call is answered

  module _ (r1 : Rows) (last : Actor P) (more : List Attempt) (ended : r1.ended ≡ r.ended ++ more) where
    to_now : cells'.clock / 2 ≡ cells.clock / 2 → IsRun rules first mid.depth base (cells.clock / 2) r1 last → IsRun rules first mid.depth base (cells'.clock / 2) r1 last
    to_now half x = subst (λ (k : ℕ). IsRun rules first mid.depth base k r1 last) (sym half) x

    open_runs : (answer : Answer) → HasAnswered rules true cells cells' r r1 mid a last call answer → HasHeld mid.depth base cells cells' r (active_of a) mid a.engine call (Answers answer) → IsRun rules first mid.depth base (cells'.clock / 2) r1 last
    open_runs (Reply reply) m held = by_open (in_transaction last.engine) refl
      where
        by_open : (now : Bool) → in_transaction last.engine ≡ now → IsRun rules first mid.depth base (cells'.clock / 2) r1 last
        by_open true o = to_now (half_same m refl) (reply_runs laws cells r1 a last call run seen reply m held o)
        by_open false o = cancel_runs laws r1 a last call seen.laid seen.words run (cells'.clock / 2) (clock_grows m.taken.moves) (bytes_stay seen.laid more ended) m.taken.was_is seen reply m o
            (read_late m refl)
    open_runs (Committed at wrote) m held = commit_runs laws r1 a last call seen.laid seen.words run (cells'.clock / 2) (clock_grows m.taken.moves) (bytes_stay seen.laid more ended) m.taken.was_is seen at wrote m held
    open_runs (Conflict clock word) m held = conflict_runs laws r1 a last call seen.laid seen.words run (cells'.clock / 2) (clock_grows m.taken.moves) (bytes_stay seen.laid more ended) m.taken.was_is seen clock word m held
    open_runs (Restarted clock word) m held = to_now (half_same m refl) (back_runs laws cells r1 a last call run seen clock word m)
    open_runs (Busy clock) m held = absurd (let f : true ≡ false = m.answered.fits.0 in cc)
    open_runs (Full at) m held =
        let at_is = m.ends.at_is in
        full_runs laws r1 a last call seen.laid seen.words run (cells'.clock / 2) (clock_grows m.taken.moves) (bytes_stay seen.laid more ended) m.taken.was_is seen at m held
        (omega (arith, (run.inside m.taken.was_is).5.open_try.began, seen.up m.taken.was_is)) (omega (arith, m.taken.tied.settled.reached, m.taken.tied.late, clock_grows m.taken.moves, m.taken.moves.keeps m.ends.unfreed))

    runs_on : (b : Bool) (answer : Answer) → HasAnswered rules b cells cells' r r1 mid a last call answer → HasHeld mid.depth base cells cells' r (active_of a) mid a.engine call (Answers answer) → IsRun rules first mid.depth base (cells'.clock / 2) r1 last
    runs_on true answer m held = open_runs answer m held
    runs_on false answer m held = to_now (half_same m (shut_frees answer m)) (shut_runs laws r1 a last call seen run (held.shut m.taken.was_is) answer m)
      where
        shut_frees : (answer : Answer) → HasAnswered rules false cells cells' r r1 mid a last call answer → frees answer ≡ false
        shut_frees (Committed at wrote) m = absurd (let f : false ≡ true = m.answered.fits.0 in cc)
        shut_frees answer m = refl

    -- an answer that leaves the transaction open ends no attempt
    open_ended : {b : Bool} {answer : Answer} → HasAnswered rules b cells cells' r r1 mid a last call answer → in_transaction a.engine ≡ true → r1.ended ≡ r.ended
    open_ended m o = (let now = subst (λ (x : Bool). HasRow x last) (ap in_transaction m.settled.engine ∙ o) m.settled.kept.row in (open_by m.told now.0 now.1).0)

    sees_on : (answer : Answer) → HasAnswered rules was cells cells' r r1 mid a last call answer → Sees (words_at mid.depth base r1.ended) cells' last.engine
    sees_on answer m =
        let rest = rests mid a.engine answer m.ends in
        subst (Sees (words_at mid.depth base r1.ended) cells') (sym m.settled.engine) (record {
          loaded = record {
            fresh = λ even same f. subst (Agrees (words_at mid.depth base r1.ended (cells'.clock / 2))) (sym rest.fresh) tt;
            held = λ h revocable. absurd (true≢false (sym h ∙ (rest.holds ∙ revocable)));
            got = λ h revocable. absurd (true≢false (sym h ∙ (rest.holds ∙ revocable)));
          };
          logged = λ o. subst (λ (rows : List Attempt). Agrees (words_at mid.depth base rows (a.engine.snapshot / 2)) a.engine.log) (sym (open_ended m o)) (seen.now o);
        })

    -- a writer's commit: its row's memory is what its stores have made of the words
    laid_freed : (at : ℕ) → HasAnswered rules true cells cells' r r1 mid a last call (Committed at true) → HasHeld mid.depth base cells cells' r (active_of a) mid a.engine call (Answers (Committed at true)) → AreCounted cells'.clock r1.ended → AreLaid mid.depth base cells' r1
    laid_freed at m held counted =
        let freed : mid.freed ≡ true = m.ends.freed in
        let x = m.taken.moves.frees freed in
        let position : at ≡ cells.clock / 2 = omega (arith, x.0, m.ends.at_is) in
        let up = clock_grows m.taken.moves in
        let inside = m.taken.was_is in
        let t = run.inside inside in
        let row : Attempt = committed_row true at a.engine call t.1 in
        let rows : r1.ended ≡ r.ended ++ row ∷ [] = commit_ended laws r1 a last call seen.laid seen.words run (cells'.clock / 2) up (bytes_stay seen.laid more ended) inside seen at true m held in
        let left_so = commit_memory laws r1 a last call seen.laid seen.words run (cells'.clock / 2) up (bytes_stay seen.laid more ended) inside seen at true m held refl in
        let found_row : committed_at r1.ended (cells.clock / 2) ≡ Some row =
        ap (λ (x : List Attempt). committed_at x (cells.clock / 2)) rows
        ∙ (found_later r.ended (row ∷ []) (cells.clock / 2) (none_next mid.depth base cells.clock r.ended seen.laid.counted (cells.clock / 2) (let l : cells.clock / 2 ≤ cells.clock / 2 = omega arith in l)) ∙ cond-true (at == cells.clock / 2) (Some row) None (eq-eqb at (cells.clock / 2) position)) in
        let next_is : cells.clock / 2 + 1 ≡ suc (cells.clock / 2) = omega arith in
        laid_more mid.depth base cells cells' r r1 seen.laid counted seen.long (bytes_stay seen.laid more ended) (omega (arith, x.0, x.1)) m.taken.tied.fit
        (ap (bytes_at mid.depth base r1.ended) next_is
        ∙ (ap (memory_left mid.depth (bytes_at mid.depth base r1.ended (cells.clock / 2))) found_row
        ∙ (ap (λ (k : ℕ). (alone mid.depth (bytes_at mid.depth base r1.ended k) row).memory) (sym position) ∙ left_so)))

    laid_answered : (b : Bool) (answer : Answer) → HasAnswered rules b cells cells' r r1 mid a last call answer → HasHeld mid.depth base cells cells' r (active_of a) mid a.engine call (Answers answer) → AreCounted cells'.clock r1.ended → AreLaid mid.depth base cells' r1
    laid_answered true (Committed at true) m held = laid_freed at m held
    laid_answered false (Committed at true) m held = absurd (let f : false ≡ true = m.answered.fits.0 in cc)
    laid_answered b answer m held = laid_still r1 more ended (half_same m refl) (unfreed m refl)

    -- ### In an irrevocable transaction

    -- it goes on with its calls alone, as the words stand
    stands_held : (memory : List ℕ) (row : Attempt) → in_transaction a.engine ≡ true → a.engine.irrevocable ≡ true → stands_for a.engine cells'.words ≡ alone_whole mid.depth memory row → a.engine.waits ≡ None → IsHeld mid.depth memory cells'.words row a.engine
    stands_held memory row inside irrevocable stands waits = record {
      still_open = ap is_open (sym stands) ∙ stands_open a.engine cells'.words inside;
      mode = ap (λ (s : State). s.irrevocable) (sym stands) ∙ (stands_mode a.engine cells'.words ∙ irrevocable);
      stands = subst (λ (w : Option Step). StandsIn mid.depth w a.engine.doing a.engine cells'.words (alone_whole mid.depth memory row)) (sym waits) stands;
      got = λ word value e. absurd (let none = sym waits ∙ e in cc);
    }

    -- a reply within it, or that of the call that made it so
    held_stands : (reply : Replied) (m : HasAnswered rules true cells cells' r r1 mid a last call (Reply reply)) → HasHeld mid.depth base cells cells' r (active_of a) mid a.engine call (Answers (Reply reply)) → a.engine.irrevocable ≡ true
        → stands_for a.engine cells'.words ≡ after mid.depth (alone_whole mid.depth (bytes_at mid.depth base r.ended (cells.clock / 2)) (run.inside m.taken.was_is).1) call
    held_stands reply m held irrevocable = elim (reply_cases mid a.engine call reply m.taken.doing m.ends) [
      | inl g ↦ absurd (true≢false (sym irrevocable ∙ (ap (λ (c : Core). c.irrevocable) g.stays ∙ g.revocable)))
      | inr (inl g) ↦
          (let n = cells.clock / 2 in
          let half = m.taken.moves.keeps g.unfreed in
          let position : List ℕ = words_at mid.depth base r.ended n in
          let same = held_position laws cells r1 a last call run m.taken.tied (ap (λ (c : Core). c.holds) g.stays ∙ g.held) (ap (λ (c : Core). c.clock) g.stays) half g.taken in
          let agrees : Agrees position mid.log = subst (λ (k : ℕ). Agrees (words_at mid.depth base r.ended k) mid.log) same (seen.logged m.taken.was_is) in
          let words : cells'.words ≡ backed mid position = (seen.loaded g.unfreed).held g.held g.revocable ∙ ap (λ (k : ℕ). backed mid (words_at mid.depth base r.ended k)) half in
          ap (stands_for a.engine) words
          ∙ (g.meets position (memory_at seen n (top n)) agrees
          ∙ ap (λ (s : State). after mid.depth s call) ((run.inside m.taken.was_is).5.open_try.stands g.revocable position (memory_at seen n (top n)) agrees ∙ ap (λ (bytes : List ℕ). alone_whole mid.depth bytes (run.inside m.taken.was_is).1) (seen.laid.memories.same n (top n)))))
      | inr (inr g) ↦ (held.comes g.irrevocable (run.inside m.taken.was_is).1 (ap open_in (run.inside m.taken.was_is).4)).0
    ]

    abbrev HeldOn : Type 0
    HeldOn = last.engine.irrevocable ≡ true → (row : Attempt) → active_of last ≡ Some row → IsHeld mid.depth (bytes_at mid.depth base r1.ended (cells'.clock / 2)) cells'.words row last.engine

    held_on : (b : Bool) (answer : Answer) → HasAnswered rules b cells cells' r r1 mid a last call answer → HasHeld mid.depth base cells cells' r (active_of a) mid a.engine call (Answers answer) → HeldOn
    held_on b answer m held irrevocable row active =
        let now : a.engine.irrevocable ≡ true = ap (λ (c : Core). c.irrevocable) (sym m.settled.engine) ∙ irrevocable in
        let inside : in_transaction a.engine ≡ true = (m.taken.tied.settled.holder (m.taken.tied.settled.irrevocable now).0).0 in
        let idle = (rests mid a.engine answer m.ends).idle in
        subst (λ (c : Core). IsHeld mid.depth (bytes_at mid.depth base r1.ended (cells'.clock / 2)) cells'.words row c) (sym m.settled.engine) (by_answer b answer m held now inside idle)
      where
        by_answer : (b : Bool) (answer : Answer) → HasAnswered rules b cells cells' r r1 mid a last call answer → HasHeld mid.depth base cells cells' r (active_of a) mid a.engine call (Answers answer) → a.engine.irrevocable ≡ true → in_transaction a.engine ≡ true → a.engine.waits ≡ None
            → IsHeld mid.depth (bytes_at mid.depth base r1.ended (cells'.clock / 2)) cells'.words row a.engine
        by_answer true (Reply reply) m held now inside idle =
            let t = run.inside m.taken.was_is in
            let half = half_same m refl in
            let x = taken_at m.told t.4 (ap in_transaction m.settled.engine ∙ inside) in
            let more : Attempt = record (with_call call reply t.1) { ran = ran_on t.1.ran t.1.restarts last.engine.actions.ran } in
            let same : more ≡ row = same_Some _ _ (sym (told_active x) ∙ active) in
            let s = held_stands reply m held now in
            let memory : bytes_at mid.depth base r.ended (cells.clock / 2) ≡ bytes_at mid.depth base r1.ended (cells'.clock / 2) = λ i. bytes_at mid.depth base (sym (open_ended m inside) i) (sym half i) in
            subst (λ (x : Attempt). IsHeld mid.depth (bytes_at mid.depth base r1.ended (cells'.clock / 2)) cells'.words x a.engine) same
            (subst (λ (bytes : List ℕ). IsHeld mid.depth bytes cells'.words more a.engine) memory
            (stands_held (bytes_at mid.depth base r.ended (cells.clock / 2)) more inside now
            (s ∙ sym (state_more_in (length t.1.arena) mid.depth t.1.restarts (opened (bytes_at mid.depth base r.ended (cells.clock / 2)) t.1.arena t.1.props) t.1.calls.list (record { call = call; reply = reply }) t.5.open_try.stand)) idle))
        by_answer false (Reply reply) m held now inside idle =
            let half = half_same m refl in
            let s = begin_holds laws r1 a last call seen run (held.shut m.taken.was_is) reply m (ap in_transaction m.settled.engine ∙ inside) now row active in
            let memory : bytes_at mid.depth base r.ended (cells.clock / 2) ≡ bytes_at mid.depth base r1.ended (cells'.clock / 2) = λ i. bytes_at mid.depth base (sym (open_ended m inside) i) (sym half i) in
            subst (λ (bytes : List ℕ). IsHeld mid.depth bytes cells'.words row a.engine) memory (stands_held (bytes_at mid.depth base r.ended (cells.clock / 2)) row inside now s idle)
        by_answer b (Restarted clock word) m held now inside idle = absurd (true≢false (sym now ∙ (ap (λ (c : Core). c.irrevocable) m.ends.stays ∙ m.ends.revocable)))
        by_answer b answer m held now inside idle = absurd (true≢false (sym inside ∙ m.answered.fits.1))

    answers_on : (answer : Answer) → HasAnswered rules was cells cells' r r1 mid a last call answer → HasHeld mid.depth base cells cells' r (active_of a) mid a.engine call (Answers answer) → HasRun rules first mid.depth base cells' r1 last
    answers_on answer m held = record {
      run = runs_on was answer m held;
      sees = sees_on answer m;
      held = held_on was answer m held;
      laid = laid_answered was answer m held;
      fed = not_starved rules r r1 a last call answer m.told;
    }

    -- ## Either

    pub runs_recorded : (what : Next) → HasTaken rules was cells cells' r mid a call what → HasHeld mid.depth base cells cells' r (active_of a) mid a.engine call what → IsDone rules was (restarts_left mid) r r1 a last call what → Tells rules r r1 a last call what → HasRun rules first mid.depth base cells' r1 last
    runs_recorded (Asks step) t held done tells =
        subst (λ (x : Rows). HasRun rules first mid.depth base cells' x last) (sym done.1) (subst (HasRun rules first mid.depth base cells' r) (sym done.0) (waits_on step t held))
    runs_recorded (Answers answer) t held done tells = answers_on answer (record { taken = t; answered = answered t; ends = t.proceeds; told = tells; settled = done }) held

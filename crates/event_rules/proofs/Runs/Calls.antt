-- An actor's run over a call, up to its first step, and over a step.
use Rattle.event_rules.proofs.Tries.ReadPositions.{still_reads}
use Rattle.run_rules.{proofs.GivenUp.given_up_as, proofs.TriesStep.told_on}
use Rattle.std.proofs.Common.{unwrap_or, ◌≡◌, ℕ, ◌/◌, ◌<◌, ◌≤◌, ◌&&◌, Bool, true, false, not, List, [], ◌∷◌, ◌++◌, ◌+◌, Some, refl, sym, true≢false, ap, subst, ◌∙◌, arith, inl, inr}
use Rattle.event_rules.proofs.Common.{Actor, AreCounted, AreLaid, Attempt, Begin, Between, Call, Cells, Commit, Core, Ended, EndsWithin, HasRow, Idle, IsDeep, IsDone, IsFed, IsHeld, IsNested, IsOpenTry, IsRun, IsSound, Next, Obeys, PlayerRun, Props, Ready, Rows, Rules, RunsFrom, Sees, Stage, Starves, Status, Stays, StillRuns, Tells, active_of, and_right, append-nil, asked_at, asked_begun, before_led, before_same, begin_here, begins_again, begun_in, bytes_at, bytes_stay, came_on, cases_Bool, cond-false, cond-true, ending_as, ending_of, found, handed_on, in_transaction, irrevocable_room, is_inside, may_begin, may_go, moved_begun, moved_open, moved_stage, not_from_true, open_in, over_as, reserved, reserved_more, restarts_left, rolled_back, row_is_of, same_Some, shut_revocable, stage_of, stage_out, stand_of, told, told_active, told_player, with_room, within, words_at}
use Rattle.tx_attempts.specs.declared.attempt.Outcome.TheVariants as outcomes
use Rattle.tx_runs.specs.declared.ending.End.TheVariants as ends
use Rattle.event_rules.proofs.Engines.SoundSteps.{IsCalling, asked_row, call_taken, mid, player_same, rests, IsStepping, mid_step, same, step_taken, waits, went}
use Rattle.event_rules.proofs.Commits.LaidWords.{laid_same}
use Rattle.event_rules.proofs.Runs.Intakes.{runs_recorded}
use Rattle.event_rules.proofs.Engines.HeldMoves.{call_held, held_same, step_held}
use Rattle.event_rules.proofs.Engines.TiedEngines.{limit_same}
use Rattle.event_rules.proofs.Commits.SeenMemories.{HasSeen, call_seen, step_seen}
use Rattle.event_rules.proofs.Engines.Intakes.{now, still_going}
use Rattle.event_rules.proofs.Rooms.FedPlayers.{comes_still, fed_by, fed_recorded, more_within, none_within}
use Rattle.event_rules.proofs.Runs.Answers.{RunOf, before_as, idle_from, now_at, open_run, run_on, run_same, top}
use Rattle.event_rules.proofs.Runs.Endings.{stop_run}
use Rattle.event_rules.proofs.Runs.Begins.{none_over}
use Rattle.std.proofs.Math.Bool.{and-true}

-- ## How many blocks may be open

-- what is so where as many may be open as in an engine is so wherever they are as many
pub still_at : {P : Type 0} (rules : Rules P) (cells : Cells) (r : Rows) (a : Actor P) (cells' : Cells) (r' : Rows) (a' : Actor P) (depth : ℕ) → depth ≡ a.engine.depth
    → ((first : Between P) (base : List ℕ) → AreLaid depth base cells r → RunsFrom rules first depth base cells r a → AreLaid depth base cells' r' × RunsFrom rules first depth base cells' r' a') → StillRuns rules cells r a cells' r' a'
still_at rules cells r a cells' r' a' depth same own first deepest base laid runs =
    subst (λ (d : ℕ). AreLaid d base cells r → RunsFrom rules first d base cells r a → AreLaid d base cells' r' × RunsFrom rules first d base cells' r' a') (same ∙ runs.depth) (own first base) laid runs

-- ## The player has no more calls

module _ {P : Type 0} {rules : Rules P} {cells : Cells} {r0 : Rows} {old : Actor P} (sound : IsSound rules cells r0 old) (ready : old.status ≡ Ready) (first : Between P) (deepest : ℕ) (base : List ℕ) (runs : RunsFrom rules first deepest base cells r0 old) where
  pub finish_runs : RunsFrom rules first deepest base cells r0 (record old { status = Ended ends.Finished })
  finish_runs = record {
    depth = runs.depth;
    runs = run_on rules first deepest base (record old { status = Ended ends.Finished }) runs.runs runs.runs.run refl refl refl refl (λ end e. still_going ready e) (λ b row points o e t. (row, points, e, refl, record { open_try = t.open_try; anew = t.anew }))
        (λ b o k. before_as (record old { status = Ended ends.Finished }) k (top (cells.clock / 2)) refl refl refl refl refl (λ row e. e));
    sees = runs.sees;
    held = runs.held;
    starved = λ e. absurd (cc);
    reads = runs.reads;
    fed = λ true_room. (let x = runs.fed true_room in fed_by rules first.player (record old { status = Ended ends.Finished }) ((x.moves, x.comes), x.blocks) x.within (λ e. absurd (cc)));
  }

-- ## A call went to the engine

module _ {P : Type 0} {rules : Rules P} (laws : Obeys rules) {cells : Cells} {r0 r : Rows} {old a : Actor P} {call : Call} {what : Next} (m : IsCalling rules cells r0 r old a call what)
    (first : Between P) (base : List ℕ) (laid : AreLaid old.engine.depth base cells r0) (runs : RunsFrom rules first old.engine.depth base cells r0 old) where
  run_came : IsRun rules first old.engine.depth base (cells.clock / 2) r (record a { engine = mid m })
  run_came =
      let thread = ap (λ (x : PlayerRun P). x.thread) m.asks.run in
      let again_same = ap (λ (x : PlayerRun P). x.again) m.asks.run in
      let nth = ap (λ (x : PlayerRun P). x.nth) m.asks.run in
      let room = λ (row : Attempt). reserved row.calls (unwrap_or (irrevocable_room old.engine call) 0 + 1) in
      run_on rules first old.engine.depth base (record a { engine = mid m }) runs.runs (run_same rules first old.engine.depth base (cells.clock / 2) r0.ended r.ended old.run.thread a.run.thread m.asks.ended thread runs.runs.run)
      (λ i. now_at rules first old.engine.depth base (m.asks.ended i) (thread i)) refl again_same nth (λ end e. still_going m.ready e)
      (λ b row points o e t.
      (let again = begins_again (stage_of old.run.current) old.run.again call in
      let Try : P → List Attempt → Type 0 = λ q l. IsOpenTry rules old.engine.depth (words_at old.engine.depth base l (cells.clock / 2)) b (record row { calls = room row }) points q (mid m) in
      let on = came_on (told_on t.open_try row.at (room row).room) call again o m.sound.tied.settled.reads in (
        record row { calls = room row },
        points,
        m.asks.stage ∙ ap (asked_at cells.clock old call) e,
        refl,
        record {
          open_try = subst (λ (l : List Attempt). Try a.run.player l) (sym m.asks.ended) (subst (λ (q : P). Try q r0.ended) (sym (player_same m)) on);
          anew = and_right again (not (in_transaction old.engine)) (not_from_true (in_transaction old.engine) o);
        },
      )))
      (λ b o k. record {
        before = before_same k.before (player_same m) refl again_same (omega (arith, nth));
        -- the attempt that is to be opened then
        pending = λ row e.
            (let f = asked_begun cells.clock old call (stage_of old.run.current) row (rests m.sound m.ready).nothing (sym (ap begun_in m.asks.stage) ∙ e) in
            let made = f.3 in
            let asks : rules.next_call old.run.player ≡ Some (Begin f.0 f.1) = ap rules.next_call (sym (player_same m)) ∙ (m.asked.in_call.asks ∙ ap (λ (c : Call). Some c) f.2) in
            let out = stage_out _ (subst (λ (x : Bool). HasRow x old) o m.sound.kept.row) (rests m.sound m.ready).nothing in
            let same : f.0 ≡ row.props = ap (λ (x : Attempt). x.props) (sym made) in (
              omega (arith, ap (λ (x : Attempt). x.began) made),
              ap (λ (x : Attempt). x.arena) made,
              ap (λ (x : Attempt). x.calls.list) made,
              ap (λ (x : Attempt). x.ran) made,
              λ may. before_led rules laws old.engine.depth k.before ∙ (begin_here rules laws old.engine.depth old.run.player old.engine.arena f.0 f.1 asks (may_begin old.engine.depth old.engine.arena f.0 f.1 m.sound.tied.settled.deep (subst (λ (x : Props). may_go [] x ≡ true) (sym same) may)) ∙ (λ i. Some (record { player = (sym (player_same m)) i; arena = old.engine.arena; props = same i }))),
              (λ i. begins_again (out i) old.run.again (f.2 i) && not (o i)) ∙ (and-true old.run.again ∙ k.before.again),
              ap (λ (x : Attempt). x.restarts) made,
            ));
      })

  seen : HasSeen old.engine.depth base cells cells r (mid m) a.engine
  seen =
      call_seen old.engine.depth base cells r old.engine a.engine call (begins_again (stage_of old.run.current) old.run.again call) (laid_same old.engine.depth base cells r0 r m.asks.ended laid) m.sound.tied (rests m.sound m.ready).free
      (subst (λ (l : List Attempt). Sees (words_at old.engine.depth base l) cells old.engine) (sym m.asks.ended) runs.sees) m.asks.called.stays

  pub call_runs : (r1 : Rows) (last : Actor P) → IsDone rules (in_transaction old.engine) (restarts_left (mid m)) r r1 a last call what → Tells rules r r1 a last call what → (more : List Attempt) → r1.ended ≡ r.ended ++ more → AreCounted cells.clock r1.ended
      → AreLaid old.engine.depth base cells r1 × RunsFrom rules first old.engine.depth base cells r1 last
  call_runs r1 last done tells more ended counted =
      let taken = call_taken m in
      let x = runs_recorded laws (in_transaction old.engine) a call seen run_came r1 last more ended what taken (call_held m base runs.held) done tells in (
        x.laid counted,
        record {
          depth = ap (λ (c : Core). c.depth) (now taken done tells).engine ∙ (limit_same (mid m) a.engine what m.asks.called.proceeds).2;
          runs = x.run;
          sees = x.sees;
          held = x.held;
          starved = λ e. absurd (x.fed e);
          reads = still_reads (λ row e. (let w = asked_row m row e in ap (λ (y : Attempt). y.at) w.2 ∙ (runs.reads w.0 w.1 ∙ ap (λ (k : ℕ). k / 2) (sym m.asks.called.stays.snapshot)))) r1 last taken done tells;
          fed = λ true_room. fed_recorded laws first.player true_room (fed_came (runs.fed true_room)) (shut_revocable old.engine m.sound.tied.settled) r1 last taken done tells;
        },
      )
    where
      -- its player has not moved
      fed_came : IsFed rules first.player old → IsFed rules first.player (record a { engine = mid m })
      fed_came before =
          fed_by rules first.player (record a { engine = mid m }) (comes_still rules first.player a.run.player (player_same m) before) (λ h row e.
          (let w = asked_row m row e in
          let room = ap (λ (y : Attempt). y.calls.room) w.2 in
          let least = reserved_more w.0.calls (unwrap_or (irrevocable_room old.engine call) 0 + 1) in
          more_within rules w.0.calls.room row.calls.room a.run.player (omega arith) (subst (EndsWithin rules w.0.calls.room) (sym (player_same m)) (before.within h w.0 w.1))))
          (λ e. still_going (m.asked.status ∙ m.ready) e)

-- ## Memory was refused

module _ {P : Type 0} {rules : Rules P} (laws : Obeys rules) {cells : Cells} {r0 r1 : Rows} {old last : Actor P} (sound : IsSound rules cells r0 old) (s : Starves rules r0 old r1 last)
    (first : Between P) (base : List ℕ) (laid : AreLaid old.engine.depth base cells r0) (runs : RunsFrom rules first old.engine.depth base cells r0 old) (free : old.engine.holds ≡ old.engine.irrevocable) (nested : IsNested rules (in_transaction old.engine) old.run.player) (more : List Attempt) (ended : r1.ended ≡ r0.ended ++ more) where
  module _ (revocable : old.engine.irrevocable ≡ false) where
    gone : last.engine ≡ record (rolled_back old.engine) { stage = Idle; tries = 0 }
    gone = s.engine ∙ cond-false old.engine.holds _ _ (free ∙ revocable)

    closed : in_transaction last.engine ≡ false
    closed = ap in_transaction gone

    starve_run : (b : Bool) → in_transaction old.engine ≡ b → RunOf rules first old.engine.depth base (cells.clock / 2) r1.ended last.run.thread
    starve_run false o =
        let none = none_over outcomes.NoMemory (stand_of last.engine) (stage_of old.run.current) (subst (λ (b : Bool). HasRow b old) o sound.kept.row) in
        run_same rules first old.engine.depth base (cells.clock / 2) r0.ended r1.ended old.run.thread last.run.thread ((s.stops revocable).ended ∙ (ap (λ (l : List Attempt). r0.ended ++ l) none ∙ append-nil r0.ended)) s.same.thread runs.runs.run
    starve_run true o =
        let t = runs.runs.inside o in
        let active = ap open_in t.4 in
        let stops = (s.stops revocable).ended ∙ (ap (λ (st : Stage). r0.ended ++ over_as outcomes.NoMemory (stand_of last.engine) st) t.4
        ∙ ap (λ (c : Core). r0.ended ++ record (ending_as outcomes.NoMemory (stand_of last.engine) t.1) { at = c.snapshot / 2 } ∷ []) gone) in
        (stop_run laws r1 old last Commit laid sound.tied.words runs.runs (cells.clock / 2) (let l : cells.clock / 2 ≤ cells.clock / 2 = omega arith in l)
        (bytes_stay laid more ended) o (old.engine.snapshot / 2) outcomes.NoMemory last.engine.actions.ran refl (λ u. absurd (cc)) (λ x y i. (y, i)) s.same.thread (row_is_of (in_transaction old.engine) old t.1 sound.kept.row active) stops
        t.5.open_try.began (let reached = sound.tied.settled.reached in let late = sound.tied.late in omega arith) (runs.sees.logged o) revocable (given_up_as old.engine last.engine (words_at old.engine.depth base r0.ended (old.engine.snapshot / 2)) (free ∙ revocable) revocable s.engine) (λ f. absurd (cc))).0

    -- its transaction is rolled back
    rolled_runs : RunsFrom rules first old.engine.depth base cells r1 last
    rolled_runs =
        idle_from (ap (λ (c : Core). c.depth) gone)
        (record { run = starve_run (in_transaction old.engine) refl; inside = λ o. absurd (true≢false (sym o ∙ closed)); between = λ o gave_up starved. absurd (starved (ap ending_of s.status)) })
        closed (ap (λ (c : Core). c.fresh) gone) (ap (λ (c : Core). c.holds) gone) (ap (λ (c : Core). c.irrevocable) gone) (told_active (s.stops revocable))
        (λ told. comes_still rules first.player last.run.player (told_player (s.stops revocable)) (runs.fed told))

  module _ (irrevocable : old.engine.irrevocable ≡ true) where
    kept : last.engine ≡ old.engine
    kept = s.engine ∙ cond-true old.engine.holds _ _ (free ∙ irrevocable)

    stays : Stays r0 old r1 last
    stays = s.held irrevocable

    inside : in_transaction old.engine ≡ true
    inside = (sound.tied.settled.holder (sound.tied.settled.irrevocable irrevocable).0).0

    -- its attempt may have a place more
    abbrev with_place : Attempt
    with_place = record (runs.runs.inside inside).1 { calls = record (runs.runs.inside inside).1.calls { room = stays.room } }

    here_stage : stage_of last.run.current ≡ within (record (runs.runs.inside inside).1 { calls = record (runs.runs.inside inside).1.calls { room = stays.room } }) (runs.runs.inside inside).3
    here_stage = stays.stage ∙ ap (with_room stays.room) (runs.runs.inside inside).4

    here : active_of last ≡ Some (record (runs.runs.inside inside).1 { calls = record (runs.runs.inside inside).1.calls { room = stays.room } })
    here = ap open_in here_stage

    -- it stays as it is
    held_runs : RunsFrom rules first old.engine.depth base cells r1 last
    held_runs = record {
      depth = ap (λ (c : Core). c.depth) kept;
      runs =
          (let t = runs.runs.inside inside in
          open_run rules first old.engine.depth base (run_same rules first old.engine.depth base (cells.clock / 2) r0.ended r1.ended old.run.thread last.run.thread stays.ended s.same.thread runs.runs.run) (ap in_transaction kept ∙ inside)
          t.0 with_place t.3 ((λ i. now_at rules first old.engine.depth base (stays.ended i) (s.same.thread i)) ∙ t.2) here_stage
          (record {
            open_try =
                (let Try : List Attempt → P → Core → Type 0 = λ l q e. IsOpenTry rules old.engine.depth (words_at old.engine.depth base l (cells.clock / 2)) t.0 with_place t.3 q e in
                subst (λ (l : List Attempt). Try l last.run.player last.engine) (sym stays.ended)
                (subst (λ (q : P). Try r0.ended q last.engine) (sym (ap (λ (x : PlayerRun P). x.player) stays.run)) (subst (Try r0.ended old.run.player) (sym kept) (told_on t.5.open_try with_place.at stays.room))));
            anew = ap (λ (c : Core). c.again) kept ∙ t.5.anew;
          })
          (ap (λ (x : PlayerRun P). x.again) stays.run ∙ t.6) (t.7 ∙ sym (ap (λ (x : PlayerRun P). x.nth) stays.run)));
      sees = subst (λ (l : List Attempt). Sees (words_at old.engine.depth base l) cells last.engine) (sym stays.ended) (subst (Sees (words_at old.engine.depth base r0.ended) cells) (sym kept) runs.sees);
      held = λ i row f.
          (let t = runs.runs.inside inside in
          let same : with_place ≡ row = same_Some _ _ (sym here ∙ f) in
          subst (λ (x : Attempt). IsHeld old.engine.depth (bytes_at old.engine.depth base r1.ended (cells.clock / 2)) cells.words x last.engine) same
          (subst (λ (l : List Attempt). IsHeld old.engine.depth (bytes_at old.engine.depth base l (cells.clock / 2)) cells.words with_place last.engine) (sym stays.ended)
          (subst (IsHeld old.engine.depth (bytes_at old.engine.depth base r0.ended (cells.clock / 2)) cells.words with_place) (sym kept) (held_same t.1.at stays.room (runs.held irrevocable t.1 (ap open_in t.4))))));
      starved = λ e r. absurd (true≢false (sym irrevocable ∙ (sym (ap (λ (c : Core). c.irrevocable) kept) ∙ r)));
      reads = λ row f. (let t = runs.runs.inside inside in sym (ap (λ (x : Attempt). x.at) (same_Some _ _ (sym here ∙ f))) ∙ (runs.reads t.1 (ap open_in t.4) ∙ ap (λ (c : Core). c.snapshot / 2) (sym kept)));
      fed = λ true_room.
          (let before = runs.fed true_room in
          let row = runs.runs.inside inside in
          let deep : 0 < rules.depth old.run.player = subst (λ (b : Bool). IsDeep b (rules.depth old.run.player)) inside nested.deep in
          absurd (none_within rules row.1.calls.room old.run.player s.call (s.used irrevocable row.1 (ap open_in row.4)) (before.within irrevocable row.1 (ap open_in row.4)) deep s.next_is));
    }

  pub starve_runs : RunsFrom rules first old.engine.depth base cells r1 last
  starve_runs = elim (cases_Bool old.engine.irrevocable) [ inl i ↦ held_runs i | inr r ↦ rolled_runs r ]

-- ## A step

module _ {P : Type 0} {rules : Rules P} (laws : Obeys rules) {cells : Cells} {r : Rows} {old : Actor P} {call : Call} {what : Next} {cells' : Cells} {new : Core} (m : IsStepping rules cells r old call what cells' new)
    (status : Status) (ready : status ≡ Ready) (first : Between P) (base : List ℕ) (laid : AreLaid (mid_step m).depth base cells r) (runs : RunsFrom rules first (mid_step m).depth base cells r old) where
  seen_step : HasSeen (mid_step m).depth base cells cells' r (mid_step m) new
  seen_step = subst (λ (c : Cells). HasSeen (mid_step m).depth base cells c r (mid_step m) new) (sym m.cells_are) (step_seen (mid_step m).depth base cells r old.engine laid m.sound.tied runs.sees m.step (waits m).waits (waits m).lawful new m.resumed.joins)

  -- the value is handed in
  run_mid : IsRun rules first (mid_step m).depth base (cells.clock / 2) r (record old { engine = mid_step m; status = status })
  run_mid =
      let kept = same m in
      let settled = m.sound.tied.settled in
      run_on rules first (mid_step m).depth base (record old { engine = mid_step m; status = status }) runs.runs runs.runs.run refl (ap is_inside kept.blocks) refl refl (λ end e. absurd (let z = sym (ap ending_of m.waiting) ∙ e in cc))
      (λ b row points o e t. (row, points, e, refl, record { open_try = handed_on t.open_try m.step (found cells m.step) settled.reads; anew = kept.again ∙ t.anew }))
      (λ b o k. before_as (record old { engine = mid_step m; status = status }) k (top (cells.clock / 2)) refl refl refl (kept.arena (shut_revocable old.engine settled o)) kept.again (λ row e. e))

  pub step_runs : (r1 : Rows) (last : Actor P) → IsDone rules (in_transaction old.engine) (restarts_left (mid_step m)) r r1 (record old { engine = new; status = status }) last call what → Tells rules r r1 (record old { engine = new; status = status }) last call what
      → (more : List Attempt) → r1.ended ≡ r.ended ++ more → AreCounted cells'.clock r1.ended → AreLaid (mid_step m).depth base cells' r1 × RunsFrom rules first (mid_step m).depth base cells' r1 (told last)
  step_runs r1 last done tells more ended counted =
      let taken = step_taken m status ready in
      let at : ℕ = last.engine.snapshot / 2 in
      let x = runs_recorded laws (in_transaction old.engine) (record old { engine = new; status = status }) call seen_step run_mid r1 last more ended what taken (step_held m (mid_step m).depth base runs.held) done tells in (
        x.laid counted,
        record {
          depth = ap (λ (c : Core). c.depth) (now taken done tells).engine ∙ (limit_same (mid_step m) new what (went m)).2;
          runs = run_on rules first (mid_step m).depth base (told last) x.run x.run.run refl refl refl refl (λ end e. e)
              (λ b row points o e t. (record row { at = at }, points, moved_stage at last.run.current row points e, refl, record { open_try = told_on t.open_try at row.calls.room; anew = t.anew }))
              (λ b o k. before_as (told last) k (top (cells'.clock / 2)) refl refl refl refl refl (λ row e. sym (moved_begun at last.run.current) ∙ e));
          sees = x.sees;
          held = λ i row f.
              (let was = moved_open at last.run.current row f in
              subst (λ (y : Attempt). IsHeld (mid_step m).depth (bytes_at (mid_step m).depth base r1.ended (cells'.clock / 2)) cells'.words y last.engine) (sym was.2) (held_same at was.0.calls.room (x.held i was.0 was.1)));
          starved = λ e. absurd (x.fed e);
          reads = λ row f. ap (λ (y : Attempt). y.at) (moved_open at last.run.current row f).2;
          fed = λ true_room.
              (let before = runs.fed true_room in
              let kept = same m in
              let handed = fed_by rules first.player (record old { engine = mid_step m; status = status }) ((before.moves, before.comes), before.blocks) (λ h. before.within (sym kept.irrevocable ∙ h)) (λ e. still_going ready e) in
              let left = fed_recorded laws first.player true_room handed (λ o. kept.irrevocable ∙ shut_revocable old.engine m.sound.tied.settled (sym (ap is_inside kept.blocks) ∙ o)) r1 last taken done tells in
              fed_by rules first.player (told last) ((left.moves, left.comes), left.blocks)
              (λ h row f. (let was = moved_open at last.run.current row f in subst (λ (y : Attempt). EndsWithin rules y.calls.room last.run.player) (sym was.2) (left.within h was.0 was.1))) left.fed);
        },
      )

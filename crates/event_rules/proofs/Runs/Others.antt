-- The actors' runs: one's event leaves the others', and together they are the headline.
use Rattle.std.proofs.Common.{◌≡◌, inl, inr, ℕ, ◌/◌, ◌%◌, ◌≤◌, Bool, true, false, List, [], ◌∷◌, ◌++◌, length, length-set, replicate, Option, Some, ◌+◌, slice_get, slice_set, refl, sym, ap, subst, ◌∙◌, arith}
use Rattle.event_rules.proofs.Common.{Actor, Agrees, AllFit, AllOf, AreActors, AreDated, AreLaid, AreOfActors, AreOpaque, AreOutrun, AreRunning, AreTied, Attempt, Between, Cells, ClocksOn, Core, Current, Got, HasRead, HasRow, IsHeld, IsMadeAlone, IsMemory, IsRunOf, IsTied, IsTryAt, IsWorld, KeepsOthers, Obeys, Outside, ReadsFrom, Ready, RestartAtMost, Rows, Rules, RunsFrom, StandsIn, State, StillRuns, World, active_of, agree_reads, alone, alone_led, alone_whole, append-nil, attempts_of, backed, begun_in, both_outrun, breaks_of, bytes_at, bytes_of, bytes_stay, bytes_still, cases_Bool, first_of, in_transaction, is_open, length-bytes_of, made_alone, observed, of_thread, of_thread_more, open_in, open_so as open_within, opened, opening, opens, positioned_on, row_open, row_unfinished, run_after, run_still, run_with, same_Some, set_place, slice_get_within, stage_of, stands_mode, state_then, stays_as, there_is, try_stops, whole_then, with_open, words_at, words_of, words_of-bytes_of, write_at}
use Rattle.tx_attempts.specs.declared.attempt.Outcome.TheVariants as outcomes
use Rattle.event_rules.proofs.Tries.Dates.{all_dated, all_few}
use Rattle.event_rules.proofs.Events.SoundOthers.{held_apart, odd_held}
use Rattle.event_rules.proofs.Runs.Answers.{before_as, idle_from, rests_run, run_on, top}
use Rattle.event_rules.proofs.Commits.CommitCounts.{counted_both, counted_first, open_outrun}
use Rattle.event_rules.proofs.Tries.ThreadAttempts.{are_open, of_actors_all, of_actors_both, of_thread_none, opens_each, opens_of, row_there, stand_there}

module _ {P : Type 0} (rules : Rules P) (laws : Obeys rules) where
  -- ## Another one's event

  pub other_runs : (first : Between P) (deepest : ℕ) (base : List ℕ) (cells cells' : Cells) (r r' : Rows) (thread : ℕ) (b : Actor P) → AreLaid deepest base cells r → IsTied cells b.engine → (more : List Attempt) → r'.ended ≡ r.ended ++ more → AllOf thread more → (b.run.thread ≡ thread → ⊥)
      → cells.clock ≤ cells'.clock → (b.engine.holds ≡ true → cells' ≡ cells) → RunsFrom rules first deepest base cells r b → RunsFrom rules first deepest base cells' r' b
  other_runs first deepest base cells cells' r r' thread b laid tied more ended mine apart later held x =
      record {
        depth = x.depth;
        runs = run_on rules first deepest base b x.runs (subst (IsRunOf rules deepest (cells'.clock / 2) (bytes_at deepest base r'.ended) (Some first)) (sym rows) on.0) now refl refl refl (λ end e. e)
            (λ c row points o e t. (row, points, e, refl, record { open_try = positioned_on t.open_try (words_at deepest base r'.ended (cells'.clock / 2)) (λ i. ap words_of (memory_held i)); anew = t.anew })) (λ c o k. before_as b k (omega (arith, later)) refl refl refl refl refl (λ row e. e));
        sees = (let s = x.sees in record {
          loaded = record {
            fresh = λ even same f.
                (let clock : cells'.clock ≡ cells.clock = (let late = tied.late in omega arith) in
                let words : words_at deepest base r'.ended (cells'.clock / 2) ≡ words_at deepest base r.ended (cells.clock / 2) = ap (λ (k : ℕ). words_at deepest base r'.ended (k / 2)) clock ∙ ap words_of (bytes_stay laid more ended (cells.clock / 2) (top (cells.clock / 2))) in
                subst (λ (m : List ℕ). Agrees m b.engine.fresh) (sym words) (s.loaded.fresh (ap (λ (k : ℕ). k % 2) (sym clock) ∙ even) (same ∙ clock) f));
            held = λ h revocable.
                (let is = held h in
                ap (λ (c : Cells). c.words) is ∙ (s.loaded.held h revocable ∙ (ap (λ (m : List ℕ). backed b.engine m) (ap words_of (sym (bytes_stay laid more ended (cells.clock / 2) (top (cells.clock / 2)))))
                ∙ ap (λ (c : Cells). backed b.engine (words_at deepest base r'.ended (c.clock / 2))) (sym is))));
            got = λ h revocable. subst (λ (c : Cells). Got b.engine.got (slice_get c.words (write_at b.engine.writes b.engine.done).word)) (sym (held h)) (s.loaded.got h revocable);
          };
          logged = λ o. subst (λ (m : List ℕ). Agrees m b.engine.log) (sym (ap words_of (bytes_stay laid more ended (b.engine.snapshot / 2) (let reached = tied.settled.reached in let late = tied.late in omega arith)))) (s.logged o);
        });
        held = λ i row f.
            subst (λ (bytes : List ℕ). IsHeld deepest bytes cells'.words row b.engine) (sym (memory_held i))
            (subst (λ (c : Cells). IsHeld deepest (bytes_at deepest base r.ended (cells.clock / 2)) c.words row b.engine) (sym (held (tied.settled.irrevocable i).0)) (x.held i row f));
        starved = x.starved;
        reads = x.reads;
        fed = x.fed;
      }
    where
      memory_held : b.engine.irrevocable ≡ true → bytes_at deepest base r'.ended (cells'.clock / 2) ≡ bytes_at deepest base r.ended (cells.clock / 2)
      memory_held i = ap (λ (c : Cells). bytes_at deepest base r'.ended (c.clock / 2)) (held (tied.settled.irrevocable i).0) ∙ bytes_stay laid more ended (cells.clock / 2) (top (cells.clock / 2))

      rows : of_thread b.run.thread r'.ended ≡ of_thread b.run.thread r.ended
      rows =
          ap (of_thread b.run.thread) ended ∙ (of_thread_more b.run.thread r.ended more
          ∙ (ap (λ (l : List Attempt). of_thread b.run.thread r.ended ++ l) (of_thread_none b.run.thread thread more mine (λ e. apart (sym e))) ∙ append-nil (of_thread b.run.thread r.ended)))

      on : IsRunOf rules deepest (cells'.clock / 2) (bytes_at deepest base r'.ended) (Some first) (of_thread b.run.thread r.ended)
          × (run_after rules deepest (bytes_at deepest base r'.ended) (Some first) (of_thread b.run.thread r.ended) ≡ run_after rules deepest (bytes_at deepest base r.ended) (Some first) (of_thread b.run.thread r.ended))
      on = run_still rules deepest (cells.clock / 2) (cells'.clock / 2) (bytes_at deepest base r.ended) (bytes_at deepest base r'.ended) (omega (arith, later)) (bytes_stay laid more ended) (Some first) (of_thread b.run.thread r.ended) x.runs.run

      now : run_after rules deepest (bytes_at deepest base r'.ended) (Some first) (of_thread b.run.thread r'.ended) ≡ run_after rules deepest (bytes_at deepest base r.ended) (Some first) (of_thread b.run.thread r.ended)
      now = ap (run_after rules deepest (bytes_at deepest base r'.ended) (Some first)) rows ∙ on.1

  -- ## The headline

  module _ (w : World P) (sound : AreActors rules w.cells w.attempts w.actors) (long : length w.actors ≡ length w.opening)
      (running : AreRunning rules w) where
    shown_still : (k : ℕ) → k ≤ w.cells.clock / 2 → bytes_at w.limits.depth w.base (attempts_of w) k ≡ bytes_at w.limits.depth w.base w.attempts.ended k
    shown_still k l = bytes_still w.limits.depth w.base w.cells.clock w.attempts.ended running.laid.counted (opens w.actors) k l

    -- of an open attempt: its calls are made alone on this memory, and its actions and its mode are those of the state that they lead to
    abbrev Over : (p : P) (a : Actor P) → RunsFrom rules (first_of p w.arena) w.limits.depth w.base w.cells w.attempts a → in_transaction a.engine ≡ true → List ℕ → Type 0
    Over p a x o memory =
        let t = x.runs.inside o in
        let start = t.5.open_try.of_block.start in
        let state : State = state_then w.limits.depth (breaks_of t.1.restarts) (opened memory start.arena start.props) t.1.calls.list in
        IsMadeAlone rules w.limits.depth t.0 start t.1 memory × (t.1.ran ≡ state.actions.ran) × (state.irrevocable ≡ a.engine.irrevocable)

    over_it : (p : P) (a : Actor P) (x : RunsFrom rules (first_of p w.arena) w.limits.depth w.base w.cells w.attempts a) (o : in_transaction a.engine ≡ true) (m : List ℕ) → IsMemory a.engine.words m → ReadsFrom a.engine.irrevocable (words_at w.limits.depth w.base w.attempts.ended (w.cells.clock / 2)) a.engine.log m
        → is_open (whole_then w.limits.depth (x.runs.inside o).1 m (x.runs.inside o).1.calls.list) ≡ true → (whole_then w.limits.depth (x.runs.inside o).1 m (x.runs.inside o).1.calls.list).irrevocable ≡ a.engine.irrevocable → Over p a x o (bytes_of m)
    over_it p a x o m mem reads still mode =
        let t = x.runs.inside o in
        let try = t.5.open_try in (
          made_alone try m mem reads still,
          try.ran m mem reads ∙ (λ i. (state_then w.limits.depth (breaks_of t.1.restarts) (opened (bytes_of m) (try.of_block.arena i) (try.of_block.props i)) t.1.calls.list).actions.ran),
          ap (λ (y : State). y.irrevocable) (stays_as try m mem reads) ∙ mode,
        )

    -- the memory of its position
    abbrev Parts : (p : P) (a : Actor P) → RunsFrom rules (first_of p w.arena) w.limits.depth w.base w.cells w.attempts a → in_transaction a.engine ≡ true → Type 0
    Parts p a x o = Over p a x o (bytes_at w.limits.depth w.base (attempts_of w) (a.engine.snapshot / 2))

    open_parts : (place : ℕ) (p : P) (a : Actor P) (e : slice_get w.opening place ≡ Some p) (f : slice_get w.actors place ≡ Some a) (o : in_transaction a.engine ≡ true) → Parts p a (running.each place p a e f) o
    open_parts place p a e f o =
        let x = running.each place p a e f in
        let tied = (sound.each place a f).sound.tied in
        let k : ℕ = a.engine.snapshot / 2 in
        let late : k ≤ w.cells.clock / 2 = omega (arith, tied.settled.reached, tied.late) in
        let m : List ℕ = words_at w.limits.depth w.base w.attempts.ended k in
        let last : List ℕ = words_at w.limits.depth w.base w.attempts.ended (w.cells.clock / 2) in
        let fits = running.laid.memories.fits k late in
        let same = running.laid.memories.same k late in
        let mem : IsMemory a.engine.words m = (fits.0 ∙ sym tied.words, fits.1) in
        let t = x.runs.inside o in
        subst (Over p a x o) (same ∙ sym (shown_still k late)) (elim (cases_Bool a.engine.irrevocable) [
          | inl i ↦
              (let h = x.held i t.1 (ap open_in t.4) in
              let holds = (tied.settled.irrevocable i).0 in
              let half : k ≡ w.cells.clock / 2 = omega (arith, tied.holder holds, (tied.settled.holder holds).1, tied.settled.even) in
              let here : bytes_of m ≡ bytes_at w.limits.depth w.base w.attempts.ended (w.cells.clock / 2) = same ∙ ap (bytes_at w.limits.depth w.base w.attempts.ended) half in
              over_it p a x o m mem (subst (λ (b : Bool). ReadsFrom b last a.engine.log m) (sym i) (ap (words_at w.limits.depth w.base w.attempts.ended) half))
              (ap (λ (y : List ℕ). is_open (alone_whole w.limits.depth y t.1)) here ∙ h.still_open) (ap (λ (y : List ℕ). (alone_whole w.limits.depth y t.1).irrevocable) here ∙ (h.mode ∙ sym i)))
          | inr r ↦
              (let try = t.5.open_try in
              let reads = agree_reads last a.engine.irrevocable a.engine.log m r (x.sees.logged o) in
              over_it p a x o m mem reads (open_within try m mem reads r o) (ap (λ (y : State). y.irrevocable) (sym (try.stands r m mem (x.sees.logged o))) ∙ stands_mode a.engine m))
        ])

    of_actor : (place : ℕ) (p : P) (a : Actor P) → slice_get w.opening place ≡ Some p → slice_get w.actors place ≡ Some a
        → IsRunOf rules w.limits.depth (w.cells.clock / 2) (bytes_at w.limits.depth w.base (attempts_of w)) (Some (first_of p w.arena)) (of_thread place (attempts_of w))
    of_actor place p a e f =
        let x = running.each place p a e f in
        let s = sound.each place a f in
        let n : ℕ = w.cells.clock / 2 in
        let memory : ℕ → List ℕ = bytes_at w.limits.depth w.base w.attempts.ended in
        let shown : ℕ → List ℕ = bytes_at w.limits.depth w.base (attempts_of w) in
        let ended : List Attempt = of_thread a.run.thread w.attempts.ended in
        let own_rows : of_thread a.run.thread (attempts_of w) ≡ ended ++ with_open (active_of a) [] =
        of_thread_more a.run.thread w.attempts.ended (opens w.actors) ∙ ap (λ (l : List Attempt). ended ++ l) (opens_of 0 place a.run.thread w.actors a (stand_there sound) f (s.thread ∙ (let z : place ≡ 0 + place = omega arith in z))) in
        subst (λ (t : ℕ). IsRunOf rules w.limits.depth (w.cells.clock / 2) (bytes_at w.limits.depth w.base (attempts_of w)) (Some (first_of p w.arena)) (of_thread t (attempts_of w))) s.thread
        (elim (cases_Bool (in_transaction a.engine)) [
          | inl o ↦
              (let t = x.runs.inside o in
              let k : ℕ = a.engine.snapshot / 2 in
              let late : k ≤ n = omega (arith, s.sound.tied.settled.reached, s.sound.tied.late) in
              let parts = open_parts place p a e f o in
              let block = t.5.open_try.of_block in
              let active : active_of a ≡ Some t.1 = ap open_in t.4 in
              let try = try_stops laws w.limits.depth block n shown k (shown k) refl outcomes.Unfinished t.1.ran refl parts.0 parts.0.still_open t.5.open_try.began late parts.1 (λ f. absurd (cc)) in
              let as_it_is : record t.1 { at = k; outcome = outcomes.Unfinished } ≡ t.1 =
              λ i. record t.1 { at = (sym (x.reads t.1 active)) i; outcome = (sym (row_unfinished (in_transaction a.engine) a t.1 s.sound.kept.row active)) i } in
              let rows : of_thread a.run.thread (attempts_of w) ≡ ended ++ t.1 ∷ [] = own_rows ∙ ap (λ (o : Option Attempt). ended ++ with_open o []) active in
              subst (IsRunOf rules w.limits.depth n shown (Some (first_of p w.arena))) (sym rows)
              (run_with rules w.limits.depth n n memory shown (top n) shown_still (Some (first_of p w.arena)) ended t.0 block.start t.1 x.runs.run t.2 block.begins (subst (IsTryAt rules w.limits.depth n shown t.0 (Some block.start)) as_it_is try)).0)
          | inr shut ↦
              (let none : HasRow false a = subst (λ (b : Bool). HasRow b a) shut s.sound.kept.row in
              let rows : of_thread a.run.thread (attempts_of w) ≡ ended = own_rows ∙ (ap (λ (o : Option Attempt). ended ++ with_open o []) none ∙ append-nil ended) in
              subst (IsRunOf rules w.limits.depth n shown (Some (first_of p w.arena))) (sym rows) (run_still rules w.limits.depth n n memory shown (top n) shown_still (Some (first_of p w.arena)) ended x.runs.run).0)
        ])

    player_at : (place : ℕ) (a : Actor P) → slice_get w.actors place ≡ Some a → (p : P) × (slice_get w.opening place ≡ Some p)
    player_at place a e = there_is w.opening place (omega (arith, long, slice_get_within w.actors place a e))

    -- an open attempt's player alone is irrevocable where its engine is
    mode_of : (place : ℕ) (a : Actor P) (row : Attempt) → slice_get w.actors place ≡ Some a → active_of a ≡ Some row
        → (alone w.limits.depth (bytes_at w.limits.depth w.base (attempts_of w) row.at) row).irrevocable ≡ a.engine.irrevocable
    mode_of place a row e some =
        let here = player_at place a e in
        let own = sound.each place a e in
        let o = row_open (in_transaction a.engine) a row own.sound.kept.row some in
        let x = running.each place here.0 a here.1 e in
        let t = x.runs.inside o in
        let same : t.1 ≡ row = same_Some _ _ (sym (ap open_in t.4) ∙ some) in
        ap (λ (j : ℕ). (alone w.limits.depth (bytes_at w.limits.depth w.base (attempts_of w) j) row).irrevocable) (x.reads row some)
        ∙ (ap (λ (y : Attempt). (alone w.limits.depth (bytes_at w.limits.depth w.base (attempts_of w) (a.engine.snapshot / 2)) y).irrevocable) (sym same)
        ∙ (ap (λ (y : State). y.irrevocable) (alone_led laws w.limits.depth t.5.open_try.of_block (bytes_at w.limits.depth w.base (attempts_of w) (a.engine.snapshot / 2))) ∙ (open_parts place here.0 a here.1 e o).2))

    -- who holds the clock has an open attempt, at the last position
    held_row : (place : ℕ) (a : Actor P) → slice_get w.actors place ≡ Some a → a.engine.holds ≡ true → (row : Attempt) × (active_of a ≡ Some row) × (row.at ≡ w.cells.clock / 2)
    held_row place a e h =
        let here = player_at place a e in
        let own = sound.each place a e in
        let tied = own.sound.tied in
        let holder = tied.settled.holder h in
        let x = running.each place here.0 a here.1 e in
        let t = x.runs.inside holder.0 in
        let half : a.engine.snapshot / 2 ≡ w.cells.clock / 2 = omega (arith, tied.holder h, holder.1, tied.settled.even) in
        (t.1, ap open_in t.4, x.reads t.1 (ap open_in t.4) ∙ half)

    pub are_opaque : AreOutrun w.cells.clock w.attempts.ended → AreDated w.limits.retries [] (attempts_of w) → RestartAtMost w.limits.restarts (attempts_of w) → AreOpaque rules (observed w)
    are_opaque outrun dated few = record {
      runs = λ place p e. (let here = there_is w.actors place (omega (arith, long, slice_get_within w.opening place p e)) in of_actor place p here.0 e here.1);
      threads = subst (λ (n : ℕ). AreOfActors n (attempts_of w)) long (of_actors_both (length w.actors) w.attempts.ended (opens w.actors) running.threads
          (opens_each (AreOfActors (length w.actors)) tt w.actors (λ place a row e here xs rest. (omega (arith, row_there sound place a row e here, slice_get_within w.actors place a e), rest))));
      counted = counted_both w.cells.clock w.attempts.ended (opens w.actors) (are_open sound).unfinished running.laid.counted;
      outrun = both_outrun w.cells.clock w.attempts.ended (opens w.actors) outrun (open_outrun w.cells.clock (opens w.actors) (are_open sound).unfinished);
      dated = dated;
      few = few;
      size = omega (arith, length-bytes_of w.cells.words, length-bytes_of (words_of w.base), (running.laid.memories.fits 0 (omega arith)).0, ap (length {A = ℕ}) (running.laid.memories.same 0 (omega arith)));
      free = λ even.
          ap bytes_of (running.laid.free even) ∙ (running.laid.memories.same (w.cells.clock / 2) (top (w.cells.clock / 2)) ∙ sym (shown_still (w.cells.clock / 2) (top (w.cells.clock / 2))));
    }

    pub are_tied : AreTied rules w
    are_tied = record {
      players = λ place p a e f. (running.each place p a e f).runs;
      reads = λ place a row e some.
          (let here = player_at place a e in
          (running.each place here.0 a here.1 e).reads row some);
      each = long;
      threads = λ place a e. (sound.each place a e).thread;
      rows = λ place a e. (sound.each place a e).sound.kept.row;
      open_rows = are_open sound;
      modes = mode_of;
      irrevocable = λ place a e i. ((sound.each place a e).sound.tied.settled.irrevocable i).0;
      holder = held_row;
      held = λ place a e h r.
          (let here = player_at place a e in
          (running.each place here.0 a here.1 e).sees.loaded.held h r ∙ ap (λ (m : List ℕ). backed a.engine (words_of m)) (sym (shown_still (w.cells.clock / 2) (top (w.cells.clock / 2)))));
      rooms = λ place a row e some. (sound.each place a e).sound.acts.backed row some;
      fed = λ place p a e f true_room. ((running.each place p a e f).fed true_room).fed;
      stored = λ place a row e some i.
          (let here = player_at place a e in
          subst (λ (bytes : List ℕ). StandsIn w.limits.depth a.engine.waits a.engine.doing a.engine w.cells.words (alone_whole w.limits.depth bytes row)) (sym (shown_still (w.cells.clock / 2) (top (w.cells.clock / 2)))) ((running.each place here.0 a here.1 e).held i row some).stands);
    }

  pub world_opaque : (w : World P) → IsWorld rules w → AreOpaque rules (observed w)
  world_opaque w kept = are_opaque w kept.actors kept.long kept.running kept.commits.outrun (all_dated w kept.actors kept.dated) (all_few w kept.actors kept.commits kept.dated)

  pub world_tied : (w : World P) → IsWorld rules w → AreTied rules w
  world_tied w kept = are_tied w kept.actors kept.long kept.running

  -- ## An actor's work in a world

  module _ (w : World P) (kept : IsWorld rules w)
      (i : ℕ) (got new : Actor P) (here : slice_get w.actors i ≡ Some got) (cells' : Cells) (r' : Rows) (events : ℕ) (others : KeepsOthers got w.attempts new r') (clocks : ClocksOn w.cells got.engine cells' new.engine)
      (runs : StillRuns rules w.cells w.attempts got cells' r' new) where
    player : (p : P) × (slice_get w.opening i ≡ Some p)
    player = there_is w.opening i (let l = slice_get_within w.actors i got here in omega (arith, kept.long))

    went : AreLaid w.limits.depth w.base cells' r' × RunsFrom rules (first_of player.0 w.arena) w.limits.depth w.base cells' r' new
    went = runs (first_of player.0 w.arena) w.limits.depth w.base kept.running.laid (kept.running.each i player.0 got player.1 here)

    -- what its transaction has read is of one memory
    pub has_read : IsTied cells' new.engine → HasRead w.limits.depth w.base r' new
    has_read tied o =
        let k_late : new.engine.snapshot / 2 ≤ cells'.clock / 2 = (let reached = tied.settled.reached in let late = tied.late in omega arith) in
        let fits = went.0.memories.fits (new.engine.snapshot / 2) k_late in
        ((fits.0 ∙ sym tied.words, fits.1), went.1.sees.logged o)

    pub running_after : AreRunning rules (record w { cells = cells'; actors = slice_set w.actors i new; attempts = r'; events = events })
    running_after = record {
      laid = went.0;
      threads = subst (λ (n : ℕ). AreOfActors n r'.ended) (sym (length-set w.actors i new)) (subst (AreOfActors (length w.actors)) (sym others.ended)
          (of_actors_both (length w.actors) w.attempts.ended others.more kept.running.threads (of_actors_all (length w.actors) got.run.thread others.more (let l = slice_get_within w.actors i got here in let t = (kept.actors.each i got here).thread in omega arith) others.mine)));
      each = each_after;
    }
      where
        each_after : (place : ℕ) (p : P) (a : Actor P) → slice_get w.opening place ≡ Some p → slice_get (slice_set w.actors i new) place ≡ Some a → RunsFrom rules (first_of p w.arena) w.limits.depth w.base cells' r' a
        each_after place p a e f = elim (set_place w.actors i got new here place a f) [
          | inl h ↦
              (let same_player : player.0 ≡ p = (let z : Some player.0 ≡ Some p = sym player.1 ∙ (ap (slice_get w.opening) h.0 ∙ e) in cc) in
              subst (λ (x : Actor P). RunsFrom rules (first_of p w.arena) w.limits.depth w.base cells' r' x) (sym h.1)
              (subst (λ (q : P). RunsFrom rules (first_of q w.arena) w.limits.depth w.base cells' r' new) same_player went.1))
          | inr h ↦
              (let b = kept.actors.each place a h.1 in
              other_runs (first_of p w.arena) w.limits.depth w.base w.cells cells' w.attempts r' got.run.thread a kept.running.laid b.sound.tied others.more others.ended others.mine
              (λ same. h.0 (sym (kept.actors.each i got here).thread ∙ (sym same ∙ b.thread))) clocks.late (λ holds. (held_apart w.cells cells' w.actors i got new here clocks kept.commits.one (odd_held kept.actors) place a h.0 h.1 holds).0) (kept.running.each place p a e h.1))
        ]

  -- ## Beginnings

  -- an actor that has made no call
  pub fresh_runs : (cells : Cells) (r : Rows) (a : Actor P) (deepest : ℕ) (base : List ℕ) (size patience max_commits restarts : ℕ) → rules.depth a.run.player ≡ 0 → a.engine ≡ opening (length cells.words) (replicate size 0) patience max_commits deepest restarts → r.ended ≡ [] → a.run.nth ≡ 1 → a.run.again ≡ false → a.run.current ≡ Outside → a.status ≡ Ready
      → RunsFrom rules (first_of a.run.player size) deepest base cells r a
  fresh_runs cells r a deepest base size patience max_commits restarts outside is none first anew nothing ready =
      let shut : in_transaction a.engine ≡ false = ap in_transaction is in
      let rows : of_thread a.run.thread r.ended ≡ [] = ap (of_thread a.run.thread) none in
      idle_from (ap (λ (c : Core). c.depth) is)
      (rests_run rules (first_of a.run.player size) deepest base (subst (IsRunOf rules deepest (cells.clock / 2) (bytes_at deepest base r.ended) (Some (first_of a.run.player size))) (sym rows) tt) shut false 0
      (ap (run_after rules deepest (bytes_at deepest base r.ended) (Some (first_of a.run.player size))) rows ∙ (λ i. Some (record { player = a.run.player; arena = sym (ap (λ (c : Core). c.arena) is) i; again = false; tries = 0 })))
      anew (λ gave_up. (let one = first in omega arith)) (ap (λ (c : Current). begun_in (stage_of c)) nothing))
      shut (ap (λ (c : Core). c.fresh) is) (ap (λ (c : Core). c.holds) is) (ap (λ (c : Core). c.irrevocable) is) (ap (λ (c : Current). open_in (stage_of c)) nothing) (λ told. ((0, refl), λ d inner few. absurd (omega arith)))

-- no commit has been done
pub laid_first : (deepest : ℕ) (base : List ℕ) (cells : Cells) (r : Rows) → base ≡ bytes_of cells.words → AllFit cells.words → cells.clock ≡ 0 → r.ended ≡ [] → AreLaid deepest base cells r
laid_first deepest base cells r is fit zero_clock none =
    let words : words_of base ≡ cells.words = ap words_of is ∙ words_of-bytes_of cells.words fit in
    record {
      counted = counted_first cells.clock r.ended zero_clock none;
      memories = record {
        fits = λ k l. subst (λ (j : ℕ). IsMemory (length cells.words) (words_at deepest base r.ended j)) (sym (at_zero k l)) (subst (IsMemory (length cells.words)) (sym words) (refl, fit));
        same = λ k l. subst (λ (j : ℕ). bytes_of (words_at deepest base r.ended j) ≡ bytes_at deepest base r.ended j) (sym (at_zero k l)) (ap bytes_of words ∙ sym is);
      };
      free = λ even. sym words ∙ ap (λ (k : ℕ). words_at deepest base r.ended (k / 2)) (sym zero_clock);
    }
  where
    at_zero : (k : ℕ) → k ≤ cells.clock / 2 → k ≡ 0
    at_zero k l = omega (arith, l, zero_clock)

-- The open attempt's block ends with its last call.
use Rattle.std.proofs.Common.{◌≡◌, ℕ, suc, ◌/◌, ◌<◌, ◌≤◌, Bool, true, false, if◌then◌else◌, List, [], ◌∷◌, ◌++◌, length, Some, refl, sym, true≢false, ap, subst, ◌∙◌, arith, append_assoc}
use Rattle.worker_rules.proofs.Common.{Account, Actions, Attempt, ClosedBy, Core, Course, EndsAs, HasRun, IsMadeAlone, IsRunning, IsTryAt, MayRead, Obeys, Outcome, Ran, Replied, Rules, Stands, Start, State, View, Went, after, after_try, alone, bytes_at, closes_as, closing_after, closing_left, commits_known, in_transaction, is_committed, is_done, is_open, memory_of, now_at, positions, ran_closes, ran_on, reply, reply_as, stands_for, stood, telling, try_closes}
use Rattle.tx_attempts.specs.declared.attempt.Outcome.TheVariants as outcomes
use Rattle.worker_rules.proofs.Runs.LaterCommits.{known_more, positions_more}
use Rattle.worker_rules.proofs.Runs.LaterRuns.{runs_outside}
use Rattle.worker_rules.proofs.Runs.OpenRuns.{ends_told, led, made_open, open_whole, run_ended, stood_whole, whole}
use Rattle.worker_rules.proofs.Shapes.{RunsTo, closed, ended_at, row_with}

-- ## An outcome with which a block is over

never_full : (outcome : Outcome) → is_done outcome ≡ true → outcome ≡ outcomes.Full → ⊥
never_full outcome done full = true≢false (sym done ∙ ap is_done full)

module _ {P : Type 0} {rules : Rules P} (laws : Obeys rules) (c : Course P) (s : Start) (t : Account P) (v : View) (e : Core) (running : IsRunning rules c s.view s.engine t) (before : Stands s.view s.engine) (went : Went s.view v)
    (asks : rules.next_call t.player ≡ Some s.call) (inside : in_transaction s.engine ≡ true) (r : Replied) (read : MayRead s.view s.engine (memory_of v (e.snapshot / 2)))
    (replied : r ≡ reply c.depth (stands_for s.engine (stood s.engine.irrevocable s.view (memory_of v (e.snapshot / 2)))) s.call) where
  -- the plain state that the call leaves
  abbrev pub last : State
  last = after c.depth (stands_for s.engine (stood s.engine.irrevocable s.view (memory_of v (e.snapshot / 2)))) s.call

  -- the block is over with this outcome
  pub record Closes (outcome : Outcome) : Type 0 where
    pub done : is_done outcome ≡ true
    pub shut : in_transaction e ≡ false
    pub ends : EndsAs outcome last
    pub by : ClosedBy outcome ((running.inside inside).row.calls.list ++ record { call = s.call; reply = r } ∷ [])
    pub actions : e.actions ≡ last.actions
    pub arena : e.arena ≡ last.arena
    pub older : s.engine.snapshot ≤ e.snapshot
    pub newer : e.snapshot / 2 ≤ length v.seen
    pub leaves : is_committed outcome ≡ true → (e.snapshot / 2 < length v.seen) × (bytes_at v (suc (e.snapshot / 2)) ≡ last.memory)
    pub mine : v.mine ≡ s.view.mine ++ (if is_committed outcome then e.snapshot / 2 ∷ [] else [])
    pub clock : (if is_committed outcome then suc (e.snapshot / 2) else e.snapshot / 2) ≤ commits_known v

  module _ (outcome : Outcome) (closes : Closes outcome) where
    -- what is told as run in the end
    abbrev ran_now : List Ran
    ran_now = ran_on (running.inside inside).row.ran (running.inside inside).row.restarts e.actions.ran

    abbrev final : Attempt
    final = ended_at outcome (e.snapshot / 2) e.actions.ran (row_with 0 s.call r (running.inside inside).row)

    stands_whole : stands_for s.engine (stood s.engine.irrevocable s.view (memory_of v (e.snapshot / 2))) ≡ whole laws c t s.view v s.engine running before inside went (memory_of v (e.snapshot / 2))
    stands_whole = stood_whole laws c t s.view v s.engine running before inside went (memory_of v (e.snapshot / 2)) read

    open_before : is_open (whole laws c t s.view v s.engine running before inside went (memory_of v (e.snapshot / 2))) ≡ true
    open_before = open_whole laws c t s.view v s.engine running before inside went (memory_of v (e.snapshot / 2)) read

    made : IsMadeAlone rules c.depth (running.inside inside).between (running.inside inside).try.is_open.of_block.start (running.inside inside).row (bytes_at v (e.snapshot / 2))
    made = made_open laws c t s.view v s.engine running before inside went (memory_of v (e.snapshot / 2)) read

    replied_led : r ≡ reply c.depth (led laws c t s.view v s.engine running before inside went (bytes_at v (e.snapshot / 2))) s.call
    replied_led = replied ∙ (ap (λ (x : State). reply c.depth x s.call) stands_whole ∙ reply_as (running.inside inside).try.is_open (memory_of v (e.snapshot / 2)) read.0 read.1 s.call)

    due_is : e.actions.ran ≡ (after c.depth (whole laws c t s.view v s.engine running before inside went (memory_of v (e.snapshot / 2))) s.call).actions.ran
    due_is = ap (λ (x : Actions). x.ran) closes.actions ∙ ap (λ (x : State). (after c.depth x s.call).actions.ran) stands_whole

    last_led : after c.depth (led laws c t s.view v s.engine running before inside went (bytes_at v (e.snapshot / 2))) s.call ≡ telling last ran_now
    last_led =
        closes_as (running.inside inside).try.is_open (memory_of v (e.snapshot / 2)) read.0 read.1 s.call e.actions.ran open_before due_is
        ∙ ap (λ (x : State). telling (after c.depth x s.call) ran_now) (sym stands_whole)

    left_last : alone c.depth (bytes_at v (e.snapshot / 2)) final ≡ telling last ran_now
    left_last = closing_left laws c.depth (running.inside inside).try.is_open.of_block (bytes_at v (e.snapshot / 2)) s.call r made asks replied_led 0 (e.snapshot / 2) outcome ran_now ∙ last_led

    is_try : IsTryAt rules c.depth (length v.seen) (bytes_at v) (running.inside inside).between (Some (running.inside inside).try.is_open.of_block.start) final
    is_try =
        let began = (running.inside inside).try.is_open.began in
        let older = closes.older in
        try_closes laws c.depth (running.inside inside).try.is_open.of_block (bytes_at v (e.snapshot / 2)) s.call r made asks replied_led 0 (length v.seen) (bytes_at v) (e.snapshot / 2) outcome ran_now refl (omega arith) closes.newer
        (subst (EndsAs outcome) (sym last_led) (ends_told outcome last ran_now closes.ends)) closes.by
        (ran_closes (running.inside inside).try.is_open (memory_of v (e.snapshot / 2)) read.0 read.1 s.call outcome e.actions.ran closes.done open_before due_is) (never_full outcome closes.done)

    known : (b : Bool) → is_committed outcome ≡ b → (if b then suc (e.snapshot / 2) else e.snapshot / 2) ≤ length v.seen
    known true is = (let l = (closes.leaves is).0 in omega arith)
    known false is = closes.newer

    run_closed : HasRun rules c v (t.ended ++ final ∷ []) × (now_at rules c v (t.ended ++ final ∷ []) ≡ after_try rules c.depth (bytes_at v) (running.inside inside).between (Some (running.inside inside).try.is_open.of_block.start) final)
    run_closed =
        run_ended laws c t s.view v s.engine running before inside went final is_try
        (λ is. record { seen = (closes.leaves is).0; leaves = (closes.leaves is).1 ∙ ap (λ (x : State). x.memory) (sym left_last) })
        (known (is_committed outcome) refl) refl refl refl refl (λ lost. absurd (true≢false (sym closes.done ∙ ap is_done lost)))

    now_closed : now_at rules c v (t.ended ++ final ∷ []) ≡ Some (record { player = rules.answered t.player r; arena = e.arena; again = false; tries = 0 })
    now_closed =
        run_closed.1 ∙ (closing_after laws c.depth (running.inside inside).try.is_open.of_block (bytes_at v (e.snapshot / 2)) s.call r made asks replied_led 0 (e.snapshot / 2) outcome ran_now (bytes_at v) refl closes.done
        ∙ (λ i. Some (record { player = rules.answered t.player r; arena = (ap (λ (x : State). x.arena) last_led ∙ sym closes.arena) i; again = false; tries = 0 })))

    pub closes_running : RunsTo rules c v e (closed t (rules.answered t.player r) (ended_at outcome (e.snapshot / 2) e.actions.ran (row_with 0 s.call r (running.inside inside).row)))
    closes_running =
        let own : List ℕ = if is_committed outcome then e.snapshot / 2 ∷ [] else [] in
        let mine : v.mine ≡ c.view.mine ++ positions (t.ended ++ final ∷ []) = closes.mine ∙ (ap (λ (ps : List ℕ). ps ++ own) running.mine ∙ (append_assoc c.view.mine (positions t.ended) own ∙ ap (λ (ps : List ℕ). c.view.mine ++ ps) (sym (positions_more t.ended final)))) in
        runs_outside (run_closed.0, mine) closes.shut (record {
          between = record { player = rules.answered t.player r; arena = e.arena; again = false; tries = 0 };
          stage_is = refl;
          now_is = now_closed;
          known = (let k = known_more c.known t.ended final in let l = closes.clock in omega arith);
          before = record { calls = 0; leads = (refl, refl); again = refl; tries = omega arith };
          looked = (let looks = run_closed.0.went.looks in omega arith);
        })

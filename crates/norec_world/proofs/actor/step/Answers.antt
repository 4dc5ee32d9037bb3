use Rattle.std.proofs.Common.{◌≡◌, ℕ, ◌/◌, Some, ap, refl, subst, sym, ◌∙◌}
use Rattle.norec_world.proofs.{Call, Core, HasStepped, IsDue, IsStepping, KeepsOthers, MayRunOn, Ready, Status, Step, Waits, cells_after, counted_after, due, in_transaction, is_waiting, mid_step, moved_begun, next_in, now, others_place, others_twice, prior_of, rests, rows_in, same, step_acts, step_clocks, step_lasts, step_runs, step_taken, step_tries, step_unfinished, stepping, still_at, still_reads, takes_in, told, told_others, told_sound, waiting_step}
use Rattle.tx_runs.specs.Ranks.{restarts_left}
use Rattle.norec_world.proofs.actor.step.Goals.{After-resume_into-next}
use Rattle.norec_world.proofs.actor.step.Goals as goal

same_call : {s : Status} {c d : Call} {x y : Step} → s ≡ Waits c x → s ≡ Waits d y → c ≡ d
same_call {c = c} {d = d} {x = x} {y = y} p q = let both : Waits c x ≡ Waits d y = sym p ∙ q in cc

-- the operation was done, and the engine went on with what was found
stepped : (g : _) (c : After-resume_into-next g) → IsStepping g.P.Player c.args.memory.now (rows_in c.args.ended.now) c.args.actor.now c.in-Waits.call (next_in c.resume_into-next.result c.resume_into-next.new.answer) c.apply-seen.new.self c.resume_into-next.new.self
stepped g c =
    stepping c.requires.sound c.in-Waits.is c.apply-seen.ensures.found c.apply-seen.ensures.cells c.apply-seen.ensures.fit c.resume_into-next.ensures

pub proceed-requires : goal.proceed-requires
proceed-requires g c =
    let m = stepped g (goal.at.proceed-requires g c).After-resume_into-next in
    let was = in_transaction c.args.actor.now.engine in
    let ready = record c.args.actor.now { engine = c.resume_into-next.new.self; status = Ready } in
    record {
      waits = ap is_waiting c.in-Waits.is;
      due = λ call step is. (was, restarts_left (mid_step m), subst (λ (x : Call). IsDue g.P.Player was (restarts_left (mid_step m)) ready x (next_in c.resume_into-next.result c.resume_into-next.new.answer)) (same_call c.in-Waits.is is) (due (step_taken m Ready refl)));
      acts = λ call step is. subst (λ (x : Call). MayRunOn ready x (next_in c.resume_into-next.result c.resume_into-next.new.answer)) (same_call c.in-Waits.is is) (step_acts m Ready refl);
      place = c.requires.sound.place;
    }

pub follow-requires : goal.follow-requires
follow-requires g c same =
    let m = stepped g (goal.at.follow-requires g c).After-resume_into-next in
    let taken = step_taken m Ready refl in
    let recorded = c.proceed.ensures.recorded c.in-Waits.call c.in-Waits.step c.in-Waits.is (in_transaction c.args.actor.now.engine) (restarts_left (mid_step m)) (due taken) in
    let x = now taken recorded.done recorded.tells in
    let still = sym c.snapshot-from.ensures ∙ (same ∙ ap (λ (e : Core). e.snapshot) x.engine) in
    still_reads (λ row e. c.requires.reads row e ∙ ap (λ (n : ℕ). n / 2) still) (rows_in c.proceed.new.ended) c.proceed.new.actor taken recorded.done recorded.tells

pub returns : goal.returns
returns g c =
    let m = stepped g (goal.at.returns g c).After-resume_into-next in
    let a = c.args.actor.now in
    let r = rows_in c.args.ended.now in
    let r1 = rows_in c.proceed.new.ended in
    let taken = step_taken m Ready refl in
    let was = in_transaction c.args.actor.now.engine in
    let last = c.proceed.new.actor in
    let recorded = c.proceed.ensures.recorded c.in-Waits.call c.in-Waits.step c.in-Waits.is was (restarts_left (mid_step m)) (due taken) in
    let done = recorded.done in
    let tells = recorded.tells in
    let x = now taken done tells in
    let o = recorded.others in
    let others : KeepsOthers a r last r1 = record { thread = o.thread; more = o.more; ended = o.ended; mine = o.mine; room = o.room } in
    let sound = x.sound c.proceed.ensures.acts (others_place others c.requires.sound.place) in
    let tries = step_tries m c.requires.reads Ready refl r1 last done tells in
    subst (HasStepped g.P.Player c.args.memory.now r a c.apply-seen.new.self r1) (sym c.follow.ensures) (record {
      sound = told_sound g.P.Player sound;
      cells_are = λ step w. c.apply-seen.ensures.cells ∙ ap (cells_after c.args.memory.now) (let some : Some c.in-Waits.step ≡ Some step = sym (ap waiting_step c.in-Waits.is) ∙ w in let same : c.in-Waits.step ≡ step = cc in same);
      takes = takes_in m Ready refl last (told last) x.engine tells refl (record { thread = x.thread; retries = x.retries; nothing = λ e. moved_begun (last.engine.snapshot / 2) last.run.current ∙ (rests sound e).nothing });
      tries = tries;
      runs = still_at g.P.Player c.args.memory.now r a c.apply-seen.new.self r1 (told last) (mid_step m).depth (same m).depth (λ first base laid runs.
          step_runs g.met.P.Player.laws m Ready refl first base laid runs r1 last done tells o.more o.ended
          (counted_after c.args.memory.now.clock c.apply-seen.new.self.clock (prior_of r a) r1 (told last) tries laid.counted));
      others = others_twice a last (told last) r r1 r1 others (told_others last r1);
      clocks = step_clocks m last.engine x.engine;
      unfinished = step_unfinished m c.requires.reads Ready refl r1 last done tells;
      goes_on = λ w. (let g = (step_lasts m Ready refl r1 last done).0 w in assumption g);
      falls = λ w. (let f = (step_lasts m Ready refl r1 last done).1 w in assumption f);
    })

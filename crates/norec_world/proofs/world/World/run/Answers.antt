use Rattle.norec_world.proofs.{Passes, World, counted, led_on, noted, noted_all, noted_counts, opening_both, ◌≡◌, ◌+◌, ap, sym, ◌∙◌, Err}
use Rattle.norec_world.proofs.world.World.run.Goals as goal
use Rattle.norec_world.proofs.world.World.run.Goals.{in-Ok, in-Err-NoMemory, in-Err-NoSuchActor, in-Err-Ended}

pub loop-actor-preserved : goal.loop-actor-preserved
loop-actor-preserved g c =
    let before = c.loop-actor.invariant in
    let goes = c.go.ensures.goes in
    let is : c.match-go.passes ≡ noted c.loop-actor.passes c.go.result = elim c.match-go.branch [
      | in-Ok w ↦ w.passes-is ∙ ap (noted c.loop-actor.passes) (sym w.in-Ok.is)
      | in-Err-NoMemory w ↦ w.passes-is ∙ ap (noted c.loop-actor.passes) (sym (w.in-Err-NoMemory.is ∙ ap Err w.in-Err-NoMemory.field-0-is))
      | in-Err-NoSuchActor w ↦ w.passes-is ∙ ap (noted c.loop-actor.passes) (sym (w.in-Err-NoSuchActor.is ∙ ap Err w.in-Err-NoSuchActor.field-0-is))
      | in-Err-Ended w ↦ w.passes-is ∙ ap (noted c.loop-actor.passes) (sym (w.in-Err-Ended.is ∙ ap Err w.in-Err-Ended.field-0-is))
    ] in
    record {
      led = led_on g.P.Player c.args.self.now c.loop-actor.self c.go.new.self c.args.schedule.now c.loop-actor.actor-index 0 c.loop-actor-test.true
          c.loop-actor.passes c.match-go.passes c.go.result before.led goes is;
      all = ap (λ (p : Passes). p.taken + p.passed + p.starved) is ∙ (noted_all c.loop-actor.passes c.go.result ∙ ap (λ n. n + 1) before.all);
      counts = noted_counts c.loop-actor.passes c.go.result _ _ _ before.counts goes.counts (λ e. ap (λ (w : World g.row.P.Denot). w.events) (goes.unchanged e))
          ∙ ap (λ (p : Passes). counted c.args.self.now.events (p.taken + p.starved)) (sym is);
      commits = c.go.ensures.commits;
      opaque = c.go.ensures.opaque;
      tied = c.go.ensures.tied;
      opening = opening_both _ _ _ before.opening goes.opening;
      actors = goes.actors ∙ before.actors;
    }

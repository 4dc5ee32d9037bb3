use Rattle.std.proofs.Common.{◌≡◌, ◌∙◌, Bool, ap, subst, sym}
use Rattle.norec_engine.proofs.Common.{Data, IsSound, IsSoundIn, Pending, Wait, asking_commit, counted, engine_in, exchanging, phase_of}
use Rattle.norec_data.specs.declared.pending.Pending.TheVariants.{Exchange}
use Rattle.norec_turns.specs.Between.{IsSoundAfter}
use Rattle.norec_engine.proofs.BlockSteps.{mode}
use Rattle.norec_engine.proofs.RowSteps.{comes_idle, comes_shown, comes_sound, comes_turns}
use Rattle.norec_engine.proofs.engine.Engine.commit_writes.Goals as goal

pub commit_writes-requires : goal.commit_writes-requires
commit_writes-requires c =
    let s = c.self.inside in
    let t = comes_shown s.irrevocable s.state s.pending c.args.self.now c.self.view_is c.self.invariant c.requires.takes in
    record { sound = comes_sound s.irrevocable s.state s.pending c.args.self.now c.self.view_is c.self.invariant c.requires.takes; outermost = t.outermost; some = t.some; free = t.free }

pub wait-requires : goal.wait-requires
wait-requires c =
    let s = c.self.inside in
    record { sound = subst (λ (d : Data). IsSoundAfter (Wait Exchange) d) (sym c.commit_writes.ensures) (comes_turns s.irrevocable s.state s.pending c.args.self.now c.self.view_is c.self.invariant c.requires.takes).sound.sound; waits = tt }

pub invariant_of-self : goal.invariant_of-self
invariant_of-self c =
    let s = c.self.inside in
    let m = mode s.irrevocable s.state s.pending c.args.self.now c.self.view_is c.self.invariant c.requires.takes.revocable in
    let w = c.wait.ensures in
    subst (λ (b : Bool). IsSoundIn b c.wait.new.state (phase_of c.wait.new.state c.wait.new.pending)) (sym m)
    (subst (λ (p : Pending). IsSound c.wait.new.state (phase_of c.wait.new.state p)) (sym w.pending)
    (subst (λ (d : Data). IsSound d (phase_of d Exchange)) (sym (w.state ∙ ap counted c.commit_writes.ensures)) (comes_turns s.irrevocable s.state s.pending c.args.self.now c.self.view_is c.self.invariant c.requires.takes).sound.sound))

pub returns-clause-state : goal.returns-clause-state
returns-clause-state c =
    let s = c.self.inside in
    let m = mode s.irrevocable s.state s.pending c.args.self.now c.self.view_is c.self.invariant c.requires.takes.revocable in
    let w = c.wait.ensures in
    let state : c.wait.new.state ≡ counted (asking_commit s.state) = w.state ∙ ap counted c.commit_writes.ensures in
    (λ i. engine_in (m i) (state i) (phase_of (state i) (w.pending i)))
    ∙ ap exchanging (comes_idle s.irrevocable s.state s.pending c.args.self.now c.self.view_is c.self.invariant c.requires.takes)

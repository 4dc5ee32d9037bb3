use Rattle.std.proofs.Common.{◌≤◌, ◌/◌, Bool, length, refl, subst, sym, true}
use Rattle.norec_engine.proofs.Common.{Answers, Committed, Core, End, IsResumed, IsSoundIn, engine_in}
use Rattle.norec_core.specs.Phases as at
use Rattle.norec_data.specs.declared.end.CallEnd.TheVariants as ends
use Rattle.norec_data.specs.declared.pending.Pending.TheVariants as waits
use Rattle.norec_engine.proofs.BlockSteps.{exchange_at, freed_turns, mode}
use Rattle.norec_engine.proofs.EitherTurns.{resumed_in, revocable_step}
use Rattle.norec_engine.proofs.RowSteps.{shown_taking, stored_as}
use Rattle.norec_engine.proofs.engine.Engine.rows_stored.Goals as goal

pub ask_free-requires : goal.ask_free-requires
ask_free-requires c =
    let s = c.self.inside in
    let t = c.requires.takes in
    let here = exchange_at s.irrevocable s.state s.pending c.args.self.now c.self.view_is c.self.invariant t.revocable t.stage in
    let same = shown_taking s.irrevocable s.state s.pending c.args.self.now c.self.view_is c.self.invariant t in
    record { sound = here.2; commit = here.1; few = subst (λ (e : Core). c.args.loads ≤ length e.writes) (sym same) c.requires.few }

pub returns : goal.returns
returns c seen =
    let s = c.self.inside in
    let t = c.requires.takes in
    let revocable = mode s.irrevocable s.state s.pending c.args.self.now c.self.view_is c.self.invariant t.revocable in
    let here = exchange_at s.irrevocable s.state s.pending c.args.self.now c.self.view_is c.self.invariant t.revocable t.stage in
    let same = shown_taking s.irrevocable s.state s.pending c.args.self.now c.self.view_is c.self.invariant t in
    let stored = c.ask_free.new.state in
    let left = c.freed-turn.new.state in
    let before = engine_in s.irrevocable stored at.Free in
    let sound = subst (λ (b : Bool). IsSoundIn b stored at.Free) (sym revocable) c.ask_free.ensures.sound in
    let turns = freed_turns stored left seen c.freed-turn.result c.freed-turn.ensures.end c.freed-turn.ensures.goes in
    subst (λ (e : Core). IsResumed e seen (Answers (Committed (left.snapshot / 2) true)) (engine_in s.irrevocable left at.Idle))
    (stored_as s.irrevocable s.state stored c.args.loads c.args.self.now revocable here.1 same here.2 c.ask_free.ensures.state)
    (resumed_in stored waits.Free s.irrevocable before refl (End ends.Committed) left (Answers (Committed (left.snapshot / 2) true)) left waits.Idle s.irrevocable
    (record { state = refl; pending = refl; mode = revocable; next = refl })
    sound seen (revocable_step s.irrevocable stored at.Free seen (End ends.Committed) left revocable turns))

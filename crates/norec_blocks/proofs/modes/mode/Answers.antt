use Rattle.std.proofs.Common.{◌≡◌, ℕ, ◌/◌, ◌&&◌, not, false, length, Option, None, Some, if◌then◌else◌, sym, ap, subst, ◌∙◌, rules}
use Rattle.norec_blocks.proofs.Common.{Answer, Core, Data, Full, Idle, IsEnding, Nest, Refused, Reply, TurnEndsSo, Turns, between, core, exchange_stage, going_ending, going_stage, in_block, moved, stays_revocable}
use Rattle.norec_core.specs.Aims as aims
use Rattle.norec_core.specs.declared.call_parts.Taking.TheVariants.{Mode}
use Rattle.norec_blocks.proofs.Blocks.IrrevocableEntries.{mode_accepted, mode_came, mode_denied, no_room}
use Rattle.norec_blocks.proofs.modes.mode.Goals as goal

pub returns-in-Some : goal.returns-in-Some
returns-in-Some c = record {
  sound = search rules;
  proceeds = (rw c.start_call.ensures (mode_denied c.args.state.now c.args.room c.in-Some.why c.requires.sound (sym c.mode_refusal.ensures ∙ c.in-Some.is)));
  stays = search rules;
  order =
      (ap (λ (room : Option ℕ). going_stage (core c.args.state.now Idle) room (Mode c.args.room))
      (no_room (in_block c.args.state.now) (stays_revocable c.args.state.now.frames.blocks) c.in-Some.why c.args.room (sym c.mode_refusal.ensures ∙ c.in-Some.is)));
  ends =
      (subst (λ (room : Option ℕ). IsEnding (going_ending (core c.args.state.now Idle) room) (Reply (Refused c.in-Some.why)))
      (no_room (in_block c.args.state.now) (stays_revocable c.args.state.now.frames.blocks) c.in-Some.why c.args.room (sym c.mode_refusal.ensures ∙ c.in-Some.is)) tt);
  tries = search rules;
}

pub returns : goal.returns
returns c =
    let s = c.args.state.now in
    let room = c.args.room in
    let accepted = mode_accepted (in_block s) (stays_revocable s.frames.blocks) (sym c.in_default.ensures) in
    let come : record c.start_call-2.new.self { tries = 0 } ≡ record s { frames = record s.frames { room = room }; spent = 0; entry = length s.log.rows; tries = 0 } =
    ap (λ (d : Data). record d { tries = 0 }) c.start_call-2.ensures
    ∙ ap (λ (frames : Nest). record s { frames = frames; spent = 0; entry = length s.log.rows; tries = 0 }) c.in_ok-reserve_actions.ensures.ok in
    let proceeds =
    subst (λ (mid : Core). Turns mid c.exchange.result c.exchange.new.state)
    (ap (λ (d : Data). moved (between d (aims.Take (Mode room))) s.snapshot) come ∙ mode_came s room accepted.0 accepted.1) (c.exchange.ensures.proceeds s.snapshot) in
    let order =
    c.exchange.ensures.goes.order
    ∙ (ap (λ (d : Data). exchange_stage d.limits.max_commits d.snapshot (Mode c.args.room)) c.start_call-2.ensures
    ∙ (λ i. going_stage (core s Idle) (if (sym accepted.0 i) && not (sym accepted.1 i) && not false then Some c.args.room else None) (Mode c.args.room))) in
    let ends =
    subst (λ (so : Option Answer). TurnEndsSo so c.exchange.result c.exchange.new.state)
    (ap (λ (d : Data). Some (Full (d.snapshot / 2))) c.start_call-2.ensures
    ∙ (λ i. going_ending (core s Idle) (if (sym accepted.0 i) && not (sym accepted.1 i) && not false then Some c.args.room else None)))
    c.exchange.ensures.goes.ends in
    search (rules, proceeds, order, ends)

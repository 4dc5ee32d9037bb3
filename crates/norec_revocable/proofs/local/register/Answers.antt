use Rattle.std.proofs.Common.{◌≡◌, false, Some, sym, ap, subst, refl, ◌∙◌, rules}
use Rattle.itm_types.{specs.declared.call.Call.Call, specs.declared.call.Refusal.TheVariants.Outside, specs.Calls.registered_by}
use Rattle.norec_turns.specs.Moves.{CallTurns}
use Rattle.norec_data.{specs.declared.data.Data.Data, specs.declared.turn.Turn.TheVariants.End}
use Rattle.nest_frames.specs.Nest.{Nest}
use Rattle.std.proofs.lemmas.Result.{err_from_is_err_and}
use Rattle.norec_data.specs.declared.end.CallEnd.TheVariants as ends
use Rattle.norec_turns.proofs.ImmediateReplies.{answered, refused_as_it_was, registered_at_once, registered_starves, starved}
use Rattle.norec_turns.proofs.Cancels.{come}
use Rattle.norec_turns.proofs.LocalReplies.{registered_replies, registered_sound, unregistered_replies, with_action}
use Rattle.norec_revocable.proofs.local.register.Goals.{then-is_open+in_ok-register, else-is_open}
use Rattle.norec_revocable.proofs.local.register.Goals as goal

-- the action is registered, or the call is refused
registered_turn : (c : goal.After-start_call) (call : Call) → registered_by call ≡ Some (c.args.kind, c.args.action) → CallTurns c.args.state.now call false (End c.if-is_open.end) c.start_call.new.self
registered_turn c call by =
    let s = c.args.state.now in
    let kind = c.args.kind in
    let action = c.args.action in
    let sound = c.requires.sound in
    let none = registered_at_once s call kind action by in
    rw c.start_call.ensures (elim c.if-is_open.branch [
      | then-is_open+in_ok-register w ↦ (
          let o = sym c.is_open.ensures ∙ w.if-is_open.true in
          let is : come (record s { frames = w.register.new.self }) ≡ with_action s kind action = ap (λ (frames : Nest). come (record s { frames = frames })) w.in_ok-register.ensures.ok in
          rw w.end-is (rw w.state-is (subst (λ (d : Data). CallTurns s call false (End ends.Done) d) (sym is)
          (answered s call ends.Done (with_action s kind action) none (record { asked = tt; sound = registered_sound s kind action o sound }) (registered_replies s call kind action by o sound)
          (record { opens = λ yes. yes; log = λ yes. refl; snapshot = refl }) tt))))
      | else-is_open w ↦ (
          let o = sym c.is_open.ensures ∙ w.if-is_open.false in
          rw w.end-is (rw w.state-is (refused_as_it_was s call Outside none sound (unregistered_replies s call kind action by o sound))))
    ])

pub returns : goal.returns
returns c call by = registered_turn c call by

pub returns-in_err-register : goal.returns-in_err-register
returns-in_err-register c call by =
    let e = err_from_is_err_and c.from_residual.result c.from_residual.ensures.1 in
    rw e.1 (starved c.args.state.now call _ c.requires.sound (search rules) (registered_starves c.args.state.now call c.args.kind c.args.action by (search rules) (search rules)))

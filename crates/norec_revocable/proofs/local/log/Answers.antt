use Rattle.std.proofs.Common.{◌≡◌, ◌+◌, length, nat_le, Bool, false, Some, sym, ap, subst, refl, ◌∙◌, rules}
use Rattle.itm_types.specs.declared.call.Call.{Call}
use Rattle.norec_turns.specs.Moves.{CallTurns}
use Rattle.norec_data.{specs.declared.data.Data.Data, specs.declared.turn.Turn.TheVariants.End}
use Rattle.nest_frames.specs.Nest.{Nest, log_of}
use Rattle.itm_types.specs.declared.call.Refusal.TheVariants.{OutOfArena, Outside}
use Rattle.itm_types.specs.KeptBytes.{also_kept}
use Rattle.std.proofs.lemmas.Result.{err_from_is_err_and}
use Rattle.undo_log.specs.Rollback.{found, kept_of}
use Rattle.itm_types.specs.Calls.{logged_of}
use Rattle.itm_model.specs.Machine.{or_else, unless}
use Rattle.norec_data.specs.declared.end.CallEnd.TheVariants as ends
use Rattle.norec_turns.proofs.ImmediateReplies.{answered, logged_at_once, logged_starves, refused_as_it_was, starved}
use Rattle.norec_turns.proofs.Cancels.{come}
use Rattle.norec_turns.proofs.LocalReplies.{logged_replies, logged_sound, not_within, unlogged_replies, with_log}
use Rattle.norec_revocable.proofs.local.log.Goals.{then-not-is_open, else-not-is_open+then-not-contains, else-not-is_open+else-not-contains+in_ok-log}
use Rattle.norec_revocable.proofs.local.log.Goals as goal

-- the bytes are logged, or the call is refused
logged_turn : (c : goal.After-start_call) (call : Call) → logged_of call ≡ Some (c.args.at, c.args.size) → CallTurns c.args.state.now call false (End c.if-not-is_open.end) c.start_call.new.self
logged_turn c call by =
    let s = c.args.state.now in
    let place = c.args.at in
    let size = c.args.size in
    let sound = c.requires.sound in
    let none = logged_at_once s call place size by in
    rw c.start_call.ensures (elim c.if-not-is_open.branch [
      | then-not-is_open w ↦ (
          let shut = sym c.is_open.ensures ∙ w.if-not-is_open.true in
          rw w.end-is (rw w.state-is (refused_as_it_was s call Outside none sound
          (unlogged_replies s call place size Outside by sound (ap (λ (b : Bool). or_else (unless b Outside) (unless (nat_le (place + size) (length s.arena)) OutOfArena)) shut)))))
      | else-not-is_open+then-not-contains w ↦ (
          let o = sym c.is_open.ensures ∙ w.if-not-is_open.false in
          let far = not_within (place + size) (length s.arena) w.contains.result w.contains.ensures w.if-not-contains.true in
          rw w.end-is (rw w.state-is (refused_as_it_was s call OutOfArena none sound
          (unlogged_replies s call place size OutOfArena by sound (λ i. or_else (unless (o i) Outside) (unless (far i) OutOfArena))))))
      | else-not-is_open+else-not-contains+in_ok-log w ↦ (
          let o = sym c.is_open.ensures ∙ w.if-not-is_open.false in
          let logs = w.in_ok-log.ensures in
          let kept = subst (λ (frames : Nest). kept_of s.arena (log_of frames.blocks) ≡ also_kept (kept_of s.arena (log_of s.frames.blocks)) s.arena place size) logs.ok logs.kept in
          let is : come (record s { frames = w.log.new.self }) ≡ with_log s (found s.arena place size) = ap (λ (frames : Nest). come (record s { frames = frames })) logs.ok in
          rw w.end-is (rw w.state-is (subst (λ (d : Data). CallTurns s call false (End ends.Done) d) (sym is)
          (answered s call ends.Done (with_log s (found s.arena place size)) none
          (record { asked = tt; sound = logged_sound s (found s.arena place size) o sound })
          (logged_replies s place size o sound (w.contains.ensures.0 w.if-not-contains.false) kept call by)
          (record { opens = λ yes. o; log = λ yes. refl; snapshot = refl }) tt))))
    ])

pub returns : goal.returns
returns c call by = logged_turn c call by

pub returns-in_err-log : goal.returns-in_err-log
returns-in_err-log c call by =
    let e = err_from_is_err_and c.from_residual.result c.from_residual.ensures.1 in
    let may = logged_starves c.args.state.now call c.args.at c.args.size by in
    rw e.1 (starved c.args.state.now call _ c.requires.sound (search rules) (may (search rules) (search rules) (search rules)))

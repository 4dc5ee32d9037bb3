use Rattle.std.proofs.Common.{Bool, None, arith, refl, rules, subst, sym}
use Rattle.norec_turns.proofs.Common.{ConflictsIn, Idle, aim_for, between, core, core_ended}
use Rattle.norec_turns.proofs.EndedTransactions.{ended_undone}
use Rattle.norec_turns.proofs.tries.try_round.Goals as goal

pub returns-else-state : goal.returns-else-state
returns-else-state c =
    let s = c.args.state.now in
    let may = c.requires.may in
    let ended = core_ended _ _ _ _ c.roll_back.ensures.ended in
    let proceeds = subst (λ (b : Bool). ConflictsIn b (between s (aim_for c.args.cause s.reading s.taking)) c.roll_back.new.state.clock None (core c.roll_back.new.state Idle)) (sym may.is_open.is_open) (record {
      is_open = may.is_open.is_open;
      clock_is = c.roll_back.ensures.ended.clock;
      later = omega (arith, may.later, c.roll_back.ensures.ended.clock);
      word_is = refl;
      free = refl;
      unfreed = refl;
      stays = ended;
      undone = ended_undone (between s (aim_for c.args.cause s.reading s.taking)) (core c.roll_back.new.state Idle) Idle 0 s.snapshot may.is_open.frames c.roll_back.ensures.restored refl may.is_open.is_open ended;
    }) in
    search (rules, proceeds)

-- What a turn of a transaction that is not irrevocable leaves.
use Rattle.std.proofs.Common.{rules, ◌≡◌, ℕ, Bool, true, false, Option, refl, sym, ap, subst, ◌∙◌}
use Rattle.norec_engine.proofs.Common.{Call, CallTurns, Data, End, EndIrrevocable, EndsSo, Idle, IsCalled, IsResumed, IsSettled, IsSoundTurn, IsWithin, Phase, Stays, StaysOn, StepTurns, Turn, TurnEndsSo, Wait, asked, core, core_after, data_after, ending_after, ending_at, in_block, in_transaction, log_after, mode_after, next_of, phase_after, tries_after, tries_at}
use Rattle.norec_turns.proofs.ReadingFields.{after_snapshot}
use Rattle.norec_engine.proofs.EitherMode.{revocable_after, revocable_sound}
use Rattle.norec_engine.proofs.SettledEngines.{counts_in, settled_in}
use Rattle.norec_core.specs.declared.answer.Answer.{Answer}

stays : (turn : Turn) (s d : Data) → Stays s d → StaysOn (core s Idle) (core_after turn d)
stays (Wait p) s d on = record { opens = on.opens; log = on.log; snapshot = on.snapshot }
stays turn s d on = record { opens = on.opens; log = on.log; snapshot = on.snapshot }

pub stage_is : (turn : Turn) (d : Data) → (core_after turn d).stage ≡ phase_after turn d
stage_is (Wait p) d = refl
stage_is turn d = refl

-- in either mode a turn ends as it says
pub ends : (so : Option Answer) (turn : Turn) (d : Data) → TurnEndsSo so turn d → EndsSo so (next_of turn d)
ends so (Wait p) d e = tt
ends so (End end) d e = e
ends so (EndIrrevocable end) d e = e

asks : (turn : Turn) (d : Data) → (core_after turn d).waits ≡ asked (core_after turn d)
asks (Wait p) d = refl
asks turn d = refl

within : (turn : Turn) (d : Data) → IsSoundTurn turn d → IsWithin (core_after turn d)
within turn d s = subst IsWithin (sym (revocable_after turn d)) (counts_in (mode_after false turn) (data_after turn d) (phase_after turn d) (revocable_sound turn d s))

settled : (turn : Turn) (d : Data) → IsSoundTurn turn d → IsSettled (core_after turn d)
settled turn d s = subst IsSettled (sym (revocable_after turn d)) (settled_in (mode_after false turn) (data_after turn d) (phase_after turn d) (revocable_sound turn d s))

-- ## Calls

pub called : (s : Data) (call : Call) (again : Bool) (turn : Turn) (d : Data) → CallTurns s call again turn d → IsCalled (core s Idle) call again (next_of turn d) (core_after turn d)
called s call again turn d t = (let so = ends (ending_at (core s Idle) call) turn d t.ends in record {
  proceeds = t.proceeds;
  at_once = search rules;
  stays = stays turn s d t.stays;
  order = stage_is turn d ∙ t.order;
  ends = so;
  tries = t.tries ∙ ap tries_at (sym (stage_is turn d));
  asks = asks turn d;
  count = within turn d t.sound;
  settled = settled turn d t.sound;
  held = λ h. absurd (cc);
})

-- ## Steps

log_is : (turn : Turn) (d : Data) (rows : _) → (in_block d ≡ true → d.log.rows ≡ rows) → in_transaction (core_after turn d) ≡ true → (core_after turn d).log ≡ rows
log_is (Wait p) d rows l o = l o
log_is turn d rows l o = l o

pub resumed : (s : Data) (phase : Phase) (seen : ℕ) (turn : Turn) (d : Data) → StepTurns s phase seen turn d → IsResumed (core s phase) seen (next_of turn d) (core_after turn d)
resumed s phase seen turn d t = record {
  proceeds = t.proceeds;
  joins = t.joins;
  order = stage_is turn d ∙ t.order;
  ends = ends (ending_after (core s phase) seen) turn d t.ends;
  tries = t.tries ∙ ap (λ (stage : Phase). tries_after stage (core s phase).tries) (sym (stage_is turn d));
  snapshot = after_snapshot turn d ∙ t.snapshot;
  log = log_is turn d (log_after (core s phase) seen) t.log;
  asks = asks turn d;
  count = within turn d t.sound;
  settled = settled turn d t.sound;
  held = λ h. absurd (cc);
}

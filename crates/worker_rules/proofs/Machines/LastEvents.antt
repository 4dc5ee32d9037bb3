-- The last event of a driven call: the engine with the call that came, or with the value of its last step, and its answer.
use Rattle.std.proofs.Common.{◌≡◌, ℕ, ◌≤◌, true, false, List, [], ◌∷◌, ◌++◌, Some, inl, inr, sym, ap, subst, ◌∙◌, arith, append-nil}
use Rattle.worker_rules.proofs.Common.{Answer, Answers, Asks, Core, Ends, IsHanded, IsMid, IsOver, IsRestart, LogRow, Proceeds, Stands, Start, View, both, came, handed_is, handed_to, in_transaction, is_inside, rests}
use Rattle.itm_types.specs.declared.step.Step.{Step}
use Rattle.norec_core.{specs.declared.answer.Next.Next, specs.Moves.IsCalled, specs.Moves.IsResumed}
use Rattle.shared_words.specs.Steps.{StepTells}
use Rattle.call_rules.specs.Drives.{Drives, IsDriven, LeadsOn}
use Rattle.call_rules.specs.InCall.{InCall, IsDue}
use Rattle.call_rules.proofs.Steps.HandedValues.{hands}
use Rattle.call_rules.proofs.Steps.NewCalls.{comes}
use Rattle.call_rules.proofs.Steps.StepChains.{goes, over_so, starts, went}

-- the answer comes of this engine; unless a block goes back, no row of its log is gone, and the snapshot does not fall
pub record IsLast (s : Start) (v : View) (a : Answer) (e : Core) : Type 0 where
  pub mid : Core
  pub is_mid : IsMid s v mid e
  pub ends : Ends mid a e
  pub log : (IsRestart a → ⊥) → in_transaction e ≡ true → e.irrevocable ≡ false → (rows : List LogRow) × (e.log ≡ mid.log ++ rows)
  pub snapshot : (IsRestart a → ⊥) → in_transaction s.engine ≡ true → mid.snapshot ≤ e.snapshot

-- it was answered as it came
last_at_once : (s : Start) (e : Core) (a : Answer) (next : Next) → Stands s.view s.engine → IsCalled s.engine s.call s.again next e → next ≡ Answers a → IsLast s s.view a e
last_at_once s e a next stands r is = record {
  mid = came s.engine s.call s.again;
  is_mid = comes s.view s.engine e s.call s.again stands r.stays r.settled r.asks r.order;
  ends = subst (λ (x : Next). Proceeds (came s.engine s.call s.again) x e) is r.proceeds;
  log = λ whole o free. ([], r.stays.log o ∙ sym (append-nil s.engine.log));
  snapshot = λ whole o. omega (arith, r.stays.snapshot);
}

module _ (cells : ℕ) (s : Start) (v w : View) (e new : Core) (step : Step) (n : ℕ) (next : Next) (i : InCall s v e step) (over : IsOver cells v) (over_now : IsOver cells w) (turn : StepTells v step n w) (r : IsResumed e n next new) (a : Answer) (is : next ≡ Answers a) where
  abbrev mid : Core
  mid = handed_to e (Some step) n

  handed : IsHanded e mid
  handed = handed_is e step n

  ends_so : Ends mid a new
  ends_so = subst (λ (x : Next). Proceeds mid x new) is (went cells v w over over_now e new step n turn next r s i)

  counted : (IsRestart a → ⊥) → new.restarted ≡ e.restarted
  counted whole = (rests mid new a ends_so).restarted whole ∙ handed.keeps.restarted

  -- after a step
  last_step : IsLast s w a new
  last_step = record {
    mid = mid;
    is_mid = hands s v e n new r.joins r.settled r.asks w (over_so cells v w e over i.tied over_now) step i turn;
    ends = ends_so;
    log = λ whole o free. elim (r.joins.log o) [
      | inl same ↦ ([], same ∙ (sym handed.log ∙ sym (append-nil mid.log)))
      | inr (inl more) ↦ (e.fresh, more.1 ∙ ap (λ (l : List LogRow). l ++ e.fresh) (sym handed.log))
      | inr (inr (inl gone)) ↦ absurd (both new.irrevocable gone.is free)
      | inr (inr (inr back)) ↦ absurd (let up = back.counted in let same = counted whole in omega arith)
    ];
    snapshot = λ whole o. (let was : in_transaction e ≡ true = ap is_inside i.kept.blocks ∙ o in
        let here = handed.snapshot in
        elim (r.joins.snapshot was) [
          | inl same ↦ omega arith
          | inr (inl moved) ↦ (let reached = i.tied.settled.reached in let seen = moved.0.same in let to = moved.2 in omega arith)
          | inr (inr back) ↦ absurd (let up = back.counted in let same = counted whole in omega arith)
        ]);
  }

-- from step to step
last_on : (cells : ℕ) (s : Start) (steps : List (Step × ℕ)) (v v' : View) (e e' : Core) (next : Next) (a : Answer) → IsOver cells v → IsDue s v e next → LeadsOn cells v e next steps v' e' (Answers a)
    → ((b : Answer) → next ≡ Answers b → IsLast s v b e) → IsLast s v' a e'
last_on cells s [] v v' e e' next a over due l last =
    subst (λ (x : View × Core). IsLast s x.0 a x.1) (λ i. (sym l.0 i, sym l.1 i)) (last a (sym l.2))
last_on cells s (done ∷ rest) v v' e e' (Asks step) a over due l last =
    let d : Drives cells v e done l.1 l.2 l.3 = l.4 in
    let turn : StepTells v step done.1 l.1 = subst (λ (x : Step). StepTells v x done.1 l.1) l.0 d.stepped.turn in
    last_on cells s rest l.1 v' l.2 e' l.3 a d.over (goes cells v l.1 over d.over e l.2 step done.1 turn l.3 d.resumed s due) l.5 (λ b is. last_step cells s v l.1 e l.2 step done.1 l.3 due over d.over turn d.resumed b is)
last_on cells s (done ∷ rest) v v' e e' (Answers b) a over due l last = absurd l

pub last_event : (cells : ℕ) (s : Start) (a : Answer) (v : View) (e : Core) → IsOver cells s.view → Stands s.view s.engine → IsDriven cells s a v e → IsLast s v a e
last_event cells s a v e over stands d =
    last_on cells s d.steps s.view v d.came e d.first a over (starts s.view s.engine d.came s.call s.again stands d.first d.called) d.leads (λ b is. last_at_once s d.came b d.first stands d.called is)

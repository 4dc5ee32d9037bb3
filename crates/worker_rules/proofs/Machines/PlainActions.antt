-- Over a call of an open transaction no action that has run is lost, and there are no more actions in all than before, but for one that is registered.
use Rattle.std.proofs.Common.{◌≡◌, true, false, true≢false, [], subst, sym, ap, ◌∙◌}
use Rattle.worker_rules.proofs.Common.{Actions, Answer, Answers, Core, Ends, IsRestart, Restarted, RunsOn, Stands, Start, View, after_undoing, all_run, given_up_actions, in_transaction, is_abort, is_back, is_inside, registers, rests, runs_on, total}
use Rattle.worker_rules.proofs.Machines.LastEvents.{IsLast}

module _ {s : Start} {v : View} {a : Answer} {e : Core} (last : IsLast s v a e) (inside : in_transaction s.engine ≡ true) where
  inside_mid : in_transaction last.mid ≡ true
  inside_mid = ap is_inside last.is_mid.kept.blocks ∙ inside

  pub served_runs : RunsOn (registers s.call) s.engine.actions e.actions
  served_runs = subst (λ (x : Actions). RunsOn (registers s.call) x e.actions) last.is_mid.kept.actions (runs_on last.mid e s.call (Answers a) last.is_mid.kept.doing inside_mid last.ends)

  -- none runs where the transaction stays open, but by a cancel
  pub served_ran : (IsRestart a → ⊥) → is_abort s.call ≡ false → in_transaction e ≡ true → e.actions.ran ≡ s.engine.actions.ran
  served_ran whole other now = ((rests last.mid e a last.ends).acts s.call last.is_mid.kept.doing whole).same inside_mid other now ∙ ap (λ (x : Actions). x.ran) last.is_mid.kept.actions

module _ {s : Start} {v : View} {a : Answer} {e : Core} (before : Stands s.view s.engine) (last : IsLast s v a e) (shut : in_transaction last.mid ≡ false) where
  -- outside a transaction none is registered
  pub none_shut : (last.mid.actions.commits ≡ []) × (last.mid.actions.undos ≡ [])
  none_shut =
      let none = before.settled.closed (sym (ap is_inside last.is_mid.kept.blocks) ∙ shut) in
      (ap (λ (x : Actions). x.commits) last.is_mid.kept.actions ∙ none.2, ap (λ (x : Actions). x.undos) last.is_mid.kept.actions ∙ none.3)

  -- nor in one that has just opened
  pub begun_none : in_transaction e ≡ true → total e.actions ≡ 0
  begun_none now = ((rests last.mid e a last.ends).acts s.call last.is_mid.kept.doing (whole a last.ends)).begins shut none_shut.0 none_shut.1 now
    where
      whole : (x : Answer) → Ends last.mid x e → IsRestart x → ⊥
      whole (Restarted clock word) g back = true≢false (sym (is_back last.mid e clock word last.is_mid.settled g).was ∙ shut)
      whole x g back = absurd back

-- what is given up is not irrevocable, so it held no clock
pub given_up_runs : (s : Start) (e : Core) → Stands s.view s.engine → s.engine.irrevocable ≡ false → e ≡ after_undoing s.engine → RunsOn 0 s.engine.actions e.actions
given_up_runs s e before revocable is =
    subst (RunsOn 0 s.engine.actions) (sym (ap (λ (c : Core). c.actions) is ∙ given_up_actions s.engine (before.mode ∙ revocable))) (all_run s.engine.blocks s.engine.actions)

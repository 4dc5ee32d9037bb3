-- Calls after which no block has gone back alone.
use Rattle.std.proofs.Common.{◌≡◌, Bool, ap, ◌∙◌, if◌then◌else◌, arith}
use Rattle.call_rules.proofs.Common.{Abort, Answer, Call, Commit, Core, Idle, IsRestart, Restarted, Served, Start, View, commit_stage, stage_at}
use Rattle.norec_core.proofs.Engines.RestartingCalls.{inner}

-- a call with no step to ask for looks at nothing
no_step : (s : Start) (a : Answer) (v : View) (e : Core) → Served s a v e → stage_at s.engine s.call s.again ≡ Idle → IsRestart a → ⊥
no_step s (Restarted clock word) v e x idle r =
    let same = ap (λ (w : View). w.looks) (x.at_once idle).0 in
    let looks = x.tells.looks in
    omega arith
no_step s a v e x idle r = absurd r

-- a commit of a block within another one asks for none
commit_idle : (s : Start) (a : Answer) (v : View) (e : Core) → Served s a v e → s.call ≡ Commit → IsRestart a → stage_at s.engine s.call s.again ≡ Idle
commit_idle s (Restarted clock word) v e x call r =
    ap (λ (c : Call). stage_at s.engine c s.again) call ∙ ap (λ (b : Bool). if b then commit_stage s.engine else Idle) (inner s.engine.blocks x.tells.within)
commit_idle s a v e x call r = absurd r

pub commit_whole : (s : Start) (a : Answer) (v : View) (e : Core) → Served s a v e → s.call ≡ Commit → IsRestart a → ⊥
commit_whole s a v e x call r = no_step s a v e x (commit_idle s a v e x call r) r

pub cancel_whole : (s : Start) (a : Answer) (v : View) (e : Core) (outer : Bool) → Served s a v e → s.call ≡ Abort outer → IsRestart a → ⊥
cancel_whole s a v e outer x call r = no_step s a v e x (ap (λ (c : Call). stage_at s.engine c s.again) call) r

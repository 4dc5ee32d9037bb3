-- Outside a transaction the clock may be loaded before the call that asks for it has come.
use Rattle.std.proofs.Common.{◌≡◌, ℕ, ◌<◌, ◌≤◌, false, refl, sym, ◌∙◌, arith}
use Rattle.call_rules.proofs.Common.{Core, IsOver, Lawful, Load, Stands, StepTells, View, false_from_ne_true, in_transaction}

pub may_look : (v : View) (e : Core) → Stands v e → in_transaction e ≡ false → Lawful v (Load 0)
may_look v e t closed = λ z. false_from_ne_true v.holds (λ h. (let inside = (t.settled.holder (sym t.holds ∙ h)).0 in cc))

pub clock_within : (cells : ℕ) (v : View) → IsOver cells v → 0 < cells
clock_within cells v o = let size = o.size in omega arith

-- what it finds is no earlier than what the engine knows
pub clock_fits : (v w : View) (e : Core) (n : ℕ) → Stands v e → StepTells v (Load 0) n w → e.clock ≤ n
clock_fits v w e n t turn = (let late = (turn.0 refl).1.late in let behind = t.behind in omega arith)

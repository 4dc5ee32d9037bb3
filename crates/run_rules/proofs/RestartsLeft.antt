-- How often inner blocks may still go back to their begins.
use Rattle.std.proofs.Common.{◌≡◌, ◌-◌, ◌≤◌, Bool, true, false, if◌then◌else◌, ap, arith}
use Rattle.run_rules.proofs.Common.{Core, in_transaction, restarts_left}

pub left_inside : (e : Core) → in_transaction e ≡ true → restarts_left e ≡ e.restarts - e.restarted
left_inside e o = ap (λ (b : Bool). if b then e.restarts - e.restarted else e.restarts) o

pub left_outside : (e : Core) → in_transaction e ≡ false → restarts_left e ≡ e.restarts
left_outside e o = ap (λ (b : Bool). if b then e.restarts - e.restarted else e.restarts) o

pub left_most : (e : Core) → restarts_left e ≤ e.restarts
left_most e = elim (in_transaction e) as (λ (b : Bool). (if b then e.restarts - e.restarted else e.restarts) ≤ e.restarts) [ true ↦ omega arith | false ↦ omega arith ]

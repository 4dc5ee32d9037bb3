-- A call by which the innermost block has gone back to its begin.
use Rattle.std.proofs.Common.{◌≡◌, ℕ, ◌&&◌, not, true, ap, arith}
use Rattle.worker_rules.proofs.Common.{Core, Restarted, Served, Start, View, can_restart, lt-ltb, restarts_by}

pub restarting : (s : Start) (v : View) (e : Core) (clock word : ℕ) → Served s (Restarted clock word) v e → can_restart s.engine s.call ≡ true
restarting s v e clock word served =
    let left = lt-ltb s.engine.restarted s.engine.restarts served.tells.left in
    let revocable = served.tells.revocable.0 in
    let within = served.tells.within in
    restarts_by s.engine s.call s.again (λ i. left i && (not (revocable i) && within i)) (λ idle. (let same = ap (λ (w : View). w.looks) (served.at_once idle).0 in let looks = served.tells.looks in omega arith))

-- A call that wants the clock takes it where it is served.
use Rattle.std.proofs.Common.{◌≡◌, ◌≢◌, ℕ, ◌&&◌, Bool, true, false, not, List, [], ◌∷◌, None, Some, is_some, if◌then◌else◌, refl, ap, ◌∙◌}
use Rattle.run_rules.proofs.Common.{Call, Commit, Core, Row, State, WantsClock, after, commits, in_transaction, is_open, is_some_row, stands_for, state_in, state_over, takes_clock}
use Rattle.run_rules.proofs.IrrevocableCalls.{makes_irrevocable}
pub use Rattle.std.proofs.lemmas.Bool.{and_parts as both_true, not-true as no_true}
use Rattle.std.proofs.lemmas.Bool.{or_left}

-- the room is told under this condition
pub told_under : (b : Bool) (room : ℕ) → is_some (if b then Some room else None) ≡ true → b ≡ true
told_under true room e = refl
told_under false room e = absurd (cc)

some_rows : (rows : List Row) → rows ≢ [] → is_some_row rows ≡ true
some_rows [] n = absurd (n refl)
some_rows (x ∷ xs) n = refl

irrevocable_takes : (s : State) → s.irrevocable ≡ true → takes_clock s ≡ true
irrevocable_takes s e = or_left s.irrevocable (not (is_open s) && s.wrote) e

module _ (mid : Core) (m : List ℕ) (revocable : mid.irrevocable ≡ false) (inside : in_transaction mid ≡ true) where
  over_it : (call : Call) → takes_clock (after mid.depth (state_over mid.writes mid.blocks mid.arena mid.actions m) call) ≡ true → takes_clock (after mid.depth (stands_for mid m) call) ≡ true
  over_it call e = ap (λ (b : Bool). takes_clock (after mid.depth (state_in b mid.writes mid.blocks mid.arena mid.actions m) call)) revocable ∙ e

  -- takes it where it is served
  pub wants_taking : (call : Call) → WantsClock mid (Some call) → takes_clock (after mid.depth (stands_for mid m) call) ≡ true
  wants_taking Commit w = over_it Commit (ap takes_clock (commits mid.depth mid.writes mid.blocks mid.arena mid.actions m w.0) ∙ some_rows mid.writes w.1)
  wants_taking call w = over_it call (irrevocable_takes (after mid.depth (state_over mid.writes mid.blocks mid.arena mid.actions m) call) (makes_irrevocable mid m call w))

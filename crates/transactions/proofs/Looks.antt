-- Each try looks at the clock.
use Rattle.std.proofs.Common.{◌≡◌, ◌<◌, ◌||◌, ℕ, Bool, true, false, List, refl, subst, sym}
use Rattle.transactions.proofs.Common.{BeginTold, Core, HasLooked, Lent, Standing, Stop, Tried, answer_of, in_transaction, is_inside, is_open, looks_of, open_is, stands_for, state_in, stop_told, view_of}
use Rattle.itm_runtime.specs.declared.stop.Stop.TheVariants as stops

pub engine_open : (c : Core) (m : List ℕ) → c.irrevocable ≡ false → is_open (stands_for c m) ≡ in_transaction c
engine_open c m is = subst (λ (b : Bool). is_open (state_in b c.writes c.blocks c.arena c.actions m) ≡ is_inside c.blocks) (sym is) (open_is c.writes c.blocks c.arena c.actions m)

-- a try after which there is another one has looked
module _ {R E : Type 0} (before : Standing) (again : Bool) (stood : Lent) (told : Tried R E) where
  pub stopped_looks : (stop : Stop) → BeginTold before again (answer_of stop) stood → told ≡ stop_told stop true → HasLooked told → (view_of before.pass).looks < looks_of stood
  stopped_looks (stops.Refused why) t is goes = absurd (subst HasLooked is goes)
  stopped_looks (stops.Full at) t is goes = absurd (subst HasLooked is goes)
  stopped_looks stops.Memory t is goes = absurd (subst HasLooked is goes)
  stopped_looks stop t is goes = t.served.tells.looks

pub or_not : (b : Bool) → (b || false) ≡ b
or_not true = refl
or_not false = refl

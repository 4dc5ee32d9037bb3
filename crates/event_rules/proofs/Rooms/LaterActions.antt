-- How many of the actions that have come to run an actor's attempt tells, as its engine goes on.
use Rattle.std.proofs.Common.{◌≡◌, ◌≤◌, Bool, true, false, length, Some, sym, ap, ◌∙◌, arith}
use Rattle.event_rules.proofs.Common.{Actor, Attempt, Call, Core, HasRow, Next, Proceeds, Ran, active_of, in_transaction, length-append, none-some, runs_on, told_in}
pub use Rattle.run_rules.proofs.GivenUp.{given_up_free, given_up_later, given_up_most}

-- the open attempt that told of all of them tells of no more than there are then
pub first_here : {P : Type 0} (a : Actor P) (mid new : Core) (call : Call) (what : Next) (was : Bool) → in_transaction mid ≡ was → HasRow was a → mid.doing ≡ Some call → Proceeds mid what new
    → ((row : Attempt) → active_of a ≡ Some row → told_in row ≡ length mid.actions.ran) → (row : Attempt) → active_of a ≡ Some row → told_in row ≤ length new.actions.ran
first_here a mid new call what false o none doing g all row e = absurd (none-some row (sym none ∙ e))
first_here a mid new call what true o some doing g all row e =
    let f = runs_on mid new call what doing o g in
    omega (arith, all row e, ap (length {A = Ran}) f.ran, length-append mid.actions.ran f.later)

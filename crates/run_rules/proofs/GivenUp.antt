-- The actions that have run as a transaction is given up.
use Rattle.std.proofs.Common.{◌≡◌, ◌≤◌, ℕ, length, Bool, true, false, if◌then◌else◌, List, ◌++◌, refl, sym, ap, ◌∙◌, arith}
use Rattle.run_rules.proofs.Common.{Core, Ran, RunsOn, all_run, given_up_actions, stands_for, state_in, state_over, total, undone, undone_actions}
use Rattle.norec_core.specs.Core.{rolled_back}
use Rattle.norec_core.specs.Undoing.{after_undoing}
use Rattle.norec_core.specs.declared.answer.Undone.TheVariants.{Done, Held, Nothing}

given_up_on : (c : Core) → RunsOn 0 c.actions (rolled_back c).actions
given_up_on c = all_run c.blocks c.actions

-- they are those of the plain machine
pub given_up_as : (old new : Core) (m : List ℕ) → old.holds ≡ false → old.irrevocable ≡ false → new ≡ after_undoing old → new.actions.ran ≡ (undone (stands_for old m)).actions.ran
given_up_as old new m free revocable is =
    ap (λ (c : Core). c.actions.ran) is ∙ (ap (λ (a : _). a.ran) (given_up_actions old free)
    ∙ (sym (ap (λ (a : _). a.ran) (undone_actions old.blocks old.arena m (state_over old.writes old.blocks old.arena old.actions m)))
    ∙ ap (λ (b : Bool). (undone (state_in b old.writes old.blocks old.arena old.actions m)).actions.ran) (sym revocable)))

pub given_up_later : (old new : Core) → old.holds ≡ false → new ≡ after_undoing old → (more : List Ran) × (new.actions.ran ≡ old.actions.ran ++ more)
given_up_later old new free is =
    let f = given_up_on old in
    (f.later, ap (λ (c : Core). c.actions.ran) is ∙ (ap (λ (a : _). a.ran) (given_up_actions old free) ∙ f.ran))

-- and all of them have a place
pub given_up_most : (old new : Core) → old.holds ≡ false → new ≡ after_undoing old → length new.actions.ran ≤ total old.actions
given_up_most old new free is =
    let f = given_up_on old in
    let most = f.most in
    let same = ap (λ (c : Core). length c.actions.ran) is ∙ ap (λ (a : _). length a.ran) (given_up_actions old free) in
    omega arith

-- what is given up held no clock
pub given_up_free : (holds inside : Bool) → (if holds then Held else (if inside then Done else Nothing)) ≡ Done → holds ≡ false
given_up_free true inside e = absurd (cc)
given_up_free false inside e = refl

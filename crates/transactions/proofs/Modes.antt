-- No call of a body takes the clock for good.
use Rattle.std.proofs.Common.{◌≡◌, ◌∙◌, if◌then◌else◌, ℕ, Bool, true, false, List, [], ◌∷◌, Option, None, Some, ap, refl, sym, true≢false}
use Rattle.transactions.proofs.Common.{Abort, Answer, Begin, Block, Call, Commit, Committed, Core, Refusal, Reply, Restarted, Saved, Served, Stands, Start, State, View, after, after_unless, back_from, came_over, closed_irrevocable, effect, entered, in_transaction, is_open, left_over, mine_after, opened, refusal, rolled_back, stands_for, state_in, usual}

-- the call's effect leaves a revocable transaction so
abbrev pub KeepsMode : Call → Type 0
KeepsMode call = (s : State) → s.irrevocable ≡ false → (effect s call).irrevocable ≡ false

mode_after : (deepest : ℕ) (s : State) (call : Call) → KeepsMode call → s.irrevocable ≡ false → (after deepest s call).irrevocable ≡ false
mode_after deepest s call keeps is = by_refusal (refusal deepest s call)
  where
    by_refusal : (o : Option Refusal) → (after_unless o s (effect s call)).irrevocable ≡ false
    by_refusal None = keeps s is
    by_refusal (Some refusal) = is

pub stands_mode : (c : Core) (m : List ℕ) → (stands_for c m).irrevocable ≡ c.irrevocable
stands_mode c m = by_mode c.irrevocable
  where
    by_mode : (b : Bool) → (state_in b c.writes c.blocks c.arena c.actions m).irrevocable ≡ b
    by_mode true = refl
    by_mode false = refl

pub shut_revocable : {v : View} {e : Core} → Stands v e → in_transaction e ≡ false → e.irrevocable ≡ false
shut_revocable {e = e} stands shut = by_mode e.irrevocable refl
  where
    by_mode : (b : Bool) → e.irrevocable ≡ b → b ≡ false
    by_mode true is = absurd (true≢false (sym (stands.settled.holder (stands.settled.irrevocable is).0).0 ∙ shut))
    by_mode false is = refl

pub stays_revocable : (s : Start) (a : Answer) (v : View) (e : Core) → Served s a v e → Stands v e → KeepsMode s.call → s.engine.irrevocable ≡ false → e.irrevocable ≡ false
stays_revocable s (Reply r) v e served stands keeps is =
    sym (stands_mode e (left_over v e)) ∙ ap (λ (t : State). t.irrevocable) served.tells.here.state ∙ mode_after s.engine.depth (stands_for s.engine (came_over s v e)) s.call keeps (stands_mode s.engine (came_over s v e) ∙ is)
stays_revocable s (Restarted clock word) v e served stands keeps is = served.tells.revocable.1
stays_revocable s a v e served stands keeps is = shut_revocable stands served.tells.closes.closed

pub keeps_commit : KeepsMode Commit
keeps_commit s is = by_blocks s.blocks
  where
    by_blocks : (blocks : List Block) → closed_irrevocable blocks s.irrevocable ≡ false
    by_blocks [] = is
    by_blocks (b ∷ []) = refl
    by_blocks (b ∷ p ∷ bs) = is

pub keeps_begin : KeepsMode (Begin usual 0)
keeps_begin s is = by_open (is_open s)
  where
    by_open : (b : Bool) → (if b then entered s usual else opened s.memory s.arena usual).irrevocable ≡ false
    by_open true = is
    by_open false = refl

-- the state with blocks rolled back
pub rolled_mode : (s : State) (rest : List Block) (o : Option Saved) → s.irrevocable ≡ false → (rolled_back s rest o).irrevocable ≡ false
rolled_mode s rest None is = is
rolled_mode s rest (Some saved) is = is

pub back_mode : (s : State) (bs : List Block) → s.irrevocable ≡ false → (back_from s bs).irrevocable ≡ false
back_mode s [] is = is
back_mode s (b ∷ bs) is = rolled_mode s bs b.saved is

pub keeps_abort : KeepsMode (Abort false)
keeps_abort s is = back_mode s s.blocks is

pub mine_stays : (a : Answer) (mine : List ℕ) → ((at : ℕ) (wrote : Bool) → a ≡ Committed at wrote → ⊥) → mine_after mine a ≡ mine
mine_stays (Committed at wrote) mine other = absurd (other at wrote refl)
mine_stays a mine other = refl

-- An open attempt whose innermost block has gone back to its begin, whichever blocks are open.
use Rattle.std.proofs.Common.{◌≡◌, ℕ, ◌%◌, ◌≤◌, false, true, List, [], ◌∷◌, length, refl, sym, ap, subst, ◌∙◌, arith}
use Rattle.run_rules.proofs.Common.{Agrees, AreRead, Attempt, BeganBy, Between, Bounds, Core, Frame, HasBlocks, HaveBegun, IsMemory, IsOpenTry, Ran, Restarts, Rules, Savepoint, back, before_no_more, begun_again, bounds_now, cut_back, due_at, entered_by, is_within, renewed, restart_parts, stands_for}
use Rattle.run_rules.proofs.GoingBack.{gone_back}

-- an attempt that is cut back is the same try of the same block, and no more places are promised in it
pub record IsCut (row cut : Attempt) : Type 0 where
  pub thread : cut.thread ≡ row.thread
  pub nth : cut.nth ≡ row.nth
  pub began : cut.began ≡ row.began
  pub room : cut.calls.room ≤ row.calls.room

pub is_cut : (points : List Savepoint) (arena : List ℕ) (due : List Ran) (row : Attempt) → IsCut row (cut_back points arena due row)
is_cut [] arena due row = record { thread = refl; nth = refl; began = refl; room = omega arith }
is_cut (s ∷ outer) arena due row = record { thread = refl; nth = refl; began = refl; room = omega arith }

module _ {P : Type 0} {rules : Rules P} {deepest : ℕ} {position : List ℕ} {b : Between P} {row : Attempt} {p : P} {mid : Core} (next : List ℕ) (new : Core) (clock word : ℕ) (g : Restarts mid clock word new) (has : HasBlocks rules p)
    (even : new.snapshot % 2 ≡ 0) (read : AreRead (length mid.log) mid.blocks) (agreed : (m : List ℕ) × IsMemory mid.words m × Agrees m new.log) where
  back_at : (bs : List Frame) → mid.blocks ≡ bs → is_within bs ≡ true → (points : List Savepoint) → IsOpenTry rules deepest position b row points p mid → IsOpenTry rules deepest next b (cut_back points new.arena new.actions.ran row) points (rules.at_block p (rules.depth p)) new
  back_at (f ∷ o ∷ outer) is inner [] t = absurd (subst (λ (bs : List Frame). HaveBegun rules deepest (entered_by rules deepest t.of_block) row mid (bounds_now row mid) bs []) is (t.blocks g.revocable))
  back_at (f ∷ o ∷ outer) is inner (s ∷ points) t =
      let e : Core = record mid { irrevocable = false; blocks = f ∷ o ∷ outer } in
      let same : mid ≡ e = λ i. record mid { irrevocable = g.revocable i; blocks = is i } in
      let after : Core = record (renewed e clock) { stage = new.stage; tries = new.tries } in
      let now : new ≡ after = g.stays ∙ ap (λ (c : Core). record (renewed c clock) { stage = new.stage; tries = new.tries }) same in
      let there = subst (IsOpenTry rules deepest position b row (s ∷ points) p) same t in
      let meets_as = subst (λ (c : Core). (m : List ℕ) → IsMemory c.words m → Agrees m new.log → stands_for new m ≡ begun_again c.blocks (back (stands_for c m))) same g.meets in
      let meets = subst (λ (c : Core). (m : List ℕ) → IsMemory mid.words m → Agrees m c.log → stands_for c m ≡ begun_again e.blocks (back (stands_for e m))) now meets_as in
      let some = subst (λ (c : Core). (m : List ℕ) × IsMemory mid.words m × Agrees m c.log) now agreed in
      let gone = gone_back rules deepest position next b row s points p mid f o outer clock new.stage new.tries there has (subst (AreRead (length mid.log)) is read) some meets (let l = g.later in omega (arith, even, ap (λ (c : Core). c.snapshot) g.stays)) in
      subst (λ (c : Core). IsOpenTry rules deepest next b (cut_back (s ∷ points) c.arena c.actions.ran row) (s ∷ points) (rules.at_block p (rules.depth p)) c) (sym now) gone
  back_at bs is inner points t = absurd (cc)

  -- the engine's open attempt, gone back
  pub back_on : {points : List Savepoint} → IsOpenTry rules deepest position b row points p mid → IsOpenTry rules deepest next b (cut_back points new.arena new.actions.ran row) points (rules.at_block p (rules.depth p)) new
  back_on {points} t = back_at mid.blocks refl (restart_parts mid g.place g.may).0 points t

-- what had come to run as its innermost block began has come to run
module _ {P : Type 0} {rules : Rules P} {deepest : ℕ} {position : List ℕ} {b : Between P} {row : Attempt} {points : List Savepoint} {p : P} {e : Core} (t : IsOpenTry rules deepest position b row points p e) where
  began_by : (most : Bounds) (bs : List Frame) (qs : List Savepoint) → HaveBegun rules deepest (entered_by rules deepest t.of_block) row e most bs qs → BeganBy qs row (length e.actions.ran)
  began_by most bs [] h = tt
  began_by most (f ∷ o ∷ outer) (s ∷ qs) h = (let few = h.0.few in let told = t.due in let less = before_no_more s.kept row.restarts in let r : due_at s row.restarts ≤ length e.actions.ran = omega arith in r)
  began_by most bs (s ∷ qs) h = absurd (let none : s ∷ qs ≡ [] = h in cc)

  pub began_now : e.irrevocable ≡ false → BeganBy points row (length e.actions.ran)
  began_now revocable = began_by (bounds_now row e) e.blocks points (t.blocks revocable)

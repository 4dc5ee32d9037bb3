-- What the pass finds that has the whole share.
use Rattle.std.proofs.Common.{◌≡◌, ◌∙◌, ℕ, suc, ◌+◌, ◌<◌, ◌≤◌, false, List, ◌∷◌, length, get_or, drop, ap, refl, subst, sym, arith}
use Rattle.itm_types.specs.{Memory.bytes_of, declared.step.Step.Step, declared.step.Step.TheVariants.Load}
use Rattle.shared_words.proofs.{ClockFirst.clock_with_words, ListPlaces.starts_whole, ListPlaces.weigh_le, PassViews.ends_of, StoredWords.length_after}
use Rattle.shared_words.specs.{Commits.after, Good.Ends, Good.EndsWith, Moves.Moves, Passes.IsOver, Steps.Looked, Steps.StepTells, declared.view.View.View}

-- the memory after all commits that were seen
abbrev pub memory_of : View → List ℕ
memory_of v = after v.base v.seen

-- a view that has looked again, and has seen no other commit
pub record HasLookedOn (v w : View) : Type 0 where
  pub share : w.share ≡ v.share
  pub holds : w.holds ≡ v.holds
  pub base : w.base ≡ v.base
  pub seen : w.seen ≡ v.seen

pub looks_on_on : (u v w : View) → HasLookedOn u v → HasLookedOn v w → HasLookedOn u w
looks_on_on u v w a b = record { share = b.share ∙ a.share; holds = b.holds ∙ a.holds; base = b.base ∙ a.base; seen = b.seen ∙ a.seen }

pub same_memory : (v w : View) → HasLookedOn v w → memory_of w ≡ memory_of v
same_memory v w on = ap (λ (m : List ℕ). after m w.seen) on.base ∙ ap (after v.base) on.seen

-- so many words, one less than cells
pub memory_size : (cells : ℕ) (v : View) → IsOver cells v → length (memory_of v) + 1 ≡ cells
memory_size cells v over = ap (λ (k : ℕ). k + 1) (length_after v.base v.seen) ∙ over.size

module _ (v w : View) (n : ℕ) (all : v.share ≡ 128) (idle : v.holds ≡ false) where
  some_cell : (cells words : List ℕ) (clock : ℕ) → cells ≡ clock ∷ words → 0 < length cells
  some_cell cells words clock e = let l : length cells ≡ suc (length words) = ap length e in omega (arith, l)

  ends : (c : ℕ) (m : Moves v (Load c) n w) → Ends v (get_or m.cells 0 0) (drop 1 m.cells)
  ends c m = ends_of m.cells m.views m.good m.place v m.here all idle (get_or m.cells 0 0) (drop 1 m.cells) (clock_with_words m.cells (some_cell m.cells _ _ m.good.cells_are))

  -- in cell 0 it finds the clock as all commits have left it
  pub clock_found : Moves v (Load 0) n w → Ends v n (memory_of v)
  clock_found m =
      let e = ends 0 m in
      subst (λ (k : ℕ). Ends v k (memory_of v)) (sym m.finds_it) (subst (Ends v (get_or m.cells 0 0)) e.words_are e)

  -- and in the others the words
  pub word_found : (k : ℕ) → Moves v (Load (suc k)) n w → n ≡ get_or (memory_of v) k 0
  word_found k m =
      let e = ends (suc k) m in
      let split : get_or m.cells 0 0 ∷ drop 1 m.cells ≡ m.cells = clock_with_words m.cells (some_cell m.cells _ _ m.good.cells_are) in
      m.finds_it ∙ (ap (λ (l : List ℕ). get_or l (suc k) 0) (sym split) ∙ ap (λ (l : List ℕ). get_or l k 0) e.words_are)

  pub clock_looked : Moves v (Load 0) n w → StepTells v (Load 0) n w → HasLookedOn v w
  clock_looked m t =
      let l : Looked v (Load 0) n w = t.0 refl in
      let clock = (clock_found m).clock_is in
      let long = l.1.counts in
      record {
        share = ap (λ (x : View). x.share) l.0;
        holds = ap (λ (x : View). x.holds) l.0;
        base = ap (λ (x : View). x.base) l.0;
        seen = starts_whole w.seen v.seen l.1.grows (omega (arith, clock, long));
      }

  pub word_looked : (k : ℕ) → StepTells v (Load (suc k)) n w → HasLookedOn v w
  word_looked k t =
      let is = (t.1 k (let e : suc k ≡ k + 1 = omega arith in e)).0 idle in
      record { share = ap (λ (x : View). x.share) is; holds = ap (λ (x : View). x.holds) is; base = ap (λ (x : View). x.base) is; seen = ap (λ (x : View). x.seen) is }

-- no view has more than all shares
pub share_most : (v w : View) (step : Step) (n : ℕ) → Moves v step n w → v.share ≤ 128
share_most v w step n m = omega (arith, m.good.whole, weigh_le (λ (x : View). x.share) m.views m.place v m.here)

-- all words were read into these bytes
pub all_read : (v : View) (clock : ℕ) (bytes : List ℕ) → Ends v clock (memory_of v) → bytes ≡ bytes_of (memory_of v) → EndsWith v clock bytes
all_read v clock bytes e is = record { clock_is = e.clock_is; high = e.high; bytes_are = is; met = e.met; mine = e.mine; no_other = e.no_other }

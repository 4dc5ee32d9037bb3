-- The word that was loaded last.
use Rattle.std.proofs.Common.{◌≡◌, ℕ, suc, ◌+◌, Bool, true, false, List, [], ◌∷◌, ◌++◌, Some, ap, ◌∙◌, arith}
use Rattle.call_rules.proofs.Common.{Core, Load, Loaded, Loads, LogRow, Step, StepTells, Store, View, handed_to, same_from_push, word_loaded}

pub no_last : (before : List LogRow) (row : LogRow) → [] ≡ before ++ row ∷ [] → ⊥
no_last [] row e = absurd (cc)
no_last (r ∷ rs) row e = absurd (cc)

same_loads : (v w : View) (e : Core) → w.fresh ≡ v.fresh → Loads v e → Loads w e
same_loads v w e same l before row x = let old = l before row x in (old.0, same ∙ old.1)

by_holds : (v w : View) (e : Core) (n word : ℕ) (b : Bool) → v.holds ≡ b → Loaded v (Load (suc word)) word n w → Loads v e → Loads w (word_loaded e b word n)
by_holds v w e n word true h u l = λ before row x. same_loads v w e (ap (λ (y : View). y.fresh) (u.1 h).0) l before row x
by_holds v w e n word false h u l = λ before row x.
    (let same = (same_from_push e.fresh before (record { word = word; value = n }) row x).1 in
    (v.fresh, ap (λ (y : View). y.fresh) (u.0 h) ∙ ap (λ (r : LogRow). v.fresh ++ (r.word, r.value) ∷ []) same))

-- over any step
pub loads_on : (v w : View) (e : Core) (n : ℕ) (step : Step) → v.holds ≡ e.holds → StepTells v step n w → Loads v e → Loads w (handed_to e (Some step) n)
loads_on v w e n (Load (suc word)) h u l = by_holds v w e n word e.holds h (u.1 word (let x : suc word ≡ word + 1 = omega arith in x)) l
loads_on v w e n (Store (suc word) value) h u l = λ before row x. same_loads v w e (ap (λ (y : View). y.fresh) (u.1 word (let y : suc word ≡ word + 1 = omega arith in y))) l before row x
loads_on v w e n step h u l = λ before row x. absurd (no_last before row x)

-- Texts that calls of a stream write, one after another.
use Rattle.std.proofs.Common.{◌≡◌, ℕ, ◌+◌, ◌<◌, ◌≤◌, All, List, ◌++◌, length, take, flat_map, get_or, Option, None, Result, Ok, Err, refl, sym, ap, ◌∙◌, subst, arith, OnOk}
use Rattle.run_commands.proofs.Common.{All-more, All-nil, Attempt, AttemptFits, Error, Page, Sends, adds_attempt, adds_failed, adds_nothing, adds_then, attempt_lines, common_steps, fault_of, result_err, stream_state}
use Rattle.run_commands.proofs.Plays.{attempts_stopped}

both : {A S : Type 0} (T : Type 0) (r : Result A Error) → S → OnOk r T → OnOk r (S × T)
both T (Ok x) p q = (p, q)
both T (Err e) p q = record {}

weaker : {A S T : Type 0} (r : Result A Error) → (S → T) → OnOk r S → OnOk r T
weaker (Ok x) f p = f p
weaker (Err e) f p = record {}

none_sent : {B : Type 0} (T : Type 0) (r : Result B Error) (e : Error) → r ≡ Err e → OnOk r T
none_sent {B} T r e failed = subst (λ (q : Result B Error). OnOk q T) (sym failed) (record {})

module _ {W : Type 0} {contents : W → Option (List ℕ)} where
  -- one text after another
  pub sends_then : {a b c : Page W} {x y : List ℕ} {S T A B : Type 0} {q : A} {r : Result B Error} → Sends {A = A} contents a b x S (Ok q) → Sends contents b c y T r → Sends contents a c (x ++ y) (S × T) r
  sends_then {a} {b} {c} {x} {y} {T = T} {r = r} f g = record { same = g.same ∙ f.same; adds = adds_then _ _ _ x y f.adds g.adds; answer = g.answer; fits = both T r f.fits g.fits }

  -- a write failed before the other
  pub sends_cut : {a b : Page W} {x : List ℕ} (y : List ℕ) {S T A B : Type 0} {e : Error} (r : Result B Error) → Sends {A = A} contents a b x S (Err e) → r ≡ Err e → Sends contents a b (x ++ y) T r
  sends_cut {a} {b} {x} y {B = B} {e} r f failed = record {
    same = f.same;
    adds = adds_failed _ _ e x y f.adds f.answer;
    answer = f.answer ∙ sym (ap (result_err {T = B} {E = Error}) failed);
    fits = none_sent _ r e failed;
  }

  pub sends_typed : {a b : Page W} {x : List ℕ} {S T A : Type 0} {r : Result A Error} → (S → T) → Sends contents a b x S r → Sends contents a b x T r
  sends_typed {r} f p = record { same = p.same; adds = p.adds; answer = p.answer; fits = weaker r f p.fits }

-- ## The lines of some attempts

module _ {W : Type 0} (contents : W → Option (List ℕ)) (all : List Attempt) where
  -- those of the first ones are written
  abbrev pub SendsFirst : Page W → Page W → ℕ → Type 0
  SendsFirst a b i = Sends {A = Unit {0}} contents a b (flat_map attempt_lines (take i all)) (All AttemptFits (take i all)) (Ok tt)

  pub sends_unbegun : (a : Page W) → fault_of a ≡ None → SendsFirst a a 0
  sends_unbegun a fresh = record { same = refl; adds = adds_nothing (stream_state contents a); answer = fresh; fits = All-nil AttemptFits }

  pub sends_next : (a b c : Page W) (i : ℕ) (d : Attempt) {A : Type 0} (x : A) → i < length all → SendsFirst a b i → Sends {A = A} contents b c (attempt_lines (get_or all i d)) (AttemptFits (get_or all i d)) (Ok x) → SendsFirst a c (i + 1)
  sends_next a b c i d x h p q = record {
    same = q.same ∙ p.same;
    adds = adds_attempt _ _ _ all i d h p.adds q.adds;
    answer = q.answer;
    fits = All-more AttemptFits all i _ h p.fits q.fits;
  }

  pub sends_all : (a b : Page W) (i : ℕ) → length all ≤ i → SendsFirst a b i → Sends {A = Unit {0}} contents a b (flat_map attempt_lines all) (All AttemptFits all) (Ok tt)
  sends_all a b i h p =
      let e : take i all ≡ all = grind (arith, common_steps) in
      subst (λ (xs : List Attempt). Sends {A = Unit {0}} contents a b (flat_map attempt_lines xs) (All AttemptFits xs) (Ok tt)) e p

  -- a write failed before all of them were
  pub sends_stopped : (a b c : Page W) (i : ℕ) (d : Attempt) {A B : Type 0} (e : Error) (r : Result B Error) → i < length all → SendsFirst a b i → Sends {A = A} contents b c (attempt_lines (get_or all i d)) (AttemptFits (get_or all i d)) (Err e) → r ≡ Err e → Sends contents a c (flat_map attempt_lines all) (All AttemptFits all) r
  sends_stopped a b c i d {B = B} e r h p q failed = record {
    same = q.same ∙ p.same;
    adds = attempts_stopped _ _ all (i + 1) e (adds_attempt _ _ _ all i d h p.adds q.adds) q.answer;
    answer = q.answer ∙ sym (ap (result_err {T = B} {E = Error}) failed);
    fits = none_sent _ r e failed;
  }

-- The fault of an attempt, by where it is found.
use Rattle.std.proofs.Common.{◌≡◌, ℕ, Bool, true, false, ◌&&◌, is_some, List, refl, ap, sym, ◌∙◌, Option, None, Some}
use Rattle.history_checker.proofs.Common.{Attempt, Fault, Full, Outcome, State, again_at, alone, at_head, calls_fault, cond-false, cond-true, end_fault, ended, fault_in, first_of, is_unfinished, may_stand, opened, told_on, unless_fault}
use Rattle.history_checker.specs.declared.verdict.BadKind.TheVariants as kind

pub fault_refused : (deepest : ℕ) (m : List ℕ) (a : Attempt) → may_stand a ≡ false → fault_in deepest m a ≡ Some (at_head kind.Shape)
unfolding fault_in
fault_refused deepest m a h = cond-false (may_stand a) _ _ h

-- what is wrong with the calls of an attempt
abbrev pub called_fault : ℕ → List ℕ → Attempt → Option Fault
called_fault deepest m a = calls_fault deepest (again_at a.restarts) (opened m a.arena a.props) 0 a.calls.list

pub fault_begun : (deepest : ℕ) (m : List ℕ) (a : Attempt) → may_stand a ≡ true → fault_in deepest m a ≡ first_of (called_fault deepest m a) (end_fault deepest m a (alone deepest m a))
unfolding fault_in
fault_begun deepest m a h = cond-true (may_stand a) _ _ h

pub fault_early : (deepest : ℕ) (m : List ℕ) (a : Attempt) (f : Option Fault) → may_stand a ≡ true → f ≡ called_fault deepest m a → is_some f ≡ true → f ≡ fault_in deepest m a
fault_early deepest m a None r e h = absurd (cc)
fault_early deepest m a (Some x) r e h = ap (λ g. first_of g (end_fault deepest m a (alone deepest m a))) e ∙ sym (fault_begun deepest m a r)

pub fault_late : (deepest : ℕ) (m : List ℕ) (a : Attempt) (f : Option Fault) → may_stand a ≡ true → f ≡ called_fault deepest m a → is_some f ≡ false → end_fault deepest m a (alone deepest m a) ≡ fault_in deepest m a
fault_late deepest m a None r e h = ap (λ g. first_of g (end_fault deepest m a (alone deepest m a))) e ∙ sym (fault_begun deepest m a r)
fault_late deepest m a (Some x) r e h = absurd (cc)

-- ## What is told

held_same : (o : Outcome) (s : State) → (is_unfinished o && (ended o s).irrevocable) ≡ (is_unfinished o && s.irrevocable)
held_same Full s = refl
held_same o s = refl

held_unless : (f : Option Fault) (o : Outcome) (s t : State) → (f ≡ None → t ≡ ended o s) → unless_fault f (is_unfinished o && t.irrevocable) ≡ unless_fault f (is_unfinished o && s.irrevocable)
held_unless None o s t e = ap (λ (x : State). is_unfinished o && x.irrevocable) (e refl) ∙ held_same o s
held_unless (Some x) o s t e = refl

pub told_is : (deepest : ℕ) (m : List ℕ) (a : Attempt) (f : Option Fault) (t : State) (holds : Bool) → f ≡ fault_in deepest m a → (f ≡ None → t ≡ ended a.outcome (alone deepest m a))
    → holds ≡ unless_fault f (is_unfinished a.outcome && t.irrevocable) → record { fault = f; holds = holds } ≡ told_on deepest m a
unfolding told_on
told_is deepest m a f t holds e s h =
    let s1 = alone deepest m a in
    let held : holds ≡ unless_fault (fault_in deepest m a) (is_unfinished a.outcome && s1.irrevocable) = h ∙ (held_unless f a.outcome s1 t s ∙ ap (λ g. unless_fault g (is_unfinished a.outcome && s1.irrevocable)) e) in
    (λ i. record { fault = e i; holds = held i })

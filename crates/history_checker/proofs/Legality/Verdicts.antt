-- A history has the verdict that it is legal exactly where it is.
use Rattle.std.proofs.Common.{◌≡◌, ◌↔◌, ℕ, Bool, true, false, ◌||◌, if◌then◌else◌, [], length, Option, None, Some, refl, sym, ap, ◌∙◌, arith}
use Rattle.history_checker.proofs.Common.{Bad, History, IsLegal, Legal, Spot, at_fault, committed_fault, count_committed, ends_free, ends_held, final_verdict, first_fault, first_of, head_row, others_fault, position_fault, told_row, verdict_of, verdict_on}
use Rattle.history_checker.specs.declared.verdict.BadKind.{BadKind}
use Rattle.history_checker.specs.declared.verdict.BadKind.TheVariants as kind
use Rattle.history_checker.specs.declared.verdict.Verdict.{Verdict}
use Rattle.history_checker.proofs.Steps.Firsts.{first_nothing}
use Rattle.history_checker.proofs.Legality.Ends.{ends_decides}
use Rattle.history_checker.proofs.Legality.Positions.{AtMostOnce, each_once, none_from, once_from}
use Rattle.history_checker.proofs.Legality.Replays.{all_alone, committed_faultless, others_faultless, seen_from, unseen}

-- a choice that is legal was made by its test
legal_by_test : (b : Bool) (row : ℕ) (k : BadKind) → (if b then Legal else Bad row k) ≡ Legal → b ≡ true
legal_by_test true row k e = refl
legal_by_test false row k e = absurd (cc)

-- where there is a fault the verdict is not that it is legal
no_fault : (h : History) (n : ℕ) (f : Option Spot) → verdict_on h n f ≡ Legal → f ≡ None
no_fault h n None e = refl
no_fault h n (Some spot) e = absurd (cc)

module _ (h : History) where
  -- a history of that verdict is legal
  legal_from : verdict_of h ≡ Legal → IsLegal h
  unfolding verdict_of
  legal_from e =
      let n = count_committed h.attempts in
      let ts = h.attempts in
      let none : first_fault h n ≡ None = no_fault h n (first_fault h n) e in
      let first = first_nothing (position_fault n [] ts) (first_of (at_fault n 0 ts) (first_of (committed_fault h n) (others_fault h 0 ts))) none in
      let second = first_nothing (at_fault n 0 ts) (first_of (committed_fault h n) (others_fault h 0 ts)) first.1 in
      let third = first_nothing (committed_fault h n) (others_fault h 0 ts) second.1 in
      let once : AtMostOnce n ts = once_from n [] ts first.0 (λ k. omega arith) in
      let final : final_verdict h n ≡ Legal = ap (verdict_on h n) (sym none) ∙ e in
      record {
        positions = each_once ts once;
        others = seen_from n ts once second.0;
        alone = all_alone h n once third.0 third.1;
        final = (ends_decides h n).0 (legal_by_test (ends_free h n || ends_held h n) (told_row (head_row h.version ts (length ts))) kind.Final final);
      }

  -- and a legal one has that verdict
  legal_told : IsLegal h → verdict_of h ≡ Legal
  unfolding verdict_of
  legal_told i =
      let n = count_committed h.attempts in
      let ts = h.attempts in
      let position : position_fault n [] ts ≡ None = none_from n [] ts (λ k. (let is = i.positions k in omega (arith, is))) in
      let beyond : at_fault n 0 ts ≡ None = unseen n 0 ts i.others in
      let committed : committed_fault h n ≡ None = committed_faultless h n i.alone in
      let others : others_fault h 0 ts ≡ None = others_faultless h i.alone in
      let none : first_fault h n ≡ None = (λ t. first_of (position t) (first_of (beyond t) (first_of (committed t) (others t)))) in
      ap (verdict_on h n) none ∙ ap (λ (b : Bool). if b then Legal else Bad (told_row (head_row h.version ts (length ts))) kind.Final) ((ends_decides h n).1 i.final)

  -- the verdict is that it is legal exactly where it is
  pub legal_verdict : (verdict_of h ≡ Legal) ↔ IsLegal h
  legal_verdict = (legal_from, legal_told)

-- what is told of a history is that it is legal exactly where it is
pub legal_as_told : (h : History) {v : Verdict} → v ≡ verdict_of h → (v ≡ Legal) ↔ IsLegal h
legal_as_told h e = (λ is. (legal_verdict h).0 (sym e ∙ is), λ i. e ∙ (legal_verdict h).1 i)

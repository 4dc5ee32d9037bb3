use Rattle.std.proofs.Common.{◌≡◌, ℕ, List, Option, None, Some, refl, ap, sym, ◌∙◌, length, map, suc}
use Rattle.history_checker.proofs.Common.{AreTold, Attempt, History, Spot, Told, at_fault, count_committed, others_fault, told_fault, told_of}
use Rattle.history_checker.proofs.Steps.Ends.{all_told, others_told}
use Rattle.history_checker.proofs.Steps.Verdicts.{beyond_is, judged, judged_last}
use Rattle.history_checker.proofs.whole.judge.Goals as goal

pub returns-in-Some : goal.returns-in-Some
returns-in-Some c =
    let j = judged c.args.history.now c.as_slice-attempts.result.now c.count-count.result (Some c.in-Some.spot) _ _ _
    (record { attempts = c.as_slice-attempts.ensures; count = c.count-count.ensures.value; position = sym c.in-Some.is ∙ c.in_ok-placed.ensures.fault; beyond = refl; committed = refl; others = refl }) c.in-Some.spot refl in
    record { verdict = c.at_spot.ensures.verdict ∙ j.0; spot = c.at_spot.ensures.spot ∙ j.1 }

pub returns-in-Some-beyond : goal.returns-in-Some-beyond
returns-in-Some-beyond c =
    let j = judged c.args.history.now c.as_slice-attempts.result.now c.count-count.result None (Some c.in-Some-beyond.spot) _ _
    (record { attempts = c.as_slice-attempts.ensures; count = c.count-count.ensures.value; position = sym c.in_default.is ∙ c.in_ok-placed.ensures.fault; beyond = sym c.in-Some-beyond.is ∙ c.beyond.ensures; committed = refl; others = refl }) c.in-Some-beyond.spot refl in
    record { verdict = c.at_spot-in-Some-beyond.ensures.verdict ∙ j.0; spot = c.at_spot-in-Some-beyond.ensures.spot ∙ j.1 }

pub returns-in-Some-fault : goal.returns-in-Some-fault
returns-in-Some-fault c =
    let j = judged c.args.history.now c.as_slice-attempts.result.now c.count-count.result None None (Some c.in-Some-fault.spot) _
    (record { attempts = c.as_slice-attempts.ensures; count = c.count-count.ensures.value; position = sym c.in_default.is ∙ c.in_ok-placed.ensures.fault; beyond = sym c.in_default-beyond.is ∙ c.beyond.ensures; committed = sym c.in-Some-fault.is ∙ c.in_ok-walked.ensures.fault; others = refl }) c.in-Some-fault.spot refl in
    record { verdict = c.at_spot-in-Some-fault.ensures.verdict ∙ j.0; spot = c.at_spot-in-Some-fault.ensures.spot ∙ j.1 }

-- what the replays told is of all attempts
told_all : (h : History) (ts : List Attempt) (n : ℕ) (b : Option Spot) (told xs : List Told) → ts ≡ h.attempts → n ≡ count_committed ts → b ≡ at_fault n 0 ts → b ≡ None
    → AreTold h (suc (count_committed h.attempts)) (length h.attempts) told → xs ≡ told → xs ≡ map (told_of h) h.attempts
told_all h ts n b told xs e f g none t is = is ∙ all_told h (count_committed h.attempts) told (sym (beyond_is h ts n b e f g) ∙ none) t

-- so the first fault that is told is that of the others
others_are : (h : History) (xs : List Told) (f : Option Spot) → xs ≡ map (told_of h) h.attempts → f ≡ told_fault 0 xs → f ≡ others_fault h 0 h.attempts
others_are h xs f e g = g ∙ (ap (told_fault 0) e ∙ sym (others_told h 0 h.attempts))

pub returns-in-Some-told_fault : goal.returns-in-Some-told_fault
returns-in-Some-told_fault c =
    let h = c.args.history.now in
    let told = told_all h c.as_slice-attempts.result.now c.count-count.result c.beyond.result c.in_ok-walked.walked.told.items c.deref-2.result.now c.as_slice-attempts.ensures c.count-count.ensures.value c.beyond.ensures
    c.in_default-beyond.is (c.in_ok-walked.ensures.told c.in_default-fault.is) c.deref-2.ensures.value in
    let j = judged h c.as_slice-attempts.result.now c.count-count.result None None None (Some c.in-Some-told_fault.spot)
    (record {
      attempts = c.as_slice-attempts.ensures;
      count = c.count-count.ensures.value;
      position = sym c.in_default.is ∙ c.in_ok-placed.ensures.fault;
      beyond = sym c.in_default-beyond.is ∙ c.beyond.ensures;
      committed = sym c.in_default-fault.is ∙ c.in_ok-walked.ensures.fault;
      others = sym c.in-Some-told_fault.is ∙ others_are h c.deref-2.result.now c.told_fault.result told c.told_fault.ensures;
    }) c.in-Some-told_fault.spot refl in
    record { verdict = c.at_spot-in-Some-told_fault.ensures.verdict ∙ j.0; spot = c.at_spot-in-Some-told_fault.ensures.spot ∙ j.1 }

pub final_verdict-requires-clause-told : goal.final_verdict-requires-clause-told
final_verdict-requires-clause-told c =
    told_all c.args.history.now c.as_slice-attempts.result.now c.count-count.result c.beyond.result c.in_ok-walked.walked.told.items c.deref-3.result.now c.as_slice-attempts.ensures c.count-count.ensures.value c.beyond.ensures
    c.in_default-beyond.is (c.in_ok-walked.ensures.told c.in_default-fault.is) c.deref-3.ensures.value

pub final_verdict-requires-clause-none : goal.final_verdict-requires-clause-none
final_verdict-requires-clause-none c =
    let h = c.args.history.now in
    let told = told_all h c.as_slice-attempts.result.now c.count-count.result c.beyond.result c.in_ok-walked.walked.told.items c.deref-2.result.now c.as_slice-attempts.ensures c.count-count.ensures.value c.beyond.ensures
    c.in_default-beyond.is (c.in_ok-walked.ensures.told c.in_default-fault.is) c.deref-2.ensures.value in
    sym (others_are h c.deref-2.result.now c.told_fault.result told c.told_fault.ensures) ∙ c.in_default-told_fault.is

pub returns : goal.returns
returns c =
    let h = c.args.history.now in
    let told = told_all h c.as_slice-attempts.result.now c.count-count.result c.beyond.result c.in_ok-walked.walked.told.items c.deref-2.result.now c.as_slice-attempts.ensures c.count-count.ensures.value c.beyond.ensures
    c.in_default-beyond.is (c.in_ok-walked.ensures.told c.in_default-fault.is) c.deref-2.ensures.value in
    let j = judged_last h c.as_slice-attempts.result.now c.count-count.result None None None None
    (record {
      attempts = c.as_slice-attempts.ensures;
      count = c.count-count.ensures.value;
      position = sym c.in_default.is ∙ c.in_ok-placed.ensures.fault;
      beyond = sym c.in_default-beyond.is ∙ c.beyond.ensures;
      committed = sym c.in_default-fault.is ∙ c.in_ok-walked.ensures.fault;
      others = sym c.in_default-told_fault.is ∙ others_are h c.deref-2.result.now c.told_fault.result told c.told_fault.ensures;
    }) refl in
    record { verdict = c.final_verdict.ensures ∙ j.0; spot = j.1 }

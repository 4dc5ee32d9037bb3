use Rattle.std.proofs.Common.{◌≡◌, Bool, not, ◌&&◌, ◌==◌, nat_le, List, length, ap, ◌∙◌}
use Rattle.history_checker.proofs.Common.{Attempt, count_holding, is_away, is_waiting, told_away, told_holding}
use Rattle.history_checker.proofs.Steps.Ends.{holding_told, away_told}
use Rattle.history_checker.proofs.endings.ends_held.Goals as goal

pub returns : goal.returns
returns c =
    let h = c.args.history.now in
    let k = c.args.count in
    let n : c.holding-one.result ≡ count_holding h h.attempts = c.holding-one.ensures ∙ (ap told_holding c.requires.told ∙ holding_told h 0 h.attempts c.requires.none) in
    let waits : c.is_waiting-waiting.result ≡ is_waiting k h.attempts = c.is_waiting-waiting.ensures ∙ ap (is_waiting k) c.as_slice-attempts.ensures in
    let away : c.told_away-there.result ≡ is_away h k h.attempts = c.told_away-there.ensures ∙ (ap (λ (xs : List Attempt). told_away k xs c.args.told.now) c.as_slice-attempts.ensures ∙ (ap (told_away k h.attempts) c.requires.told ∙ away_told h k 0 h.attempts c.requires.none)) in
    c.both-4.ensures ∙ (ap (λ (b : Bool). c.is_twice_and_one-odd.result && b) (c.both-3.ensures ∙ ap (λ (b : Bool). (length c.as_slice.result.now == length c.as_slice-2.result.now) && b) (c.both-2.ensures ∙ ap (λ (b : Bool). c.is_waiting-waiting.result && b) c.both.ensures))
    ∙ (λ i. c.is_twice_and_one-odd.ensures i && ((length (c.as_slice.ensures i) == length (c.as_slice-2.ensures i)) && (waits i && (nat_le (n i) 1 && not (away i))))))

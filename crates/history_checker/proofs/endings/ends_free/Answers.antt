use Rattle.std.proofs.Common.{◌≡◌, ℕ, Bool, ◌&&◌, ◌==◌, List, ap, ◌∙◌, bytes_eq}
use Rattle.history_checker.proofs.Common.{count_holding, memory_at, told_holding}
use Rattle.history_checker.proofs.Steps.Ends.{holding_told}
use Rattle.history_checker.proofs.endings.ends_free.Goals as goal

pub returns : goal.returns
returns c =
    let h = c.args.history.now in
    let n : c.holding-free.result ≡ count_holding h h.attempts = c.holding-free.ensures ∙ (ap told_holding c.requires.told ∙ holding_told h 0 h.attempts c.requires.none) in
    let same : c.eq-same.result ≡ bytes_eq h.bytes (memory_at h c.args.count) = c.eq-same.ensures ∙ (ap (λ (xs : List ℕ). bytes_eq xs c.args.base.now) c.as_slice.ensures ∙ ap (bytes_eq h.bytes) c.requires.base) in
    c.both-2.ensures ∙ (ap (λ (b : Bool). c.is_twice.result && b) c.both.ensures ∙ (λ i. c.is_twice.ensures i && (same i && (n i == 0))))

-- The text of a legal history, of which each number fits its type and each size its limit, is that of its canonical one, which a text can tell and which is legal.
use Rattle.std.proofs.Common.{◌≡◌, ◌⊎◌, inl, inr, ℕ, List, length, map, get_or, refl, sym, ap, ◌∙◌}
use Rattle.history_reader.proofs.Common.{Again, AgainFits, All-map, AreLimited, Attempt, AttemptFits, EndsFree, EndsHeld, History, HistoryFits, IsAlone, IsAttempt, IsHistory, IsLegal, IsLimited, IsTold, IsUndone, MayTell, One, Three, Two, Version, breaks_of, canonical, canonical_again, canonical_attempt, canonical_undone, count_committed, history_text, memory_at, opened, read_of}
use Rattle.history_reader.specs.LegalTexts.{IsLegalText}
use Rattle.history_reader.proofs.RoundTrips.Texts.{read_again}
use Rattle.history_reader.proofs.Canon.Attempts.{stand_so}
use Rattle.history_reader.proofs.Canon.Histories.{canonical_legal}
use Rattle.history_reader.proofs.Canon.Texts.{canonical_text}
use Rattle.history_reader.proofs.Canon.FittingReplies.{entries_are}
use Rattle.tx_history.{specs.Versions.depth_of, proofs.PlainSizes.sized_at}

told_is : (a : Again) → AgainFits a → IsTold (canonical_again a)
told_is a f = (f.arena, All-map IsUndone canonical_undone a.undone (λ k d l. (refl, f.undone k d l)))

may_too : (version : Version) (rs : List Again) → MayTell version rs → MayTell version (map canonical_again rs)
may_too One rs m = ap (map canonical_again) m
may_too Two rs m = tt
may_too (Three depth) rs m = tt

attempt_is : (version : Version) (memory : List ℕ) (a : Attempt) → IsAlone (depth_of version) memory a → AttemptFits a → IsLimited version a → IsAttempt version (canonical_attempt a)
attempt_is version memory a h f l =
    let none : ℕ = 0 in
    let same : none ≡ none = refl in
    let calls = entries_are (depth_of version) (breaks_of a.restarts) (opened memory a.arena a.props) a.calls.list h.replies f.calls l.widths in
    let again = stand_so (length a.arena) 0 a.calls.list a.restarts h.again.stand in
    let restarts = All-map IsTold canonical_again a.restarts (λ k d i. told_is (get_or a.restarts k d) (f.restarts k d i)) in
    assumption (same, calls, again, restarts, may_too version a.restarts l.restarts, l, f)

-- the memory after the run is as long as that before it
as_long : (h : History) (n : ℕ) → EndsFree h n ⊎ EndsHeld h n → length h.bytes ≡ length h.memory
as_long h n (inl e) = ap (length {A = ℕ}) e.bytes ∙ sized_at h n
as_long h n (inr e) = e.bytes

module _ (h : History) (legal : IsLegal h) (fits : HistoryFits h) (limited : AreLimited h) where
  canonical_tellable : IsHistory (canonical h)
  canonical_tellable = record {
    memory = (fits.memory, limited.memory.0, limited.memory.1, limited.memory.2);
    attempts = All-map (IsAttempt h.version) canonical_attempt h.attempts
        (λ k d l. attempt_is h.version (memory_at h (get_or h.attempts k d).at) (get_or h.attempts k d) (legal.alone k d l) (fits.attempts k d l) (limited.attempts k d l));
    clock = fits.clock;
    bytes = (fits.bytes, as_long h (count_committed h.attempts) legal.final);
  }

  pub legal_text : IsLegalText (history_text h)
  legal_text = record {
    history = canonical h;
    read = ap read_of (sym (canonical_text h)) ∙ read_again (canonical h) canonical_tellable;
    tellable = canonical_tellable;
    legal = canonical_legal h legal;
  }

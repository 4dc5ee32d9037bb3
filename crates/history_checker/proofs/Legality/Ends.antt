-- What a history's end says, by tests and by what it means.
use Rattle.std.proofs.Common.{◌≡◌, ◌⊎◌, ℕ, ◌+◌, ◌*◌, ◌≤◌, ◌==◌, Bool, true, false, not, ◌&&◌, ◌||◌, nat_le, All, List, [], ◌∷◌, ◌++◌, length, refl, sym, ap, ◌∙◌, inl, inr, eq-eqb, eqb-true, bytes_eq}
use Rattle.history_checker.proofs.Common.{Attempt, Decides, Decides-and, Decides-eqb, Decides-or, EndsFree, EndsHeld, History, Outcome, Unfinished, and_cases, and_from, and_left, and_parts, and_right, bytes_eq-Decides, cases_Bool, count_holding, ends_free, ends_held, is_away, is_holding, is_unfinished, is_waiting, le-leb, leb-true, memory_at, not-false, not-true, not_from_false, not_from_true, or_cases, or_left, or_right}
use Rattle.std.proofs.lemmas.Bool.Decides.{Decides-by_and}

-- ## Who holds the clock

-- an outcome that is not yet one
unfinished_only : (o : Outcome) → is_unfinished o ≡ true → o ≡ Unfinished
unfinished_only Unfinished e = refl
unfinished_only o e = absurd (cc)

-- one of these attempts has not ended and stands at this position
abbrev Waits : ℕ → List Attempt → Type 0
Waits n ts = (before rest : List Attempt) × (a : Attempt) × (ts ≡ before ++ a ∷ rest) × (a.outcome ≡ Unfinished) × (a.at ≡ n)

-- one that is found waits there
waits_from : (n : ℕ) (ts : List Attempt) → is_waiting n ts ≡ true → Waits n ts
waits_from n [] e = absurd (cc)
waits_from n (a ∷ ts) e = elim (or_cases (is_unfinished a.outcome && (a.at == n)) (is_waiting n ts) e) [
  | inl here ↦ (let parts = and_parts (is_unfinished a.outcome) (a.at == n) here in ([], ts, a, refl, unfinished_only a.outcome parts.0, eqb-true a.at n parts.1))
  | inr later ↦ (let r = waits_from n ts later in (a ∷ r.0, r.1, r.2, ap (λ (l : List Attempt). a ∷ l) r.3, r.4, r.5))
]

-- and one that waits is found
waits_there : (n : ℕ) (before rest : List Attempt) (a : Attempt) → a.outcome ≡ Unfinished → a.at ≡ n → is_waiting n (before ++ a ∷ rest) ≡ true
waits_there n [] rest a e at = or_left (is_unfinished a.outcome && (a.at == n)) (is_waiting n rest) (and_from (is_unfinished a.outcome) (a.at == n) (ap is_unfinished e) (eq-eqb a.at n at))
waits_there n (b ∷ before) rest a e at = or_right (is_unfinished b.outcome && (b.at == n)) (is_waiting n (before ++ a ∷ rest)) (waits_there n before rest a e at)

-- the test of them all
waiting_decides : (n : ℕ) (ts : List Attempt) → Decides (is_waiting n ts) (Waits n ts)
waiting_decides n ts = (waits_from n ts, λ w. ap (is_waiting n) w.3 ∙ waits_there n w.0 w.1 w.2 w.4 w.5)

neither : (a b : Bool) → not (a || b) ≡ (not a && not b)
neither true b = refl
neither false b = refl

module _ (h : History) (n : ℕ) where
  -- if it holds the clock it stands at this position
  abbrev HoldsThere : Attempt → Type 0
  HoldsThere a = is_holding h a ≡ true → a.at ≡ n

  -- it does exactly where it does not stand elsewhere
  there_each : (a : Attempt) → Decides (not (is_holding h a && not (a.at == n))) (HoldsThere a)
  there_each a = (
    λ e on. elim (and_cases (is_holding h a) (not (a.at == n)) (not-true (is_holding h a && not (a.at == n)) e)) [
      | inl off ↦ absurd (let no : true ≡ false = sym on ∙ off in cc)
      | inr is ↦ eqb-true a.at n (not-false (a.at == n) is)
    ],
    λ there. not_from_false (is_holding h a && not (a.at == n)) (elim (cases_Bool (is_holding h a)) [
      | inl on ↦ and_right (is_holding h a) (not (a.at == n)) (not_from_true (a.at == n) (eq-eqb a.at n (there on)))
      | inr off ↦ and_left (is_holding h a) (not (a.at == n)) off
    ]),
  )

  -- the test of them all
  there_decides : (ts : List Attempt) → Decides (not (is_away h n ts)) (All HoldsThere ts)
  there_decides = Decides-by_and (λ (a : Attempt). not (is_holding h a && not (a.at == n))) HoldsThere (λ (ts : List Attempt). not (is_away h n ts)) there_each refl (λ a ts. neither (is_holding h a && not (a.at == n)) (is_away h n ts))

  -- ## Both ends

  -- the test that the clock is free
  free_decides : Decides (ends_free h n) (EndsFree h n)
  free_decides =
      let parts = Decides-and (h.clock == 2 * n) (bytes_eq h.bytes (memory_at h n) && (count_holding h h.attempts == 0)) (Decides-eqb h.clock (2 * n))
      (Decides-and (bytes_eq h.bytes (memory_at h n)) (count_holding h h.attempts == 0) (bytes_eq-Decides h.bytes (memory_at h n)) (Decides-eqb (count_holding h h.attempts) 0)) in
      (λ e. (let p = parts.0 e in record { clock = p.0; bytes = p.1.0; holding = p.1.1 }), λ f. parts.1 (f.clock, (f.bytes, f.holding)))

  -- and that an attempt at the last position holds it
  held_decides : Decides (ends_held h n) (EndsHeld h n)
  held_decides =
      let one : Decides (nat_le (count_holding h h.attempts) 1) (count_holding h h.attempts ≤ 1) = (leb-true (count_holding h h.attempts) 1, le-leb (count_holding h h.attempts) 1) in
      let holders = Decides-and (nat_le (count_holding h h.attempts) 1) (not (is_away h n h.attempts)) one (there_decides h.attempts) in
      let waits = Decides-and (is_waiting n h.attempts) (nat_le (count_holding h h.attempts) 1 && not (is_away h n h.attempts)) (waiting_decides n h.attempts) holders in
      let size = Decides-and (length h.bytes == length h.memory) (is_waiting n h.attempts && (nat_le (count_holding h h.attempts) 1 && not (is_away h n h.attempts))) (Decides-eqb (length h.bytes) (length h.memory)) waits in
      let parts = Decides-and (h.clock == 2 * n + 1) ((length h.bytes == length h.memory) && (is_waiting n h.attempts && (nat_le (count_holding h h.attempts) 1 && not (is_away h n h.attempts)))) (Decides-eqb h.clock (2 * n + 1)) size in (
        λ e. (let p = parts.0 e in record { clock = p.0; bytes = p.1.0; holder = p.1.1.0; holding = p.1.1.1.0; there = p.1.1.1.1 }),
        λ f. parts.1 (f.clock, (f.bytes, (f.holder, (f.holding, f.there)))),
      )

  -- the clock is free at the end or held, and all else as it then must be
  pub ends_decides : Decides (ends_free h n || ends_held h n) (EndsFree h n ⊎ EndsHeld h n)
  ends_decides = Decides-or (ends_free h n) (ends_held h n) free_decides held_decides

-- An actor's steps, as the others see the clock.
use Rattle.std.proofs.Common.{inl, inr, ◌≡◌, ℕ, zero, suc, Some, ◌*◌, ◌≤◌, ◌%◌, Bool, true, false, refl, sym, ap, subst, ◌∙◌, arith}
use Rattle.event_rules.proofs.Common.{Cells, ClocksOn, Core, HoldsOn, Load, Step, Store, both_ways, cases_Bool, handed_to, word_loaded}

-- one step
pub clocks_of : (cells cells' : Cells) (e e' : Core) → HoldsOn cells e cells' e' → (e'.holds ≡ true → cells'.clock % 2 ≡ 1) → ClocksOn cells e cells' e'
clocks_of cells cells' e e' h odd = record {
  odd = λ before. odd;
  apart = λ odd free. elim (cases_Bool e'.holds) [
    | inl n ↦ absurd (omega (arith, (h.takes free n).0))
    | inr n ↦ (h.leaves free n, n)
  ];
  alone = λ mine odd. elim (cases_Bool e'.holds) [
    | inl n ↦ n
    | inr n ↦ elim (cases_Bool e.holds) [
      | inl o ↦ absurd (omega (arith, (h.frees o n).0))
      | inr o ↦ absurd (both_ways e.holds o (mine (ap (λ (c : Cells). c.clock % 2) (sym (h.leaves o n)) ∙ odd)))
    ]
  ];
  late = h.late;
  long = h.long;
  limit = h.limit;
  capped = h.capped;
  seen = h.seen;
}

-- no step
pub clocks_still : (cells : Cells) (e e' : Core) → e'.holds ≡ e.holds → e'.clock ≡ e.clock → (e'.max_commits ≡ e.max_commits) × (e'.patience ≡ e.patience) × (e'.depth ≡ e.depth) × (e'.restarts ≡ e.restarts) → ClocksOn cells e cells e'
clocks_still cells e e' same clock limit = record {
  apart = λ odd free. (refl, same ∙ free);
  alone = λ mine odd. same ∙ mine odd;
  odd = λ before h. before (sym same ∙ h);
  late = (let k : cells.clock ≤ cells.clock = omega arith in k);
  long = refl;
  limit = limit;
  capped = λ l. l;
  seen = λ s free. clock ∙ s (sym same ∙ free);
}

pub clocks_twice : (c0 c1 c2 : Cells) (e0 e1 e2 : Core) → ClocksOn c0 e0 c1 e1 → ClocksOn c1 e1 c2 e2 → ClocksOn c0 e0 c2 e2
clocks_twice c0 c1 c2 e0 e1 e2 x y = record {
  apart = λ odd free.
      (let a = x.apart odd free in
      let b = y.apart (ap (λ (c : Cells). c.clock % 2) a.0 ∙ odd) a.1 in
      (b.0 ∙ a.0, b.1));
  alone = λ mine. y.alone (x.alone mine);
  odd = λ before. y.odd (x.odd before);
  late = (let a = x.late in let b = y.late in omega arith);
  long = y.long ∙ x.long;
  limit = (y.limit.0 ∙ x.limit.0, y.limit.1 ∙ x.limit.1, y.limit.2 ∙ x.limit.2, y.limit.3 ∙ x.limit.3);
  capped = λ l. subst (λ (n : ℕ). c2.clock ≤ 2 * n) x.limit.0 (y.capped (subst (λ (n : ℕ). c1.clock ≤ 2 * n) (sym x.limit.0) (x.capped l)));
  seen = λ s. y.seen (x.seen s);
}

-- the store that frees the clock
abbrev pub is_free : Step → Bool
is_free (Store zero value) = true
is_free s = false

pub word_freed : (e : Core) (holds : Bool) (word seen : ℕ) → (word_loaded e holds word seen).freed ≡ e.freed
word_freed e true word seen = refl
word_freed e false word seen = refl

-- whether the clock was freed by it
pub freed_by : (e : Core) (s : Step) (seen : ℕ) → e.freed ≡ false → (handed_to e (Some s) seen).freed ≡ is_free s
freed_by e (Load (suc word)) seen f = word_freed e e.holds word seen ∙ f
freed_by e (Store zero value) seen f = refl
freed_by e s seen f = f

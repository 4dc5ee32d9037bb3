-- The engine and the cells, over one event: the engine's data stay as the cells have them.
use Rattle.std.proofs.Common.{◌≡◌, List, [], None, ℕ, zero, suc, ◌+◌, ◌*◌, ◌/◌, ◌%◌, ◌^◌, ◌<◌, ◌≤◌, ◌==◌, Bool, true, false, length, Some, slice_index, refl, sym, ap, subst, ◌∙◌, arith, if◌then◌else◌, eqb-true, length-set}
use Rattle.event_rules.proofs.Common.{AllFit, Answers, AreRead, Asks, Call, Cas, Cells, Core, HoldsOn, Idle, IsLawful, IsLog, IsSettled, IsTied, Load, MAX_COMMITS, Next, Proceeds, Step, Store, after_undoing, both_ways, came, cells_after, cond-false, cond-true, cond_both, found, handed_to, in_transaction, is_inside, opening, rests, rolled_back, word_loaded}
use Rattle.access_rules.proofs.Overlays.{agreed}

-- ## The engine with a call that came, or with the value of its step

-- the clock that the holder has seen is its snapshot
pub held_even : (e : Core) → IsSettled e → e.holds ≡ true → e.clock % 2 ≡ 0
held_even e s h = (let same = (s.holder h).1 in let even = s.even in omega arith)

-- mid is such an engine, over these cells, and goes on to new
pub record IsMid (cells : Cells) (mid new : Core) : Type 0 where
  pub words : mid.words ≡ length cells.words
  pub fit : AllFit cells.words
  pub late : mid.clock ≤ cells.clock
  pub holder : mid.holds ≡ true → cells.clock ≡ mid.clock + 1
  pub even : mid.holds ≡ true → mid.clock % 2 ≡ 0
  pub settled : IsSettled new
  pub small : mid.restarts < 2 ^ 32

-- one that does not hold the clock
loose : {cells : Cells} {mid new : Core} → mid.words ≡ length cells.words → AllFit cells.words → mid.clock ≤ cells.clock → mid.holds ≡ false → IsSettled new → mid.restarts < 2 ^ 32 → IsMid cells mid new
loose {mid} words fit late free settled small = record { words = words; fit = fit; late = late; holder = λ h. absurd (both_ways mid.holds free h); even = λ h. absurd (both_ways mid.holds free h); settled = settled; small = small }

-- what the engine goes on to has the same words and the same clock, and holds it or not as before
pub clock_same : (mid new : Core) (what : Next) → Proceeds mid what new → (new.words ≡ mid.words) × (new.clock ≡ mid.clock) × (new.holds ≡ mid.holds)
clock_same mid new (Asks step) g = (ap (λ (c : Core). c.words) g.stays, ap (λ (c : Core). c.clock) g.stays, ap (λ (c : Core). c.holds) g.stays)
clock_same mid new (Answers a) g = (let r = rests mid new a g in (r.words, r.clock, r.held))

-- how many writers may commit stays, and the patience, and how often blocks may go back to their begins
pub limit_same : (mid new : Core) (what : Next) → Proceeds mid what new → (new.max_commits ≡ mid.max_commits) × (new.patience ≡ mid.patience) × (new.depth ≡ mid.depth) × (new.restarts ≡ mid.restarts)
limit_same mid new (Asks step) g = (ap (λ (c : Core). c.max_commits) g.stays, ap (λ (c : Core). c.patience) g.stays, ap (λ (c : Core). c.depth) g.stays, ap (λ (c : Core). c.restarts) g.stays)
limit_same mid new (Answers a) g = (let r = rests mid new a g in (r.max_commits, r.patience, r.depth, r.restarts))

-- the engine stays as the cells have it
pub tied : (cells : Cells) (mid new : Core) (what : Next) → IsMid cells mid new → Proceeds mid what new → IsTied cells new
tied cells mid new what m g =
    let (words, clock, holds) = clock_same mid new what g in
    record {
      words = words ∙ m.words;
      fit = m.fit;
      late = (let l = m.late in omega arith);
      holder = λ h. (let l = m.holder (sym holds ∙ h) in omega arith);
      settled = m.settled;
      small = subst (λ (n : ℕ). n < 2 ^ 32) (sym (limit_same mid new what g).3) m.small;
    }

-- ## A call comes, or a value is handed in

module _ (cells : Cells) (e new : Core) (t : IsTied cells e) (settled : IsSettled new) where
  pub comes : (call : Call) (again : Bool) → IsMid cells (came e call again) new
  comes call again = record { words = t.words; fit = t.fit; late = t.late; holder = t.holder; even = held_even e t.settled; settled = settled; small = t.small }

  word_taken : (word seen : ℕ) → AllFit cells.words → (holds : Bool) → IsMid cells (word_loaded e holds word seen) new
  word_taken word seen fit true = record { words = t.words; fit = fit; late = t.late; holder = t.holder; even = held_even e t.settled; settled = settled; small = t.small }
  word_taken word seen fit false = record { words = t.words; fit = fit; late = t.late; holder = t.holder; even = held_even e t.settled; settled = settled; small = t.small }

  pub hands : (step : Step) → IsLawful e step → AllFit (cells_after cells step).words
      → IsMid (cells_after cells step) (handed_to e (Some step) (found cells step)) new
  hands (Load zero) l fit = loose t.words fit (omega arith) l.1 settled t.small
  hands (Load (suc word)) l fit = word_taken word (slice_index cells.words word) fit e.holds
  hands (Store zero value) l fit = loose t.words fit (omega arith) refl settled t.small
  hands (Store (suc word) value) l fit = record { words = t.words ∙ sym (length-set cells.words word value); fit = fit; late = t.late; holder = t.holder; even = held_even e t.settled; settled = settled; small = t.small }
  hands (Cas cell from to) l fit = record {
    words = t.words;
    fit = fit;
    settled = settled;
    small = t.small;
    late = cond_both (cells.clock == from) to cells.clock (λ (n : ℕ). cells.clock ≤ n) (λ h. (let same = eqb-true cells.clock from h in let up = l.6 in omega arith)) (λ h. omega arith);
    holder = λ h. ap (λ (x : Bool). if x then to else cells.clock) h ∙ (let same = eqb-true cells.clock from h in let up = l.6 in let k : to ≡ cells.clock + 1 = omega arith in k);
    even = λ h. (let same = eqb-true cells.clock from h in let even = l.4 in omega arith);
  }

-- ## Who holds the clock

-- giving up leaves the clock that was seen last, the limits and the snapshot
pub undone_keeps : (e new : Core) → new ≡ after_undoing e → (new.clock ≡ e.clock) × (new.holds ≡ e.holds) × (new.max_commits ≡ e.max_commits) × (new.patience ≡ e.patience) × (new.depth ≡ e.depth) × (new.restarts ≡ e.restarts) × (new.snapshot ≡ e.snapshot)
undone_keeps e new is =
    let Kept : Core → Type 0 = λ c. (c.clock ≡ e.clock) × (c.holds ≡ e.holds) × (c.max_commits ≡ e.max_commits) × (c.patience ≡ e.patience) × (c.depth ≡ e.depth) × (c.restarts ≡ e.restarts) × (c.snapshot ≡ e.snapshot) in
    subst Kept (sym is) (cond_both e.holds e (record (rolled_back e) { stage = Idle; tries = 0 }) Kept (λ h. (refl, refl, refl, refl, refl, refl, refl)) (λ h. (refl, sym h, refl, refl, refl, refl, refl)))

-- it waits for nothing, if it did not
pub idle_still : (e new : Core) → new ≡ after_undoing e → e.waits ≡ None → new.waits ≡ None
idle_still e new is idle = ap (λ (c : Core). c.waits) is ∙ cond_both e.holds _ _ (λ (c : Core). c.waits ≡ None) (λ h. idle) (λ h. refl)

-- an engine that has begun nothing
nothing_begun : (c : Core) → c.blocks ≡ [] → c.log ≡ [] → c.writes ≡ [] → c.freed ≡ false → c.holds ≡ false → c.irrevocable ≡ false → (c.actions.commits ≡ []) × (c.actions.undos ≡ [])
    → c.snapshot ≤ c.clock → c.snapshot % 2 ≡ 0 → c.max_commits ≤ MAX_COMMITS → c.restarted ≤ c.restarts → 0 < c.depth → IsSettled c
nothing_begun c blocks log writes unfreed free revocable gone reached even limit few deep =
    let none : IsLog c.words [] = record { within = tt; single = tt; fit = tt } in
    let empty = subst (IsLog c.words) (sym log) none in
    let inside : c.waits ≡ None → in_transaction c ≡ true → (c.clock ≡ c.snapshot) × (c.snapshot % 2 ≡ 0) = λ w o. absurd (both_ways (in_transaction c) (ap is_inside blocks) o) in
    let holder : c.holds ≡ true → (in_transaction c ≡ true) × (c.clock ≡ c.snapshot) × (c.snapshot / 2 < c.max_commits) = λ h. absurd (both_ways c.holds free h) in
    let irrevocable : c.irrevocable ≡ true → (c.holds ≡ true) × (c.writes ≡ []) × (c.log ≡ []) = λ i. absurd (both_ways c.irrevocable revocable i) in
    assumption (empty, agreed c.words c.log empty, inside, holder, irrevocable, subst (AreRead (length c.log)) (sym blocks) tt)

pub opening_settled : (words : ℕ) (arena : List ℕ) (patience max_commits depth restarts : ℕ) → max_commits ≤ MAX_COMMITS → 0 < depth → IsSettled (opening words arena patience max_commits depth restarts)
opening_settled words arena patience max_commits depth restarts few some =
    nothing_begun (opening words arena patience max_commits depth restarts) refl refl refl refl refl refl (refl, refl) (let k : 0 ≤ 0 = omega arith in k) refl few (let k : 0 ≤ restarts = omega arith in k) some

-- and it is left as the cells have it
pub tied_undone : (cells : Cells) (e new : Core) → new ≡ after_undoing e → (e.holds ≡ false → (new.actions.commits ≡ []) × (new.actions.undos ≡ [])) → IsTied cells e → IsTied cells new
tied_undone cells e new is unregistered t = by_holds e.holds refl
  where
    over : e.holds ≡ false → new ≡ record (rolled_back e) { stage = Idle; tries = 0 } → IsTied cells new
    over free same =
        let gone = subst (λ (c : Core). (c.actions.commits ≡ []) × (c.actions.undos ≡ [])) same (unregistered free) in
        let s = t.settled in
        let holder : false ≡ true → cells.clock ≡ e.clock + 1 = λ h. absurd (cc) in
        subst (IsTied cells) (sym same) (assumption (holder, nothing_begun (record (rolled_back e) { stage = Idle; tries = 0 }) refl refl refl refl refl refl gone s.reached s.even s.limit s.few s.deep, t))

    by_holds : (b : Bool) → e.holds ≡ b → IsTied cells new
    by_holds true h = subst (IsTied cells) (sym (is ∙ cond-true e.holds _ _ h)) t
    by_holds false h = over h (is ∙ cond-false e.holds _ _ h)

-- one that neither takes nor frees it
holds_still : (cells cells' : Cells) (e e' : Core) → e'.holds ≡ e.holds → (e.holds ≡ false → cells' ≡ cells) → cells'.clock ≡ cells.clock → length cells'.words ≡ length cells.words
    → (e'.max_commits ≡ e.max_commits) × (e'.patience ≡ e.patience) × (e'.depth ≡ e.depth) × (e'.restarts ≡ e.restarts) → ((e.holds ≡ false → e.clock ≡ cells.clock) → e'.holds ≡ false → e'.clock ≡ cells'.clock) → HoldsOn cells e cells' e'
holds_still cells cells' e e' same leaves clock long limit seen = record {
  takes = λ f h. absurd (both_ways e.holds f (sym same ∙ h));
  frees = λ h f. absurd (both_ways e.holds (sym same ∙ f) h);
  stores = λ h k. clock;
  leaves = λ f k. leaves f;
  late = omega (arith, clock);
  long = long;
  limit = limit;
  capped = λ l. omega arith;
  seen = seen;
}

-- the step's value came
pub holds_handed : (cells : Cells) (e : Core) (step : Step) → IsTied cells e → IsLawful e step → HoldsOn cells e (cells_after cells step) (handed_to e (Some step) (found cells step))
holds_handed cells e (Load zero) t l = holds_still cells cells e _ refl (λ f. refl) refl refl (refl, refl, refl, refl) (λ s f. refl)
holds_handed cells e (Load (suc word)) t l = by_holds e.holds
  where
    by_holds : (h : Bool) → HoldsOn cells e cells (word_loaded e h word (slice_index cells.words word))
    by_holds true = holds_still cells cells e _ refl (λ f. refl) refl refl (refl, refl, refl, refl) (λ s f. s f)
    by_holds false = holds_still cells cells e _ refl (λ f. refl) refl refl (refl, refl, refl, refl) (λ s f. s f)
holds_handed cells e (Store (suc word) value) t l = holds_still cells _ e _ refl (λ f. absurd (both_ways e.holds f l.1)) refl (length-set cells.words word value) (refl, refl, refl, refl) (λ s f. absurd (both_ways e.holds f l.1))
holds_handed cells e (Store zero value) t l =
    let even = held_even e t.settled l.1 in
    let held = t.holder l.1 in
    let value_is = l.2.0 in
    record {
      takes = λ f h. absurd (both_ways e.holds f l.1);
      frees = λ h f. ((let z : value % 2 ≡ 0 = omega arith in z), refl);
      stores = λ h k. absurd (cc);
      leaves = λ f k. absurd (both_ways e.holds f l.1);
      late = (let k : cells.clock ≤ value = omega arith in k);
      long = refl;
      limit = (refl, refl, refl, refl);
      capped = λ m. (let same = (t.settled.holder l.1).1 in let few = (t.settled.holder l.1).2 in omega arith);
      seen = λ s f. refl;
    }
holds_handed cells e (Cas cell from to) t l = record {
  takes = λ f h. ((let same = eqb-true cells.clock from h in let even = l.4 in omega arith), refl);
  frees = λ h f. absurd (both_ways e.holds l.1 h);
  stores = λ h k. absurd (both_ways e.holds l.1 h);
  leaves = λ f k. ap (λ (b : Bool). record cells { clock = if b then to else cells.clock }) k;
  late = cond_both (cells.clock == from) to cells.clock (λ (n : ℕ). cells.clock ≤ n) (λ h. (let same = eqb-true cells.clock from h in let up = l.6 in omega arith)) (λ h. omega arith);
  long = refl;
  limit = (refl, refl, refl, refl);
  capped = λ m. cond_both (cells.clock == from) to cells.clock (λ (n : ℕ). n ≤ 2 * e.max_commits) (λ h. (let even = l.4 in let few = l.5 in let up = l.6 in omega arith)) (λ h. m);
  seen = λ s f. sym (ap (λ (b : Bool). if b then to else cells.clock) f);
}

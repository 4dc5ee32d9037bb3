-- What the next view has seen, and what the log comes to by it.
use Rattle.std.proofs.Common.{◌≡◌, ◌≢◌, ◌⊎◌, inl, inr, ℕ, ◌+◌, ◌/◌, ◌%◌, ◌<◌, ◌≤◌, true, false, List, [], ◌∷◌, ◌++◌, length, Some, sym, ap, subst, ◌∙◌, arith}
use Rattle.call_rules.proofs.Common.{Agrees, Cas, Core, GoesBack, GoesOver, Grows, InCall, IsLawful, IsSettled, IsTied, Joins, Load, LogRow, Settles, Stand, Start, StartsWith, Step, StepTells, View, Went, after, agrees_less, dite, in_transaction, is_inside, length_after, log_longer, memory_at, memory_of, memory_stays, snapshot_late, starts_le, starts_trans, still_logged, take_all, ℕ_discrete}
use Rattle.norec_core.proofs.Logs as logs
use Rattle.call_rules.proofs.Steps.CallsInHand.{Before, both}

abbrev pub Log : Type 0
Log = List (List (ℕ × ℕ))

-- an exchange looks at the clock, whether it takes it or not
pub record IsExchanged (v w : View) (n : ℕ) (step : Step) : Type 0 where
  pub clock : w.clock ≡ n
  pub looks : w.looks ≡ v.looks + 1
  pub steps : w.steps ≡ v.steps ++ (step, n) ∷ []
  pub late : v.clock ≤ n

pub exchanged : (v w : View) (n cell from to : ℕ) → StepTells v (Cas cell from to) n w → IsExchanged v w n (Cas cell from to)
exchanged v w n cell from to u = dite (ℕ_discrete n from) (λ (hit : n ≡ from). taken hit) (λ (miss : n ≢ from). missed miss)
  where
    taken : n ≡ from → IsExchanged v w n (Cas cell from to)
    taken hit = (let is = (u.0 hit).0 in let at = (u.0 hit).1.late in record { clock = ap (λ (x : View). x.clock) is ∙ sym hit; looks = ap (λ (x : View). x.looks) is; steps = ap (λ (x : View). x.steps) is ∙ ap (λ (m : ℕ). v.steps ++ (Cas cell from to, m) ∷ []) (sym hit); late = omega arith })

    missed : n ≢ from → IsExchanged v w n (Cas cell from to)
    missed miss = (let is = (u.1 miss).0 in record { clock = ap (λ (x : View). x.clock) is; looks = ap (λ (x : View). x.looks) is; steps = ap (λ (x : View). x.steps) is; late = (u.1 miss).1.late })

module _ (s : Start) (v : View) (e : Core) (step : Step) (i : InCall s v e step) (n : ℕ) (new : Core) (joins : Joins e n new) (settled : IsSettled new) where
  t : IsTied v e
  t = i.tied

  waits_same : (other : Step) → e.waits ≡ Some other → step ≡ other
  waits_same other w = let x : Some step ≡ Some other = sym i.waits ∙ w in cc

  -- the holder does not look at the clock
  pub fixed_on : s.engine.irrevocable ≡ true → new.snapshot ≡ s.engine.snapshot
  fixed_on x =
      let mode : e.irrevocable ≡ true = i.kept.irrevocable ∙ x in
      let holds : e.holds ≡ true = (t.settled.irrevocable mode).0 in
      elim (joins.snapshot (t.settled.holder holds).0) [
        | inl same ↦ same ∙ i.fixed x
        | inr (inl moved) ↦ (let lawful : IsLawful e (Load 0) = subst (IsLawful e) (waits_same (Load 0) moved.0.load) i.lawful in absurd (both e.holds holds lawful.1))
        | inr (inr back) ↦ (let lawful : IsLawful e (Load 0) = subst (IsLawful e) (waits_same (Load 0) back.settles.load) i.lawful in absurd (both e.holds holds lawful.1))
      ]

  -- what a clock load tells
  pub record AtLoad (h : Log) : Type 0 where
    pub even : n % 2 ≡ 0 → v.clock ≡ n → Stand (after v.base h) v.fresh
    pub count : length h ≡ n / 2
    pub late : v.clock ≤ n

  -- what the next view has seen: a load of the clock and an exchange look at it
  pub record Looks (h : Log) (looks : ℕ) : Type 0 where
    pub grows : StartsWith h v.seen
    pub at_load : step ≡ Load 0 → AtLoad h
    pub up_load : step ≡ Load 0 → v.looks < looks
    pub up_take : (from to : ℕ) → step ≡ Cas 0 from to → v.looks < looks
    pub on : v.looks ≤ looks

  pub looks_not : (step ≡ Load 0 → ⊥) → ((from to : ℕ) → step ≡ Cas 0 from to → ⊥) → (h : Log) → StartsWith h v.seen → Looks h v.looks
  looks_not no_load no_take h g = record { grows = g; at_load = λ is. absurd (no_load is); up_load = λ is. absurd (no_load is); up_take = λ from to is. absurd (no_take from to is); on = omega arith }

  module _ (h : Log) (looks : ℕ) (k : Looks h looks) where
    abbrev memory : ℕ → List ℕ
    memory p = memory_at v.base h p

    -- what is settled was loaded from the last memory
    settled_fresh : Settles e n → Agrees (memory (n / 2)) e.fresh
    settled_fresh x =
        let a = k.at_load (waits_same (Load 0) x.load) in
        let late = a.late in
        let behind = t.behind in
        let x_same = x.same in
        let same : v.clock ≡ n = omega arith in
        let count = a.count in
        let whole : memory (n / 2) ≡ after v.base h = ap (after v.base) (take_all (n / 2) h (omega arith)) in
        let size = t.over.size in
        let long : length (after v.base h) ≡ e.words = length_after v.base h ∙ (let q : length v.base ≡ e.words = omega arith in q) in
        subst (λ (m : List ℕ). Agrees m e.fresh) (sym whole) (t.fresh (after v.base h) long (a.even x.even same))

    reach : in_transaction e ≡ true → e.snapshot / 2 ≤ length v.seen
    reach o = let c = (t.clocks o).count in let r = t.settled.reached in omega arith

    was_seen : in_transaction e ≡ true → new.snapshot / 2 ≤ length h
    was_seen o = elim (joins.snapshot o) [
      | inl same ↦ (let a = reach o in let b = starts_le h v.seen k.grows in omega arith)
      | inr (inl moved) ↦ (let a = k.at_load (waits_same (Load 0) moved.0.load) in let c = a.count in let m = moved.2 in omega arith)
      | inr (inr back) ↦ (let a = k.at_load (waits_same (Load 0) back.settles.load) in let c = a.count in let m = back.moved in omega arith)
    ]

    old : in_transaction e ≡ true → Agrees (memory (e.snapshot / 2)) e.log
    old o = subst (λ (m : List ℕ). Agrees m e.log) (sym (memory_stays v.base v.seen h (e.snapshot / 2) k.grows (reach o))) (t.logged o)

    -- no block goes back where none is counted
    none_back : {A : Type 0} → new.restarted ≡ e.restarted → GoesBack e n new → A
    none_back same back = absurd (let more = back.counted in omega arith)

    was_logged : in_transaction e ≡ true → new.restarted ≡ e.restarted → Agrees (memory (new.snapshot / 2)) e.log
    was_logged o same = elim (still_logged e new n joins t.settled memory old settled_fresh o) [
      | inl all ↦ all
      | inr back ↦ none_back same back
    ]

    over_then : GoesOver e new → GoesOver s.engine new
    over_then g = record { was = sym i.kept.irrevocable ∙ g.was; is = g.is; log = g.log }

    log_grows : in_transaction e ≡ true → in_transaction new ≡ true → new.restarted ≡ e.restarted → StartsWith new.log s.engine.log ⊎ GoesOver s.engine new
    log_grows o o' same = elim (log_longer e new n joins t.settled o') [
      | inl more ↦ inl (starts_trans new.log e.log s.engine.log more (i.grew o).log)
      | inr (inl over) ↦ inr (over_then over)
      | inr (inr back) ↦ none_back same back
    ]

    log_looks : in_transaction e ≡ true → in_transaction new ≡ true → new.restarted ≡ e.restarted → (new.log ≡ s.engine.log) ⊎ (s.view.looks < looks) ⊎ GoesOver s.engine new
    log_looks o o' unmoved =
        let g = i.grew o in
        let on = k.on in
        let went = i.went.looks in
        elim (joins.log o') [
          | inl same ↦ elim g.looks [
            | inl old ↦ inl (same ∙ old)
            | inr up ↦ inr (inl (let r : s.view.looks < looks = omega arith in r))
          ]
          | inr (inl more) ↦ inr (inl (let a = k.up_load (waits_same (Load 0) more.0.load) in let r : s.view.looks < looks = omega arith in r))
          | inr (inr (inl over)) ↦ inr (inr (over_then over))
          | inr (inr (inr back)) ↦ none_back unmoved back
        ]

    up_now : in_transaction e ≡ false → in_transaction new ≡ true → s.view.looks < looks
    up_now o o' = let went = i.went.looks in elim (joins.begins o o') [
      | inl load ↦ (let a = k.up_load (waits_same (Load 0) load.0) in omega arith)
      | inr takes ↦ (let a = k.up_take e.snapshot (e.snapshot + 1) (waits_same (Cas 0 e.snapshot (e.snapshot + 1)) takes.0.cas) in omega arith)
    ]

  -- what all next views and engines have in common
  module _ (w : View) (base_is : w.base ≡ v.base) (share_is : w.share ≡ v.share) (k : Looks w.seen w.looks) where
    pub went_on : v.high ≤ w.high → Went s.view w
    went_on late = let a = i.went.looks in let b = k.on in let c = i.went.high in record {
      base = base_is ∙ i.went.base;
      share = share_is ∙ i.went.share;
      grows = starts_trans w.seen v.seen s.view.seen k.grows i.went.grows;
      looks = omega arith;
      high = omega arith;
    }

    pub logged_on : in_transaction new ≡ true → Agrees (memory_of w (new.snapshot / 2)) new.log
    logged_on o = subst (λ (b : List ℕ). Agrees (memory_at b w.seen (new.snapshot / 2)) new.log) (sym base_is) (logs.log_now e new n joins t.settled (memory w.seen w.looks k) (old w.seen w.looks k) (settled_fresh w.seen w.looks k) o)

    agrees_on : in_transaction e ≡ true → new.restarted ≡ e.restarted → Agrees (memory_of w (new.snapshot / 2)) e.log
    agrees_on o same = subst (λ (b : List ℕ). Agrees (memory_at b w.seen (new.snapshot / 2)) e.log) (sym base_is) (was_logged w.seen w.looks k o same)

    pub grows_on : in_transaction s.engine ≡ true → in_transaction new ≡ true → new.restarted ≡ e.restarted → Grows s w new
    grows_on o o' same =
        let eo : in_transaction e ≡ true = ap is_inside i.kept.blocks ∙ o in
        let grew = i.grew eo in
        let a = grew.snapshot in
        let b = snapshot_late e new n joins t.settled eo in
        record {
          snapshot = omega arith;
          log = log_grows w.seen w.looks k eo o' same;
          looks = log_looks w.seen w.looks k eo o' same;
          agrees = agrees_less (memory_of w (new.snapshot / 2)) s.engine.log grew.log.0 (subst (Agrees (memory_of w (new.snapshot / 2))) grew.log.1 (agrees_on eo same));
        }

    pub opens_on : in_transaction s.engine ≡ false → in_transaction new ≡ true → s.view.looks < w.looks
    opens_on o o' = up_now w.seen w.looks k (ap is_inside i.kept.blocks ∙ o) o'

    pub before_on : (mid : Core) → mid.log ≡ e.log → mid.snapshot ≡ e.snapshot → mid.restarted ≡ e.restarted → in_transaction e ≡ true → Before s w mid new
    before_on mid log_is snap_is count_is o =
        let a = (i.grew o).snapshot in
        let b = snapshot_late e new n joins t.settled o in
        record {
          seen = was_seen w.seen w.looks k o;
          agrees = λ same. subst (Agrees (memory_of w (new.snapshot / 2))) (sym log_is) (agrees_on o (same ∙ count_is));
          late = omega arith;
          from = omega arith;
          log = subst (λ (l : List LogRow). StartsWith l s.engine.log) (sym log_is) (i.grew o).log;
        }

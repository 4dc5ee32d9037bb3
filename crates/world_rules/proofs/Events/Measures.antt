-- Less and less is left to do.
use Rattle.std.proofs.Common.{inl, inr, ◌≡◌, ℕ, ◌+◌, ◌<◌, ◌≤◌, Bool, true, false, None, refl, sym, ap, subst, ◌∙◌, arith, if◌then◌else◌}
use Rattle.world_rules.proofs.Common.{Actor, Falls, GoesOn, HasLess, IsNoMore, Ready, Rules, Status, cases_Bool, ending_of, in_transaction, is_ready, is_waiting, rank_now, run_left, steps_left, whole}
use Rattle.tx_runs.specs.Ranks.{restarts_left}
use Rattle.world_rules.proofs.Events.Worlds.{waiting_going}

module _ {P : Type 0} (rules : Rules P) where
  run_left_is : (k : ℕ) (a : Actor P) → is_waiting a.status ≡ true → run_left rules k a ≡ rank_now rules k a + 1
  run_left_is k a w = ap (λ (x : Bool). if x then rank_now rules k a + 1 else 0) w

  pub same_less : (a : Actor P) → IsNoMore rules a a
  same_less a = record { whole_falls = (let o : whole rules (in_transaction a.engine) a.run.player ≤ whole rules (in_transaction a.engine) a.run.player = omega arith in o); rank_falls = λ k b. omega arith }

  pub less_less : (a b c : Actor P) → IsNoMore rules a b → IsNoMore rules b c → IsNoMore rules a c
  less_less a b c f g = record { whole_falls = omega (arith, f.whole_falls, g.whole_falls); rank_falls = λ k l. omega (arith, f.rank_falls k l, g.rank_falls k (omega (arith, f.whole_falls))) }

  pub falls_less : (a b : Actor P) → Falls rules (in_transaction a.engine) (in_transaction b.engine) (restarts_left a.engine) (restarts_left b.engine) a b → IsNoMore rules a b
  falls_less a b f = record { whole_falls = f.whole_falls; rank_falls = λ k l. (let u = f.rank_falls k l in omega arith) }

-- one event: the step leads to b, and local work to c
module _ {P : Type 0} (rules : Rules P) (a b c : Actor P) (waits : is_waiting a.status ≡ true) (goes_on : is_waiting b.status ≡ true → GoesOn rules a b)
    (falls : is_ready b.status ≡ true → Falls rules (in_transaction a.engine) (in_transaction b.engine) (restarts_left a.engine) (restarts_left b.engine) a b) (still : is_ready b.status ≡ false → c ≡ b)
    (less : ending_of c.status ≡ None → IsNoMore rules b c) where
  stays : is_waiting b.status ≡ true → c ≡ b
  stays w = still (unready b.status w)
    where
      unready : (s : Status) → is_waiting s ≡ true → is_ready s ≡ false
      unready Ready e = absurd (cc)
      unready s e = refl

  -- where the call is over at b
  fell : is_waiting b.status ≡ false → is_waiting c.status ≡ true → Falls rules (in_transaction a.engine) (in_transaction b.engine) (restarts_left a.engine) (restarts_left b.engine) a b
  fell over w = elim (cases_Bool (is_ready b.status)) [ inl e ↦ falls e | inr e ↦ absurd (let f : is_waiting c.status ≡ false = ap (λ (x : Actor P). is_waiting x.status) (still e) ∙ over in cc) ]

  turn_falls : is_waiting b.status ≡ false → (k : ℕ) → whole rules (in_transaction a.engine) a.run.player ≤ k → run_left rules k c < run_left rules k a
  turn_falls over k l =
      let before = run_left_is rules k a waits in
      elim (cases_Bool (is_waiting c.status)) [
        | inl e ↦
            (let f = fell over e in
            omega (arith, run_left_is rules k c e, f.rank_falls k l, (less (waiting_going c.status e)).rank_falls k (omega (arith, f.whole_falls))))
        | inr e ↦ (let after : run_left rules k c ≡ 0 = ap (λ (x : Bool). if x then rank_now rules k c + 1 else 0) e in omega arith)
      ]

  pub event_less : (on : Bool) → is_waiting b.status ≡ on → HasLess rules on a c
  event_less true w =
      let same = stays w in
      let on = goes_on w in record {
        on = λ e. (ap (λ (x : Actor P). is_waiting x.status) same ∙ w, (let s = ap (λ (x : Actor P). steps_left x.engine) same in let f = on.steps in omega arith));
        less = λ e. subst (IsNoMore rules a) (sym same) on.less;
        over = λ e. absurd (cc);
      }
  event_less false over = record { on = λ e. absurd (cc); less = λ e. less_less rules a b c (falls_less rules a b (fell over e)) (less (waiting_going c.status e)); over = λ e. turn_falls over }

module _ {P : Type 0} (rules : Rules P) where
  -- a call so far: it goes on, or is over
  abbrev pub HasLessSoFar : Bool → Actor P → Actor P → Type 0
  HasLessSoFar true a b = (is_waiting a.status ≡ true) × (is_waiting b.status ≡ true) × IsNoMore rules a b
  HasLessSoFar false a b = HasLess rules false a b

  -- with one event more
  pub less_so_far : (on : Bool) (a b c : Actor P) → HasLessSoFar true a b → HasLess rules on b c → HasLessSoFar on a c
  less_so_far true a b c f g = (let o = g.on refl in (f.0, o.0, less_less rules a b c f.2 (g.less o.0)))
  less_so_far false a b c f g = record {
    on = λ e. absurd (cc);
    less = λ w. less_less rules a b c f.2 (g.less w);
    over = λ e k l.
        (let o = g.over refl k (omega (arith, f.2.whole_falls)) in
        omega (arith, f.2.rank_falls k l, run_left_is rules k a f.0, run_left_is rules k b f.1));
  }

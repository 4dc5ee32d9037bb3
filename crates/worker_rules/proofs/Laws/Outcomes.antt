-- What an answer makes of a run: it goes on, or is over.
use Rattle.std.proofs.Common.{◌≡◌, ◌⊎◌, ℕ, ◌+◌, ◌<◌, ◌≤◌, Bool, true, false, nat_lt, List, [], ◌++◌, length, None, Some, refl, sym, subst, inr, append-nil}
use Rattle.worker_rules.proofs.Common.{Account, Attempt, Core, Course, End, HasRun, Rules, Taken, Tally, View, account_after, in_transaction, ltb-true, outside, positions, tried_as}
use Rattle.tx_runs.specs.declared.ending.End.TheVariants as ends
use Rattle.worker_rules.proofs.Shapes.{RanTo, RunsTo}

-- the run is over: no attempt is open, and as many commits as may be were seen, or the clock was looked at as often as there are tries
pub record IsOverSo {P : Type 0} (rules : Rules P) (c : Course P) (max_commits : ℕ) (end : End) (v : View) (e : Core) (a : Account P) : Type 0 where
  pub has_run : HasRun rules c v a.ended
  pub mine : v.mine ≡ c.view.mine ++ positions a.ended
  pub stage : a.stage ≡ outside
  pub shut : in_transaction e ≡ false
  pub end_is : end ≡ ends.GaveUp
  pub why : (max_commits ≤ length v.seen) ⊎ (c.view.looks + (c.retries + 1) ≤ v.looks)

pub record Turns {P : Type 0} (rules : Rules P) (c : Course P) (max_commits : ℕ) (a : Account P) (v : View) (e : Core) (x : Taken P) : Type 0 where
  pub goes : x.end ≡ None → RunsTo rules c v e (account_after a x)
  pub over : (end : End) → x.end ≡ Some end → IsOverSo rules c max_commits end v e (account_after a x)

-- no attempt is told
pub none_told : {P : Type 0} {rules : Rules P} {c : Course P} {v : View} (a : Account P) → RanTo rules c v a.ended → RanTo rules c v (a.ended ++ [])
none_told {rules = rules} {c = c} {v = v} a run = subst (RanTo rules c v) (sym (append-nil a.ended)) run

module _ {P : Type 0} {rules : Rules P} {c : Course P} {max_commits : ℕ} (a : Account P) {v : View} {e : Core} where
  pub goes_told : (x : Tally P) (over : List Attempt) → RunsTo rules c v e (record { player = x.player; nth = x.nth; again = x.again; stage = x.stage; ended = a.ended ++ over }) → Turns rules c max_commits a v e (record { tally = x; over = over; end = None })
  goes_told x over k = record { goes = λ none. k; over = λ end some. absurd (cc) }

  pub goes_untold : (x : Tally P) → RunsTo rules c v e (record { player = x.player; nth = x.nth; again = x.again; stage = x.stage; ended = a.ended }) → Turns rules c max_commits a v e (record { tally = x; over = []; end = None })
  goes_untold x k = goes_told x [] (subst (λ (xs : List Attempt). RunsTo rules c v e (record { player = x.player; nth = x.nth; again = x.again; stage = x.stage; ended = xs })) (sym (append-nil a.ended)) k)

  pub ends_so : (x : Tally P) (over : List Attempt) → RanTo rules c v (a.ended ++ over) → in_transaction e ≡ false → (max_commits ≤ length v.seen) ⊎ (c.view.looks + (c.retries + 1) ≤ v.looks) → Turns rules c max_commits a v e (record { tally = record x { stage = outside }; over = over; end = Some ends.GaveUp })
  ends_so x over run shut why = record {
    goes = λ none. absurd (cc);
    over = λ end some. record { has_run = run.0; mine = run.1; stage = refl; shut = shut; end_is = cc; why = why };
  }

  -- a try came to nothing: it was the last one, or the next one is to come
  pub tries_so : (x : Tally P) (over : List Attempt) → RanTo rules c v (a.ended ++ over) → in_transaction e ≡ false → (c.retries < x.nth → c.view.looks + (c.retries + 1) ≤ v.looks)
      → RunsTo rules c v e (record { player = x.player; nth = x.nth + 1; again = x.again; stage = outside; ended = a.ended ++ over }) → (b : Bool) → nat_lt c.retries x.nth ≡ b → Turns rules c max_commits a v e (tried_as b x over)
  tries_so x over run shut looks next true is = ends_so x over run shut (inr (looks (ltb-true c.retries x.nth is)))
  tries_so x over run shut looks next false is = goes_told (record x { nth = x.nth + 1; stage = outside }) over next

-- A run after an answer, with an attempt open or with none.
use Rattle.std.proofs.Common.{◌≡◌, ℕ, ◌+◌, ◌≤◌, true, false, List, refl, sym, true≢false, ◌∙◌, arith}
use Rattle.worker_rules.proofs.Common.{Account, Attempt, Core, Course, IsBefore, IsInside, IsOutside, IsRunning, IsTry, Rules, Savepoint, View, Went, in_transaction, now_at, outside}
use Rattle.worker_rules.{proofs.Runs.LaterCommits.run_later, proofs.Shapes.RanTo, proofs.Shapes.RunsTo, proofs.Shapes.goes_on}

module _ {P : Type 0} {rules : Rules P} {c : Course P} {v : View} {e : Core} {t : Account P} (ran : RanTo rules c v t.ended) where
  pub runs_inside : in_transaction e ≡ true → IsInside rules c v e t → RunsTo rules c v e t
  runs_inside now h = record { has_run = ran.0; mine = ran.1; inside = λ o. h; outside = λ o. absurd (true≢false (sym now ∙ o)) }

  pub runs_outside : in_transaction e ≡ false → IsOutside rules c v e t → RunsTo rules c v e t
  runs_outside now h = record { has_run = ran.0; mine = ran.1; inside = λ o. absurd (true≢false (sym o ∙ now)); outside = λ o. h }

-- no attempt is over by it
module _ {P : Type 0} {rules : Rules P} {c : Course P} {u : View} {d : Core} {t : Account P} (running : IsRunning rules c u d t) {v : View} (went : Went u v) (mine : v.mine ≡ u.mine) where
  pub later : RanTo rules c v t.ended × (now_at rules c v t.ended ≡ now_at rules c u t.ended)
  later = (let still = run_later rules c u v went t.ended running.has_run in ((still.0, mine ∙ running.mine), still.1))

  -- the open one is open still, at the same begin
  pub stays_open : {e : Core} (was : in_transaction d ≡ true) → in_transaction e ≡ true → (p : P) (row : Attempt) (points : List Savepoint) → IsTry rules c.depth (running.inside was).between row points p v e
      → row.nth ≡ (running.inside was).row.nth → row.thread ≡ (running.inside was).row.thread → row.began ≡ (running.inside was).row.began → RunsTo rules c v e (goes_on t p row points)
  stays_open was now p row points try nth thread began =
      let h = running.inside was in
      runs_inside later.0 now (record {
        between = h.between;
        row = row;
        points = points;
        stage_is = refl;
        now_is = later.1 ∙ h.now_is;
        try = try;
        again = h.again;
        nth = nth ∙ h.nth;
        thread = thread ∙ h.thread;
        known = (let known = h.known in omega arith);
        looked = (let looked = h.looked in let looks = went.looks in omega arith);
      })

  -- none is open still, before the same try or a later one
  pub stays_closed : {e : Core} (was : in_transaction d ≡ false) → in_transaction e ≡ false → (p : P) (nth : ℕ) → IsBefore rules c.depth (running.outside was).between p e.arena t.again nth → c.view.looks + nth ≤ v.looks + 1
      → RunsTo rules c v e (record t { player = p; nth = nth; stage = outside })
  stays_closed was now p nth before looked =
      let h = running.outside was in
      runs_outside later.0 now (record {
        between = h.between;
        stage_is = refl;
        now_is = later.1 ∙ h.now_is;
        before = before;
        known = (let known = h.known in let up = went.high in omega arith);
        looked = looked;
      })

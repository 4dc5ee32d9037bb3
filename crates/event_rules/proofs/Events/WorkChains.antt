-- Local work of an actor, one call of its player after the other: all that it leaves.
use Rattle.std.proofs.Common.{◌≡◌, ℕ, zero, suc, true, false, List, ◌++◌, None, Some, refl, sym, ap, subst, ◌∙◌, arith}
use Rattle.event_rules.proofs.Common.{Actor, Acts, ActsOn, Attempt, Call, Cells, Core, Ended, Extends, Finished, HasWorked, IsActing, IsDone, IsNoMore, IsPromised, IsSound, KeepsOthers, Next, Obeys, PlayerRun, Ready, Rows, Rules, SameActor, Starves, StillRuns, Tells, Tries, Works, bytes_stay, calls, ending_of, extends_twice, finishes, in_transaction, is_ready, left_same, less_less, others_place, others_same, others_twice, prior_of, rank, rank_now, restarts_left, row_same, same_less, starves, stays, whole}
use Rattle.event_rules.proofs.Runs.Calls.{call_runs, finish_runs, starve_runs, still_at}
use Rattle.event_rules.proofs.Engines.SoundSteps.{IsCalling, call_less, call_taken, mid, player_same, rests, same_rank}
use Rattle.event_rules.proofs.Engines.Intakes.{not_finished, now, ready_of, recorded, still_going}
use Rattle.event_rules.{proofs.Commits.CommitCounts.counted_after, proofs.Commits.LaidWords.laid_on, proofs.Engines.TiedEngines.clock_same, proofs.Engines.TiedEngines.limit_same, proofs.Engines.TiedEngines.undone_keeps, proofs.Tries.TryCalls.call_tries, proofs.Tries.TryCalls.starve_tries, proofs.Tries.TryChains.tries_then}

not_still : {P : Type 0} {A : Type 0} (a : Actor P) → a.status ≡ Ready → is_ready a.status ≡ false → A
not_still a ready n = absurd (let both : true ≡ false = ap is_ready (sym ready) ∙ n in cc)

-- ## One call

module _ {P : Type 0} {rules : Rules P} (laws : Obeys rules) {cells : Cells} {r0 : Rows} {old : Actor P} (sound : IsSound rules cells r0 old) (ready : old.status ≡ Ready) where
  one_act : (r : Rows) (last : Actor P) → Acts rules cells.clock r0 old r last → Works rules cells.clock r0 old r last
  one_act r last act = (1, (r0, old, (refl, refl), ready, act))

  -- the player has none
  pub finish_worked : rules.next_call old.run.player ≡ None → HasWorked rules cells r0 old r0 (record old { status = Ended Finished })
  finish_worked none =
      let last : Actor P = record old { status = Ended Finished } in
      let backed : IsPromised last last.status = λ row e. (let few = subst (IsPromised old) ready sound.acts.backed row e in omega arith) in
      let still : is_ready old.status ≡ false → (last ≡ old) × (r0 ≡ r0) = not_still old ready in
      let less : Some Finished ≡ None → IsNoMore rules old last = λ e. absurd (cc) in
      let runs : StillRuns rules cells r0 old cells r0 last = λ first deepest base laid runs. (laid, finish_runs sound ready first deepest base runs) in
      let works = one_act r0 last (finishes (record { none = none; actor = refl; rows = refl })) in
      let tries : Tries Extends cells.clock (prior_of r0 old) cells.clock r0 last =
      stays old.engine.clock cells.clock cells.clock r0 r0 old last refl refl (in_transaction old.engine) sound.kept.row (rests sound ready).nothing refl (rests sound ready).nothing refl (λ e. absurd (cc)) (λ e. absurd (cc)) in
      assumption (sound, backed, row_same (in_transaction old.engine) old last refl refl sound.kept.row, (rests sound ready).idle, works, tries, runs, others_same old last r0 r0 refl (omega arith) refl (omega arith), still, less)

  -- memory was refused to it
  pub starve_worked : (r1 : Rows) (last : Actor P) → IsSound rules cells r1 last → Starves rules r0 old r1 last → KeepsOthers old r0 last r1 → HasWorked rules cells r0 old r1 last
  starve_worked r1 last sound' s others =
      let keeps = undone_keeps old.engine last.engine s.engine in
      let tries = starve_tries rules cells r0 old sound ready r1 last s in
      let finishes : is_ready old.status ≡ true → ending_of last.status ≡ Some Finished → rules.next_call last.run.player ≡ None = λ w e. absurd (let z = sym (ap ending_of s.status) ∙ e in cc) in
      let still : is_ready old.status ≡ false → (last ≡ old) × (r1 ≡ r0) = not_still old ready in
      let less : ending_of last.status ≡ None → IsNoMore rules old last = λ e. absurd (let z = sym (ap ending_of s.status) ∙ e in cc) in
      let runs = still_at rules cells r0 old cells r1 last old.engine.depth refl (λ first base laid runs. (
        laid_on old.engine.depth base cells cells r0 r1 laid (counted_after cells.clock cells.clock (prior_of r0 old) r1 last tries laid.counted) refl (bytes_stay laid others.more others.ended) refl (λ even. refl),
        starve_runs laws sound s first base laid runs (rests sound ready).free (rests sound ready).nested others.more others.ended,
      )) in
      assumption (sound', one_act r1 last (starves s), tries, runs, others, keeps, s.same, finishes, still, less)

-- it goes to the engine
module _ {P : Type 0} {rules : Rules P} (laws : Obeys rules) {cells : Cells} {r0 r : Rows} {old a : Actor P} {call : Call} {what : Next} (m : IsCalling rules cells r0 r old a call what) (r1 : Rows) (last : Actor P)
    (done : IsDone rules (in_transaction old.engine) (restarts_left (mid m)) r r1 a last call what) (tells : Tells rules r r1 a last call what) where
  -- while it waits, nothing is gained and nothing lost
  less_waits : in_transaction a.engine ≡ in_transaction old.engine → a.engine.restarted ≡ (mid m).restarted → IsNoMore rules old a
  less_waits opens made =
      let most = (limit_same (mid m) a.engine what m.asks.called.proceeds).3 in
      let left = left_same a.engine (mid m) opens most (λ o. made) in
      record {
        whole_falls = (let e : whole rules (in_transaction a.engine) a.run.player ≡ whole rules (in_transaction old.engine) old.run.player = λ i. whole rules (opens i) (player_same m i) in omega arith);
        rank_falls = λ n b. (let e : rank_now rules n a ≡ rank_now rules n old = (λ i. rank rules n (opens i) (left i) a) ∙ same_rank m n in omega arith);
      }

  pub call_worked : rules.next_call old.run.player ≡ Some call → KeepsOthers old r0 last r1 → IsActing last → HasWorked rules cells r0 old r1 last
  call_worked asks others acts =
      let taken = call_taken m in
      let x = now taken done tells in
      let tries = call_tries m done tells in
      let kept = limit_same (mid m) a.engine what m.asks.called.proceeds in
      let sound = x.sound acts (others_place others m.sound.place) in
      let same : SameActor old last = record { thread = x.thread ∙ ap (λ (y : PlayerRun P). y.thread) m.asks.run; retries = x.retries ∙ ap (λ (y : PlayerRun P). y.retries) m.asks.run; nothing = λ e. (rests sound e).nothing } in
      record {
        sound = sound;
        works = one_act laws m.sound m.ready r1 last (calls (record { call = call; next_is = asks; what = what; rows = r; asked = a; asks = m.asks; ready = m.asked.status ∙ m.ready; tells = tells; engine = x.engine; same = same }));
        tries = λ w. tries;
        runs = still_at rules cells r0 old cells r1 last old.engine.depth refl (λ first base laid runs.
            call_runs laws m first base laid runs r1 last done tells others.more (others.ended ∙ ap (λ (l : List Attempt). l ++ others.more) (sym m.asks.ended)) (counted_after cells.clock cells.clock (prior_of r0 old) r1 last tries laid.counted));
        others = others;
        holds = ap (λ (c : Core). c.holds) x.engine ∙ (clock_same (mid m) a.engine what m.asks.called.proceeds).2;
        clock = ap (λ (c : Core). c.clock) x.engine ∙ (clock_same (mid m) a.engine what m.asks.called.proceeds).1;
        limit = (ap (λ (c : Core). c.max_commits) x.engine ∙ kept.0, ap (λ (c : Core). c.patience) x.engine ∙ kept.1, ap (λ (c : Core). c.depth) x.engine ∙ kept.2, ap (λ (c : Core). c.restarts) x.engine ∙ kept.3);
        snapshot = ap (λ (c : Core). c.snapshot) x.engine ∙ m.asks.called.stays.snapshot;
        retries = x.retries ∙ ap (λ (y : PlayerRun P). y.retries) m.asks.run;
        finishes = λ w e. absurd (recorded (λ x y. ending_of y.status ≡ Some Finished → ⊥) taken done tells (λ step t e. absurd (cc)) (λ answer is t. not_finished rules r r1 a last call answer t.told) e);
        still = not_still old m.ready;
        less = recorded (λ x y. ending_of y.status ≡ None → IsNoMore rules old y) taken done tells
            (λ step t e. (let l = less_waits (ap in_transaction t.proceeds.stays) (ap (λ (c : Core). c.restarted) t.proceeds.stays) in record { whole_falls = l.whole_falls; rank_falls = l.rank_falls })) (λ answer is t. call_less m t.settled);
      }

-- ## One after the other

acts_both : {P : Type 0} (rules : Rules P) (clock n k : ℕ) (r r1 r2 : Rows) (a a1 a2 : Actor P) → ActsOn rules clock n r a r1 a1 → ActsOn rules clock k r1 a1 r2 a2 → Works rules clock r a r2 a2
acts_both {P} rules clock n zero r r1 r2 a a1 a2 f g = subst (λ (x : Rows). Works rules clock r a x a2) (sym g.0) (subst (λ (x : Actor P). Works rules clock r a r1 x) (sym g.1) (n, f))
acts_both rules clock n (suc k) r r1 r2 a a1 a2 f g = (let w = acts_both rules clock n k r r1 g.0 a a1 g.1 f g.2 in (suc w.0, (g.0, g.1, w.1, g.3, g.4)))

module _ {P : Type 0} {rules : Rules P} {cells : Cells} {r : Rows} {a : Actor P} where
  pub work_none : IsSound rules cells r a → HasWorked rules cells r a r a
  work_none sound =
      let works : Works rules cells.clock r a r a = (0, (refl, refl)) in
      let tries : is_ready a.status ≡ true → Tries Extends cells.clock (prior_of r a) cells.clock r a = λ w.
      (let ready = ready_of a.status w in
      stays a.engine.clock cells.clock cells.clock r r a a refl refl (in_transaction a.engine) sound.kept.row (rests sound ready).nothing refl (rests sound ready).nothing refl (still_going ready) (still_going ready)) in
      let finishes : is_ready a.status ≡ true → ending_of a.status ≡ Some Finished → rules.next_call a.run.player ≡ None = λ w. still_going (ready_of a.status w) in
      assumption (sound, works, tries, finishes, others_same a a r r refl (omega arith) refl (omega arith), same_less rules a)

  pub work_more : {r1 r2 : Rows} {a1 a2 : Actor P} → HasWorked rules cells r a r1 a1 → a1.status ≡ Ready → HasWorked rules cells r1 a1 r2 a2 → HasWorked rules cells r a r2 a2
  work_more {r1} {r2} {a1} {a2} x ready y =
      let ready_1 = ap is_ready ready in
      record {
        sound = y.sound;
        works = acts_both rules cells.clock x.works.0 y.works.0 r r1 r2 a a1 a2 x.works.1 y.works.1;
        tries = λ w. tries_then Extends extends_twice cells.clock cells.clock (prior_of r a) r1 r2 a1 a2 ready (rests x.sound ready).nothing x.limit.0 x.retries x.limit.3 y.snapshot (y.tries ready_1) (x.tries w);
        runs = λ first deepest base laid runs. (let z = x.runs first deepest base laid runs in y.runs first deepest base z.0 z.1);
        others = others_twice a a1 a2 r r1 r2 x.others y.others;
        holds = y.holds ∙ x.holds;
        clock = y.clock ∙ x.clock;
        limit = (y.limit.0 ∙ x.limit.0, y.limit.1 ∙ x.limit.1, y.limit.2 ∙ x.limit.2, y.limit.3 ∙ x.limit.3);
        snapshot = y.snapshot ∙ x.snapshot;
        retries = y.retries ∙ x.retries;
        finishes = λ w. y.finishes ready_1;
        still = λ n. absurd (let both : true ≡ false = sym ready_1 ∙ (ap (λ (z : Actor P). is_ready z.status) (x.still n).0 ∙ n) in cc);
        less = λ e. less_less rules a a1 a2 (x.less (ap ending_of ready)) (y.less e);
      }

-- What a run leaves, however it ended.
use Rattle.std.proofs.Common.{true≢false, ◌≡◌, ◌⊎◌, ℕ, zero, suc, ◌+◌, ◌/◌, ◌≤◌, Bool, true, false, if◌then◌else◌, List, [], ◌∷◌, ◌++◌, length, None, Some, Result, Ok, Err, refl, sym, ap, subst, ◌∙◌, inl, inr, append-nil}
use Rattle.std.proofs.lemmas.Bool.{cases_Bool}
use Rattle.worker_rules.proofs.Common.{Account, AreFew, AreHeld, AreOver, Attempt, Commit, Core, Course, End, EndsOpen, HasRun, Idle, IsBack, IsFinished, IsMade, IsRunning, IsStarved, Obeys, Owns, Parts, Rules, Stage, Standing, Stands, StopsAs, View, Words, alone, before_led, begin_within, begins, bytes_at, in_transaction, outside, over_as, positions, rolled_back, shut_revocable, stand_of, start_of, told, view_left, view_of}
use Rattle.shared_words.specs.declared.pass.Pass.{Pass}
use Rattle.tx_attempts.specs.declared.attempt.Outcome.TheVariants as outcomes
use Rattle.tx_runs.specs.declared.ending.End.TheVariants as ends
use Rattle.worker_rules.specs.Worked.{Worked}
use Rattle.worker_rules.specs.Works.{EndsAs, is_held}
use Rattle.worker_rules.proofs.Laws.Answers.{both}
use Rattle.worker_rules.proofs.Laws.Rows.{few_more, few_over}
use Rattle.worker_rules.proofs.Shapes.{RanTo, ended_at}
use Rattle.worker_rules.proofs.Transactions.Stops.{starved_run, unfinished_mode, unfinished_run}

-- ## The pass

pub record PartsAre (words : Words) (t : Standing) (r : Result Pass Standing) : Type 0 where
  pub back : IsBack words r
  pub view : view_left r ≡ view_of t.pass
  pub held : is_held r ≡ t.engine.irrevocable

parts : (words : Words) (t : Standing) (r : Result Pass Standing) → Owns words t.pass → Stands (view_of t.pass) t.engine → Parts t r → PartsAre words t r
parts words t (Ok p) own stands is = record {
  back = (subst (Owns words) (sym is.0) own, is.1);
  view = ap view_of is.0;
  held = sym (sym stands.mode ∙ (sym stands.holds ∙ (ap (λ (x : Pass). (view_of x).holds) (sym is.0) ∙ is.1)));
}
parts words t (Err x) own stands is = record {
  back = subst (λ (y : Standing). Owns words y.pass × (y.engine.irrevocable ≡ true) × Stands (view_of y.pass) y.engine) (sym is.0) (own, is.1, stands);
  view = ap (λ (y : Standing). view_of y.pass) is.0;
  held = sym is.1;
}

-- ## Which attempts are irrevocable

none_held : (deepest : ℕ) (v : View) (held : Bool) (xs : List Attempt) → AreOver xs → AreHeld deepest v held xs
none_held deepest v held [] o = tt
none_held deepest v held (x ∷ xs) o = (λ e. absurd (o.0 e), none_held deepest v held xs o.1)

last_held : (deepest : ℕ) (v : View) (held : Bool) (xs : List Attempt) (a : Attempt) → AreOver xs → (alone deepest (bytes_at v a.at) a).irrevocable ≡ held → AreHeld deepest v held (xs ++ a ∷ [])
last_held deepest v held [] a o is = (λ e. is, tt)
last_held deepest v held (x ∷ xs) a o is = (λ e. absurd (o.0 e), last_held deepest v held xs a o.1 is)

-- ## What is left

-- what is told of these attempts
pub record IsTold {P : Type 0} (rules : Rules P) (c : Course P) (max_commits : ℕ) (shuts : Bool) (end : End) (t : Standing) (attempts : List Attempt) : Type 0 where
  pub run : HasRun rules c (view_of t.pass) attempts
  pub mine : (view_of t.pass).mine ≡ c.view.mine ++ positions attempts
  pub held : AreHeld c.depth (view_of t.pass) t.engine.irrevocable attempts
  pub kept : t.engine.irrevocable ≡ true → EndsOpen attempts
  pub ends : EndsAs rules c max_commits shuts end (view_of t.pass) attempts

module _ {P : Type 0} {rules : Rules P} (laws : Obeys rules) (words : Words) (c : Course P) (max_commits : ℕ) (shuts : Bool) (a : Account P) (s : Standing) (running : IsRunning rules c (view_of s.pass) s.engine a) (own : Owns words s.pass) (stands : Stands (view_of s.pass) s.engine) (over : AreOver a.ended) (bound : s.engine.max_commits ≡ max_commits) where
  abbrev To : End → Standing → List Attempt → Type 0
  To end t attempts = IsTold rules c max_commits shuts end t attempts

  -- ## It stands as it was

  ends_outside : in_transaction s.engine ≡ false → rules.next_call a.player ≡ None → EndsAs rules c max_commits shuts ends.Finished (view_of s.pass) a.ended
  ends_outside shut none =
      let out = running.outside shut in
      inl (record {
        between = out.between;
        now_is = out.now_is;
        none = before_led rules laws c.depth out.before ∙ begins_none (rules.calls_left a.player) a.player s.engine.arena none;
      })
    where
      begins_none : (n : ℕ) (p : P) (arena : List ℕ) → rules.next_call p ≡ None → begin_within rules c.depth n p arena (rules.next_call p) ≡ None
      begins_none zero p arena e = refl
      begins_none (suc n) p arena e = ap (begin_within rules c.depth (suc n) p arena) e

  -- the open attempt is told as it stands
  abbrev last : in_transaction s.engine ≡ true → Attempt
  last inside = ended_at outcomes.Unfinished (s.engine.snapshot / 2) s.engine.actions.ran (running.inside inside).row

  ends_inside : (inside : in_transaction s.engine ≡ true) → rules.next_call a.player ≡ None → EndsAs rules c max_commits shuts ends.Finished (view_of s.pass) (a.ended ++ last inside ∷ [])
  ends_inside inside none =
      let h = running.inside inside in
      inr (record {
        before = a.ended;
        last = last inside;
        attempts_are = refl;
        unfinished = refl;
        between = h.between;
        now_is = h.now_is;
        start = h.try.is_open.of_block.start;
        begins = h.try.is_open.of_block.begins;
        none = ap rules.next_call (sym h.try.is_open.of_block.player) ∙ none;
      })

  module _ (end : End) (as_open : (inside : in_transaction s.engine ≡ true) → EndsAs rules c max_commits shuts end (view_of s.pass) (a.ended ++ last inside ∷ [])) (as_shut : in_transaction s.engine ≡ false → EndsAs rules c max_commits shuts end (view_of s.pass) a.ended) where
    told_as : (g : Stage) (xs : List Attempt) → a.stage ≡ g → a.ended ++ over_as outcomes.Unfinished (stand_of s.engine) g ≡ xs → To end s xs → To end s (told a (stand_of s.engine))
    told_as g xs at are k = subst (To end s) (sym (ap (λ (g : Stage). a.ended ++ over_as outcomes.Unfinished (stand_of s.engine) g) at ∙ are)) k

    still_told : (i : Bool) → in_transaction s.engine ≡ i → To end s (told a (stand_of s.engine))
    still_told false shut = told_as outside a.ended (running.outside shut).stage_is (append-nil a.ended) (record {
      run = running.has_run;
      mine = running.mine;
      held = none_held c.depth (view_of s.pass) s.engine.irrevocable a.ended over;
      kept = λ i. absurd (true≢false (sym i ∙ shut_revocable s.engine stands.settled shut));
      ends = as_shut shut;
    })
    still_told true inside =
        let run = unfinished_run laws c (start_of s Commit false) a running stands inside in
        told_as _ (a.ended ++ last inside ∷ []) (running.inside inside).stage_is refl (record {
          run = run.0;
          mine = run.1;
          held = last_held c.depth (view_of s.pass) s.engine.irrevocable a.ended (last inside) over (unfinished_mode laws c (start_of s Commit false) a running stands inside);
          kept = λ i. (a.ended, last inside, refl, refl);
          ends = as_open inside;
        })

    stands_told : To end s (told a (stand_of s.engine))
    stands_told = still_told (in_transaction s.engine) refl

  same_told : (end : End) {left : Account P} {t : Standing} → left ≡ a → t ≡ s → To end s (told a (stand_of s.engine)) → To end t (told left (stand_of t.engine))
  same_told end account thread k = subst (λ (x : Account P × Standing). To end x.1 (told x.0 (stand_of x.1.engine))) (λ i. (sym account i, sym thread i)) k

  -- ## An answer ended it

  made_told : (number retries : ℕ) → number ≡ c.number → retries ≡ c.retries → (left : Account P) (t : Standing) → IsMade words rules number retries a s (Some ends.GaveUp) left t → AreOver left.ended → To ends.GaveUp t (told left (stand_of t.engine))
  made_told number retries number_is retries_is left t m ended =
      let o = (both laws words c a s running own stands number retries number_is retries_is m.call m.asks m.answer t m.answered).1 ends.GaveUp m.end_is in
      let stage : left.stage ≡ outside = ap (λ (x : Account P). x.stage) m.account ∙ o.stage in
      let told_is : told left (stand_of t.engine) ≡ left.ended = ap (λ (g : Stage). left.ended ++ over_as outcomes.Unfinished (stand_of t.engine) g) stage ∙ append-nil left.ended in
      let same : left.ended ≡ _ = ap (λ (x : Account P). x.ended) m.account in
      subst (To ends.GaveUp t) (sym told_is) (record {
        run = subst (HasRun rules c (view_of t.pass)) (sym same) o.has_run;
        mine = o.mine ∙ ap (λ (xs : List Attempt). c.view.mine ++ positions xs) (sym same);
        held = none_held c.depth (view_of t.pass) t.engine.irrevocable left.ended ended;
        kept = λ i. absurd (true≢false (sym i ∙ shut_revocable t.engine m.answered.stands.settled o.shut));
        ends = inr (subst (λ (n : ℕ). (n ≤ length (view_of t.pass).seen) ⊎ (c.view.looks + (c.retries + 1) ≤ (view_of t.pass).looks)) bound o.why);
      })

  -- ## Memory was refused

  starved_told : (left : Account P) (t : Standing) → IsStarved rules a s left t → AreOver left.ended → Stands (view_of t.pass) t.engine → To ends.NoMemory t (told left (stand_of t.engine))
  starved_told left t k ended t_stands = by_irrevocable s.engine.irrevocable refl
    where
      undone_same : (h : Bool) → s.engine.holds ≡ h → h ≡ true → t.engine ≡ s.engine
      undone_same h is yes_held = k.engine ∙ ap (λ (x : Bool). if x then s.engine else record (rolled_back s.engine) { stage = Idle; tries = 0 }) (is ∙ yes_held)

      by_irrevocable : (i : Bool) → s.engine.irrevocable ≡ i → To ends.NoMemory t (told left (stand_of t.engine))
      by_irrevocable true held =
          let same : t ≡ s = λ i. record { pass = k.pass i; engine = undone_same s.engine.holds refl (stands.mode ∙ held) i } in
          same_told ends.NoMemory (k.held held) same (stands_told ends.NoMemory (λ i. tt) (λ o. tt))
      by_irrevocable false revocable =
          let is = k.over revocable in
          let view : view_of t.pass ≡ view_of s.pass = ap view_of k.pass in
          let told_is : told left (stand_of t.engine) ≡ a.ended ++ over_as outcomes.NoMemory (stand_of t.engine) a.stage = ap (λ (x : Account P). told x (stand_of t.engine)) is ∙ append-nil (a.ended ++ over_as outcomes.NoMemory (stand_of t.engine) a.stage) in
          let gone : left.ended ≡ a.ended ++ over_as outcomes.NoMemory (stand_of t.engine) a.stage = ap (λ (x : Account P). x.ended) is in
          subst (To ends.NoMemory t) (sym told_is) (record {
            run = (runs revocable view).0;
            mine = (runs revocable view).1;
            held = subst (AreHeld c.depth (view_of t.pass) t.engine.irrevocable) gone (none_held c.depth (view_of t.pass) t.engine.irrevocable left.ended ended);
            kept = λ i. absurd (true≢false (sym i ∙ freed revocable));
            ends = tt;
          })
        where
          freed : s.engine.irrevocable ≡ false → t.engine.irrevocable ≡ false
          freed revocable = ap (λ (x : Core). x.irrevocable) k.engine ∙ ap (λ (h : Bool). (if h then s.engine else record (rolled_back s.engine) { stage = Idle; tries = 0 }).irrevocable) (stands.mode ∙ revocable)

          runs : s.engine.irrevocable ≡ false → view_of t.pass ≡ view_of s.pass → RanTo rules c (view_of t.pass) (a.ended ++ over_as outcomes.NoMemory (stand_of t.engine) a.stage)
          runs revocable view = elim (cases_Bool (in_transaction s.engine)) [
            | inl inside ↦ subst (λ (g : Stage). RanTo rules c (view_of t.pass) (a.ended ++ over_as outcomes.NoMemory (stand_of t.engine) g)) (sym (running.inside inside).stage_is)
                (starved_run laws c (start_of s Commit false) a running stands inside (view_of t.pass) t.engine revocable k.engine view)
            | inr shut ↦ subst (λ (x : View × List Attempt). RanTo rules c x.0 x.1) (λ i. (sym view i, (sym (append-nil a.ended) ∙ ap (λ (g : Stage). a.ended ++ over_as outcomes.NoMemory (stand_of t.engine) g) (sym (running.outside shut).stage_is)) i)) (running.has_run, running.mine)
          ]

  -- ## However it ended

  pub stops_told : (number retries : ℕ) → number ≡ c.number → retries ≡ c.retries → (end : End) (left : Account P) (t : Standing) → StopsAs words rules number retries shuts end a s left t → AreOver left.ended → Stands (view_of t.pass) t.engine → To end t (told left (stand_of t.engine))
  stops_told number retries number_is retries_is ends.Finished left t k ended t_stands = same_told ends.Finished k.1 k.2 (stands_told ends.Finished (λ i. ends_inside i k.0) (λ o. ends_outside o k.0))
  stops_told number retries number_is retries_is ends.GaveUp left t k ended t_stands = elim k [
    | inl x ↦ same_told ends.GaveUp x.account x.thread (stands_told ends.GaveUp (λ i. inl x.may) (λ o. inl x.may))
    | inr m ↦ made_told number retries number_is retries_is left t m ended
  ]
  stops_told number retries number_is retries_is ends.NoMemory left t k ended t_stands = starved_told left t k ended t_stands

  -- and what is left of the thread
  pub finished : (number retries : ℕ) → number ≡ c.number → retries ≡ c.retries → (w : Worked) (left : Account P) (t : Standing) → StopsAs words rules number retries shuts w.end a s left t → AreOver left.ended → AreFew max_commits left.ended → Owns words t.pass → Stands (view_of t.pass) t.engine → Parts t w.pass → w.attempts ≡ told left (stand_of t.engine)
      → IsFinished rules words c max_commits shuts w
  finished number retries number_is retries_is w left t k ended below own t_stands parts_are is =
      let x = stops_told number retries number_is retries_is w.end left t k ended t_stands in
      let p = parts words t w.pass own t_stands parts_are in
      record {
        back = p.back;
        runs = subst (λ (x : View × List Attempt). HasRun rules c x.0 x.1) (λ i. (sym p.view i, sym is i)) x.run;
        mine = ap (λ (v : View). v.mine) p.view ∙ (x.mine ∙ ap (λ (ys : List Attempt). c.view.mine ++ positions ys) (sym is));
        few = subst (AreFew max_commits) (sym is) (few_more max_commits left.ended (over_as outcomes.Unfinished (stand_of t.engine) left.stage) below (few_over max_commits outcomes.Unfinished refl (stand_of t.engine) left.stage));
        held = subst (λ (x : View × Bool × List Attempt). AreHeld c.depth x.0 x.1 x.2) (λ i. (sym p.view i, sym p.held i, sym is i)) x.held;
        kept = λ h. subst EndsOpen (sym is) (x.kept (sym p.held ∙ h));
        ends = subst (λ (x : View × List Attempt). EndsAs rules c max_commits shuts w.end x.0 x.1) (λ i. (sym p.view i, sym is i)) x.ends;
      }

-- The step was done, and its value is handed in.
use Rattle.std.proofs.Common.{◌≡◌, ◌≢◌, ◌⊎◌, inl, inr, ℕ, zero, suc, ◌+◌, ◌/◌, ◌<◌, ◌≤◌, ◌==◌, Bool, true, false, List, [], ◌∷◌, ◌++◌, length, set, take, if◌then◌else◌, None, Some, slice_get, refl, sym, ap, subst, ◌∙◌, arith, eqb-true, eq-eqb, length-append}
use Rattle.call_rules.proofs.Common.{Agrees, Cas, Core, Follows, Got, InCall, IsFresh, IsHanded, IsHolding, IsLawful, IsMemory, IsOver, IsSettled, IsTied, Joins, Load, Loaded, Sees, Start, Step, StepTells, Store, View, after, agrees_more, asked, backed, cases_Bool, freed, got_now, got_or, handed_is, handed_to, held_words, in_transaction, is_inside, keeps_twice, looked, noted, read, snapshot_same, starts_self, stored_snoc, took, word_loaded, wrote}
use Rattle.norec_core.specs.Phases as at
use Rattle.norec_core.{specs.OwnAccesses.got_in, specs.Rows.write_at}
use Rattle.write_set.specs.Rows.{overlay}
use Rattle.call_rules.proofs.Steps.CallsInHand.{Freed, both, IsMid, stand_less, get_of, whole_memory}
use Rattle.call_rules.proofs.Steps.NewCalls.{held_memory}
use Rattle.call_rules.proofs.Steps.NextViews.{Log, Looks, before_on, exchanged, fixed_on, grows_on, logged_on, looks_not, opens_on, went_on}

module _ (s : Start) (v : View) (e : Core) (step : Step) (i : InCall s v e step) (n : ℕ) (new : Core) (joins : Joins e n new) (settled : IsSettled new) (asks : new.waits ≡ asked new) where
  t : IsTied v e
  t = i.tied

  abbrev Seen : Log → ℕ → Type 0
  Seen h looks = Looks s v e step i n new joins settled h looks

  -- what differs from step to step
  record Differs (w : View) (mid : Core) : Type 0 where
    pub behind : mid.clock ≤ w.clock
    pub known : mid.clock / 2 ≤ length w.seen
    pub rises : e.clock ≤ mid.clock
    pub holds : w.holds ≡ mid.holds
    pub fresh : IsFresh w mid
    pub clocks : in_transaction mid ≡ true → Follows w mid
    pub holding : mid.holds ≡ true → mid.irrevocable ≡ false → IsHolding w mid
    pub freed : mid.freed ≡ true → Freed s w mid new
    pub mine : mid.freed ≡ false → w.mine ≡ s.view.mine
    pub looked : mid.freed ≡ false → (w.clock ≡ s.view.clock) ⊎ (s.view.looks < w.looks)
    pub taken : mid.holds ≡ true → mid.irrevocable ≡ false → s.view.looks < w.looks
    pub opened : in_transaction e ≡ false → in_transaction new ≡ true → Follows w mid
    pub stepped : length w.steps ≡ length v.steps + 1
    pub high : v.high ≤ w.high

  made : (w : View) (mid : Core) → w.base ≡ v.base → w.share ≡ v.share → Seen w.seen w.looks → IsOver (suc e.words) w → IsHanded e mid → Differs w mid → IsMid s w mid new
  made w mid base_is share_is k o h d = record {
    over = subst (λ (c : ℕ). IsOver (suc c) w) (sym h.keeps.words) o;
    kept = keeps_twice _ e mid i.kept h.keeps;
    went = went_on s v e step i n new joins settled w base_is share_is k d.high;
    behind = d.behind;
    known = d.known;
    rises = (let a = i.rises in let b = d.rises in omega arith);
    holds = d.holds;
    fresh = d.fresh;
    before = λ x. before_on s v e step i n new joins settled w base_is share_is k mid h.log h.snapshot h.keeps.restarted (sym (ap is_inside h.keeps.blocks) ∙ x);
    empty = λ c. h.log ∙ (t.settled.closed (sym (ap is_inside h.keeps.blocks) ∙ c)).0;
    clocks = λ o. elim (cases_Bool (in_transaction e)) [ inl was ↦ d.clocks (ap is_inside h.keeps.blocks ∙ was) | inr was ↦ d.opened was o ];
    clock = λ x. (d.clocks x).clock;
    logged = logged_on s v e step i n new joins settled w base_is share_is k;
    holding = d.holding;
    freed = d.freed;
    mine = d.mine;
    looked = d.looked;
    taken = d.taken;
    first = i.first;
    read = i.read;
    shut = i.shut;
    settled = settled;
    asks = asks;
    idle = λ z. absurd (i.begun z);
    fixed = fixed_on s v e step i n new joins settled;
    grows = λ o o' same. grows_on s v e step i n new joins settled w base_is share_is k o o' (same ∙ h.keeps.restarted);
    opens = opens_on s v e step i n new joins settled w base_is share_is k;
    steps = (let a = h.spent in let b = i.steps in let c = d.stepped in omega arith);
    spent = (let a = h.spent in let b = i.within in omega arith);
  }

  -- the clock was not looked at
  still_differs : (w : View) (mid : Core) → in_transaction e ≡ true → (w.clock ≡ v.clock) × (w.seen ≡ v.seen) × (w.looks ≡ v.looks) × (w.mine ≡ v.mine) × (w.holds ≡ v.holds) × (w.high ≡ v.high) → (mid.clock ≡ e.clock) × (mid.holds ≡ e.holds) × (mid.freed ≡ e.freed) → IsFresh w mid
      → (mid.holds ≡ true → mid.irrevocable ≡ false → IsHolding w mid × (s.view.looks < w.looks)) → length w.steps ≡ length v.steps + 1 → Differs w mid
  still_differs w mid is_open is now fresh holding stepped =
      let c = t.clocks is_open in
      let follows : Follows w mid = record { clock = is.0 ∙ (c.clock ∙ sym now.0); count = ap length is.1 ∙ (c.count ∙ ap (λ (k : ℕ). k / 2) (sym now.0)) } in
      record {
        behind = (let b = t.behind in omega (arith, is.0, now.0));
        known = (let k = follows.count in omega arith);
        rises = omega (arith, now.0);
        holds = is.4 ∙ (t.holds ∙ sym now.1);
        fresh = fresh;
        clocks = λ x. follows;
        holding = λ x y. (holding x y).0;
        freed = λ x. absurd (both mid.freed x (now.2 ∙ t.settled.unfreed));
        mine = λ x. is.3 ∙ i.mine;
        looked = λ x. subst (λ (q : ℕ × ℕ). (q.0 ≡ s.view.clock) ⊎ (s.view.looks < q.1)) (λ j. (sym is.0 j, sym is.2 j)) i.looked;
        taken = λ x y. (holding x y).1;
        opened = λ x y. follows;
        stepped = stepped;
        high = omega (arith, is.5);
      }

  -- ## The clock is loaded

  -- a look at the clock
  looks_at : (h : Log) → Sees v n h → Seen h (v.looks + 1)
  looks_at h c = record {
    grows = c.grows;
    at_load = λ is. record { even = c.stands; count = c.counts; late = c.late };
    up_load = λ is. (let r : v.looks < v.looks + 1 = omega arith in r);
    up_take = λ from to is. (let r : v.looks < v.looks + 1 = omega arith in r);
    on = (let r : v.looks ≤ v.looks + 1 = omega arith in r);
  }

  looks_differ : (h : Log) → Sees v n h → (w : View) (mid : Core) → (w.clock ≡ n) × (w.seen ≡ h) × (w.looks ≡ v.looks + 1) × (w.mine ≡ v.mine) → (mid.clock ≡ n) × (mid.fresh ≡ []) × (mid.freed ≡ e.freed) → w.holds ≡ mid.holds
      → (mid.holds ≡ true → mid.irrevocable ≡ false → IsHolding w mid) → length w.steps ≡ length v.steps + 1 → v.high ≤ w.high → Differs w mid
  looks_differ h c w mid is now holds holding stepped high =
      let follows : Follows w mid = record { clock = is.0 ∙ sym now.0; count = ap length is.1 ∙ (c.counts ∙ ap (λ (k : ℕ). k / 2) (sym now.0)) } in
      let up : s.view.looks < w.looks = (let went = i.went.looks in omega (arith, is.2)) in
      record {
        behind = omega (arith, is.0, now.0);
        known = (let k = follows.count in omega arith);
        rises = (let a = t.behind in let b = c.late in omega (arith, now.0));
        holds = holds;
        fresh = λ m l st. subst (Agrees m) (sym now.1) tt;
        clocks = λ x. follows;
        holding = holding;
        freed = λ x. absurd (both mid.freed x (now.2 ∙ t.settled.unfreed));
        mine = λ x. is.3 ∙ i.mine;
        looked = λ x. inr up;
        taken = λ x y. up;
        opened = λ x y. follows;
        stepped = stepped;
        high = high;
      }

  by_look : (h : Log) → IsOver (suc e.words) (looked v (Load 0) h n) → Sees v n h → e.holds ≡ false → IsMid s (looked v (Load 0) h n) (handed_to e (Some (Load 0)) n) new
  by_look h o c free =
      made (looked v (Load 0) h n) (handed_to e (Some (Load 0)) n) refl refl (looks_at h c) o (handed_is e (Load 0) n)
      (looks_differ h c (looked v (Load 0) h n) (handed_to e (Some (Load 0)) n) (refl, refl, refl, refl) (refl, refl, refl) t.holds (λ x y. absurd (both e.holds x free)) (length-append v.steps _) c.high)

  -- ## The clock is taken, or not

  module _ (cell from to : ℕ) (lawful : IsLawful e (Cas cell from to)) (is : step ≡ Cas cell from to) where
    abbrev Left : Bool → Core
    Left b = record e { waits = None; stage = at.Idle; tries = 0; clock = n; fresh = []; holds = b; done = 0; got = None }

    missed : (h : Log) → IsOver (suc e.words) (looked v (Cas cell from to) h n) → Sees v n h → IsHanded e (Left false) → IsMid s (looked v (Cas cell from to) h n) (Left false) new
    missed h o c handed =
        made (looked v (Cas cell from to) h n) _ refl refl (looks_at h c) o handed
        (looks_differ h c (looked v (Cas cell from to) h n) (Left false) (refl, refl, refl, refl) (refl, refl, refl) (t.holds ∙ lawful.1) (λ x y. absurd (cc)) (length-append v.steps _) c.high)

    taken : n ≡ from → (h : Log) → IsOver (suc e.words) (took v (Cas cell from to) h from) → Sees v from h → IsHanded e (Left true) → IsMid s (took v (Cas cell from to) h from) (Left true) new
    taken hit h o c handed =
        let seen : Sees v n h = subst (λ (x : ℕ). Sees v x h) (sym hit) c in
        made (took v (Cas cell from to) h from) _ refl refl (looks_at h seen) o handed
        (looks_differ h seen (took v (Cas cell from to) h from) (Left true) (sym hit, refl, refl, refl) (refl, refl, refl) refl (λ x y. record { laid = refl; got = tt }) (length-append v.steps _) c.high)

    by_exchange : (w : View) → IsOver (suc e.words) w → StepTells v (Cas cell from to) n w → (b : Bool) → (n == from) ≡ b → IsHanded e (Left b) → IsMid s w (Left b) new
    by_exchange w o u true hit handed =
        let same : n ≡ from = eqb-true n from hit in
        let took_it = u.0 same in
        subst (λ (x : View). IsMid s x (Left true) new) (sym took_it.0) (taken same w.seen (subst (IsOver (suc e.words)) took_it.0 o) took_it.1 handed)
    by_exchange w o u false miss handed =
        let away : n ≢ from = λ same. both (n == from) (eq-eqb n from same) miss in
        let looked_at = u.1 away in
        subst (λ (x : View). IsMid s x (Left false) new) (sym looked_at.0) (missed w.seen (subst (IsOver (suc e.words)) looked_at.0 o) looked_at.1 handed)

  -- ## A word is loaded

  module _ (word : ℕ) (lawful : IsLawful e (Load (suc word))) (is : step ≡ Load (suc word)) where
    same_seen : Seen v.seen v.looks
    same_seen = looks_not s v e step i n new joins settled
        (λ x. (let y : Load (suc word) ≡ Load 0 = sym is ∙ x in absurd (cc)))
        (λ f g x. (let y : Load (suc word) ≡ Cas 0 f g = sym is ∙ x in absurd (cc))) v.seen (starts_self v.seen)

    is_open : in_transaction e ≡ true
    is_open = lawful.1.0

    by_reader : IsOver (suc e.words) (read v (Load (suc word)) word n) → e.holds ≡ false → IsHanded e (word_loaded e false word n) → IsMid s (read v (Load (suc word)) word n) (word_loaded e false word n) new
    by_reader o free handed =
        let w : View = read v (Load (suc word)) word n in
        let inside = lawful.0 in
        let fresh : IsFresh w (word_loaded e false word n) = λ m l st. (let r = stand_less m v.fresh word n st in agrees_more m e.fresh _ (t.fresh m l r.0) (get_of m word n (omega arith) r.1, tt)) in
        made w _ refl refl same_seen o handed
        (still_differs w (word_loaded e false word n) is_open (refl, refl, refl, refl, refl, refl) (refl, refl, refl) fresh (λ y z. absurd (both e.holds y free)) (length-append v.steps _))

    by_holder : IsOver (suc e.words) (noted v (Load (suc word)) n) → e.holds ≡ true → slice_get (held_words v) word ≡ Some n → IsHanded e (word_loaded e true word n) → IsMid s (noted v (Load (suc word)) n) (word_loaded e true word n) new
    by_holder o holds there handed =
        let w : View = noted v (Load (suc word)) n in
        let got : e.irrevocable ≡ false → Got (word_loaded e true word n).got (slice_get (held_words v) (write_at e.writes e.done).word) = λ z. got_now (got_in e.stage n) (got_or e.stage n) (ap (slice_get (held_words v)) (sym (lawful.1.1 holds z).1) ∙ there) in
        made w _ refl refl same_seen o handed
        (still_differs w (word_loaded e true word n) is_open (refl, refl, refl, refl, refl, refl) (refl, refl, refl) t.fresh (λ y z. (record { laid = (t.holding holds z).laid; got = got z }, i.taken holds z)) (length-append v.steps _))

    by_word : (w : View) → IsOver (suc e.words) w → Loaded v (Load (suc word)) word n w → (b : Bool) → e.holds ≡ b → IsHanded e (word_loaded e b word n) → IsMid s w (word_loaded e b word n) new
    by_word w o u false free handed =
        let is_read : w ≡ read v (Load (suc word)) word n = u.0 (t.holds ∙ free) in
        subst (λ (y : View). IsMid s y (word_loaded e false word n) new) (sym is_read) (by_reader (subst (IsOver (suc e.words)) is_read o) free handed)
    by_word w o u true holds handed =
        let told = u.1 (t.holds ∙ holds) in
        let inside = lawful.0 in
        let long : length (held_words v) ≡ e.words = (held_memory e.words v t.over).0 in
        let there : slice_get (held_words v) word ≡ Some n = get_of (held_words v) word n (omega arith) (sym told.1) in
        subst (λ (y : View). IsMid s y (word_loaded e true word n) new) (sym told.0) (by_holder (subst (IsOver (suc e.words)) told.0 o) holds there handed)

  -- ## The holder stores

  module _ (word value : ℕ) (lawful : IsLawful e (Store (suc word) value)) (is : step ≡ Store (suc word) value) where
    still_seen : Seen v.seen v.looks
    still_seen = looks_not s v e step i n new joins settled
        (λ x. (let y : Store (suc word) value ≡ Load 0 = sym is ∙ x in absurd (cc)))
        (λ f g x. (let y : Store (suc word) value ≡ Cas 0 f g = sym is ∙ x in absurd (cc))) v.seen (starts_self v.seen)

    abbrev mid : Core
    mid = handed_to e (Some (Store (suc word) value)) n

    laid_more : (b : Bool) → e.irrevocable ≡ b → e.irrevocable ≡ false → held_words (wrote v (Store (suc word) value) word value) ≡ backed mid (after v.base v.seen)
    laid_more true i revocable = absurd (both e.irrevocable i revocable)
    laid_more false i revocable =
        let h = t.holding lawful.1 revocable in
        let m : List ℕ = after v.base v.seen in
        let fits : IsMemory e.words m = whole_memory e.words v t.over in
        let stores = lawful.2 revocable in
        let got : Got e.got (slice_get (held_words v) word) = subst (λ (p : ℕ). Got e.got (slice_get (held_words v) p)) (sym stores.word_is) h.got in
        let got' : Got e.got (slice_get (backed e m) word) = subst (λ (l : List ℕ). Got e.got (slice_get l word)) h.laid got in
        let done : (if e.irrevocable then e.done else e.done + 1) ≡ e.done + 1 = ap (λ (x : Bool). if x then e.done else e.done + 1) i in
        stored_snoc m v.done (word, value) ∙ (ap (λ (l : List ℕ). set l word value) h.laid ∙ (sym (stores.value_is m fits got') ∙ ap (λ (d : ℕ). overlay m (take d e.writes)) (sym done)))

    by_store : (w : View) → IsOver (suc e.words) w → w ≡ wrote v (Store (suc word) value) word value → IsMid s w mid new
    by_store w o is_wrote =
        let x : View = wrote v (Store (suc word) value) word value in
        subst (λ (y : View). IsMid s y mid new) (sym is_wrote)
        (made x mid refl refl still_seen (subst (IsOver (suc e.words)) is_wrote o) (handed_is e (Store (suc word) value) n)
        (still_differs x mid (t.settled.holder lawful.1).0 (refl, refl, refl, refl, refl, refl) (refl, refl, refl) t.fresh (λ y z. (record { laid = laid_more e.irrevocable refl z; got = tt }, i.taken lawful.1 z)) (length-append v.steps _)))

  -- ## The holder frees the clock

  module _ (value : ℕ) (lawful : IsLawful e (Store 0 value)) (is : step ≡ Store 0 value) where
    is_load : step ≡ Load 0 → ⊥
    is_load x = let y : Store 0 value ≡ Load 0 = sym is ∙ x in absurd (cc)

    freed_seen : Seen (v.seen ++ v.done ∷ []) v.looks
    freed_seen = looks_not s v e step i n new joins settled is_load
        (λ f g x. (let y : Store 0 value ≡ Cas 0 f g = sym is ∙ x in absurd (cc))) (v.seen ++ v.done ∷ []) (v.done ∷ [], refl)

    by_free : (w : View) → IsOver (suc e.words) w → w ≡ freed v (Store 0 value) value → v.high ≤ value → IsMid s w (handed_to e (Some (Store 0 value)) n) new
    by_free w o is_freed late =
        let x : View = freed v (Store 0 value) value in
        let mid : Core = handed_to e (Some (Store 0 value)) n in
        let is_open : in_transaction e ≡ true = (t.settled.holder lawful.1).0 in
        let snap : new.snapshot ≡ e.snapshot = snapshot_same e new n joins t.settled (λ y. is_load (let z : Some step ≡ Some (Load 0) = sym i.waits ∙ y in cc)) is_open in
        let value_is = lawful.2.0 in
        let reached = (t.settled.holder lawful.1).1 in
        let even = t.settled.even in
        let count = (t.clocks is_open).count in
        let clock = (t.clocks is_open).clock in
        let half : v.clock / 2 ≡ new.snapshot / 2 = omega arith in
        let long : length (v.seen ++ v.done ∷ []) ≡ value / 2 = omega (arith, length-append v.seen (v.done ∷ [])) in
        let there : IsMid s x mid new = made x mid refl refl freed_seen (subst (IsOver (suc e.words)) is_freed o) (handed_is e (Store 0 value) n) (record {
          stepped = length-append v.steps _;
          high = late;
          opened = λ y z. record { clock = refl; count = long };
          behind = (let r : value ≤ value = omega arith in r);
          known = (let r : value / 2 ≤ length (v.seen ++ v.done ∷ []) = omega arith in r);
          rises = (let r : e.clock ≤ value = omega arith in r);
          holds = refl;
          fresh = λ m l st. tt;
          clocks = λ y. record { clock = refl; count = long };
          holding = λ y z. absurd (cc);
          freed = λ y. record {
            past = v.seen;
            last = v.done;
            seen_is = refl;
            count = (let r : length v.seen ≡ new.snapshot / 2 = omega arith in r);
            laid = λ z. (t.holding lawful.1 z).laid;
            mine = λ j. i.mine j ++ half j ∷ [];
            done = refl;
            clock = (let r : value ≡ new.snapshot + 2 = omega arith in r);
            few = (let most = (t.settled.holder lawful.1).2 in let same = i.kept.max_commits in let r : new.snapshot / 2 < s.engine.max_commits = omega arith in r);
          };
          mine = λ y. absurd (cc);
          looked = λ y. absurd (cc);
          taken = λ y z. absurd (cc);
        }) in
        subst (λ (y : View). IsMid s y mid new) (sym is_freed) there

-- any step
module _ (s : Start) (v : View) (e : Core) (n : ℕ) (new : Core) (joins : Joins e n new) (settled : IsSettled new) (asks : new.waits ≡ asked new) (w : View) (o : IsOver (suc e.words) w) where
  pub hands : (step : Step) → InCall s v e step → StepTells v step n w → IsMid s w (handed_to e (Some step) n) new
  hands (Load zero) i u =
      let at_clock = u.0 refl in
      let free : e.holds ≡ false = i.lawful.1 in
      subst (λ (x : View). IsMid s x (handed_to e (Some (Load 0)) n) new) (sym at_clock.0) (by_look s v e (Load 0) i n new joins settled asks w.seen (subst (IsOver (suc e.words)) at_clock.0 o) at_clock.1 free)
  hands (Load (suc word)) i u = by_word s v e (Load (suc word)) i n new joins settled asks word i.lawful refl w o (u.1 word (let x : suc word ≡ word + 1 = omega arith in x)) e.holds refl (handed_is e (Load (suc word)) n)
  hands (Store zero value) i u = by_free s v e (Store 0 value) i n new joins settled asks value i.lawful refl w o (u.0 refl).0 (u.0 refl).1
  hands (Store (suc word) value) i u = by_store s v e (Store (suc word) value) i n new joins settled asks word value i.lawful refl w o (u.1 word (let x : suc word ≡ word + 1 = omega arith in x))
  hands (Cas cell from to) i u = by_exchange s v e (Cas cell from to) i n new joins settled asks cell from to i.lawful refl w o u (n == from) refl (handed_is e (Cas cell from to) n)

  -- a closed engine waits for the clock alone
  pub closed_look : (step : Step) → InCall s v e step → in_transaction e ≡ false → StepTells v step n w → (w.clock ≡ (handed_to e (Some step) n).clock) × (s.view.looks < w.looks)
  closed_look (Load zero) i c u =
      let is = (u.0 refl).0 in
      let looks : w.looks ≡ v.looks + 1 = ap (λ (x : View). x.looks) is in
      let went = i.went.looks in
      (ap (λ (x : View). x.clock) is, omega arith)
  closed_look (Load (suc word)) i c u = absurd (both (in_transaction e) i.lawful.1.0 c)
  closed_look (Store cell value) i c u = absurd (both (in_transaction e) (i.tied.settled.holder i.lawful.1).0 c)
  closed_look (Cas cell from to) i c u = (let x = exchanged v w n cell from to u in let looks = x.looks in let went = i.went.looks in (x.clock, omega arith))

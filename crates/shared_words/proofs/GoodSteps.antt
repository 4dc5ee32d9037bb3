-- Each kind of step keeps what is true of the cells and the views.
use Rattle.std.proofs.Common.{◌≡◌, ℕ, eqb, suc, ◌+◌, ◌*◌, ◌/◌, ◌%◌, ◌^◌, ◌<◌, ◌≤◌, ◌≢◌, Bool, true, false, cond, List, [], ◌∷◌, ◌++◌, length, get_or, set, sym, refl, ap, ◌∙◌, subst, ⊎_elim, arith, le_refl, append-nil, length-append, eq-eqb, ne_eqb}
use Rattle.shared_words.proofs.Common.{AllMet, CanTake, Fits, Good, Looked, Sees, Stand, StartsWith, Step, StoresFit, Took, View, after, clock_of, dite, freed, get_elem?, held_words, holders, looked, noted, placed, read, shares, some, stored, sum_by_push, times, took, wrote, ℕ_discrete, Met}
use Rattle.shared_words.proofs.MetWords.{Log, all_grows, grows_store, grows_commit, met_now}
use Rattle.shared_words.proofs.ListPlaces.{at_set, weigh_set, weigh_le, weigh_two, starts_self, starts_longer, starts_le, starts_trans}
use Rattle.shared_words.proofs.StoredWords.{stored_snoc, after_snoc, stand_snoc}
use Rattle.itm_types.proofs.Elements.{all_append}

abbrev pub hold : View → ℕ
hold v = cond v.holds 1 0

abbrev pub share_of : View → ℕ
share_of v = v.share

abbrev pub at_place : ℕ → View → ℕ
at_place p v = times p v.mine

pub each_set : (F : View → Type 0) (views : List View) (id : ℕ) (w : View) → F w → ((j : ℕ) (u : View) → j ≢ id → get_elem? views j ≡ some u → F u) → (j : ℕ) (u : View) → get_elem? (set views id w) j ≡ some u → F u
each_set F views id w here others j u e = ⊎_elim (λ (t : (j ≡ id) × (w ≡ u)). subst F t.1 here) (λ (t : (j ≢ id) × (get_elem? views j ≡ some u)). others j u t.0 t.1) (at_set views id j w u e)

times_snoc : (p : ℕ) (ps : List ℕ) (q : ℕ) → times p (ps ++ q ∷ []) ≡ times p ps + cond {A = ℕ} (eqb q p) 1 0
times_snoc p ps q = sum_by_push (λ (x : ℕ). cond {A = ℕ} (eqb x p) 1 0) ps q

tick_past : (n p : ℕ) → n < p → cond {A = ℕ} (eqb n p) 1 0 ≡ 0
tick_past n p l = ap (λ (b : Bool). cond {A = ℕ} b 1 0) (ne_eqb n p (λ is. omega arith))

module _ (cells : List ℕ) (views : List View) (g : Good cells views) where
  abbrev clock : ℕ
  clock = clock_of g.log views

  found : get_or cells 0 0 ≡ clock
  found = ap (λ (l : List ℕ). get_or l 0 0) g.cells_are

  -- the same commits, with other views and other stores of the holder
  pub seen_by : (cells' : List ℕ) (pending : List (ℕ × ℕ)) (vs : List View) (n : ℕ) → cells' ≡ n ∷ stored (after g.base g.log) pending → n ≡ clock_of g.log vs → holders vs ≤ 1 → (holders vs ≡ 0 → pending ≡ []) → StoresFit pending
      → shares vs ≡ shares views → ((p : ℕ) → placed p vs ≡ placed p views) → ((j : ℕ) (u : View) → get_elem? vs j ≡ some u → Fits g.base g.log pending n u) → Good cells' vs
  seen_by cells' pending vs n are c one settled fits sh pl each = record {
    base = g.base;
    log = g.log;
    pending = pending;
    cells_are = are ∙ ap (λ (k : ℕ). k ∷ stored (after g.base g.log) pending) c;
    one = one;
    settled = settled;
    each = subst (λ (k : ℕ). (j : ℕ) (u : View) → get_elem? vs j ≡ some u → Fits g.base g.log pending k u) c each;
    placed_once = λ p l. pl p ∙ g.placed_once p l;
    placed_none = λ p l. pl p ∙ g.placed_none p l;
    whole = sh ∙ g.whole;
    base_fits = g.base_fits;
    log_fits = g.log_fits;
    pending_fits = fits;
  }

  -- and with the cells as they are, and as many holders
  pub recounted : (vs : List View) → holders vs ≡ holders views → shares vs ≡ shares views → ((p : ℕ) → placed p vs ≡ placed p views) → ((j : ℕ) (u : View) → get_elem? vs j ≡ some u → Fits g.base g.log g.pending clock u) → Good cells vs
  recounted vs same sh pl each = let one = g.one in seen_by cells g.pending vs clock g.cells_are (ap (λ (n : ℕ). 2 * length g.log + n) (sym same)) (omega arith) (λ z. g.settled (sym same ∙ z)) g.pending_fits sh pl each

  -- one view changes, and keeps its share and its positions
  alike : (id : ℕ) (v w : View) → get_elem? views id ≡ some v → w.mine ≡ v.mine → w.share ≡ v.share → (shares (set views id w) ≡ shares views) × ((p : ℕ) → placed p (set views id w) ≡ placed p views)
  alike id v w at em es =
      let s : shares (set views id w) + v.share ≡ shares views + w.share = weigh_set share_of views id v w at in
      (omega arith, λ p. (let e : times p w.mine ≡ times p v.mine = ap (times p) em in let q : placed p (set views id w) + times p v.mine ≡ placed p views + times p w.mine = weigh_set (at_place p) views id v w at in omega arith))

  -- a step that changes no cell, and keeps what is counted over all views
  quiet : (id : ℕ) (v w : View) → get_elem? views id ≡ some v → w.holds ≡ v.holds → w.mine ≡ v.mine → w.share ≡ v.share → Fits g.base g.log g.pending clock w → Good cells (set views id w)
  quiet id v w at eh em es fits =
      let hh : hold w ≡ hold v = ap (λ (b : Bool). cond b 1 0) eh in
      let h : holders (set views id w) + hold v ≡ holders views + hold w = weigh_set hold views id v w at in
      let t = alike id v w at em es in
      recounted (set views id w) (omega arith) t.0 t.1 (each_set (Fits g.base g.log g.pending clock) views id w fits (λ j u _ e. g.each j u e))

  module _ (id : ℕ) (v : View) (at : get_elem? views id ≡ some v) where
    abbrev mine_fits : Fits g.base g.log g.pending clock v
    mine_fits = g.each id v at

    sees : 0 < v.share → Sees v (get_or cells 0 0) g.log
    sees alive = let one = g.one in let f = found in record {
      grows = mine_fits.begins;
      counts = omega arith;
      late = (let l = mine_fits.late in omega arith);
      high = (let l = mine_fits.high in omega arith);
      fit = g.log_fits;
      stands = λ even same. subst (λ (b : List ℕ). Stand (after b g.log) v.fresh) (sym (mine_fits.base_is alive)) (mine_fits.stands (same ∙ found) (ap (λ (n : ℕ). n % 2) (sym found) ∙ even));
    }

    told_now : StartsWith g.log v.shorter
    told_now = starts_trans g.log v.seen v.shorter mine_fits.begins mine_fits.shorter

    places : (p : ℕ) → 0 < times p v.mine → p < length g.log
    places p l = let a : p < length v.seen = mine_fits.positions p l in let b : length v.seen ≤ length g.log = starts_le g.log v.seen mine_fits.begins in omega arith

    -- the clock is loaded
    pub looks : (st : Step) → 0 < v.share → v.holds ≡ false → (w : View) × Good cells (set views id w) × Looked v st (get_or cells 0 0) w
    looks st alive free = let one = g.one in let f = found in let w : View = looked v st g.log (get_or cells 0 0) in (
      w,
      quiet id v w at refl refl refl record {
        base_is = mine_fits.base_is;
        begins = starts_self g.log;
        shorter = told_now;
        late = omega arith;
        high = omega arith;
        long = omega arith;
        stands = λ _ _. tt;
        positions = places;
        holding = λ h. absurd (cc);
        met = mine_fits.met;
        spent = mine_fits.spent;
      },
      (refl, sees alive),
    )

    -- a word is loaded by a seat that does not hold
    pub loads : (st : Step) (k : ℕ) → v.holds ≡ false → Good cells (set views id (read v st k (get_or cells (suc k) 0)))
    loads st k free =
        let n : ℕ = get_or cells (suc k) 0 in
        let is : n ≡ get_or (stored (after g.base g.log) g.pending) k 0 = ap (λ (l : List ℕ). get_or l (suc k) 0) g.cells_are in
        let stands : v.clock ≡ clock → clock % 2 ≡ 0 → Stand (after g.base g.log) (v.fresh ++ (k, n) ∷ []) = λ same even. (let one = g.one in let none : holders views ≡ 0 = omega arith in
        let is' : n ≡ get_or (after g.base g.log) k 0 = is ∙ ap (λ (p : List (ℕ × ℕ)). get_or (stored (after g.base g.log) p) k 0) (g.settled none) in
        stand_snoc (after g.base g.log) v.fresh k n (mine_fits.stands same even) is') in
        let met = all_append (Met g.base (g.log ++ g.pending ∷ [])) v.met ((k, n, length v.seen) ∷ []) mine_fits.met (met_now g.base g.log g.pending k n (length v.seen) (starts_le g.log v.seen mine_fits.begins) is, tt) in
        quiet id v (read v st k n) at refl refl refl (assumption (stands, met, mine_fits))

    -- a word is loaded by the holder, which learns nothing new
    pub counts : (st : Step) (n : ℕ) → Good cells (set views id (noted v st n))
    counts st n = quiet id v (noted v st n) at refl refl refl (assumption mine_fits)

    pub held_word : (k : ℕ) → 0 < v.share → v.holds ≡ true → get_or cells (suc k) 0 ≡ get_or (held_words v) k 0
    held_word k alive h =
        let f = mine_fits.holding h in
        let b : v.base ≡ g.base = mine_fits.base_is alive in
        let e : held_words v ≡ stored (after g.base g.log) g.pending = λ i. stored (after (b i) (f.0 i)) (f.1 i) in
        ap (λ (l : List ℕ). get_or l (suc k) 0) g.cells_are ∙ sym (ap (λ (l : List ℕ). get_or l k 0) e)

    others_idle : v.holds ≡ true → (j : ℕ) (u : View) → j ≢ id → get_elem? views j ≡ some u → u.holds ≡ true → ⊥
    others_idle h j u other e it =
        let one = g.one in
        let me : hold v ≡ 1 = ap (λ (b : Bool). cond b 1 0) h in
        let two : hold v + hold u ≤ holders views = weigh_two hold views id j v u (λ s. other (sym s)) at e in
        let too : hold u ≡ 1 = ap (λ (b : Bool). cond b 1 0) it in
        omega arith

    -- the clock is taken at s
    pub takes : (st : Step) (s : ℕ) → 0 < v.share → CanTake v s → get_or cells 0 0 ≡ s → (w : View) × Good (set cells 0 (s + 1)) (set views id w) × Took v st s w
    takes st s alive can is =
        let one = g.one in
        let even = can.1 in
        let now : s ≡ clock = sym is ∙ found in
        let none : holders views ≡ 0 = omega arith in
        let w : View = took v st g.log s in
        let free : hold v ≡ 0 = ap (λ (b : Bool). cond b 1 0) can.0 in
        let h : holders (set views id w) + hold v ≡ holders views + 1 = weigh_set hold views id v w at in
        let t = alike id v w at refl refl in (
          w,
          seen_by (set cells 0 (s + 1)) [] (set views id w) (s + 1)
              (ap (λ (l : List ℕ). set l 0 (s + 1)) g.cells_are ∙ ap (λ (p : List (ℕ × ℕ)). (s + 1) ∷ stored (after g.base g.log) p) (g.settled none))
              (omega arith) (omega arith) (λ z. refl) tt t.0 t.1
              (each_set (Fits g.base g.log [] (s + 1)) views id w
              record {
                base_is = mine_fits.base_is;
                begins = starts_self g.log;
                shorter = told_now;
                late = omega arith;
                high = omega arith;
                long = omega arith;
                stands = λ _ _. tt;
                positions = places;
                holding = λ _. (refl, refl, omega arith);
                met = subst (λ (p : List (ℕ × ℕ)). AllMet g.base (g.log ++ p ∷ []) v.met) (g.settled none) mine_fits.met;
                spent = λ z. absurd (omega arith);
              }
              (λ j u other e.
              (let f = g.each j u e in let late = f.late in let high = f.high in
              let bounds : (u.clock ≤ s + 1) × (u.high ≤ s + 1) = (omega arith, omega arith) in
              let stands : u.clock ≡ s + 1 → (s + 1) % 2 ≡ 0 → Stand (after g.base g.log) u.fresh = λ same ev. absurd (omega arith) in
              let holding : u.holds ≡ true → (u.seen ≡ g.log) × (u.done ≡ []) × (u.clock ≡ 2 * length g.log) = λ hu. absurd (let me : hold u ≡ 1 = ap (λ (b : Bool). cond b 1 0) hu in let le : hold u ≤ holders views = weigh_le hold views j u e in omega arith) in
              let met = subst (λ (p : List (ℕ × ℕ)). AllMet g.base (g.log ++ p ∷ []) u.met) (g.settled none) f.met in
              assumption (bounds, stands, holding, met, f)))),
          (refl, subst (λ (n : ℕ). Sees v n g.log) is (sees alive)),
        )

    -- the holder stores a word
    pub writes : (st : Step) (k x : ℕ) → v.holds ≡ true → x < 2 ^ 64 → Good (set cells (suc k) x) (set views id (wrote v st k x))
    writes st k x h small =
        let w : View = wrote v st k x in
        let f = mine_fits.holding h in
        let hh : holders (set views id w) + hold v ≡ holders views + hold v = weigh_set hold views id v w at in
        let same : holders (set views id w) ≡ holders views = omega arith in
        let t = alike id v w at refl refl in
        let one = g.one in
        let me : hold v ≡ 1 = ap (λ (b : Bool). cond b 1 0) h in
        let le : hold v ≤ holders views = weigh_le hold views id v at in
        let more : List (ℕ × ℕ) = g.pending ++ (k, x) ∷ [] in
        let met : (u : View) → AllMet g.base (g.log ++ g.pending ∷ []) u.met → AllMet g.base (g.log ++ more ∷ []) u.met = λ u. all_grows g.base (g.log ++ g.pending ∷ []) (g.log ++ more ∷ []) u.met (grows_store g.log g.pending ((k, x) ∷ [])) in
        let holding : v.holds ≡ true → (v.seen ≡ g.log) × (v.done ++ (k, x) ∷ [] ≡ more) × (v.clock ≡ 2 * length g.log) = λ _. (f.0, ap (λ (l : List (ℕ × ℕ)). l ++ (k, x) ∷ []) f.1, f.2) in
        seen_by (set cells (suc k) x) more (set views id w) clock
        (ap (λ (l : List ℕ). set l (suc k) x) g.cells_are ∙ ap (λ (l : List ℕ). clock ∷ l) (sym (stored_snoc (after g.base g.log) g.pending (k, x))))
        (ap (λ (n : ℕ). 2 * length g.log + n) (sym same)) (omega arith) (λ z. absurd (omega arith)) (all_append _ g.pending ((k, x) ∷ []) g.pending_fits (small, tt)) t.0 t.1
        (each_set (Fits g.base g.log more clock) views id w (assumption (holding, met v mine_fits.met, mine_fits))
        (λ j u other e.
        (let o = g.each j u e in
        let idle : u.holds ≡ true → (u.seen ≡ g.log) × (u.done ≡ more) × (u.clock ≡ 2 * length g.log) = λ hu. absurd (others_idle h j u other e hu) in
        assumption (idle, met u o.met, o))))

    -- it has seen no clock past its own
    pub frees_later : v.holds ≡ true → v.high ≤ v.clock + 2
    frees_later h = let at_clock = (mine_fits.holding h).2 in let one = g.one in let high = mine_fits.high in omega arith

    -- the holder frees the clock, and its stores become the next commit
    pub frees : (st : Step) → v.holds ≡ true → Good (set cells 0 (v.clock + 2)) (set views id (freed v st (v.clock + 2)))
    frees st h =
        let w : View = freed v st (v.clock + 2) in
        let f = mine_fits.holding h in
        let at_clock : v.clock ≡ 2 * length g.log = f.2 in
        let one = g.one in
        let whole = g.whole in
        let me : hold v ≡ 1 = ap (λ (b : Bool). cond b 1 0) h in
        let le : hold v ≤ holders views = weigh_le hold views id v at in
        let hh : holders (set views id w) + hold v ≡ holders views + 0 = weigh_set hold views id v w at in
        let none : holders (set views id w) ≡ 0 = omega arith in
        let log' : Log = g.log ++ g.pending ∷ [] in
        let len : length log' ≡ length g.log + 1 = length-append g.log (g.pending ∷ []) in
        let c : v.clock + 2 ≡ clock_of log' (set views id w) = omega arith in
        let sh : shares (set views id w) + v.share ≡ shares views + v.share = weigh_set share_of views id v w at in
        let half : v.clock / 2 ≡ length g.log = omega arith in
        let new : w.seen ≡ log' = λ i. f.0 i ++ f.1 i ∷ [] in
        let lens : length w.seen ≡ length g.log + 1 = ap length new ∙ len in
        let lenv : length v.seen ≡ length g.log = ap length f.0 in
        let pl : (p : ℕ) → placed p (set views id w) ≡ placed p views + cond {A = ℕ} (eqb (length g.log) p) 1 0 = λ p.
        (let q : placed p (set views id w) + times p v.mine ≡ placed p views + times p w.mine = weigh_set (at_place p) views id v w at in
        let t : times p w.mine ≡ times p v.mine + cond {A = ℕ} (eqb (length g.log) p) 1 0 = times_snoc p v.mine (v.clock / 2) ∙ ap (λ (n : ℕ). times p v.mine + cond {A = ℕ} (eqb n p) 1 0) half in omega arith) in
        record {
          base = g.base;
          log = log';
          pending = [];
          cells_are = ap (λ (l : List ℕ). set l 0 (v.clock + 2)) g.cells_are ∙ (ap (λ (l : List ℕ). (v.clock + 2) ∷ l) (sym (after_snoc g.base g.log g.pending)) ∙ ap (λ (n : ℕ). n ∷ after g.base log') c);
          one = omega arith;
          settled = λ z. refl;
          each = subst (λ (n : ℕ). (j : ℕ) (u : View) → get_elem? (set views id w) j ≡ some u → Fits g.base log' [] n u) c
              (each_set (Fits g.base log' [] (v.clock + 2)) views id w
              record {
                base_is = mine_fits.base_is;
                begins = ([], sym new ∙ sym (append-nil w.seen));
                shorter = starts_longer v.seen v.shorter (v.done ∷ []) mine_fits.shorter;
                late = le_refl (v.clock + 2);
                high = le_refl (v.clock + 2);
                long = omega arith;
                stands = λ _ _. tt;
                positions = λ p l. dite (ℕ_discrete (length g.log) p) (λ (is : length g.log ≡ p). (let r : p < length w.seen = omega arith in r))
                    (λ (n : length g.log ≢ p). (let z : cond {A = ℕ} (eqb (length g.log) p) 1 0 ≡ 0 = ap (λ (b : Bool). cond b 1 0) (ne_eqb (length g.log) p n) in
                    let t : times p w.mine ≡ times p v.mine + cond {A = ℕ} (eqb (length g.log) p) 1 0 = times_snoc p v.mine (v.clock / 2) ∙ ap (λ (n : ℕ). times p v.mine + cond {A = ℕ} (eqb n p) 1 0) half in
                    let r : p < length v.seen = mine_fits.positions p (omega arith) in let r' : p < length w.seen = omega arith in r'));
                holding = λ no. absurd (cc);
                met = all_grows g.base log' (log' ++ [] ∷ []) v.met (grows_commit log' []) mine_fits.met;
                spent = λ z. absurd (let no : v.holds ≡ false = (mine_fits.spent z).0 in cc);
              }
              (λ j u other e.
              (let o = g.each j u e in let late = o.late in let high = o.high in
              let bounds : (u.clock ≤ v.clock + 2) × (u.high ≤ v.clock + 2) = (omega arith, omega arith) in
              let stands : u.clock ≡ v.clock + 2 → (v.clock + 2) % 2 ≡ 0 → Stand (after g.base log') u.fresh = λ same ev. absurd (omega arith) in
              let holding : u.holds ≡ true → (u.seen ≡ log') × (u.done ≡ []) × (u.clock ≡ 2 * length log') = λ hu. absurd (others_idle h j u other e hu) in
              assumption (bounds, stands, holding, starts_longer g.log u.seen (g.pending ∷ []) o.begins, all_grows g.base log' (log' ++ [] ∷ []) u.met (grows_commit log' []) o.met, o))));
          placed_once = λ p l. dite (ℕ_discrete (length g.log) p)
              (λ (is : length g.log ≡ p). (let z : cond {A = ℕ} (eqb (length g.log) p) 1 0 ≡ 1 = ap (λ (b : Bool). cond b 1 0) (eq-eqb (length g.log) p is) in let q = pl p in let o : placed p views ≡ 0 = g.placed_none p (omega arith) in let r : placed p (set views id w) ≡ 1 = omega arith in r))
              (λ (n : length g.log ≢ p). (let z : cond {A = ℕ} (eqb (length g.log) p) 1 0 ≡ 0 = ap (λ (b : Bool). cond b 1 0) (ne_eqb (length g.log) p n) in let q = pl p in let o : placed p views ≡ 1 = g.placed_once p (omega arith) in let r : placed p (set views id w) ≡ 1 = omega arith in r));
          placed_none = λ p l. (let past : length g.log < p = omega arith in let z : cond {A = ℕ} (eqb (length g.log) p) 1 0 ≡ 0 = tick_past (length g.log) p past in let q = pl p in let o : placed p views ≡ 0 = g.placed_none p (omega arith) in let r : placed p (set views id w) ≡ 0 = omega arith in r);
          whole = omega arith;
          base_fits = g.base_fits;
          log_fits = all_append StoresFit g.log (g.pending ∷ []) g.log_fits (g.pending_fits, tt);
          pending_fits = tt;
        }

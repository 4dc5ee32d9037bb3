-- The first view, a view that is cut in two, two that are joined, and what the only view knows.
use Rattle.std.proofs.Common.{◌≡◌, ℕ, eqb, zero, suc, ◌+◌, ◌-◌, ◌*◌, ◌<◌, ◌≤◌, ◌≢◌, ◌⊎◌, Bool, true, false, cond, List, [], ◌∷◌, ◌++◌, length, set, sym, refl, ap, ◌∙◌, subst, inl, inr, ⊎_elim, arith, ltb, lt_of_not-le}
use Rattle.shared_words.proofs.Common.{AllFit, AllMet, Ends, Fits, Good, Joined, StartsWith, View, after, both, clock_of, cut_left, cut_right, dec_le, dite, get_elem?, held_words, holders, longer, opening, placed, shares, some, some-injective, spent, stored, sum_by-append, sum_by_push, times, ℕ_discrete, Met}
use borrow.Author.Tests.{ltb-true, ltb-false}
use Rattle.itm_types.proofs.Elements.{all_append}
use Rattle.shared_words.proofs.ListPlaces.{at_snoc, set_else, weigh_set, weigh_le, weigh_alone, starts_le, starts_whole, comparable}
use Rattle.shared_words.proofs.GoodSteps.{at_place, each_set, hold, recounted, share_of}

-- a view that has seen nothing fits, whatever share it has
nothing_fits : (base : List ℕ) (log : List (List (ℕ × ℕ))) (pending : List (ℕ × ℕ)) (clock share : ℕ) (m : List ℕ) → (0 < share → m ≡ base) → Fits base log pending clock (record (opening m) { share = share })
nothing_fits base log pending clock share m same = record {
  base_is = same;
  begins = (log, refl);
  shorter = ([], refl);
  late = omega arith;
  high = omega arith;
  long = omega arith;
  stands = λ _ _. tt;
  positions = λ p l. absurd (omega arith);
  holding = λ h. absurd (cc);
  met = tt;
  spent = λ z. (refl, refl);
}

only : (m : List ℕ) (j : ℕ) (u : View) → get_elem? (opening m ∷ []) j ≡ some u → Fits m [] [] 0 u
only m zero u e = subst (λ (x : View). Fits m [] [] 0 x) (some-injective (opening m) u e) (nothing_fits m [] [] 0 128 m (λ _. refl))
only m (suc j) u e = absurd (cc)

pub opens : (m : List ℕ) → AllFit m → Good (0 ∷ m) (opening m ∷ [])
opens m fit = record {
  base = m;
  log = [];
  pending = [];
  cells_are = refl;
  one = omega arith;
  settled = λ _. refl;
  each = only m;
  placed_once = λ p l. absurd (omega arith);
  placed_none = λ p l. refl;
  whole = refl;
  base_fits = fit;
  log_fits = tt;
  pending_fits = tt;
}

idle_weight : (b : Bool) → b ≡ false → cond {A = ℕ} b 1 0 ≡ 0
idle_weight b e = ap (λ (x : Bool). cond {A = ℕ} x 1 0) e

module _ (cells : List ℕ) (views : List View) (g : Good cells views) (id : ℕ) (v : View) (at : get_elem? views id ≡ some v) where
  abbrev clock : ℕ
  clock = clock_of g.log views

  abbrev f : Fits g.base g.log g.pending clock v
  f = g.each id v at

  pub splits : 1 < v.share → Good cells (set views id (cut_left v) ++ cut_right v ∷ [])
  splits room =
      let mid : List View = set views id (cut_left v) in
      let vs : List View = mid ++ cut_right v ∷ [] in
      let h : holders mid + hold v ≡ holders views + hold v = weigh_set hold views id v (cut_left v) at in
      let h' : holders vs ≡ holders mid + 0 = sum_by_push hold mid (cut_right v) in
      let s : shares mid + v.share ≡ shares views + (v.share - 1) = weigh_set share_of views id v (cut_left v) at in
      let s' : shares vs ≡ shares mid + 1 = sum_by_push share_of mid (cut_right v) in
      let pl : (p : ℕ) → placed p vs ≡ placed p views = λ p. (
      let a : placed p mid + times p v.mine ≡ placed p views + times p v.mine = weigh_set (at_place p) views id v (cut_left v) at in
      let b : placed p vs ≡ placed p mid + 0 = sum_by_push (at_place p) mid (cut_right v) in
      omega arith) in
      let whole : v.base ≡ g.base = f.base_is (omega arith) in
      let left_spent : v.share - 1 ≡ 0 → (v.holds ≡ false) × (v.mine ≡ []) = λ z. absurd (omega arith) in
      let left : Fits g.base g.log g.pending clock (cut_left v) = assumption (whole, left_spent, f) in
      let right : Fits g.base g.log g.pending clock (cut_right v) = record {
        base_is = λ l. whole;
        begins = f.begins;
        shorter = (v.seen, refl);
        late = f.late;
        high = f.high;
        long = f.long;
        stands = λ _ _. tt;
        positions = λ p l. absurd (omega arith);
        holding = λ h. absurd (cc);
        met = tt;
        spent = λ z. absurd (omega arith);
      } in
      recounted cells views g vs (omega arith) (omega arith) pl
      (λ j u e. ⊎_elim (λ (t : get_elem? mid j ≡ some u). each_set (Fits g.base g.log g.pending clock) views id (cut_left v) left (λ i x _ q. g.each i x q) j u t)
      (λ (t : cut_right v ≡ u). subst (Fits g.base g.log g.pending clock) t right) (at_snoc mid (cut_right v) u j e))

  -- what may be told of a view at any load
  pub settles : StartsWith v.seen v.shorter × ((p : ℕ) → times p v.mine ≤ 1)
  settles = (
    f.shorter,
    λ p. (let l : times p v.mine ≤ placed p views = weigh_le (at_place p) views id v at in
        dite (dec_le (length g.log) p) (λ (far : length g.log ≤ p). (let z = g.placed_none p far in let r : times p v.mine ≤ 1 = omega arith in r))
        (λ (n : length g.log ≤ p → ⊥). (let near : p < length g.log = lt_of_not-le n in let z = g.placed_once p near in let r : times p v.mine ≤ 1 = omega arith in r))),
  )

  longest : v.share ≡ 128 → (p : ℕ) → placed p views ≡ times p v.mine
  longest all p = weigh_alone share_of (at_place p) views id v (λ j a e z. ap (times p) ((g.each j a e).spent z).1) at (g.whole ∙ sym all)

  seen_all : v.share ≡ 128 → (n : ℕ) → length g.log ≡ n → n ≤ length v.seen
  seen_all all zero e = omega arith
  seen_all all (suc n) e =
      let p : placed n views ≡ 1 = g.placed_once n (omega arith) in
      let q : placed n views ≡ times n v.mine = longest all n in
      let r : n < length v.seen = f.positions n (omega arith) in
      omega arith

  -- what the only view knows of the clock and the words
  pub ends_of : v.share ≡ 128 → v.holds ≡ false → (first : ℕ) (words : List ℕ) → first ∷ words ≡ cells → Ends v first words
  ends_of all idle first words are =
      let none : holders views ≡ 0 = weigh_alone share_of hold views id v (λ j a e z. idle_weight a.holds ((g.each j a e).spent z).0) at (g.whole ∙ sym all) ∙ idle_weight v.holds idle in
      let is : g.log ≡ v.seen = starts_whole g.log v.seen f.begins (seen_all all (length g.log) refl) in
      let b : v.base ≡ g.base = f.base_is (omega arith) in
      let len : length g.log ≡ length v.seen = ap length is in
      let none_left : g.pending ≡ [] = g.settled none in
      let hist : g.log ++ g.pending ∷ [] ≡ v.seen ++ [] ∷ [] = λ i. is i ++ none_left i ∷ [] in
      let both : first ∷ words ≡ clock ∷ after g.base g.log = are ∙ (g.cells_are ∙ ap (λ (p : List (ℕ × ℕ)). clock ∷ stored (after g.base g.log) p) none_left) in
      let at_clock : first ≡ clock = cc in
      let same : words ≡ after g.base g.log = cc in
      let high = f.high in
      record {
        clock_is = omega arith;
        high = omega arith;
        words_are = same ∙ (λ i. after (sym b i) (is i));
        met = subst (λ (l : List ℕ). AllMet l (v.seen ++ [] ∷ []) v.met) (sym b) (subst (λ (l : List (List (ℕ × ℕ))). AllMet g.base l v.met) hist f.met);
        mine = λ p l. sym (longest all p) ∙ g.placed_once p (omega arith);
        no_other = λ p l. sym (longest all p) ∙ g.placed_none p (omega arith);
      }

  module _ (other : ℕ) (u : View) (apart : other ≢ id) (there : get_elem? views other ≡ some u) where
    abbrev f' : Fits g.base g.log g.pending clock u
    f' = g.each other u there

    abbrev Between : Bool → Type 0
    Between b = StartsWith g.log (longer b v.seen u.seen) × StartsWith (longer b v.seen u.seen) (longer b u.seen v.seen) × (length v.seen ≤ length (longer b v.seen u.seen))
        × (length u.seen ≤ length (longer b v.seen u.seen)) × (v.seen ≡ g.log → longer b v.seen u.seen ≡ g.log)

    between : (b : Bool) → ltb (length v.seen) (length u.seen) ≡ b → Between b
    between true e =
        let less : length v.seen < length u.seen = ltb-true (length v.seen) (length u.seen) e in
        let le : length u.seen ≤ length g.log = starts_le g.log u.seen f'.begins in
        (f'.begins, comparable g.log v.seen u.seen f.begins f'.begins (omega arith), omega arith, omega arith, λ is. absurd (let len : length v.seen ≡ length g.log = ap length is in omega arith))
    between false e =
        let le : length u.seen ≤ length v.seen = ltb-false (length v.seen) (length u.seen) e in
        (f.begins, comparable g.log u.seen v.seen f'.begins f.begins le, omega arith, le, λ is. is)

    pub joins : u.holds ≡ false → 0 < v.share → Good cells (set (set views id (both v u)) other spent)
    joins idle alive =
        let w : View = both v u in
        let mid : List View = set views id w in
        let vs : List View = set mid other spent in
        let there' : get_elem? mid other ≡ some u = set_else views id other w apart ∙ there in
        let t = between (ltb (length v.seen) (length u.seen)) refl in
        let h : holders mid + hold v ≡ holders views + hold v = weigh_set hold views id v w at in
        let h' : holders vs + hold u ≡ holders mid + 0 = weigh_set hold mid other u spent there' in
        let z : hold u ≡ 0 = idle_weight u.holds idle in
        let s : shares mid + v.share ≡ shares views + (v.share + u.share) = weigh_set share_of views id v w at in
        let s' : shares vs + u.share ≡ shares mid + 0 = weigh_set share_of mid other u spent there' in
        let sum : (p : ℕ) → times p w.mine ≡ times p v.mine + times p u.mine = λ p. sum_by-append (λ (q : ℕ). cond {A = ℕ} (eqb q p) 1 0) v.mine u.mine in
        let pl : (p : ℕ) → placed p vs ≡ placed p views = λ p. (
        let a : placed p mid + times p v.mine ≡ placed p views + times p w.mine = weigh_set (at_place p) views id v w at in
        let b : placed p vs + times p u.mine ≡ placed p mid + 0 = weigh_set (at_place p) mid other u spent there' in
        let q = sum p in
        omega arith) in
        let fits : Fits g.base g.log g.pending clock w = record {
          base_is = λ _. f.base_is alive;
          begins = t.0;
          shorter = t.1;
          late = f.late;
          high = (let a = f.high in let b = f'.high in omega arith);
          long = (let l = f.long in let m = t.2 in omega arith);
          stands = f.stands;
          positions = λ p l. (let q = sum p in let a = t.2 in let b = t.3 in dite (ℕ_discrete (times p v.mine) 0)
              (λ (no : times p v.mine ≡ 0). (let x : p < length u.seen = f'.positions p (omega arith) in let r : p < length w.seen = omega arith in r))
              (λ (yes : times p v.mine ≢ 0). (let x : p < length v.seen = f.positions p (omega arith) in let r : p < length w.seen = omega arith in r)));
          met = all_append (Met g.base (g.log ++ g.pending ∷ [])) v.met u.met f.met f'.met;
          holding = λ hv. (let k = f.holding hv in (t.4 k.0, k.1, k.2));
          spent = λ none. absurd (omega arith);
        } in
        recounted cells views g vs (omega arith) (omega arith) pl
        (each_set (Fits g.base g.log g.pending clock) mid other spent (nothing_fits g.base g.log g.pending clock 0 [] (λ l. absurd (omega arith))) (λ j x _ e. each_set (Fits g.base g.log g.pending clock) views id w fits (λ i y _ q. g.each i y q) j x e))

-- what the view knows of them that holds the clock
pub held_of : (cells : List ℕ) (views : List View) → Good cells views → (id : ℕ) (v : View) → get_elem? views id ≡ some v → v.holds ≡ true
    → (clock : ℕ) (words : List ℕ) → clock ∷ words ≡ cells → (clock ≡ 2 * length v.seen + 1) × (words ≡ held_words v) × (v.high ≤ clock)
held_of cells views g id v at holds clock words is =
    let f : Fits g.base g.log g.pending (clock_of g.log views) v = g.each id v at in
    let h = f.holding holds in
    let alive : 0 < v.share = dite (ℕ_discrete v.share 0) (λ (z : v.share ≡ 0). let no = (f.spent z).0 in absurd (cc)) (λ (n : v.share ≢ 0). let r : 0 < v.share = omega arith in r) in
    let base : v.base ≡ g.base = f.base_is alive in
    let le : hold v ≤ holders views = weigh_le hold views id v at in
    let one : hold v ≡ 1 = ap (λ (b : Bool). cond {A = ℕ} b 1 0) holds in
    let most = g.one in
    let long : length v.seen ≡ length g.log = ap length h.0 in
    let seen : v.seen ≡ g.log = h.0 in
    let done : v.done ≡ g.pending = h.1 in
    let all : clock ∷ words ≡ clock_of g.log views ∷ stored (after g.base g.log) g.pending = is ∙ g.cells_are in
    let first : clock ≡ clock_of g.log views = cc in
    let rest : words ≡ stored (after g.base g.log) g.pending = cc in
    let high = f.high in
    (omega arith, (cc), omega arith)

one_of : (v u : View) (b : Bool) → StartsWith (longer b v.seen u.seen) (longer b u.seen v.seen)
    → (StartsWith v.seen u.seen × (longer b v.seen u.seen ≡ v.seen)) ⊎ (StartsWith u.seen v.seen × (longer b v.seen u.seen ≡ u.seen))
one_of v u true s = inr (s, refl)
one_of v u false s = inl (s, refl)

-- what a load after the join tells
pub joined : (v u : View) → StartsWith (both v u).seen (both v u).shorter → ((p : ℕ) → times p (both v u).mine ≤ 1) → Joined v u (both v u)
joined v u s once = record {
  longer = one_of v u (ltb (length v.seen) (length u.seen)) s;
  mine = refl;
  apart = λ p l. (
      let sum : times p (v.mine ++ u.mine) ≡ times p v.mine + times p u.mine = sum_by-append (λ (q : ℕ). cond {A = ℕ} (eqb q p) 1 0) v.mine u.mine in
      let o : times p (v.mine ++ u.mine) ≤ 1 = once p in
      let z : times p u.mine ≡ 0 = omega arith in
      z);
  base = refl;
  clock = refl;
  high = refl;
  fresh = refl;
  met = refl;
  holds = refl;
  done = refl;
  steps = refl;
  looks = refl;
  share = refl;
}

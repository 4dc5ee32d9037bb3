-- What each step owes the table.
use Rattle.std.proofs.Common.{◌≡◌, ℕ, zero, suc, ◌<◌, ◌≤◌, ◌≢◌, ◌^◌, Bool, true, false, List, get_or, set, sym, refl, ap, ◌∙◌, subst, arith, ◌==◌, cond, Some, bit_xor}
use Rattle.shared_words.proofs.Common.{Allows, AreGood, Cas, Good, Held, Joins, Lawful, Load, Loaded, Moves, Splits, Step, StepTells, Store, View, WasFound, both, cells_after, changes, cut_left, cut_right, exchanges, finds, get_elem?, held_words, held_cells, keeps, loads, none, settled, shares, some, spent, step, stores, wrote}
use Rattle.std.{specs.Int.Bits.xor_assoc, specs.Int.Bits.xor_self, specs.Int.Bits.xor_zero_l, proofs.lemmas.Option.get_or_from_slice_get}
use lib.Seq.{set-get_or}
use prog.Atomic.{either}
use Rattle.shared_words.proofs.GoodSteps.{held_word, share_of}
use Rattle.shared_words.proofs.StepViews.{turns}
use Rattle.shared_words.proofs.ListPlaces.{set_again, set_else, weigh_le}
use Rattle.shared_words.proofs.PassViews as ends

same_views : (ws : List ℕ) (vs : List View) (id : ℕ) (v : View) → get_elem? vs id ≡ some v → Good ws vs → Good ws (set vs id v)
same_views ws vs id v at g = subst (Good ws) (sym (set_again vs id v at)) g

same_words : (ws : List ℕ) (i : ℕ) (vs : List View) → Good ws vs → Good (set ws i (get_or ws i 0)) vs
same_words ws i vs g = subst (λ (l : List ℕ). Good l vs) (sym (set-get_or ws i 0)) g

either_set : (ws : List ℕ) (c new : ℕ) (b : Bool) → cond b (set ws c new) ws ≡ set ws c (either b new (get_or ws c 0))
either_set ws c new true = refl
either_set ws c new false = sym (set-get_or ws c 0)

moves : (ws : List ℕ) (vs : List View) (id : ℕ) (v : View) → Good ws vs → get_elem? vs id ≡ some v → (st : Step) → (r : (w : View) × Good (cells_after ws st) (set vs id w) × StepTells v st (finds ws st) w × (w.share ≡ v.share)) → Moves v st (finds ws st) r.0
moves ws vs id v g at st r = record { cells = ws; views = vs; place = id; good = g; here = at; finds_it = refl; good_then = r.1 }

module _ (slots id : ℕ) (me : Held) (alive : 0 < me.0.share) where
  pub allows_load : (c : ℕ) → Lawful me.0 (Load c) → Allows AreGood slots id me c (λ n. n) (loads (step slots c 0 0 none) me)
  allows_load c can s g h at fit = let r = turns s.words s.views g id me.0 at alive (Load c) can tt in
      (r.0, keeps, tt, same_words s.words c (set s.views id r.0) r.1, (r.2, r.3, refl, moves s.words s.views id me.0 g at (Load c) r))

  pub allows_store : (c x : ℕ) → Lawful me.0 (Store c x) → x < 2 ^ 64 → Allows AreGood slots id me c (λ _. x) (λ _. stores (step slots c x 0 none) me x)
  allows_store c x can small s g h at fit = let r = turns s.words s.views g id me.0 at alive (Store c x) can small in
      (r.0, keeps, tt, r.1, (r.2, r.3, refl, moves s.words s.views id me.0 g at (Store c x) r))

  -- the holder changes a word that stands as its own stores have left it
  pub allows_change : (c bits : ℕ) → 0 < c → me.0.holds ≡ true → bit_xor (get_or (held_cells me.0) c 0) bits < 2 ^ 64 → Allows AreGood slots id me c (λ n. bit_xor n bits) (changes (step slots c bits 0 none) me)
  allows_change zero bits word holds small s g h at fit = absurd (omega arith)
  allows_change (suc k) bits word holds small s g h at fit =
      let x : ℕ = bit_xor (get_or (held_words me.0) k 0) bits in
      let r = turns s.words s.views g id me.0 at alive (Store (suc k) x) (holds, λ e. absurd (omega arith)) small in
      (r.0, keeps, tt, subst (λ (n : ℕ). Good (set s.words (suc k) (bit_xor n bits)) (set s.views id r.0)) (sym (held_word s.words s.views g id me.0 at k alive holds)) r.1, (r.2, r.3, refl, moves s.words s.views id me.0 g at (Store (suc k) x) r))

  pub allows_exchange : (c old new : ℕ) → Lawful me.0 (Cas c old new) → Allows AreGood slots id me c (λ n. either (n == old) new n) (exchanges (step slots c old new none) me)
  allows_exchange c old new can s g h at fit = let r = turns s.words s.views g id me.0 at alive (Cas c old new) can tt in
      (r.0, keeps, tt, subst (λ (l : List ℕ). Good l (set s.views id r.0)) (either_set s.words c new (get_or s.words c 0 == old)) r.1, (r.2, r.3, refl, moves s.words s.views id me.0 g at (Cas c old new) r))

module _ (slots id : ℕ) (me : Held) where
  pub allows_settle : Allows AreGood slots id me 0 (λ n. n) (settled (step slots 0 0 0 none) me)
  allows_settle s g h at fit =
      let t = ends.settles s.words s.views g id me.0 at in
      let le : me.0.share ≤ 128 = (let a : me.0.share ≤ shares s.views = weigh_le share_of s.views id me.0 at in let b = g.whole in omega arith) in
      (me.0, keeps, tt, same_words s.words 0 (set s.views id me.0) (same_views s.words s.views id me.0 at g), (refl, t.0, t.1, le))

-- the bits in which two values differ make the one of the other
xor_back : (a b : ℕ) → bit_xor a (bit_xor a b) ≡ b
xor_back a b = sym (xor_assoc a a b) ∙ ap (λ (x : ℕ). bit_xor x b) (xor_self a) ∙ xor_zero_l b

-- so those in which a value differs from what was found of a word make the value of what stands there
pub changed : (v : View) (c n x : ℕ) → 0 < c → WasFound v (Store c x) (Some n) → bit_xor (get_or (held_cells v) c 0) (bit_xor n x) ≡ x
changed v zero n x word told = absurd (omega arith)
changed v (suc k) n x word told = ap (λ (y : ℕ). bit_xor y (bit_xor n x)) (get_or_from_slice_get (held_words v) k n 0 told) ∙ xor_back n x

-- a load of a word changes neither who holds the clock nor the latest clock that was seen
load_one : (v w : View) (st : Step) (k n : ℕ) → Loaded v st k n w → (b : Bool) → v.holds ≡ b → (w.holds ≡ v.holds) × (w.high ≡ v.high)
load_one v w st k n l false e = (let same = l.0 e in (ap (λ (u : View). u.holds) same, ap (λ (u : View). u.high) same))
load_one v w st k n l true e = (let same = (l.1 e).0 in (ap (λ (u : View). u.holds) same, ap (λ (u : View). u.high) same))

pub load_holds : (v w : View) (c n : ℕ) → StepTells v (Load c) n w → w.holds ≡ v.holds
load_holds v w zero n t = ap (λ (u : View). u.holds) (t.0 refl).0
load_holds v w (suc k) n t = (let l : Loaded v (Load (suc k)) k n w = t.1 k (omega arith) in (load_one v w (Load (suc k)) k n l v.holds refl).0)

pub free_holds : (v w : View) (x n : ℕ) → StepTells v (Store 0 x) n w → w.holds ≡ false
free_holds v w x n t = ap (λ (u : View). u.holds) (t.0 refl).0

pub store_holds : (v w : View) (c x n : ℕ) → c ≢ 0 → StepTells v (Store c x) n w → w.holds ≡ v.holds
store_holds v w zero x n away t = absurd (away refl)
store_holds v w (suc k) x n away t = (let e : w ≡ wrote v (Store (suc k) x) k x = t.1 k (omega arith) in ap (λ (u : View). u.holds) e)

-- ## The latest clock

pub load_latest : (v w : View) (c n : ℕ) → c ≡ 0 → StepTells v (Load c) n w → w.high ≡ n
load_latest v w c n is t = ap (λ (u : View). u.high) (t.0 is).0

pub load_high : (v w : View) (c n : ℕ) → c ≢ 0 → StepTells v (Load c) n w → w.high ≡ v.high
load_high v w zero n away t = absurd (away refl)
load_high v w (suc k) n away t = (let l : Loaded v (Load (suc k)) k n w = t.1 k (omega arith) in (load_one v w (Load (suc k)) k n l v.holds refl).1)

pub store_high : (v w : View) (c x n : ℕ) → c ≢ 0 → StepTells v (Store c x) n w → w.high ≡ v.high
store_high v w zero x n away t = absurd (away refl)
store_high v w (suc k) x n away t = (let e : w ≡ wrote v (Store (suc k) x) k x = t.1 k (omega arith) in ap (λ (u : View). u.high) e)

pub splits : (id : ℕ) (v : View) → 1 < v.share → Splits AreGood id v (cut_left v) (cut_right v)
splits id v room s g at = ends.splits s.words s.views g id v at room

pub joins : (id : ℕ) (v : View) (other : ℕ) (u : View) → 0 < v.share → u.holds ≡ false → Joins AreGood id v other u (both v u) spent
joins id v other u alive idle s g at apart there =
    let there' : get_elem? s.views other ≡ some u = sym (set_else s.views id other (both v u) apart) ∙ there in
    ends.joins s.words s.views g id v at other u apart there' idle alive

-- A bound on a journal's length: in each open block no piece has two entries.
use Rattle.std.proofs.Common.{◌≡◌, ℕ, zero, suc, ◌+◌, ◌-◌, ◌*◌, ◌<◌, ◌≤◌, cond, ltb, List, [], ◌∷◌, ◌++◌, length, take, drop, refl, ap, sym, subst, ◌∙◌, arith, length-append, length-drop}
use Rattle.std.{proofs.lemmas.Bool.Decides.nat_tests, proofs.Math.Nat.mul-suc}
use Rattle.itm_model.proofs.Common.{Adds, AreAmong, AreFirst, AreLinked, AreOnce, AreUnder, Mark, Old, drop-append-le, length-take-le, newest_in, piece_of, take-append-le, top_of}
use Rattle.itm_model.proofs.Journals.NewestEntries.{newest_of_it, newest_of_another, linked_take, linked_drop}
use Rattle.itm_types.proofs.Elements.{all_append, all_drop, all_take}

-- ## Blocks

pub under_top : (n h : ℕ) (ms : List Mark) → AreUnder n h ms → AreUnder (top_of ms) h ms
under_top n h [] u = tt
under_top n h (x ∷ ms) u = (omega arith, u.1, u.2)

pub top_under : (n h : ℕ) (ms : List Mark) → AreUnder n h ms → top_of ms ≤ n
top_under n h [] u = omega arith
top_under n h (x ∷ ms) u = u.0

-- first entries come
once_append : (n h : ℕ) (j more : List Old) (ms : List Mark) → n ≤ length j → AreUnder n h ms → AreOnce j ms → AreFirst (top_of ms) more → AreOnce (j ++ more) ms
once_append n h j more [] l u o f = all_append _ j more o f
once_append n h j more (x ∷ ms) l u o f = (
  subst (AreFirst x.at) (sym (drop-append-le x.at j more (omega (arith, l, u.0)))) (all_append _ (drop x.at j) more o.0 f),
  subst (λ (t : List Old). AreOnce t ms) (sym (take-append-le x.at j more (omega (arith, l, u.0)))) o.1,
)

pub once_adds : (n h : ℕ) (j j' : List Old) (ms : List Mark) → n ≤ length j → AreUnder n h ms → AreOnce j ms → Adds (top_of ms) j j' → AreOnce j' ms
once_adds n h j j' ms l u o a = subst (λ (t : List Old). AreOnce t ms) (sym a.1) (once_append n h j a.0 ms l u o a.2)

-- ## How many pieces have an entry after the first so many

abbrev above_at : ℕ → List Old → ℕ → ℕ
above_at top os p = cond (ltb top (newest_in os p)) 1 0

-- among the first n
abbrev above : ℕ → List Old → ℕ → ℕ
above top os zero = 0
above top os (suc n) = above top os n + above_at top os n

above_le : (top : ℕ) (os : List Old) (n : ℕ) → above top os n ≤ n
above_le top os zero = omega arith
above_le top os (suc n) = grind (arith, nat_tests, above_le top os n)

at_another : (top : ℕ) (os : List Old) (o : Old) (p : ℕ) → (piece_of o ≡ p → ⊥) → above_at top (os ++ o ∷ []) p ≡ above_at top os p
at_another top os o p ne = ap (λ (t : ℕ). cond (ltb top t) 1 0) (newest_of_another os o p ne)

above_others : (top : ℕ) (os : List Old) (o : Old) (n : ℕ) → n ≤ piece_of o → above top (os ++ o ∷ []) n ≡ above top os n
above_others top os o zero h = refl
above_others top os o (suc n) h = omega (arith, above_others top os o n (omega (arith, h)), at_another top os o n (λ e. omega (arith, h, e)))

at_it : (top : ℕ) (os : List Old) (o : Old) (p : ℕ) → piece_of o ≡ p → top ≤ length os → newest_in os (piece_of o) ≤ top → above_at top (os ++ o ∷ []) p ≡ suc (above_at top os p)
at_it top os o p e h l = grind (arith, nat_tests, newest_of_it os o p e)

above_push : (top : ℕ) (os : List Old) (o : Old) (n : ℕ) → top ≤ length os → newest_in os (piece_of o) ≤ top → piece_of o < n → above top (os ++ o ∷ []) n ≡ suc (above top os n)
above_push top os o zero h l b = absurd (omega (arith, b))
above_push top os o (suc n) h l b =
    grind (arith, above_others top os o n, at_it top os o n, above_push top os o n h l, at_another top os o n)

-- ## The bound

first_few : (top n : ℕ) (before os : List Old) → top ≤ length before → AreLinked before os → AreFirst top os → AreAmong n os → length os + above top before n ≤ n
first_few top n before [] h w f a = omega (arith, above_le top before n)
first_few top n before (o ∷ os) h w f a =
    let rest : length os + above top (before ++ o ∷ []) n ≤ n = first_few top n (before ++ o ∷ []) os (omega (arith, h, length-append before (o ∷ []))) w.1 f.1 a.1 in
    omega (arith, rest, above_push top before o n h (omega (arith, w.0, f.0)) a.0)

pub few_entries : (n top h : ℕ) (j : List Old) (ms : List Mark) → length j ≡ top → AreUnder top h ms → AreLinked [] j → AreAmong n j → AreOnce j ms → length j ≤ n * (length ms + 1)
few_entries n top h j [] e u w a o = omega (arith, first_few 0 n [] j (omega arith) w o a)
few_entries n top h j (x ∷ ms) e u w a o =
    let l : x.at ≤ length j = omega (arith, u.0, e) in
    let front = take x.at j in
    let at : length front ≡ x.at = length-take-le x.at j l in
    let here : length (drop x.at j) + above x.at front n ≤ n = first_few x.at n front (drop x.at j) (omega (arith, at)) (linked_drop x.at [] j w) o.0 (all_drop _ x.at j a) in
    let rest : length front ≤ n * (length ms + 1) = few_entries n x.at x.logs front ms at u.2 (linked_take x.at [] j w) (all_take _ x.at j a) o.1 in
    let whole : length (drop x.at j) ≡ length j - x.at = length-drop x.at j in
    let more : suc (length ms) + 1 ≡ suc (length ms + 1) = omega arith in
    let product : n * (suc (length ms) + 1) ≡ n * (length ms + 1) + n = ap (λ (k : ℕ). n * k) more ∙ mul-suc n (length ms + 1) in
    omega (arith, l, at, here, rest, whole, product)

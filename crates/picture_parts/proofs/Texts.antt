-- Texts that are written one after another.
use Rattle.std.proofs.Common.{◌≡◌, ℕ, zero, suc, ◌+◌, ◌-◌, ◌<◌, List, [], ◌++◌, length, Option, Result, Ok, Err, refl, sym, ap, subst, ◌∙◌, arith, append-nil, append_assoc, add-one, IsErr}
use Rattle.std.proofs.KnownBytes.{Appends-nil, Appends-trans}
use Rattle.std.proofs.lemmas.List.{length-append}
use Rattle.std.proofs.Math.Seq.{take-append-add}
use Rattle.std.specs.Io.KnownBytes.{Appends}
use Rattle.tx_history.{specs.Spelling.IsCut, specs.Spelling.Puts, proofs.TextPieces.cut_short}
use Rattle.picture_parts.specs.Texts.{first_texts}

module _ (text : ℕ → List ℕ) where
  next_text : (n : ℕ) → first_texts text n ++ text n ≡ first_texts text (n + 1)
  next_text n = subst (λ (m : ℕ). first_texts text n ++ text n ≡ first_texts text m) (sym (add-one n)) refl

  pub more_texts : (a b c : Option (List ℕ)) (n : ℕ) → Appends a b (first_texts text n) → Appends b c (text n) → Appends a c (first_texts text (n + 1))
  more_texts a b c n p q = subst (Appends a c) (next_text n) (Appends-trans a b c _ _ p q)

  -- so many are this one, those before it, and so many behind it
  abbrev with_later : ℕ → ℕ → ℕ
  with_later i zero = suc i
  with_later i (suc d) = suc (with_later i d)

  counted : (i d : ℕ) → with_later i d ≡ i + d + 1
  counted i zero = omega arith
  counted i (suc d) = ap suc (counted i d) ∙ omega arith

  follows_by : (i d : ℕ) → (later : List ℕ) × (first_texts text (with_later i d) ≡ first_texts text i ++ (text i ++ later))
  follows_by i zero = ([], ap (λ (l : List ℕ). first_texts text i ++ l) (sym (append-nil (text i))))
  follows_by i (suc d) =
      let on = follows_by i d in
      let next = text (with_later i d) in (
        on.0 ++ next,
        ap (λ (l : List ℕ). l ++ next) on.1
            ∙ append_assoc (first_texts text i) (text i ++ on.0) next
            ∙ ap (λ (l : List ℕ). first_texts text i ++ l) (append_assoc (text i) on.0 next),
      )

  pub texts_stop : (a b c : Option (List ℕ)) (i n : ℕ) → i < n → Appends a b (first_texts text i) → IsCut b c (text i) → IsCut a c (first_texts text n)
  texts_stop a b c i n h p q =
      let d = n - i - 1 in
      let there : with_later i d ≡ n = counted i d ∙ omega (arith, h) in
      let on = follows_by i d in
      subst (λ (m : ℕ). IsCut a c (first_texts text m)) there (cut_short a b c (first_texts text i) (text i) on.0 (first_texts text (with_later i d)) p q on.1)

-- ## Two of them, or three

-- a write failed
pub puts_cut : {A E : Type 0} (u v : Option (List ℕ)) (r : Result A E) (x : List ℕ) → IsErr r → IsCut u v x → Puts u v r x
puts_cut u v (Ok y) x failed cut = absurd cc
puts_cut u v (Err e) x failed cut = cut

pub puts_then : {B F : Type 0} (u v w : Option (List ℕ)) (x y : List ℕ) (r : Result B F) → Appends u v x → Puts v w r y → Puts u w r (x ++ y)
puts_then u v w x y (Ok z) p q = Appends-trans u v w x y p q
puts_then u v w x y (Err e) p (n, h, q) =
    (length x + n, omega (arith, h, length-append x y), subst (Appends u w) (sym (take-append-add x y n)) (Appends-trans u v w _ _ p q))

pub two_cut_first : (a b : Option (List ℕ)) (x y : List ℕ) → IsCut a b x → IsCut a b (x ++ y)
two_cut_first a b x y q = cut_short a a b [] x y (x ++ y) (Appends-nil a) q refl

pub three_cut_first : (a b : Option (List ℕ)) (x y z : List ℕ) → IsCut a b x → IsCut a b (x ++ y ++ z)
three_cut_first a b x y z q = cut_short a a b [] x (y ++ z) (x ++ y ++ z) (Appends-nil a) q (append_assoc x y z)

pub three_cut_second : (a b c : Option (List ℕ)) (x y z : List ℕ) → Appends a b x → IsCut b c y → IsCut a c (x ++ y ++ z)
three_cut_second a b c x y z p q = cut_short a b c x y z (x ++ y ++ z) p q (append_assoc x y z)

pub three : {B F : Type 0} (a b c d : Option (List ℕ)) (x y z : List ℕ) (r : Result B F) → Appends a b x → Appends b c y → Puts c d r z → Puts a d r (x ++ y ++ z)
three a b c d x y z r p q s = puts_then a c d (x ++ y) z r (Appends-trans a b c x y p q) s

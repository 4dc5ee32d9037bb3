-- The parts of a history, one after another.
use Rattle.std.proofs.Common.{◌≡◌, ℕ, ◌+◌, ◌<◌, ◌≤◌, All, List, [], ◌++◌, length, take, drop, Option, sym, subst, get_or, flat_map, rules, arith, decimal}
use Rattle.tx_history.proofs.Common.{All-more, Carries, Page, Spells, common_steps, encode_lower, encode_with, take_all}
use Rattle.tx_history.{proofs.PagedTexts.carries_none, proofs.PagedTexts.carries_then, proofs.TextPieces.encode_more}

module _ {W : Type 0} {contents : W → Option (List ℕ)} where
  pub hex_starts : (a : Page W) (bytes : List ℕ) → Carries contents a a (encode_lower (take 0 bytes))
  unfolding encode_with
  hex_starts a bytes = carries_none a

  pub hex_grown : (a b c : Page W) (bytes : List ℕ) (i n : ℕ) → Carries contents a b (encode_lower (take i bytes)) → Carries contents b c (encode_lower (take n (drop i bytes))) → Carries contents a c (encode_lower (take (i + n) bytes))
  hex_grown a b c bytes i n p q = subst (Carries contents a c) (sym (encode_more bytes i n)) (carries_then p q)

  pub hex_whole : (a b : Page W) (bytes : List ℕ) (i : ℕ) → Carries contents a b (encode_lower (take i bytes)) → length bytes ≤ i → Carries contents a b (encode_lower bytes)
  hex_whole a b bytes i p h = subst (λ (l : List ℕ). Carries contents a b (encode_lower l)) (take_all i bytes h) p

-- ## The lines of each one of a list

module _ {W : Type 0} {contents : W → Option (List ℕ)} {A : Type 0} (lines : A → List ℕ) (typed : A → Type 0) where
  pub spells_none : (a : Page W) (rows : List A) → Spells contents a a (flat_map lines (take 0 rows)) (All typed (take 0 rows))
  spells_none a rows = record { carries = carries_none a; fits = search rules }

  pub spells_next : (a b c : Page W) (rows : List A) (i : ℕ) (d : A)
      → i < length rows → Spells contents a b (flat_map lines (take i rows)) (All typed (take i rows)) → Spells contents b c (lines (get_or rows i d)) (typed (get_or rows i d))
      → Spells contents a c (flat_map lines (take (i + 1) rows)) (All typed (take (i + 1) rows))
  spells_next a b c rows i d l p q =
      let e : flat_map lines (take (i + 1) rows) ≡ flat_map lines (take i rows) ++ lines (get_or rows i d) = grind (arith, common_steps) in
      record {
        carries = subst (Carries contents a c) (sym e) (carries_then p.carries q.carries);
        fits = All-more typed rows i _ l p.fits q.fits;
      }

  pub spells_all : (a b : Page W) (rows : List A) (i : ℕ) → Spells contents a b (flat_map lines (take i rows)) (All typed (take i rows)) → length rows ≤ i → Spells contents a b (flat_map lines rows) (All typed rows)
  spells_all a b rows i p h =
      let e : take i rows ≡ rows = grind (arith, common_steps) in
      subst (λ (xs : List A). Spells contents a b (flat_map lines xs) (All typed xs)) e p

-- two texts, each with a number after it
pub numbers_spelled : (a b : List ℕ) (m k n : ℕ) → m ≡ k → a ++ (decimal m ++ (b ++ (decimal n ++ []))) ≡ ((a ++ decimal k) ++ b) ++ decimal n
numbers_spelled a b m k n e = grind (arith, common_steps, e)

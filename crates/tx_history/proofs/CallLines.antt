-- The lines of calls, with those of the blocks that ran again within them.
use Rattle.std.proofs.Common.{◌≡◌, ℕ, ◌+◌, ◌-◌, ◌<◌, ◌≤◌, All, List, [], ◌∷◌, ◌++◌, length, take, drop, min, Option, refl, sym, ap, ◌∙◌, subst, get_or, flat_map, append_assoc, arith}
use Rattle.tx_history.proofs.Common.{Again, AgainFits, All-append, All-more, All-nil, CallRecord, Carries, EntryFits, Page, Spells, again_lines, call_line, call_lines, common_steps, drop_all, take-append-drop, take_all}
use Rattle.tx_history.proofs.PagedTexts.{carries_as, carries_none, carries_then}

few_taken : {A : Type 0} (m : ℕ) (xs : List A) → take (min m (length xs)) xs ≡ take m xs
few_taken m xs = grind (arith, common_steps)

few_dropped : {A : Type 0} (m : ℕ) (xs : List A) → drop (min m (length xs)) xs ≡ drop m xs
few_dropped m xs = grind (arith, common_steps)

first_of : {A : Type 0} (xs : List A) (i : ℕ) (d : A) → i < length xs → drop i xs ≡ get_or xs i d ∷ drop (i + 1) xs
first_of xs i d h = grind (arith, common_steps)

-- so many of the blocks that ran again are told, with the calls up to the last one's begin; these calls are left
pub record AreTold {W : Type 0} (contents : W → Option (List ℕ)) (a b : Page W) (calls : List CallRecord) (restarts : List Again) (i told : ℕ) (left : List CallRecord) : Type 0 where
  pub text : List ℕ
  pub carries : Carries contents a b text
  pub rest : text ++ call_lines told left (drop i restarts) ≡ call_lines 0 calls restarts
  pub entries : All EntryFits left → All EntryFits calls
  pub agains : All AgainFits (take i restarts)

module _ {W : Type 0} {contents : W → Option (List ℕ)} where
  pub none_told : (a : Page W) (calls : List CallRecord) (restarts : List Again) → AreTold contents a a calls restarts 0 0 calls
  none_told a calls restarts = record { text = []; carries = carries_none a; rest = refl; entries = λ h. h; agains = All-nil AgainFits }

  -- one more
  pub told_next : (a b c e : Page W) (calls : List CallRecord) (restarts : List Again) (i told k : ℕ) (left first later : List CallRecord) (x d : Again)
      → i < length restarts → x ≡ get_or restarts i d → k ≡ min (x.kept - told) (length left) → first ≡ take k left → later ≡ drop k left → AreTold contents a b calls restarts i told left
      → Spells contents b c (flat_map call_line first) (All EntryFits first) → Spells contents c e (again_lines x) (AgainFits x)
      → AreTold contents a e calls restarts (i + 1) x.kept later
  told_next a b c e calls restarts i told k left first later x d l is count front back p q r =
      let m = x.kept - told in
      let taken : first ≡ take m left = front ∙ ap (λ (n : ℕ). take n left) count ∙ few_taken m left in
      let dropped : later ≡ drop m left = back ∙ ap (λ (n : ℕ). drop n left) count ∙ few_dropped m left in
      let one = flat_map call_line first in
      let others = call_lines x.kept later (drop (i + 1) restarts) in
      let all : call_lines told left (drop i restarts) ≡ (one ++ again_lines x) ++ others =
      ap (call_lines told left) (first_of restarts i d l ∙ ap (λ (z : Again). z ∷ drop (i + 1) restarts) (sym is))
      ∙ (λ j. (flat_map call_line (sym taken j) ++ again_lines x) ++ call_lines x.kept (sym dropped j) (drop (i + 1) restarts)) in
      let whole : first ++ later ≡ left = (λ j. front j ++ back j) ∙ take-append-drop k left in
      record {
        text = (p.text ++ one) ++ again_lines x;
        carries = carries_then (carries_then p.carries q.carries) r.carries;
        rest = ap (λ (t : List ℕ). t ++ others) (append_assoc p.text one (again_lines x)) ∙ append_assoc p.text (one ++ again_lines x) others ∙ ap (λ (t : List ℕ). p.text ++ t) (sym all) ∙ p.rest;
        entries = λ h. p.entries (subst (All EntryFits) whole (All-append EntryFits first later q.fits h));
        agains = All-more AgainFits restarts i d l p.agains (subst AgainFits is r.fits);
      }

  -- then the calls that are left
  pub told_all : (a b c : Page W) (calls : List CallRecord) (restarts : List Again) (i told : ℕ) (left : List CallRecord) → length restarts ≤ i → AreTold contents a b calls restarts i told left
      → Spells contents b c (flat_map call_line left) (All EntryFits left) → Spells contents a c (call_lines 0 calls restarts) (All EntryFits calls × All AgainFits restarts)
  told_all a b c calls restarts i told left l p q = record {
    carries = carries_as a c _ _ (carries_then p.carries q.carries) (ap (λ (rs : List Again). p.text ++ call_lines told left rs) (sym (drop_all i restarts l)) ∙ p.rest);
    fits = (p.entries q.fits, subst (All AgainFits) (take_all i restarts l) p.agains);
  }

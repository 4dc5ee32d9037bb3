-- Laws of putting back.
use Rattle.std.proofs.Common.{◌≡◌, ℕ, List, [], ◌∷◌, ◌++◌, length, map, drop, ap, sym, ◌∙◌}
use Rattle.std.proofs.lemmas.List.{map-append}
use Rattle.itm_model.proofs.Common.{AreWithin, Old, Restores, bytes_in, drop-append-le, put_back, with_slice}
use Rattle.itm_types.proofs.Elements.{all_map}
use Rattle.itm_types.specs.OldBytes as olds
use Rattle.itm_types.proofs.OldBytes as laws
pub use Rattle.itm_types.proofs.OldBytes.{length-slice, length-with_slice}

pub put_back-append : (xs ys : List Old) (m : List ℕ) → put_back (xs ++ ys) m ≡ put_back xs (put_back ys m)
put_back-append xs ys m = ap (λ t. olds.put_back t m) (map-append bytes_in xs ys) ∙ laws.put_back-append (map bytes_in xs) (map bytes_in ys) m

pub length-put_back : (os : List Old) (m : List ℕ) → AreWithin (length m) os → length (put_back os m) ≡ length m
length-put_back os m w = laws.length-put_back (map bytes_in os) m (all_map _ bytes_in os w)

-- the newest entry put back
pub pop_restores : (j j' : List Old) (o : Old) (m : List ℕ) → j ≡ j' ++ o ∷ [] → Restores (length j') j m j' (with_slice m o.place o.bytes.items)
pop_restores j j' o m e k l =
    sym (ap (λ t. put_back (drop k t) m) e
    ∙ (ap (λ t. put_back t m) (drop-append-le k j' (o ∷ []) l)
    ∙ put_back-append (drop k j') (o ∷ []) m))

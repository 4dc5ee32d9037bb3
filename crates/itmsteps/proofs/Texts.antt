-- The text that a reader has left.
use Rattle.std.proofs.Common.{◌≡◌, ℕ, List, [], Option, None, Some, refl, IfSome}

-- nothing is known of one whose bytes are not known
pub some_text : (left : Option (List ℕ)) → (text : List ℕ) × IfSome left (λ all. text ≡ all)
some_text None = ([], tt)
some_text (Some all) = (all, refl)

-- What a body does, part after part.
use Rattle.std.proofs.Common.{List, [], ◌∷◌, ◌++◌, subst}
use Rattle.transactions.proofs.Common.{Calls, Deed, Makes, Standing, TakesBack, Words}

pub makes_then : (words : Words) (a b c : Standing) (xs ys : List Deed) → Makes words a xs b → Makes words b ys c → Makes words a (xs ++ ys) c
makes_then words a b c [] ys first second = subst (λ (t : Standing). Makes words t ys c) first second
makes_then words a b c (Calls call r ∷ xs) ys first second = (first.0, first.1, first.2, makes_then words first.0 b c xs ys first.3 second)
makes_then words a b c (TakesBack gone ∷ xs) ys first second = (first.0, first.1, makes_then words first.0 b c xs ys first.2 second)

-- Worked cases of the pieces that a journal keeps, computed.
use Rattle.std.proofs.Common.{◌≡◌, ℕ, [], ◌∷◌, map, refl}
use Rattle.itm_model.proofs.Common.{Old, handed_on, newest_in, piece_of, pieces_in}

abbrev old : ℕ → ℕ → ℕ → Old
old place b earlier = record { place = place; bytes = record { items = b ∷ [] }; earlier = earlier }

-- the last piece may be shorter
pieces : map pieces_in (0 ∷ 8 ∷ 32 ∷ 40 ∷ 65536 ∷ []) ≡ 0 ∷ 1 ∷ 1 ∷ 2 ∷ 2048 ∷ []
pieces = refl

which : map piece_of (old 0 1 0 ∷ old 32 1 0 ∷ old 65504 1 0 ∷ []) ≡ 0 ∷ 1 ∷ 2047 ∷ []
which = refl

-- two blocks kept the first piece, and one the second
newest : map (newest_in (old 0 1 0 ∷ old 32 2 0 ∷ old 0 3 1 ∷ [])) (0 ∷ 1 ∷ 2 ∷ []) ≡ 3 ∷ 2 ∷ 0 ∷ []
newest = refl

-- the block around has kept the first piece: of the inner block's entries the second piece's alone stays
inner_commit : handed_on 0 (old 0 1 0 ∷ []) (old 0 2 1 ∷ old 32 3 0 ∷ []) ≡ old 0 1 0 ∷ old 32 3 0 ∷ []
inner_commit = refl

-- it began with one entry, and kept the second piece: the first piece's old entry is of a block around it
inner_commit_deeper : handed_on 1 (old 0 1 0 ∷ old 32 2 0 ∷ []) (old 32 3 2 ∷ old 0 4 1 ∷ []) ≡ old 0 1 0 ∷ old 32 2 0 ∷ old 0 4 1 ∷ []
inner_commit_deeper = refl

-- with none around it each stays
outermost_commit : handed_on 0 [] (old 32 2 0 ∷ old 0 1 0 ∷ []) ≡ old 32 2 0 ∷ old 0 1 0 ∷ []
outermost_commit = refl

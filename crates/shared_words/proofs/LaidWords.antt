-- Words that are read from and written to bytes, one after another.
use Rattle.std.proofs.Common.{◌≡◌, ℕ, ◌+◌, ◌*◌, ◌<◌, ◌≤◌, List, [], ◌∷◌, ◌++◌, length, get_or, take, drop, sym, refl, ap, ◌∙◌, arith, append_assoc, append-nil, length-append}
use Rattle.shared_words.proofs.Common.{bytes_of, length-take-le, take_all, take_at, take_more}
use Rattle.std.{specs.Int.to_le_bytes, specs.Int.w64, proofs.Math.Seq.take-add}

pub bytes_snoc : (xs : List ℕ) (w : ℕ) → bytes_of (xs ++ w ∷ []) ≡ bytes_of xs ++ to_le_bytes w64 w
bytes_snoc [] w = append-nil (to_le_bytes w64 w)
bytes_snoc (x ∷ xs) w = ap (λ (l : List ℕ). to_le_bytes w64 x ++ l) (bytes_snoc xs w) ∙ sym (append_assoc (to_le_bytes w64 x) (bytes_of xs) (to_le_bytes w64 w))

pub reads_more : (bytes xs : List ℕ) (i w : ℕ) → bytes_of xs ≡ take (8 * i) bytes → to_le_bytes w64 w ≡ take 8 (drop (8 * i) bytes) → bytes_of (xs ++ w ∷ []) ≡ take (8 * (i + 1)) bytes
reads_more bytes xs i w e h =
    let n : 8 * (i + 1) ≡ 8 * i + 8 = omega arith in
    bytes_snoc xs w ∙ ((λ k. e k ++ h k) ∙ (sym (take-add (8 * i) 8 bytes) ∙ ap (λ (m : ℕ). take m bytes) (sym n)))

pub eight : (w : ℕ) → length (to_le_bytes w64 w) ≡ 8
eight w = refl

pub writes_more : (old xs : List ℕ) (i w : ℕ) → 8 * i + 8 ≤ length old → take (8 * i) old ≡ bytes_of xs
    → take (8 * (i + 1)) (take (8 * i) old ++ to_le_bytes w64 w ++ drop (8 * i + 8) old) ≡ bytes_of (xs ++ w ∷ [])
writes_more old xs i w room e =
    let n : length (take (8 * i) old ++ to_le_bytes w64 w) ≡ 8 * (i + 1) = length-append (take (8 * i) old) (to_le_bytes w64 w) ∙ (let a : length (take (8 * i) old) ≡ 8 * i = length-take-le (8 * i) old (omega arith) in let b = eight w in omega arith) in
    take_at (take (8 * i) old ++ to_le_bytes w64 w) (drop (8 * i + 8) old) (8 * (i + 1)) n ∙ (ap (λ (l : List ℕ). l ++ to_le_bytes w64 w) e ∙ sym (bytes_snoc xs w))

-- the word i is written behind the first i
pub lays_more : (words old : List ℕ) (i w : ℕ) → take (8 * i) old ≡ bytes_of (take i words) → 8 * i + 8 ≤ length old → i < length words → w ≡ get_or words i 0
    → take (8 * (i + 1)) (take (8 * i) old ++ to_le_bytes w64 w ++ drop (8 * i + 8) old) ≡ bytes_of (take (i + 1) words)
lays_more words old i w laid room more is =
    let next : take (i + 1) words ≡ take i words ++ w ∷ [] = take_more words i 0 more ∙ ap (λ (n : ℕ). take i words ++ n ∷ []) (sym is) in
    writes_more old (take i words) i w room laid ∙ ap bytes_of (sym next)

-- all words are written
pub laid_all : (words bytes : List ℕ) (i : ℕ) → take (8 * i) bytes ≡ bytes_of (take i words) → length bytes ≡ 8 * i → length words ≡ i → bytes ≡ bytes_of words
laid_all words bytes i laid size count = sym (take_all (8 * i) bytes (omega arith)) ∙ laid ∙ ap bytes_of (take_all i words (omega arith))

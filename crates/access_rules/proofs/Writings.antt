-- The pieces of a value go into the write set.
use Rattle.access_rules.proofs.Readings.{length-pieces_of, some_count_of}
use Rattle.std.proofs.Common.{◌≡◌, ℕ, ◌+◌, ◌^◌, ◌<◌, ◌≤◌, ◌*◌, ◌==◌, replicate, List, [], ◌∷◌, ◌++◌, drop, length, length-append, map, take, true, false, is_some, is_err, IsSome, Result, Ok, Err, IsOk, OnOk, OnErr, refl, sym, ap, subst, ◌∙◌, inl, inr, arith}
use Rattle.access_rules.proofs.Common.{AllByRecursion, AllByRecursion-pieces_of, AllFit, AllWritesWithin, AreBytes, AreBytes-slice, AreBytes-with_slice, AreBytes-zeros, AreEmpty, AreRows, AreRows-put, AreRows-reserved, IsPiece, Piece, Row, bytes_of, bytes_of-written, cases_Bool, cond_both, cut-reserved, drop_all, found_or_none, from_le_bytes, length-overlay, lookup, lookup-reserved, lookup_here, lookup_there, mask_of, mask_of-lt, overlay, overlay-put, overlay-reserved, pieces_of, put, put_all, reserved, reserved_all, reserved_new, reserved_old, row, row_with, scattered, slice, take_all, w64, with_slice, words_of-pieces_of, written}

-- one piece more
pub put_all_more : (rows : List Row) (ps : List Piece) (p : Piece) (bytes : List ℕ) → put_all rows (ps ++ p ∷ []) bytes ≡ put (put_all rows ps bytes) p.word (mask_of p.first p.count) (scattered p bytes)
put_all_more rows [] p bytes = refl
put_all_more rows (q ∷ qs) p bytes = put_all_more (put rows q.word (mask_of q.first q.count) (scattered q bytes)) qs p bytes

pub reserved_all_more : (rows : List Row) (ps : List Piece) (p : Piece) → reserved_all rows (ps ++ p ∷ []) ≡ reserved (reserved_all rows ps) p.word
reserved_all_more rows [] p = refl
reserved_all_more rows (q ∷ qs) p = reserved_all_more (reserved rows q.word) qs p

longer-reserved : (rows : List Row) (word : ℕ) → length rows ≤ length (reserved rows word)
longer-reserved rows word = elim (found_or_none rows word) [
  | inl found ↦ (let e = ap (length {A = Row}) (reserved_old rows word found.0 found.1) in omega arith)
  | inr none ↦ (let e = ap (length {A = Row}) (reserved_new rows word none) in let len = length-append rows (row word 0 0 ∷ []) in omega arith)
]

cut-from : (rows : List Row) (ps : List Piece) (n : ℕ) → n ≤ length rows → AreEmpty (drop n rows) → AreEmpty (drop n (reserved_all rows ps)) × (take n (reserved_all rows ps) ≡ take n rows)
cut-from rows [] n l e = (e, refl)
cut-from rows (p ∷ ps) n l e =
    let longer = longer-reserved rows p.word in
    let one = cut-reserved rows p.word n l e in
    let rest = cut-from (reserved rows p.word) ps n (omega arith) one.0 in
    (rest.0, rest.1 ∙ one.1)

-- a cut takes the rows back
pub cut-reserved_all : (rows : List Row) (ps : List Piece) → AreEmpty (drop (length rows) (reserved_all rows ps)) × (take (length rows) (reserved_all rows ps) ≡ rows)
cut-reserved_all rows ps =
    let none = drop_all (length rows) rows (omega arith) in
    let cut = cut-from rows ps (length rows) (omega arith) (subst AreEmpty (sym none) tt) in
    (cut.0, cut.1 ∙ take_all (length rows) rows (omega arith))

-- the pieces fit words of the memory
abbrev pub AllFitIn : ℕ → List Piece → List ℕ → Type 0
AllFitIn words [] bytes = Unit {0}
AllFitIn words (p ∷ ps) bytes = (p.word < words) × (mask_of p.first p.count < 2 ^ 64) × (scattered p bytes < 2 ^ 64) × AllFitIn words ps bytes

-- what the pieces make of the memory under the rows
pub overlay-put_all : (m : List ℕ) (rows : List Row) (ps : List Piece) (bytes : List ℕ) → AllFit m → AreRows rows → AllFitIn (length m) ps bytes
    → overlay m (put_all rows ps bytes) ≡ written (overlay m rows) ps bytes
overlay-put_all m rows [] bytes fit are h = refl
overlay-put_all m rows (p ∷ ps) bytes fit are h =
    let rows' = put rows p.word (mask_of p.first p.count) (scattered p bytes) in
    overlay-put_all m rows' ps bytes fit (AreRows-put rows p.word (mask_of p.first p.count) (scattered p bytes) h.1 h.2 are) h.3
    ∙ ap (λ (x : List ℕ). written x ps bytes) (overlay-put m rows p.word (mask_of p.first p.count) (scattered p bytes) are h.1 h.2 fit h.0)

pub AreRows-reserved_all : (rows : List Row) (ps : List Piece) → AreRows rows → AreRows (reserved_all rows ps)
AreRows-reserved_all rows [] are = are
AreRows-reserved_all rows (p ∷ ps) are = AreRows-reserved_all (reserved rows p.word) ps (AreRows-reserved rows p.word are)

pub overlay-reserved_all : (m : List ℕ) (rows : List Row) (ps : List Piece) → AllFit m → AreRows rows → overlay m (reserved_all rows ps) ≡ overlay m rows
overlay-reserved_all m rows [] fit are = refl
overlay-reserved_all m rows (p ∷ ps) fit are = overlay-reserved_all m (reserved rows p.word) ps fit (AreRows-reserved rows p.word are) ∙ overlay-reserved m rows p.word fit are.fit

-- whose words are the same has the same words
head_word : (x y : ℕ) (xs ys : List ℕ) → x ∷ xs ≡ y ∷ ys → (x ≡ y) × (xs ≡ ys)
head_word x y xs ys e = (cc, cc)

pub some_words : (xs ys : List Row) (w : ℕ) → map (λ (r : Row). r.word) xs ≡ map (λ (r : Row). r.word) ys → IsSome (lookup w ys) → IsSome (lookup w xs)
some_words [] [] w e h = h
some_words [] (y ∷ ys) w e h = absurd (cc)
some_words (x ∷ xs) [] w e h = absurd (cc)
some_words (x ∷ xs) (y ∷ ys) w e h =
    let same = head_word x.word y.word (map (λ (r : Row). r.word) xs) (map (λ (r : Row). r.word) ys) e in
    elim (cases_Bool (x.word == w)) [
      | inl found ↦ ap is_some (lookup_here x xs w found)
      | inr other ↦ ap is_some (lookup_there x xs w other) ∙ some_words xs ys w same.1 (ap is_some (sym (lookup_there y ys w (ap (λ n. n == w) (sym same.0) ∙ other))) ∙ h)
    ]

-- ## What a call that failed, or did not, ensures

pub on_err : {A E : Type 0} {P : Type 0} (r : Result A E) → OnErr r P → is_err r ≡ true → P
on_err (Ok x) h e = absurd (cc)
on_err (Err x) h e = h

pub not_ok : {A E : Type 0} (r : Result A E) → is_err r ≡ true → IsOk r → ⊥
not_ok (Ok x) e h = absurd (cc)
not_ok (Err x) e h = absurd (cc)

pub on_ok : {A E : Type 0} {P : Type 0} (r : Result A E) → OnOk r P → is_err r ≡ false → P
on_ok (Ok x) h e = h
on_ok (Err x) h e = absurd (cc)

pub map_ok : {A E : Type 0} {P Q : Type 0} (r : Result A E) → (P → Q) → OnOk r P → OnOk r Q
map_ok (Ok x) f h = f h
map_ok (Err x) f h = h

-- what holds at any result holds where it is an error
pub either_way : {A E : Type 0} {P : Type 0} (r : Result A E) → P → OnErr r P
either_way (Ok x) h = tt
either_way (Err x) h = h

-- ## Rows within the memory

AllWritesWithin-put : (words : ℕ) (rows : List Row) (word mask value : ℕ) → AllWritesWithin words rows → word < words → AllWritesWithin words (put rows word mask value)
AllWritesWithin-put words [] word mask value h l = (l, tt)
AllWritesWithin-put words (r ∷ rs) word mask value h l =
    cond_both (r.word == word) (row_with r mask value ∷ rs) (r ∷ put rs word mask value) (AllWritesWithin words) (λ e. (h.0, h.1)) (λ e. (h.0, AllWritesWithin-put words rs word mask value h.1 l))

AllWritesWithin-reserved : (words : ℕ) (rows : List Row) (word : ℕ) → AllWritesWithin words rows → word < words → AllWritesWithin words (reserved rows word)
AllWritesWithin-reserved words [] word h l = (l, tt)
AllWritesWithin-reserved words (r ∷ rs) word h l =
    cond_both (r.word == word) (r ∷ rs) (r ∷ reserved rs word) (AllWritesWithin words) (λ e. h) (λ e. (h.0, AllWritesWithin-reserved words rs word h.1 l))

pub AllWritesWithin-put_all : (words : ℕ) (rows : List Row) (ps : List Piece) (bytes : List ℕ) → AllWritesWithin words rows → AllFitIn words ps bytes → AllWritesWithin words (put_all rows ps bytes)
AllWritesWithin-put_all words rows [] bytes h f = h
AllWritesWithin-put_all words rows (p ∷ ps) bytes h f =
    AllWritesWithin-put_all words (put rows p.word (mask_of p.first p.count) (scattered p bytes)) ps bytes (AllWritesWithin-put words rows p.word (mask_of p.first p.count) (scattered p bytes) h f.0) f.3

pub AllWritesWithin-reserved_all : (words : ℕ) (rows : List Row) (ps : List Piece) → AllWritesWithin words rows → AllByRecursion (λ (p : Piece). p.word < words) ps → AllWritesWithin words (reserved_all rows ps)
AllWritesWithin-reserved_all words rows [] h f = h
AllWritesWithin-reserved_all words rows (p ∷ ps) h f = AllWritesWithin-reserved_all words (reserved rows p.word) ps (AllWritesWithin-reserved words rows p.word h f.0) f.1

pub AreRows-put_all : (words : ℕ) (rows : List Row) (ps : List Piece) (bytes : List ℕ) → AreRows rows → AllFitIn words ps bytes → AreRows (put_all rows ps bytes)
AreRows-put_all words rows [] bytes are f = are
AreRows-put_all words rows (p ∷ ps) bytes are f =
    AreRows-put_all words (put rows p.word (mask_of p.first p.count) (scattered p bytes)) ps bytes (AreRows-put rows p.word (mask_of p.first p.count) (scattered p bytes) f.1 f.2 are) f.3

-- ## Each piece's word has a row

some_kept : (rows : List Row) (w v : ℕ) → IsSome (lookup w rows) → IsSome (lookup w (reserved rows v))
some_kept [] w v h = absurd (cc)
some_kept (r ∷ rs) w v h =
    cond_both (r.word == v) (r ∷ rs) (r ∷ reserved rs v) (λ (xs : List Row). IsSome (lookup w xs)) (λ e. h)
    (λ e. elim (cases_Bool (r.word == w)) [
      | inl found ↦ ap is_some (lookup_here r (reserved rs v) w found)
      | inr other ↦ ap is_some (lookup_there r (reserved rs v) w other) ∙ some_kept rs w v (ap is_some (sym (lookup_there r rs w other)) ∙ h)
    ])

pub some_kept_all : (rows : List Row) (ps : List Piece) (w : ℕ) → IsSome (lookup w rows) → IsSome (lookup w (reserved_all rows ps))
some_kept_all rows [] w h = h
some_kept_all rows (p ∷ ps) w h = some_kept_all (reserved rows p.word) ps w (some_kept rows w p.word h)

pub all_reserved : (rows : List Row) (ps : List Piece) → AllByRecursion (λ (p : Piece). IsSome (lookup p.word (reserved_all rows ps))) ps
all_reserved rows [] = tt
all_reserved rows (p ∷ ps) = (some_kept_all (reserved rows p.word) ps p.word (lookup-reserved rows p.word), all_reserved (reserved rows p.word) ps)

-- ## Pieces of a value fit

from_bytes_lt : (bs : List ℕ) → AreBytes bs → from_le_bytes w64 bs < 2 ^ 64
from_bytes_lt bs b = omega (arith, b 0, b 1, b 2, b 3, b 4, b 5, b 6, b 7)

pub scattered_lt : (p : Piece) (bytes : List ℕ) → AreBytes bytes → scattered p bytes < 2 ^ 64
scattered_lt p bytes b =
    from_bytes_lt (with_slice (replicate 8 0) p.first (slice bytes p.at p.count))
    (AreBytes-with_slice (replicate 8 0) (slice bytes p.at p.count) p.first (AreBytes-zeros 8) (AreBytes-slice bytes p.at p.count b))

fit_all : (words : ℕ) (ps : List Piece) (bytes : List ℕ) → AllByRecursion IsPiece ps → AllByRecursion (λ (p : Piece). p.word < words) ps → AreBytes bytes → AllFitIn words ps bytes
fit_all words [] bytes are within b = tt
fit_all words (p ∷ ps) bytes are within b = (within.0, mask_of-lt p.first p.count are.0.in_word, scattered_lt p bytes b, fit_all words ps bytes are.1 within.1 b)

pub fit_pieces : (words place size : ℕ) (bytes : List ℕ) → place + size ≤ 8 * words → size ≤ 32 → AreBytes bytes → AllFitIn words (pieces_of place size) bytes
fit_pieces words place size bytes l small b = fit_all words (pieces_of place size) bytes (AllByRecursion-pieces_of place size small) (words_of-pieces_of place size words l) b

-- a value that is written replaces its slice of the memory under the rows
pub bytes_of-put_all : (m : List ℕ) (rows : List Row) (place size : ℕ) (bytes : List ℕ) → AllFit m → AreRows rows → place + size ≤ 8 * length m → size ≤ 32 → AreBytes bytes → length bytes ≡ size
    → bytes_of (overlay m (put_all (reserved_all rows (pieces_of place size)) (pieces_of place size) bytes)) ≡ with_slice (bytes_of (overlay m rows)) place bytes
bytes_of-put_all m rows place size bytes fit are l small b n =
    let ps = pieces_of place size in
    let len : length (overlay m rows) ≡ length m = length-overlay m rows in
    ap bytes_of (overlay-put_all m (reserved_all rows ps) ps bytes fit (AreRows-reserved_all rows ps are) (fit_pieces (length m) place size bytes l small b))
    ∙ (ap (λ (x : List ℕ). bytes_of (written x ps bytes)) (overlay-reserved_all m rows ps fit are)
    ∙ bytes_of-written (overlay m rows) bytes place size b n (omega (arith, len)))

-- what has bytes has a piece
pub some_pieces : (place size : ℕ) → 0 < size → 0 < length (pieces_of place size)
some_pieces place size l = omega (arith, length-pieces_of place size, some_count_of place size l)

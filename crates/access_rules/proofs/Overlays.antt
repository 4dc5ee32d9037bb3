-- Rows of words with values, laid over a memory.
use Rattle.std.proofs.Common.{◌≡◌, ℕ, zero, suc, ◌+◌, ◌^◌, ◌<◌, ◌==◌, List, [], ◌∷◌, ◌++◌, length, take, replicate, None, Some, slice_get, slice_set, sym, ap, subst, ◌∙◌, inl, inr, arith, slice_index}
use Rattle.access_rules.proofs.Common.{Agrees, AllFit, AllRowsFit, AllValuesFit, AllWithin, AllWritesWithin, AreRows, IsLog, IsMemory, LogRow, Row, cases_Bool, eqb-false, get_or_from_slice_get, length-replicate, length-set, lookup, lookup_here, lookup_there, merge, overlay, overlay-next, row_at, slice_get-set_other, slice_get-set_same, whole, write_at}
use Rattle.itm_types.specs.LogRows.{value_of, AreSingle}
use Rattle.itm_types.proofs.LogRows.{other_word, single_cut, value_there}
use Rattle.word_pieces.proofs.Bits.{merge-whole}
use Rattle.itm_types.proofs.WordLists.{fit-set}
use Rattle.std.proofs.lemmas.Option.{slice_get-get_or}

-- ## The value log

pub AllWithin-at : (words : ℕ) (rows : List LogRow) (i : ℕ) → AllWithin words rows → i < length rows → (row_at rows i).word < words
AllWithin-at words [] i h l = absurd (omega arith)
AllWithin-at words (r ∷ rs) zero h l = h.0
AllWithin-at words (r ∷ rs) (suc i) h l = AllWithin-at words rs i h.1 (omega arith)

within_push : (words : ℕ) (rows : List LogRow) (r : LogRow) → AllWithin words rows → r.word < words → AllWithin words (rows ++ r ∷ [])
within_push words [] r h l = (l, tt)
within_push words (x ∷ xs) r h l = (h.0, within_push words xs r h.1 l)

fit_push : (rows : List LogRow) (r : LogRow) → AllValuesFit rows → r.value < 2 ^ 64 → AllValuesFit (rows ++ r ∷ [])
fit_push [] r h l = (l, tt)
fit_push (x ∷ xs) r h l = (h.0, fit_push xs r h.1 l)

within_cut : (words n : ℕ) (rows : List LogRow) → AllWithin words rows → AllWithin words (take n rows)
within_cut words zero rows a = tt
within_cut words (suc n) [] a = tt
within_cut words (suc n) (x ∷ xs) a = (a.0, within_cut words n xs a.1)

fit_cut : (n : ℕ) (rows : List LogRow) → AllValuesFit rows → AllValuesFit (take n rows)
fit_cut zero rows a = tt
fit_cut (suc n) [] a = tt
fit_cut (suc n) (x ∷ xs) a = (a.0, fit_cut n xs a.1)

-- a log that is cut is one
pub IsLog-take : (words n : ℕ) (rows : List LogRow) → IsLog words rows → IsLog words (take n rows)
IsLog-take words n rows log = record { within = within_cut words n rows log.within; single = single_cut n rows log.single; fit = fit_cut n rows log.fit }

-- the row of a word that has none joins
pub IsLog-push : (words : ℕ) (rows : List LogRow) (r : LogRow) → IsLog words rows → r.word < words → r.value < 2 ^ 64 → AreSingle (rows ++ r ∷ []) → IsLog words (rows ++ r ∷ [])
IsLog-push words rows r is word value single = record { within = within_push words rows r is.within word; single = single; fit = fit_push rows r is.fit value }

-- ## A memory that agrees with the log

-- each row's word has its value, and each other word is 0
abbrev pub laid_over : ℕ → List LogRow → List ℕ
laid_over words [] = replicate words 0
laid_over words (r ∷ rs) = slice_set (laid_over words rs) r.word r.value

length-laid_over : (words : ℕ) (rows : List LogRow) → length (laid_over words rows) ≡ words
length-laid_over words [] = length-replicate words 0
length-laid_over words (r ∷ rs) = length-set (laid_over words rs) r.word r.value ∙ length-laid_over words rs

pub fit-zeros : (n : ℕ) → AllFit (replicate n 0)
fit-zeros zero = tt
fit-zeros (suc n) = (omega arith, fit-zeros n)

fit-laid_over : (words : ℕ) (rows : List LogRow) → AllValuesFit rows → AllFit (laid_over words rows)
fit-laid_over words [] f = fit-zeros words
fit-laid_over words (r ∷ rs) f = fit-set (laid_over words rs) r.word r.value (fit-laid_over words rs f.1) f.0

agrees-set : (m : List ℕ) (word value : ℕ) (rows : List LogRow) → value_of word rows ≡ None → Agrees m rows → Agrees (slice_set m word value) rows
agrees-set m word value [] none a = tt
agrees-set m word value (r ∷ rs) none a =
    let apart = other_word r rs word none in (
      slice_get-set_other m word r.word value (λ same. eqb-false r.word word apart (sym same)) ∙ a.0,
      agrees-set m word value rs (sym (value_there r rs word apart) ∙ none) a.1,
    )

agrees-laid_over : (words : ℕ) (rows : List LogRow) → AllWithin words rows → AreSingle rows → Agrees (laid_over words rows) rows
agrees-laid_over words [] w s = tt
agrees-laid_over words (r ∷ rs) w s = (
  slice_get-set_same (laid_over words rs) r.word r.value (omega (arith, w.0, length-laid_over words rs)),
  agrees-set (laid_over words rs) r.word r.value rs s.0 (agrees-laid_over words rs w.1 s.1),
)

pub agreed : (words : ℕ) (rows : List LogRow) → IsLog words rows → (m : List ℕ) × IsMemory words m × Agrees m rows
agreed words rows is = (laid_over words rows, (length-laid_over words rows, fit-laid_over words rows is.fit), agrees-laid_over words rows is.within is.single)

pub Agrees-last : (m : List ℕ) (rows : List LogRow) (r : LogRow) → Agrees m (rows ++ r ∷ []) → slice_get m r.word ≡ Some r.value
Agrees-last m [] r h = h.0
Agrees-last m (x ∷ xs) r h = Agrees-last m xs r h.1

pub Agrees-front : (m : List ℕ) (rows : List LogRow) (r : LogRow) → Agrees m (rows ++ r ∷ []) → Agrees m rows
Agrees-front m [] r h = tt
Agrees-front m (x ∷ xs) r h = (h.0, Agrees-front m xs r h.1)

-- ## The write set

pub index_of : (m : List ℕ) (i v : ℕ) → slice_get m i ≡ Some v → slice_index m i ≡ v
index_of m i v e = get_or_from_slice_get m i v 0 e

pub got_at : (m : List ℕ) (i : ℕ) → i < length m → slice_get m i ≡ Some (slice_index m i)
got_at m i l = slice_get-get_or m i 0 l

AllRowsFit-at : (rows : List Row) (i : ℕ) → i < length rows → AllRowsFit rows → ((write_at rows i).mask < 2 ^ 64) × ((write_at rows i).value < 2 ^ 64)
AllRowsFit-at [] i l h = absurd (omega arith)
AllRowsFit-at (r ∷ rs) zero l h = h.0
AllRowsFit-at (r ∷ rs) (suc i) l h = AllRowsFit-at rs i (omega arith) h.1

-- the word's row fits
pub lookup_fits : (rows : List Row) (word : ℕ) (r : Row) → AllRowsFit rows → lookup word rows ≡ Some r → r.value < 2 ^ 64
lookup_fits [] word r h e = absurd (cc)
lookup_fits (x ∷ xs) word r h e = elim (cases_Bool (x.word == word)) [
  | inl same ↦ (let here = lookup_here x xs word same in let is : x ≡ r = cc in subst (λ (y : Row). y.value < 2 ^ 64) is h.0.1)
  | inr other ↦ lookup_fits xs word r h.1 (sym (lookup_there x xs word other) ∙ e)
]

-- the row that stands at a place
pub write_at_of : (rows : List Row) (i : ℕ) (r : Row) → slice_get rows i ≡ Some r → write_at rows i ≡ r
write_at_of rows i r e = get_or_from_slice_get rows i r (record { word = 0; mask = 0; value = 0 }) e

pub AllWritesWithin-at : (words : ℕ) (rows : List Row) (i : ℕ) → AllWritesWithin words rows → i < length rows → (write_at rows i).word < words
AllWritesWithin-at words [] i h l = absurd (omega arith)
AllWritesWithin-at words (r ∷ rs) zero h l = h.0
AllWritesWithin-at words (r ∷ rs) (suc i) h l = AllWritesWithin-at words rs i h.1 (omega arith)

-- ## Write-back

-- the next row brings the memory on: with all bytes by its value, else by what it makes of the word that is there
pub stores_whole : (m : List ℕ) (rows : List Row) (i : ℕ) → i < length rows → AreRows rows → (write_at rows i).mask ≡ whole
    → overlay m (take (i + 1) rows) ≡ slice_set (overlay m (take i rows)) (write_at rows i).word (write_at rows i).value
stores_whole m rows i l are e =
    let r : Row = write_at rows i in
    let fits = AllRowsFit-at rows i l are.fit in
    overlay-next m rows i l
    ∙ ap (λ (v : ℕ). slice_set (overlay m (take i rows)) r.word v)
    (ap (λ (k : ℕ). merge (slice_index (overlay m (take i rows)) r.word) k r.value) e ∙ merge-whole (slice_index (overlay m (take i rows)) r.word) r.value fits.1)

pub stores_part : (m : List ℕ) (rows : List Row) (i seen : ℕ) → i < length rows → slice_get (overlay m (take i rows)) (write_at rows i).word ≡ Some seen
    → overlay m (take (i + 1) rows) ≡ slice_set (overlay m (take i rows)) (write_at rows i).word (merge seen (write_at rows i).mask (write_at rows i).value)
stores_part m rows i seen l got =
    let r : Row = write_at rows i in
    overlay-next m rows i l
    ∙ ap (λ (v : ℕ). slice_set (overlay m (take i rows)) r.word (merge v r.mask r.value)) (index_of (overlay m (take i rows)) r.word seen got)

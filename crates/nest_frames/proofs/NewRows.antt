-- Words of which the innermost block's begin had no row.
use Rattle.std.proofs.Common.{◌≡◌, ◌<◌, ◌≤◌, ℕ, List, [], ◌∷◌, length, take, drop, reverse, None, refl, sym, ap, subst, ◌∙◌, arith}
use Rattle.std.proofs.lemmas.Bool.Decides.{nat_tests}
use Rattle.nest_frames.proofs.Common.{Actions, AreMarks, AreUnder, IsNew, IsSound, Moment, Old, Place, Row, Written, frames_from, frames_of, length-reverse, length-take-le, lookup, replaced, rows_of, Frame, Nest}
use Rattle.write_set.{specs.Marks.put_back, proofs.PutBack.length-put_back, proofs.PutBack.take-put_back}

-- a row in the place of its word's leaves no word without one
lookup-replaced_none : (rows : List Row) (s : Row) (word : ℕ) → lookup word (replaced rows s) ≡ None → lookup word rows ≡ None
lookup-replaced_none [] s word n = refl
lookup-replaced_none (r ∷ rs) s word n = grind (arith, nat_tests, lookup-replaced_none rs s word)

lookup-put_back_none : (saves rows : List Row) (word : ℕ) → lookup word (put_back saves rows) ≡ None → lookup word rows ≡ None
lookup-put_back_none [] rows word n = n
lookup-put_back_none (s ∷ saves) rows word n = lookup-put_back_none saves rows word (lookup-replaced_none (put_back saves rows) s word n)

IsNew-from : (w : Written) (os : List Old) (logs : ℕ) (ms : List Moment) (word : ℕ) → AreUnder w.inner logs ms → 0 < length (frames_from w os ms)
    → lookup word (rows_of (frames_from w os ms)) ≡ None → IsNew w word
IsNew-from w os logs [] word u some none = absurd (omega (arith, some))
IsNew-from w os logs (m ∷ ms) word u some none =
    let saves = drop m.rows.here.saves w.saves in
    let before = lookup-put_back_none saves (take m.rows.here.rows w.rows) word (ap (lookup word) (sym (take-put_back m.rows.here.rows saves w.rows)) ∙ none) in
    subst (λ (p : Place). lookup word (take p.rows w.rows) ≡ None) u.0 before

-- such a word is new
pub IsNew-at_begin : (w : Written) (os : List Old) (a : Actions) (ms : List Moment) (word : ℕ) (v : Nest) → IsSound w os a ms → frames_of w os ms ≡ v.blocks → 0 < length v.blocks
    → lookup word (rows_of v.blocks) ≡ None → IsNew w word
IsNew-at_begin w os a ms word v s is some none =
    IsNew-from w os (length os) (reverse ms) word s.under (subst (λ (bs : List Frame). 0 < length bs) (sym is) some) (ap (λ (bs : List Frame). lookup word (rows_of bs)) is ∙ none)

begun_from : (w : Written) (os : List Old) (logs : ℕ) (ms : List Moment) → AreUnder w.inner logs ms → AreMarks w → 0 < length ms
    → w.inner.rows ≡ length (rows_of (frames_from w os ms))
begun_from w os logs [] u a some = absurd (omega (arith, some))
begun_from w os logs (m ∷ ms) u a some =
    let saved = put_back (drop m.rows.here.saves w.saves) w.rows in
    let here : m.rows.here.rows ≡ w.inner.rows = ap (λ (p : Place). p.rows) u.0 in
    let within : m.rows.here.rows ≤ length saved = omega (arith, here, a.inner.rows, length-put_back (drop m.rows.here.saves w.saves) w.rows) in
    sym here ∙ sym (length-take-le m.rows.here.rows saved within)

-- the innermost mark is where the innermost block began
pub inner-at_begin : (w : Written) (os : List Old) (a : Actions) (ms : List Moment) → IsSound w os a ms → AreMarks w → w.inner.rows ≡ length (rows_of (frames_of w os ms))
inner-at_begin w os a [] s k = ap (λ (v : Written). v.inner.rows) s.empty.0
inner-at_begin w os a (m ∷ ms) s k = begun_from w os (length os) (reverse (m ∷ ms)) s.under k (omega (arith, length-reverse (m ∷ ms)))

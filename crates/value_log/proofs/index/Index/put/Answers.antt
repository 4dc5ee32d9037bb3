use Rattle.std.proofs.Common.{◌≡◌, ℕ, ◌∷◌, ◌++◌, [], length, Some, slice_get, slice_set, sym, ap, subst, ◌∙◌, ◌<◌}
use Rattle.value_log.proofs.Common.{IsIndex, LogRow, slice_get-get_or}
use Rattle.value_log.proofs.IndexedRows.{index_push}
use Rattle.value_log.proofs.index.Index.put.Goals as goal

pub returns-clause-index : goal.returns-clause-index
returns-clause-index c = λ rows size is value.
    let last = c.args.self.now.last.items in
    let before = c.args.self.now.before.items in
    let row : LogRow = record { word = c.args.word; value = value } in
    let old = c.index-before.result.now in
    let own = c.slot-slot.ensures.slot in
    let there = slice_get-get_or last c.slot-slot.result old c.slot-slot.ensures.within ∙ ap Some (sym c.index-before.ensures) in
    let pushed = index_push last before rows row old (subst (λ (n : ℕ). slice_get last n ≡ Some old) own there) (subst (λ (n : ℕ). n < length before) (sym size) c.requires.room) is in
    subst (λ (n : ℕ). IsIndex (slice_set last c.slot-slot.result n) (slice_set before n old) (rows ++ row ∷ [])) size
    (subst (λ (n : ℕ). IsIndex (slice_set last n (length rows)) (slice_set before (length rows) old) (rows ++ row ∷ [])) (sym own) pushed)

use Rattle.std.proofs.Common.{◌≡◌, ◌<◌, ℕ, Some, get_or, length, sym, ap, subst, arith, ◌∙◌}
use Rattle.value_log.proofs.Common.{IsLast, LogRow, slice_get-get_or, value_of}
use Rattle.value_log.proofs.IndexedRows.{none_at_end, none_past_chain, stands_before, still_before, value_at}
use Rattle.value_log.proofs.index.Index.find.Goals as goal

-- what is read where no row stands
abbrev nothing : LogRow
nothing = record { word = 0; value = 0 }

pub loop-place-init : goal.loop-place-init
loop-place-init c =
    let last = c.args.self.now.last.items in
    let there = slice_get-get_or last c.slot-slot.result c.index.result.now c.slot-slot.ensures.within ∙ ap Some (sym c.index.ensures) in
    (omega arith, c.requires.index.heads c.slot-slot.result c.index.result.now there, stands_before c.args.rows.now c.args.word)

pub returns-then-row-word : goal.returns-then-row-word
returns-then-row-word c =
    let rows = c.args.rows.now in
    let place = c.loop-place.place in
    let row = get_or rows place nothing in
    let here = slice_get-get_or rows place nothing (omega (arith, c.loop-place-test.true, c.loop-place.invariant.0)) in
    sym (subst (λ (n : ℕ). value_of n rows ≡ Some row.value) c.if-row-word.true (value_at rows place row c.requires.single here))

pub returns-then-slot : goal.returns-then-slot
returns-then-slot c =
    let slots = length c.args.self.now.last.items in
    let rows = c.args.rows.now in
    let end = c.loop-place.end in
    let place = c.loop-place.place in
    let own = c.slot-slot.ensures.slot in
    let here = slice_get-get_or rows place nothing (omega (arith, c.loop-place-test.true, c.loop-place.invariant.0)) in
    let is = subst (λ (n : ℕ). IsLast slots rows n end place) own c.loop-place.invariant.1 in
    sym (none_past_chain slots rows c.args.word end place is c.loop-place.invariant.2 (get_or rows place nothing) here
    (λ same. c.if-slot.true (c.slot.ensures.slot ∙ (same ∙ sym own))))

pub loop-place-preserved : goal.loop-place-preserved
loop-place-preserved c =
    let slots = length c.args.self.now.last.items in
    let rows = c.args.rows.now in
    let before = c.args.self.now.before.items in
    let end = c.loop-place.end in
    let place = c.loop-place.place in
    let next = c.index-in-loop-place.result.now in
    let row = get_or rows place nothing in
    let within : place < length rows = omega (arith, c.loop-place-test.true, c.loop-place.invariant.0) in
    let here = slice_get-get_or rows place nothing within in
    let there = slice_get-get_or before place next (omega (arith, within, c.requires.index.within)) ∙ ap Some (sym c.index-in-loop-place.ensures) in
    let own = c.slot-slot.ensures.slot in
    let is = subst (λ (n : ℕ). IsLast slots rows n end place) own c.loop-place.invariant.1 in (
      omega (arith, within),
      subst (λ (n : ℕ). IsLast slots rows n place next) (sym c.slot.ensures.slot ∙ c.if-slot.false) (c.requires.index.links place next row here there),
      still_before slots rows c.args.word end place is c.loop-place.invariant.2 row here c.if-row-word.false,
    )

pub returns : goal.returns
returns c =
    let slots = length c.args.self.now.last.items in
    let rows = c.args.rows.now in
    let end = c.loop-place.end in
    let place = c.loop-place.place in
    let is = subst (λ (n : ℕ). IsLast slots rows n end place) c.slot-slot.ensures.slot c.loop-place.invariant.1 in
    sym (none_at_end slots rows c.args.word end place is c.loop-place.invariant.2 (omega (arith, c.loop-place-test.false)))

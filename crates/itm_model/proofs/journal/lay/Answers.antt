use Rattle.std.proofs.Common.{◌≡◌, ◌≤◌, ◌+◌, ℕ, length, drop, ap, sym, subst, ◌∙◌, arith, rules}
use Rattle.itm_model.proofs.Common.{Old, slice, with_slice}
use Rattle.itm_model.proofs.Journals.Rollbacks.{length-put_back, length-slice, length-with_slice}
use Rattle.itm_model.proofs.Journals.LaidBytes.{laid_over, laid_one, laid_again, laid_next}
use Rattle.itm_types.proofs.Elements.{all_at}
use Rattle.itm_model.proofs.journal.lay.Goals as goal

pub loop-old-init : goal.loop-old-init
loop-old-init c =
    let m = c.args.memory.now in
    record {
      size = ap (length {A = ℕ}) c.requires.base ∙ length-put_back c.args.journal.now m c.requires.within;
      rest = laid_again c.args.journal.now m c.args.base.now.items c.requires.within c.requires.base;
    }

pub range_at-requires : goal.range_at-requires
range_at-requires c =
    let o = c.old-item.result in
    let within : o.place + length o.bytes.items ≤ length c.args.memory.now = subst (λ (x : Old). x.place + length x.bytes.items ≤ length c.args.memory.now) (sym c.old-item.is) (all_at (λ x. x.place + length x.bytes.items ≤ length c.args.memory.now) c.args.journal.now c.loop-old.old-index o c.requires.within c.loop-old-test.true) in
    let len = c.len-size.ensures.value in
    search (rules, within, len)

pub replace-requires : goal.replace-requires
replace-requires c =
    let o = c.old-item.result in
    let m = c.args.memory.now in
    let within : o.place + length o.bytes.items ≤ length m = subst (λ (x : Old). x.place + length x.bytes.items ≤ length m) (sym c.old-item.is) (all_at (λ x. x.place + length x.bytes.items ≤ length m) c.args.journal.now c.loop-old.old-index o c.requires.within c.loop-old-test.true) in
    let len = c.len-size.ensures.value in
    let size : length c.range_at.result.now ≡ c.len-size.result = ap (length {A = ℕ}) c.range_at.ensures ∙ length-slice m o.place c.len-size.result (omega (arith, within, len)) in
    let long = c.loop-old.invariant.size in
    search (rules, within, len, size, long)

pub loop-old-preserved : goal.loop-old-preserved
loop-old-preserved c =
    let o = c.old-item.result in
    let m = c.args.memory.now in
    let b = c.loop-old.base.items in
    let within : o.place + length o.bytes.items ≤ length m = subst (λ (x : Old). x.place + length x.bytes.items ≤ length m) (sym c.old-item.is) (all_at (λ x. x.place + length x.bytes.items ≤ length m) c.args.journal.now c.loop-old.old-index o c.requires.within c.loop-old-test.true) in
    let put : c.replace.new.bytes.items ≡ laid_one o m b = c.replace.ensures ∙ ap (with_slice b o.place) (c.range_at.ensures ∙ ap (slice m o.place) c.len-size.ensures.value) in
    let size : length (slice m o.place (length o.bytes.items)) ≡ length o.bytes.items = length-slice m o.place (length o.bytes.items) within in
    let next : laid_over (drop c.loop-old.old-index c.args.journal.now) m b ≡ laid_over (drop (c.loop-old.old-index + 1) c.args.journal.now) m (laid_one o m b) =
    laid_next c.args.journal.now c.loop-old.old-index o m b c.loop-old-test.true ∙ ap (λ (x : Old). laid_over (drop (c.loop-old.old-index + 1) c.args.journal.now) m (laid_one x m b)) (sym c.old-item.is) in
    record {
      size = ap (length {A = ℕ}) put ∙ (length-with_slice b o.place (slice m o.place (length o.bytes.items)) (omega (arith, within, size, c.loop-old.invariant.size)) ∙ c.loop-old.invariant.size);
      rest = ap (laid_over (drop (c.loop-old.old-index + 1) c.args.journal.now) m) put ∙ (sym next ∙ c.loop-old.invariant.rest);
    }

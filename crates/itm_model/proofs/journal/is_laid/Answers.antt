use Rattle.std.proofs.Common.{◌≡◌, ◌≤◌, ◌+◌, ℕ, length, ap, sym, subst, ◌∙◌, rules, Bool, true, false, not, get_or, refl, nat_eq}
use Rattle.itm_model.proofs.Common.{Old, slice}
use Rattle.std.{proofs.lemmas.Slice.Eq.bytes_eq-Decides, specs.Cmp.Lexicographic.pointwise}
use Rattle.itm_model.{proofs.Journals.Rollbacks.length-put_back, proofs.Journals.LaidBytes.laid_again, proofs.Journals.LaidBytes.laid_nothing}
use Rattle.itm_types.proofs.Elements.{all_at}
use Rattle.itm_model.proofs.journal.is_laid.Goals as goal

not-not : (b : Bool) → not (not b) ≡ b
not-not true = refl
not-not false = refl

pub loop-old-init : goal.loop-old-init
loop-old-init c = laid_again c.args.journal.now c.args.memory.now c.args.base.now c.requires.within c.requires.base

pub range_at-requires : goal.range_at-requires
range_at-requires c =
    let o = c.old-item.result in
    let within : o.place + length o.bytes.items ≤ length c.args.memory.now = subst (λ (x : Old). x.place + length x.bytes.items ≤ length c.args.memory.now) (sym c.old-item.is) (all_at (λ x. x.place + length x.bytes.items ≤ length c.args.memory.now) c.args.journal.now c.loop-old.old-index o c.requires.within c.loop-old-test.true) in
    let len = c.len-size.ensures.value in
    search (rules, within, len)

pub range_at-requires-in-loop-old : goal.range_at-requires-in-loop-old
range_at-requires-in-loop-old c =
    let o = c.old-item.result in
    let m = c.args.memory.now in
    let within : o.place + length o.bytes.items ≤ length m = subst (λ (x : Old). x.place + length x.bytes.items ≤ length m) (sym c.old-item.is) (all_at (λ x. x.place + length x.bytes.items ≤ length m) c.args.journal.now c.loop-old.old-index o c.requires.within c.loop-old-test.true) in
    let len = c.len-size.ensures.value in
    let size : length c.args.base.now ≡ length m = ap (length {A = ℕ}) c.requires.base ∙ length-put_back c.args.journal.now m c.requires.within in
    search (rules, within, len, size)

pub loop-old-preserved : goal.loop-old-preserved
loop-old-preserved c =
    let o = c.old-item.result in
    let m = c.args.memory.now in
    let b = c.args.base.now in
    let os = c.args.journal.now in
    let i = c.loop-old.old-index in
    let equal : pointwise nat_eq c.range_at.result.now c.range_at-in-loop-old.result.now ≡ true = sym (not-not (pointwise nat_eq c.range_at.result.now c.range_at-in-loop-old.result.now)) ∙ ap not (sym c.ne.ensures ∙ c.if-ne.false) in
    let read : c.range_at.result.now ≡ c.range_at-in-loop-old.result.now = (bytes_eq-Decides c.range_at.result.now c.range_at-in-loop-old.result.now).0 equal in
    let len : c.len-size.result ≡ length o.bytes.items = c.len-size.ensures.value in
    let here : slice m o.place (length o.bytes.items) ≡ slice b o.place (length o.bytes.items) =
    subst (λ (n : ℕ). slice m o.place n ≡ slice b o.place n) len (sym c.range_at.ensures ∙ (read ∙ c.range_at-in-loop-old.ensures)) in
    let same : slice m (get_or os i o).place (length (get_or os i o).bytes.items) ≡ slice b (get_or os i o).place (length (get_or os i o).bytes.items) =
    subst (λ (x : Old). slice m x.place (length x.bytes.items) ≡ slice b x.place (length x.bytes.items)) c.old-item.is here in
    laid_nothing os i o m b c.loop-old-test.true c.requires.within (ap (length {A = ℕ}) c.requires.base ∙ length-put_back os m c.requires.within) same c.loop-old.invariant

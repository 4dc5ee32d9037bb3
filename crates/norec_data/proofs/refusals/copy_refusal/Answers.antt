use Rattle.std.proofs.Common.{◌≡◌, Bool, true, sym, ap, ◌∙◌, length}
use Rattle.std.specs.Option.{option_or}
use Rattle.itm_types.specs.declared.call.Refusal.TheVariants.{Outside, Overlap}
use Rattle.itm_model.specs.Machine.{is_clear, or_else, unless}
use Rattle.norec_core.specs.Copies.{source_refusal, target_refusal}
use Rattle.norec_data.{specs.View.in_block, proofs.OptionalRefusals.first_of_three}
use Rattle.norec_data.proofs.refusals.copy_refusal.Goals as goal

pub returns : goal.returns
returns c =
    let s = c.args.state.now in
    let k = c.args.copying in
    let target = target_refusal s.words (length s.arena) k.pair k.to k.size in
    let source = source_refusal s.words (length s.arena) k.pair k.from k.size in
    let is_open : in_block s ≡ true = sym c.is_open.ensures ∙ c.if-not-is_open.false in
    c.or-2.ensures
    ∙ ((λ i. option_or (c.or.ensures i) (c.overlap_refusal.ensures i))
    ∙ ((λ i. option_or (option_or (c.target_refusal.ensures i) (c.source_refusal.ensures i)) (unless (is_clear k) Overlap))
    ∙ (first_of_three target source (unless (is_clear k) Overlap)
    ∙ ap (λ (b : Bool). or_else (unless b Outside) (or_else target (or_else source (unless (is_clear k) Overlap)))) (sym is_open))))

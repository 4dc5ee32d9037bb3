use Rattle.std.proofs.Common.{◌≡◌, ℕ, [], ◌∷◌, ◌++◌, length, ap, sym, subst, refl, ◌∙◌, arith}
use Rattle.itm_model.proofs.Common.{AreWithin, Logged, Old}
use Rattle.itm_model.{proofs.Journals.Rollbacks.length-slice, proofs.Journals.KeptLogs.logged_one}
use Rattle.itm_types.proofs.Elements.{all_append}
use Rattle.itm_model.proofs.journal.keep_part.Goals as goal

pub returns-clause-logged : goal.returns-clause-logged
returns-clause-logged c =
    let os = c.args.logs.now.items in
    let o : Old = record { place = c.args.start; bytes = c.part_at-kept.result; earlier = 0 } in
    let items : c.push_reserved.new.self.items ≡ os ++ o ∷ [] = c.push_reserved.ensures.items in
    subst (Logged c.args.bytes.now c.args.start c.args.size os) (sym items) (logged_one c.args.bytes.now c.args.start c.args.size os o c.requires.range refl c.part_at-kept.ensures)

pub returns-clause-within : goal.returns-clause-within
returns-clause-within c =
    let os = c.args.logs.now.items in
    let n = length c.args.bytes.now in
    let o : Old = record { place = c.args.start; bytes = c.part_at-kept.result; earlier = 0 } in
    let items : c.push_reserved.new.self.items ≡ os ++ o ∷ [] = c.push_reserved.ensures.items in
    let len : length o.bytes.items ≡ c.args.size = ap (length {A = ℕ}) c.part_at-kept.ensures ∙ length-slice c.args.bytes.now c.args.start c.args.size c.requires.range in
    subst (AreWithin n) (sym items) (all_append _ os (o ∷ []) c.requires.within (omega (arith, c.requires.range, len), tt))

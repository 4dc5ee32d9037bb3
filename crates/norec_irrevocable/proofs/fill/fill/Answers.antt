use Rattle.std.proofs.Common.{◌+◌, ◌*◌, ◌&&◌, nat_le, [], sym, refl, ◌∙◌}
use Rattle.norec_irrevocable.proofs.Common.{Fill, cond-true, in_block, le-leb, served}
use Rattle.norec_irrevocable.{proofs.Pieces.HeldCopies.fill_comes, proofs.Replies.PartsOfCalls.as_call, proofs.Replies.Refusals.refused_access}
use Rattle.norec_irrevocable.proofs.fill.fill.Goals as goal

pub returns-in-Some : goal.returns-in-Some
returns-in-Some c = rw c.start_call.ensures (refused_access c.args.state.now (Fill c.args.hint c.args.to c.args.byte c.args.size) c.in-Some.why c.args.to c.args.size c.requires.held refl (sym c.access_refusal-refused.ensures.value ∙ c.in-Some.is))

pub returns-in-None : goal.returns-in-None
returns-in-None c =
    let s = c.args.state.now in
    let a = c.args in
    let may = served (in_block s) s.words a.to a.size (sym c.access_refusal-refused.ensures.value ∙ c.in-None.is) in
    as_call s (Fill a.hint a.to a.byte a.size) s.value s.gathered _ _ (rw c.start_call.ensures at (c.fill_on.ensures [])) refl
    (sym (cond-true (in_block s && nat_le (a.to + a.size) (8 * s.words)) _ _ (λ i. may.0 i && le-leb (a.to + a.size) (8 * s.words) may.1 i))) refl
    (λ m mem. fill_comes s may.0 m mem a.hint a.to a.byte a.size may.1)

use Rattle.std.proofs.Common.{Bool, [], length, sym, ap, refl, ◌∙◌, is_none}
use Rattle.norec_irrevocable.proofs.Common.{Copy, IsServed, cond-true, copy_refusal, in_block}
use Rattle.norec_irrevocable.{proofs.Pieces.HeldCopies.copy_comes, proofs.Replies.PartsOfCalls.as_call, proofs.Replies.Refusals.refused_copy}
use Rattle.norec_irrevocable.proofs.copy.copy.Goals as goal

pub returns-in-Some : goal.returns-in-Some
returns-in-Some c = rw c.start_call.ensures (refused_copy c.args.state.now c.args.copying c.in-Some.why c.requires.held (sym c.copy_refusal-refused.ensures ∙ c.in-Some.is))

pub returns-in-None : goal.returns-in-None
returns-in-None c =
    let s = c.args.state.now in
    let k = c.args.copying in
    let asked = sym c.copy_refusal-refused.ensures ∙ c.in-None.is in
    let served : IsServed s k = sym (ap (λ (o : Bool). copy_refusal o s.words (length s.arena) k) c.requires.held.is_open) ∙ asked in
    as_call s (Copy k) s.value s.gathered _ _ (rw c.start_call.ensures at (c.chunk_on.ensures [])) refl
    (sym (cond-true (is_none (copy_refusal (in_block s) s.words (length s.arena) k)) _ _ (ap is_none asked))) refl
    (λ m mem. copy_comes s c.requires.held.is_open m mem k served)

use Rattle.std.proofs.Common.{◌≡◌, ℕ, suc, ◌+◌, ◌*◌, ◌%◌, ◌≤◌, [], drop, length, slice_get, refl, sym, ap, subst, ◌∙◌, arith}
use Rattle.norec_irrevocable.proofs.Common.{AreBytes, Idle, Up, chunks_of, fill_stage, filled_each, kept, length-replicate, none_drop, some_drop, written_at}
use Rattle.norec_irrevocable.{proofs.Replies.HeldAccesses.kept_written, proofs.Replies.Completions.fill_done, proofs.Replies.PartsOfCalls.turned}
use Rattle.norec_irrevocable.proofs.fill.fill_on.Goals as goal

none_left : (c : goal.In_default) → drop c.args.number (chunks_of Up c.args.size) ≡ []
none_left c = none_drop (chunks_of Up c.args.size) c.args.number (sym (c.get.ensures.value ∙ (λ i. slice_get (chunks_of (c.new.ensures.direction i) (c.new.ensures.size i)) c.args.number)) ∙ c.in_default.is)

pub returns-in_default : goal.returns-in_default
returns-in_default c bytes = record {
  sound = c.requires.held;
  proceeds = fill_done c.args.state.now c.requires.held.is_open c.args.hint c.args.to c.args.byte c.args.size bytes c.requires.may.within;
  comes = λ m mem. (sym (ap (filled_each (kept c.args.state.now m) c.args.to (c.args.byte % 256)) (none_left c)), refl);
  stays = record { opens = λ o. o; log = λ o. refl; snapshot = refl };
  order = sym (ap (fill_stage c.args.hint c.args.to c.args.byte c.args.size c.args.number) (none_left c));
  ends = tt;
}

pub returns : goal.returns
returns c bytes =
    let s = c.args.state.now in
    let a = c.args in
    let chunk = c.in-Some.chunk in
    let put = c.repeated-state.result.items in
    let byte = a.byte % 256 in
    let next = some_drop (chunks_of Up a.size) a.number chunk (sym (c.get.ensures.value ∙ (λ i. slice_get (chunks_of (c.new.ensures.direction i) (c.new.ensures.size i)) a.number)) ∙ c.in-Some.is) in
    let rest = drop (suc a.number) (chunks_of Up a.size) in
    let l : a.to + chunk.at + chunk.size ≤ 8 * s.words = omega (arith, c.in-Some.ensures.next.in_range, c.requires.may.within) in
    let many : length put ≡ chunk.size = ap (length {A = ℕ}) c.repeated-state.ensures ∙ length-replicate chunk.size byte in
    let fit : AreBytes put = subst AreBytes c.deref.ensures.0 c.are_bytes.ensures in
    turned s s.arena c.repeated-state.result _ _ (c.start.ensures.goes bytes Idle (sym c.repeated-state.ensures)) refl (sym (ap (fill_stage a.hint a.to a.byte a.size a.number) next))
    (λ m mem. (
      (λ i. filled_each (kept_written s m put (a.to + chunk.at) chunk.size mem fit many l i) a.to byte rest)
          ∙ ((λ i. filled_each (written_at (kept s m) (a.to + chunk.at) (c.repeated-state.ensures i)) a.to byte rest) ∙ sym (ap (filled_each (kept s m) a.to byte) next)),
      refl,
    ))

use Rattle.std.proofs.Common.{◌≡◌, ◌+◌, ◌-◌, take, None, Some, drop, slice_get, refl, sym, ◌∙◌, arith}
use Rattle.norec_irrevocable.proofs.Common.{Idle, chunks_in, chunks_of, slice}
use Rattle.norec_irrevocable.proofs.Pieces.ChunkPhases.{copy_over, out_comes_next}
use Rattle.norec_irrevocable.proofs.Pieces.HeldCopies.{sent_comes, out_source}
use Rattle.norec_irrevocable.proofs.Replies.PartsOfCalls.{turned}
use Rattle.norec_irrevocable.proofs.copy.send_chunk.Goals as goal

pub returns-in_default : goal.returns-in_default
returns-in_default c bytes =
    let none : slice_get (chunks_in c.args.copying) c.args.number ≡ None = sym (c.get.ensures.value ∙ (λ i. slice_get (chunks_of (c.chunks.ensures.direction i) (c.chunks.ensures.size i)) c.args.number)) ∙ c.in_default.is in
    copy_over c.args.state.now c.args.copying c.args.number bytes c.requires.held c.requires.may.served none

pub returns : goal.returns
returns c bytes =
    let s = c.args.state.now in
    let k = c.args.copying in
    let n = c.args.number in
    let chunk = c.in-Some.chunk in
    let many : k.from + chunk.at + c.from.result - (k.from + chunk.at) ≡ chunk.size = omega (arith, c.from.ensures) in
    let is : slice_get (chunks_in k) n ≡ Some chunk = sym (c.get.ensures.value ∙ (λ i. slice_get (chunks_of (c.chunks.ensures.direction i) (c.chunks.ensures.size i)) n)) ∙ c.in-Some.is in
    let put : c.value_of-state.result.items ≡ slice s.arena (k.from + chunk.at) chunk.size = c.value_of-state.ensures.items ∙ (λ i. take (many i) (drop (k.from + chunk.at) (c.bytes.ensures i))) in
    turned s s.arena c.value_of-state.result _ _ (c.store_chunk.ensures.goes bytes Idle (out_source k k.pair chunk.at chunk.size s.arena bytes c.requires.out ∙ sym put)) refl
    (out_comes_next k n chunk is c.requires.out) (λ m mem. (sent_comes s k n chunk is c.requires.out c.value_of-state.result.items put m, refl))

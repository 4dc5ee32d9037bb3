use Rattle.std.proofs.Common.{Ok, List, ℕ, ap, ◌∙◌, sym, ◌≡◌, ◌/◌, ◌++◌, length}
use Rattle.history_reader.proofs.Common.{decoded, size_of, sized}
use Rattle.history_reader.proofs.Values.{said_into}
use Rattle.history_reader.proofs.digits.value.Goals as goal

pub returns-clause-value : goal.returns-clause-value
returns-clause-value c =
    let n = size_of c.args.width in
    let f = c.in_ok-digits.digits.now in
    let count : c.from-size.result ≡ n = c.from-size.ensures ∙ c.size.ensures.value in
    let room : length c.split_at_mut-said.result.0.now ≡ n = c.split_at_mut-said.ensures.front_len ∙ count in
    let twice : length f / 2 ≡ n = c.in_ok-digits.ensures.count ∙ count in
    let new : c.decode_to_slice.new.out ≡ decoded f =
    said_into n f c.split_at_mut-said.result.0.now c.decode_to_slice.new.out c.decode_to_slice.result c.in_ok-digits.ensures.hex twice room c.decode_to_slice.ensures.value in
    let items : c.try_extend_from_slice.new.self.items ≡ decoded f = c.in-Ok.ensures.ok ∙ ap (λ (xs : List ℕ). xs ++ c.decode_to_slice.new.out) c.new-value.ensures ∙ new in
    ap (λ (m : ℕ). sized m c.args.field.now) (sym count) ∙ c.in_ok-digits.ensures.value ∙ ap (λ (bytes : List ℕ). Ok bytes) (sym items)

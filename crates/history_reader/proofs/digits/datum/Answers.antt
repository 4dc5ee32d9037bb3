use Rattle.std.proofs.Common.{Ok, Result, List, ℕ, ap, ◌∙◌, sym}
use Rattle.history_reader.proofs.Common.{FaultKind, Datum, datum, datum_of, size_of, ◌>>=◌}
use Rattle.history_reader.proofs.Values.{same_datum, low_is}
use Rattle.history_reader.proofs.digits.datum.Goals as goal

pub returns : goal.returns
unfolding datum
returns c =
    let w = c.args.width in
    let v = c.in_ok-value.value.items in
    let same = same_datum c.new.result (datum_of w v) c.new.ensures.width (c.new.ensures.bytes ∙ c.as_slice.ensures.value ∙ sym (low_is (size_of w) v c.in_ok-value.ensures.length)) in
    ap (λ (d : Datum). Ok d) same ∙ sym (ap (λ (r : Result (List ℕ) FaultKind). r >>= λ bytes. Ok (datum_of w bytes)) c.in_ok-value.ensures.value)

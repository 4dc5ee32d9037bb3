use Rattle.std.proofs.Common.{◌≡◌, ◌/◌, length}
use Rattle.script_fields.proofs.HexDigits.{decoded_into, literal_is}
use Rattle.script_fields.proofs.hex_digits.literal_of.Goals as goal

pub returns : goal.returns
returns c =
    let f = c.args.digits.now in
    let room : length c.split_at_mut-said.result.0.now ≡ length f / 2 = c.split_at_mut-said.ensures.front_len in
    literal_is f c.decode_to_slice.new.out c.split_at_mut-said.result.1.now c.requires.hex c.requires.few
    (decoded_into f c.split_at_mut-said.result.0.now c.decode_to_slice.new.out c.decode_to_slice.result c.requires.hex room c.decode_to_slice.ensures.value)
    c.split_at_mut-said.ensures.back

use Rattle.std.proofs.Common.{◌≡◌, ◌+◌, true, false, leb, length, sym, ap, arith}
use Rattle.script_asm.proofs.Common.{decoded, leb-true}
use Rattle.script_fields.proofs.HexDigits.{decoded_is, length-decoded}
use Rattle.script_asm.proofs.LaidBytes.{lies_beyond, left_within, adds_bytes}
use Rattle.script_asm.proofs.directives.lay_in.Goals as goal

pub returns-then-not-fits : goal.returns-then-not-fits
returns-then-not-fits c =
    let beyond : leb (c.args.at + length (decoded c.args.digits.now)) c.in-Some.opening.size ≡ false = rw (length-decoded c.args.digits.now c.requires) at (sym c.if-not-fits.ensures) in
    rw c.fault-then-not-fits.ensures (lies_beyond c.args.state.now c.args.line c.args.at (decoded c.args.digits.now) c.in-Some.opening c.in-Some.is beyond)

pub returns-in_default-decode : goal.returns-in_default-decode
returns-in_default-decode c =
    let within : leb (c.args.at + length (decoded c.args.digits.now)) c.in-Some.opening.size ≡ true = rw (length-decoded c.args.digits.now c.requires) at (sym c.if-not-fits.ensures) in
    adds_bytes c.args.state.now c.args.line c.args.at (decoded c.args.digits.now) c.in-Some.opening c.in-Some.is within

pub add-requires : goal.add-requires
add-requires c =
    let within : leb (c.args.at + length (decoded c.args.digits.now)) c.in-Some.opening.size ≡ true = rw (length-decoded c.args.digits.now c.requires) at (sym c.if-not-fits.ensures) in
    omega (arith, leb-true _ _ within, ap length (decoded_is c.args.digits.now c.in-Ok.bytes.items c.in-Ok.ensures.ok))

pub returns-in-Ok-add : goal.returns-in-Ok-add
returns-in-Ok-add c =
    let within : leb (c.args.at + length (decoded c.args.digits.now)) c.in-Some.opening.size ≡ true = rw (length-decoded c.args.digits.now c.requires) at (sym c.if-not-fits.ensures) in
    left_within c.args.state.now c.args.line c.args.at (decoded c.args.digits.now) c.in-Ok.bytes.items c.in-Some.opening c.add.new.self c.in-Some.is within (decoded_is c.args.digits.now c.in-Ok.bytes.items c.in-Ok.ensures.ok) c.in-Ok-add.ensures.ok

pub returns-in-Err : goal.returns-in-Err
returns-in-Err c =
    let within : leb (c.args.at + length (decoded c.args.digits.now)) c.in-Some.opening.size ≡ true = rw (length-decoded c.args.digits.now c.requires) at (sym c.if-not-fits.ensures) in
    adds_bytes c.args.state.now c.args.line c.args.at (decoded c.args.digits.now) c.in-Some.opening c.in-Some.is within

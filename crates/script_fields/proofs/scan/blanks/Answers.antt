use Rattle.std.proofs.Common.{arith}
use Rattle.script_fields.proofs.Scans.{mask_of_either}
use Rattle.script_fields.proofs.scan.blanks.Goals as goal

pub returns : goal.returns
returns c = mask_of_either 32 9 8 c.args.bytes c.fits-bytes.0 (omega arith)

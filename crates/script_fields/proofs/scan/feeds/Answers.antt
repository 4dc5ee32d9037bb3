use Rattle.std.proofs.Common.{eqb, w8, arith}
use Rattle.script_fields.proofs.Common.{bitmask_splat}
use Rattle.script_fields.proofs.scan.feeds.Goals as goal

pub returns : goal.returns
returns c = bitmask_splat w8 eqb c.args.bytes 16 10 c.fits-bytes.0 (omega arith)

-- How reads of bytes are answered where the transaction goes on.
use Rattle.std.proofs.Common.{ℕ, false}
use Rattle.transactions.proofs.Common.{Answer, Core, GoesOn, HasValue, Read, Served, Standing, View, read_sized, start_of}
use Rattle.itm_types.{specs.declared.access.ReadHint.ReadHint, specs.declared.access.Width.Width}

-- a read that goes on has the bytes of a value
pub read_value : (t : Standing) (hint : ReadHint) (width : Width) (at : ℕ) (a : Answer) (v : View) (e : Core) → Served (start_of t (Read hint width at) false) a v e → GoesOn a → HasValue width a
read_value t hint width at a v e served on = read_sized hint width at (HasValue width) (λ bytes long. long) t a v e served on

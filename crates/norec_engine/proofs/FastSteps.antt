-- Which engines are on the fast path: those of revocable transactions.
use Rattle.std.proofs.Common.{◌≡◌, Bool, true, false, refl}
use Rattle.norec_engine.proofs.Common.{Data, IsSoundIn, Phase, in_block}

-- an irrevocable transaction is open
pub outside_revocable : (b : Bool) (d : Data) (phase : Phase) → IsSoundIn b d phase → in_block d ≡ false → b ≡ false
outside_revocable false d phase s outside = refl
outside_revocable true d phase s outside = (let inside = s.held.is_open in absurd (cc))

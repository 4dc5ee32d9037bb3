-- Later views of one pass.
use Rattle.std.proofs.Common.{◌∙◌, refl, arith}
use Rattle.call_rules.proofs.Common.{View, Went, starts_self, starts_trans}

pub went_self : (v : View) → Went v v
went_self v = record { base = refl; share = refl; grows = starts_self v.seen; looks = omega arith; high = omega arith }

pub went_on : (u v w : View) → Went u v → Went v w → Went u w
went_on u v w first then = record {
  base = then.base ∙ first.base;
  share = then.share ∙ first.share;
  grows = starts_trans w.seen v.seen u.seen then.grows first.grows;
  looks = omega (arith, first.looks, then.looks);
  high = omega (arith, first.high, then.high);
}

-- The first refusal of several.
use Rattle.std.proofs.Common.{◌≡◌, Option, None, Some, refl}
use Rattle.std.specs.Option.{option_or}
use Rattle.itm_types.specs.declared.call.Refusal.{Refusal}
use Rattle.itm_model.specs.Machine.{or_else}

pub first_of_three : (a b c : Option Refusal) → option_or (option_or a b) c ≡ or_else a (or_else b c)
first_of_three None None c = refl
first_of_three None (Some why) c = refl
first_of_three (Some why) b c = refl

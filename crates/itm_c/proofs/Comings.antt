-- What a call of a thread told is what its client's call came to.
use Rattle.std.proofs.Common.{◌≡◌, false, refl, subst, Option, None, Some}
use Rattle.itm_c.proofs.Common.{Answer, Client, Comes, IsAnswered, IsThreadStarved, Lodged, Standing, Tells, Words, arc_value, start_of}
use Rattle.itm_types.specs.declared.call.Call.{Call}

pub comes_of : (c : Client) (w : Words Lodged) (call : Call) (o : Option Answer) (t : Standing) → w ≡ arc_value c.words → Tells w c.thread call o t → Comes c call false o (record { words = c.words; thread = t })
comes_of c w call (Some a) t e told = (subst (λ (x : Words Lodged). IsAnswered x (start_of c.thread call false) a t.pass t.engine) e told, refl)
comes_of c w call None t e told = (subst (λ (x : Words Lodged). IsThreadStarved x c.thread call t) e told, refl)

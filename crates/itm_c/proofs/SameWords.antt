-- A thread that makes calls stays over the same words.
use Rattle.std.proofs.Common.{◌≡◌, Bool, ◌∙◌, ℕ, Option, None, Some}
use Rattle.itm_c.proofs.Common.{Answer, Client, Comes, Told, arc_value}
use Rattle.itm_types.specs.declared.call.Call.{Call}
use Rattle.itm_c.specs.Kept.{HoldsClient, StaysOver}
use Rattle.itm_c.specs.Told.{Answered, Answers, Tells}
use Rattle.itm_c.specs.declared.kept.Kept.{Kept}
use Rattle.itm_c.specs.declared.kept.Kept.TheVariants as kept

along : (P Q : Client → Type 0) → ((c : Client) → P c → Q c) → (o : Option Kept) → HoldsClient P o → HoldsClient Q o
along P Q f None p = absurd p
along P Q f (Some (kept.Root r)) p = absurd p
along P Q f (Some (kept.Client c)) p = f c p
along P Q f (Some kept.Closed) p = absurd p

came_over : (c d : Client) (call : Call) (again : Bool) (a : Option Answer) → Comes c call again a d → arc_value d.words ≡ arc_value c.words
came_over c d call again (Some a) p = p.1
came_over c d call again None p = p.1

pub told_over : (old new : Option Kept) (call : Call) (again : Bool) (code : ℕ) → Tells old call again code new → StaysOver old new
told_over old new call again code p =
    along (λ c. HoldsClient (λ d. Told c call again code d) new) (λ c. HoldsClient (λ d. arc_value d.words ≡ arc_value c.words) new)
    (λ c. along (λ d. Told c call again code d) (λ d. arc_value d.words ≡ arc_value c.words) (λ d t. came_over c d call again t.answer t.comes) new) old p

pub answered_over : (old new : Option Kept) (call : Call) (code : ℕ) → Answers old call code new → StaysOver old new
answered_over old new call code p =
    along (λ c. HoldsClient (λ d. Answered c call code d) new) (λ c. HoldsClient (λ d. arc_value d.words ≡ arc_value c.words) new)
    (λ c. along (λ d. Answered c call code d) (λ d. arc_value d.words ≡ arc_value c.words) (λ d t. t.comes.1) new) old p

pub over_still : (o m n : Option Kept) → StaysOver o m → StaysOver m n → StaysOver o n
over_still None m n p q = absurd p
over_still (Some (kept.Root r)) m n p q = absurd p
over_still (Some kept.Closed) m n p q = absurd p
over_still (Some (kept.Client c)) None n p q = absurd p
over_still (Some (kept.Client c)) (Some (kept.Root r)) n p q = absurd p
over_still (Some (kept.Client c)) (Some kept.Closed) n p q = absurd p
over_still (Some (kept.Client c)) (Some (kept.Client d)) n p q = along (λ e. arc_value e.words ≡ arc_value d.words) (λ e. arc_value e.words ≡ arc_value c.words) (λ e same. same ∙ p) n q

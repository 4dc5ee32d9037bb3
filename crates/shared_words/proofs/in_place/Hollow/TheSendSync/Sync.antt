use Rattle.shared_words.proofs.Common.{Ghosts, IsSync, RattleType}
use Rattle.shared_words.specs.contracts.in_place.Hollow as C

pub sync : (A : RattleType) (g : Ghosts A.Denot) → IsSync (C.the_row A g)
sync A g = record { shared = λ e b o κ. tt }

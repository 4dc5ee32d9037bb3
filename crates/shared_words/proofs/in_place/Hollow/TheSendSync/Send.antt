use Rattle.shared_words.proofs.Common.{Frees, Ghosts, IsSend, RattleType}
use Rattle.shared_words.proofs.HollowVecs.{hollow-send}
use Rattle.shared_words.specs.contracts.in_place.Hollow as C

pub send : (A : RattleType) (g : Ghosts A.Denot) → IsSend A → Frees g g.dealloc_token → IsSend (C.the_row A g)
send = hollow-send

-- A `&` to it holds nothing. Assumes `Logic`.
use Rattle.shared_words.proofs.Common.{Ghosts, Laws, RattleType, full_share, part_at}
use denote.SharingLaws.{nothing_shr_laws}
use denote.Struct.Lending.{Lends-nothing}
use Rattle.shared_words.specs.contracts.in_place.Hollow as C
use Rattle.shared_words.proofs.in_place.Hollow.TheLaw.Statement.{statement}

pub shares : (T : RattleType) (g : Ghosts T.Denot) (L : Laws T) → statement T g L
shares T g L = record {
  shr_laws = λ d b o. nothing_shr_laws;
  shares = λ M 𝓤 𝓛 d κ ts b o. Lends-nothing 𝓛 (part_at (C.the_written T g) full_share d b o) (C.the_written T g).lives κ ts;
}

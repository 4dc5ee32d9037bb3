-- What a block that goes back to its begin leaves: the arena its length, and as many blocks open.
use Rattle.std.proofs.Common.{◌≡◌, List, [], ◌∷◌, length, Option, None, Some, refl, ◌∙◌}
use Rattle.run_rules.proofs.Common.{Block, Frame, Props, Saved, State, back, back_from, begun_again, blocks_renewed as renewed, entered, length-restored, rolled_back}
use Rattle.itm_model.proofs.KeptEffects.{entered_kept}

-- ## The arena

entered_long : (s : State) (props : Props) → length (entered s props).arena ≡ length s.arena
entered_long s props = entered_kept (λ (t : State). length t.arena ≡ length s.arena) s props refl refl

back_long : (s : State) (blocks : List Block) → length (back_from s blocks).arena ≡ length s.arena
back_long s [] = refl
back_long s (b ∷ bs) = elim b.saved as (λ (o : Option Saved). length (rolled_back s bs o).arena ≡ length s.arena) [ None ↦ refl | Some saved ↦ length-restored saved.kept s.arena ]

-- gone back, the block leaves the arena its length
pub again_long : (blocks : List Frame) (s : State) → length (begun_again blocks (back s)).arena ≡ length s.arena
again_long [] s = back_long s s.blocks
again_long (b ∷ bs) s = entered_long (back s) b.props ∙ back_long s s.blocks

-- ## The blocks

-- as many are open
pub renewed_long : (bs : List Frame) → length (renewed bs) ≡ length bs
renewed_long [] = refl
renewed_long (b ∷ bs) = refl

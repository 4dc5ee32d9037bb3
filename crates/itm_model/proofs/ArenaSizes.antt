-- A call leaves the arena as long as it was.
use Rattle.std.proofs.Common.{◌≡◌, ℕ, List, [], ◌∷◌, length, Option, None, Some, refl, ◌∙◌}
use Rattle.itm_model.proofs.Common.{Block, Call, Props, Saved, State, after, back_from, entered, is_open, length-restored, opened, outside, rolled_back, undone_from}
use Rattle.itm_model.proofs.Journals.Rollbacks.{length-with_slice}
use Rattle.itm_model.proofs.KeptEffects.{IsKept, after_kept, either_kept, entered_kept}

-- as many bytes in the arena
abbrev pub IsAsLong : State → State → Type 0
IsAsLong s t = length t.arena ≡ length s.arena

entered_long : (s : State) (props : Props) → IsAsLong s (entered s props)
entered_long s props = entered_kept (IsAsLong s) s props refl refl

rolled_long : (s : State) (rest : List Block) (o : Option Saved) → IsAsLong s (rolled_back s rest o)
rolled_long s rest None = refl
rolled_long s rest (Some saved) = length-restored saved.kept s.arena

back_long : (s : State) (bs : List Block) → IsAsLong s (back_from s bs)
back_long s [] = refl
back_long s (x ∷ bs) = rolled_long s bs x.saved

undone_long : (s : State) (bs : List Block) → IsAsLong s (undone_from s bs)
undone_long s [] = refl
undone_long s (x ∷ bs) = undone_long (rolled_back s bs x.saved) bs ∙ rolled_long s bs x.saved

changed_long : (s : State) → IsKept (IsAsLong s) s
changed_long s = record {
  here = refl;
  begins = λ props. either_kept (IsAsLong s) (is_open s) (entered s props) (opened s.memory s.arena props) (entered_long s props) (entered_long (outside s.memory s.arena) props);
  closes = refl;
  undoes = undone_long s s.blocks;
  backs = back_long s s.blocks;
  turns = refl;
  writes = λ at bytes fits. refl;
  saves = λ at bytes fits. length-with_slice s.arena at bytes fits;
  logs = λ place size. refl;
  acts = λ kind action. refl;
}

pub after_long : (deepest : ℕ) (s : State) (c : Call) → IsAsLong s (after deepest s c)
after_long deepest s c = after_kept (IsAsLong s) s (changed_long s) deepest c

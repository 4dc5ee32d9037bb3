use Rattle.std.proofs.Common.{append_assoc, append-nil, sym}
use Rattle.step_picture.proofs.Common.{put_as}
use Rattle.picture_parts.specs.Looks.{colours_text, style_text}
use Rattle.step_picture.specs.Styles.{shapes_text}
use Rattle.step_picture.proofs.styles.put_looks.Goals as goal

pub returns : goal.returns
returns g c =
    put_as _ _ _ _ _ c.put_pieces.ensures
    (simp (append-nil, c.style-style.ensures, c.colours-colours.ensures, c.shapes-shapes.ensures) (sym (append_assoc style_text colours_text shapes_text)))

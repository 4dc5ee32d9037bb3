use Rattle.std.proofs.Common.{append_assoc, append-nil, sym}
use Rattle.history_picture.proofs.Common.{colours_text, page_text, put_as, style_text}
use Rattle.history_picture.proofs.drawing.put_looks.Goals as goal

pub returns : goal.returns
returns g c =
    put_as _ _ _ _ _ c.put_pieces.ensures
    (simp (append-nil, c.style-style.ensures, c.colours-colours.ensures, c.page-page.ensures) (sym (append_assoc style_text colours_text page_text)))

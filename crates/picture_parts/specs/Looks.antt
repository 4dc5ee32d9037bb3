-- How pictures look.
use Rattle.std.specs.Prelude.{ℕ, List, ◌++◌, codes, decimal}
use Rattle.tx_attempts.specs.declared.attempt.Outcome.{Outcome}
use Rattle.tx_attempts.specs.declared.attempt.Outcome.TheVariants.{Committed, ReadOnly, Cancelled, Conflict, Full, NoMemory, Unfinished}

-- how texts and lines look
unfoldable pub style_text : List ℕ
style_text = codes "<style>\ntext{font-size:.6px}\npath,circle{fill:none;stroke:#000;stroke-width:.07}\nrect{stroke:#000;stroke-width:.06}\n.ink{fill:#000}\n.note{text-anchor:middle}\n.page{fill:#fff;stroke:none}\n.lane{stroke:#aaa}\n.clear{fill:#fff;stroke:#aaa}\n.held{fill:#aaa;stroke:#aaa}\n.committed{fill:#7fc49b}\n"

-- how bars look, by how their attempts ended
unfoldable pub colours_text : List ℕ
colours_text = codes ".readonly{fill:#d5efdf}\n.cancelled{fill:#ddd;stroke-dasharray:.4 .1}\n.conflict{fill:#fff;stroke-dasharray:.2 .15}\n.broken{fill:#f3d9b0;stroke-dasharray:.2 .15}\n.unfinished{fill:#eef;stroke-dasharray:.06 .15}\n</style>\n"

-- how the bar of an attempt looks, by how it ended
unfoldable pub look_text : Outcome → List ℕ
look_text Committed = codes "committed"
look_text ReadOnly = codes "readonly"
look_text Cancelled = codes "cancelled"
look_text Conflict = codes "conflict"
look_text Full = codes "broken"
look_text NoMemory = codes "broken"
look_text Unfinished = codes "unfinished"

-- so wide, with so many lanes
unfoldable pub front_text : ℕ → ℕ → List ℕ
front_text wide lanes =
    codes "<svg xmlns=\"http://www.w3.org/2000/svg\" font-family=\"monospace\" font-size=\"16\" width=\"" ++ decimal wide ++ codes "em\" height=\"" ++ decimal lanes
    ++ codes "4em\" viewBox=\"-5 -1 " ++ decimal wide ++ codes " " ++ decimal lanes ++ codes "4\">\n"

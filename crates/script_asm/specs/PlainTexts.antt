-- Texts that are plain: with no comment, and of bytes that a line may hold.
use Rattle.std.specs.Prelude.{ℕ, ◌&&◌, ◌||◌, not, Bool, nat_le}
use Rattle.script_fields.specs.Text.{is_feed, is_semicolon}

-- a visible byte or a space
abbrev pub is_shown : ℕ → Bool
is_shown b = nat_le 32 b && nat_le b 126

-- and not that which begins a comment
abbrev pub is_plain : ℕ → Bool
is_plain b = is_shown b && not (is_semicolon b)

-- or the end of a line
abbrev pub is_plain_or_feed : ℕ → Bool
is_plain_or_feed b = is_feed b || is_plain b

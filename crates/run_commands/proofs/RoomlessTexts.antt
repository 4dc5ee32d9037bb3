-- The room that is left in an attempt is in no text.
use Rattle.std.proofs.Common.{◌≡◌, List, [], ◌∷◌, ◌++◌, map, ℕ, refl, ap, flat_map}
use Rattle.run_commands.proofs.Common.{Attempt, History, attempt_lines, first_lines, head_line, history_text, last_line, roomless, try_text, without_room}

roomless_lines : (a : Attempt) → attempt_lines (without_room a) ≡ attempt_lines a
unfolding attempt_lines head_line try_text
roomless_lines a = refl

roomless_all : (all : List Attempt) → flat_map attempt_lines (map without_room all) ≡ flat_map attempt_lines all
roomless_all [] = refl
roomless_all (a ∷ rest) = λ i. roomless_lines a i ++ roomless_all rest i

pub roomless_text : (h : History) → history_text (roomless h) ≡ history_text h
unfolding history_text
roomless_text h = ap (λ (lines : List ℕ). first_lines h.version h.memory ++ lines ++ last_line h.clock h.bytes) (roomless_all h.attempts)

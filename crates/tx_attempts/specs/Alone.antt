-- Calls that a player makes alone on plain bytes, one by one: a beginning of the `answers` that the headline speaks of.
use Rattle.std.specs.Prelude.{◌≡◌, ℕ, map, List, [], ◌∷◌, Some}
use Rattle.itm_types.specs.declared.call.Reply.{Reply}
use Rattle.itm_model.specs.State.{State}
use Rattle.itm_model.specs.Machine.{after, reply}
use Rattle.itm_model.specs.Runs.{Breaks, later, turn, state_through}
use Rattle.tx_attempts.specs.declared.attempt.CallRecord.{CallRecord}
use Rattle.tx_attempts.specs.Opacity.{answered_all}
use Rattle.tx_player.specs.Rules.{Rules}

-- the plain state after the calls, with such breaks between them
abbrev pub state_then : ℕ → Breaks → State → List CallRecord → State
state_then deepest breaks s xs = state_through deepest breaks s (map (λ x. x.call) xs)

-- the player after the replies
abbrev pub player_then : {P : Type 0} → (P → Reply → P) → P → List CallRecord → P
player_then answered p xs = answered_all answered p (map (λ x. x.reply) xs)

module _ {P : Type 0} (rules : Rules P) (deepest : ℕ) where
  -- each call is the player's next in an open block, and each reply the plain machine's
  abbrev pub IsAlone : Breaks → P → State → List CallRecord → Type 0
  IsAlone breaks p s [] = Unit {0}
  IsAlone breaks p s (x ∷ xs) =
      (turn rules.next_call rules.answered rules.calls_left p s ≡ Some x.call) × (x.reply ≡ reply deepest s x.call)
      × IsAlone (later breaks) (rules.answered p x.reply) (breaks 1 (after deepest s x.call)) xs

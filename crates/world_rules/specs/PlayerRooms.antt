-- A player that tells its room truly: as it makes its transaction irrevocable, how many calls come until its outermost block ends.
use Rattle.std.specs.Prelude.{◌≡◌, ◌⊎◌, ℕ, zero, suc, ◌<◌, if◌then◌else◌, Option, None, Some}
use Rattle.itm_types.specs.declared.call.Call.{Call}
use Rattle.itm_types.specs.declared.call.Call.TheVariants.{Begin, Mode}
use Rattle.itm_types.specs.declared.call.Reply.{Reply}
use Rattle.tx_player.specs.Replies.{MayReply}
use Rattle.tx_player.specs.Rules.{Rules}

-- the room that a call tells which is to make its transaction irrevocable
abbrev pub going_room : Call → Option ℕ
going_room (Begin props room) = if props.goes_irrevocable then Some room else None
going_room (Mode room) = Some room
going_room call = None

module _ {P : Type 0} (rules : Rules P) where
  -- it makes at most so many calls before its blocks have ended, or it ends itself
  abbrev pub EndsWithin : ℕ → P → Type 0
  EndsWithin zero p = (call : Call) → rules.next_call p ≡ Some call → rules.depth p ≡ 0
  EndsWithin (suc n) p = 0 < rules.depth p → (call : Call) (reply : Reply) → rules.next_call p ≡ Some call → MayReply (rules.depth p) call reply → EndsWithin n (rules.answered p reply)

  -- a call of it is answered, or it goes back to where its outermost block began
  abbrev pub GoesTo : P → P → Type 0
  GoesTo p q = ((call : Call) × (reply : Reply) × (rules.next_call p ≡ Some call) × MayReply (rules.depth p) call reply × (q ≡ rules.answered p reply)) ⊎ ((0 < rules.depth p) × (q ≡ rules.restarted p))

  -- so many times
  abbrev pub ComesTo : ℕ → P → P → Type 0
  ComesTo zero p q = q ≡ p
  ComesTo (suc n) p q = (last : P) × ComesTo n p last × GoesTo last q

  -- wherever it comes to, its blocks end within the room that its call tells
  abbrev pub TellsRoom : P → Type 0
  TellsRoom p = (n : ℕ) (q : P) (call : Call) (reply : Reply) (room : ℕ) → ComesTo n p q → rules.next_call q ≡ Some call → MayReply (rules.depth q) call reply → going_room call ≡ Some room → EndsWithin room (rules.answered q reply)

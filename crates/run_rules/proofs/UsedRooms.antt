-- An irrevocable transaction to whose call memory is refused has used up the room that it asked for.
use Rattle.std.proofs.Common.{◌≡◌, ℕ, zero, suc, ◌+◌, ◌<◌, ◌≤◌, Bool, true, true≢false, length, Option, unwrap_or, inl, inr, refl, sym, ap, subst, ◌∙◌, arith}
use Rattle.run_rules.proofs.Common.{Call, Core, LacksPlaces, MayStarve, MayStarveIn, Open, ahead_revocable, arena_ahead, irrevocable_room, promised, promised_held, total}
use Rattle.run_rules.proofs.IrrevocableCalls.{asks_no_room, starves_used}

module _ (e : Core) (call : Call) (held : e.irrevocable ≡ true) where
  -- the call wants memory for itself
  pub starves_here : (room : ℕ) → room ≤ promised e → MayStarve e call → room ≡ 0
  starves_here room few starves =
      let most = promised_held e held in
      let none = starves_used e call (subst (λ (b : Bool). MayStarveIn b e call) held starves) in
      omega arith

  module _ (o : Open) (few : o.row.calls.room ≤ promised e) (actions : 0 < e.room → (total e.actions + e.room ≤ o.ends) × (total e.actions + e.room ≤ o.cancels)) (blocks : 0 < o.row.calls.room → length o.points + o.row.calls.room ≤ o.deep) where
    none_left : (n : ℕ) → (0 < n → ⊥) → n ≡ 0
    none_left zero never = refl
    none_left (suc n) never = absurd (never (omega arith))

    -- a list is too small for its actions
    actions_used : (0 < e.room → ⊥) → o.row.calls.room ≡ 0
    actions_used never = (let none = none_left e.room never in let most = promised_held e held in omega arith)

    -- that, or there is no place for anything else that comes of the call
    pub lacks_here : LacksPlaces call (total e.actions) (unwrap_or (irrevocable_room e call) 0) (arena_ahead e call) o → o.row.calls.room ≡ 0
    lacks_here (inl none) = none
    lacks_here (inr (inl full)) = none_left o.row.calls.room (λ some. (let places = blocks some in let most = full.1 in omega arith))
    lacks_here (inr (inr (inl ends))) = actions_used (λ some. (let room = (actions some).0 in let full = ends.1 in omega arith))
    lacks_here (inr (inr (inr (inl cancels)))) = actions_used (λ some. (let room = (actions some).1 in let full = cancels.1 in omega arith))
    lacks_here (inr (inr (inr (inr (inl ahead))))) = absurd (let none = ap (λ (x : Option ℕ). unwrap_or x 0) (asks_no_room e call held) in omega arith)
    lacks_here (inr (inr (inr (inr (inr again))))) = absurd (true≢false (sym held ∙ ahead_revocable e call again.0 again.1))

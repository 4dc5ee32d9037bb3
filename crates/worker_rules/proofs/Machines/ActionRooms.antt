-- The room of an irrevocable transaction for commit actions, over a call, and with it the room for its calls.
use Rattle.std.proofs.Common.{◌≡◌, ℕ, ◌+◌, ◌<◌, ◌≤◌, Bool, true, if◌then◌else◌, unwrap_or, sym, ap, ◌∙◌, arith}
use Rattle.worker_rules.proofs.Common.{Actions, Answer, Core, HasRoomIn, IsRestart, LeavesRoom, Replied, Reply, Stands, Start, View, came, came_room, counted, in_transaction, irrevocable_room, is_held, is_inside, leaves_room, left_in_room, promised, same_room, total, wanted}
use Rattle.run_rules.proofs.CallRooms.{LeavesBacked, backed_came, promised_came, promised_same, reply_backed, wanted_came, wanted_same}
use Rattle.worker_rules.{proofs.Machines.LastEvents.IsLast, proofs.Machines.PlainActions.none_shut}

module _ {s : Start} {v : View} {a : Answer} {e : Core} (before : Stands s.view s.engine) (last : IsLast s v a e) (whole : IsRestart a → ⊥) where
  left : LeavesRoom last.mid e
  left = leaves_room last.mid e s.call a last.is_mid.kept.doing last.is_mid.settled last.ends whole (λ shut. none_shut before last shut)

  -- what serves its actions as the call comes, or was made for it, serves them after its answer
  pub room_on : (ends cancels : ℕ) → (s.engine.irrevocable ≡ true → 0 < s.engine.room → (counted s.engine + s.engine.room ≤ ends) × (counted s.engine + s.engine.room ≤ cancels))
      → (0 < unwrap_or (irrevocable_room s.engine s.call) 0 → (counted s.engine + unwrap_or (irrevocable_room s.engine s.call) 0 ≤ ends) × (counted s.engine + unwrap_or (irrevocable_room s.engine s.call) 0 ≤ cancels)) → HasRoomIn e ends cancels
  room_on ends cancels had made =
      let k = last.is_mid.kept in
      left_in_room ends cancels left
      (same_room (came s.engine s.call s.again) last.mid ends cancels (sym k.depth) (sym k.blocks) (sym k.irrevocable) (sym k.doing) (sym k.room) (sym k.actions)
      (came_room s.engine s.call s.again ends cancels ends cancels had (omega arith) (omega arith) made))

  -- and none has come to run
  pub ran_held : in_transaction s.engine ≡ true → is_held e ≡ true → e.actions.ran ≡ s.engine.actions.ran
  ran_held inside held = left.ran held (ap is_inside last.is_mid.kept.blocks ∙ inside) ∙ ap (λ (x : Actions). x.ran) last.is_mid.kept.actions

pub counted_in : (e : Core) → in_transaction e ≡ true → counted e ≡ total e.actions
counted_in e inside = ap (λ (b : Bool). if b then total e.actions else 0) inside

-- what a reply leaves of the places that are promised for calls
module _ {s : Start} {v : View} {r : Replied} {e : Core} (last : IsLast s v (Reply r) e) where
  pub promised_mid : promised last.mid ≡ promised s.engine
  promised_mid = promised_same last.mid (came s.engine s.call s.again) last.is_mid.kept.irrevocable last.is_mid.kept.room ∙ promised_came s.engine s.call s.again

  wanted_same_mid : wanted last.mid ≡ wanted (came s.engine s.call s.again)
  wanted_same_mid = wanted_same last.mid (came s.engine s.call s.again) last.is_mid.kept.depth last.is_mid.kept.blocks last.is_mid.kept.irrevocable last.is_mid.kept.doing

  pub wanted_mid : wanted last.mid ≡ unwrap_or (irrevocable_room s.engine s.call) 0
  wanted_mid = wanted_same_mid ∙ wanted_came s.engine s.call s.again

  pub leaves_promised : LeavesBacked last.mid e
  leaves_promised =
      let most = backed_came s.engine s.call s.again in
      let room = last.is_mid.kept.room in
      let same = wanted_same_mid in
      reply_backed last.mid e s.call last.is_mid.kept.doing (omega arith) last.is_mid.settled r last.ends

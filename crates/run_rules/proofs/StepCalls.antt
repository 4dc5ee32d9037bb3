-- Calls by what they ask of an engine: a step, a place for an action, or memory.
use Rattle.std.proofs.Common.{◌≡◌, ◌&&◌, not, if◌then◌else◌, unwrap_or, ℕ, ◌+◌, ◌<◌, ◌≤◌, Bool, true, false, true≢false, [], length, is_some, None, Some, refl, sym, ap, subst, ◌∙◌, arith}
use Rattle.run_rules.proofs.Common.{Abort, Asks, Begin, Call, CommitAction, Copy, Core, Fill, IsSettled, Log, LogBytes, MayStarve, MayStarveIn, MayStarveOpen, Mode, Next, Proceeds, Read, Step, UndoAction, Write, asked, asked_from, in_transaction, irrevocable_room, is_abort, is_begin, is_inside, none_inside, registered_by, registers, shut_revocable, stage_at, stays_revocable}
use Rattle.norec_core.specs.Copies.{copy_refusal}

-- ## A place for an action

pub cancels_register_none : (call : Call) → is_abort call ≡ true → registers call ≡ 0
cancels_register_none (Abort outer) e = refl
cancels_register_none call e = absurd (cc)

pub registers_none : (call : Call) → is_some (registered_by call) ≡ false → registers call ≡ 0
registers_none (CommitAction action) e = absurd (cc)
registers_none (UndoAction action) e = absurd (cc)
registers_none call e = refl

-- one more where the call registers one
pub places_for : (call : Call) (least room room' : ℕ) → least ≤ room → room ≤ room' → (is_some (registered_by call) ≡ true → least < room') → least + registers call ≤ room'
places_for (CommitAction action) least room room' l k more = (let m = more refl in omega arith)
places_for (UndoAction action) least room room' l k more = (let m = more refl in omega arith)
places_for call least room room' l k more = omega arith

-- ## A step

none_asked : {A : Type 0} (old new : Core) (call : Call) (again : Bool) (step : Step) → asked_from new (stage_at old call again) ≡ None → new.stage ≡ stage_at old call again → new.waits ≡ asked new → new.waits ≡ Some step → A
none_asked old new call again step none stage asks waits = absurd (let both : None ≡ Some step = sym none ∙ (sym (ap (asked_from new) stage) ∙ (sym asks ∙ waits)) in cc)

-- a cancel and a registration take none
plain_waits : (old new : Core) (call : Call) (again : Bool) (step : Step) → new.stage ≡ stage_at old call again → new.waits ≡ asked new → new.waits ≡ Some step → (is_abort call ≡ false) × (is_some (registered_by call) ≡ false)
plain_waits old new (Abort outer) again step stage asks waits = none_asked old new (Abort outer) again step refl stage asks waits
plain_waits old new (CommitAction action) again step stage asks waits = none_asked old new (CommitAction action) again step refl stage asks waits
plain_waits old new (UndoAction action) again step stage asks waits = none_asked old new (UndoAction action) again step refl stage asks waits
plain_waits old new call again step stage asks waits = (refl, refl)

-- whatever is asked for, where one is
pub gave_plainly : (mid new old : Core) (call : Call) (again : Bool) (what : Next) → Proceeds mid what new → new.stage ≡ stage_at old call again → new.waits ≡ asked new → (step : Step) → what ≡ Asks step → (is_abort call ≡ false) × (is_some (registered_by call) ≡ false)
gave_plainly mid new old call again what g stage asks step is =
    let h = subst (λ (w : Next). Proceeds mid w new) is g in
    plain_waits old new call again step stage asks (ap (λ (c : Core). c.waits) h.stays)

-- ## Memory

-- outside a transaction no other call asks for room
pub wants_none : (e : Core) (call : Call) → is_begin call ≡ false → in_transaction e ≡ false → unwrap_or (irrevocable_room e call) 0 ≡ 0
wants_none e (Begin props room) other shut = absurd (cc)
wants_none e (Mode room) other shut = ap (λ (b : Bool). unwrap_or (if b && not (stays_revocable e.blocks) && not e.irrevocable then Some room else None) 0) shut
wants_none e call other shut = refl

-- and memory is wanted for a begin alone
starves_open : (c : Core) (call : Call) → c.blocks ≡ [] → MayStarveOpen c call → is_begin call ≡ true
starves_open c (Begin props room) none s = refl
starves_open c (Mode room) none s = absurd (let both : None ≡ Some room = (λ i. irrevocable_room (record c { blocks = sym none i }) (Mode room)) ∙ s.0 in cc)
starves_open c (Copy k) none s = absurd (let both = (λ i. copy_refusal (is_inside (sym none i)) c.words (length c.arena) k) ∙ s.0 in cc)
starves_open c (Read hint width at) none s = absurd (true≢false (sym s.0 ∙ ap is_inside none))
starves_open c (Write hint at value) none s = absurd (true≢false (sym s.0 ∙ ap is_inside none))
starves_open c (Log width at) none s = absurd (true≢false (sym s.0 ∙ ap is_inside none))
starves_open c (LogBytes at size) none s = absurd (true≢false (sym s.0 ∙ ap is_inside none))
starves_open c (Fill hint to byte size) none s = absurd (true≢false (sym s.0 ∙ ap is_inside none))
starves_open c (CommitAction action) none s = absurd (true≢false (sym s.0 ∙ ap is_inside none))
starves_open c (UndoAction action) none s = absurd (true≢false (sym s ∙ ap is_inside none))
starves_open c call none s = absurd s

pub starves_shut : (c : Core) (call : Call) → IsSettled c → in_transaction c ≡ false → MayStarve c call → is_begin call ≡ true
starves_shut c call s shut m = starves_open c call (none_inside c.blocks shut) (subst (λ (b : Bool). MayStarveIn b c call) (shut_revocable c s shut) m)

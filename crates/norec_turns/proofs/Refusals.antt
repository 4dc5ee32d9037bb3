-- Replies that leave an engine as it was but for the counts and perhaps the arena: refusals, and what the thread's own state answers.
use Rattle.std.proofs.Common.{◌≡◌, ℕ, ◌+◌, ◌*◌, ◌≤◌, nat_le, Bool, true, false, List, length, Option, None, Some, refl, sym, ap, subst, ◌∙◌, inl, inr, if◌then◌else◌}
use Rattle.norec_turns.proofs.Common.{Call, Code, Core, Data, Done, Fill, Idle, InTransaction, IsMemory, IsSound, Nest, OutOfArena, OutOfRange, Read, Refusal, Refused, Replies, Save, State, Write, access_of, access_refusal, access_refused, actions_after, after, after_unless, arena_after, begins_anew, blocks_after, blocks_over-same, came, cases_Bool, core, effect, in_block, is_inside, le-leb, leb-true, open_is, reply, reply_unless, room_left, size_of, state_over, unless, with_slice, writes_after}
use Rattle.itm_types.{specs.declared.datum.Datum.Datum, specs.declared.call.Reply.Reply as Replied}
use Rattle.norec_core.proofs.Replies.AnsweredEngines.{told_plainly}
use Rattle.norec_core.proofs.Replies.RefusedCalls.{writes_kept, blocks_kept, arena_kept, actions_kept}

abbrev pub stands : Data → List ℕ → State
stands d m = state_over d.frames.writes.rows d.frames.blocks d.arena d.frames.actions m

-- what is not refused
pub served : (is_open : Bool) (words place size : ℕ) → access_refusal is_open words place size ≡ None → (is_open ≡ true) × (place + size ≤ 8 * words)
served false words place size e = absurd (cc)
served true words place size e = elim (cases_Bool (nat_le (place + size) (8 * words))) [
  | inl within ↦ (refl, leb-true (place + size) (8 * words) within)
  | inr far ↦ (let some : Some OutOfRange ≡ None = ap (λ (b : Bool). unless b OutOfRange) (sym far) ∙ e in absurd (cc))
]

-- a reply that changes no more of the engine than frames, arena and counts
pub told_replies : (d : Data) (call : Call) (r : Replied) (frames : Nest) (arena : List ℕ) → IsSound d Idle
    → ((m : List ℕ) → IsMemory d.words m → (state_over frames.writes.rows frames.blocks arena frames.actions m ≡ after d.frames.depth (stands d m) call) × (r ≡ reply d.frames.depth (stands d m) call))
    → ((m : List ℕ) → frames.writes.rows ≡ writes_after (came (core d Idle) call false) m call r) → ((m : List ℕ) → arena ≡ arena_after (came (core d Idle) call false) m call r)
    → frames.blocks ≡ blocks_after (came (core d Idle) call false) call r → frames.actions ≡ actions_after (came (core d Idle) call false) call r
    → frames.depth ≡ d.frames.depth → (frames.room ≡ room_left (came (core d Idle) call false) call r) × (begins_anew (core d Idle) call ≡ false) → is_inside frames.blocks ≡ in_block d
    → Replies (came (core d Idle) call false) call r (core (record d { frames = frames; arena = arena; spent = 0; entry = length d.log.rows }) Idle)
told_replies d call r frames arena s all writes left blocks actions depth room inside = record {
  meets = λ m mem agrees. (all m mem).0;
  reply_is = λ m mem agrees. (all m mem).1 ∙ sym (told_plainly call (reply d.frames.depth (stands d m) call));
  stays = (λ i. record (core (record d { frames = frames; arena = arena; spent = 0; entry = length d.log.rows }) Idle) { depth = depth i; room = room.0 i; restarted = if (sym room.1 i) then 0 else d.restarted });
  writes = λ m mem agrees. writes m;
  arena = λ m mem agrees. left m;
  free = refl;
  revocable = refl;
  unfreed = refl;
  blocks = blocks;
  actions = actions;
  still = λ other o. inside ∙ o;
  settled = λ o. ((s.in_phase.0 (sym inside ∙ o)).1, s.bounds.even);
}

-- of a refused call
pub denied : (d : Data) (call : Call) (why : Refusal) → IsSound d Idle → (d.frames.room ≡ room_left (came (core d Idle) call false) call (Refused why)) × (begins_anew (core d Idle) call ≡ false)
    → ((m : List ℕ) → IsMemory d.words m → (stands d m ≡ after d.frames.depth (stands d m) call) × (Refused why ≡ reply d.frames.depth (stands d m) call))
    → Replies (came (core d Idle) call false) call (Refused why) (core (record d { spent = 0; entry = length d.log.rows }) Idle)
denied d call why s room all =
    let c = came (core d Idle) call false in
    told_replies d call (Refused why) d.frames d.arena s all (λ m. sym (writes_kept c m call why)) (λ m. sym (arena_kept c m call why)) (sym (blocks_kept c call why)) (sym (actions_kept c call why)) refl room refl

-- an access takes no room
access_room : (c : Core) (call : Call) (at size : ℕ) (why : Refusal) → access_of call ≡ Some (at, size) → (c.room ≡ room_left (came c call false) call (Refused why)) × (begins_anew c call ≡ false)
access_room c (Read hint width at') at size why is = (refl, refl)
access_room c (Write hint at' value) at size why is = (refl, refl)
access_room c (Fill hint to byte size') at size why is = (refl, refl)
access_room c call at size why is = absurd (cc)

pub refused_replies : (d : Data) (call : Call) (at size : ℕ) (why : Refusal) → IsSound d Idle → access_of call ≡ Some (at, size)
    → access_refusal (in_block d) d.words at size ≡ Some why
    → Replies (came (core d Idle) call false) call (Refused why) (core (record d { spent = 0; entry = length d.log.rows }) Idle)
refused_replies d call at size why s is e =
    denied d call why s (access_room (core d Idle) call at size why is) (λ m mem. access_refused d.frames.depth d.frames.writes.rows d.frames.blocks d.arena d.frames.actions m d.words call at size why mem is e)

-- it is told whether a transaction is open
pub asked_replies : (d : Data) → IsSound d Idle
    → Replies (came (core d Idle) InTransaction false) InTransaction (Code (if in_block d then 1 else 0)) (core (record d { spent = 0; entry = length d.log.rows }) Idle)
asked_replies d s =
    told_replies d InTransaction (Code (if in_block d then 1 else 0)) d.frames d.arena s
    (λ m mem. (refl, ap (λ (o : Bool). Code (if o then 1 else 0)) (sym (open_is d.frames.writes.rows d.frames.blocks d.arena d.frames.actions m)))) (λ m. refl) (λ m. refl) refl refl refl (refl, refl) refl

-- a save that is accepted
saved_replies : (d : Data) (value : Datum) (place : ℕ) (arena : List ℕ) → IsSound d Idle → place + size_of value.width ≤ length d.arena
    → arena ≡ with_slice d.arena place value.bytes.items → length arena ≡ length d.arena
    → Replies (came (core d Idle) (Save place value) false) (Save place value) Done (core (record d { arena = arena; spent = 0; entry = length d.log.rows }) Idle)
saved_replies d value place arena s within left size =
    told_replies d (Save place value) Done d.frames arena s (λ m mem.
    (let none = ap (λ (b : Bool). unless b OutOfArena) (le-leb (place + size_of value.width) (length d.arena) within) in
    let same = blocks_over-same d.frames.blocks arena d.arena m size in
    let now : State = state_over d.frames.writes.rows d.frames.blocks d.arena d.frames.actions m in (
      (λ i. record { memory = now.memory; arena = left i; blocks = same i; actions = now.actions; wrote = now.wrote; irrevocable = false })
          ∙ sym (ap (λ (r : Option Refusal). after_unless r now (effect now (Save place value))) none),
      sym (ap (λ (r : Option Refusal). reply_unless r Done) none),
    ))) (λ m. refl) (λ m. left) refl refl refl (refl, refl) refl

pub save_replies : (d new : Data) (value : Datum) (place : ℕ) (arena : List ℕ) → new ≡ record d { spent = 0; entry = length d.log.rows } → IsSound d Idle
    → place + size_of value.width ≤ length new.arena → arena ≡ with_slice new.arena place value.bytes.items → length arena ≡ length new.arena
    → Replies (came (core d Idle) (Save place value) false) (Save place value) Done (core (record new { arena = arena }) Idle)
save_replies d new value place arena is s =
    subst (λ (x : Data). place + size_of value.width ≤ length x.arena → arena ≡ with_slice x.arena place value.bytes.items → length arena ≡ length x.arena
    → Replies (came (core d Idle) (Save place value) false) (Save place value) Done (core (record x { arena = arena }) Idle)) (sym is) (saved_replies d value place arena s)

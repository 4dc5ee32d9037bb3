-- A transaction that becomes irrevocable meets the plain machine.
use Rattle.std.proofs.Common.{◌≡◌, ℕ, ◌%◌, ◌&&◌, not, Bool, true, false, List, [], length, map, take, Option, None, Some, is_some, unwrap_or, if◌then◌else◌, refl, sym, ap, ◌∙◌, arith}
use Rattle.norec_blocks.proofs.Common.{Begin, Code, Core, Data, Done, Enters, Idle, IsHolding, IsSound, Mode, Props, Refusal, Refused, Replies, Row, Taking, Wants, WantsClock, begin_enters, between, blocks_with, call_of, came, core, core_held, denied, in_block, in_stores, lt-ltb, made_irrevocable, mode_enters, mode_refusal, mode_refused, moved, one_outermost, overlay, refuses, stands, stands_for, state_kept, stays_revocable, take_all, unwritten}
use Rattle.norec_core.specs.Aims as aims
use Rattle.norec_core.specs.declared.call_parts.Taking.TheVariants as takings

-- ## The engine

-- what is left of the fields
pub record HasGone (d : Data) (props : Option Props) (new : Data) : Type 0 where
  pub frames : new.frames ≡ record {
    writes = unwritten;
    size = d.frames.size;
    depth = d.frames.depth;
    blocks = map made_irrevocable (blocks_with props d.frames);
    actions = record d.frames.actions { undos = [] };
    room = d.frames.room;
  }
  pub log : new.log.rows ≡ []
  pub others : new ≡ record d { frames = new.frames; log = new.log }

module _ (d new : Data) (row : ℕ) (stored : row ≡ length d.frames.writes.rows) (even : d.snapshot % 2 ≡ 0) where
  all_rows : take row d.frames.writes.rows ≡ d.frames.writes.rows
  all_rows = take_all row d.frames.writes.rows (omega (arith, stored))

  -- as callers see it
  held_is : (props : Option Props) → HasGone d props new
      → core_held new ≡ record (core_held d) {
        log = [];
        writes = [];
        blocks = map made_irrevocable (blocks_with props d.frames);
        actions = record d.frames.actions { undos = [] };
        room = d.frames.room;
      }
  held_is props gone =
      ap core_held gone.others
      ∙ (λ i. record (core_held d) {
        log = gone.log i;
        writes = (gone.frames i).writes.rows;
        blocks = (gone.frames i).blocks;
        actions = (gone.frames i).actions;
        depth = (gone.frames i).depth;
        room = (gone.frames i).room;
      })

  stands_so : (props : Option Props) → HasGone d props new → (m : List ℕ)
      → stands_for (core_held new) (overlay m (take row d.frames.writes.rows)) ≡ state_kept (map made_irrevocable (blocks_with props d.frames)) d.arena (record d.frames.actions { undos = [] }) (overlay m d.frames.writes.rows)
  stands_so props gone m = ap (λ (c : Core). stands_for c (overlay m (take row d.frames.writes.rows))) (held_is props gone)
      ∙ ap (λ (rows : List Row). state_kept (map made_irrevocable (blocks_with props d.frames)) d.arena (record d.frames.actions { undos = [] }) (overlay m rows)) all_rows

  pub mode_entered : (room steps : ℕ) → IsHolding d (takings.Mode room) steps → HasGone d None new → Enters (in_stores d (takings.Mode room) row) (Mode room) Done (core_held new)
  mode_entered room steps h gone =
      let enters = λ (m : List ℕ). mode_enters d.frames.depth d.frames.writes.rows d.frames.blocks d.arena d.frames.actions m room h.is_open.is_open h.wants.0 in
      record {
        held = refl;
        revocable = refl;
        goes = (λ i. is_some (if (h.is_open.is_open i) && not (h.wants.0 i) && not false then Some room else None));
        meets = λ m mem agrees. stands_so None gone m ∙ (enters m).0;
        reply_is = λ m. (enters m).1;
        stored = stored;
        unfreed = refl;
        taken = (h.settled, even);
        stays = held_is None gone;
      }

  pub begin_entered : (props : Props) (room steps : ℕ) → IsHolding d (takings.Begin props room) steps → HasGone d (Some props) new → Enters (in_stores d (takings.Begin props room) row) (Begin props room) (Code 5) (core_held new)
  begin_entered props room steps h gone =
      let enters = λ (m : List ℕ). begin_enters d.frames.depth d.frames.writes.rows d.frames.blocks d.arena d.frames.actions m props room h.is_open.is_open h.wants.0 h.wants.1 h.wants.2 in
      let few = lt-ltb (length d.frames.blocks) d.frames.depth h.wants.2 in
      record {
        held = refl;
        revocable = refl;
        goes = (λ i. is_some (if (h.wants.0 i) && (h.wants.1 i) && (few i) && not false then Some room else None));
        meets = λ m mem agrees. stands_so (Some props) gone m ∙ (enters m).0;
        reply_is = λ m. (enters m).1;
        stored = stored;
        unfreed = refl;
        taken = (h.settled, even);
        stays =
            held_is (Some props) gone
            ∙ ap (λ (b : Bool). record (core_held d) {
              log = [];
              writes = [];
              blocks = map made_irrevocable (blocks_with (Some props) d.frames);
              actions = record (if b then d.frames.actions else record d.frames.actions { ran = [] }) { undos = [] };
              room = d.frames.room;
            }) (sym h.is_open.is_open);
      }

-- ## The clock is wanted

pub wants_clock : (d : Data) (taking : Taking) (was : ℕ) → in_block d ≡ true → Wants d taking → WantsClock (moved (between d (aims.Take taking)) was) (Some (call_of (aims.Take taking)))
wants_clock d takings.Commit was o w = (one_outermost d.frames.blocks w.0, w.1)
wants_clock d (takings.Mode room) was o w = (λ i. is_some (if (o i) && not (w.0 i) && not false then Some room else None))
wants_clock d (takings.Begin props room) was o w =
    let few = lt-ltb (length d.frames.blocks) d.frames.depth w.2 in
    (λ i. is_some (if (w.0 i) && (w.1 i) && (few i) && not false then Some room else None))

-- ## What is refused

-- such a call reserves no room
pub no_room : (is_open stays : Bool) (why : Refusal) (room : ℕ) → mode_refusal is_open stays ≡ Some why → ◌≡◌ {A = Option ℕ} None (if is_open && not stays && not false then Some room else None)
no_room false stays why room e = refl
no_room true true why room e = refl
no_room true false why room e = absurd (cc)

pub mode_denied : (d : Data) (room : ℕ) (why : Refusal) → IsSound d Idle → mode_refusal (in_block d) (stays_revocable d.frames.blocks) ≡ Some why
    → Replies (came (core d Idle) (Mode room) false) (Mode room) (Refused why) (core (record d { spent = 0; entry = length d.log.rows }) Idle)
mode_denied d room why s e =
    denied d (Mode room) why s (ap (λ (o : Option ℕ). unwrap_or o d.frames.room) (no_room (in_block d) (stays_revocable d.frames.blocks) why room e), refl)
    (λ m mem. refuses d.frames.depth (stands d m) (Mode room) why (mode_refused d.frames.depth d.frames.writes.rows d.frames.blocks d.arena d.frames.actions m room ∙ e))

-- one that is served
pub mode_accepted : (is_open stays : Bool) → mode_refusal is_open stays ≡ None → (is_open ≡ true) × (stays ≡ false)
mode_accepted false stays e = absurd (cc)
mode_accepted true true e = absurd (cc)
mode_accepted true false e = (refl, refl)

-- has its room
pub mode_came : (d : Data) (room : ℕ) → in_block d ≡ true → stays_revocable d.frames.blocks ≡ false
    → moved (between (record d { frames = record d.frames { room = room }; spent = 0; entry = length d.log.rows; tries = 0 }) (aims.Take (takings.Mode room))) d.snapshot ≡ came (core d Idle) (Mode room) false
mode_came d room o r = λ i. record (came (core d Idle) (Mode room) false) { room = unwrap_or (if (sym o i) && not (sym r i) && not false then Some room else None) d.frames.room }

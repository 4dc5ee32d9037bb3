-- Begins of blocks: refused ones, and those within a transaction.
use Rattle.std.proofs.Common.{◌≡◌, ℕ, ◌<◌, ◌&&◌, ◌||◌, not, nat_lt, Bool, true, false, List, [], ◌∷◌, length, Option, None, Some, unwrap_or, if◌then◌else◌, arith, inl, inr, refl, sym, ap, subst, ◌∙◌}
use Rattle.norec_blocks.proofs.Common.{Actions, AllWritesWithin, AreFrames, AreRows, Begin, Code, Data, Frame, IsEnding, IsSound, Opening, Props, Refusal, Refused, Replies, Reply, Row, Turns, Wait, after_unless, and-false, and-true, begin_refusal, begin_served, begins_anew, begun, begun_within, between, came, cases_Bool, cond-false, cond-true, core, denied, effect, ending_at, entered, going_ending, going_stage, in_block, is_inside, length-over, lt-ltb, may_go, moved, none_inside, open_is, or_else, or_none, place_of, pushed, refusal, refuses, reply, reply_unless, revocable_over, stage_at, stands, state_over, unless}
use Rattle.itm_types.specs.declared.call.Refusal.TheVariants.{NoIrrevocable, TooDeep}
use Rattle.norec_core.specs.Aims as aims
use Rattle.norec_core.specs.Phases as at
use Rattle.norec_core.specs.declared.call_parts.Taking.TheVariants as takings
use Rattle.norec_core.specs.Effects.{recoded}
use Rattle.norec_data.specs.declared.pending.Pending.TheVariants as waits

-- ## What is refused

begin_refused : (depth : ℕ) (rows : List Row) (blocks : List Frame) (arena : List ℕ) (actions : Actions) (m : List ℕ) (props : Props) (room : ℕ)
    → refusal depth (state_over rows blocks arena actions m) (Begin props room) ≡ begin_refusal (may_go blocks props) (nat_lt (length blocks) depth)
begin_refused depth rows blocks arena actions m props room =
    or_none _
    ∙ (λ i. or_else (unless (not (props.goes_irrevocable && (props.no_irrevocable || sym (revocable_over blocks arena m) i))) NoIrrevocable) (unless (nat_lt (length-over blocks arena m i) depth) TooDeep))

-- such a call reserves no room
no_room_for : (goes may few : Bool) (why : Refusal) (room : ℕ) → begin_refusal may few ≡ Some why → ◌≡◌ {A = Option ℕ} None (if goes && may && few && not false then Some room else None)
no_room_for false may few why room e = refl
no_room_for true false few why room e = refl
no_room_for true true false why room e = refl
no_room_for true true true why room e = absurd (cc)

-- a refusal is told alike to a block that was begun before
told_again : (props : Props) (room : ℕ) (again : Bool) (why : Refusal) → Refused why ≡ recoded (Begin props room) again (Refused why)
told_again props room true why = refl
told_again props room false why = refl

-- with no block open it is so for its properties
none_for_depth : (may few : Bool) (why : Refusal) → few ≡ true → begin_refusal may few ≡ Some why → may ≡ false
none_for_depth false few why f e = refl
none_for_depth true true why f e = absurd (cc)
none_for_depth true false why f e = absurd (cc)

-- no outermost block begins
begun_nowhere : (d : Data) (props : Props) (room : ℕ) (why : Refusal) → IsSound d at.Idle → begin_refusal (may_go d.frames.blocks props) (nat_lt (length d.frames.blocks) d.frames.depth) ≡ Some why
    → begins_anew (core d at.Idle) (Begin props room) ≡ false
begun_nowhere d props room why s e = elim (cases_Bool (in_block d)) [
  | inl o ↦ (λ i. not (o i) && may_go d.frames.blocks props)
  | inr o ↦
      (let may = none_for_depth (may_go d.frames.blocks props) (nat_lt (length d.frames.blocks) d.frames.depth) why (ap (λ (blocks : List Frame). nat_lt (length blocks) d.frames.depth) (none_inside d.frames.blocks o) ∙ lt-ltb 0 d.frames.depth s.bounds.deep) e in
      ap (λ (b : Bool). not (in_block d) && b) may ∙ and-false (not (in_block d)))
]

pub begin_denied : (d : Data) (props : Props) (room : ℕ) (again : Bool) (why : Refusal) → IsSound d at.Idle → begin_refusal (may_go d.frames.blocks props) (nat_lt (length d.frames.blocks) d.frames.depth) ≡ Some why
    → Replies (came (core d at.Idle) (Begin props room) again) (Begin props room) (Refused why) (core (record d { spent = 0; entry = length d.log.rows }) at.Idle)
begin_denied d props room again why s e =
    let refused = λ (m : List ℕ). refuses d.frames.depth (stands d m) (Begin props room) why (begin_refused d.frames.depth d.frames.writes.rows d.frames.blocks d.arena d.frames.actions m props room ∙ e) in
    let plain = denied d (Begin props room) why s (ap (λ (o : Option ℕ). unwrap_or o d.frames.room) (no_room_for props.goes_irrevocable (may_go d.frames.blocks props) (nat_lt (length d.frames.blocks) d.frames.depth) why room e), begun_nowhere d props room why s e) (λ m mem. refused m) in
    record {
      meets = plain.meets;
      reply_is = λ m mem agrees. told_again props room (again && not (in_block d)) why ∙ ap (recoded (Begin props room) (again && not (in_block d))) (refused m).1;
      stays = plain.stays;
      writes = plain.writes;
      arena = plain.arena;
      free = refl;
      revocable = refl;
      unfreed = refl;
      blocks = plain.blocks;
      actions = plain.actions;
      still = plain.still;
      settled = plain.settled;
    }

module _ (d : Data) (props : Props) (room : ℕ) (again : Bool) (why : Refusal) (deep : 0 < d.frames.depth) (e : begin_refusal (may_go d.frames.blocks props) (nat_lt (length d.frames.blocks) d.frames.depth) ≡ Some why) where
  goes_nowhere : ◌≡◌ {A = Option ℕ} None (if props.goes_irrevocable && may_go d.frames.blocks props && nat_lt (length d.frames.blocks) d.frames.depth && not false then Some room else None)
  goes_nowhere = no_room_for props.goes_irrevocable (may_go d.frames.blocks props) (nat_lt (length d.frames.blocks) d.frames.depth) why room e

  may_not : in_block d ≡ false → may_go d.frames.blocks props ≡ false
  may_not o = none_for_depth (may_go d.frames.blocks props) (nat_lt (length d.frames.blocks) d.frames.depth) why (ap (λ (blocks : List Frame). nat_lt (length blocks) d.frames.depth) (none_inside d.frames.blocks o) ∙ lt-ltb 0 d.frames.depth deep) e

  denied_stage : (inside : Bool) → in_block d ≡ inside → at.Idle ≡ stage_at (core d at.Idle) (Begin props room) again
  denied_stage true o =
      (λ i. if (sym o i) then going_stage (core d at.Idle) (goes_nowhere i) (takings.Begin props room) else (if may_go d.frames.blocks props then at.Begin (record { props = props; room = room; again = again }) else at.Idle))
  denied_stage false o =
      let none = may_not o in
      (λ i. if (sym o i) then going_stage (core d at.Idle) (if props.goes_irrevocable && may_go d.frames.blocks props && nat_lt (length d.frames.blocks) d.frames.depth && not false then Some room else None) (takings.Begin props room) else (if (sym none i) then at.Begin (record { props = props; room = room; again = again }) else at.Idle))

  pub denied_order : at.Idle ≡ stage_at (core d at.Idle) (Begin props room) again
  denied_order = denied_stage (in_block d) refl

  denied_ending : (inside : Bool) → in_block d ≡ inside → None ≡ ending_at (core d at.Idle) (Begin props room)
  denied_ending true o = (λ i. if (sym o i) then going_ending (core d at.Idle) (goes_nowhere i) else None)
  denied_ending false o =
      (λ i. if (sym o i) then going_ending (core d at.Idle) (if props.goes_irrevocable && may_go d.frames.blocks props && nat_lt (length d.frames.blocks) d.frames.depth && not false then Some room else None) else None)

  pub denied_ends : IsEnding (ending_at (core d at.Idle) (Begin props room)) (Reply (Refused why))
  denied_ends = subst (λ (end : _). IsEnding end (Reply (Refused why))) (denied_ending (in_block d) refl) tt

-- ## What is served

-- the fields as it has come, with its room where it goes irrevocable
abbrev pub begun_with : Data → Props → ℕ → Data
begun_with d props room = record d { frames = record d.frames { room = if props.goes_irrevocable then room else d.frames.room }; spent = 0; entry = length d.log.rows }

has_room_for : (goes may few : Bool) (room left : ℕ) → may ≡ true → few ≡ true → (if goes then room else left) ≡ unwrap_or (if goes && may && few && not false then Some room else None) left
has_room_for false may few room left m f = refl
has_room_for true may few room left m f = (λ i. unwrap_or (if (sym m i) && (sym f i) && not false then Some room else None) left)

-- a block begins within others
one_more : (words : ℕ) (b : Frame) (bs : List Frame) → is_inside bs ≡ true → AllWritesWithin words b.rows → AreRows b.rows → AreFrames words bs → AreFrames words (b ∷ bs)
one_more words b [] o w r f = absurd (cc)
one_more words b (p ∷ bs) o w r f = (w, r, f)

-- a block within a transaction was not begun before
again_inside : (again inside : Bool) → inside ≡ true → false ≡ (again && not inside)
again_inside false inside o = refl
again_inside true inside o = ap not (sym o)

module _ (d : Data) (props : Props) (room : ℕ) (again : Bool) (may : may_go d.frames.blocks props ≡ true) (few : length d.frames.blocks < d.frames.depth) where
  room_is : (if props.goes_irrevocable then room else d.frames.room) ≡ (came (core d at.Idle) (Begin props room) again).room
  room_is = has_room_for props.goes_irrevocable (may_go d.frames.blocks props) (nat_lt (length d.frames.blocks) d.frames.depth) room d.frames.room may (lt-ltb (length d.frames.blocks) d.frames.depth few)

  -- no restart is forgotten within a transaction
  stays_inside : in_block d ≡ true → d.restarted ≡ (came (core d at.Idle) (Begin props room) again).restarted
  stays_inside o = (λ i. if not (sym o i) && may_go d.frames.blocks props then 0 else d.restarted)

  -- outside the clock is loaded, and the count of restarts begins anew
  abbrev pub opening : Opening
  opening = record { props = props; room = room; again = again }

  pub begin_asks : in_block d ≡ false → Turns (came (core d at.Idle) (Begin props room) again) (Wait waits.Begin) (record (begun_with d props room) { tries = 1; restarted = 0; opening = opening })
  begin_asks o = record {
    lawful = (omega arith, refl);
    unfreed = refl;
    stays = (λ i. record (core (record (begun_with d props room) { tries = 1; restarted = 0; opening = opening; spent = 1 }) (at.Begin opening)) {
      again = (sym (and-true again) ∙ ap (λ (b : Bool). again && not b) (sym o)) i;
      room = room_is i;
      restarted = if not (sym o i) && (sym may i) then 0 else d.restarted;
    });
  }

  -- where it goes irrevocable within a transaction, the clock is to be taken
  pub begin_came : in_block d ≡ true
      → moved (between (record (begun_with d props room) { tries = 0 }) (aims.Take (takings.Begin props room))) d.snapshot ≡ came (core d at.Idle) (Begin props room) again
  begin_came o = (λ i. record (came (core d at.Idle) (Begin props room) again) { again = again_inside again (in_block d) o i; room = room_is i; restarted = stays_inside o i })

  -- and any other one begins at once
  abbrev pub nested : Data
  nested = record (begun_with d props room) {
    frames = record {
      writes = record d.frames.writes { inner = place_of d.frames.writes };
      size = d.frames.size;
      depth = d.frames.depth;
      blocks = begun props d.frames.writes.rows d.frames.actions (length d.log.rows) ∷ d.frames.blocks;
      actions = d.frames.actions;
      room = if props.goes_irrevocable then room else d.frames.room;
    };
  }

  pub nested_sound : in_block d ≡ true → props.goes_irrevocable ≡ false → IsSound d at.Idle → IsSound nested at.Idle
  nested_sound o goes s =
      let idle = s.in_phase.0 o in
      record {
        bounds = s.bounds;
        reached = s.reached;
        in_phase = (
          λ yes. (
            record {
              is_open = refl;
              log = idle.0.log;
              writes = idle.0.writes;
              rows = idle.0.rows;
              frames = one_more d.words (begun props d.frames.writes.rows d.frames.actions (length d.log.rows)) d.frames.blocks o idle.0.writes idle.0.rows idle.0.frames;
              begun = begun_within (length d.log.rows) props d.frames.writes.rows d.frames.actions d.frames.blocks goes o idle.0.begun;
              tries = idle.0.tries;
            },
            idle.1,
          ),
          λ shut. absurd (cc),
        );
      }

  pub nested_replies : in_block d ≡ true → props.goes_irrevocable ≡ false → IsSound d at.Idle
      → Replies (came (core d at.Idle) (Begin props room) again) (Begin props room) (Code 5) (core nested at.Idle)
  nested_replies o goes s =
      let none = λ (m : List ℕ). begin_served d.frames.depth d.frames.writes.rows d.frames.blocks d.arena d.frames.actions m props room may few in
      let opens = λ (m : List ℕ).
      (let is_open = open_is d.frames.writes.rows d.frames.blocks d.arena d.frames.actions m ∙ o in
      cond-true _ (entered (stands d m) props) _ is_open ∙ cond-false props.goes_irrevocable _ (pushed (stands d m) props) goes) in
      record {
        meets = λ m mem agrees. sym (opens m) ∙ sym (ap (λ (why : Option Refusal). after_unless why (stands d m) (effect (stands d m) (Begin props room))) (none m));
        reply_is = λ m mem agrees.
            sym (ap (λ (why : Option Refusal). reply_unless why (Code 5)) (none m))
            ∙ ap (λ (was : Bool). recoded (Begin props room) was (reply d.frames.depth (stands d m) (Begin props room))) (again_inside again (in_block d) o);
        stays = (λ i. record (core nested at.Idle) { room = room_is i; restarted = stays_inside o i });
        writes = λ m mem agrees. refl;
        arena = λ m mem agrees. refl;
        free = refl;
        revocable = refl;
        unfreed = refl;
        blocks = refl;
        actions = sym (cond-true (in_block d) d.frames.actions _ o);
        still = λ other inside. refl;
        settled = λ inside. ((s.in_phase.0 o).1, s.bounds.even);
      }

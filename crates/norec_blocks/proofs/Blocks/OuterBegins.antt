-- Outermost begins that stay revocable: the clock is asked for, and where it is even the block begins.
use Rattle.std.proofs.Common.{◌≡◌, ℕ, ◌%◌, ◌<◌, ◌≤◌, Bool, true, false, [], ◌∷◌, length, if◌then◌else◌, arith, refl, sym, ap, subst, rules}
use Rattle.norec_blocks.proofs.Common.{Begin as Begins, BeginTurns, CallEnd, CallTurns, Code, Data, End, Idle, IsSound, Nest, Props, Reply, StepTurns, Turns, Wait, answer_of, begun, begun_first, begun_same, came, cond-false, core, counted, in_block, may_go, no_actions}
use Rattle.norec_data.{specs.Bounds.IsBounded, specs.Bounds.IsOutside}
use Rattle.norec_core.specs.Phases.{Begin}
use Rattle.norec_data.specs.declared.pending.Pending.TheVariants as waits
use Rattle.norec_blocks.proofs.Blocks.Begins.{begin_asks, begun_with}

-- the fields as the clock is to be loaded
abbrev pub asking : Data → Props → ℕ → Bool → Data
asking d props room again = record d { spent = 0; entry = length d.log.rows; tries = 1; restarted = 0; opening = record { props = props; room = room; again = again } }

pub asks : (d : Data) (props : Props) (room : ℕ) (again : Bool) → IsSound d Idle → in_block d ≡ false → props.goes_irrevocable ≡ false → may_go d.frames.blocks props ≡ true → length d.frames.blocks < d.frames.depth
    → CallTurns d (Begins props room) again (Wait waits.Begin) (asking d props room again)
asks d props room again sound outside stays may few = record {
  sound = search rules;
  proceeds =
      (let none : d.frames.room ≡ (if props.goes_irrevocable then room else d.frames.room) = sym (cond-false props.goes_irrevocable room d.frames.room stays) in
      let come : record d { spent = 0; entry = length d.log.rows } ≡ begun_with d props room = ap (λ (n : ℕ). record d { frames = record d.frames { room = n }; spent = 0; entry = length d.log.rows }) none in
      subst (λ (x : Data). Turns (came (core d Idle) (Begins props room) again) (Wait waits.Begin) (record x { tries = 1; restarted = 0; opening = record { props = props; room = room; again = again } })) (sym come)
      (begin_asks d props room again may few outside));
  stays = search rules;
  order = search rules;
  ends = search rules;
  tries = search rules;
}

-- the frames as the block has begun
pub record Opened (props : Props) (old new : Nest) : Type 0 where
  pub blocks : new.blocks ≡ begun props [] no_actions 0 ∷ []
  pub actions : new.actions ≡ no_actions
  pub rows : new.writes.rows ≡ []
  pub size : new.size ≡ old.size
  pub room : new.room ≡ old.room
  pub depth : new.depth ≡ old.depth

-- and all fields
abbrev pub opened : Data → Nest → ℕ → Data
opened d frames seen = record d { clock = seen; snapshot = seen; frames = frames }

module _ (d : Data) (frames : Nest) (seen : ℕ) (props : Props) (out : IsOutside d) (stays : props.goes_irrevocable ≡ false) (even : seen % 2 ≡ 0) (opens : Opened props d.frames frames) where
  pub opened_sound : IsBounded d.words d.limits d.restarted d.snapshot d.frames.size d.frames.depth d.arena → IsSound (opened d frames seen) Idle
  opened_sound bounds = record {
    bounds = search rules;
    reached = search rules;
    in_phase = (
      λ o. (
        record {
          is_open = o;
          log = search rules;
          writes = search rules;
          rows = search rules;
          frames = search rules;
          begun = begun_same [] d.log.rows no_actions frames.actions (begun props [] no_actions 0 ∷ []) frames.blocks out.log opens.actions opens.blocks (begun_first props stays);
          tries = out.tries;
        },
        refl,
      ),
      λ shut. search rules,
    );
  }

pub opens_even : (d : Data) (frames : Nest) (seen : ℕ) (end : CallEnd) → IsSound d (Begin d.opening) → d.opening.props.goes_irrevocable ≡ false → d.clock ≤ seen → seen % 2 ≡ 0 → Opened d.opening.props d.frames frames
    → ((x : Data) → answer_of x end ≡ Reply (Code (if d.opening.again then 9 else 5))) → StepTurns d (Begin d.opening) seen (End end) (opened d frames seen)
opens_even d frames seen end sound stays fits even opens reply = search (rules, opened_sound d frames seen d.opening.props sound.in_phase.0 stays even opens sound.bounds) parts 1

-- both at once: between the two, what is stored of a call in progress is of no account
pub begins_at_once : (d : Data) (props : Props) (room : ℕ) (again : Bool) (frames : Nest) (seen : ℕ) (end : CallEnd) → IsSound d Idle → in_block d ≡ false → props.goes_irrevocable ≡ false → may_go d.frames.blocks props ≡ true → length d.frames.blocks < d.frames.depth
    → d.clock ≤ seen → seen % 2 ≡ 0 → Opened props d.frames frames → ((x : Data) → answer_of x end ≡ Reply (Code (if again then 9 else 5)))
    → BeginTurns d props room again seen end (opened (record d { spent = 1; entry = 0; restarted = 0 }) frames seen)
begins_at_once d props room again frames seen end sound outside stays may few fits even opens reply =
    let out = sound.in_phase.1 outside in
    let came = asks d props room again sound outside stays may few in
    record {
      mid = asking d props room again;
      last = opened (counted (asking d props room again)) frames seen;
      called = came;
      resumed = opens_even (counted (asking d props room again)) frames seen end came.sound.sound stays fits even (record { blocks = opens.blocks; actions = opens.actions; rows = opens.rows; size = opens.size; room = opens.room; depth = opens.depth }) reply;
      same = ap (λ (n : ℕ). core (opened (record d { spent = 1; entry = n; restarted = 0 }) frames seen) Idle) (ap length out.log);
      sound =
          (let b = sound.bounds in
          opened_sound (record d { spent = 1; entry = 0; restarted = 0 }) frames seen props (record { is_open = out.is_open; log = out.log; writes = out.writes; commits = out.commits; undos = out.undos; tries = out.tries }) stays even
          opens
          (record { patient = b.patient; commits = b.commits; few = omega arith; small = b.small; sized = b.sized; deep = b.deep; even = b.even }));
    }

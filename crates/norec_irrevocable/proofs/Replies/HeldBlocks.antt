-- Blocks that begin in an irrevocable transaction, and a call that would make it irrevocable.
use Rattle.std.proofs.Common.{◌≡◌, ℕ, ◌<◌, Bool, true, false, List, [], ◌∷◌, length, replicate, Option, None, if◌then◌else◌, refl, sym, ap, subst, ◌∙◌}
use Rattle.norec_irrevocable.proofs.Common.{Answer, Begin, ComesBy, Core, Data, EndIrrevocable, HeldTurns, IsHeld, Mode, NoIrrevocable, Props, State, TooDeep, TurnEndsSo, after, begun, came, came_restarted, cond-true, cond_both, core_held, effect, entered, in_block, is_inside, kept, lt-ltb, may_go, mode_refusal, or_else, pushed, refusal, reply, serves, stays_revocable, unless}
use Rattle.norec_irrevocable.specs.Moves.{HeldCallTurns}
use Rattle.norec_irrevocable.proofs.Replies.PartsOfCalls.{come}
use Rattle.norec_irrevocable.proofs.Replies.Refusals.{mode_ending, mode_stage}
use Rattle.norec_data.specs.declared.end.CallEnd.TheVariants as ends
use Rattle.norec_irrevocable.proofs.Replies.KeptStates.{begin_kept, mode_kept, open_kept}
use Rattle.norec_irrevocable.proofs.Replies.HeldReplies.{room_kept}

-- what a block that begins leaves of the fields
pub record HasEntered (d : Data) (props : Props) (new : Data) : Type 0 where
  pub blocks : new.frames.blocks ≡ begun props d.frames.writes.rows d.frames.actions (length d.log.rows) ∷ d.frames.blocks
  pub rows : new.frames.writes.rows ≡ d.frames.writes.rows
  pub actions : new.frames.actions ≡ d.frames.actions
  pub room : new.frames.room ≡ d.frames.room
  pub depth : new.frames.depth ≡ d.frames.depth
  pub others : new ≡ record d { frames = new.frames; spent = 0; entry = length d.log.rows }

module _ (d new : Data) (props : Props) (room : ℕ) (o : in_block d ≡ true) (may : may_go d.frames.blocks props ≡ true) (few : length d.frames.blocks < d.frames.depth) (has : HasEntered d props new) where
  begin_served : (m : List ℕ) → refusal d.frames.depth (kept d m) (Begin props room) ≡ None
  begin_served m =
      begin_kept d.frames.blocks d.arena d.frames.actions m d.frames.depth props room
      ∙ (λ i. or_else (unless (may i) NoIrrevocable) (unless (lt-ltb (length d.frames.blocks) d.frames.depth few i) TooDeep))

  abbrev mid : Core
  mid = came (core_held d) (Begin props room) false

  pub begin_entered : HeldTurns mid (EndIrrevocable ends.Entered) new
  begin_entered = record {
    held = refl;
    irrevocable = refl;
    reply_is = (serves d.frames.depth (kept d (replicate d.words 0)) (Begin props room) (begin_served (replicate d.words 0))).1;
    unfreed = refl;
    stays =
        ap core_held has.others
        ∙ (λ i. record (core_held (record d { spent = 0; entry = length d.log.rows })) {
          writes = has.rows i;
          blocks = has.blocks i;
          depth = has.depth i;
          actions = (has.actions ∙ ap (λ (b : Bool). if b then d.frames.actions else record d.frames.actions { ran = [] }) (sym o)) i;
          room = (has.room ∙ sym (room_kept d (Begin props room))) i;
          restarted = sym (came_restarted (core_held d) (Begin props room) false o) i;
        });
    still = λ is. ap is_inside has.blocks;
  }

  pub begin_comes : ComesBy d (λ m. after d.frames.depth (kept d m) (Begin props room)) (λ m. reply d.frames.depth (kept d m) (Begin props room)) (EndIrrevocable ends.Entered) new
  begin_comes m mem =
      let s : State = kept d m in
      let all = serves d.frames.depth s (Begin props room) (begin_served m) in
      let opens : effect s (Begin props room) ≡ pushed s props =
      cond-true _ (entered s props) _ (open_kept d.frames.blocks d.arena d.frames.actions m ∙ o) ∙ cond_both props.goes_irrevocable (pushed s props) (pushed s props) (λ (x : State). x ≡ pushed s props) (λ e. refl) (λ e. refl) in
      (ap (λ (x : Data). kept x m) has.others ∙ ((λ i. kept (record d { frames = record d.frames { blocks = has.blocks i; actions = has.actions i } }) m) ∙ (sym opens ∙ all.0)), all.1)

-- what it is already
module _ (d : Data) (room : ℕ) (h : IsHeld d) (none : mode_refusal (in_block d) (stays_revocable d.frames.blocks) ≡ None) where
  mode_served : (m : List ℕ) → refusal d.frames.depth (kept d m) (Mode room) ≡ None
  mode_served m = mode_kept d.frames.blocks d.arena d.frames.actions m d.frames.depth room ∙ none

  pub mode_turn : HeldCallTurns d (Mode room) (EndIrrevocable ends.Done) (come d)
  mode_turn = record {
    sound = record { bounds = h.bounds; is_open = h.is_open; log = h.log; writes = h.writes; settled = h.settled; free = h.free; tries = h.tries };
    proceeds = record {
      held = refl;
      irrevocable = refl;
      reply_is = (serves d.frames.depth (kept d (replicate d.words 0)) (Mode room) (mode_served (replicate d.words 0))).1;
      unfreed = refl;
      stays = (λ i. record (core_held (come d)) { room = sym (room_kept d (Mode room)) i });
      still = λ o. o;
    };
    comes = λ m mem. serves d.frames.depth (kept d m) (Mode room) (mode_served m);
    stays = record { opens = λ o. o; log = λ o. refl; snapshot = refl };
    order = sym (mode_stage d room);
    ends = subst (λ (so : Option Answer). TurnEndsSo so (EndIrrevocable ends.Done) (come d)) (sym (mode_ending d room)) tt;
  }

-- Replies in an irrevocable transaction that leave the engine as it was, but for the counts.
use Rattle.std.proofs.Common.{◌≡◌, ℕ, ◌&&◌, not, Bool, true, false, List, length, replicate, Option, None, Some, unwrap_or, nat_lt, refl, sym, ap, ◌∙◌, if◌then◌else◌}
use Rattle.norec_irrevocable.proofs.Common.{Begin, Call, CommitAction, Core, Data, IsMemory, Mode, Read, Refusal, Refused, RepliesHeld, Save, State, anew_within, answer, arena_held, bytes_reply, came, core_held, fit-zeros, in_block, irrevocable_room, kept, length-replicate, may_go, refusal, reply_held, reply_unless, room_left, stands_for, stays_revocable}
use Rattle.norec_core.proofs.Replies.RefusedCalls.{actions_kept, blocks_kept}
use Rattle.norec_irrevocable.proofs.Replies.PartsOfCalls.{come}
use Rattle.std.proofs.Math.Bool.{and-false}

-- a memory of zeros
pub zeros : (words : ℕ) → IsMemory words (replicate words 0)
zeros words = (length-replicate words 0, fit-zeros words)

-- an irrevocable transaction does not become so
pub goes_nowhere : (d : Data) (call : Call) → irrevocable_room (core_held d) call ≡ None
goes_nowhere d (Begin props room) = ap (λ (b : Bool). if b then Some room else None) (and-false (props.goes_irrevocable && may_go d.frames.blocks props && nat_lt (length d.frames.blocks) d.frames.depth))
goes_nowhere d (Mode room) = ap (λ (b : Bool). if b then Some room else None) (and-false (in_block d && not (stays_revocable d.frames.blocks)))
goes_nowhere d call = refl

-- so the room stays as a call comes
pub room_kept : (d : Data) (call : Call) → (came (core_held d) call false).room ≡ d.frames.room
room_kept d call = ap (λ (o : Option ℕ). unwrap_or o d.frames.room) (goes_nowhere d call)

-- the state of which a reply is read off
abbrev pub kept_in : Core → State
kept_in c = stands_for c (replicate c.words 0)

-- what is refused is told so, whatever the memory is
pub refused_so : (c : Core) (call : Call) (why : Refusal) → refusal c.depth (kept_in c) call ≡ Some why → Refused why ≡ reply_held c call
refused_so c (Read hint width at) why e = sym (ap (λ (o : Option Refusal). reply_unless o (bytes_reply c.gathered)) e)
refused_so c call why e = sym (ap (λ (o : Option Refusal). reply_unless o (answer (kept_in c) call)) e)

arena_left : (c : Core) (call : Call) (why : Refusal) → arena_held c call (Refused why) ≡ c.arena
arena_left c (Save at value) why = refl
arena_left c call why = refl

room_unspent : (c : Core) (call : Call) (why : Refusal) → room_left c call (Refused why) ≡ c.room
room_unspent c (CommitAction action) why = refl
room_unspent c call why = refl

module _ (d : Data) (call : Call) (why : Refusal) (refused : (m : List ℕ) → IsMemory d.words m → refusal d.frames.depth (kept d m) call ≡ Some why) where
  pub denied : in_block d ≡ true → RepliesHeld (came (core_held d) call false) call (Refused why) (core_held (come d))
  denied o =
      let mid : Core = came (core_held d) call false in
      let room : d.frames.room ≡ room_left mid call (Refused why) = sym (room_kept d call) ∙ sym (room_unspent mid call why) in
      record {
        held = refl;
        irrevocable = refl;
        reply_is = refused_so mid call why (refused (replicate d.words 0) (zeros d.words));
        unfreed = refl;
        stays = (λ i. record (core_held (come d)) {
          blocks = sym (blocks_kept mid call why) i;
          actions = sym (actions_kept mid call why) i;
          arena = sym (arena_left mid call why) i;
          room = room i;
          restarted = if (sym (anew_within (core_held d) call o) i) then 0 else d.restarted;
        });
        still = λ is. is;
      }

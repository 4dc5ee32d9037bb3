-- Replies to registrations and logs of the arena.
use Rattle.std.proofs.Common.{◌≡◌, ℕ, ◌+◌, ◌≤◌, nat_le, Bool, true, false, List, [], ◌∷◌, length, Option, None, Some, IsTrue, ◌↔◌, inl, inr, refl, sym, ap, subst, ◌∙◌}
use Rattle.norec_turns.proofs.Common.{Action, ActionKind, AreFrames, Block, Call, CommitAction, Data, Done, Frame, Idle, IsSound, Log, LogBytes, Old, OutOfArena, Outside, Refusal, Refused, Replies, State, UndoAction, after_unless, also_kept, begins_anew, block_over, blocks_over, bytes_of, came, cases_Bool, core, effect, found, in_block, is_inside, is_some_row, kept_of, le-leb, leb-true, log_of, logged, logged_in, logged_of, logs, needs_open, open_is, or_else, overlay, refusal, refuses, registered, registered_by, reply_unless, room_after, room_left, size_of, state_over, unless}
use Rattle.itm_types.specs.declared.call.ActionKind.TheVariants as kinds
use Rattle.norec_turns.proofs.Cancels.{come}
use Rattle.norec_turns.proofs.OpenBegins.{begun_logged, begun_registered}
use Rattle.norec_turns.proofs.Refusals.{denied, stands, told_replies}
use Rattle.norec_turns.proofs.OpenTransactions.{kept_sound}

-- between two calls, as one comes and is refused
pub come_sound : (d : Data) (why : Refusal) → IsSound d Idle → IsSound (record (come d) { why = why }) Idle
come_sound d why s =
    record {
      bounds = s.bounds;
      reached = s.reached;
      in_phase = (
        λ o. (let idle = s.in_phase.0 o in (record { is_open = o; log = idle.0.log; writes = idle.0.writes; rows = idle.0.rows; frames = idle.0.frames; begun = idle.0.begun; tries = idle.0.tries }, idle.1)),
        λ o. (let outside = s.in_phase.1 o in record { is_open = o; log = outside.log; writes = outside.writes; commits = outside.commits; undos = outside.undos; tries = outside.tries }),
      );
    }

-- ## Registrations

-- the fields once an action is registered
abbrev pub with_action : Data → ActionKind → Action → Data
with_action d kind action = record (come d) { frames = record d.frames { actions = registered kind action d.frames.actions; room = room_after kind d.frames.room } }

pub registered_sound : (d : Data) (kind : ActionKind) (action : Action) → in_block d ≡ true → IsSound d Idle → IsSound (with_action d kind action) Idle
registered_sound d kind action o s =
    let idle = s.in_phase.0 o in
    kept_sound d (with_action d kind action).frames d.arena d.buffer d.tries s o o refl refl refl idle.0.writes idle.0.rows idle.0.frames
    (begun_registered (length d.log.rows) kind action d.frames.actions d.frames.blocks idle.0.begun) idle.0.tries

-- what is not refused is done
done_so : (s t : State) (why : Option Refusal) → why ≡ None → (t ≡ after_unless why s t) × (Done ≡ reply_unless why Done)
done_so s t why none = (sym (ap (λ (w : Option Refusal). after_unless w s t) none), sym (ap (λ (w : Option Refusal). reply_unless w Done) none))

open_not : (d : Data) (m : List ℕ) → in_block d ≡ true → or_else (needs_open (stands d m)) None ≡ None
open_not d m o = ap (λ (b : Bool). or_else (unless b Outside) None) (open_is d.frames.writes.rows d.frames.blocks d.arena d.frames.actions m ∙ o)

commit_registered : (d : Data) (action : Action) → in_block d ≡ true → IsSound d Idle
    → Replies (came (core d Idle) (CommitAction action) false) (CommitAction action) Done (core (with_action d kinds.Commit action) Idle)
commit_registered d action o s =
    told_replies d (CommitAction action) Done (with_action d kinds.Commit action).frames d.arena s (λ m mem. done_so (stands d m) (effect (stands d m) (CommitAction action)) _ (open_not d m o)) (λ m. refl) (λ m. refl) refl refl refl (refl, refl) refl

undo_registered : (d : Data) (action : Action) → in_block d ≡ true → IsSound d Idle
    → Replies (came (core d Idle) (UndoAction action) false) (UndoAction action) Done (core (with_action d kinds.Undo action) Idle)
undo_registered d action o s =
    told_replies d (UndoAction action) Done (with_action d kinds.Undo action).frames d.arena s (λ m mem. done_so (stands d m) (effect (stands d m) (UndoAction action)) _ (open_not d m o)) (λ m. refl) (λ m. refl) refl refl refl (refl, refl) refl

pub registered_replies : (d : Data) (call : Call) (kind : ActionKind) (action : Action) → registered_by call ≡ Some (kind, action) → in_block d ≡ true → IsSound d Idle
    → Replies (came (core d Idle) call false) call Done (core (with_action d kind action) Idle)
registered_replies d (CommitAction a) kind action is o s =
    let same : (kinds.Commit, a) ≡ (kind, action) = cc in
    subst (λ (x : ActionKind × Action). Replies (came (core d Idle) (CommitAction a) false) (CommitAction a) Done (core (with_action d x.0 x.1) Idle)) same (commit_registered d a o s)
registered_replies d (UndoAction a) kind action is o s =
    let same : (kinds.Undo, a) ≡ (kind, action) = cc in
    subst (λ (x : ActionKind × Action). Replies (came (core d Idle) (UndoAction a) false) (UndoAction a) Done (core (with_action d x.0 x.1) Idle)) same (undo_registered d a o s)
registered_replies d call kind action is o s = absurd (cc)

-- outside a transaction there is none
closed_refusal : (d : Data) (m : List ℕ) (rest : Option Refusal) → in_block d ≡ false → or_else (needs_open (stands d m)) rest ≡ Some Outside
closed_refusal d m rest o = ap (λ (b : Bool). or_else (unless b Outside) rest) (open_is d.frames.writes.rows d.frames.blocks d.arena d.frames.actions m ∙ o)

pub unregistered_replies : (d : Data) (call : Call) (kind : ActionKind) (action : Action) → registered_by call ≡ Some (kind, action) → in_block d ≡ false → IsSound d Idle
    → Replies (came (core d Idle) call false) call (Refused Outside) (core (come d) Idle)
unregistered_replies d (CommitAction a) kind action is o s = denied d (CommitAction a) Outside s (refl, refl) (λ m mem. refuses d.frames.depth (stands d m) (CommitAction a) Outside (closed_refusal d m None o))
unregistered_replies d (UndoAction a) kind action is o s = denied d (UndoAction a) Outside s (refl, refl) (λ m mem. refuses d.frames.depth (stands d m) (UndoAction a) Outside (closed_refusal d m None o))
unregistered_replies d call kind action is o s = absurd (cc)

-- ## Logs of the arena

-- a range that leaves the arena, by what was tested
pub not_within : (a b : ℕ) (is : Bool) → (IsTrue is ↔ (a ≤ b)) → is ≡ false → nat_le a b ≡ false
not_within a b is h e = elim (cases_Bool (nat_le a b)) [
  | inl within ↦ (let yes = h.1 (leb-true a b within) in absurd (cc))
  | inr far ↦ far
]

-- why a log is refused, if it is
log_refusal : (d : Data) (m : List ℕ) (call : Call) (place size : ℕ) → logged_of call ≡ Some (place, size) → refusal d.frames.depth (stands d m) call ≡ or_else (unless (in_block d) Outside) (unless (nat_le (place + size) (length d.arena)) OutOfArena)
log_refusal d m (Log width at) place size is =
    let same : ◌≡◌ {A = ℕ × ℕ} (at, size_of width) (place, size) = cc in
    (λ i. or_else (unless (open_is d.frames.writes.rows d.frames.blocks d.arena d.frames.actions m i) Outside) (unless (nat_le ((same i).0 + (same i).1) (length d.arena)) OutOfArena))
log_refusal d m (LogBytes at size') place size is =
    let same : ◌≡◌ {A = ℕ × ℕ} (at, size') (place, size) = cc in
    (λ i. or_else (unless (open_is d.frames.writes.rows d.frames.blocks d.arena d.frames.actions m i) Outside) (unless (nat_le ((same i).0 + (same i).1) (length d.arena)) OutOfArena))
log_refusal d m call place size is = absurd (cc)

log_room : (d : Data) (call : Call) (place size : ℕ) (why : Refusal) → logged_of call ≡ Some (place, size) → (d.frames.room ≡ room_left (came (core d Idle) call false) call (Refused why)) × (begins_anew (core d Idle) call ≡ false)
log_room d (Log width at) place size why is = (refl, refl)
log_room d (LogBytes at size') place size why is = (refl, refl)
log_room d call place size why is = absurd (cc)

pub unlogged_replies : (d : Data) (call : Call) (place size : ℕ) (why : Refusal) → logged_of call ≡ Some (place, size) → IsSound d Idle
    → or_else (unless (in_block d) Outside) (unless (nat_le (place + size) (length d.arena)) OutOfArena) ≡ Some why
    → Replies (came (core d Idle) call false) call (Refused why) (core (come d) Idle)
unlogged_replies d call place size why is s e =
    denied d call why s (log_room d call place size why is) (λ m mem. refuses d.frames.depth (stands d m) call why (log_refusal d m call place size is ∙ e))

-- the fields once these are logged
abbrev pub with_log : Data → List Old → Data
with_log d olds = record (come d) { frames = record d.frames { blocks = logged d.frames.blocks olds } }

logged_inside : (blocks : List Frame) (olds : List Old) → is_inside (logged blocks olds) ≡ is_inside blocks
logged_inside [] olds = refl
logged_inside (b ∷ bs) olds = refl

logged_frames : (words : ℕ) (blocks : List Frame) (olds : List Old) → AreFrames words blocks → AreFrames words (logged blocks olds)
logged_frames words [] olds f = f
logged_frames words (b ∷ []) olds f = f
logged_frames words (b ∷ p ∷ bs) olds f = f

pub logged_sound : (d : Data) (olds : List Old) → in_block d ≡ true → IsSound d Idle → IsSound (with_log d olds) Idle
logged_sound d olds o s =
    let idle = s.in_phase.0 o in
    kept_sound d (with_log d olds).frames d.arena d.buffer d.tries s o (logged_inside d.frames.blocks olds ∙ o) refl refl refl idle.0.writes idle.0.rows (logged_frames d.words d.frames.blocks olds idle.0.frames)
    (begun_logged (length d.log.rows) (length d.frames.actions.commits) (length d.frames.actions.undos) d.frames.blocks olds idle.0.begun) idle.0.tries

-- what the innermost block keeps of the arena
logged_over : (blocks : List Frame) (arena m : List ℕ) (place size : ℕ) → kept_of arena (log_of (logged blocks (found arena place size))) ≡ also_kept (kept_of arena (log_of blocks)) arena place size
    → blocks_over (logged blocks (found arena place size)) arena m ≡ logged_in (blocks_over blocks arena m) arena place size
logged_over [] arena m place size kept = refl
logged_over (b ∷ bs) arena m place size kept =
    (λ i. record (block_over b arena m) { saved = Some (record { memory = bytes_of (overlay m b.rows); wrote = is_some_row b.rows; commits = b.commits; undos = b.undos; kept = kept i }) } ∷ blocks_over bs arena m)

module _ (d : Data) (place size : ℕ) (o : in_block d ≡ true) (s : IsSound d Idle) (within : place + size ≤ length d.arena) (kept : kept_of d.arena (log_of (logged d.frames.blocks (found d.arena place size))) ≡ also_kept (kept_of d.arena (log_of d.frames.blocks)) d.arena place size) where
  log_served : (m : List ℕ) (call : Call) → logged_of call ≡ Some (place, size) → refusal d.frames.depth (stands d m) call ≡ None
  log_served m call is =
      log_refusal d m call place size is
      ∙ (λ i. or_else (unless (o i) Outside) (unless (le-leb (place + size) (length d.arena) within i) OutOfArena))

  log_left : (m : List ℕ) → state_over d.frames.writes.rows (logged d.frames.blocks (found d.arena place size)) d.arena d.frames.actions m ≡ logs (stands d m) place size
  log_left m = ap (λ (blocks : List Block). record (stands d m) { blocks = blocks }) (logged_over d.frames.blocks d.arena m place size kept)

  log_done : (m : List ℕ) (call : Call) → logged_of call ≡ Some (place, size) → logs (stands d m) place size ≡ effect (stands d m) call
      → (state_over d.frames.writes.rows (logged d.frames.blocks (found d.arena place size)) d.arena d.frames.actions m ≡ after_unless (refusal d.frames.depth (stands d m) call) (stands d m) (effect (stands d m) call))
      × (Done ≡ reply_unless (refusal d.frames.depth (stands d m) call) Done)
  log_done m call is same = let so = done_so (stands d m) (effect (stands d m) call) _ (log_served m call is) in (log_left m ∙ same ∙ so.0, so.1)

  pub logged_replies : (call : Call) → logged_of call ≡ Some (place, size) → Replies (came (core d Idle) call false) call Done (core (with_log d (found d.arena place size)) Idle)
  logged_replies (Log width at) is =
      let same : ◌≡◌ {A = ℕ × ℕ} (place, size) (at, size_of width) = cc in
      told_replies d (Log width at) Done (with_log d (found d.arena place size)).frames d.arena s (λ m mem. log_done m (Log width at) is (ap (λ (x : ℕ × ℕ). logs (stands d m) x.0 x.1) same)) (λ m. refl) (λ m. refl)
      (ap (λ (x : ℕ × ℕ). logged d.frames.blocks (found d.arena x.0 x.1)) same) refl refl (refl, refl) (logged_inside d.frames.blocks (found d.arena place size))
  logged_replies (LogBytes at size') is =
      let same : ◌≡◌ {A = ℕ × ℕ} (place, size) (at, size') = cc in
      told_replies d (LogBytes at size') Done (with_log d (found d.arena place size)).frames d.arena s (λ m mem. log_done m (LogBytes at size') is (ap (λ (x : ℕ × ℕ). logs (stands d m) x.0 x.1) same)) (λ m. refl) (λ m. refl)
      (ap (λ (x : ℕ × ℕ). logged d.frames.blocks (found d.arena x.0 x.1)) same) refl refl (refl, refl) (logged_inside d.frames.blocks (found d.arena place size))
  logged_replies call is = absurd (cc)

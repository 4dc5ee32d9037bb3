-- Cancels of open blocks, as replies.
use Rattle.std.proofs.Common.{◌≡◌, ℕ, Bool, true, false, not, List, [], ◌∷◌, length, drop, None, refl, sym, ap, subst, ◌∙◌, if◌then◌else◌}
use Rattle.norec_turns.proofs.Common.{Abort, Actions, AllWritesWithin, AreBegun, AreFrames, AreRows, Code, Core, Data, Frame, Idle, IsEnded, IsSound, Nest, NoAbort, Outside, Refused, Replies, Row, State, actions_back, actions_cancelled, after, after_unless, answer, arena_back, arena_restored, back, blocks_over, blocks_over-same, bytes_of, came, core, core_ended, effect, ended, in_block, is_inside, is_kept, is_outermost, is_some_row, kept_of, kept_over, log_of, open_is, or_else, overlay, put_back, refusal, refuses, reply, reply_unless, restored, rows_of, state_over, unless}
use Rattle.norec_turns.proofs.EndedTransactions.{undone_over}
use Rattle.norec_turns.proofs.OpenBegins.{begun_cancelled}
use Rattle.norec_turns.proofs.Refusals.{stands, denied}
use Rattle.norec_turns.proofs.OpenTransactions.{kept_sound}

-- the engine as a call comes
abbrev pub come : Data → Data
come d = record d { spent = 0; entry = length d.log.rows }

-- why a cancel is refused where a block is open
refusal_is : (d : Data) (outer keeps : Bool) (m : List ℕ) → in_block d ≡ true → is_kept d.frames.blocks outer ≡ keeps
    → refusal d.frames.depth (stands d m) (Abort outer) ≡ or_else (or_else (unless (not keeps) NoAbort) None) None
refusal_is d outer keeps m o k =
    let is_open = open_is d.frames.writes.rows d.frames.blocks d.arena d.frames.actions m ∙ o in
    let kept = sym (kept_over d.frames.blocks d.arena m outer) ∙ k in
    (λ i. or_else (or_else (unless (is_open i) Outside) (or_else (unless (not (kept i)) NoAbort) None)) None)

refused_as_kept : (d : Data) (outer : Bool) → IsSound d Idle → in_block d ≡ true → is_kept d.frames.blocks outer ≡ true
    → Replies (came (core d Idle) (Abort outer) false) (Abort outer) (Refused NoAbort) (core (come d) Idle)
refused_as_kept d outer s o k = denied d (Abort outer) NoAbort s (refl, refl) (λ m mem. refuses d.frames.depth (stands d m) (Abort outer) NoAbort (refusal_is d outer true m o k))

pub kept_replies : (d new : Data) (outer : Bool) → new ≡ come d → IsSound d Idle → in_block new ≡ true → is_kept new.frames.blocks outer ≡ true
    → Replies (came (core d Idle) (Abort outer) false) (Abort outer) (Refused NoAbort) (core new Idle)
kept_replies d new outer is s o k =
    subst (λ (x : Data). in_block x ≡ true → is_kept x.frames.blocks outer ≡ true → Replies (came (core d Idle) (Abort outer) false) (Abort outer) (Refused NoAbort) (core x Idle)) (sym is)
    (refused_as_kept d outer s) o k

-- of one that is accepted
cancels : (d : Data) (outer : Bool) (m : List ℕ) (new : State) → in_block d ≡ true → is_kept d.frames.blocks outer ≡ false
    → new ≡ effect (stands d m) (Abort outer) → new ≡ after d.frames.depth (stands d m) (Abort outer)
cancels d outer m new o k e = e ∙ sym (ap (λ r. after_unless r (stands d m) (effect (stands d m) (Abort outer))) (refusal_is d outer false m o k))

told : (d : Data) (outer : Bool) (m : List ℕ) → in_block d ≡ true → is_kept d.frames.blocks outer ≡ false → Code 24 ≡ reply d.frames.depth (stands d m) (Abort outer)
told d outer m o k = sym (ap (λ r. reply_unless r (answer (stands d m) (Abort outer))) (refusal_is d outer false m o k))

-- ## The innermost block, within others

pub record IsCancelled (old : Data) (frames : Nest) (arena : List ℕ) : Type 0 where
  pub is_open : in_block old ≡ true
  pub inner : is_outermost old.frames.blocks ≡ false
  pub may : is_kept old.frames.blocks false ≡ false
  pub blocks : frames.blocks ≡ drop 1 old.frames.blocks
  pub room : frames.room ≡ old.frames.room
  pub depth : frames.depth ≡ old.frames.depth
  pub rows : frames.writes.rows ≡ rows_of old.frames.blocks
  pub actions : frames.actions ≡ actions_cancelled old.frames.blocks old.frames.actions
  pub size : length arena ≡ length old.arena
  pub left : arena ≡ put_back (log_of old.frames.blocks) old.arena
  pub restored : arena ≡ restored (kept_of old.arena (log_of old.frames.blocks)) old.arena

-- of two outcomes of a test one did not come
pub not_both : {A : Type 0} → true ≡ false → A
not_both {A} both = absurd (cc)

-- what the blocks around it have
cancelled_frames : (words : ℕ) (blocks : List Frame) → is_inside blocks ≡ true → is_outermost blocks ≡ false → AreFrames words blocks
    → AllWritesWithin words (rows_of blocks) × AreRows (rows_of blocks) × AreFrames words (drop 1 blocks) × (is_inside (drop 1 blocks) ≡ true)
cancelled_frames words [] o inner f = absurd (cc)
cancelled_frames words (b ∷ []) o inner f = absurd (cc)
cancelled_frames words (b ∷ p ∷ bs) o inner f = (f.0, f.1, f.2, refl)

cancel_sound : (d : Data) (frames : Nest) (arena : List ℕ) → IsSound d Idle → in_block d ≡ true → is_outermost d.frames.blocks ≡ false
    → frames.blocks ≡ drop 1 d.frames.blocks → frames.writes.rows ≡ rows_of d.frames.blocks → frames.actions ≡ actions_cancelled d.frames.blocks d.frames.actions → frames.size ≡ d.frames.size → frames.depth ≡ d.frames.depth → length arena ≡ length d.arena
    → IsSound (record (come d) { frames = frames; arena = arena }) Idle
cancel_sound d frames arena s is_open inner blocks rows actions sized depth size =
    let idle = s.in_phase.0 is_open in
    let left = cancelled_frames d.words d.frames.blocks is_open inner idle.0.frames in
    kept_sound d frames arena d.buffer d.tries s is_open (ap is_inside blocks ∙ left.3) sized depth size
    (subst (AllWritesWithin d.words) (sym rows) left.0) (subst AreRows (sym rows) left.1) (subst (AreFrames d.words) (sym blocks) left.2)
    (subst (λ (a : Actions). AreBegun (length d.log.rows) (length a.commits) (length a.undos) frames.blocks) (sym actions)
    (subst (AreBegun (length d.log.rows) (length (actions_cancelled d.frames.blocks d.frames.actions).commits) (length (actions_cancelled d.frames.blocks d.frames.actions).undos)) (sym blocks)
    (begun_cancelled (length d.log.rows) d.frames.actions d.frames.blocks idle.0.begun))) idle.0.tries

pub cancelled_sound : (d new : Data) (frames : Nest) (arena : List ℕ) → new ≡ come d → IsSound d Idle → in_block new ≡ true → is_outermost new.frames.blocks ≡ false
    → frames.blocks ≡ drop 1 new.frames.blocks → frames.writes.rows ≡ rows_of new.frames.blocks → frames.actions ≡ actions_cancelled new.frames.blocks new.frames.actions → frames.size ≡ new.frames.size → frames.depth ≡ new.frames.depth → length arena ≡ length new.arena
    → IsSound (record new { frames = frames; arena = arena }) Idle
cancelled_sound d new frames arena is s =
    subst (λ (x : Data). in_block x ≡ true → is_outermost x.frames.blocks ≡ false → frames.blocks ≡ drop 1 x.frames.blocks → frames.writes.rows ≡ rows_of x.frames.blocks → frames.actions ≡ actions_cancelled x.frames.blocks x.frames.actions → frames.size ≡ x.frames.size → frames.depth ≡ x.frames.depth → length arena ≡ length x.arena
    → IsSound (record x { frames = frames; arena = arena }) Idle) (sym is) (cancel_sound d frames arena s)

back_is : (rows : List Row) (blocks : List Frame) (arena : List ℕ) (actions : Actions) (m : List ℕ) (rows' : List Row) (blocks' : List Frame) (arena' : List ℕ) (actions' : Actions) → is_inside blocks ≡ true
    → rows' ≡ rows_of blocks → blocks' ≡ drop 1 blocks → length arena' ≡ length arena → arena' ≡ restored (kept_of arena (log_of blocks)) arena → actions' ≡ actions_cancelled blocks actions
    → state_over rows' blocks' arena' actions' m ≡ back (state_over rows blocks arena actions m)
back_is rows [] arena actions m rows' blocks' arena' actions' o r b l a w = absurd (cc)
back_is rows (f ∷ fs) arena actions m rows' blocks' arena' actions' o r b l a w =
    let rest = ap (λ (x : List Frame). blocks_over x arena' m) b ∙ blocks_over-same fs arena' arena m l in
    (λ i. record { memory = bytes_of (overlay m (r i)); arena = a i; blocks = rest i; actions = w i; wrote = is_some_row (r i); irrevocable = false })

cancel_replies : (d : Data) (frames : Nest) (arena : List ℕ) → IsSound d Idle → IsCancelled (come d) frames arena
    → Replies (came (core d Idle) (Abort false) false) (Abort false) (Code 24) (core (record (come d) { frames = frames; arena = arena }) Idle)
cancel_replies d frames arena s e = record {
  meets = λ m mem agrees. cancels d false m (state_over frames.writes.rows frames.blocks arena frames.actions m) e.is_open e.may
      (back_is d.frames.writes.rows d.frames.blocks d.arena d.frames.actions m frames.writes.rows frames.blocks arena frames.actions e.is_open e.rows e.blocks e.size e.restored e.actions);
  reply_is = λ m mem agrees. told d false m e.is_open e.may;
  stays = (λ i. record (core (record (come d) { frames = frames; arena = arena }) Idle) { depth = e.depth i; room = e.room i });
  writes = λ m mem agrees. e.rows;
  arena = λ m mem agrees. e.left;
  free = refl;
  revocable = refl;
  unfreed = refl;
  blocks = e.blocks;
  actions = e.actions;
  still = λ other o. absurd (cc);
  settled = λ o. ((s.in_phase.0 e.is_open).1, s.bounds.even);
}

pub cancelled_replies : (d new : Data) (frames : Nest) (arena : List ℕ) (outer : Bool) → new ≡ come d → outer ≡ false → IsSound d Idle → IsCancelled new frames arena
    → Replies (came (core d Idle) (Abort outer) false) (Abort outer) (Code 24) (core (record new { frames = frames; arena = arena }) Idle)
cancelled_replies d new frames arena outer is inner s e =
    subst (λ (o : Bool). Replies (came (core d Idle) (Abort o) false) (Abort o) (Code 24) (core (record new { frames = frames; arena = arena }) Idle)) (sym inner)
    (subst (λ (x : Data). IsCancelled x frames arena → Replies (came (core d Idle) (Abort false) false) (Abort false) (Code 24) (core (record x { frames = frames; arena = arena }) Idle))
    (sym is) (cancel_replies d frames arena s) e)

-- ## Every block

pub record IsUndoneBy (old : Data) (outer : Bool) (new : Data) : Type 0 where
  pub is_open : in_block old ≡ true
  pub all : outer ≡ false → is_outermost old.frames.blocks ≡ true
  pub may : is_kept old.frames.blocks outer ≡ false
  pub ended : IsEnded old (arena_back old.frames.blocks old.arena) (actions_back old.frames.blocks old.frames.actions) new
  pub restored : arena_back old.frames.blocks old.arena ≡ arena_restored old.frames.blocks old.arena

-- one block is all of them
undone_is : (outer : Bool) (words : ℕ) (rows : List Row) (blocks : List Frame) (arena : List ℕ) (actions : Actions) (m : List ℕ) → AreFrames words blocks → is_inside blocks ≡ true → (outer ≡ false → is_outermost blocks ≡ true)
    → arena_back blocks arena ≡ arena_restored blocks arena
    → state_over [] [] (arena_back blocks arena) (actions_back blocks actions) m ≡ effect (state_over rows blocks arena actions m) (Abort outer)
undone_is true words rows blocks arena actions m f o all same =
    ap (λ (a : List ℕ). state_over [] [] a (actions_back blocks actions) m) same ∙ sym (undone_over words blocks arena arena actions m (bytes_of (overlay m rows)) (is_some_row rows) f o refl)
undone_is false words rows [] arena actions m f o all same = absurd (cc)
undone_is false words rows (b ∷ []) arena actions m f o all same =
    ap (λ (a : List ℕ). state_over [] [] a (actions_back (b ∷ []) actions) m) same ∙ sym (undone_over words (b ∷ []) arena arena actions m (bytes_of (overlay m rows)) (is_some_row rows) f o refl)
undone_is false words rows (b ∷ p ∷ bs) arena actions m f o all same = (let one = all refl in absurd (cc))

rows_gone : (outer : Bool) (words : ℕ) (blocks : List Frame) → AreFrames words blocks → (outer ≡ false → is_outermost blocks ≡ true) → [] ≡ (if outer then [] else rows_of blocks)
rows_gone true words blocks f all = refl
rows_gone false words [] f all = refl
rows_gone false words (b ∷ []) f all = sym f
rows_gone false words (b ∷ p ∷ bs) f all = (let one = all refl in absurd (cc))

arena_gone : (outer : Bool) (blocks : List Frame) (arena : List ℕ) → (outer ≡ false → is_outermost blocks ≡ true)
    → arena_back blocks arena ≡ (if outer then arena_back blocks arena else put_back (log_of blocks) arena)
arena_gone true blocks arena all = refl
arena_gone false [] arena all = refl
arena_gone false (b ∷ []) arena all = refl
arena_gone false (b ∷ p ∷ bs) arena all = (let one = all refl in absurd (cc))

actions_gone : (outer : Bool) (blocks : List Frame) (actions : Actions) → (outer ≡ false → is_outermost blocks ≡ true)
    → actions_back blocks actions ≡ (if outer then actions_back blocks actions else actions_cancelled blocks actions)
actions_gone true blocks actions all = refl
actions_gone false [] actions all = refl
actions_gone false (b ∷ []) actions all = refl
actions_gone false (b ∷ p ∷ bs) actions all = (let one = all refl in absurd (cc))

blocks_gone : (outer : Bool) (blocks : List Frame) → (outer ≡ false → is_outermost blocks ≡ true) → [] ≡ (if outer then [] else drop 1 blocks)
blocks_gone true blocks all = refl
blocks_gone false [] all = refl
blocks_gone false (b ∷ []) all = refl
blocks_gone false (b ∷ p ∷ bs) all = (let one = all refl in absurd (cc))

undone_replies : (d : Data) (outer : Bool) (new : Data) → IsSound d Idle → IsUndoneBy (come d) outer new
    → Replies (came (core d Idle) (Abort outer) false) (Abort outer) (Code 24) (core new Idle)
undone_replies d outer new s e =
    let blocks = d.frames.blocks in
    let is_open = (s.in_phase.0 e.is_open).0 in
    let over : Core = record (ended (core (come d) Idle)) { tries = 0; arena = arena_back blocks d.arena; actions = actions_back blocks d.frames.actions } in
    subst (λ (c : Core). Replies (came (core d Idle) (Abort outer) false) (Abort outer) (Code 24) c) (sym (core_ended (come d) new (arena_back blocks d.arena) (actions_back blocks d.frames.actions) e.ended)) (record {
      meets = λ m mem agrees. cancels d outer m (state_over [] [] (arena_back blocks d.arena) (actions_back blocks d.frames.actions) m) e.is_open e.may
          (undone_is outer d.words d.frames.writes.rows blocks d.arena d.frames.actions m is_open.frames e.is_open e.all e.restored);
      reply_is = λ m mem agrees. told d outer m e.is_open e.may;
      stays = refl;
      writes = λ m mem agrees. rows_gone outer d.words blocks is_open.frames e.all;
      arena = λ m mem agrees. arena_gone outer blocks d.arena e.all;
      free = refl;
      revocable = refl;
      unfreed = refl;
      blocks = blocks_gone outer blocks e.all;
      actions = actions_gone outer blocks d.frames.actions e.all;
      still = λ other o. absurd (cc);
      settled = λ o. absurd (cc);
    })

pub all_replies : (d old : Data) (outer : Bool) (new : Data) → old ≡ come d → IsSound d Idle → IsUndoneBy old outer new
    → Replies (came (core d Idle) (Abort outer) false) (Abort outer) (Code 24) (core new Idle)
all_replies d old outer new is s e =
    subst (λ (x : Data). IsUndoneBy x outer new → Replies (came (core d Idle) (Abort outer) false) (Abort outer) (Code 24) (core new Idle)) (sym is) (undone_replies d outer new s) e

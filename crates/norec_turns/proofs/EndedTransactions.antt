-- The engine's fields as what its callers see, once a transaction is over.
use Rattle.std.proofs.Common.{◌≡◌, ℕ, Bool, true, false, List, [], ◌∷◌, length, None, Some, refl, sym, ap, ◌∙◌, if◌then◌else◌}
use Rattle.norec_turns.proofs.Common.{Actions, AreFrames, Core, Data, Frame, InPhase, IsEnded, IsOpen, IsUndone, Phase, Written, actions_back, arena_back, arena_restored, blocks_over, bytes_of, core, core_ended, cut_back, ended, holds_of, in_block, in_transaction, is_inside, is_some_row, kept_of, none_inside, overlay, phase_of, restored, rolled_back, stands_for, state_in, state_over, undone, undone_from, writes_of}
use Rattle.norec_data.specs.declared.pending.Pending.{Pending}
use Rattle.itm_types.proofs.KeptBytes.{length-restored}
use Rattle.undo_log.proofs.KeptBytes.{kept_of-same}
use Rattle.norec_core.specs.Phases as at
use Rattle.norec_data.specs.declared.pending.Pending.TheVariants as waits
use Rattle.norec_core.specs.declared.answer.Undone.TheVariants.{Nothing, Done, Held}
use Rattle.norec_core.specs.Undoing.{undone_of, after_undoing}

-- a rollback of all these blocks: the memory without the write set, and the arena with what they logged
pub undone_over : (words : ℕ) (blocks : List Frame) (arena now : List ℕ) (actions : Actions) (m memory : List ℕ) (wrote : Bool) → AreFrames words blocks → is_inside blocks ≡ true → length now ≡ length arena
    → undone_from (record { memory = memory; arena = now; blocks = blocks_over blocks arena m; actions = actions; wrote = wrote; irrevocable = false }) (blocks_over blocks arena m) ≡ state_over [] [] (arena_restored blocks now) (actions_back blocks actions) m
undone_over words [] arena now actions m memory wrote f o same = absurd (cc)
undone_over words (b ∷ []) arena now actions m memory wrote f o same =
    λ i. record { memory = bytes_of (overlay m (f i)); arena = restored (kept_of-same arena now b.log (sym same) i) now; blocks = []; actions = cut_back b.commits b.undos actions; wrote = is_some_row (f i); irrevocable = false }
undone_over words (b ∷ p ∷ bs) arena now actions m memory wrote f o same =
    let next = restored (kept_of arena b.log) now in
    undone_over words (p ∷ bs) arena next (cut_back b.commits b.undos actions) m (bytes_of (overlay m b.rows)) (is_some_row b.rows) f.2 refl (length-restored (kept_of arena b.log) now ∙ same)
    ∙ ap (λ (ks : _). state_over [] [] (arena_restored (p ∷ bs) (restored ks now)) (actions_back (b ∷ p ∷ bs) actions) m) (kept_of-same arena now b.log (sym same))

pub ended_undone : (mid new : Core) (stage : Phase) (tries snapshot : ℕ) → AreFrames mid.words mid.blocks → arena_back mid.blocks mid.arena ≡ arena_restored mid.blocks mid.arena
    → mid.irrevocable ≡ false → in_transaction mid ≡ true → new ≡ record (rolled_back mid) { stage = stage; tries = tries; snapshot = snapshot } → IsUndone mid new
ended_undone mid new stage tries snapshot f same r o stays m mem =
    ap (λ (c : Core). stands_for c m) stays ∙ (ap (λ (arena : List ℕ). state_over [] [] arena (actions_back mid.blocks mid.actions) m) same
    ∙ (sym (undone_over mid.words mid.blocks mid.arena mid.arena mid.actions m (bytes_of (overlay m mid.writes)) (is_some_row mid.writes) f o refl)
    ∙ ap (λ (b : Bool). undone (state_in b mid.writes mid.blocks mid.arena mid.actions m)) (sym r)))

-- ## Given up

-- the clock is not held
abbrev pub IsFree : Phase → Type 0
IsFree (at.BackLoad taking row) = ⊥
IsFree (at.Store taking row got) = ⊥
IsFree at.Free = ⊥
IsFree _ = Unit {0}

pub free_holds : (phase : Phase) → IsFree phase → holds_of phase ≡ false
free_holds (at.BackLoad taking row) f = absurd f
free_holds (at.Store taking row got) f = absurd f
free_holds at.Free f = absurd f
free_holds phase f = refl

-- such a phase, by what it is not
pub is_free : (d : Data) (p : Pending) → ((row : ℕ) → p ≡ waits.BackLoad row → ⊥) → ((row : ℕ) → p ≡ waits.Store row → ⊥) → (p ≡ waits.Free → ⊥) → IsFree (phase_of d p)
is_free d (waits.BackLoad row) f g h = f row refl
is_free d (waits.Store row) f g h = g row refl
is_free d waits.Free f g h = h refl
is_free d p f g h = tt

-- what is true of every phase of an open transaction
pub open_in : (d : Data) (phase : Phase) → InPhase d phase → in_block d ≡ true → IsOpen d
open_in d at.Idle p o = (p.0 o).0
open_in d (at.Begin b) p o = (let outside = p.0.is_open in absurd (cc))
open_in d (at.Load r) p o = p.0
open_in d (at.Confirm r value) p o = p.0
open_in d (at.RoundStart aim) p o = p.is_open
open_in d (at.RoundRow aim row) p o = p.0.is_open
open_in d (at.RoundEnd aim) p o = p.0.is_open
open_in d (at.RoundBack aim row) p o = p.0.is_open
open_in d (at.Take b) p o = (let outside = p.0.is_open in absurd (cc))
open_in d (at.Exchange taking) p o = p.0
open_in d (at.BackLoad taking row) p o = p.0.is_open
open_in d (at.Store taking row None) p o = p.0.is_open
open_in d (at.Store taking row (Some word)) p o = p.0.is_open
open_in d at.Free p o = p.is_open
open_in d (at.Fetch w) p o = absurd p
open_in d (at.Place w got) p o = absurd p

-- where none is open, nothing is written
pub none_written : (d : Data) (phase : Phase) → InPhase d phase → in_block d ≡ false → writes_of d phase ≡ []
none_written d at.Idle p o = ap (λ (w : Written). w.rows) (p.1 o).writes
none_written d (at.Begin b) p o = ap (λ (w : Written). w.rows) p.0.writes
none_written d (at.Load r) p o = (let inside = p.0.is_open in absurd (cc))
none_written d (at.Confirm r value) p o = (let inside = p.0.is_open in absurd (cc))
none_written d (at.RoundStart aim) p o = (let inside = p.is_open.is_open in absurd (cc))
none_written d (at.RoundRow aim row) p o = (let inside = p.0.is_open.is_open in absurd (cc))
none_written d (at.RoundEnd aim) p o = (let inside = p.0.is_open.is_open in absurd (cc))
none_written d (at.RoundBack aim row) p o = (let inside = p.0.is_open.is_open in absurd (cc))
none_written d (at.Take b) p o = ap (λ (w : Written). w.rows) p.0.writes
none_written d (at.Exchange taking) p o = (let inside = p.0.is_open in absurd (cc))
none_written d (at.BackLoad taking row) p o = (let inside = p.0.is_open.is_open in absurd (cc))
none_written d (at.Store taking row None) p o = (let inside = p.0.is_open.is_open in absurd (cc))
none_written d (at.Store taking row (Some word)) p o = (let inside = p.0.is_open.is_open in absurd (cc))
none_written d at.Free p o = (let inside = p.is_open.is_open in absurd (cc))
none_written d (at.Fetch w) p o = absurd p
none_written d (at.Place w got) p o = absurd p

-- the phases that do not hold the clock are left alike
left_alike : (d : Data) (phase : Phase) → IsFree phase
    → record (rolled_back (core d phase)) { stage = at.Idle; tries = 0 } ≡ record (ended (core d at.Idle)) { tries = 0; arena = arena_back d.frames.blocks d.arena; actions = actions_back d.frames.blocks d.frames.actions }
left_alike d (at.BackLoad taking row) f = absurd f
left_alike d (at.Store taking row got) f = absurd f
left_alike d at.Free f = absurd f
left_alike d phase f = refl

pub core_left : (d new : Data) (phase : Phase) → IsFree phase → IsEnded d (arena_back d.frames.blocks d.arena) (actions_back d.frames.blocks d.frames.actions) new
    → core new at.Idle ≡ record (rolled_back (core d phase)) { stage = at.Idle; tries = 0 }
core_left d new phase f e = core_ended d new (arena_back d.frames.blocks d.arena) (actions_back d.frames.blocks d.frames.actions) e ∙ sym (left_alike d phase f)

pub after_left : (d new : Data) (phase : Phase) → IsFree phase → IsEnded d (arena_back d.frames.blocks d.arena) (actions_back d.frames.blocks d.frames.actions) new → core new at.Idle ≡ after_undoing (core d phase)
after_left d new phase f e =
    core_left d new phase f e
    ∙ sym (ap (λ (holds : Bool). if holds then core d phase else record (rolled_back (core d phase)) { stage = at.Idle; tries = 0 }) (free_holds phase f))

undone_left : (d new : Data) (phase : Phase) (inside : Bool) → in_block d ≡ inside → InPhase d phase → IsFree phase → IsEnded d (arena_back d.frames.blocks d.arena) (actions_back d.frames.blocks d.frames.actions) new
    → arena_back d.frames.blocks d.arena ≡ arena_restored d.frames.blocks d.arena → IsUndone (core d phase) (core new at.Idle)
undone_left d new phase true o p f e same = ended_undone (core d phase) (core new at.Idle) at.Idle 0 d.snapshot (open_in d phase p o).frames same refl o (core_left d new phase f e)
undone_left d new phase false o p f e same = λ m mem.
    (let none = none_inside d.frames.blocks o in
    let nothing = none_written d phase p o in
    ap (λ (c : Core). stands_for c m) (core_left d new phase f e)
    ∙ ((λ i. state_over [] [] (arena_back (none i) d.arena) (actions_back (none i) d.frames.actions) m) ∙ sym (λ i. undone (state_over (nothing i) (none i) d.arena d.frames.actions m))))

pub undone_of_left : (d new : Data) (phase : Phase) → InPhase d phase → IsFree phase → IsEnded d (arena_back d.frames.blocks d.arena) (actions_back d.frames.blocks d.frames.actions) new
    → arena_back d.frames.blocks d.arena ≡ arena_restored d.frames.blocks d.arena → IsUndone (core d phase) (core new at.Idle)
undone_of_left d new phase p f e same = undone_left d new phase (in_block d) refl p f e same

-- what is told of it
pub told_left : (d : Data) (phase : Phase) → IsFree phase → undone_of (core d phase) ≡ (if in_block d then Done else Nothing)
told_left d phase f = ap (λ (holds : Bool). if holds then Held else (if in_block d then Done else Nothing)) (free_holds phase f)

-- By which calls the innermost block may go back to its begin.
use Rattle.std.proofs.Common.{◌≡◌, ℕ, ◌+◌, ◌*◌, ◌&&◌, not, nat_le, nat_lt, Bool, true, false, true≢false, if◌then◌else◌, List, [], ◌∷◌, length, None, Some, refl, ap, ◌∙◌, arith}
use Rattle.std.proofs.lemmas.Bool.Decides.{nat_tests}
use Rattle.norec_core.proofs.Common.{Begin, Call, Commit, Copy, CopyPair, Copying, Core, Fill, Frame, Idle, In, Mode, Out, Phase, Props, Read, Within, Write, chunk_from, commit_stage, cond-true, copy_stage, going_stage, in_transaction, is_outermost, is_within, may_go, placed_in, size_of, stage_at}
use Rattle.norec_core.specs.declared.call_parts.Taking.TheVariants as takings
use Rattle.norec_core.specs.RestartingCalls.{arena_ahead, can_restart, may_validate, reads_shared}

-- ## Calls that ask for no step

off : (b : Bool) (stage : Phase) → stage ≡ Idle → (if b then stage else Idle) ≡ Idle
off true stage e = e
off false stage e = refl

-- a block within another one is not the outermost
pub inner : (bs : List Frame) → is_within bs ≡ true → is_outermost bs ≡ false
inner [] w = refl
inner (b ∷ []) w = absurd (cc)
inner (b ∷ p ∷ bs) w = refl

module _ (c : Core) (again : Bool) (revocable : c.irrevocable ≡ false) (inside : in_transaction c ≡ true) (within : is_within c.blocks ≡ true) where
  still : (stage : Phase) → placed_in c stage ≡ Idle
  still stage = ap (λ (i : Bool). if i then stage else Idle) revocable

  begin_idle : (props : Props) (room : ℕ) → props.goes_irrevocable ≡ false → stage_at c (Begin props room) again ≡ Idle
  begin_idle props room stays =
      cond-true (in_transaction c) _ _ inside
      ∙ ap (λ (goes : Bool). going_stage c (if goes && may_go c.blocks props && nat_lt (length c.blocks) c.depth && not c.irrevocable then Some room else None) (takings.Begin props room)) stays

  copy_idle : (k : Copying) (pair : CopyPair) → reads_shared pair ≡ false → (if c.irrevocable then chunk_from k 0 else copy_stage c.writes c.log k pair) ≡ Idle
  copy_idle k (Out to) e = ap (λ (i : Bool). if i then chunk_from k 0 else Idle) revocable
  copy_idle k (In from) e = absurd (true≢false e)
  copy_idle k (Within from to) e = absurd (true≢false e)

  -- within an inner block a call that comes to no round asks for none
  pub idle_so : (call : Call) → may_validate call ≡ false → stage_at c call again ≡ Idle
  idle_so (Begin props room) e = begin_idle props room e
  idle_so Commit e = ap (λ (b : Bool). if b then commit_stage c else Idle) (inner c.blocks within)
  idle_so (Mode room) e = absurd (true≢false e)
  idle_so (Read hint width at) e = absurd (true≢false e)
  idle_so (Write hint at value) e = off (in_transaction c && nat_le (at + size_of value.width) (8 * c.words)) _ (still _)
  idle_so (Copy k) e = off _ _ (copy_idle k k.pair e)
  idle_so (Fill hint to byte size) e = off (in_transaction c && nat_le (to + size) (8 * c.words)) _ (still _)
  idle_so call e = refl

-- ## A call by which the block may go back

-- a transaction in which one may go back so may be tried again
pub can_revocable : (e : Core) (call : Call) → can_restart e call ≡ true → e.irrevocable ≡ false
can_revocable e call can = grind (arith, nat_tests)

-- the bytes for which room is made before it
pub ahead_of_it : (e : Core) (call : Call) → can_restart e call ≡ true → arena_ahead e call ≡ Some (length e.arena)
ahead_of_it e call can = ap (λ (b : Bool). if b then Some (length e.arena) else None) can

-- room is made before no other
pub ahead_revocable : (e : Core) (call : Call) (bytes : ℕ) → arena_ahead e call ≡ Some bytes → e.irrevocable ≡ false
ahead_revocable e call bytes ahead = grind (arith, nat_tests, can_revocable e call)

-- What the plain machine refuses of an irrevocable transaction.
use Rattle.std.proofs.Common.{◌≡◌, ℕ, suc, ◌+◌, ◌*◌, ◌&&◌, ◌||◌, not, nat_le, nat_lt, Bool, true, false, List, [], ◌∷◌, length, map, Some, if◌then◌else◌, refl, ap, ◌∙◌, arith}
use Rattle.norec_irrevocable.proofs.Common.{Abort, Begin, Call, Copy, Copying, Frame, IsIrrevocable, IsMemory, Mode, NoAbort, NoIrrevocable, OutOfRange, Outside, Overlap, Props, State, TooDeep, access_of, access_refusal, begin_refusal, block_kept, bytes_of, copy_refusal, is_clear, is_inside, is_kept, is_open, keeps_any, keeps_innermost, keeps_revocable, length-bytes_of, lt-ltb, may_go, mode_refusal, or_else, refusal, source_is, state_kept, stays_revocable, target_is, unless}
use Rattle.user_actions.specs.Actions.{Actions}
use Rattle.norec_core.{proofs.Engines.Machines.refusal_of, proofs.Engines.IrrevocableCalls.or_none}

-- ## Blocks

-- they have the properties of those that the engine has open
revocable_kept : (blocks : List Frame) → keeps_revocable (map block_kept blocks) ≡ stays_revocable blocks
revocable_kept [] = refl
revocable_kept (b ∷ bs) = ap (λ (t : Bool). b.props.no_irrevocable || t) (revocable_kept bs)

any_kept : (blocks : List Frame) → keeps_any (map block_kept blocks) ≡ is_kept blocks true
any_kept [] = refl
any_kept (b ∷ bs) = ap (λ (t : Bool). b.props.no_abort || t) (any_kept bs)

innermost_kept : (blocks : List Frame) → keeps_innermost (map block_kept blocks) ≡ is_kept blocks false
innermost_kept [] = refl
innermost_kept (b ∷ bs) = refl

abort_kept : (blocks : List Frame) (outer : Bool) → (if outer then keeps_any (map block_kept blocks) else keeps_innermost (map block_kept blocks)) ≡ is_kept blocks outer
abort_kept blocks true = any_kept blocks
abort_kept blocks false = innermost_kept blocks

length-kept : (blocks : List Frame) → length (map block_kept blocks) ≡ length blocks
length-kept [] = refl
length-kept (b ∷ bs) = ap suc (length-kept bs)

no_abort : (kept : Bool) → or_else (unless (not kept) NoAbort) (unless (not true) IsIrrevocable) ≡ Some (if kept then NoAbort else IsIrrevocable)
no_abort true = refl
no_abort false = refl

pub many_bytes : (words : ℕ) (m : List ℕ) → IsMemory words m → length (bytes_of m) ≡ 8 * words
many_bytes words m mem = omega (arith, length-bytes_of m, mem.0)

module _ (blocks : List Frame) (arena : List ℕ) (actions : Actions) (m : List ℕ) where
  abbrev now : State
  now = state_kept blocks arena actions m

  open_from : (bs : List Frame) → nat_lt 0 (length (map block_kept bs)) ≡ is_inside bs
  open_from [] = refl
  open_from (b ∷ bs) = lt-ltb 0 (length (map block_kept (b ∷ bs))) (omega arith)

  pub open_kept : is_open now ≡ is_inside blocks
  open_kept = open_from blocks

  -- ## Calls

  module _ (depth : ℕ) where
    pub begin_kept : (props : Props) (room : ℕ) → refusal depth now (Begin props room) ≡ begin_refusal (may_go blocks props) (nat_lt (length blocks) depth)
    begin_kept props room =
        or_none _
        ∙ (λ i. or_else (unless (not (props.goes_irrevocable && (props.no_irrevocable || revocable_kept blocks i))) NoIrrevocable) (unless (nat_lt (length-kept blocks i) depth) TooDeep))

    pub mode_kept : (room : ℕ) → refusal depth now (Mode room) ≡ mode_refusal (is_inside blocks) (stays_revocable blocks)
    mode_kept room = or_none _ ∙ (λ i. or_else (unless (open_kept i) Outside) (unless (not (revocable_kept blocks i)) NoIrrevocable))

    pub abort_refused : (outer : Bool) → is_inside blocks ≡ true → refusal depth now (Abort outer) ≡ Some (if is_kept blocks outer then NoAbort else IsIrrevocable)
    abort_refused outer o =
        or_none _
        ∙ ((λ i. or_else (unless ((open_kept ∙ o) i) Outside) (or_else (unless (not (abort_kept blocks outer i)) NoAbort) (unless (not true) IsIrrevocable)))
        ∙ no_abort (is_kept blocks outer))

    module _ (words : ℕ) (mem : IsMemory words m) where
      -- a read, a write or a fill
      pub access_kept : (call : Call) (at size : ℕ) → access_of call ≡ Some (at, size) → refusal depth now call ≡ access_refusal (is_inside blocks) words at size
      access_kept call at n is =
          refusal_of depth now call at n is
          ∙ (λ i. or_else (unless (open_kept i) Outside) (unless (nat_le (at + n) (many_bytes words m mem i)) OutOfRange))

      pub copy_kept : (k : Copying) → refusal depth now (Copy k) ≡ copy_refusal (is_inside blocks) words (length arena) k
      copy_kept k =
          let target = target_is now words k.pair k.to k.size (many_bytes words m mem) in
          let source = source_is now words k.pair k.from k.size (many_bytes words m mem) in
          (λ i. or_else (unless (open_kept i) Outside) (or_else (target i) (or_else (source i) (unless (is_clear k) Overlap))))

-- A script's thread accesses its arena in 1, 2, 4 or 8 bytes.
use Rattle.std.proofs.Common.{◌≡◌, inl, inr, ℕ, List, [], ◌∷◌, Some, refl, subst}
use Rattle.report_rules.proofs.Common.{Call, HasArenaWidth, Instruction, IsArenaWidth, Thread, call_at, next_call}
use Rattle.script_program.specs.declared.instruction.ArenaWidth.{ArenaWidth}
use Rattle.script_program.specs.declared.instruction.ArenaWidth.TheVariants.{One, Two, Four, Eight}
use Rattle.script_program.specs.declared.instruction.Instruction.TheVariants as code
use Rattle.script_program.specs.Instructions.{width_of}
use Rattle.script_vm.{specs.Registers.datum, specs.Threads.depth_of, specs.BlockLaws.none_is_no_call, specs.BlockLaws.same_call}

arena_width : (w : ArenaWidth) → IsArenaWidth (width_of w)
arena_width One = inl refl
arena_width Two = inr (inl refl)
arena_width Four = inr (inr (inl refl))
arena_width Eight = inr (inr (inr refl))

width_at : (registers : List (List ℕ)) (depth : ℕ) (rest : List Instruction) (c : Call) → call_at registers depth rest ≡ Some c → HasArenaWidth c
unfolding datum
width_at registers depth [] c e = absurd (none_is_no_call c e)
width_at registers depth (code.Set to n ∷ more) c e = absurd (none_is_no_call c e)
width_at registers depth (code.Bytes to literal ∷ more) c e = absurd (none_is_no_call c e)
width_at registers depth (code.Move to from ∷ more) c e = absurd (none_is_no_call c e)
width_at registers depth (code.Compute operation to x y ∷ more) c e = absurd (none_is_no_call c e)
width_at registers depth (code.IfNotZero x ∷ more) c e = absurd (none_is_no_call c e)
width_at registers depth (code.Else ∷ more) c e = absurd (none_is_no_call c e)
width_at registers depth (code.EndIf ∷ more) c e = absurd (none_is_no_call c e)
width_at registers depth (code.Load width to at ∷ more) c e = subst HasArenaWidth (same_call _ c e) (arena_width width)
width_at registers depth (code.Save width at from ∷ more) c e = subst HasArenaWidth (same_call _ c e) (arena_width width)
width_at registers depth (call ∷ more) c e = subst HasArenaWidth (same_call _ c e) tt

pub script_widths : (t : Thread) (c : Call) → next_call t ≡ Some c → HasArenaWidth c
script_widths t c e = width_at t.registers (depth_of t) t.rest c e

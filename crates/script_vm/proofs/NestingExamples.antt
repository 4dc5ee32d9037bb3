-- Code that is nested, code that is not, and a thread of such code that tells too little room.
use Rattle.script_vm.proofs.Common.{Code, Done, Instruction, List, Nests, R0, R1, Some, block, false, group, next_call, refl, [], ◌∷◌, ◌≡◌}
use Rattle.itm_types.specs.declared.call.Call.TheVariants as calls
use Rattle.script_program.specs.declared.instruction.Instruction.TheVariants as code
use Rattle.script_vm.proofs.Examples.{plain, played}

-- a block with a group in it, of two parts
nested : Nests (code.Begin plain R0 ∷ code.IfNotZero R1 ∷ code.Abort false ∷ code.Else ∷ code.Mode ∷ code.EndIf ∷ code.Commit ∷ []) []
nested = (block ∷ [], refl, (block ∷ [], refl, ([], refl, refl)))

-- a block that does not end
not_ended : Nests (code.Begin plain R0 ∷ []) [] → ⊥
not_ended n = absurd (cc)

-- a block that ends in a group within it
crossed : Nests (code.Begin plain R0 ∷ code.IfNotZero R1 ∷ code.Commit ∷ code.EndIf ∷ code.Commit ∷ []) [] → ⊥
crossed n = absurd (let e : group ∷ block ∷ [] ≡ block ∷ n.0 = n.1 in cc)

-- such a block tells room up to the first commit, and where that is passed over more calls come
abbrev unnested : List Instruction
unnested = code.Begin plain R0 ∷ code.Mode ∷ code.IfNotZero R1 ∷ code.Commit ∷ code.EndIf ∷ code.InTransaction R0 ∷ code.InTransaction R0 ∷ code.Commit ∷ []

tells_two : next_call (played unnested (Code 5 ∷ [])) ≡ Some (calls.Mode 2)
tells_two = refl

third_comes : next_call (played unnested (Code 5 ∷ Done ∷ Code 2 ∷ Code 2 ∷ [])) ≡ Some calls.Commit
third_comes = refl

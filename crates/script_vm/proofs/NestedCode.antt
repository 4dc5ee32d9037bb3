-- Nested code: the room that is told of it, local work in it, and the ends of its blocks.
use Rattle.std.proofs.Common.{◌≡◌, ℕ, zero, suc, ◌+◌, ◌-◌, ◌<◌, ◌≤◌, List, [], ◌∷◌, refl, sym, ap, subst, ◌∙◌, arith}
use Rattle.script_vm.proofs.Common.{Instruction, Level, Nests, Runs, Stage, ToElse, ToEnd, block, blocks_in, bytes_at, chosen_by, computed, group, number_at, open_past, past_block, room, stage_past, with_bytes, with_number, worked}
use Rattle.script_program.specs.declared.instruction.Instruction.TheVariants as code

-- ## What is told as room

pub room_nil : (n : ℕ) → room n [] ≡ 0
room_nil zero = refl
room_nil (suc n) = refl

pub room_step : (n : ℕ) (i : Instruction) (more : List Instruction) → 0 < n → room n (i ∷ more) ≡ suc (room (open_past i n) more)
room_step zero i more some = absurd (omega arith)
room_step (suc n) i more some = refl

past_more : (i : Instruction) (n k : ℕ) → 0 < n → open_past i (n + k) ≡ open_past i n + k
past_more (code.Begin props r) n k some = omega arith
past_more code.Commit n k some = omega arith
past_more i n k some = refl

-- up to the end of more blocks: up to that of the first ones, and on
pub room_more : (n k : ℕ) (rest : List Instruction) → room (n + k) rest ≡ room n rest + room k (past_block n rest)
room_more zero k rest = (let none : 0 + k ≡ k = omega arith in ap (λ (m : ℕ). room m rest) none ∙ (let same : room k rest ≡ 0 + room k rest = omega arith in same))
room_more (suc n) k [] = (let both = room_nil (suc n + k) in let none = room_nil k in omega arith)
room_more (suc n) k (i ∷ more) =
    (let step = room_step (suc n + k) i more (omega arith) in
    let past = ap (λ (m : ℕ). room m more) (past_more i (suc n) k (omega arith)) in
    let rest = room_more (open_past i (suc n)) k more in
    omega arith)

-- ## Local work

-- what is around the group that is passed over, in which so many groups have begun
abbrev Around : List Level → ℕ → List Level → Type 0
Around [] n outer = ⊥
Around (block ∷ levels) n outer = Around levels n outer
Around (group ∷ levels) zero outer = levels ≡ outer
Around (group ∷ levels) (suc n) outer = Around levels n outer

-- what is open for the thread itself
abbrev Stands : Stage → List Level → List Level → Type 0
Stands Runs levels outer = levels ≡ outer
Stands (ToElse n) levels outer = Around levels n outer
Stands (ToEnd n) levels outer = Around levels n outer

around_fewer : (levels : List Level) (n : ℕ) (outer : List Level) → Around levels n outer → blocks_in outer ≤ blocks_in levels
around_fewer [] n outer a = absurd a
around_fewer (block ∷ levels) n outer a = (let few = around_fewer levels n outer a in omega arith)
around_fewer (group ∷ levels) zero outer a = (let same = ap blocks_in a in omega arith)
around_fewer (group ∷ levels) (suc n) outer a = around_fewer levels n outer a

stands_fewer : (stage : Stage) (levels outer : List Level) → Stands stage levels outer → blocks_in outer ≤ blocks_in levels
stands_fewer Runs levels outer s = (let same = ap blocks_in s in omega arith)
stands_fewer (ToElse n) levels outer s = around_fewer levels n outer s
stands_fewer (ToEnd n) levels outer s = around_fewer levels n outer s

-- an instruction was passed over
record Passed (next : Stage) (i : Instruction) (more : List Instruction) (levels outer : List Level) : Type 0 where
  now : List Level
  around : List Level
  nests : Nests more now
  stands : Stands next now around
  same : blocks_in around ≡ blocks_in outer
  past : blocks_in now ≡ open_past i (blocks_in levels)

-- the group that is passed over ends
group_ended : (more : List Instruction) (levels outer : List Level) (x : Nests (code.EndIf ∷ more) levels) → Around levels zero outer → Passed Runs code.EndIf more levels outer
group_ended more levels outer x a = record { now = x.0; around = x.0; nests = x.2; stands = refl; same = ap blocks_in (subst (λ (l : List Level). Around l zero outer) x.1 a); past = sym (ap blocks_in x.1) }

-- what is passed over: up to an `else` or to the end of a group
abbrev Passes : Stage → Type 0
Passes Runs = ⊥
Passes stage = Unit {0}

passed : (stage : Stage) (i : Instruction) (more : List Instruction) (levels outer : List Level) → Passes stage → Nests (i ∷ more) levels → Stands stage levels outer → Passed (stage_past stage i) i more levels outer
passed (ToElse zero) code.Else more levels outer p x a = record { now = levels; around = levels; nests = x.2; stands = refl; same = ap blocks_in x.1 ∙ ap blocks_in (subst (λ (l : List Level). Around l zero outer) x.1 a); past = refl }
passed (ToElse zero) code.EndIf more levels outer p x a = group_ended more levels outer x a
passed (ToEnd zero) code.EndIf more levels outer p x a = group_ended more levels outer x a
passed (ToElse (suc n)) code.EndIf more levels outer p x a = record { now = x.0; around = outer; nests = x.2; stands = subst (λ (l : List Level). Around l (suc n) outer) x.1 a; same = refl; past = sym (ap blocks_in x.1) }
passed (ToEnd (suc n)) code.EndIf more levels outer p x a = record { now = x.0; around = outer; nests = x.2; stands = subst (λ (l : List Level). Around l (suc n) outer) x.1 a; same = refl; past = sym (ap blocks_in x.1) }
passed Runs i more levels outer p x a = absurd p
passed stage code.Else more levels outer p x a = record { now = levels; around = outer; nests = x.2; stands = a; same = refl; past = refl }
passed stage (code.IfNotZero r) more levels outer p x a = record { now = group ∷ levels; around = outer; nests = x; stands = a; same = refl; past = refl }
passed stage (code.Begin props r) more levels outer p x a = record { now = block ∷ levels; around = outer; nests = x; stands = a; same = refl; past = refl }
passed stage code.Commit more levels outer p x a =
    record { now = x.0; around = outer; nests = x.2; stands = subst (λ (l : List Level). Stands stage l outer) x.1 a; same = refl; past = (let same = ap blocks_in x.1 in omega arith) }
passed stage i more levels outer p x a = record { now = levels; around = outer; nests = x; stands = a; same = refl; past = refl }

-- the code from the next call on, with so many blocks open
pub record Settles (blocks most : ℕ) (rest : List Instruction) : Type 0 where
  pub levels : List Level
  pub nests : Nests rest levels
  pub blocks_are : blocks_in levels ≡ blocks
  pub fewer : 0 < blocks → room blocks rest ≤ most

-- one instruction more before it
settles_on : (i : Instruction) (more rest : List Instruction) (before now outer around : List Level) → blocks_in around ≡ blocks_in outer → blocks_in now ≡ open_past i (blocks_in before) → blocks_in outer ≤ blocks_in before
    → Settles (blocks_in around) (room (blocks_in now) more) rest → Settles (blocks_in outer) (room (blocks_in before) (i ∷ more)) rest
settles_on i more rest before now outer around same past few s = record {
  levels = s.levels;
  nests = s.nests;
  blocks_are = s.blocks_are ∙ same;
  fewer = λ some.
      (let step = room_step (blocks_in before) i more (omega arith) in
      let less = s.fewer (omega arith) in
      let left = ap (λ (n : ℕ). room n rest) same in
      let gone = ap (λ (n : ℕ). room n more) past in
      omega arith);
}

-- a group's beginning
chosen_stands : (n : ℕ) (levels : List Level) → (around : List Level) × (blocks_in around ≡ blocks_in levels) × Stands (chosen_by n) (group ∷ levels) around
chosen_stands zero levels = (levels, refl, refl)
chosen_stands (suc n) levels = (group ∷ levels, refl, refl)

pub worked_settles : (stage : Stage) (registers : List (List ℕ)) (rest : List Instruction) (levels outer : List Level) → Nests rest levels → Stands stage levels outer → Settles (blocks_in outer) (room (blocks_in levels) rest) (worked stage registers rest).1
worked_settles Runs registers [] levels outer x s = record { levels = []; nests = refl; blocks_are = ap blocks_in (sym x ∙ s); fewer = λ some. (let none = room_nil (blocks_in outer) in omega arith) }
worked_settles (ToElse n) registers [] levels outer x s = absurd (subst (λ (l : List Level). Around l n outer) x s)
worked_settles (ToEnd n) registers [] levels outer x s = absurd (subst (λ (l : List Level). Around l n outer) x s)
worked_settles Runs registers (code.Set to n ∷ more) levels outer x s =
    settles_on (code.Set to n) more _ levels levels outer outer refl refl (stands_fewer Runs levels outer s) (worked_settles Runs (with_number registers to n) more levels outer x s)
worked_settles Runs registers (code.Bytes to literal ∷ more) levels outer x s =
    settles_on (code.Bytes to literal) more _ levels levels outer outer refl refl (stands_fewer Runs levels outer s) (worked_settles Runs (with_bytes registers to literal.bytes) more levels outer x s)
worked_settles Runs registers (code.Move to from ∷ more) levels outer x s =
    settles_on (code.Move to from) more _ levels levels outer outer refl refl (stands_fewer Runs levels outer s) (worked_settles Runs (with_bytes registers to (bytes_at registers from)) more levels outer x s)
worked_settles Runs registers (code.Compute operation to a b ∷ more) levels outer x s =
    settles_on (code.Compute operation to a b) more _ levels levels outer outer refl refl (stands_fewer Runs levels outer s)
    (worked_settles Runs (with_number registers to (computed operation (number_at registers a) (number_at registers b))) more levels outer x s)
worked_settles Runs registers (code.IfNotZero r ∷ more) levels outer x s =
    let c = chosen_stands (number_at registers r) levels in
    settles_on (code.IfNotZero r) more _ levels (group ∷ levels) outer c.0 (c.1 ∙ ap blocks_in s) refl (stands_fewer Runs levels outer s) (worked_settles (chosen_by (number_at registers r)) registers more (group ∷ levels) c.0 x c.2)
worked_settles Runs registers (code.Else ∷ more) levels outer x s =
    settles_on code.Else more _ levels levels outer x.0 (ap blocks_in (sym x.1 ∙ s)) refl (stands_fewer Runs levels outer s)
    (worked_settles (ToEnd 0) registers more levels x.0 x.2 (subst (λ (l : List Level). Around l 0 x.0) (sym x.1) refl))
worked_settles Runs registers (code.EndIf ∷ more) levels outer x s =
    settles_on code.EndIf more _ levels x.0 outer x.0 (ap blocks_in (sym x.1 ∙ s)) (sym (ap blocks_in x.1)) (stands_fewer Runs levels outer s) (worked_settles Runs registers more x.0 x.0 x.2 refl)
worked_settles Runs registers (call ∷ more) levels outer x s = record { levels = levels; nests = x; blocks_are = ap blocks_in s; fewer = λ some. (let same = ap (λ (l : List Level). room (blocks_in l) (call ∷ more)) s in omega arith) }
worked_settles stage registers (i ∷ more) levels outer x s =
    let p = passed stage i more levels outer tt x s in
    settles_on i more _ levels p.now outer p.around p.same p.past (stands_fewer stage levels outer s) (worked_settles (stage_past stage i) registers more p.now p.around p.nests p.stands)

-- ## The ends of blocks

-- what stands after the end of so many of the blocks is nested too
pub past_nests : (n : ℕ) (rest : List Instruction) (levels : List Level) → n ≤ blocks_in levels → Nests rest levels → (outer : List Level) × Nests (past_block n rest) outer × (blocks_in outer + n ≡ blocks_in levels)
past_nests zero rest levels few x = (levels, x, omega arith)
past_nests (suc n) [] levels few x = absurd (let none = ap blocks_in x in omega arith)
past_nests (suc n) (code.Begin props r ∷ more) levels few x = (let p = past_nests (suc (suc n)) more (block ∷ levels) (omega arith) x in (p.0, p.1, (let k = p.2 in omega arith)))
past_nests (suc n) (code.Commit ∷ more) levels few x =
    (let one = ap blocks_in x.1 in
    let p = past_nests n more x.0 (omega arith) x.2 in
    (p.0, subst (λ (m : ℕ). Nests (past_block m more) p.0) (let one_less : n ≡ suc n - 1 = omega arith in one_less) p.1, (let k = p.2 in omega arith)))
past_nests (suc n) (code.IfNotZero r ∷ more) levels few x = past_nests (suc n) more (group ∷ levels) few x
past_nests (suc n) (code.Else ∷ more) levels few x = past_nests (suc n) more levels few x.2
past_nests (suc n) (code.EndIf ∷ more) levels few x =
    (let one = ap blocks_in x.1 in
    let p = past_nests (suc n) more x.0 (omega arith) x.2 in
    (p.0, p.1, (let k = p.2 in omega arith)))
past_nests (suc n) (i ∷ more) levels few x = past_nests (suc n) more levels few x

-- The lines of a section's code say its code.
use Rattle.std.proofs.Common.{◌≡◌, ℕ, ◌+◌, ◌<◌, ◌≤◌, true, false, ltb, List, [], ◌∷◌, ◌++◌, length, map, Option, Some, None, Ok, refl, sym, ap, ◌∙◌, arith, append_assoc, length-append, inl, inr}
use Rattle.script_print.proofs.Common.{AllByRecursion, Beginning, Group, Instruction, MAX_INSTRUCTIONS, MAX_LEVELS, State, append-nil, chosen, code_may_stand, counted, has_begun, instruction_fields, instruction_total, length-map, lt-leb, ltb-true, opened, run_code, stands_never, within_never, ◌>>=◌}
use Rattle.script_asm.specs.declared.groups.Group.TheVariants as groups
use Rattle.script_program.specs.declared.instruction.Instruction.TheVariants as code
use Rattle.script_print.proofs.Printable.{IsSaid, pushed, open_after, then_after, open_after_all}
use Rattle.script_print.proofs.Texts.Instructions.{mnemonic_of, stands, instruction_again}
use Rattle.script_print.proofs.Texts.Lines.{all_said, said_next}

-- what is open, without the lines in which it began
abbrev pub groups_of : List Beginning → List Group
groups_of levels = map (λ b. b.group) levels

-- more code in the section that is read, and what is open after it
abbrev pub with_code : State → List Instruction → List Beginning → State
with_code s is levels = record s { threads = record s.threads { code = s.threads.code ++ is }; levels = levels }

-- ## One instruction

-- the instruction's line is well, and leaves this open; no instruction begins lines that are to stand never
abbrev Leaves : State → ℕ → Instruction → List Group → Type 0
Leaves s n i hs = (levels : List Beginning) × (groups_of levels ≡ hs) × (within_never levels ≡ false) × (stands s n i ≡ Ok (with_code s (i ∷ []) levels))

-- one that begins and ends nothing
plain : (s : State) (n : ℕ) (i : Instruction) (hs : List Group) → code_may_stand s (mnemonic_of i) ≡ true → run_code s n i ≡ counted s n i
    → instruction_total s.threads < MAX_INSTRUCTIONS → within_never s.levels ≡ false → Some (groups_of s.levels) ≡ Some hs → Leaves s n i hs
plain s n i hs may run few none after = (s.levels, cc, none, rw (may, run, lt-leb MAX_INSTRUCTIONS (instruction_total s.threads) few, none) refl)

-- one that begins a block or a group
begins_one : (s : State) (n : ℕ) (i : Instruction) (g : Group) (hs : List Group) → code_may_stand s (mnemonic_of i) ≡ true → run_code s n i ≡ (counted s n i >>= λ t. opened t n g) → stands_never g ≡ false
    → instruction_total s.threads < MAX_INSTRUCTIONS → within_never s.levels ≡ false → pushed (groups_of s.levels) g ≡ Some hs → Leaves s n i hs
begins_one s n i g hs may run plain few none after =
    elim (chosen (ltb (length (groups_of s.levels)) MAX_LEVELS) (Some (g ∷ groups_of s.levels)) None (Some hs) after) [
      | inl room ↦
          let low : length s.levels < MAX_LEVELS = omega (arith, ltb-true _ _ room.0, length-map s.levels (λ (b : Beginning). b.group)) in
          let is : g ∷ groups_of s.levels ≡ hs = cc in
          (record { line = n; group = g } ∷ s.levels, is, rw (plain, none) refl, rw (may, run, lt-leb MAX_INSTRUCTIONS (instruction_total s.threads) few, none, lt-leb MAX_LEVELS (length s.levels) low) refl)
      | inr full ↦ absurd cc
    ]

-- the state with these beginnings
abbrev at_levels : State → List Beginning → State
at_levels s levels = record s { levels = levels }

abbrev begun_at : ℕ → Group → List Beginning → List Beginning
begun_at line g more = record { line = line; group = g } ∷ more

-- within a block or a group
leaves_in : (s : State) (n line : ℕ) (g : Group) (more : List Beginning) (i : Instruction) (hs : List Group) → has_begun s ≡ true → instruction_total s.threads < MAX_INSTRUCTIONS → within_never (begun_at line g more) ≡ false → open_after (g ∷ groups_of more) i ≡ Some hs
    → Leaves (at_levels s (begun_at line g more)) n i hs
unfolding run_code
leaves_in s n line groups.First more code.Else hs begun few none after = (begun_at line groups.Second more, cc, none, rw (begun, lt-leb MAX_INSTRUCTIONS (instruction_total s.threads) few, none) refl)
leaves_in s n line groups.First more code.EndIf hs begun few none after = (more, cc, none, rw (begun, lt-leb MAX_INSTRUCTIONS (instruction_total s.threads) few, none) refl)
leaves_in s n line groups.Second more code.EndIf hs begun few none after = (more, cc, none, rw (begun, lt-leb MAX_INSTRUCTIONS (instruction_total s.threads) few, none) refl)
leaves_in s n line groups.Block more code.Commit hs begun few none after = (more, cc, none, rw (begun, lt-leb MAX_INSTRUCTIONS (instruction_total s.threads) few, none) refl)
leaves_in s n line g more (code.Begin props to) hs begun few none after = begins_one (at_levels s (begun_at line g more)) n (code.Begin props to) groups.Block hs begun refl refl few none after
leaves_in s n line g more (code.IfNotZero register) hs begun few none after = begins_one (at_levels s (begun_at line g more)) n (code.IfNotZero register) groups.First hs begun refl refl few none after
leaves_in s n line g more code.Else hs begun few none after = absurd cc
leaves_in s n line g more code.EndIf hs begun few none after = absurd cc
leaves_in s n line g more code.Commit hs begun few none after = absurd cc
leaves_in s n line g more i hs begun few none after = plain (at_levels s (begun_at line g more)) n i hs begun refl few none after

-- in no block and no group
leaves_alone : (s : State) (n : ℕ) (i : Instruction) (hs : List Group) → has_begun s ≡ true → instruction_total s.threads < MAX_INSTRUCTIONS → open_after [] i ≡ Some hs → Leaves (at_levels s []) n i hs
unfolding run_code
leaves_alone s n (code.Begin props to) hs begun few after = begins_one (at_levels s []) n (code.Begin props to) groups.Block hs begun refl refl few refl after
leaves_alone s n (code.IfNotZero register) hs begun few after = begins_one (at_levels s []) n (code.IfNotZero register) groups.First hs begun refl refl few refl after
leaves_alone s n code.Else hs begun few after = absurd cc
leaves_alone s n code.EndIf hs begun few after = absurd cc
leaves_alone s n code.Commit hs begun few after = absurd cc
leaves_alone s n i hs begun few after = plain (at_levels s []) n i hs begun refl few refl after

leaves : (s : State) (n : ℕ) (levels : List Beginning) (i : Instruction) (hs : List Group) → has_begun s ≡ true → instruction_total s.threads < MAX_INSTRUCTIONS → within_never levels ≡ false → open_after (groups_of levels) i ≡ Some hs → Leaves (at_levels s levels) n i hs
leaves s n [] i hs begun few none after = leaves_alone s n i hs begun few after
leaves s n (b ∷ more) i hs begun few none after = leaves_in s n b.line b.group more i hs begun few none after

-- ## All the code

then_some : (o : Option (List Group)) (f : List Group → Option (List Group)) (hs : List Group) → then_after o f ≡ Some hs → (gs : List Group) × (o ≡ Some gs) × (f gs ≡ Some hs)
then_some None f hs e = absurd cc
then_some (Some gs) f hs e = (gs, refl, e)

one_more : (s : State) (i : Instruction) (levels : List Beginning) → instruction_total (with_code s (i ∷ []) levels).threads ≡ instruction_total s.threads + 1
unfolding instruction_total
one_more s i levels = omega (arith, length-append s.threads.code (i ∷ []))

code_ended : (s : State) → s ≡ with_code s [] s.levels
code_ended s = ap (λ (l : List Instruction). record s { threads = record s.threads { code = l } }) (sym (append-nil s.threads.code))

pub code_said : (is : List Instruction) (s : State) (n : ℕ) (hs : List Group) → has_begun s ≡ true → instruction_total s.threads + length is ≤ MAX_INSTRUCTIONS
    → within_never s.levels ≡ false → open_after_all (groups_of s.levels) is ≡ Some hs → AllByRecursion IsSaid is
    → (levels : List Beginning) × (groups_of levels ≡ hs) × (all_said s n (map instruction_fields is) ≡ Ok (with_code s is levels))
code_said [] s n hs begun few none after h = (s.levels, cc, ap (λ (t : State). Ok t) (code_ended s))
code_said (i ∷ is) s n hs begun few none after h =
    let first = then_some (open_after (groups_of s.levels) i) (λ gs. open_after_all gs is) hs after in
    let one = leaves s n s.levels i first.0 begun (omega arith) none first.1 in
    let t = with_code s (i ∷ []) one.0 in
    let rest = code_said is t (n + 1) hs begun (omega (arith, one_more s i one.0)) one.2 (ap (λ gs. open_after_all gs is) one.1 ∙ first.2) h.1 in
    let all : with_code t is rest.0 ≡ with_code s (i ∷ is) rest.0 = ap (λ (l : List Instruction). record s { threads = record s.threads { code = l }; levels = rest.0 }) (append_assoc s.threads.code (i ∷ []) is) in
    (rest.0, rest.1, said_next (instruction_fields i) (map instruction_fields is) s t n (instruction_again s n i h.0 ∙ one.3) ∙ rest.2 ∙ ap (λ (u : State). Ok u) all)

-- Lines of a section keep what is kept of the lines so far.
use Rattle.std.proofs.Common.{◌≡◌, ℕ, ◌<◌, ◌≤◌, Bool, true, false, nat_eq, ◌||◌, leb, ltb, List, ◌∷◌, length, Option, Some, Ok, refl, sym, ap, ◌∙◌, subst, inl, inr}
use Rattle.script_print.proofs.Common.{Beginning, Group, IfOk, Instruction, MAX_INSTRUCTIONS, MAX_LEVELS, Sections, State, added, again, begins, cases_Bool, choice_if, counted, counted_again, ends, ends_block, ends_group, ends_repeat, expanded, fault, in_second_part, innermost, instruction_total, leb-false, ltb-false, opened, outer, place_of, repeated, repeats, run_code, second_part, stands_never, then_if, turns_group, within_never, without_innermost}
use Rattle.script_fields.specs.declared.fault.FaultKind.TheVariants as faults
use Rattle.script_asm.specs.declared.groups.Group.TheVariants as groups
use Rattle.script_program.specs.declared.instruction.Instruction.TheVariants as code
use Rattle.script_print.proofs.Printable.{IsSaid, open_after}
use Rattle.script_print.proofs.Assembly.Levels.{kinds, Starts, IsOpen, pushed_kind, starts_outer, starts_second, innermost_kind, second_kind, repeat_begun, standing, standing_all, standing_outer, standing_second, never_outer, never_second}
use Rattle.script_print.proofs.Assembly.Sections.{IsReading, all_open, reads_more, reads_past, reads_again, reads_counted}
use Rattle.script_print.proofs.Assembly.States.{IsSound}

-- ## One more instruction

abbrev with_line : State → Instruction → State
with_line s i = record s { threads = added (within_never s.levels) s.threads i }

abbrev with_levels : State → List Beginning → State
with_levels s ls = record s { levels = ls }

counted_if : (s : State) (n : ℕ) (i : Instruction) (P : State → Type 0) → (instruction_total s.threads < MAX_INSTRUCTIONS → P (with_line s i)) → IfOk (counted s n i) P
counted_if s n i P h = choice_if P (leb MAX_INSTRUCTIONS (instruction_total s.threads)) (fault n faults.TooLong) (Ok (with_line s i)) (λ many. tt) (λ few. h (leb-false _ _ few))

-- what an instruction leaves open, where it stands
abbrev Opens : State → Instruction → List Beginning → Type 0
Opens s i ms = (within_never ms ≡ false) × (open_after (kinds s.levels) i ≡ Some (kinds ms)) × Starts s.threads.code (length s.threads.code) ms

-- each repeat that is open began within the code, where it stands
all_starts : (s : State) → IsSound s → within_never s.levels ≡ false → Starts s.threads.code (length s.threads.code) s.levels
all_starts s h stands = (all_open s.threads s.levels h.sections stands).starts

-- an instruction that leaves these levels
code_sound : (s : State) (i : Instruction) (ms : List Beginning) → IsSound s → IsSaid i → instruction_total s.threads < MAX_INSTRUCTIONS
    → (within_never s.levels ≡ false → Opens s i ms) → (within_never s.levels ≡ true → standing ms ≡ standing s.levels) → IsSound (with_levels (with_line s i) ms)
code_sound s i ms h said room opens same =
    elim (cases_Bool (within_never s.levels)) [
      | inl never ↦ rw never (assumption (reads_past s.threads s.levels ms h.sections room (same never), h))
      | inr stands ↦ let o = opens stands in rw stands (assumption (reads_more s.threads i s.levels ms h.sections said room stands o.0 o.1 o.2, h))
    ]

-- one that leaves the levels as they are
plain_sound : (s : State) (n : ℕ) (i : Instruction) → IsSound s → IsSaid i → open_after (kinds s.levels) i ≡ Some (kinds s.levels) → IfOk (counted s n i) IsSound
plain_sound s n i h said same = counted_if s n i IsSound (λ room. code_sound s i s.levels h said room (λ stands. (stands, same, all_starts s h stands)) (λ never. refl))

-- ## Blocks and groups that begin

opened_if : (s : State) (n : ℕ) (g : Group) (P : State → Type 0) → (length s.levels < MAX_LEVELS → P (with_levels s (record { line = n; group = g } ∷ s.levels))) → IfOk (opened s n g) P
opened_if s n g P h = choice_if P (leb MAX_LEVELS (length s.levels)) (fault n faults.TooLong) (Ok (with_levels s (record { line = n; group = g } ∷ s.levels))) (λ many. tt) (λ few. h (leb-false _ _ few))

begins_sound : (s : State) (n : ℕ) (i : Instruction) (g : Group) → IsSound s → IsSaid i → stands_never g ≡ false
    → (length s.levels < MAX_LEVELS → open_after (kinds s.levels) i ≡ Some (kinds (record { line = n; group = g } ∷ s.levels)))
    → (Starts s.threads.code (length s.threads.code) s.levels → Starts s.threads.code (length s.threads.code) (record { line = n; group = g } ∷ s.levels)) → IfOk (begins s n i g) IsSound
begins_sound s n i g h said plain f starts =
    let ms : List Beginning = record { line = n; group = g } ∷ s.levels in
    let within : within_never ms ≡ within_never s.levels = rw plain refl in
    then_if IsSound (counted s n i) (λ u. opened u n g) (counted_if s n i (λ u. IfOk (opened u n g) IsSound) (λ room. opened_if (with_line s i) n g IsSound
    (λ deep. code_sound s i ms h said room (λ stands. (within ∙ stands, f deep, starts (all_starts s h stands))) (λ never. sym (standing_outer ms (within ∙ never))))))

-- ## Blocks and groups that end

ends_sound : (s : State) (n : ℕ) (i : Instruction) → IsSound s → IsSaid i → open_after (kinds s.levels) i ≡ Some (kinds (outer s.levels)) → IfOk (ends s n i) IsSound
ends_sound s n i h said f =
    let opens : within_never s.levels ≡ false → Opens s i (outer s.levels) = λ stands. (never_outer s.levels stands, f, starts_outer s.threads.code s.levels (length s.threads.code) (all_starts s h stands)) in
    then_if IsSound (counted s n i) (λ u. Ok (without_innermost u)) (counted_if s n i (λ u. IsSound (without_innermost u)) (λ room. code_sound s i (outer s.levels) h said room opens (standing_outer s.levels)))

block_sound : (s : State) (n : ℕ) (g : Option Group) → innermost s.levels ≡ g → IsSound s → IfOk (ends_block s n g) IsSound
block_sound s n (Some groups.Block) same h = ends_sound s n code.Commit h tt (ap (λ (gs : List Group). open_after gs code.Commit) (innermost_kind s.levels groups.Block same))
block_sound s n g same h = tt

group_sound : (s : State) (n : ℕ) (g : Option Group) → innermost s.levels ≡ g → IsSound s → IfOk (ends_group s n g) IsSound
group_sound s n (Some groups.First) same h = ends_sound s n code.EndIf h tt (ap (λ (gs : List Group). open_after gs code.EndIf) (innermost_kind s.levels groups.First same))
group_sound s n (Some groups.Second) same h = ends_sound s n code.EndIf h tt (ap (λ (gs : List Group). open_after gs code.EndIf) (innermost_kind s.levels groups.Second same))
group_sound s n g same h = tt

turn_sound : (s : State) (n : ℕ) (g : Option Group) → innermost s.levels ≡ g → IsSound s → IfOk (turns_group s n g) IsSound
turn_sound s n (Some groups.First) same h =
    let turns = ap (λ (gs : List Group). open_after gs code.Else) (innermost_kind s.levels groups.First same) ∙ ap (λ (gs : List Group). Some gs) (sym (second_kind s.levels same)) in
    let opens : within_never s.levels ≡ false → Opens s code.Else (second_part s.levels) =
    λ stands. (never_second s.levels same ∙ stands, turns, starts_second s.threads.code s.levels (length s.threads.code) (all_starts s h stands)) in
    then_if IsSound (counted s n code.Else) (λ u. Ok (in_second_part u))
    (counted_if s n code.Else (λ u. IsSound (in_second_part u)) (λ room. code_sound s code.Else (second_part s.levels) h tt room opens (standing_second s.levels same)))
turn_sound s n g same h = tt

-- what an instruction says
pub run_sound : (s : State) (n : ℕ) (i : Instruction) → IsSound s → IsSaid i → IfOk (run_code s n i) IsSound
unfolding run_code
run_sound s n (code.Begin props r) h said = begins_sound s n (code.Begin props r) groups.Block h said refl (pushed_kind s.levels groups.Block) (λ starts. starts)
run_sound s n (code.IfNotZero r) h said = begins_sound s n (code.IfNotZero r) groups.First h said refl (pushed_kind s.levels groups.First) (λ starts. starts)
run_sound s n code.Else h said = turn_sound s n (innermost s.levels) refl h
run_sound s n code.EndIf h said = group_sound s n (innermost s.levels) refl h
run_sound s n code.Commit h said = block_sound s n (innermost s.levels) refl h
run_sound s n i h said = plain_sound s n i h said refl

-- ## Lines that stand several times

-- what is open where lines begin that are to stand so many times
repeats_open : (t : Sections) (ls : List Beginning) (n times : ℕ) (never : Bool) → (nat_eq times 0 || within_never ls) ≡ never → IsReading t ls
    → IsOpen t.code (standing (record { line = n; group = groups.Repeat (place_of never t) times } ∷ ls))
repeats_open t ls n times true e r = rw e r.levels
repeats_open t ls n times false e r =
    let ms : List Beginning = record { line = n; group = groups.Repeat (length t.code) times } ∷ ls in
    subst (IsOpen t.code) (sym (standing_all ms e)) (repeat_begun t.code ls n times (all_open t ls r (never_outer ms e)))

pub repeats_sound : (s : State) (n times : ℕ) → IsSound s → IfOk (repeats s n times) IsSound
repeats_sound s n times h =
    let never = nat_eq times 0 || within_never s.levels in
    opened_if s n (groups.Repeat (place_of never s.threads) times) IsSound (λ deep. assumption (repeats_open s.threads s.levels n times never refl h.sections, h.sections, h))

-- the innermost ends and leaves these sections
ended_sound : (s : State) (n : ℕ) (left : Sections) → IsSound s → (instruction_total left ≤ MAX_INSTRUCTIONS → IsReading left (outer s.levels)) → IfOk (ends_repeat s n left) IsSound
ended_sound s n left h reads =
    choice_if IsSound (ltb MAX_INSTRUCTIONS (instruction_total left)) (fault n faults.TooLong) (Ok (without_innermost (record s { threads = left }))) (λ many. tt) (λ few. assumption (reads (ltb-false _ _ few), h))

again_sound : (s : State) (n start times : ℕ) (never : Bool) → innermost s.levels ≡ Some (groups.Repeat start times) → within_never s.levels ≡ never → IsSound s → IfOk (ends_repeat s n (again never s.threads start times)) IsSound
again_sound s n start times true same w h = ended_sound s n (counted_again s.threads start times) h (reads_counted s.threads s.levels start times h.sections w)
again_sound s n start times false same w h = ended_sound s n (expanded s.threads start times) h (reads_again s.threads s.levels start times h.sections same w)

pub repeated_sound : (s : State) (n : ℕ) (g : Option Group) → innermost s.levels ≡ g → IsSound s → IfOk (repeated s n g) IsSound
unfolding repeated
repeated_sound s n (Some (groups.Repeat start times)) same h = again_sound s n start times (within_never s.levels) same refl h
repeated_sound s n g same h = tt

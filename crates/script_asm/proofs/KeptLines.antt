-- Lines that leave more to be kept, or more open.
use Rattle.std.proofs.Common.{◌≡◌, ℕ, ◌+◌, ◌<◌, ◌≤◌, inl, inr, false, leb, List, [], ◌∷◌, ◌++◌, length, Option, Some, None, Result, Ok, refl, sym, ap, arith, length-append}
use Rattle.script_asm.proofs.Common.{Adds, AsmFault, Instruction, Item, MAX_ACTORS, MAX_INSTRUCTIONS, MAX_ITEMS, MAX_LEVELS, Part, Placed, Sections, Shared, State, added, begins, begun, code_total, counted, ends_repeat, expanded, fault, init_count, instruction_total, kept, le-ltb, lt-leb, lt-ltb, obeyed, opened, planned, schedule_of, thread_total, threaded, within_never, without_innermost, ◌>>=◌}
use Rattle.script_asm.specs.declared.mnemonics.Word.TheVariants as words
use Rattle.script_fields.specs.declared.fault.FaultKind.TheVariants as kinds
use Rattle.script_asm.{specs.declared.groups.Group.Group, proofs.LineItems.some_items}
use Rattle.script_program.proofs.AddedSections.{code_more}
use Rattle.script_fields.proofs.FirstLines.{chosen}

-- ## Directives

pub adds_init : (s : State) (m : Shared) (i : Placed) → s.memory ≡ Some m → Adds s (Ok (record s { memory = Some (record m { inits = m.inits ++ i ∷ [] }) }))
adds_init s m i e = (record s { memory = Some (record m { inits = m.inits ++ i ∷ [] }) }, refl, inl (omega (arith, ap init_count e, length-append m.inits (i ∷ []))))

adds_items : (s : State) (n : ℕ) (items : List Item) → 0 < length items → Adds s (Ok (record s { schedule = planned s.schedule n items }))
adds_items s n items some = (record s { schedule = planned s.schedule n items }, refl, inl (omega (arith, length-append s.schedule.items items)))

pub items_kept : (s : State) (n : ℕ) (fs : List (List ℕ)) (items : List Item) → schedule_of fs ≡ Ok items → length s.schedule.items + length items ≤ MAX_ITEMS → Adds s (obeyed s n words.Schedule fs)
unfolding obeyed
items_kept s n fs items e h = rw (e, le-ltb MAX_ITEMS (length s.schedule.items + length items) h) (adds_items s n items (some_items fs items e))

section_total : (t : Sections) (n : ℕ) → 0 < t.count → (length (begun t n).ended ≡ length t.ended + 1) × (code_total (begun t n) ≡ code_total t)
section_total t n h =
    let last : Part = record { count = t.count; code = t.code } in
    rw (lt-ltb 0 t.count h) (length-append t.ended (last ∷ []), omega (arith, code_more t.ended last))

adds_section : (s : State) (n : ℕ) → 0 < s.threads.count → Adds s (Ok (record s { threads = begun s.threads n }))
adds_section s n some =
    let t = section_total s.threads n some in
    (record s { threads = begun s.threads n }, refl, inl (omega (arith, t.0, t.1)))

pub section_kept : (s : State) (n count : ℕ) (line : Option ℕ) → line ≡ None → thread_total s.threads + count ≤ MAX_ACTORS → 0 < s.threads.count → Adds s (threaded s n count line)
unfolding threaded
section_kept s n count None e h some = rw (le-ltb MAX_ACTORS (thread_total s.threads + count) h) (adds_section s count some)
section_kept s n count (Some line) e h some = absurd cc

-- ## One more instruction

abbrev with_code : State → Instruction → State
with_code s i = record s { threads = record s.threads { code = s.threads.code ++ i ∷ [] } }

code_grows : (s : State) (i : Instruction) → kept s < kept (with_code s i)
code_grows s i = omega (arith, length-append s.threads.code (i ∷ []))

pub code_kept : (s : State) (n : ℕ) (i : Instruction) → instruction_total s.threads < MAX_INSTRUCTIONS → within_never s.levels ≡ false → Adds s (counted s n i)
code_kept s n i h stands = rw (lt-leb MAX_INSTRUCTIONS (instruction_total s.threads) h, stands) (with_code s i, refl, inl (code_grows s i))

-- it leaves open what was open
pub counted_levels : (s t : State) (n : ℕ) (i : Instruction) → counted s n i ≡ Ok t → t.levels ≡ s.levels
counted_levels s t n i e =
    let next : State = record s { threads = added (within_never s.levels) s.threads i } in
    elim (chosen (leb MAX_INSTRUCTIONS (instruction_total s.threads)) (fault n kinds.TooLong) (Ok next) (Ok t) e) [
      | inl many ↦ absurd cc
      | inr few ↦ let is : next ≡ t = cc in ap (λ (u : State). u.levels) (sym is)
    ]

-- one that was well, and after it one more that is open
then_kept : (s t : State) (n : ℕ) (g : Group) (read : Result State AsmFault) → read ≡ Ok t → t.levels ≡ s.levels → length s.levels < MAX_LEVELS → Adds s (read >>= λ u. opened u n g)
then_kept s t n g read e same h =
    let few : length t.levels < MAX_LEVELS = omega (arith, ap length same) in
    rw (e, lt-leb MAX_LEVELS (length t.levels) few) (record t { levels = record { line = n; group = g } ∷ t.levels }, refl, inr (omega (arith, ap length same)))

pub begin_kept : (s t : State) (n : ℕ) (i : Instruction) (g : Group) → counted s n i ≡ Ok t → length s.levels < MAX_LEVELS → Adds s (begins s n i g)
begin_kept s t n i g e h = then_kept s t n g (counted s n i) e (counted_levels s t n i e) h

-- ## One more that is open, and code that stands several times

pub level_kept : (s : State) (n : ℕ) (g : Group) → length s.levels < MAX_LEVELS → Adds s (opened s n g)
level_kept s n g h = rw (lt-leb MAX_LEVELS (length s.levels) h) (record s { levels = record { line = n; group = g } ∷ s.levels }, refl, inr (omega arith))

abbrev with_repeats : State → ℕ → ℕ → State
with_repeats s start times = without_innermost (record s { threads = expanded s.threads start times })

repeats_grow : (s : State) (start times : ℕ) → length s.threads.code < length (expanded s.threads start times).code → kept s < kept (with_repeats s start times)
unfolding expanded
repeats_grow s start times h = omega arith

pub repeats_kept : (s : State) (n start times : ℕ) → instruction_total (expanded s.threads start times) ≤ MAX_INSTRUCTIONS
    → length s.threads.code < length (expanded s.threads start times).code → Adds s (ends_repeat s n (expanded s.threads start times))
repeats_kept s n start times few h =
    rw (le-ltb MAX_INSTRUCTIONS (instruction_total (expanded s.threads start times)) few) (with_repeats s start times, refl, inl (repeats_grow s start times h))

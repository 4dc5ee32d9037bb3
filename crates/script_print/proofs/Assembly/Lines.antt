-- Each line keeps what is kept of the lines so far.
use Rattle.std.proofs.Common.{ℕ, ◌+◌, List, [], ◌∷◌, Option, Some, None, Ok, refl, ◌≤◌, Result, Err}
use Rattle.script_print.proofs.Common.{AsmFault, FaultKind, Bounds, IfOk, IsSize, MAX_ARENA, MAX_COMMITS, MAX_DEPTH, MAX_PATIENCE, MAX_REPEATS, MAX_RESTARTS, MAX_RETRIES, State, any_if, at_line, bind_if, choice_if, count_of, fault, fields, init_of, innermost, innermost_line, instruction_of, is_allowed, laid_in, limit_of, lines_say, list_all, may_stand, meaning, none, obeyed, repeated, repeats, run_code, said, schedule_of, scheduled, size_of, threaded, without_comment, word_of, worded, ⊤, ◌>>=◌}
use Rattle.script_fields.specs.declared.fault.FaultKind.TheVariants as faults
use Rattle.script_asm.specs.declared.mnemonics.Word.{Word}
use Rattle.script_asm.specs.declared.mnemonics.Word.TheVariants as words
use Rattle.script_print.proofs.Printable.{IsSaid}
use Rattle.script_print.proofs.Assembly.Blocks.{run_sound, repeats_sound, repeated_sound}
use Rattle.script_print.proofs.Assembly.Instructions.{instruction_said}
use Rattle.script_print.proofs.Assembly.Items.{schedule_if}
use Rattle.script_print.proofs.Assembly.Operands.{size_of_if, limit_of_if, init_of_if}
use Rattle.script_print.proofs.Assembly.States.{AreBounds, IsSound, laid_sound, scheduled_sound, section_sound}

-- ## One line

-- the operands of a line, and what they say
operands_sound : {A : Type 0} (P : A → Type 0) (n : ℕ) (r : Result A FaultKind) (f : A → Result State AsmFault) → IfOk r P → ((x : A) → P x → IfOk (f x) IsSound) → IfOk (at_line n r >>= f) IsSound
operands_sound P n (Ok x) f h k = k x h
operands_sound P n (Err j) f h k = tt

limit_sound : (s : State) (n low high : ℕ) (fs : List (List ℕ)) (b : ℕ → Bounds) → IsSound s → ((k : ℕ) → low ≤ k → k ≤ high → AreBounds (b k)) → IfOk (at_line n (limit_of low high fs) >>= λ k. Ok (record s { limits = b k })) IsSound
limit_sound s n low high fs b h bounds =
    operands_sound (λ k. (low ≤ k) × (k ≤ high)) n (limit_of low high fs) (λ k. Ok (record s { limits = b k })) (limit_of_if low high fs) (λ k within. assumption (bounds k within.0 within.1, h))

obeyed_sound : (s : State) (n : ℕ) (w : Word) (fs : List (List ℕ)) → IsSound s → IfOk (obeyed s n w fs) IsSound
unfolding obeyed
obeyed_sound s n words.Memory fs h =
    operands_sound IsSize n (size_of fs) (λ m. Ok (record s { memory = Some (record { size = m; inits = [] }) })) (size_of_if fs) (λ m size. assumption (size, h))
obeyed_sound s n words.Init fs h = operands_sound _ n (init_of fs) (λ x. laid_in s n x s.memory) (init_of_if fs) (λ x bytes. laid_sound s n x s.memory h h.memory bytes.1)
obeyed_sound s n words.Arena fs h = limit_sound s n 0 MAX_ARENA fs (λ k. record s.limits { arena = Some k }) h (λ k low high. assumption (high, h.limits))
obeyed_sound s n words.Patience fs h = limit_sound s n 1 MAX_PATIENCE fs (λ k. record s.limits { patience = Some k }) h (λ k low high. assumption (low, high, h.limits))
obeyed_sound s n words.Retries fs h = limit_sound s n 0 MAX_RETRIES fs (λ k. record s.limits { retries = Some k }) h (λ k low high. assumption (high, h.limits))
obeyed_sound s n words.Commits fs h = limit_sound s n 1 MAX_COMMITS fs (λ k. record s.limits { commits = Some k }) h (λ k low high. assumption (low, high, h.limits))
obeyed_sound s n words.Restarts fs h = limit_sound s n 0 MAX_RESTARTS fs (λ k. record s.limits { restarts = Some k }) h (λ k low high. assumption (high, h.limits))
obeyed_sound s n words.Depth fs h = limit_sound s n 1 MAX_DEPTH fs (λ k. record s.limits { depth = Some k }) h (λ k low high. assumption (low, high, h.limits))
obeyed_sound s n words.Schedule fs h = operands_sound _ n (schedule_of fs) (scheduled s n) (schedule_if fs) (λ items each. scheduled_sound s n items h each)
obeyed_sound s n words.Thread fs h =
    operands_sound (λ count. ⊤) n (count_of fs) (λ count. threaded s n count (innermost_line s.levels)) (any_if (count_of fs)) (λ count each. section_sound s n count (innermost_line s.levels) refl h)
obeyed_sound s n words.Repeat fs h = operands_sound (λ times. ⊤) n (limit_of 0 MAX_REPEATS fs) (repeats s n) (any_if (limit_of 0 MAX_REPEATS fs)) (λ times each. repeats_sound s n times h)
obeyed_sound s n words.EndRepeat fs h = operands_sound (λ x. ⊤) n (none fs) (λ x. repeated s n (innermost s.levels)) (any_if (none fs)) (λ x each. repeated_sound s n (innermost s.levels) refl h)
obeyed_sound s n (words.Code m) fs h = operands_sound IsSaid n (instruction_of m fs) (run_code s n) (instruction_said m fs) (λ i said. run_sound s n i h said)

worded_sound : (s : State) (n : ℕ) (w : Option Word) (fs : List (List ℕ)) → IsSound s → IfOk (worded s n w fs) IsSound
worded_sound s n None fs h = tt
worded_sound s n (Some w) fs h = choice_if IsSound (may_stand s w) (obeyed s n w fs) (fault n faults.Misplaced) (λ here. obeyed_sound s n w fs h) (λ elsewhere. tt)

said_sound : (s : State) (n : ℕ) (fs : List (List ℕ)) → IsSound s → IfOk (said s n fs) IsSound
said_sound s n [] h = h
said_sound s n (f ∷ fs) h = worded_sound s n (word_of f) fs h

meaning_sound : (s : State) (n : ℕ) (line : List ℕ) → IsSound s → IfOk (meaning s n line) IsSound
unfolding meaning
meaning_sound s n line h =
    choice_if IsSound (list_all is_allowed (without_comment line)) (said s n (fields (without_comment line))) (fault n faults.Character) (λ allowed. said_sound s n (fields (without_comment line)) h) (λ not. tt)

-- ## Several lines

pub lines_sound : (ls : List (List ℕ)) (s : State) (n : ℕ) → IsSound s → IfOk (lines_say s n ls) IsSound
lines_sound [] s n h = h
lines_sound (line ∷ more) s n h = bind_if IsSound IsSound (meaning s n line) (λ u. lines_say u (n + 1) more) (meaning_sound s n line h) (λ u sound. lines_sound more u (n + 1) sound)

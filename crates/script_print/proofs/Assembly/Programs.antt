-- What a text says is a program that a text can say.
use Rattle.std.proofs.Common.{◌≡◌, ℕ, ◌<◌, ◌≤◌, ltb, List, [], ◌∷◌, length, Option, Some, None, refl, sym, arith, subst, length-append}
use Rattle.script_print.proofs.Common.{AllByRecursion, AreWithin, Bounds, IfOk, IfSome, MAX_ARENA, MAX_COMMITS, MAX_DEPTH, MAX_PATIENCE, MAX_RESTARTS, MAX_RETRIES, MAX_TEXT, Sections, Shared, State, USUAL_DEPTH, arena_of, bind_if, choice_if, closed, complete, end_of, fault, has_begun, initial, innermost_line, limits_of, lines, lines_say, listing_of, ltb-true, named, parts_of, program_of, stray_of, thread_total, unwrap_or, ◌>>=◌}
use Rattle.script_fields.specs.declared.fault.FaultKind.TheVariants as faults
use Rattle.script_print.proofs.Printable.{IsPrintable, IsItem}
use Rattle.script_print.proofs.Assembly.Items.{none_stray}
use Rattle.script_print.proofs.Assembly.Lines.{lines_sound}
use Rattle.script_print.proofs.Assembly.Sections.{IsReading, read_parts, threads_read, instructions_read}
use Rattle.script_print.proofs.Assembly.States.{IsShared, AreBounds, IsSound, initial_sound, nothing_open}

-- ## Limits

-- what is said, or else what it is where nothing is said
or_else : (P : ℕ → Type 0) (o : Option ℕ) (d : ℕ) → IfSome o P → P d → P (unwrap_or o d)
or_else P None d h k = k
or_else P (Some n) d h k = h

arena_within : (b : Bounds) → AreBounds b → arena_of b ≤ MAX_ARENA
arena_within b h = or_else (λ n. n ≤ MAX_ARENA) b.arena 0 h.arena (omega arith)

limits_within : (b : Bounds) → AreBounds b → AreWithin (limits_of b)
limits_within b h = record {
  patience = or_else (λ n. (1 ≤ n) × (n ≤ MAX_PATIENCE)) b.patience 8 h.patience (omega arith, omega arith);
  retries = or_else (λ n. n ≤ MAX_RETRIES) b.retries 100 h.retries (omega arith);
  commits = or_else (λ n. (1 ≤ n) × (n ≤ MAX_COMMITS)) b.commits MAX_COMMITS h.commits (omega arith, omega arith);
  depth = or_else (λ n. (1 ≤ n) × (n ≤ MAX_DEPTH)) b.depth USUAL_DEPTH h.depth (omega arith, omega arith);
  restarts = or_else (λ n. n ≤ MAX_RESTARTS) b.restarts 0 h.restarts (omega arith);
}

-- ## The program

some_parts : (t : Sections) → 0 < length (parts_of t)
some_parts t = omega (arith, length-append t.ended (record { count = t.count; code = t.code } ∷ []))

listing_printable : (s : State) (m : Shared) → IsSound s → IsShared m → IsReading s.threads [] → 0 < s.threads.count → stray_of (thread_total s.threads) s.schedule.items s.schedule.lines ≡ None
    → IsPrintable (listing_of s m)
listing_printable s m h k r some e = record {
  size = k.0;
  inits = k.1;
  arena = arena_within s.limits h.limits;
  limits = limits_within s.limits h.limits;
  items = h.schedule.few;
  schedule = subst (λ n. AllByRecursion (IsItem n) s.schedule.items) (sym (threads_read s.threads)) (none_stray (thread_total s.threads) s.schedule.items s.schedule.lines h.schedule.in_lines h.schedule.each e);
  some = some_parts s.threads;
  parts = read_parts s.threads r some;
  threads = omega (arith, threads_read s.threads, r.threads);
  instructions = omega (arith, instructions_read s.threads, r.instructions);
}

named_printable : (s : State) (m : Shared) (stray : Option ℕ) → stray_of (thread_total s.threads) s.schedule.items s.schedule.lines ≡ stray
    → IsSound s → IsShared m → IsReading s.threads [] → 0 < s.threads.count → IfOk (named s m stray) IsPrintable
named_printable s m (Some line) same h k r some = tt
named_printable s m None same h k r some = listing_printable s m h k r some same

complete_printable : (s : State) (m : Option Shared) → IsSound s → IfSome m IsShared → IsReading s.threads [] → IfOk (complete s m) IsPrintable
complete_printable s None h k r = tt
complete_printable s (Some m) h k r =
    let stray = stray_of (thread_total s.threads) s.schedule.items s.schedule.lines in
    choice_if IsPrintable (has_begun s) (named s m stray) (fault 0 faults.Misplaced) (λ begun. named_printable s m stray refl h k r (ltb-true 0 s.threads.count begun)) (λ none. tt)

closed_printable : (s : State) (line : Option ℕ) → innermost_line s.levels ≡ line → IsSound s → IfOk (closed s line) IsPrintable
closed_printable s (Some line) same h = tt
closed_printable s None same h = complete_printable s s.memory h h.memory (subst (IsReading s.threads) (nothing_open s.levels same) h.sections)

end_printable : (s : State) → IsSound s → IfOk (end_of s) IsPrintable
unfolding end_of
end_printable s h = closed_printable s (innermost_line s.levels) refl h

-- the program of a text is one that a text can say
pub assembled : (text : List ℕ) → IfOk (program_of text) IsPrintable
unfolding program_of
assembled text =
    choice_if IsPrintable (ltb MAX_TEXT (length text)) (fault 0 faults.TooLong) (lines_say initial 1 (lines text) >>= end_of)
    (λ long. tt) (λ short. bind_if IsSound IsPrintable (lines_say initial 1 (lines text)) end_of (lines_sound (lines text) initial 1 initial_sound) end_printable)

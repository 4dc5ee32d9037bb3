-- What is kept of what the lines so far say.
use Rattle.std.proofs.Common.{◌≡◌, ℕ, ◌+◌, ◌≤◌, ltb, leb, List, [], ◌∷◌, ◌++◌, length, Option, Some, None, Ok, refl, sym, arith, subst, ◌*◌}
use Rattle.script_print.proofs.Common.{AllByRecursion, Beginning, Bounds, IfOk, IfSome, IsBytes, IsSize, Item, MAX_ACTORS, MAX_ARENA, MAX_COMMITS, MAX_DEPTH, MAX_INIT_DIGITS, MAX_ITEMS, MAX_PATIENCE, MAX_RESTARTS, MAX_RETRIES, Shared, State, all_append, begun, choice_if, fault, initial, innermost_line, instruction_total, laid_in, leb-true, ltb-false, planned, scheduled, thread_total, threaded}
use Rattle.script_fields.specs.declared.fault.FaultKind.TheVariants as kinds
use Rattle.script_print.proofs.Printable.{IsInit}
use Rattle.script_print.proofs.Assembly.Items.{HasEvents, IsPlanned, plans_more}
use Rattle.script_print.proofs.Assembly.Sections.{IsReading, reads_section}

-- a memory, and bytes that lie in it
abbrev pub IsShared : Shared → Type 0
IsShared m = IsSize m.size × AllByRecursion (IsInit m.size) m.inits

-- limits that are said
pub record AreBounds (b : Bounds) : Type 0 where
  pub arena : IfSome b.arena (λ n. n ≤ MAX_ARENA)
  pub patience : IfSome b.patience (λ n. (1 ≤ n) × (n ≤ MAX_PATIENCE))
  pub retries : IfSome b.retries (λ n. n ≤ MAX_RETRIES)
  pub commits : IfSome b.commits (λ n. (1 ≤ n) × (n ≤ MAX_COMMITS))
  pub restarts : IfSome b.restarts (λ n. n ≤ MAX_RESTARTS)
  pub depth : IfSome b.depth (λ n. (1 ≤ n) × (n ≤ MAX_DEPTH))

-- what is kept after each line
pub record IsSound (s : State) : Type 0 where
  pub memory : IfSome s.memory IsShared
  pub limits : AreBounds s.limits
  pub schedule : IsPlanned s.schedule
  pub sections : IsReading s.threads s.levels

-- before the first line
pub initial_sound : IsSound initial
unfolding thread_total instruction_total
initial_sound = record {
  memory = tt;
  limits = record { arena = tt; patience = tt; retries = tt; commits = tt; restarts = tt; depth = tt };
  schedule = record { few = omega arith; each = tt; in_lines = refl };
  sections = record { ended = tt; said = tt; levels = record { after = refl; starts = tt }; threads = omega arith; instructions = omega arith };
}

-- ## Directives

pub laid_sound : (s : State) (n : ℕ) (x : ℕ × List ℕ) (m : Option Shared) → IsSound s → IfSome m IsShared → IsBytes x.1 × (1 ≤ length x.1) × (2 * length x.1 ≤ MAX_INIT_DIGITS) → IfOk (laid_in s n x m) IsSound
unfolding laid_in
laid_sound s n x None h k bytes = tt
laid_sound s n x (Some m) h k bytes =
    let more : Shared = record m { inits = m.inits ++ record { at = x.0; bytes = x.1 } ∷ [] } in
    choice_if IsSound (leb (x.0 + length x.1) m.size) (Ok (record s { memory = Some more })) (fault n kinds.Range)
    (λ within.
    let init : IsInit m.size (record { at = x.0; bytes = x.1 }) = (bytes.0, bytes.1, bytes.2, leb-true _ _ within) in
    assumption (all_append (IsInit m.size) m.inits (record { at = x.0; bytes = x.1 } ∷ []) k.1 (init, tt), k, h)) (λ beyond. tt)

pub scheduled_sound : (s : State) (n : ℕ) (items : List Item) → IsSound s → AllByRecursion HasEvents items → IfOk (scheduled s n items) IsSound
scheduled_sound s n items h each =
    choice_if IsSound (ltb MAX_ITEMS (length s.schedule.items + length items)) (fault n kinds.TooLong) (Ok (record s { schedule = planned s.schedule n items }))
    (λ many. tt) (λ few. assumption (plans_more s.schedule n items h.schedule each (ltb-false _ _ few), h))

pub nothing_open : (ls : List Beginning) → innermost_line ls ≡ None → ls ≡ []
nothing_open [] e = refl
nothing_open (b ∷ more) e = absurd cc

-- the next section begins where nothing is open
pub section_sound : (s : State) (n count : ℕ) (line : Option ℕ) → line ≡ innermost_line s.levels → IsSound s → IfOk (threaded s n count line) IsSound
unfolding threaded
section_sound s n count (Some line) same h = tt
section_sound s n count None same h =
    let none = nothing_open s.levels (sym same) in
    choice_if IsSound (ltb MAX_ACTORS (thread_total s.threads + count)) (fault n kinds.TooLong) (Ok (record s { threads = begun s.threads count }))
    (λ many. tt) (λ few. assumption (subst (IsReading (begun s.threads count)) (sym none) (reads_section s.threads count (subst (IsReading s.threads) none h.sections) (ltb-false _ _ few)), h))

-- What is told of a program's world is what its one thread does alone.
use Rattle.std.proofs.Common.{◌≡◌, inl, inr, ℕ, zero, suc, ◌+◌, ◌*◌, ◌/◌, ◌%◌, ◌<◌, ◌≤◌, ◌==◌, List, [], ◌∷◌, length, map, replicate, Option, None, Some, refl, sym, ap, subst, ◌∙◌, arith, slice_index_or}
use Rattle.run_commands.proofs.Common.{AreOpaque, AreTied, Attempt, CommitsInOrder, End, Finished, GaveUp, HasNestedCode, HistoryFits, Instruction, IsLimitedListing, IsMemorySize, IsOf, IsSetUp, IsWorldOf, Leaves, Listing, MAX_ARENA, MAX_RETRIES, NoMemory, Solo, Thread, World, attempts_of, ending_at, first_thread, history_text, led_alone, legal_text, length-map, memory_of, observed, one_if, opening, opening_of, page, players_of, roomless, schedule_of, setup_of, solo, solo_of, thread_rules, threads_of, told_of, version_of, without_room}
use Rattle.itm_types.specs.declared.limits.Limits.{Limits}
use Rattle.tx_attempts.specs.declared.attempt.Outcome.{Outcome}
use Rattle.tx_attempts.specs.declared.attempt.Outcome.TheVariants as outcomes
use Rattle.world_laws.specs.SoFar.{IsSoFar}
use Rattle.history_reader.specs.LegalTexts.{IsLegalText}
use Rattle.tx_history.specs.Versions.{MayRestart, thread_limit}
use Rattle.report_rules.proofs.Histories.ScriptWidths.{script_widths}
use Rattle.world_laws.proofs.LegalHistories.LegalWorlds.{legal_world}
use Rattle.world_laws.proofs.LegalHistories.LimitedWorlds.{limited_world}
use Rattle.world_laws.specs.Limits.{IsLimitedWorld}
use Rattle.world_laws.specs.ShownAlone.{DoneBy}
use Rattle.script_vm.specs.ThreadLaws.{thread_laws}
use Rattle.run_commands.proofs.FedRuns.{even_starved, fed, none_open}
use Rattle.run_commands.proofs.RoomlessTexts.{roomless_text}
use Rattle.run_commands.proofs.ScheduleItems.{items_keep, items_led}

first_is : (depth : ℕ) (threads : List (List Instruction)) (x : Thread) → map (opening depth) threads ≡ x ∷ [] → x ≡ opening depth (slice_index_or threads 0 [])
first_is depth [] x e = absurd cc
first_is depth (t ∷ threads) x e = cc

parity : (k : ℕ) → k < 2 → one_if (k == 1) ≡ k
parity zero l = refl
parity (suc zero) l = refl
parity (suc (suc k)) l = absurd (omega arith)

doubled : (n : ℕ) → n ≡ 2 * (n / 2) + one_if (n % 2 == 1)
doubled n = omega (arith, parity (n % 2) (omega arith))

-- the world began with the program's memory, limits and threads
record BeganAs (p : Listing) (w : World Thread) : Type 0 where
  pub players : w.opening ≡ players_of p
  pub setup : IsSetUp (setup_of p) w

began_as : (p : Listing) (w : World Thread) → Leaves p w → BeganAs p w
began_as p w (first, begins, leads) =
    let same = (items_keep first w (schedule_of p) leads).opening in
    let s = begins.setup in
    record {
      players = same.opening ∙ begins.players;
      setup = record {
        base = same.base ∙ s.base;
        arena = same.arena ∙ s.arena;
        limits = same.limits ∙ s.limits;
      };
    }

-- a world of a program within the limits of a run is within them too
limited_as : (p : Listing) (w : World Thread) → BeganAs p w → IsLimitedListing p → IsLimitedWorld (version_of p) w
limited_as p w began limits = record {
  memory = subst (λ (bytes : List ℕ). IsMemorySize (version_of p) (length bytes)) (sym began.setup.base) limits.memory;
  arena = subst (λ (n : ℕ). n ≤ MAX_ARENA) (sym began.setup.arena) limits.arena;
  retries = subst (λ (n : ℕ). n ≤ MAX_RETRIES) (sym (ap (λ (l : Limits). l.retries) began.setup.limits)) limits.retries;
  actors = subst (λ (n : ℕ). n ≤ suc (thread_limit (version_of p))) (sym (ap (λ (l : List Thread). length l) began.players ∙ length-map (threads_of p) (opening p.limits.depth))) limits.threads;
  restarts = subst (MayRestart (version_of p)) (sym (ap (λ (l : Limits). l.restarts) began.setup.limits)) limits.restarts;
}

-- its history's text is read as a legal one
pub read_as_legal : (p : Listing) (w : World Thread) → IsWorldOf p w → IsLimitedListing p → HistoryFits (told_of (version_of p) w) → IsLegalText (history_text (told_of (version_of p) w))
read_as_legal p w is limits fits =
    legal_text (told_of (version_of p) w) is.legal fits (limited_world thread_rules script_widths (version_of p) w is.opaque (limited_as p w (began_as p w is.leaves) limits))

module _ (p : Listing) (w : World Thread) (began : BeganAs p w) (player : Thread) (player_is : player ≡ first_thread p) where
  -- what the player does alone is what the program's thread does
  alone_is : solo thread_rules w.limits.depth w.limits.max_commits 0 player w.base (replicate w.arena 0) ≡ solo_of p
  unfolding solo_of
  alone_is = λ i. solo thread_rules (began.setup.limits i).depth (began.setup.limits i).max_commits 0 (player_is i) (began.setup.base i) (replicate (began.setup.arena i) 0)

  so_far : (commits : ℕ) (memory : List ℕ) (outcome : Outcome) (rows : List Attempt)
      → IsSoFar thread_rules w.limits.depth w.limits.max_commits 0 player w.base (replicate w.arena 0) commits memory outcome rows
      → IsSoFar thread_rules p.limits.depth p.limits.max_commits 0 (first_thread p) (opening_of p) (replicate p.arena 0) commits memory outcome rows
  so_far commits memory outcome rows s =
      subst (λ (n : ℕ). IsSoFar thread_rules p.limits.depth p.limits.max_commits 0 (first_thread p) (opening_of p) (replicate n 0) commits memory outcome rows) began.setup.arena
      (subst (λ (base : List ℕ). IsSoFar thread_rules p.limits.depth p.limits.max_commits 0 (first_thread p) base (replicate w.arena 0) commits memory outcome rows) began.setup.base
      (subst (λ (t : Thread). IsSoFar thread_rules p.limits.depth p.limits.max_commits 0 t w.base (replicate w.arena 0) commits memory outcome rows) player_is
      (subst (λ (l : Limits). IsSoFar thread_rules l.depth l.max_commits 0 player w.base (replicate w.arena 0) commits memory outcome rows) began.setup.limits s)))

  is_page : (end : End) → solo_of p ≡ record { attempts = map without_room (attempts_of w); memory = memory_of w; commits = w.cells.clock / 2; held = w.cells.clock % 2 == 1; ending = end }
      → roomless (told_of (version_of p) w) ≡ page p
  unfolding page
  is_page end all = λ i. record {
    version = version_of p;
    memory = began.setup.base i;
    attempts = (ap (λ (s : Solo). s.attempts) (sym all)) i;
    clock = (doubled w.cells.clock ∙ ap (λ (s : Solo). 2 * s.commits + one_if s.held) (sym all)) i;
    bytes = (ap (λ (s : Solo). s.memory) (sym all)) i;
  }

  shows : (end : End) → solo_of p ≡ record { attempts = map without_room (attempts_of w); memory = memory_of w; commits = w.cells.clock / 2; held = w.cells.clock % 2 == 1; ending = end }
      → ((solo_of p).ending ≡ end) × (roomless (told_of (version_of p) w) ≡ page p) × (history_text (told_of (version_of p) w) ≡ history_text (page p))
  shows end all = (let same = is_page end all in (ap (λ (s : Solo). s.ending) all, same, sym (roomless_text (told_of (version_of p) w)) ∙ ap history_text same))

  of_ending : (ending : Option End) → (ending ≡ Some NoMemory → w.cells.clock % 2 ≡ 0) → DoneBy thread_rules w player ending → IsOf p ending (told_of (version_of p) w)
  of_ending None even (memory, part, told) = (began.setup.base, memory, so_far (w.cells.clock / 2) memory outcomes.Unfinished (attempts_of w) part, told)
  of_ending (Some Finished) even all = shows Finished (sym alone_is ∙ all)
  of_ending (Some GaveUp) even all = shows GaveUp (sym alone_is ∙ all)
  of_ending (Some NoMemory) even (inl part) = (began.setup.base, part.0, so_far (w.cells.clock / 2) (memory_of w) outcomes.NoMemory (attempts_of w) part.1)
  of_ending (Some NoMemory) even (inr part) = absurd (let odd : w.cells.clock % 2 ≡ 1 = part.0 in let none : w.cells.clock % 2 ≡ 0 = even refl in omega arith)

pub world_of_run : (p : Listing) (w : World Thread) → HasNestedCode p → IsLimitedListing p → Leaves p w → CommitsInOrder w → AreOpaque thread_rules (observed w) → AreTied thread_rules w → IsWorldOf p w
world_of_run p w nested limits leaves commits opaque tied =
    let led = items_led leaves.0 w (schedule_of p) leaves.2 in
    record {
      leaves = leaves;
      base = (began_as p w leaves).setup.base;
      commits = commits;
      opaque = opaque;
      tied = tied;
      fed = fed p nested leaves.0 w leaves.1 led.0 led.1 commits tied;
      none_open = none_open p nested leaves.0 w leaves.1 led.0 led.1 commits tied;
      legal = legal_world thread_rules (version_of p) w (limits.depth ∙ sym (ap (λ (l : Limits). l.depth) (began_as p w leaves).setup.limits)) commits opaque tied;
      alone = λ one.
          let began = began_as p w leaves in
          let first = leaves.1 in
          let single : (players : List Thread) → players ≡ players_of p → length players ≡ 1 = λ players is. ap (λ (l : List Thread). length l) is ∙ length-map (threads_of p) (opening p.limits.depth) ∙ one in
          let a = led_alone thread_rules thread_laws led.0 led.1.0 leaves.0 w first.anew first.commits first.opaque first.tied led.1.1 (single leaves.0.opening first.players) (single w.opening began.players) in
          of_ending p w began a.0 (first_is p.limits.depth (threads_of p) a.0 (sym began.players ∙ a.1)) (ending_at w 0) (even_starved p nested leaves.0 w leaves.1 led.0 led.1 commits tied one) a.2;
    }

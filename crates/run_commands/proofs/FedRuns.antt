-- In a world that a program's schedule leads to no thread that found no memory has an irrevocable attempt, nor any open one.
use Rattle.std.proofs.Common.{inl, inr, ◌≡◌, ℕ, ◌%◌, List, length, Some, sym, ap, subst, ◌∙◌, arith}
use Rattle.run_commands.proofs.Common.{AreTied, Begins, CommitsInOrder, HasNestedCode, Listing, NoMemory, Thread, World, ending_at, length-map, odd_or_even, opening, players_of, thread_rules, threads_of}
use Rattle.world_rules.proofs.Common.{slice_get_within}
use Rattle.script_laws.proofs.FedScripts.{are_fed}
use Rattle.world_laws.specs.Starved.{IsFed, LeavesNoneOpen}
use Rattle.world_laws.proofs.LegalHistories.StarvedActors.{fed_leave_none_open, starved_shut}
use Rattle.run_commands.{proofs.Items.IsLed, proofs.ScheduleItems.led_keeps}

module _ (p : Listing) (nested : HasNestedCode p) (first w : World Thread) (begins : Begins p first) (schedule : List ℕ) (led : IsLed thread_rules first schedule w) (commits : CommitsInOrder w) (tied : AreTied thread_rules w) where
  players : w.opening ≡ players_of p
  players = (led_keeps first w schedule led).opening.opening ∙ begins.players

  pub fed : IsFed w
  fed = are_fed p w nested players tied

  pub none_open : LeavesNoneOpen w
  none_open = fed_leave_none_open thread_rules schedule led.0 first w begins.anew led.1 commits tied fed

  -- so where the one thread found none, the clock is even
  pub even_starved : length (threads_of p) ≡ 1 → ending_at w 0 ≡ Some NoMemory → w.cells.clock % 2 ≡ 0
  even_starved one starved = elim (odd_or_even w.cells.clock) [
    | inl even ↦ even
    | inr odd ↦
        (let held = commits.held odd in
        let long : length w.actors ≡ 1 = tied.each ∙ (ap (λ (l : List Thread). length l) players ∙ (length-map (threads_of p) (opening p.limits.depth) ∙ one)) in
        let at_first : held.0 ≡ 0 = (let within = slice_get_within w.actors held.0 held.1 held.2 in omega arith) in
        let row = tied.holder held.0 held.1 held.2 held.3 in
        absurd (starved_shut thread_rules schedule led.0 first w begins.anew led.1 fed held.0 held.1 row.0 held.2 row.1 (subst (λ (n : ℕ). ending_at w n ≡ Some NoMemory) (sym at_first) starved)))
  ]

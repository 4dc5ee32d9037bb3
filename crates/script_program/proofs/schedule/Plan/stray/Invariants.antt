use Rattle.std.proofs.Common.{◌≡◌, ◌<◌, All, drop, take}
use Rattle.script_program.{specs.Listing.thread_of, specs.Schedules.stray_of}
use Rattle.script_program.proofs.schedule.Plan.stray.Given as goal

abbrev pub invariant-loop-i : goal.invariant-loop-i
invariant-loop-i l = record {
  ahead : stray_of l.threads (drop l.i l.self-inside.items.items) (drop l.i l.self-inside.lines.items) ≡ stray_of l.threads l.self-inside.items.items l.self-inside.lines.items;
  named : All (λ i. thread_of i < l.threads) (take l.i l.self-inside.items.items);
}

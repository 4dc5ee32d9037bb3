use Rattle.std.proofs.Common.{◌≡◌, ℕ, ◌≤◌, List, All, length, ap, subst, sym, ◌∙◌}
use Rattle.run_commands.proofs.Common.{All-from_recursion, MAX_ACTORS, MAX_ARENA, Thread, depth_of, length-map, opening, opening_of, players_of, threads_of}
use Rattle.itm_types.specs.Limits.{AreWithin}
use Rattle.script_program.specs.Sizes.{IsSize}
use Rattle.report_rules.proofs.Histories.ToldLimits.{limited_listing}
use Rattle.run_commands.{proofs.Plays.if_any, proofs.ScheduleItems.outside}
use Rattle.run_commands.proofs.running.begin.Goals as goal

pub new-requires-2-clause-players : goal.new-requires-2-clause-players
new-requires-2-clause-players c = record {
  some = c.in_ok-players.ensures.some;
  few = c.in_ok-players.ensures.few;
  outside = subst (λ (ts : List Thread). All (λ (t : Thread). depth_of t ≡ 0) ts) (sym c.in_ok-players.ensures.players)
      (All-from_recursion (λ (t : Thread). depth_of t ≡ 0) (players_of c.args.program.now) (outside c.args.program.now.limits.depth (threads_of c.args.program.now)));
}

pub returns-clause-limits : goal.returns-clause-limits
returns-clause-limits c =
    let p = c.args.program.now in
    let size = c.in_ok-memory.ensures.size in
    let sized : IsSize p.memory.size = subst IsSize size c.in_ok-memory.ensures.sized in
    let long : length (opening_of p) ≡ p.memory.size = ap (length {A = ℕ}) (sym c.in_ok-memory.ensures.bytes) ∙ size in
    let small : p.arena ≤ MAX_ARENA = subst (λ (n : ℕ). n ≤ MAX_ARENA) c.arena.ensures.value c.arena.ensures.small in
    let within : AreWithin p.limits = subst AreWithin c.limits.ensures.value c.limits.ensures.within in
    let few : length (threads_of p) ≤ MAX_ACTORS = subst (λ (n : ℕ). n ≤ MAX_ACTORS) (ap (length {A = Thread}) c.in_ok-players.ensures.players ∙ length-map (threads_of p) (opening p.limits.depth)) c.in_ok-players.ensures.few in
    if_any c.new-2.result (limited_listing p sized long small within few)

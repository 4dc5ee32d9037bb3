use Rattle.std.proofs.Common.{◌≡◌, ℕ, ◌≤◌, length, subst, arith}
use Rattle.tx_host.proofs.Common.{limited_listing, opening_of, threads_of}
use Rattle.itm_types.{specs.Limits.AreWithin, specs.declared.limits.TheConstants.MAX_ARENA, specs.declared.limits.TheConstants.MAX_ACTORS}
use Rattle.script_program.specs.Sizes.{IsSize}
use Rattle.tx_host.proofs.threads.memories.Goals as goal

pub returns-clause-limits : goal.returns-clause-limits
returns-clause-limits c =
    let p = c.args.program.now in
    let sized : IsSize p.memory.size = subst IsSize c.size.ensures.value c.size.ensures.sized in
    let long : length (opening_of p) ≡ p.memory.size = grind arith in
    let small : p.arena ≤ MAX_ARENA = subst (λ (n : ℕ). n ≤ MAX_ARENA) c.arena.ensures.value c.arena.ensures.small in
    let within : AreWithin p.limits = subst AreWithin c.limits.ensures.value c.limits.ensures.within in
    let few : length (threads_of p) ≤ MAX_ACTORS = subst (λ (n : ℕ). n ≤ MAX_ACTORS) c.threads.ensures.value c.threads.ensures.high in
    limited_listing p sized long small within few

use Rattle.std.proofs.Common.{arith, rules}
use Rattle.norec_turns.proofs.Refusals.{save_replies}
use Rattle.norec_revocable.proofs.local.save.Goals as goal

pub returns-then-contains : goal.returns-then-contains
returns-then-contains c =
    let within = c.contains.ensures.0 c.if-contains.true in
    search (rules, save_replies c.args.state.now c.start_call.new.self c.args.value.now c.args.at c.store.new.self c.start_call.ensures c.requires.sound (omega (arith, within, c.from.ensures, c.size.ensures.value)) c.store.ensures.bytes c.store.ensures.size)

use Rattle.std.proofs.Common.{false, sym, subst}
use Rattle.tx_runs.specs.declared.ending.End.{End}
use Rattle.worker_rules.{specs.Workers.IsStopped, proofs.Laws.Asks.answered, proofs.Laws.Asks.hungry, proofs.Laws.Asks.hungry_still}
use Rattle.tx_worker.proofs.worker.Worker.make.Goals as goal

pub starve-requires : goal.starve-requires
starve-requires g c =
    let k = c.requires.works in
    (c.args.words.now, k.0, k.1, c.args.self.now, c.args.call.now, hungry k.2 c.requires.asks c.prepare.ensures.same c.in_default.ensures.unready c.in_default.ensures.short)

pub returns-in_default : goal.returns-in_default
returns-in_default g c shuts course b k =
    subst (λ (end : End). IsStopped g.P.Player c.args.words.now course b shuts end c.args.self.now c.starve.new.self) (sym c.starve.ensures.end)
    (c.starve.ensures.stopped c.args.words.now course b c.args.self.now c.args.call.now shuts (hungry k c.requires.asks c.prepare.ensures.same c.in_default.ensures.unready c.in_default.ensures.short))

pub take_in-requires : goal.take_in-requires
take_in-requires g c = record {
  asked =
      (let k = c.requires.works in
      let p = c.in-Ok.ensures.ready c.args.words.now in
      (c.args.words.now, k.0, k.1, c.args.self.now, answered k.2 c.requires.asks c.prepare.ensures.same p c.ask.new.self c.in-Ok-ask.answer c.ask.ensures.same c.in-Ok-ask.ensures.served));
}

pub starve-requires-in-Err : goal.starve-requires-in-Err
starve-requires-in-Err g c =
    let k = c.requires.works in
    let p = c.in-Ok.ensures.ready c.args.words.now in
    (c.args.words.now, k.0, k.1, c.args.self.now, c.args.call.now, hungry_still k.2 c.requires.asks c.prepare.ensures.same p c.ask.new.self false c.ask.ensures.same c.in-Err.ensures.served)

pub returns-in-Ok-ask : goal.returns-in-Ok-ask
returns-in-Ok-ask g c shuts =
    let k = c.requires.works in
    let p = c.in-Ok.ensures.ready c.args.words.now in
    c.take_in.ensures c.args.words.now k.0 k.1 c.args.self.now shuts (answered k.2 c.requires.asks c.prepare.ensures.same p c.ask.new.self c.in-Ok-ask.answer c.ask.ensures.same c.in-Ok-ask.ensures.served)

pub returns-in-Err : goal.returns-in-Err
returns-in-Err g c shuts course b k =
    let p = c.in-Ok.ensures.ready c.args.words.now in
    subst (λ (end : End). IsStopped g.P.Player c.args.words.now course b shuts end c.args.self.now c.starve-in-Err.new.self) (sym c.starve-in-Err.ensures.end)
    (c.starve-in-Err.ensures.stopped c.args.words.now course b c.args.self.now c.args.call.now shuts (hungry_still k c.requires.asks c.prepare.ensures.same p c.ask.new.self false c.ask.ensures.same c.in-Err.ensures.served))

use Rattle.std.proofs.Common.{◌≢◌, false, arith, subst}
use Rattle.tx_map.proofs.Common.{Does, HasFound}
use Rattle.tx_map.{proofs.Finds.got_free, proofs.Finds.got_none, proofs.Finds.got_some, proofs.Parts.does_so}
use Rattle.tx_map.proofs.table.Table.get.Goals as goal

pub returns-in-Some-clause-got : goal.returns-in-Some-clause-got
returns-in-Some-clause-got c =
    let t = c.args.self.now.slots in
    let tx = c.args.tx.now in
    does_so tx.words tx.thread c.find.new.tx.thread false _ _ (got_some t.first t.count c.args.key c.in-Some.field-0-0 c.in-Some.pair c.if-pair-key.true)
    (subst (λ found. Does tx.words tx.thread c.find.new.tx.thread false (HasFound t.first t.count c.args.key found)) c.in-Some.is c.in_ok-pair.ensures.found)

pub returns-in_default-clause-got : goal.returns-in_default-clause-got
returns-in_default-clause-got c =
    let t = c.args.self.now.slots in
    let tx = c.args.tx.now in
    let some : c.args.key ≢ 0 = λ e. omega (arith, c.requires, e) in
    does_so tx.words tx.thread c.find.new.tx.thread false _ _ (got_free t.first t.count c.args.key some c.in-Some.field-0-0 c.in-Some.pair c.if-pair-key.false)
    (subst (λ found. Does tx.words tx.thread c.find.new.tx.thread false (HasFound t.first t.count c.args.key found)) c.in-Some.is c.in_ok-pair.ensures.found)

pub returns-in_default-2-clause-got : goal.returns-in_default-2-clause-got
returns-in_default-2-clause-got c =
    let t = c.args.self.now.slots in
    let tx = c.args.tx.now in
    let some : c.args.key ≢ 0 = λ e. omega (arith, c.requires, e) in
    does_so tx.words tx.thread c.find.new.tx.thread false _ _ (got_none t.first t.count c.args.key some)
    (subst (λ found. Does tx.words tx.thread c.find.new.tx.thread false (HasFound t.first t.count c.args.key found)) c.in_default.is c.in_ok-pair.ensures.found)

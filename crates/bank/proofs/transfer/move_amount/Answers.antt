use Rattle.std.proofs.Common.{◌∙◌, ℕ, ◌-◌, ◌≤◌, Option, rules, subst}
use Rattle.bank.proofs.Common.{CommitAction, Done, HasPaidIn, RECEIPT, SomeIff}
use Rattle.bank.proofs.Calls.{made_by, over, read_replied, write_replied}
use Rattle.transactions.proofs.BlockOutcomes.{kept_twice}
use Rattle.bank.proofs.Payments.{block_paid, keeps_blocks, paid_over}
use Rattle.bank.proofs.transfer.move_amount.Goals as goal

pub returns-in_err-why-clause-kept : goal.returns-in_err-why-clause-kept
returns-in_err-why-clause-kept c =
    kept_twice c.args.tx.now c.write.new.tx c.block.new.self (kept_twice c.args.tx.now c.read.new.tx c.write.new.tx c.in_ok-had.ensures.kept c.in_ok-write.ensures.kept) (c.block.ensures.kept (λ f x r f' x' run. search rules) (keeps_blocks _ (λ f shown left r f' called. search rules)))

pub returns-in-Err-clause-kept : goal.returns-in-Err-clause-kept
returns-in-Err-clause-kept c =
    kept_twice c.args.tx.now c.write.new.tx c.block.new.self (kept_twice c.args.tx.now c.read.new.tx c.write.new.tx c.in_ok-had.ensures.kept c.in_ok-write.ensures.kept) (c.block.ensures.kept (λ f x r f' x' run. search rules) (keeps_blocks _ (λ f shown left r f' called. search rules)))

pub returns-in_err-on_commit-clause-kept : goal.returns-in_err-on_commit-clause-kept
returns-in_err-on_commit-clause-kept c =
    kept_twice c.args.tx.now c.block.new.self c.on_commit.new.self
    (kept_twice c.args.tx.now c.write.new.tx c.block.new.self (kept_twice c.args.tx.now c.read.new.tx c.write.new.tx c.in_ok-had.ensures.kept c.in_ok-write.ensures.kept) (c.block.ensures.kept (λ f x r f' x' run. search rules) (keeps_blocks _ (λ f shown left r f' called. search rules))))
    c.in_err-on_commit.ensures.kept

pub returns-clause-kept : goal.returns-clause-kept
returns-clause-kept c =
    kept_twice c.args.tx.now c.block.new.self c.on_commit.new.self
    (kept_twice c.args.tx.now c.write.new.tx c.block.new.self (kept_twice c.args.tx.now c.read.new.tx c.write.new.tx c.in_ok-had.ensures.kept c.in_ok-write.ensures.kept) (c.block.ensures.kept (λ f x r f' x' run. search rules) (keeps_blocks _ (λ f shown left r f' called. search rules))))
    c.in_ok-on_commit.ensures.kept

pub returns-clause-made : goal.returns-clause-made
returns-clause-made c =
    let t = c.args.transfer in
    let tx = c.args.tx.now in
    let had = c.in_ok-had.had in
    let less = subst (λ (o : Option ℕ). SomeIff o (t.amount ≤ had) (had - t.amount)) c.in_ok-less.ensures.ok_part c.checked_sub.ensures in
    let a = c.read.new.tx in
    let b = c.write.new.tx in
    let e = c.block.new.self in
    let first = c.in_ok-had.ensures.kept.words in
    let second = c.in_ok-write.ensures.kept.words ∙ first in
    let last = (c.block.ensures.kept (λ f x r f' x' run. search rules) (keeps_blocks _ (λ f shown left r f' called. search rules))).words ∙ second in
    let paid : HasPaidIn t.to.place t.amount b.words b.thread e.thread =
    block_paid _ (λ f. f.0.now.place) (λ f. f.1.now) (λ f shown left value f' called. search rules) (λ f x r f' x' run. search rules) _ b e c.block.result c.in_ok-why.field-0 c.in_default.field-0 c.in_ok-why.was c.in_default.is
    (c.block.ensures.plain (λ f x r f' x' run. search rules) (keeps_blocks _ (λ f shown left r f' called. search rules))) in
    made_by t tx.words tx.thread a.thread b.thread e.thread c.on_commit.new.self.thread had c.in_ok-had.ensures.fits less.0
    (read_replied tx.words tx.thread a.thread t.from.place had c.in_ok-had.ensures.tells)
    (write_replied a.words tx.words a.thread b.thread t.from.place c.in_ok-less.less (had - t.amount) first less.1 c.in_ok-write.ensures.tells)
    (paid_over b.words tx.words t.to.place t.amount b.thread e.thread second paid)
    (over e.words tx.words e.thread c.on_commit.new.self.thread (CommitAction (record { fun = RECEIPT; arg = t.amount })) Done last c.in_ok-on_commit.ensures.tells)

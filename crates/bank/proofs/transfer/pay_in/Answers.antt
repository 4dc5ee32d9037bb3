use Rattle.std.proofs.Common.{ℕ, ◌+◌, ◌<◌, ◌^◌, Option, refl, subst}
use Rattle.bank.proofs.Common.{SomeIff}
use Rattle.bank.proofs.Calls.{read_replied, write_replied}
use Rattle.bank.proofs.transfer.pay_in.Goals as goal

pub returns-clause-made : goal.returns-clause-made
returns-clause-made c =
    let tx = c.args.tx.now in
    let place = c.args.to.place in
    let has = c.in_ok-has.has in
    let more = subst (λ (o : Option ℕ). SomeIff o (has + c.args.amount < 2 ^ 64) (has + c.args.amount)) c.in_ok-more.ensures.ok_part c.checked_add.ensures in
    let a = c.read.new.tx in
    let b = c.write.new.tx in
    record {
      has = has;
      room = more.0;
      makes = (
        a.thread,
        tt,
        read_replied tx.words tx.thread a.thread place has c.in_ok-has.ensures.tells,
        (b.thread, tt, write_replied a.words tx.words a.thread b.thread place c.in_ok-more.more (has + c.args.amount) c.in_ok-has.ensures.kept.words more.1 c.in_ok-write.ensures.tells, refl),
      );
    }

pub returns-in_err-has-clause-ends : goal.returns-in_err-has-clause-ends
returns-in_err-has-clause-ends c = record { within = c.in_err-has.ensures.within }

pub returns-in_err-more-clause-ends : goal.returns-in_err-more-clause-ends
returns-in_err-more-clause-ends c = record { within = c.in_ok-has.ensures.within }

pub returns-in_err-write-clause-ends : goal.returns-in_err-write-clause-ends
returns-in_err-write-clause-ends c = record { within = λ first fresh w. c.in_err-write.ensures.within first fresh (c.in_ok-has.ensures.within first fresh w) }

pub returns-clause-ends : goal.returns-clause-ends
returns-clause-ends c = record { within = λ first fresh w. c.in_ok-write.ensures.within first fresh (c.in_ok-has.ensures.within first fresh w) }

use Rattle.std.proofs.Common.{◌∙◌, arith, rules}
use Rattle.transactions.proofs.Came.{came_first, kept_cancelled}
use Rattle.transactions.proofs.Chains.{came_of, cancelled_more, lent_after, retried, tried_body}
use Rattle.transactions.proofs.BlockOutcomes.{kept_twice}
use Rattle.transactions.proofs.PlainRuns.{plain_retried}
use Rattle.transactions.proofs.client.Client.retry.Goals as goal

pub returns-then-not-is_cancelled-clause-ran : goal.returns-then-not-is_cancelled-clause-ran
returns-then-not-is_cancelled-clause-ran g c = (
  c.run-told.new.body,
  retried g.F.FnMut c.args.body c.args.self.now.transaction c.args.self.now.tries c.loop.self.tries c.loop.invariant.2 c.loop.counter c.loop.body c.run-told.new.body c.loop.self.transaction c.run-told.new.self.transaction c.loop.invariant.5 c.args.retries c.run-told.result c.loop.invariant.3 (λ is. absurd (c.is_cancelled.ensures.no (search rules) is)) c.run-told.ensures.ran,
)

pub returns-clause-ran : goal.returns-clause-ran
returns-clause-ran g c = (
  c.run.new.body,
  retried g.F.FnMut c.args.body c.args.self.now.transaction c.args.self.now.tries c.loop.self.tries c.loop.invariant.2 c.loop.counter c.loop.body c.run.new.body c.loop.self.transaction c.run.new.self.transaction c.loop.invariant.5 c.args.retries c.run.result c.loop.invariant.3 (λ is. omega (arith, c.loop-test.false, c.loop.invariant.3)) c.run.ensures.ran,
)

pub returns-then-not-is_cancelled-clause-lent : goal.returns-then-not-is_cancelled-clause-lent
returns-then-not-is_cancelled-clause-lent g c keeps = lent_after c.args.self.now.transaction c.loop.self.transaction c.run-told.new.self.transaction c.loop.self.tries c.args.self.now.tries c.run-told.result (c.loop.invariant.1 keeps).0 c.loop.invariant.2 (c.run-told.ensures.lent keeps)

pub returns-clause-lent : goal.returns-clause-lent
returns-clause-lent g c keeps = lent_after c.args.self.now.transaction c.loop.self.transaction c.run.new.self.transaction c.loop.self.tries c.args.self.now.tries c.run.result (c.loop.invariant.1 keeps).0 c.loop.invariant.2 (c.run.ensures.lent keeps)

pub returns-then-not-is_cancelled-clause-comes : goal.returns-then-not-is_cancelled-clause-comes
returns-then-not-is_cancelled-clause-comes g c = came_first g.F.FnMut c.loop.self.transaction.words c.args.self.now.transaction.words (λ keeps. (c.loop.invariant.1 keeps).0.words) c.loop.body c.args.body c.loop.invariant.4 c.run-told.result c.run-told.new.self.transaction.thread (came_of g.F.FnMut c.loop.body c.loop.self.transaction c.loop.self.tries c.run-told.new.body c.run-told.new.self.transaction c.run-told.result c.run-told.ensures.ran)

pub returns-then-not-is_cancelled-clause-plain : goal.returns-then-not-is_cancelled-clause-plain
returns-then-not-is_cancelled-clause-plain g c keeps makings = (let ran = returns-then-not-is_cancelled-clause-ran g c in plain_retried g.F.FnMut makings keeps c.args.self.now.tries ran.0 c.run-told.new.self.transaction c.args.body c.args.self.now.transaction c.args.retries c.run-told.result ran.1)

pub returns-then-not-is_cancelled-clause-waited : goal.returns-then-not-is_cancelled-clause-waited
returns-then-not-is_cancelled-clause-waited g c keeps is = absurd (c.is_cancelled.ensures.no (search rules) is)

pub returns-clause-comes : goal.returns-clause-comes
returns-clause-comes g c = came_first g.F.FnMut c.loop.self.transaction.words c.args.self.now.transaction.words (λ keeps. (c.loop.invariant.1 keeps).0.words) c.loop.body c.args.body c.loop.invariant.4 c.run.result c.run.new.self.transaction.thread (came_of g.F.FnMut c.loop.body c.loop.self.transaction c.loop.self.tries c.run.new.body c.run.new.self.transaction c.run.result c.run.ensures.ran)

pub returns-clause-plain : goal.returns-clause-plain
returns-clause-plain g c keeps makings = (let ran = returns-clause-ran g c in plain_retried g.F.FnMut makings keeps c.args.self.now.tries ran.0 c.run.new.self.transaction c.args.body c.args.self.now.transaction c.args.retries c.run.result ran.1)

pub returns-clause-waited : goal.returns-clause-waited
returns-clause-waited g c keeps is =
    let was = c.loop.invariant.1 keeps in
    let now = c.run.ensures.cancelled keeps is in
    omega (arith, was.1, now)

pub returns-then-not-is_cancelled-clause-tries : goal.returns-then-not-is_cancelled-clause-tries
returns-then-not-is_cancelled-clause-tries g c = c.run-told.ensures.tries ∙ c.loop.invariant.2

pub returns-clause-tries : goal.returns-clause-tries
returns-clause-tries g c = c.run.ensures.tries ∙ c.loop.invariant.2

pub loop-preserved : goal.loop-preserved
loop-preserved g c = (
  c.run-told.ensures.callable,
  λ keeps.
      let was = c.loop.invariant.1 keeps in
      let is = c.is_cancelled.ensures.yes (search rules) in
      let more = c.run-told.ensures.cancelled keeps is in
      (kept_twice c.args.self.now.transaction c.loop.self.transaction c.run-told.new.self.transaction was.0 (kept_cancelled _ _ c.run-told.result is (c.run-told.ensures.lent keeps).left), omega (arith, was.1, more)),
  c.run-told.ensures.tries ∙ c.loop.invariant.2,
  omega (arith, c.loop-test.true),
  λ steady. tried_body g.F.FnMut c.loop.body c.loop.self.transaction c.loop.self.tries c.run-told.new.body c.run-told.new.self.transaction steady c.run-told.result c.run-told.ensures.ran ∙ c.loop.invariant.4 steady,
  cancelled_more g.F.FnMut c.args.body c.args.self.now.transaction c.args.self.now.tries c.loop.self.tries c.loop.invariant.2 c.loop.counter c.loop.body c.run-told.new.body c.loop.self.transaction c.run-told.new.self.transaction c.loop.invariant.5 c.run-told.result (c.is_cancelled.ensures.yes (search rules)) c.run-told.ensures.ran,
)

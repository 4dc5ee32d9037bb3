use Rattle.transactions.{proofs.Chains.came_of, proofs.PlainRuns.plain_tried}
use Rattle.transactions.proofs.client.Client.atomically.Goals as goal

pub returns-clause-ran : goal.returns-clause-ran
returns-clause-ran g c = (c.run.new.body, c.run.ensures.ran)

pub returns-clause-comes : goal.returns-clause-comes
returns-clause-comes g c = came_of g.F.FnMut c.args.body c.args.self.now.transaction c.args.self.now.tries c.run.new.body c.run.new.self.transaction c.run.result c.run.ensures.ran

pub returns-clause-plain : goal.returns-clause-plain
returns-clause-plain g c keeps makings = plain_tried g.F.FnMut makings keeps c.args.self.now.tries c.run.new.body c.run.new.self.transaction c.args.body c.args.self.now.transaction c.run.result c.run.ensures.ran

use Rattle.std.proofs.Common.{rules}
use Rattle.client_tests.proofs.Copies.{all_learned}
use Rattle.client_tests.proofs.learning.learn.Goals as goal

pub returns-clause-learned : goal.returns-clause-learned
returns-clause-learned c = all_learned _ (λ f. f.0.now) (λ f. f.1.now) (λ f shown left found f' called. search rules) (λ f x r f' x' run. search rules) _ _ _ c.atomically.result c.atomically.new.self.transaction.thread (c.atomically.ensures.plain (λ f x r f' x' run. search rules))

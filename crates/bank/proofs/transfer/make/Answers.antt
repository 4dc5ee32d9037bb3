use Rattle.std.proofs.Common.{rules}
use Rattle.bank.proofs.Moves.{all_moved}
use Rattle.bank.proofs.transfer.make.Goals as goal

pub returns-clause-moved : goal.returns-clause-moved
returns-clause-moved c = all_moved _ (λ f. f.0.now) (λ f shown left value f' called. search rules) (λ f x r f' x' run. search rules) _ _ _ c.atomically.result c.atomically.new.self.transaction.thread (c.atomically.ensures.plain (λ f x r f' x' run. search rules))

use Rattle.std.proofs.Common.{rules}
use Rattle.tx_map.proofs.Common.{HasPut, is_put}
use Rattle.tx_map.proofs.Leads.{all_led}
use Rattle.tx_map.proofs.put.Goals as goal

pub returns-clause-put : goal.returns-clause-put
returns-clause-put c = all_led _ is_put (λ f. HasPut f.0.now.slots.first f.0.now.slots.count f.1.now f.2.now) (λ f shown left value f' called. search rules) (λ f x r f' x' run. search rules) _ _ _ c.atomically.result c.atomically.new.self.transaction.thread (c.atomically.ensures.plain (λ f x r f' x' run. search rules))

pub returns-clause-left : goal.returns-clause-left
returns-clause-left c = (c.atomically.ensures.lent (λ f x r f' x' run. search rules)).left

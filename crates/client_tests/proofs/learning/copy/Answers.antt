use Rattle.std.proofs.Common.{refl, rules}
use Rattle.client_tests.proofs.Copies.{block_peeked, copied_by, keeps_blocks}
use Rattle.transactions.proofs.BlockOutcomes.{kept_twice}
use Rattle.client_tests.proofs.learning.copy.Goals as goal

pub returns-in_err-found-clause-kept : goal.returns-in_err-found-clause-kept
returns-in_err-found-clause-kept c = c.block.ensures.kept (λ f x r f' x' run. search rules) (keeps_blocks _ (λ f shown left r f' called. search rules))

pub returns-in_default-clause-kept : goal.returns-in_default-clause-kept
returns-in_default-clause-kept c = c.block.ensures.kept (λ f x r f' x' run. search rules) (keeps_blocks _ (λ f shown left r f' called. search rules))

pub returns-in_err-write_u64-clause-kept : goal.returns-in_err-write_u64-clause-kept
returns-in_err-write_u64-clause-kept c =
    kept_twice c.args.tx.now c.block.new.self c.write_u64.new.self (c.block.ensures.kept (λ f x r f' x' run. search rules) (keeps_blocks _ (λ f shown left r f' called. search rules))) c.in_err-write_u64.ensures.kept

pub returns-clause-kept : goal.returns-clause-kept
returns-clause-kept c =
    kept_twice c.args.tx.now c.block.new.self c.write_u64.new.self (c.block.ensures.kept (λ f x r f' x' run. search rules) (keeps_blocks _ (λ f shown left r f' called. search rules))) c.in_ok-write_u64.ensures.kept

pub returns-clause-made : goal.returns-clause-made
returns-clause-made c =
    let tx = c.args.tx.now in
    let mid = c.block.new.self in
    let found = c.in-Err.found in
    copied_by tx.words mid.words c.args.from c.args.to found tx.thread mid.thread c.write_u64.new.self.thread
    (c.block.ensures.kept (λ f x r f' x' run. search rules) (keeps_blocks _ (λ f shown left r f' called. search rules))).words
    (block_peeked _ (λ f. f.0.now) (λ f shown left why f' called. search rules) (λ f x r f' x' run. search rules) _ tx mid c.block.result c.in_ok-found.field-0 found c.in_ok-found.was c.in-Err.is
    (c.block.ensures.plain_back (λ f x r f' x' run. search rules) (keeps_blocks _ (λ f shown left r f' called. search rules))))
    (c.write_u64.new.self.thread, tt, c.in_ok-write_u64.ensures.tells, refl)

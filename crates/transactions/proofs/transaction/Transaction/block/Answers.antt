use Rattle.std.proofs.Common.{ap, arith, rules, suc}
use Rattle.transactions.proofs.Common.{Lent, TellsBlock}
use Rattle.transactions.proofs.BlockRuns.{ends_to, run_more}
use Rattle.transactions.proofs.PlainBlocks.{plain_back_in, plain_in}
use Rattle.transactions.proofs.transaction.Transaction.block.Goals as goal

pub returns-then-not-goes_again-clause-ran : goal.returns-then-not-goes_again-clause-ran
returns-then-not-goes_again-clause-ran g c =
    let tells : TellsBlock g.F.FnMut c.loop-told.body c.loop-told.self c.block_once-told.result c.block_once-told.new.body c.block_once-told.new.self = search rules in (
      c.block_once-told.new.body,
      record {
        times = c.loop-told.invariant.1.0;
        body = c.loop-told.body;
        from = c.loop-told.self;
        before = c.loop-told.invariant.1.1;
        last = tells;
        over = λ again. (let late = c.goes_again.ensures.no (search rules) again in let since = c.snapshot-since.ensures.value in let here = ap (λ (l : Lent). l.thread.engine.snapshot) c.self.view_is in omega (arith, late, since, here));
      },
    )

pub returns-then-not-goes_again-clause-kept : goal.returns-then-not-goes_again-clause-kept
returns-then-not-goes_again-clause-kept g c lent blocks = (let ran = returns-then-not-goes_again-clause-ran g c in (ends_to g.F.FnMut c.args.body c.args.self.now lent blocks c.block_once-told.result ran.0 c.block_once-told.new.self ran.1).kept)

pub returns-then-not-goes_again-clause-within : goal.returns-then-not-goes_again-clause-within
returns-then-not-goes_again-clause-within g c lent blocks = (let ran = returns-then-not-goes_again-clause-ran g c in (ends_to g.F.FnMut c.args.body c.args.self.now lent blocks c.block_once-told.result ran.0 c.block_once-told.new.self ran.1).within)

pub returns-then-not-goes_again-clause-undone : goal.returns-then-not-goes_again-clause-undone
returns-then-not-goes_again-clause-undone g c lent blocks = (let ran = returns-then-not-goes_again-clause-ran g c in (ends_to g.F.FnMut c.args.body c.args.self.now lent blocks c.block_once-told.result ran.0 c.block_once-told.new.self ran.1).undone)

pub returns-then-not-goes_again-clause-plain : goal.returns-then-not-goes_again-clause-plain
returns-then-not-goes_again-clause-plain g c lent blocks makings = (let ran = returns-then-not-goes_again-clause-ran g c in plain_in g.F.FnMut lent blocks c.args.body c.args.self.now ran.0 c.block_once-told.new.self makings c.block_once-told.result ran.1)

pub returns-then-not-goes_again-clause-plain_back : goal.returns-then-not-goes_again-clause-plain_back
returns-then-not-goes_again-clause-plain_back g c lent blocks cancellings = (let ran = returns-then-not-goes_again-clause-ran g c in plain_back_in g.F.FnMut lent blocks c.args.body c.args.self.now ran.0 c.block_once-told.new.self cancellings c.block_once-told.result ran.1)

pub loop-told-preserved : goal.loop-told-preserved
loop-told-preserved g c =
    let tells : TellsBlock g.F.FnMut c.loop-told.body c.loop-told.self c.block_once-told.result c.block_once-told.new.body c.block_once-told.new.self = search rules in
    let since = c.snapshot-since.ensures.value in
    let here = ap (λ (l : Lent). l.thread.engine.snapshot) c.self.view_is in
    let later = c.goes_again.ensures.later (search rules) in (
      c.block_once-told.ensures.callable,
      (
        suc c.loop-told.invariant.1.0,
        run_more g.F.FnMut c.args.body c.args.self.now c.loop-told.invariant.1.0 c.loop-told.body c.block_once-told.new.body c.loop-told.self c.block_once-told.new.self c.block_once-told.result c.loop-told.invariant.1.1 tells
            (c.goes_again.ensures.yes (search rules)) (omega (arith, later, since, here)),
      ),
    )

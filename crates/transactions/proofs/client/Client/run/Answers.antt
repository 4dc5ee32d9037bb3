use Rattle.std.proofs.Common.{◌≡◌, ◌∙◌, ℕ, ap, arith, refl, subst}
use Rattle.transactions.proofs.Common.{AreTries, Conflict, Failed, Fails, IsTry, mine_if, view_of, went_on}
use Rattle.transactions.specs.declared.tried.Tried.TheVariants.{Busy}
use Rattle.transactions.proofs.Came.{cancelled_goes}
use Rattle.transactions.proofs.Chains.{late_try, seen_more, tried_failed, tried_not, try_more}
use Rattle.transactions.proofs.client.Client.run.Goals as goal
use Rattle.transactions.proofs.client.Client.run.Goals.{in-Conflict, in-Busy}

pub returns-in-Done-clause-ran : goal.returns-in-Done-clause-ran
returns-in-Done-clause-ran g c = record {
  body = c.loop.body;
  mid = c.loop.self.transaction;
  again = c.loop.again;
  after = record { times = c.loop.counter; fewer = omega (arith, c.loop-test.true, c.loop.invariant.2); before = c.loop.invariant.4 };
  last = c.in-Done.ensures.tells;
}

pub returns-in-Failed-clause-ran : goal.returns-in-Failed-clause-ran
returns-in-Failed-clause-ran g c = tried_failed g.F.FnMut c.args.body.now c.args.self.now.transaction c.args.self.now.tries c.attempt.new.body c.attempt.new.self c.in-Failed.why (record {
  body = c.loop.body;
  mid = c.loop.self.transaction;
  again = c.loop.again;
  after = record { times = c.loop.counter; fewer = omega (arith, c.loop-test.true, c.loop.invariant.2); before = c.loop.invariant.4 };
  last = c.in-Failed.ensures.tells;
})

pub returns-clause-ran : goal.returns-clause-ran
returns-clause-ran g c =
    let all : c.loop.counter ≡ c.args.self.now.tries = omega (arith, c.loop-test.false, c.loop.invariant.2, c.loop.invariant.3) in
    (c.loop.again, subst (λ (n : ℕ). AreTries g.F.FnMut c.args.body.now c.args.self.now.transaction n c.loop.again c.loop.body c.loop.self.transaction) all c.loop.invariant.4)

pub returns-in-Done-clause-lent : goal.returns-in-Done-clause-lent
returns-in-Done-clause-lent g c keeps =
    let was = (c.loop.invariant.1 keeps).0 in
    let now = c.in-Done.ensures.left keeps in
    let more = seen_more c.args.self.now.transaction c.loop.self.transaction was in
    let late = late_try g.F.FnMut keeps c.loop.body c.loop.self.transaction c.loop.again c.in-Done.done c.attempt.new.body c.attempt.new.self c.in-Done.ensures.tells in
    record {
      left = record { words = now.words ∙ was.words; mine_is = now.mine_is ∙ ap (λ m. mine_if c.in-Done.done.wrote m c.in-Done.done.at) was.mine_is; went = went_on (view_of c.args.self.now.transaction.thread.pass) (view_of c.loop.self.transaction.thread.pass) (view_of c.attempt.new.self.thread.pass) was.went now.went };
      late = omega (arith, more, late);
      tried = tt;
    }

pub returns-in-Failed-clause-lent : goal.returns-in-Failed-clause-lent
returns-in-Failed-clause-lent g c keeps =
    let was = (c.loop.invariant.1 keeps).0 in
    let now = c.in-Failed.ensures.left keeps in
    let told = c.in-Failed.ensures.tells in
    record {
      left = record { words = now.words ∙ was.words; mine_is = now.mine_is ∙ was.mine_is; went = went_on (view_of c.args.self.now.transaction.thread.pass) (view_of c.loop.self.transaction.thread.pass) (view_of c.attempt.new.self.thread.pass) was.went now.went };
      late = tt;
      tried = λ is. absurd (tried_not g.F.FnMut c.loop.body c.loop.self.transaction c.loop.again c.attempt.new.body c.attempt.new.self
          (subst (λ (why : Failed g.row.E.Denot). IsTry g.F.FnMut c.loop.body c.loop.self.transaction c.loop.again (Fails why) c.attempt.new.body c.attempt.new.self) is told));
    }

pub returns-clause-lent : goal.returns-clause-lent
returns-clause-lent g c keeps =
    let was = c.loop.invariant.1 keeps in
    record { left = was.0; late = tt; tried = λ is. omega (arith, was.1, c.loop-test.false, c.loop.invariant.2, c.loop.invariant.3) }

pub returns-in-Failed-clause-cancelled : goal.returns-in-Failed-clause-cancelled
returns-in-Failed-clause-cancelled g c keeps is =
    let was = c.loop.invariant.1 keeps in
    let more = c.in-Failed.ensures.looks keeps (cancelled_goes g.row.R.Denot c.in-Failed.why is) in
    omega (arith, was.0.went.looks, more)

pub loop-preserved : goal.loop-preserved
loop-preserved g c = elim c.match-attempt.branch [
  | in-Conflict w ↦ (
    c.attempt.ensures.callable,
    λ keeps.
        let was = c.loop.invariant.1 keeps in
        let now = w.in-Conflict.ensures.left keeps in
        let more = w.in-Conflict.ensures.looks keeps tt in
        (record { words = now.words ∙ was.0.words; mine_is = now.mine_is ∙ was.0.mine_is; went = went_on (view_of c.args.self.now.transaction.thread.pass) (view_of c.loop.self.transaction.thread.pass) (view_of c.attempt.new.self.thread.pass) was.0.went now.went }, omega (arith, was.1, more)),
    refl,
    omega (arith, c.loop-test.true),
    try_more g.F.FnMut c.args.body.now c.args.self.now.transaction c.loop.counter c.loop.again c.match-attempt.again c.loop.body c.attempt.new.body c.loop.self.transaction c.attempt.new.self Conflict tt w.again-is c.loop.invariant.4 w.in-Conflict.ensures.tells,
    c.loop.invariant.5,
  )
  | in-Busy w ↦ (
    c.attempt.ensures.callable,
    λ keeps.
        let was = c.loop.invariant.1 keeps in
        let now = w.in-Busy.ensures.left keeps in
        let more = w.in-Busy.ensures.looks keeps tt in
        (record { words = now.words ∙ was.0.words; mine_is = now.mine_is ∙ was.0.mine_is; went = went_on (view_of c.args.self.now.transaction.thread.pass) (view_of c.loop.self.transaction.thread.pass) (view_of c.attempt.new.self.thread.pass) was.0.went now.went }, omega (arith, was.1, more)),
    refl,
    omega (arith, c.loop-test.true),
    try_more g.F.FnMut c.args.body.now c.args.self.now.transaction c.loop.counter c.loop.again c.match-attempt.again c.loop.body c.attempt.new.body c.loop.self.transaction c.attempt.new.self Busy tt w.again-is c.loop.invariant.4 w.in-Busy.ensures.tells,
    c.loop.invariant.5,
  )
]

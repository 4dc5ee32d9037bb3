use Rattle.std.proofs.Common.{◌+◌, false, inr, subst, sym}
use Rattle.itm_runtime.proofs.Common.{Asks, Cas, Commit, Core, Finds, exchanging, found_finishes, starts, view_of}
use Rattle.itm_runtime.proofs.blocks.commit_block.Goals as goal

pub commit_at_once-requires : goal.commit_at_once-requires
commit_at_once-requires g c = record { takes = c.asks_for_clock.ensures.takes.0 c.if-asks_for_clock.true; few = c.in-Ok.ensures.stored.few }

pub write_back-requires : goal.write_back-requires
write_back-requires g c =
    let v = view_of c.args.pass.now in
    let e = c.args.engine.now in
    let takes = c.asks_for_clock.ensures.takes.0 c.if-asks_for_clock.true in
    record {
      own = c.requires.own;
      back = inr takes;
      due = (record { view = v; engine = e; call = Commit; again = false }, starts v e (exchanging e) Commit false c.requires.stands (Asks (Cas 0 e.snapshot (e.snapshot + 1))) (c.asks_for_clock.ensures.called takes));
    }

pub returns-in-Ok : goal.returns-in-Ok
returns-in-Ok g c =
    let e = c.args.engine.now in
    let r = c.in-Ok.ensures.stored in
    record {
      came = exchanging e;
      first = Asks (Cas 0 e.snapshot (e.snapshot + 1));
      called = c.asks_for_clock.ensures.called (c.asks_for_clock.ensures.takes.0 c.if-asks_for_clock.true);
      finishes = found_finishes c.args.words.now (view_of c.args.pass.now) (exchanging e) _ _ _ _ _ _ r.finds (c.commit_at_once.ensures r.freed);
    }

pub returns-in-Err : goal.returns-in-Err
returns-in-Err g c =
    let e = c.args.engine.now in (
      record {
        came = exchanging e;
        first = Asks (Cas 0 e.snapshot (e.snapshot + 1));
        called = c.asks_for_clock.ensures.called (c.asks_for_clock.ensures.takes.0 c.if-asks_for_clock.true);
        finds = subst (λ (x : Core). Finds c.args.words.now (view_of c.args.pass.now) (exchanging e) (Asks (Cas 0 e.snapshot (e.snapshot + 1))) c.in-Err.found c.write_back.new.pass x) (sym c.commit_writes-step.ensures.state) c.in-Err.ensures.found;
      },
      c.in-Err.ensures.other,
    )

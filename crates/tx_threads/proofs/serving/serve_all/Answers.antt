use Rattle.std.proofs.Common.{◌≡◌, ◌∙◌, ℕ, arith, rules, subst, suc, sym, vec_len}
use Rattle.std.specs.Vec.Iter.{into_iter_items}
use Rattle.shared_words.specs.{InGlobal.Words, Passes.Owns, Passes.view_of}
use Rattle.tx_threads.specs.Threads.{AllHaveRun, AreServed}
use Rattle.tx_threads.proofs.Runs.{one_more}
use Rattle.tx_threads.proofs.serving.serve_all.Goals as goal

pub loop-seat-preserved : goal.loop-seat-preserved
loop-seat-preserved g c =
    let old = c.loop-seat.invariant in
    let words = c.args.words.now.value in
    let base = (view_of c.args.pass.now).base in
    let n : ℕ = vec_len c.loop-seat.values in
    let rest = subst (AreServed g.F.Fn c.args.body.now words base c.args.tries n) c.in-Some.ensures.steps.0 old.rest in
    let pushed = c.push_reserved.ensures in
    let taken = c.take_in-value.ensures in
    let next : suc n ≡ vec_len c.push_reserved.new.self = omega (arith, pushed.len) in
    record {
      own = subst (λ (w : Words). Owns w c.take_in-value.new.pass) c.deref.ensures taken.own;
      idle = taken.joined.holds ∙ old.idle;
      base = taken.joined.base ∙ old.base;
      share = omega (arith, old.share, taken.share, pushed.len);
      run = subst (λ (m : ℕ). AllHaveRun g.F.Fn c.args.body.now words base c.args.tries m c.push_reserved.new.self.items (view_of c.take_in-value.new.pass)) (sym pushed.len)
          (one_more g.F.Fn c.args.body.now words base c.args.tries n c.loop-seat.values.items c.push_reserved.new.self.items c.in-Some.seat c.take_in-value.result (view_of c.loop-seat.pass) (view_of c.take_in-value.new.pass) old.run rest.0 taken.value taken.joined pushed.items);
      rest = subst (λ (m : ℕ). AreServed g.F.Fn c.args.body.now words base c.args.tries m (into_iter_items c.next.new.self)) next rest.1;
      count = search rules;
      room = search rules;
    }

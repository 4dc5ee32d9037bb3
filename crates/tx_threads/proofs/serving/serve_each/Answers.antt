use Rattle.std.proofs.Common.{◌≡◌, ◌+◌, ◌<◌, ℕ, arith, get_or, length, subst}
use Rattle.tx_threads.specs.{Threads.HasServed, declared.seats.Seat.Seat}
use Rattle.tx_threads.proofs.Runs.{all_served}
use Rattle.tx_threads.proofs.serving.serve_each.Goals as goal

pub returns : goal.returns
returns g c = λ words base tries begins.
    let olds = c.args.seats.now in
    let news = c.for_each_mut.new.s in
    let each : (i : ℕ) (d : Seat g.row.T.Denot) → i < length olds → HasServed g.F.Fn c.args.body.now (0 + i) (get_or olds i d) (get_or news i d) =
    λ i d less. (let e = (c.for_each_mut.ensures i d less).1 in
    let called : HasServed g.F.Fn c.args.body.now i e.argument.now e.after_call.now = e.call in
    let here : HasServed g.F.Fn c.args.body.now i (get_or olds i d) (get_or news i d) = subst (λ (s : Seat g.row.T.Denot). HasServed g.F.Fn c.args.body.now i (get_or olds i d) s) e.left (subst (λ (s : Seat g.row.T.Denot). HasServed g.F.Fn c.args.body.now i s e.after_call.now) e.argument_is called) in
    let same : i ≡ 0 + i = omega arith in
    subst (λ (k : ℕ). HasServed g.F.Fn c.args.body.now k (get_or olds i d) (get_or news i d)) same here) in
    all_served g.F.Fn c.args.body.now words base tries c.requires.keeps 0 olds news c.for_each_mut.auto.s each begins

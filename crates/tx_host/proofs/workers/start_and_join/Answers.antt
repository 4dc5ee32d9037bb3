use Rattle.std.proofs.Common.{rules, arith, ◌≡◌, ℕ, ◌∙◌, ap, subst, List, length, vec_len}
use Rattle.tx_host.proofs.Common.{HeldAmong, View, gathers, held_more, threads_of, view_of}
use Rattle.tx_host.proofs.workers.start_and_join.Goals as goal

pub returns-clause-gathers : goal.returns-clause-gathers
returns-clause-gathers g c =
    let prepared = c.in-Ok-prepare.ensures.ready in
    let n : ℕ = vec_len c.start_all-handles.result.handles in
    let count : length c.join_all-pass.result.all.items ≡ n = search rules in
    gathers c.args.words.now c.args.program.now g.G.Gate.answers (view_of c.args.pass) (view_of c.prepare.new.pass) (view_of c.join_all-pass.result.pass) c.join_all-pass.result.all.items n prepared.pass prepared.share
    (c.start_all-handles.ensures.whole c.if-not-whole.false ∙ prepared.count) count c.join_all-pass.ensures.idle (c.join_all-pass.ensures.joins c.if-held.false)

pub returns-then-held-clause-held : goal.returns-then-held-clause-held
returns-then-held-clause-held g c = λ same.
    (let prepared = c.in-Ok-prepare.ensures.ready in
    let n : ℕ = vec_len c.start_all-handles.result.handles in
    let few = c.start_all-handles.ensures.few in
    let count = prepared.count in
    let base : List ℕ = (view_of c.prepare.new.pass).base in
    subst (λ (b : List ℕ). HeldAmong c.args.words.now c.args.program.now b g.G.Gate.answers (length (threads_of c.args.program.now))) (ap (λ (v : View). v.base) prepared.pass)
    (held_more c.args.words.now c.args.program.now base g.G.Gate.answers n (length (threads_of c.args.program.now)) (omega arith) (c.join_all-pass.ensures.held c.if-held.true)))

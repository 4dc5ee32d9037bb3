use Rattle.std.proofs.Common.{◌≡◌, ℕ, ◌+◌, sym, subst, ◌∙◌, arith, rules}
use Rattle.norec_accesses.proofs.Common.{IsReading, Reading, Turns, between, count, logged, rows_before}
use Rattle.norec_core.specs.Aims as aims
use Rattle.norec_accesses.proofs.ReadCalls.Replies.{loads_no_more}
use Rattle.norec_accesses.proofs.reads.go_past.Goals as goal

pub reply_gathered-requires : goal.reply_gathered-requires
reply_gathered-requires c =
    let s = c.args.state.now in
    let r : Reading = record s.reading { number = s.reading.number + 1 } in
    let may = c.requires.may in
    let whole = c.is_whole.ensures.whole c.if-is_whole.true in
    let all : s.reading.number + 1 ≡ count r = omega (arith, whole.1, may.reading.far) in
    rw c.next.ensures (record {
      may = record {
        bounds = may.bounds;
        is_open = may.is_open;
        value = whole.0;
        whole = subst (λ (n : ℕ). IsReading s (record r { number = n })) all may.reading;
        settled = may.settled;
      };
    })

pub returns-then-is_whole-clause-proceeds : goal.returns-then-is_whole-clause-proceeds
returns-then-is_whole-clause-proceeds c log =
    let s = c.args.state.now in
    subst (λ (r : Reading). Turns (logged (between s (aims.Read r)) log) c.reply_gathered.result c.reply_gathered.new.state) c.next.ensures (c.reply_gathered.ensures.proceeds log)

pub returns-then-is_whole-clause-goes : goal.returns-then-is_whole-clause-goes
returns-then-is_whole-clause-goes c =
    let s = c.args.state.now in
    let r : Reading = record s.reading { number = s.reading.number + 1 } in
    let whole = c.is_whole.ensures.whole c.if-is_whole.true in
    search (rules, returns-then-is_whole-clause-proceeds c c.args.state.now.log.rows, c.reply_gathered.ensures.goes.order ∙ sym (loads_no_more (rows_before s) s.log.rows r whole.0 whole.1))

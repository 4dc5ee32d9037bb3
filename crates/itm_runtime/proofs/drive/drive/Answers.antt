use Rattle.std.proofs.Common.{[], ◌++◌, ◌<◌, refl, subst, sym}
use Rattle.itm_runtime.proofs.Common.{Asks, LeadsOn, Next, at_step, cells_of, due_on, leads_further, left, next_in, view_of}
use Rattle.itm_runtime.proofs.DueSteps.{answer_due, step_due}
use Rattle.itm_runtime.proofs.drive.drive.Goals as goal

pub go_on-next-requires : goal.go_on-next-requires
go_on-next-requires g c =
    let inv = c.loop-next.invariant in
    record { own = inv.own; due = (inv.due.0, at_step inv.due.0 _ _ _ _ (step_due _ c.loop-next.answer _ c.in-Some.is) inv.due.1) }

pub loop-next-init : goal.loop-next-init
loop-next-init g c = record { own = c.requires.own; due = c.requires.due; steps = []; leads = (refl, refl, refl) }

pub loop-next-preserved : goal.loop-next-preserved
loop-next-preserved g c =
    let inv = c.loop-next.invariant in
    let words = cells_of c.args.words.now in
    let is = step_due c.loop-next.next c.loop-next.answer c.in-Some.step c.in-Some.is in
    let on = c.go_on-next.ensures in
    record {
      own = on.own;
      due = (inv.due.0, due_on words inv.due.0 on.steps _ _ _ _ (Asks c.in-Some.step) _ inv.own.over (at_step inv.due.0 _ _ _ _ is inv.due.1) on.leads);
      steps = inv.steps ++ on.steps;
      leads = leads_further words inv.steps on.steps _ _ _ _ _ _ _ (Asks c.in-Some.step) _ (subst (λ (x : Next). LeadsOn words (view_of c.args.pass.now) c.args.engine.now (Asks c.args.first) inv.steps (view_of c.loop-next.pass) c.loop-next.engine x) is inv.leads) on.leads;
    }

pub loop-next-smaller : goal.loop-next-smaller
loop-next-smaller g c =
    let is = step_due c.loop-next.next c.loop-next.answer c.in-Some.step c.in-Some.is in
    subst (λ (x : Next). left c.go_on-next.new.engine (next_in c.go_on-next.result c.go_on-next.new.answer) < left c.loop-next.engine x) (sym is) c.go_on-next.ensures.less

pub returns : goal.returns
returns g c =
    let inv = c.loop-next.invariant in
    let is = answer_due c.loop-next.next c.loop-next.answer c.in_default.not-Some in
    record {
      own = inv.own;
      steps = inv.steps;
      leads = subst (λ (x : Next). LeadsOn (cells_of c.args.words.now) (view_of c.args.pass.now) c.args.engine.now (Asks c.args.first) inv.steps (view_of c.loop-next.pass) c.loop-next.engine x) is inv.leads;
    }

use Rattle.std.proofs.Common.{◌≡◌, ◌<◌, ◌≤◌, length, get_or, arith, sym, ◌∙◌}
use Rattle.script_program.specs.declared.schedule.Item.{Item}
use Rattle.script_program.specs.declared.schedule.Item.TheVariants.{Take}
use Rattle.script_program.specs.Listing.{thread_of}
use Rattle.script_program.proofs.StrayItems.{stray_next, named_next, named_all}
use Rattle.script_program.proofs.schedule.Plan.stray.Goals as goal

pub loop-i-preserved : goal.loop-i-preserved
loop-i-preserved c =
    let d : Item = Take 0 0 in
    let items = c.self.inside.items.items in
    let lines = c.self.inside.lines.items in
    let same = c.deref-item-items.ensures.value in
    let inside : c.loop-i.i < length items = rw same at c.loop-i-test.true in
    let thread : c.thread.result ≡ thread_of (get_or items c.loop-i.i d) = rw same at c.thread.ensures in
    let below : thread_of (get_or items c.loop-i.i d) < c.args.threads = omega (arith, thread, c.from.ensures, c.if-threads-from.false) in
    let paired : length items ≡ length lines = c.self.invariant in
    record {
      ahead = sym (stray_next c.args.threads items lines c.loop-i.i d inside (omega arith) below) ∙ c.loop-i.invariant.ahead;
      named = named_next c.args.threads items c.loop-i.i d inside below c.loop-i.invariant.named;
    }

pub returns-clause-named : goal.returns-clause-named
returns-clause-named c =
    let items = c.self.inside.items.items in
    let outside : length items ≤ c.loop-i.i = rw c.deref-item-items.ensures.value at c.loop-i-test.false in
    rw (← c.self.view_is) (named_all c.args.threads items c.loop-i.i outside c.loop-i.invariant.named)

use Rattle.std.proofs.Common.{◌≡◌, ◌≤◌, ◌-◌, List, length, min, ap, subst, sym, arith, rules}
use Rattle.itm_model.proofs.Common.{AreWithin, Logged, Old, div_ceil_times}
use Rattle.itm_model.proofs.Journals.KeptLogs.{logged_none, logged_more}
use Rattle.itm_model.proofs.journal.keep.Goals as goal

pub loop-done-init : goal.loop-done-init
loop-done-init c =
    let same = c.reserve.ensures.items in
    let room = c.in_ok-reserve.ensures.ok in
    record {
      done = omega arith;
      room = omega (arith, (div_ceil_times c.args.size 32 (omega arith)).0, c.div_ceil.ensures, room);
      longer = omega (arith, ap (length {A = Old}) same);
      within = subst (AreWithin (length c.args.bytes.now)) (sym same) c.requires.within;
      logged = subst (λ (t : List Old). Logged c.args.bytes.now c.args.place 0 c.args.logs.now.items t) (sym same) (logged_none c.args.bytes.now c.args.place c.args.logs.now.items);
    }

pub loop-done-preserved : goal.loop-done-preserved
loop-done-preserved c =
    let i = c.loop-done.invariant in
    let part = c.min-part.result in
    let is : part ≡ min (c.args.size - c.loop-done.done) 32 = c.min-part.ensures in
    let longer : length c.loop-done.logs.items ≤ length c.keep_part.new.logs.items = search rules in
    record {
      done = omega (arith, i.done, is);
      room = omega (arith, i.room, i.done, is, c.loop-done-test.true, c.keep_part.ensures.one, c.keep_part.ensures.capacity);
      longer = omega (arith, longer, i.longer);
      within = c.keep_part.ensures.within;
      logged = logged_more c.args.bytes.now c.args.place c.loop-done.done part c.args.logs.now.items c.loop-done.logs.items c.keep_part.new.logs.items i.longer i.logged c.keep_part.ensures.logged;
    }

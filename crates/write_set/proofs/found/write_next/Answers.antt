use Rattle.std.proofs.Common.{◌≡◌, None, sym, subst, take, ◌∙◌}
use Rattle.write_set.proofs.Common.{Indexed, lookup, put, reserved}
use Rattle.write_set.proofs.Overlays.{lookup-take, put_new}
use Rattle.write_set.proofs.found.write_next.Goals as goal

pub returns-then-add_again-clause-rows : goal.returns-then-add_again-clause-rows
returns-then-add_again-clause-rows c done =
    let added = c.add_again.ensures.added c.if-add_again.true in
    added.1 ∙ sym (put_new c.args.rows.now.rows c.args.word c.args.mask c.args.value added.0)

pub returns-then-add_again-clause-first : goal.returns-then-add_again-clause-first
returns-then-add_again-clause-first c done = lookup-take c.args.first c.args.rows.now.rows c.args.word (c.add_again.ensures.added c.if-add_again.true).0

pub returns-in-None-clause-rows : goal.returns-in-None-clause-rows
returns-in-None-clause-rows c done =
    subst (λ (k : Indexed). c.add_few.new.self.rows ≡ put (reserved k.rows c.args.word) c.args.word c.args.mask c.args.value) (c.add_again.ensures.none c.if-add_again.false)
    (c.add_few.ensures.added done ∙ sym (put_new c.add_again.new.self.rows c.args.word c.args.mask c.args.value c.in-None.ensures))

pub returns-in-None-clause-first : goal.returns-in-None-clause-first
returns-in-None-clause-first c done =
    subst (λ (k : Indexed). lookup c.args.word (take c.args.first k.rows) ≡ None) (c.add_again.ensures.none c.if-add_again.false)
    (lookup-take c.args.first c.add_again.new.self.rows c.args.word c.in-None.ensures)

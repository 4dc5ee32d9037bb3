use Rattle.std.proofs.Common.{◌≡◌, take, sym, ap, subst, ◌∙◌}
use Rattle.write_set.proofs.Common.{AreMarks, AreRows, Written, lookup, put, reserved, with_row_of, write}
use Rattle.write_set.proofs.Outcomes.{AreMarks-tried, KeepsMarks-tried}
use Rattle.write_set.proofs.set.WriteSet.write_next.Goals as goal

pub returns-clause-written : goal.returns-clause-written
returns-clause-written c done =
    let s = c.self.inside in
    let word = c.args.word in
    let rows : c.write_next.new.rows.rows ≡ put (reserved s.rows.rows word) word c.args.mask c.args.value = c.write_next.ensures.rows done in
    let saves : s.saves.items ≡ with_row_of s.saves.items (lookup word (take s.inner.rows s.rows.rows)) = sym (ap (with_row_of s.saves.items) (c.write_next.ensures.first done)) in
    (λ i. record { rows = rows i; saves = saves i; inner = s.inner }) ∙ ap (λ (w : Written). write w word c.args.mask c.args.value) c.self.view_is

pub returns-clause-none : goal.returns-clause-none
returns-clause-none c not =
    let s = c.self.inside in
    (λ i. record { rows = c.write_next.ensures.none not i; saves = s.saves.items; inner = s.inner }) ∙ c.self.view_is

pub invariant_of-self : goal.invariant_of-self
invariant_of-self c =
    let rows : AreRows c.args.self.now.rows = subst (λ (w : Written). AreRows w.rows) c.self.view_is c.write_next.ensures.are_rows in
    AreMarks-tried c.args.self.now _ c.args.word c.args.mask c.args.value c.write_next.result (subst AreMarks c.self.view_is c.self.invariant) (returns-clause-written c) (returns-clause-none c) rows

pub returns-clause-marks : goal.returns-clause-marks
returns-clause-marks c =
    KeepsMarks-tried c.args.self.now _ c.args.word c.args.mask c.args.value c.write_next.result (subst AreMarks c.self.view_is c.self.invariant) (returns-clause-written c) (returns-clause-none c)

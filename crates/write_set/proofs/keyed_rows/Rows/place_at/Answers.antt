use Rattle.std.proofs.Common.{◌≡◌, ◌<◌, length, slice_get, None, Some, sym, ap, subst, arith, ◌∙◌}
use Rattle.write_set.proofs.Common.{Indexed, IsFirst, Row, lookup, same_Some}
use Rattle.write_set.proofs.Held.{count, first_at, got_within, none_told, told_at}
use Rattle.write_set.proofs.keyed_rows.Rows.place_at.Goals.{else-place-self-via-then-place-self+else-index-word, else-place-self-via-else-place-self}
use Rattle.write_set.proofs.keyed_rows.Rows.place_at.Goals as goal

pub returns-then-index-word : goal.returns-then-index-word
returns-then-index-word c =
    let list = c.self.inside.list.items in
    let place = c.index-place.result.now in
    let r = c.index.result.now in
    let got = got_within list place r r (omega (arith, c.if-place-self.true, c.self.invariant.within)) c.index.ensures in
    subst (λ (k : Indexed). IsFirst k.rows c.args.word place) c.self.view_is (first_at c.self.inside.list.items c.self.inside.len c.self.inside.index.entries c.self.inside.indexed c.self.invariant c.args.word place r c.if-place-self.true got c.if-index-word.true)

pub returns-else-place-self : goal.returns-else-place-self
returns-else-place-self c =
    let list = c.self.inside.list.items in
    let word = c.args.word in
    let place = c.index-place.result.now in
    let here = subst (λ (k : Indexed). slice_get k.words c.args.at ≡ Some word) (sym c.self.view_is) c.requires.here in
    let many = subst (λ (k : Indexed). 8 < length k.rows) (sym c.self.view_is) c.requires.many in
    let told = told_at c.self.inside.index.entries c.args.at word place c.self.invariant.distinct here c.index-place.ensures in
    let is_len = count c.self.inside.list.items c.self.inside.len c.self.inside.index.entries c.self.inside.indexed c.self.invariant in
    subst (λ (k : Indexed). lookup word k.rows ≡ None) c.self.view_is (none_told c.self.inside.list.items c.self.inside.len c.self.inside.index.entries c.self.inside.indexed c.self.invariant word (omega (arith, many, is_len))
    (λ p r below got same other. (
    let there : p ≡ place = same_Some p place (sym other ∙ told) in
    elim c.else-place-self.branch [
      | else-place-self-via-then-place-self+else-index-word w ↦ (
          let x = w.index.result.now in
          let its : slice_get list place ≡ Some x = got_within list place x x (omega (arith, w.if-place-self.true, c.self.invariant.within)) w.index.ensures in
          let is : r ≡ x = same_Some r x (sym got ∙ (ap (slice_get list) there ∙ its)) in
          w.if-index-word.false (ap (λ (r : Row). r.word) (sym is) ∙ same))
      | else-place-self-via-else-place-self w ↦ omega (arith, below, there, w.if-place-self.false)
    ])))

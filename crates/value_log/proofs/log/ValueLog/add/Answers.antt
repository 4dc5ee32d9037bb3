use Rattle.std.proofs.Common.{◌≡◌, List, [], ◌∷◌, ℕ, None, ◌<◌, ◌≤◌, length, sym, ap, subst, arith}
use Rattle.value_log.proofs.Common.{AllBelow, AreSingle, IsRight, Log, LogRow, single_push, value_of}
use Rattle.value_log.proofs.IndexedRows.{few_rows}
use Rattle.itm_types.proofs.Elements.{all_append}
use Rattle.value_log.proofs.log.ValueLog.add.Goals as goal

pub note-requires-clause-few : goal.note-requires-clause-few
note-requires-clause-few c = omega (arith, c.len.ensures.value, few_rows c.self.inside.rows.items c.self.invariant.single c.self.invariant.below)

pub note-requires-clause-room : goal.note-requires-clause-room
note-requires-clause-room c = λ made.
    let free = subst (λ (l : Log). 0 < l.room) (sym c.self.view_is) c.requires.room in
    omega (arith, free, c.len.ensures.value, c.self.invariant.room made)

pub note-requires-clause-slots : goal.note-requires-clause-slots
note-requires-clause-slots c = c.self.invariant.index.few

pub invariant_of-self : goal.invariant_of-self
invariant_of-self c =
    let kept = c.self.invariant in
    let rows = c.self.inside.rows.items in
    let row = c.args.row in
    let added = c.push_reserved.ensures.items in
    let first = subst (λ (rs : List LogRow). value_of row.word rs ≡ None) (sym (ap (λ (l : Log). l.rows) c.self.view_is)) c.requires.first in
    record {
      single = subst AreSingle (sym added) (single_push rows row kept.single first);
      below = subst AllBelow (sym added) (all_append _ rows (row ∷ []) kept.below (c.requires.word, tt));
      index = subst (IsRight c.note.new.self.last.items c.note.new.self.before.items) (sym added) (c.note.ensures.right rows (sym c.len.ensures.value) kept.index row.value);
      room = λ made. subst (λ (n : ℕ). c.push_reserved.new.self.capacity ≤ n) (sym c.note.ensures.before)
          (subst (λ (n : ℕ). n ≤ length c.self.inside.index.before.items) (sym c.push_reserved.ensures.capacity) (kept.room (subst (λ (n : ℕ). 0 < n) c.note.ensures.last made)));
    }

pub returns-clause-single : goal.returns-clause-single
returns-clause-single c = subst AreSingle (sym c.push_reserved.ensures.items) (single_push c.self.inside.rows.items c.args.row c.self.invariant.single (subst (λ (rs : List LogRow). value_of c.args.row.word rs ≡ None) (sym (ap (λ (l : Log). l.rows) c.self.view_is)) c.requires.first))

use Rattle.std.proofs.Common.{◌≡◌, ◌≤◌, ◌+◌, ◌||◌, nat_lt, length, replicate, ap, sym, ◌∙◌, rules}
use Rattle.itm_model.proofs.Common.{Undoable, length-replicate, written}
use Rattle.itm_model.proofs.Journals.Overwrites.{IsWritten, is_written}
use Rattle.itm_model.proofs.plain.Plain.fill.Goals as goal
use Rattle.itm_model.proofs.plain.Plain.fill.Goals.{then-self, else-self}

done : (c : goal.After-self-1) → IsWritten c.self.inside.journal.items c.self.inside.memory.items c.self.inside.arena.items c.self.inside.logs.items c.self.inside.marks.items c.self.inside.actions.actions c.self.inside.wrote c.self.inside.irrevocable c.args.to (replicate c.args.size c.args.byte) c.keep_pieces.new.journal.items c.keep_pieces.new.newest.items c.fill.new.bytes.items c.if-self.self
done c =
    let p = c.self.inside in
    let m = p.memory.items in
    let j = p.journal.items in
    let j' = c.keep_pieces.new.journal.items in
    let new = (replicate c.args.size c.args.byte) in
    let len : c.args.size ≡ length new = sym (length-replicate c.args.size c.args.byte) in
    let fits : c.args.to + length new ≤ length m = search (rules, len) in
    let kept = c.in_ok-keep_pieces.ensures in
    let wrote : c.if-self.self ≡ (p.wrote || nat_lt 0 (length new)) =
    elim c.if-self.branch [ then-self w ↦ search (rules, len) | else-self w ↦ search (rules, len) ] in
    is_written j p.newest.items m p.arena.items p.logs.items p.marks.items p.actions.actions p.wrote p.irrevocable c.args.to new j' c.keep_pieces.new.newest.items c.fill.new.bytes.items c.if-self.self
    c.innermost_at-top.result c.args.size c.deref.result.now c.deref-2.result.now c.deref.ensures.value c.deref-2.ensures.value c.innermost_at-top.ensures len
    c.self.invariant fits kept.keeps.adds kept.keeps.same kept.covered kept.keeps.indexed (c.fill.ensures) wrote

pub invariant_of-self-2 : goal.invariant_of-self-2
invariant_of-self-2 c = (done c).sound

pub returns-clause-ok : goal.returns-clause-ok
returns-clause-ok c = (done c).state ∙ ap (λ (u : Undoable). written u.state c.args.to (replicate c.args.size c.args.byte)) c.self.view_is

pub returns-clause-before : goal.returns-clause-before
returns-clause-before c = (done c).before ∙ ap (λ (u : Undoable). u.before) c.self.view_is

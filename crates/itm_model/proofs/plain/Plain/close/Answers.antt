use Rattle.std.proofs.Common.{◌≡◌, List, [], ◌∷◌, ◌++◌, length, take, drop, reverse, subst, ap, sym, ◌∙◌, arith}
use Rattle.itm_model.proofs.Common.{AreOnce, AreUnder, IsSound, Mark, Undoable, closed, handed_on, put_back, reverse-append, top_of}
use Rattle.itm_model.proofs.Journals.EntryBounds.{under_top}
use Rattle.itm_model.proofs.OpenBlocks.{under_last, both_stay, blocks_same, closed_is, state_of}
use Rattle.itm_model.proofs.Journals.Overwrites.{IsHandedOn, in_table, is_handed_on}
use Rattle.itm_model.proofs.plain.Plain.close.Goals as goal
use Rattle.itm_model.proofs.plain.Plain.close.Goals.{After-hand_on}

pub hand_on-requires-clause-among : goal.hand_on-requires-clause-among
hand_on-requires-clause-among c =
    let p = c.self.inside in
    in_table (length p.memory.items) p.journal.items p.newest.items c.self.invariant.indexed

handed_on_is : (c : After-hand_on) → IsHandedOn c.self.inside.journal.items c.self.inside.memory.items c.self.inside.logs.items c.pop.new.self.items c.hand_on.new.journal.items c.hand_on.new.newest.items
handed_on_is c =
    let p = c.self.inside in
    let x = c.in-Some.closed in
    let rest = c.pop.new.self.items in
    let j = p.journal.items in
    let e : p.marks.items ≡ rest ++ x ∷ [] = c.in-Some.ensures.items in
    let under : AreUnder (length j) (length p.logs.items) (x ∷ reverse rest) = under_last (length j) (length p.logs.items) rest x (subst (λ (t : List Mark). AreUnder (length j) (length p.logs.items) (reverse t)) e c.self.invariant.under) in
    let once : AreOnce j (x ∷ reverse rest) = subst (AreOnce j) (reverse-append rest (x ∷ [])) (subst (λ (t : List Mark). AreOnce j (reverse t)) e c.self.invariant.once) in
    let top : c.innermost_at-top.result ≡ top_of (reverse rest) = c.innermost_at-top.ensures ∙ ap (λ (t : List Mark). top_of (reverse t)) c.deref.ensures.value in
    let handed : c.hand_on.new.journal.items ≡ handed_on (top_of (reverse rest)) (take x.at j) (drop x.at j) = c.hand_on.ensures.handed ∙ ap (λ t. handed_on t (take x.at j) (drop x.at j)) top in
    is_handed_on j p.newest.items p.memory.items p.logs.items rest x c.hand_on.new.journal.items c.hand_on.new.newest.items c.self.invariant.indexed under once handed c.hand_on.ensures.newest c.hand_on.ensures.count

sound : (c : After-hand_on) → IsSound c.self.inside.memory.items c.hand_on.new.journal.items c.hand_on.new.newest.items c.self.inside.arena.items c.self.inside.logs.items c.pop.new.self.items
sound c =
    let h = handed_on_is c in
    record { within = h.within; logged = c.self.invariant.logged; under = h.under; indexed = h.indexed; once = h.once }

before : (c : After-hand_on) → put_back c.hand_on.new.journal.items c.self.inside.memory.items ≡ c.args.self.now.before
before c = (handed_on_is c).same 0 (omega arith) ∙ ap (λ (u : Undoable). u.before) c.self.view_is

pub returns-then-is_empty-clause-before : goal.returns-then-is_empty-clause-before
returns-then-is_empty-clause-before c = before (goal.at.returns-then-is_empty-clause-before c).After-hand_on

pub returns-else-is_empty-clause-before : goal.returns-else-is_empty-clause-before
returns-else-is_empty-clause-before c = before (goal.at.returns-else-is_empty-clause-before c).After-hand_on

pub invariant_of-self-then-is_empty : goal.invariant_of-self-then-is_empty
invariant_of-self-then-is_empty c = sound (goal.at.invariant_of-self-then-is_empty c).After-hand_on

pub invariant_of-self-else-is_empty : goal.invariant_of-self-else-is_empty
invariant_of-self-else-is_empty c = sound (goal.at.invariant_of-self-else-is_empty c).After-hand_on

pub returns-else-is_empty-clause-closed : goal.returns-else-is_empty-clause-closed
returns-else-is_empty-clause-closed c =
    let p = c.self.inside in
    let x = c.in-Some.closed in
    let rest = c.pop.new.self.items in
    let j = p.journal.items in
    let j' = c.hand_on.new.journal.items in
    let m = p.memory.items in
    let a = p.arena.items in
    let os = p.logs.items in
    let e : p.marks.items ≡ rest ++ x ∷ [] = c.in-Some.ensures.items in
    let h = handed_on_is (goal.at.returns-else-is_empty-clause-closed c).After-hand_on in
    let under = under_last (length j) (length os) rest x (subst (λ (t : List Mark). AreUnder (length j) (length os) (reverse t)) e c.self.invariant.under) in
    let stay = both_stay rest p.actions.actions p.irrevocable (grind (arith, c.is_empty.ensures, c.if-is_empty.false)) in
    let blocks = blocks_same p.irrevocable j m j' m a os (top_of (reverse rest)) (length os) (reverse rest) (under_top (length j') (length os) (reverse rest) h.under) h.same in
    (λ i. record { memory = m; arena = a; blocks = blocks i; actions = p.actions.actions; wrote = p.wrote; irrevocable = p.irrevocable })
    ∙ (closed_is p.irrevocable p.irrevocable j m a os rest x p.actions.actions p.actions.actions p.wrote under.1 under.2 stay.0 stay.1
    ∙ (ap (λ (t : List Mark). closed (state_of p.irrevocable j m a os t p.actions.actions p.wrote)) (sym e)
    ∙ ap (λ (u : Undoable). closed u.state) c.self.view_is))

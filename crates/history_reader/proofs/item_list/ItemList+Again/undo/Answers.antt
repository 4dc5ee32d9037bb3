use Rattle.std.proofs.Common.{◌≡◌, List, [], ◌∷◌, ◌++◌, ap, sym, ◌∙◌}
use Rattle.history_reader.proofs.Common.{Again, Ran, with_undone}
use Rattle.history_reader.proofs.BlocksAgain.{also, undone_is}
use Rattle.history_reader.proofs.item_list.ItemList+Again.undo.Goals as goal

pub returns-in_ok-pushed-clause-added : goal.returns-in_ok-pushed-clause-added
returns-in_ok-pushed-clause-added c =
    let a = c.in-Some.last in
    let first = c.pop.new.self.items in
    let whole : c.args.self.now ≡ first ++ a ∷ [] = cc (c.in-Some.ensures.items, c.self.view_is) in
    let last : record a { undone = c.push-pushed.new.self } ≡ also a c.args.ran = ap (λ (u : List Ran). record a { undone = u }) c.in_ok-pushed.ensures.added in
    c.push_reserved.ensures.items ∙ ap (λ (x : Again). first ++ x ∷ []) last ∙ sym (ap (λ (l : List Again). with_undone l c.args.ran) whole ∙ undone_is first a c.args.ran)

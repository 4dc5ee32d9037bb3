use Rattle.std.proofs.Common.{◌≡◌, ℕ, List, Option, None, Some, slice_get, sym, ap, ◌∙◌, IfSome}
use Rattle.value_log.proofs.Common.{Log, LogRow, value_of, value_stands}
use Rattle.itm_types.specs.Memory.{Agrees}
use Rattle.value_log.proofs.log.ValueLog.find.Goals as goal

stands : (rows : List LogRow) (word : ℕ) (o : Option ℕ) → o ≡ value_of word rows → IfSome o (λ value. (m : List ℕ) → Agrees m rows → slice_get m word ≡ Some value)
stands rows word None e = tt
stands rows word (Some value) e = λ m agrees. value_stands m word value rows agrees (sym e)

pub returns-then-is_made-clause-word : goal.returns-then-is_made-clause-word
returns-then-is_made-clause-word c =
    let rows = c.as_slice.ensures ∙ ap (λ (l : Log). l.rows) c.self.view_is in
    stands c.args.self.now.rows c.args.word c.find.result (c.find.ensures ∙ ap (value_of c.args.word) rows)

pub returns-else-is_made-clause-word : goal.returns-else-is_made-clause-word
returns-else-is_made-clause-word c =
    let rows = c.as_slice-else-is_made.ensures ∙ ap (λ (l : Log). l.rows) c.self.view_is in
    stands c.args.self.now.rows c.args.word c.scan.result (c.scan.ensures ∙ ap (value_of c.args.word) rows)

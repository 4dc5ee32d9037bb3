-- What was written of a picture.
use Rattle.std.proofs.Common.{◌≡◌, ℕ, List, [], ◌++◌, take, Option, Result, Ok, Err, sym, ap, subst, true, ◌∙◌, IfErr}
use Rattle.itmsteps.proofs.Common.{Appends, AsmFault, Failure, Item, ScheduleRows, Tells, Thread, View, World, Writes, Writing, schedule_whole, thread_rules}
use Rattle.step_picture.{specs.declared.mark.Mark.Mark, specs.Gathered.Gathered, specs.Marks.marks_of, specs.Picture.picture_text}

module _ (view : View) (items : List Item) (a b : World Thread) (o n : Option (List ℕ)) (columns : List ℕ) (shown none marks : List Mark) where
  -- the picture of all those events
  pub drawn : (s : Result (Unit {0}) (Failure AsmFault)) → columns ≡ view.columns.items → shown ≡ marks → none ≡ [] → Gathered view (ScheduleRows thread_rules items) a b none marks → Writes o n s (picture_text columns shown)
      → IfErr s (λ failure. failure ≡ Writing) → Tells true view items a b o n s
  drawn (Ok x) there same empty (rows, leads, are) p e =
      let all = same ∙ are ∙ ap (λ (l : List Mark). l ++ marks_of view rows) empty in (rows, leads, subst (Appends o n) (λ i. picture_text (there i) (all i)) p)
  drawn (Err f) there same empty (rows, leads, are) (k, p) e =
      let all = same ∙ are ∙ ap (λ (l : List Mark). l ++ marks_of view rows) empty in
      subst (λ (f : Failure AsmFault). Tells true view items a b o n (Err f)) (sym e)
      (rows, k, schedule_whole thread_rules a b items rows leads, subst (λ (text : List ℕ). Appends o n (take k text)) (λ i. picture_text (there i) (all i)) p)

-- Events of a world, one after another, as a schedule asks for them.
use Rattle.std.proofs.Common.{inl, inr, ℕ, zero, suc, ◌+◌, ◌<◌, List, [], ◌∷◌, ◌++◌, length, take, get_or, refl, sym, ap, subst, ◌∙◌, arith, append-nil, append_assoc}
use Rattle.step_table.proofs.Common.{AreOf, AreRows, Item, ItemFirst, ItemRows, Out, Row, RowsOf, Rules, ScheduleFirst, ScheduleRows, SoMany, Take, World, length-append, take_more}

of_both : (thread : ℕ) (xs ys : List Row) → AreOf thread xs → AreOf thread ys → AreOf thread (xs ++ ys)
of_both thread [] ys p q = q
of_both thread (x ∷ xs) ys (e, p) q = (e, of_both thread xs ys p q)

module _ {P : Type 0} (rules : Rules P) where
  -- ## Events of one thread

  rows_both : (a b c : World P) (xs ys : List Row) → AreRows rules a xs b → AreRows rules b ys c → AreRows rules a (xs ++ ys) c
  rows_both a b c [] ys e r = subst (λ (w : World P). AreRows rules w ys c) e r
  rows_both a b c (x ∷ xs) ys (d, first, rest) r = (d, first, rows_both d b c xs ys rest r)

  pub none_of : (thread : ℕ) (w : World P) → RowsOf rules thread w [] w
  none_of thread w = record { leads = refl; mine = tt }

  pub both_of : (thread : ℕ) (a b c : World P) (xs ys : List Row) → RowsOf rules thread a xs b → RowsOf rules thread b ys c → RowsOf rules thread a (xs ++ ys) c
  both_of thread a b c xs ys p q = record { leads = rows_both a b c xs ys p.leads q.leads; mine = of_both thread xs ys p.mine q.mine }

  -- so many, and then so many more
  pub both_many : (thread n m : ℕ) (a b c : World P) (xs ys : List Row) → SoMany rules thread n a xs b → SoMany rules thread m b ys c → SoMany rules thread (n + m) a (xs ++ ys) c
  both_many thread n m a b c xs ys p q = (both_of thread a b c xs ys p.0 q.0, omega (arith, p.1, q.1, length-append xs ys))

  -- ## One item after the other

  schedule_append : (a b c : World P) (items more : List Item) (xs ys : List Row) → ScheduleRows rules items a xs b → ScheduleRows rules more b ys c → ScheduleRows rules (items ++ more) a (xs ++ ys) c
  schedule_append a b c [] more xs ys (none, same) r =
      subst (λ (l : List Row). ScheduleRows rules more a (l ++ ys) c) (sym none) (subst (λ (w : World P). ScheduleRows rules more w ys c) same r)
  schedule_append a b c (item ∷ items) more xs ys (d, first, later, all, one, rest) r =
      (d, first, later ++ ys, ap (λ (l : List Row). l ++ ys) all ∙ append_assoc first later ys, one, schedule_append d b c items more later ys rest r)

  pub schedule_none : (w : World P) (items : List Item) → ScheduleRows rules (take 0 items) w [] w
  schedule_none w items = (refl, refl)

  pub schedule_more : (a b c : World P) (items : List Item) (i : ℕ) (d : Item) (xs ys : List Row) → i < length items
      → ScheduleRows rules (take i items) a xs b → ItemRows rules (get_or items i d) b ys c → ScheduleRows rules (take (i + 1) items) a (xs ++ ys) c
  schedule_more a b c items i d xs ys h p q =
      subst (λ (l : List Item). ScheduleRows rules l a (xs ++ ys) c) (sym (take_more items i d h))
      (schedule_append a b c (take i items) (get_or items i d ∷ []) xs ys p (c, ys, [], sym (append-nil ys), q, (refl, refl)))

  -- ## Items that are begun

  item_unbegun : (w : World P) (item : Item) → ItemFirst rules item w [] w
  item_unbegun w (Take thread count) = (none_of thread w, omega arith)
  item_unbegun w (Out thread) = none_of thread w

  -- no event of theirs is taken
  pub schedule_unbegun : (w : World P) (items : List Item) → ScheduleFirst rules items w [] w
  schedule_unbegun w [] = (refl, refl)
  schedule_unbegun w (item ∷ items) = inl (item_unbegun w item)

  -- all of them are
  pub schedule_whole : (a b : World P) (items : List Item) (rows : List Row) → ScheduleRows rules items a rows b → ScheduleFirst rules items a rows b
  schedule_whole a b [] rows e = e
  schedule_whole a b (item ∷ items) rows (d, first, later, all, one, rest) = inr (d, first, later, all, one, schedule_whole d b items later rest)

  -- the first ones are done, and the next one is begun
  pub schedule_begun : (a b c : World P) (items : List Item) (i : ℕ) (d : Item) (xs ys : List Row) → i < length items
      → ScheduleRows rules (take i items) a xs b → ItemFirst rules (get_or items i d) b ys c → ScheduleFirst rules items a (xs ++ ys) c
  schedule_begun a b c [] i d xs ys h p q = absurd (omega arith)
  schedule_begun a b c (item ∷ items) zero d xs ys h (none, same) q =
      inl (subst (λ (l : List Row). ItemFirst rules item a (l ++ ys) c) (sym none) (subst (λ (w : World P). ItemFirst rules item w ys c) same q))
  schedule_begun a b c (item ∷ items) (suc i) d xs ys h (e, first, later, all, one, rest) q =
      inr (e, first, later ++ ys, ap (λ (l : List Row). l ++ ys) all ∙ append_assoc first later ys, one, schedule_begun e b c items i d later ys (omega arith) rest q)

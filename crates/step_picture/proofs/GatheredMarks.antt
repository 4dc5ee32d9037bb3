-- Marks of events, one after another.
use Rattle.std.proofs.Common.{◌≡◌, ℕ, ◌+◌, ◌<◌, Bool, true, List, [], ◌∷◌, ◌++◌, length, take, get_or, sym, ap, subst, ◌∙◌, append-nil, append_assoc, is_some}
use Rattle.step_picture.proofs.Common.{Gathered, Item, ItemFirst, ItemRows, Mark, Row, ScheduleFirst, ScheduleRows, Stopped, World, flat_map-append, schedule_begun, schedule_more, shows}
use Rattle.tx_player.specs.Rules.{Rules}
use Rattle.step_table.specs.declared.view.View.{View}
use Rattle.step_picture.specs.declared.mark.Came.{Came}
use Rattle.step_picture.specs.Marks.{calls_after, came_of, kept, marks_in, marks_of}

-- none yet
pub gathered_none : {P : Type 0} (view : View) (R : World P → List Row → World P → Type 0) (a : World P) (x : List Mark) → R a [] a → Gathered view R a a x x
gathered_none view R a x none = ([], none, sym (append-nil x))

module _ {P : Type 0} (view : View) (R : World P → List Row → World P → Type 0) (a b : World P) (row : Row) (x y : List Mark) (all : R a (row ∷ []) b) where
  -- that of one event
  pub gathered_one : (in_attempt : Bool) (calls : ℕ) (came : Came) → in_attempt ≡ is_some row.had → calls ≡ calls_after row.active → came ≡ came_of row.goes_on row.had row.calls row.ended row.active
      → y ≡ x ++ kept view (record { event = row.event; in_attempt = in_attempt; calls = calls; came = came }) → Gathered view R a b x y
  gathered_one in_attempt calls came e n f p = (
    row ∷ [],
    all,
    p ∙ (λ i. x ++ kept view (record { event = row.event; in_attempt = e i; calls = n i; came = f i }))
        ∙ ap (λ (l : List Mark). x ++ l) (sym (append-nil (marks_in view row))),
  )

  -- memory was refused for it
  pub stopped_one : shows view row.event ≡ true → y ≡ x → Stopped view R a b x y
  stopped_one shown same = ([], row, all, shown, same ∙ sym (append-nil x))

-- those of later events stand behind those of the ones before
marks_both : (view : View) (xs ys : List Row) (x y z : List Mark) → y ≡ x ++ marks_of view xs → z ≡ y ++ marks_of view ys → z ≡ x ++ marks_of view (xs ++ ys)
marks_both view xs ys x y z p q =
    q ∙ ap (λ (l : List Mark). l ++ marks_of view ys) p
    ∙ append_assoc x (marks_of view xs) (marks_of view ys)
    ∙ ap (λ (l : List Mark). x ++ l) (sym (flat_map-append (marks_in view) xs ys))

module _ {P : Type 0} (view : View) (R S T : World P → List Row → World P → Type 0) (a b c : World P) (x y z : List Mark) where
  -- some events, and then some more
  pub gathered_on : ((xs ys : List Row) → R a xs b → S b ys c → T a (xs ++ ys) c) → Gathered view R a b x y → Gathered view S b c y z → Gathered view T a c x z
  gathered_on join (xs, r, p) (ys, s, q) = (xs ++ ys, join xs ys r s, marks_both view xs ys x y z p q)

  -- memory was refused for one of those
  pub stopped_on : ((xs ys : List Row) → R a xs b → S b ys c → T a (xs ++ ys) c) → Gathered view R a b x y → Stopped view S b c y z → Stopped view T a c x z
  stopped_on join (xs, r, p) (ys, last, s, shown, q) =
      (xs ++ ys, last, subst (λ (l : List Row). T a l c) (sym (append_assoc xs ys (last ∷ []))) (join xs (ys ++ last ∷ []) r s), shown, marks_both view xs ys x y z p q)

module _ {P : Type 0} (rules : Rules P) (view : View) (a b c : World P) (x y z : List Mark) (items : List Item) (i : ℕ) (d : Item) (h : i < length items) where
  -- the next item
  pub item_gathered : Gathered view (ScheduleRows rules (take i items)) a b x y → Gathered view (ItemRows rules (get_or items i d)) b c y z → Gathered view (ScheduleRows rules (take (i + 1) items)) a c x z
  item_gathered p q =
      gathered_on view (ScheduleRows rules (take i items)) (ItemRows rules (get_or items i d)) (ScheduleRows rules (take (i + 1) items)) a b c x y z
      (λ xs ys r s. schedule_more rules a b c items i d xs ys h r s) p q

  -- memory was refused within it
  pub item_stopped : Gathered view (ScheduleRows rules (take i items)) a b x y → Stopped view (ItemFirst rules (get_or items i d)) b c y z → Stopped view (ScheduleFirst rules items) a c x z
  item_stopped p q =
      stopped_on view (ScheduleRows rules (take i items)) (ItemFirst rules (get_or items i d)) (ScheduleFirst rules items) a b c x y z
      (λ xs ys r s. schedule_begun rules a b c items i d xs ys h r s) p q

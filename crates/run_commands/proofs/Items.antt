-- Items of a schedule, one after the other, whole or begun.
use Rattle.std.proofs.Common.{inl, inr, ◌≡◌, ℕ, zero, suc, ◌+◌, ◌<◌, ◌≤◌, ◌-◌, false, List, [], ◌∷◌, ◌++◌, length, take, get_or, replicate, Option, None, Some, IsSome, Result, Err, refl, sym, ap, subst, ◌∙◌, arith, slice_get}
use Rattle.run_commands.proofs.Common.{AreOpaque, AreTied, CommitsInOrder, Goes, Item, ItemBegins, ItemLeads, ItemsBegin, ItemsLead, Leads, Out, Rules, Take, World, WorldFault, ending_at, goes_no_more, observed, replicate-append-replicate, take_more}
use Rattle.world_rules.specs.declared.actor.Status.{Status}
use Rattle.world_rules.specs.declared.actor.Status.TheVariants.{Ended as HasEnded}
use Rattle.world_rules.specs.declared.fault.WorldFault.TheVariants.{Ended}
use Rattle.world_rules.specs.Status.{ending_of, is_ready, is_waiting}
use Rattle.std.specs.Option.{option_and_then}
use Rattle.world_rules.specs.Actor.{Actor}

-- who has ended is there
pub ended_in : {P : Type 0} (o : Option (Actor P)) → IsSome (option_and_then (λ (a : Actor P). ending_of a.status) o) → (a : Actor P) × (o ≡ Some a) × IsSome (ending_of a.status)
ended_in None e = absurd (cc)
ended_in (Some a) e = (a, refl, e)

ended_still : (s : Status) → IsSome (ending_of s) → (is_waiting s ≡ false) × (is_ready s ≡ false)
ended_still (HasEnded end) e = (refl, refl)
ended_still s e = absurd (cc)

module _ {P : Type 0} (rules : Rules P) where
  abbrev pub IsLed : World P → List ℕ → World P → Type 0
  IsLed old schedule new = (results : List (Result (Unit {0}) WorldFault)) × Leads rules old schedule results new

  -- ## Events of one thread

  pub led_append : (old between new : World P) (xs ys : List ℕ) → IsLed old xs between → IsLed between ys new → IsLed old (xs ++ ys) new
  led_append old between new [] ys ([], e) l = subst (λ (w : World P). IsLed w ys new) e l
  led_append old between new [] ys (r ∷ rs, e) l = absurd e
  led_append old between new (x ∷ xs) ys ([], e) l = absurd e
  led_append old between new (x ∷ xs) ys (r ∷ rs, (next, goes, rest)) l =
      let after = led_append next between new xs ys (rs, rest) l in
      (r ∷ after.0, (next, goes, after.1))

  pub led_none : (w : World P) (thread : ℕ) → IsLed w (replicate 0 thread) w
  led_none w thread = ([], refl)

  -- one event more
  pub led_on : (old between new : World P) (thread i : ℕ) (result : Result (Unit {0}) WorldFault)
      → IsLed old (replicate i thread) between → Goes rules thread between result new → IsLed old (replicate (i + 1) thread) new
  led_on old between new thread i result l g =
      subst (λ (xs : List ℕ). IsLed old xs new) (replicate-append-replicate i 1 thread) (led_append old between new (replicate i thread) (replicate 1 thread) l (result ∷ [], (new, g, refl)))

  -- a thread that has ended is passed over
  passed_over : (w : World P) (thread n : ℕ) → Goes rules thread w (Err Ended) w → IsLed w (replicate n thread) w
  passed_over w thread zero g = ([], refl)
  passed_over w thread (suc n) g = let rest = passed_over w thread n g in (Err Ended ∷ rest.0, (w, g, rest.1))

  still_ended : (w : World P) (thread : ℕ) → CommitsInOrder w → AreOpaque rules (observed w) → AreTied rules w → IsSome (ending_at w thread) → Goes rules thread w (Err Ended) w
  still_ended w thread commits opaque tied ended =
      let there = ended_in (slice_get w.actors thread) ended in
      let rests = ended_still there.0.status there.2 in
      goes_no_more rules w thread commits opaque tied there.0 there.1 rests.0 rests.1

  -- it has ended after so many events, and the others are passed over
  pub led_to_end : (old w : World P) (thread i count : ℕ) → i ≤ count → IsLed old (replicate i thread) w
      → CommitsInOrder w → AreOpaque rules (observed w) → AreTied rules w → IsSome (ending_at w thread) → IsLed old (replicate count thread) w
  led_to_end old w thread i count h l commits opaque tied ended =
      let n : i + (count - i) ≡ count = omega arith in
      let whole = led_append old w w (replicate i thread) (replicate (count - i) thread) l (passed_over w thread (count - i) (still_ended w thread commits opaque tied ended)) in
      subst (λ (xs : List ℕ). IsLed old xs w) (replicate-append-replicate i (count - i) thread ∙ ap (λ (m : ℕ). replicate m thread) n) whole

  -- ## One item after the other

  items_append : (old between new : World P) (items more : List Item) → ItemsLead rules items old between → ItemsLead rules more between new → ItemsLead rules (items ++ more) old new
  items_append old between new [] more e l = subst (λ (w : World P). ItemsLead rules more w new) e l
  items_append old between new (item ∷ items) more (next, first, rest) l = (next, first, items_append next between new items more rest l)

  pub items_none : (w : World P) (items : List Item) → ItemsLead rules (take 0 items) w w
  items_none w items = refl

  pub items_more : (old between new : World P) (items : List Item) (i : ℕ) (d : Item) → i < length items
      → ItemsLead rules (take i items) old between → ItemLeads rules (get_or items i d) between new → ItemsLead rules (take (i + 1) items) old new
  items_more old between new items i d h l m =
      subst (λ (xs : List Item). ItemsLead rules xs old new) (sym (take_more items i d h)) (items_append old between new (take i items) (get_or items i d ∷ []) l (new, m, refl))

  -- ## Items that are begun

  item_unbegun : (w : World P) (item : Item) → ItemBegins rules item w w
  item_unbegun w (Take thread count) = (0, omega arith, [], refl)
  item_unbegun w (Out thread) = (0, refl)

  -- no event of theirs is taken
  pub items_unbegun : (w : World P) (items : List Item) → ItemsBegin rules items w w
  items_unbegun w [] = refl
  items_unbegun w (item ∷ items) = inl (item_unbegun w item)

  -- all of them are
  pub items_whole : (old new : World P) (items : List Item) → ItemsLead rules items old new → ItemsBegin rules items old new
  items_whole old new [] e = e
  items_whole old new (item ∷ items) (next, first, rest) = inr (next, first, items_whole next new items rest)

  -- the first ones are done, and the next one is begun
  pub items_begun : (old between new : World P) (items : List Item) (i : ℕ) (d : Item) → i < length items
      → ItemsLead rules (take i items) old between → ItemBegins rules (get_or items i d) between new → ItemsBegin rules items old new
  items_begun old between new [] i d h l b = absurd (omega arith)
  items_begun old between new (item ∷ items) zero d h l b = inl (subst (λ (w : World P). ItemBegins rules item w new) l b)
  items_begun old between new (item ∷ items) (suc i) d h (next, first, rest) b = inr (next, first, items_begun next between new items i d (omega arith) rest b)

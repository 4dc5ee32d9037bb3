-- What the items of a schedule are that were read.
use Rattle.std.proofs.Common.{◌≡◌, ℕ, ◌+◌, ◌-◌, ◌<◌, ◌≤◌, ltb, eqb, List, [], ◌∷◌, length, take, drop, get_or, replicate, Option, Some, None, Ok, arith, inl, inr, position, length-append}
use Rattle.script_print.proofs.Common.{AllByRecursion, IfOk, Item, MAX_EVENTS, MAX_ITEMS, Out, Schedule, Take, after_if, all_append, any_if, bind_if, both, both_if, choice_if, chosen, events, is_times, item_of, items_of, length-replicate, ltb-true, number, planned, schedule_of, stray_of, take_of, thread_number, thread_of, within, within_if, ⊤}
use Rattle.script_fields.specs.Operands.{◌>>=◌}
use Rattle.script_print.proofs.Printable.{IsItem}

-- an item of any thread
abbrev pub HasEvents : Item → Type 0
HasEvents (Take thread count) = (1 ≤ count) × (count ≤ MAX_EVENTS)
HasEvents (Out thread) = ⊤

-- ## Items that are read

events_if : (f : List ℕ) → IfOk (events f) (λ n. (1 ≤ n) × (n ≤ MAX_EVENTS))
unfolding events
events_if f = after_if (λ n. (1 ≤ n) × (n ≤ MAX_EVENTS)) (number f) (within 1 MAX_EVENTS) (λ n. within_if 1 MAX_EVENTS n (λ m. (1 ≤ m) × (m ≤ MAX_EVENTS)) (λ low high. (low, high)))

take_if : (f : List ℕ) (x : Option ℕ) → IfOk (take_of f x) HasEvents
take_if f None = tt
take_if f (Some k) =
    bind_if (λ x. ⊤ × ((1 ≤ x.1) × (x.1 ≤ MAX_EVENTS))) HasEvents (both (number (take k f)) (events (drop (k + 1) f))) (λ x. Ok (Take (thread_number x.0) x.1))
    (both_if (λ n. ⊤) (λ n. (1 ≤ n) × (n ≤ MAX_EVENTS)) (number (take k f)) (events (drop (k + 1) f)) (any_if (number (take k f))) (events_if (drop (k + 1) f))) (λ x h. h.1)

item_if : (f : List ℕ) → IfOk (item_of f) HasEvents
unfolding item_of
item_if f =
    let number_in = number (take (length f - 1) f) in
    choice_if HasEvents (eqb (get_or f (length f - 1) 0) 33) (number_in >>= λ t. Ok (Out (thread_number t))) (take_of f (position is_times f))
    (λ out. after_if HasEvents number_in (λ t. Ok (Out (thread_number t))) (λ t. tt)) (λ other. take_if f (position is_times f))

items_if : (fs : List (List ℕ)) → IfOk (items_of fs) (AllByRecursion HasEvents)
items_if [] = tt
items_if (f ∷ fs) =
    bind_if (λ x. HasEvents x.0 × AllByRecursion HasEvents x.1) (AllByRecursion HasEvents) (both (item_of f) (items_of fs)) (λ x. Ok (x.0 ∷ x.1))
    (both_if HasEvents (AllByRecursion HasEvents) (item_of f) (items_of fs) (item_if f) (items_if fs)) (λ x h. h)

pub schedule_if : (fs : List (List ℕ)) → IfOk (schedule_of fs) (AllByRecursion HasEvents)
unfolding schedule_of
schedule_if [] = tt
schedule_if (f ∷ fs) = items_if (f ∷ fs)

-- ## A schedule

-- what is kept of it: at most so many items, each with its line
pub record IsPlanned (p : Schedule) : Type 0 where
  pub few : length p.items ≤ MAX_ITEMS
  pub each : AllByRecursion HasEvents p.items
  pub in_lines : length p.items ≡ length p.lines

pub plans_more : (p : Schedule) (n : ℕ) (items : List Item) → IsPlanned p → AllByRecursion HasEvents items → length p.items + length items ≤ MAX_ITEMS → IsPlanned (planned p n items)
plans_more p n items h each few = record {
  few = omega (arith, length-append p.items items);
  each = all_append HasEvents p.items items h.each each;
  in_lines = omega (arith, length-append p.items items, length-append p.lines (replicate (length items) n), length-replicate {A = ℕ} (length items) n, h.in_lines);
}

item_of_thread : (n : ℕ) (i : Item) → thread_of i < n → HasEvents i → IsItem n i
item_of_thread n (Take thread count) h k = (h, k)
item_of_thread n (Out thread) h k = h

-- where none is stray, each is of a thread
pub none_stray : (n : ℕ) (items : List Item) (lines : List ℕ) → length items ≡ length lines → AllByRecursion HasEvents items → stray_of n items lines ≡ None → AllByRecursion (IsItem n) items
none_stray n [] lines same each e = tt
none_stray n (i ∷ items) [] same each e = absurd (omega arith)
none_stray n (i ∷ items) (line ∷ lines) same each e =
    elim (chosen (ltb (thread_of i) n) (stray_of n items lines) (Some line) None e) [
      | inl h ↦ (item_of_thread n i (ltb-true (thread_of i) n h.0) each.0, none_stray n items lines (omega arith) each.1 h.1)
      | inr h ↦ absurd cc
    ]

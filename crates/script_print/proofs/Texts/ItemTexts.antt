-- Items that are written are read as they were.
use Rattle.std.proofs.Common.{◌≡◌, ℕ, ◌+◌, ◌-◌, ◌^◌, ◌<◌, ◌≤◌, Bool, true, false, cond, eqb, ltb, leb, not, List, [], ◌∷◌, ◌++◌, length, drop, get_or, Some, None, Ok, refl, sym, ap, ◌∙◌, arith, append_assoc, length-append, position, decimal}
use Rattle.script_print.proofs.Common.{All-get_or, AllPass-from_list_all, IsField, Item, MAX_ACTORS, MAX_EVENTS, Out, Take, and_from, and_parts, decimal_field, digits_again, drop_at, events, first_place, get_or-append_seam, is_digit, is_field_byte, is_times, item_of, item_text, leb-true, list_all, list_all-weaker, lt-ltb, ne_eqb, not-true, not_from_false, number_again, position_or_len, schedule_of, take-append_seam, thread_number, within_again}
use Rattle.std.proofs.lemmas.List.Folds.{list_all-append}
use Rattle.script_print.proofs.Printable.{IsItem}

-- ## `TxK`

-- no `!`
abbrev is_plain : ℕ → Bool
is_plain b = not (eqb b 33)

digit_plain : (b : ℕ) → is_digit b ≡ true → is_plain b ≡ true
digit_plain b h =
    let low = leb-true 48 b (and_parts (leb 48 b) (leb b 57) h).0 in
    not_from_false (eqb b 33) (ne_eqb b 33 (λ e. omega arith))

digit_times : (b : ℕ) → is_digit b ≡ true → is_times b ≡ false
digit_times b h =
    let high = leb-true b 57 (and_parts (leb 48 b) (leb b 57) h).1 in
    ne_eqb b 120 (λ e. omega arith)

-- the first x comes after the digits before it
times_place : (ds more : List ℕ) → list_all is_digit ds ≡ true → position_or_len is_times (ds ++ 120 ∷ more) ≡ length ds
times_place [] more h = first_place is_times 120 more
times_place (d ∷ ds) more h =
    let parts = and_parts (is_digit d) (list_all is_digit ds) h in
    first_place is_times d (ds ++ 120 ∷ more) ∙ ap (λ (t : Bool). cond t 0 (1 + position_or_len is_times (ds ++ 120 ∷ more))) (digit_times d parts.0) ∙ omega (arith, times_place ds more parts.1)

times_found : (ds more : List ℕ) → list_all is_digit ds ≡ true → position is_times (ds ++ 120 ∷ more) ≡ Some (length ds)
times_found ds more h =
    let place = times_place ds more h in
    let within : length ds < length (ds ++ 120 ∷ more) = omega (arith, length-append ds (120 ∷ more)) in
    ap (λ (n : ℕ). cond (ltb n (length (ds ++ 120 ∷ more))) (Some n) None) place ∙ rw (lt-ltb (length ds) (length (ds ++ 120 ∷ more)) within) refl

-- what comes after it
after_times : (ds more : List ℕ) → drop (length ds + 1) (ds ++ 120 ∷ more) ≡ more
after_times ds more = ap (drop (length ds + 1)) (sym (append_assoc ds (120 ∷ []) more)) ∙ drop_at (ds ++ 120 ∷ []) more (length ds + 1) (length-append ds (120 ∷ []))

all_plain : (ds es : List ℕ) → list_all is_digit ds ≡ true → list_all is_digit es ≡ true → list_all is_plain (ds ++ 120 ∷ es) ≡ true
all_plain ds es h k = rw (list_all-append is_plain ds (120 ∷ es), list_all-weaker is_digit is_plain digit_plain ds h) (list_all-weaker is_digit is_plain digit_plain es k)

-- the last byte is no `!`
last_plain : (ds es : List ℕ) → list_all is_digit ds ≡ true → list_all is_digit es ≡ true → eqb (get_or (ds ++ 120 ∷ es) (length (ds ++ 120 ∷ es) - 1) 0) 33 ≡ false
last_plain ds es h k =
    let text = ds ++ 120 ∷ es in
    let last : is_plain (get_or text (length text - 1) 0) ≡ true = All-get_or (λ (b : ℕ). is_plain b ≡ true) text (length text - 1) 0 (omega (arith, length-append ds (120 ∷ es))) (AllPass-from_list_all is_plain text (all_plain ds es h k)) in
    not-true _ last

-- no thread is numbered 255 or more
thread_again : (n : ℕ) → n < MAX_ACTORS → thread_number n ≡ n
thread_again n h = omega arith

take_again : (thread count : ℕ) → thread < MAX_ACTORS → 1 ≤ count → count ≤ MAX_EVENTS → item_of (item_text (Take thread count)) ≡ Ok (Take thread count)
unfolding item_of events
take_again thread count few some most =
    let ds = decimal thread in
    let es = decimal count in
    let front = digits_again thread (omega arith) in
    let back = digits_again count (omega arith) in
    rw (last_plain ds es front back, times_found ds es front, take-append_seam ds (120 ∷ es), after_times ds es, number_again thread (omega arith), number_again count (omega arith))
    (rw (within_again 1 MAX_EVENTS count some most) (ap (λ (n : ℕ). Ok (Take n count)) (thread_again thread few)))

-- ## `T!`

out_again : (thread : ℕ) → thread < MAX_ACTORS → item_of (item_text (Out thread)) ≡ Ok (Out thread)
unfolding item_of
out_again thread few =
    let ds = decimal thread in
    let place : length (ds ++ 33 ∷ []) - 1 ≡ length ds = omega (arith, length-append ds (33 ∷ [])) in
    rw (place, get_or-append_seam ds 33 [] 0, take-append_seam ds (33 ∷ []), number_again thread (omega arith)) (ap (λ (n : ℕ). Ok (Out n)) (thread_again thread few))

-- ## Items

-- an item that is written is read as the item
pub item_again : (threads : ℕ) (i : Item) → threads ≤ MAX_ACTORS → IsItem threads i → item_of (item_text i) ≡ Ok i
item_again threads (Take thread count) few h = take_again thread count (omega (arith, h.0)) h.1.0 h.1.1
item_again threads (Out thread) few h = out_again thread (omega (arith, h))

pub schedule_again : (threads : ℕ) (i : Item) → threads ≤ MAX_ACTORS → IsItem threads i → schedule_of (item_text i ∷ []) ≡ Ok (i ∷ [])
unfolding schedule_of
schedule_again threads i few h = rw (item_again threads i few h) refl

-- digits, one byte after them, and more
marked_field : (n mark : ℕ) (more : List ℕ) → n < 2 ^ 64 → list_all is_field_byte (mark ∷ more) ≡ true → IsField (decimal n ++ mark ∷ more)
marked_field n mark more small h =
    (omega (arith, length-append (decimal n) (mark ∷ more)), list_all-append is_field_byte (decimal n) (mark ∷ more) ∙ and_from (list_all is_field_byte (decimal n)) (list_all is_field_byte (mark ∷ more)) (decimal_field n small).1 h)

pub item_field : (threads : ℕ) (i : Item) → threads ≤ MAX_ACTORS → IsItem threads i → IsField (item_text i)
item_field threads (Take thread count) few h = marked_field thread 120 (decimal count) (omega (arith, h.0)) (decimal_field count (omega (arith, h.1.1))).1
item_field threads (Out thread) few h = marked_field thread 33 [] (omega (arith, h)) refl

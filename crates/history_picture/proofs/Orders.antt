-- The order of seats, as they are sorted.
use Rattle.std.proofs.Common.{◌≡◌, ◌+◌, Bool, true, false, ◌&&◌, ◌||◌, cond, List, get_or, Ordering, Less, Equal, Greater, nat_cmp, is_lt, refl, sym, ap, ◌∙◌, ◌==◌, nat_lt, not}
use Rattle.history_picture.proofs.Common.{IsSortedBy, Seat, comes_before}
use Rattle.std.specs.Ordering.{bool_cmp, ordering_then}

by_number : (lt eq : Bool) (o : Ordering) → is_lt (ordering_then (cond lt Less (cond eq Equal Greater)) o) ≡ (lt || (eq && is_lt o))
by_number true eq o = refl
by_number false true o = refl
by_number false false o = refl

at_last : (lt eq : Bool) → is_lt (cond lt Less (cond eq Equal Greater)) ≡ lt
at_last true eq = refl
at_last false true = refl
at_last false false = refl

by_flag : (c d : Bool) (o : Ordering) (lt : Bool) → is_lt o ≡ lt → is_lt (ordering_then (bool_cmp c d) o) ≡ ((not c && d) || (not (c && not d) && lt))
by_flag true true o lt e = e
by_flag true false o lt e = refl
by_flag false true o lt e = refl
by_flag false false o lt e = e

abbrev pub seat_cmp : Seat → Seat → Ordering
seat_cmp x y = ordering_then (nat_cmp x.at y.at) (ordering_then (bool_cmp x.committed y.committed) (nat_cmp x.place y.place))

same_order : (x y : Seat) → is_lt (seat_cmp x y) ≡ comes_before x y
same_order x y =
    by_number (nat_lt x.at y.at) (x.at == y.at) (ordering_then (bool_cmp x.committed y.committed) (nat_cmp x.place y.place))
    ∙ ap (λ (b : Bool). nat_lt x.at y.at || ((x.at == y.at) && b)) (by_flag x.committed y.committed (nat_cmp x.place y.place) (nat_lt x.place y.place) (at_last (nat_lt x.place y.place) (x.place == y.place)))

pub seats_sorted : (seats : List Seat) → IsSortedBy (λ (x : Seat) (y : Seat). is_lt (seat_cmp x y)) seats → IsSortedBy comes_before seats
seats_sorted seats s k d low high = sym (same_order (get_or seats (k + 1) d) (get_or seats k d)) ∙ s k d low high

-- Seats, one after the other.
use Rattle.std.proofs.Common.{◌≡◌, ℕ, zero, suc, ◌+◌, ◌<◌, ◌≤◌, List, [], ◌∷◌, ◌++◌, length, take, get_or, sym, ap, ◌∙◌, arith, add-one}
use Rattle.history_picture.proofs.Common.{Attempt, Seat, seat_of, seats_from}
use Rattle.std.proofs.lemmas.Grind.{common_steps}

seated : (n : ℕ) (xs : List Attempt) (i : ℕ) (d : Attempt) → i < length xs → seats_from n (take (suc i) xs) ≡ seats_from n (take i xs) ++ seat_of (n + i) (get_or xs i d) ∷ []
seated n [] i d h = absurd (omega (arith, h))
seated n (x ∷ xs) zero d h = (let at : n + 0 ≡ n = omega arith in ap (λ (m : ℕ). seat_of m x ∷ []) (sym at))
seated n (x ∷ xs) (suc i) d h =
    let at : suc n + i ≡ n + suc i = omega arith in
    ap (λ (l : List Seat). seat_of n x ∷ l) (seated (suc n) xs i d (omega (arith, h)) ∙ ap (λ (m : ℕ). seats_from (suc n) (take i xs) ++ seat_of m (get_or xs i d) ∷ []) at)

pub seated_more : (xs : List Attempt) (seats more : List Seat) (i : ℕ) (d : Attempt) (s : Seat) → i < length xs → seats ≡ seats_from 0 (take i xs) → s ≡ seat_of i (get_or xs i d) → more ≡ seats ++ s ∷ [] → more ≡ seats_from 0 (take (i + 1) xs)
seated_more xs seats more i d s h e f g =
    let at : 0 + i ≡ i = omega arith in
    g ∙ ap (λ (l : List Seat). l ++ s ∷ []) e ∙ ap (λ (t : Seat). seats_from 0 (take i xs) ++ t ∷ []) f
    ∙ ap (λ (n : ℕ). seats_from 0 (take i xs) ++ seat_of n (get_or xs i d) ∷ []) (sym at)
    ∙ sym (seated 0 xs i d h) ∙ ap (λ (n : ℕ). seats_from 0 (take n xs)) (sym (add-one i))

pub seated_all : (xs : List Attempt) (seats : List Seat) (i : ℕ) → length xs ≤ i → seats ≡ seats_from 0 (take i xs) → seats ≡ seats_from 0 xs
seated_all xs seats i h e = (let past : take i xs ≡ xs = grind (arith, common_steps) in e ∙ ap (seats_from 0) past)

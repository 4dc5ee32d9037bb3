-- The order in which attempts are drawn: by how many commits they saw; the one that is the next commit comes last among these.
use Rattle.std.specs.Prelude.{ℕ, suc, ◌&&◌, ◌||◌, ◌==◌, not, nat_lt, Bool, List, [], ◌∷◌}
use Rattle.std.specs.List.Sorted.{IsPermutation, IsSortedBy}
use Rattle.tx_attempts.specs.declared.attempt.Attempt.{Attempt}
use Rattle.tx_attempts.specs.Attempts.{is_committed}
use Rattle.history_picture.specs.declared.seats.Seat.{Seat}

abbrev pub seat_of : ℕ → Attempt → Seat
seat_of place a = record { at = a.at; committed = is_committed a.outcome; place = place }

-- those of attempts, of which the first has this place
abbrev pub seats_from : ℕ → List Attempt → List Seat
seats_from place [] = []
seats_from place (a ∷ rest) = seat_of place a ∷ seats_from (suc place) rest

-- it stands further to the left
abbrev pub comes_before : Seat → Seat → Bool
comes_before x y = nat_lt x.at y.at || ((x.at == y.at) && ((not x.committed && y.committed) || (not (x.committed && not y.committed) && nat_lt x.place y.place)))

-- each attempt has one seat, and no one stands further to the left than the one before
pub record InOrder (attempts : List Attempt) (seats : List Seat) : Type 0 where
  pub each : IsPermutation (seats_from 0 attempts) seats
  pub sorted : IsSortedBy comes_before seats

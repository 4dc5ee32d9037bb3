-- What holds of each element of a list, where lists are put together.
use Rattle.std.proofs.Common.{ℕ, zero, suc, List, ◌++◌, take, drop}
use Rattle.script_print.proofs.Common.{AllByRecursion, all_append, all_parts, repeat}

all_repeat : {X : Type 0} (P : X → Type 0) (n : ℕ) (xs : List X) → AllByRecursion P xs → AllByRecursion P (repeat n xs)
all_repeat P zero xs h = tt
all_repeat P (suc n) xs h = all_append P xs (repeat n xs) h (all_repeat P n xs h)

-- also where what stands from a place on stands so many times
pub all_again : {X : Type 0} (P : X → Type 0) (xs : List X) (start times : ℕ) → AllByRecursion P xs → AllByRecursion P (take start xs ++ repeat times (drop start xs))
all_again P xs start times h =
    let parts = all_parts P start xs h in
    all_append P (take start xs) (repeat times (drop start xs)) parts.0 (all_repeat P times (drop start xs) parts.1)

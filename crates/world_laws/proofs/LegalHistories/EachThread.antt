-- What is so of each thread's attempts is so of all.
use Rattle.std.proofs.Common.{ℕ, ◌<◌, ◌==◌, Bool, true, false, if◌then◌else◌, All, List, [], ◌∷◌, refl, subst, eq-eqb}
use Rattle.world_laws.proofs.Common.{All-cons, All-head, All-nil, All-tail, AreOfActors, Attempt, of_thread}

pub of_threads : (Q : Attempt → Type 0) (n : ℕ) (xs : List Attempt) → AreOfActors n xs → ((thread : ℕ) → thread < n → All Q (of_thread thread xs)) → All Q xs
of_threads Q n [] of each = All-nil Q
of_threads Q n (x ∷ xs) of each = All-cons Q x xs first (of_threads Q n xs of.1 later)
  where
    first : Q x
    first = All-head Q x (of_thread x.thread xs) (subst (λ (b : Bool). All Q (if b then x ∷ of_thread x.thread xs else of_thread x.thread xs)) (eq-eqb x.thread x.thread refl) (each x.thread of.0))

    without : (thread : ℕ) (b : Bool) → All Q (if b then x ∷ of_thread thread xs else of_thread thread xs) → All Q (of_thread thread xs)
    without thread true h = All-tail Q x (of_thread thread xs) h
    without thread false h = h

    later : (thread : ℕ) → thread < n → All Q (of_thread thread xs)
    later thread l = without thread (x.thread == thread) (each thread l)

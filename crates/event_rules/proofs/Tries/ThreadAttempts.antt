-- Of all attempts those of one thread, the open attempts of actors, and the actors that attempts are of.
use Rattle.std.proofs.Common.{◌≡◌, ℕ, zero, suc, ◌+◌, ◌<◌, ◌≤◌, List, [], ◌∷◌, ◌++◌, Option, None, Some, slice_get, refl, sym, ap, subst, ◌∙◌, arith, eq-eqb, if◌then◌else◌, Bool}
use Rattle.event_rules.proofs.Common.{Actor, AllOf, AreActors, AreFrom, AreOfActors, AreOpen, AreUnfinished, Attempt, Cells, Rows, Rules, active_of, ne_eqb, of_thread, opens, row_is_of, row_unfinished, same_Some, with_open}

-- ## The attempts of one thread

-- of another one's attempts none
pub of_thread_none : (thread other : ℕ) (xs : List Attempt) → AllOf other xs → (other ≡ thread → ⊥) → of_thread thread xs ≡ []
of_thread_none thread other [] all apart = refl
of_thread_none thread other (x ∷ xs) all apart = (let no = ne_eqb x.thread thread (λ same. apart (sym all.0 ∙ same)) in simp no (of_thread_none thread other xs all.1 apart))

-- ## Open attempts

-- these actors stand at their places, the first of them at this one
abbrev pub StandFrom : {P : Type 0} → ℕ → List (Actor P) → Type 0
StandFrom n [] = Unit {0}
StandFrom n (a ∷ rest) = ((row : Attempt) → active_of a ≡ Some row → row.thread ≡ n) × StandFrom (n + 1) rest

pub from_less : (s t : ℕ) (xs : List Attempt) → s ≤ t → AreFrom t xs → AreFrom s xs
from_less s t [] le from = tt
from_less s t (a ∷ xs) le from = (let h = from.0 in omega arith, from.1)

from_with : (n : ℕ) (xs : List Attempt) → AreFrom (n + 1) xs → (o : Option Attempt) → ((row : Attempt) → o ≡ Some row → row.thread ≡ n) → AreFrom n (with_open o xs)
from_with n xs later None mine = from_less n (n + 1) xs (omega arith) later
from_with n xs later (Some row) mine = (let same = mine row refl in (omega arith, subst (λ (k : ℕ). AreFrom (k + 1) xs) (sym same) later))

each_with : (R : List Attempt → Type 0) (xs : List Attempt) → R xs → (o : Option Attempt) → ((row : Attempt) → o ≡ Some row → R (row ∷ xs)) → R (with_open o xs)
each_with R xs later None here = later
each_with R xs later (Some row) here = here row refl

-- of another thread none is put before them
other_with : (thread n : ℕ) (xs : List Attempt) → (n ≡ thread → ⊥) → (o : Option Attempt) → ((row : Attempt) → o ≡ Some row → row.thread ≡ n) → of_thread thread (with_open o xs) ≡ of_thread thread xs
other_with thread n xs apart None mine = refl
other_with thread n xs apart (Some row) mine = ap (λ (b : Bool). if b then row ∷ of_thread thread xs else of_thread thread xs) (ne_eqb row.thread thread (λ e. apart (sym (mine row refl) ∙ e)))

own_with : (thread n : ℕ) (xs : List Attempt) → of_thread thread xs ≡ [] → n ≡ thread → (o : Option Attempt) → ((row : Attempt) → o ≡ Some row → row.thread ≡ n) → of_thread thread (with_open o xs) ≡ with_open o []
own_with thread n xs none same None mine = none
own_with thread n xs none same (Some row) mine =
    ap (λ (b : Bool). if b then row ∷ of_thread thread xs else of_thread thread xs) (eq-eqb row.thread thread (mine row refl ∙ same)) ∙ ap (λ (ys : List Attempt). row ∷ ys) none

module _ {P : Type 0} where
  -- their open attempts are by actor
  pub opens_from : (n : ℕ) (actors : List (Actor P)) → StandFrom n actors → AreFrom n (opens actors)
  opens_from n [] at = tt
  opens_from n (a ∷ rest) at = from_with n (opens rest) (opens_from (n + 1) rest at.1) (active_of a) at.0

  -- each of them is one of an actor: what such a one keeps true of those after it is true of all
  pub opens_each : (R : List Attempt → Type 0) → R [] → (actors : List (Actor P)) → ((place : ℕ) (a : Actor P) (row : Attempt) → slice_get actors place ≡ Some a → active_of a ≡ Some row → (xs : List Attempt) → R xs → R (row ∷ xs)) → R (opens actors)
  opens_each R none [] each = none
  opens_each R none (a ∷ rest) each = (let later = opens_each R none rest (λ place. each (suc place)) in each_with R (opens rest) later (active_of a) (λ row e. each 0 a row refl e (opens rest) later))

  -- where no actor has one there is none
  pub opens_none : (actors : List (Actor P)) → ((place : ℕ) (a : Actor P) → slice_get actors place ≡ Some a → active_of a ≡ None) → opens actors ≡ []
  opens_none [] none = refl
  opens_none (a ∷ rest) none = ap (λ (o : Option Attempt). with_open o (opens rest)) (none 0 a refl) ∙ opens_none rest (λ place. none (suc place))

  -- those of later actors are not of this thread
  opens_past : (thread n : ℕ) (actors : List (Actor P)) → thread < n → StandFrom n actors → of_thread thread (opens actors) ≡ []
  opens_past thread n [] l at = refl
  opens_past thread n (a ∷ rest) l at = other_with thread n (opens rest) (λ e. absurd (omega arith)) (active_of a) at.0 ∙ opens_past thread (n + 1) rest (omega arith) at.1

  -- of one thread the one of its actor
  pub opens_of : (n place thread : ℕ) (actors : List (Actor P)) (a : Actor P) → StandFrom n actors → slice_get actors place ≡ Some a → thread ≡ n + place → of_thread thread (opens actors) ≡ with_open (active_of a) []
  opens_of n place thread [] a at e here = absurd (cc)
  opens_of n zero thread (x ∷ rest) a at e here =
      let same : x ≡ a = same_Some _ _ e in
      own_with thread n (opens rest) (opens_past thread (n + 1) rest (omega arith) at.1) (omega arith) (active_of x) at.0 ∙ ap (λ (b : Actor P). with_open (active_of b) []) same
  opens_of n (suc place) thread (x ∷ rest) a at e here = other_with thread n (opens rest) (λ f. absurd (omega arith)) (active_of x) at.0 ∙ opens_of (n + 1) place thread rest a at.1 e (omega arith)

-- ## In a world

stand_later : {P : Type 0} (n : ℕ) (actors : List (Actor P)) → ((place : ℕ) (a : Actor P) (row : Attempt) → slice_get actors place ≡ Some a → active_of a ≡ Some row → row.thread ≡ n + place) → StandFrom n actors
stand_later n [] each = tt
stand_later n (a ∷ rest) each = (
  λ row e. (let same = each 0 a row refl e in omega arith),
  stand_later (n + 1) rest (λ place b row f e. (let same = each (suc place) b row f e in omega arith)),
)

module _ {P : Type 0} {rules : Rules P} {cells : Cells} {r : Rows} {actors : List (Actor P)} (s : AreActors rules cells r actors) where
  pub row_there : (place : ℕ) (a : Actor P) (row : Attempt) → slice_get actors place ≡ Some a → active_of a ≡ Some row → row.thread ≡ place
  row_there place a row e here = (let x = s.each place a e in row_is_of _ a row x.sound.kept.row here ∙ x.thread)

  pub stand_there : StandFrom 0 actors
  stand_there = stand_later 0 actors (λ place a row e here. (let same = row_there place a row e here in omega arith))

  -- the open attempts are by actor, and have not ended
  pub are_open : AreOpen (opens actors)
  are_open = record {
    by_actor = opens_from 0 actors stand_there;
    unfinished = opens_each AreUnfinished tt actors (λ place a row e here xs rest. (row_unfinished _ a row (s.each place a e).sound.kept.row here, rest));
  }

-- ## The actors of attempts

pub of_actors_both : (n : ℕ) (xs ys : List Attempt) → AreOfActors n xs → AreOfActors n ys → AreOfActors n (xs ++ ys)
of_actors_both n [] ys f g = g
of_actors_both n (x ∷ xs) ys f g = (f.0, of_actors_both n xs ys f.1 g)

pub of_actors_all : (n thread : ℕ) (xs : List Attempt) → thread < n → AllOf thread xs → AreOfActors n xs
of_actors_all n thread [] l all = tt
of_actors_all n thread (x ∷ xs) l all = ((let same = all.0 in omega arith), of_actors_all n thread xs l all.1)

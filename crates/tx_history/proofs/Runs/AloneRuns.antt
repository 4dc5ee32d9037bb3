-- Every attempt of a player's run is one alone on the memory of its position.
use Rattle.std.proofs.Common.{◌≡◌, ℕ, zero, suc, ◌≤◌, Bool, true, false, not, ◌&&◌, ◌||◌, is_none, if◌then◌else◌, All, List, [], ◌∷◌, Option, None, Some, refl, ap, subst, ◌∙◌}
use Rattle.tx_history.proofs.Common.{All-cons, All-nil, Attempt, Begin, Beginning, Between, Call, IsAlone, IsRunOf, IsTryAt, NoIrrevocable, Rules, after, after_try, begin_of, begin_within, may_begin, or_else, outside, Props, refusal, reply, unless}
use Rattle.itm_types.specs.declared.call.Refusal.{Refusal}
use Rattle.tx_history.proofs.Runs.AloneCalls.{is_alone}

-- ## Begins

-- a begin that goes irrevocable where its block forbids that is refused
by_flags : (goes forbids : Bool) (later : Option Refusal) → is_none (or_else (or_else (unless (not (goes && (forbids || false))) NoIrrevocable) later) None) ≡ true → not (goes && forbids) ≡ true
by_flags true true later e = absurd (cc)
by_flags true false later e = refl
by_flags false forbids later e = refl

-- what holds of each arena between blocks, and of a beginning with such an arena, holds of the beginning that is found
module _ {P : Type 0} (rules : Rules P) (deepest : ℕ) (K : List ℕ → Type 0) (R : Beginning P → Type 0)
    (keeps : (arena : List ℕ) (call : Call) → K arena → K (after deepest (outside [] arena) call).arena)
    (begins : (p : P) (arena : List ℕ) (props : Props) (room : ℕ) → K arena → is_none (refusal deepest (outside [] arena) (Begin props room)) ≡ true → R (record { player = p; arena = arena; props = props })) where
  pub begun_so : (n : ℕ) (p : P) (arena : List ℕ) (o : Option Call) (start : Beginning P) → K arena → begin_within rules deepest n p arena o ≡ Some start → R start
  begun_so zero p arena o start k e = absurd (cc)
  begun_so (suc n) p arena None start k e = absurd (cc)
  begun_so (suc n) p arena (Some (Begin props room)) start k e = by_test (λ f. begun_so n q arena (rules.next_call q) start k f) (is_none (refusal deepest (outside [] arena) (Begin props room))) refl e
    where
      q : P
      q = rules.answered p (reply deepest (outside [] arena) (Begin props room))

      by_test : (begin_within rules deepest n q arena (rules.next_call q) ≡ Some start → R start) → (b : Bool) → is_none (refusal deepest (outside [] arena) (Begin props room)) ≡ b
          → (if b then Some (record { player = p; arena = arena; props = props }) else begin_within rules deepest n q arena (rules.next_call q)) ≡ Some start → R start
      by_test later true t f = (let same : record { player = p; arena = arena; props = props } ≡ start = cc in subst R same (begins p arena props room k t))
      by_test later false t f = later f
  begun_so (suc n) p arena (Some call) start k e =
      (let q = rules.answered p (reply deepest (outside [] arena) call) in begun_so n q (after deepest (outside [] arena) call).arena (rules.next_call q) start (keeps arena call k) e)

-- ## Runs

module _ {P : Type 0} (rules : Rules P) (deepest n : ℕ) (memory : ℕ → List ℕ) where
  -- it is alone on the memory of its position, which is one of these
  abbrev pub IsPlaced : Attempt → Type 0
  IsPlaced a = IsAlone deepest (memory a.at) a × (a.at ≤ n)

  of_try : (b : Between P) (o : Option (Beginning P)) (a : Attempt) → begin_of rules deepest b.player b.arena ≡ o → IsTryAt rules deepest n memory b o a → IsPlaced a
  of_try b None a e t = absurd t
  of_try b (Some start) a e t = (
    is_alone rules deepest _ a n (memory a.at) t.3
        (ap may_begin t.1 ∙ begun_so rules deepest (λ arena. Unit {0}) (λ begun. may_begin begun.props ≡ true) (λ arena call k. tt) (λ p arena props room k free. by_flags props.goes_irrevocable props.no_irrevocable _ free)
        (rules.calls_left b.player) b.player b.arena (rules.next_call b.player) start tt e),
    t.3.no_newer,
  )

  pub of_run : (b : Option (Between P)) (xs : List Attempt) → IsRunOf rules deepest n memory b xs → All IsPlaced xs
  of_run b [] h = All-nil IsPlaced
  of_run None (a ∷ rest) h = absurd h
  of_run (Some b) (a ∷ rest) h = All-cons IsPlaced a rest (of_try b _ a refl h.0) (of_run (after_try rules deepest memory b (begin_of rules deepest b.player b.arena) a) rest h.1)

-- What a player's run has in common: its attempts have the player's arena, are numbered from 1, and make the calls that the player makes.
use Rattle.std.proofs.Common.{◌≡◌, ℕ, ◌≤◌, All, List, [], ◌∷◌, length, Option, None, Some, refl, ap, subst, ◌∙◌, arith, IfSome}
use Rattle.tx_history.proofs.Common.{All-cons, All-nil, AreAgain, Attempt, Beginning, Between, Call, CallRecord, Conflict, Full, IsRunOf, IsTryAt, NoMemory, Outcome, Rules, State, Unfinished, after_try, alone, begin_code, begin_of, follows, outside}
use Rattle.std.proofs.lemmas.List.Elements.{All-weaker}
use Rattle.tx_history.proofs.PlainSizes.{IsSized, from_whole, sized_after, sized_alone, sized_undone}
use Rattle.tx_history.proofs.Runs.AloneCalls.{IsAsked, calls_told}
use Rattle.tx_history.proofs.Runs.AloneRuns.{begun_so}

-- the attempt has an arena of so many bytes, and each of its calls is one of these
pub record IsOwn (Q : Call → Type 0) (k : ℕ) (a : Attempt) : Type 0 where
  pub arena : length a.arena ≡ k
  pub nth : 1 ≤ a.nth
  pub calls : All (λ (x : CallRecord). Q x.call) a.calls.list

module _ {P : Type 0} (rules : Rules P) (Q : Call → Type 0) (made : (p : P) (c : Call) → rules.next_call p ≡ Some c → Q c) (deepest k n : ℕ) (memory : ℕ → List ℕ) where
  own_try : (b : Between P) (o : Option (Beginning P)) (a : Attempt) → length b.arena ≡ k → begin_of rules deepest b.player b.arena ≡ o → IsTryAt rules deepest n memory b o a → IsOwn Q k a
  own_try b None a l e t = absurd t
  own_try b (Some start) a l e t = record {
    arena = ap (length {A = ℕ}) t.0 ∙ begun_so rules deepest (λ arena. length arena ≡ k) (λ begun. length begun.arena ≡ k)
        (λ arena call size. (sized_after 0 (λ i. i ≡ k) deepest (outside [] arena) call (record { memory = refl; arena = size; back = tt })).arena) (λ p arena props room size free. size)
        (rules.calls_left b.player) b.player b.arena (rules.next_call b.player) start l e;
    nth = (let later = t.2 in omega arith);
    calls = All-weaker (IsAsked rules.next_call rules.answered rules.calls_left deepest) (λ (x : CallRecord). Q x.call) (λ x asked. made asked.0 x.call asked.1) a.calls.list (calls_told rules deepest (rules.answered start.player (begin_code b.again)) a n (memory a.at) t.3).2;
  }

  follows_sized : (o : Outcome) (p : P) (a : Attempt) (s : State) (m : ℕ) → IsSized m (λ i. i ≡ k) s → IfSome (follows rules deepest o p a s) (λ (b : Between P). length b.arena ≡ k)
  follows_sized Conflict p a s m h = (sized_undone m (λ i. i ≡ k) s h).arena
  follows_sized Full p a s m h = tt
  follows_sized NoMemory p a s m h = tt
  follows_sized Unfinished p a s m h = tt
  follows_sized o p a s m h = h.arena

  after_sized : (b : Between P) (o : Option (Beginning P)) (a : Attempt) → length a.arena ≡ k → IsTryAt rules deepest n memory b o a → IfSome (after_try rules deepest memory b o a) (λ (b : Between P). length b.arena ≡ k)
  after_sized b None a l t = tt
  after_sized b (Some start) a l t =
      let again : AreAgain k 0 a.calls.list a.restarts = subst (λ (i : ℕ). AreAgain i 0 a.calls.list a.restarts) l t.3.again.stand in
      follows_sized a.outcome (rules.answered start.player (begin_code b.again)) a (alone deepest (memory a.at) a) (length (memory a.at))
      (sized_alone (length (memory a.at)) (λ i. i ≡ k) deepest (memory a.at) a refl l (from_whole k 0 a.calls.list a.restarts again))

  pub own_run : (b : Option (Between P)) (xs : List Attempt) → IfSome b (λ (b : Between P). length b.arena ≡ k) → IsRunOf rules deepest n memory b xs → All (IsOwn Q k) xs
  own_run b [] l h = All-nil (IsOwn Q k)
  own_run None (a ∷ rest) l h = absurd h
  own_run (Some b) (a ∷ rest) l h =
      let own : IsOwn Q k a = own_try b _ a l refl h.0 in
      All-cons (IsOwn Q k) a rest own (own_run (after_try rules deepest memory b (begin_of rules deepest b.player b.arena) a) rest (after_sized b _ a own.arena h.0) h.1)

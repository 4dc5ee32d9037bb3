-- Reads, writes and commits of the plain machine.
use Rattle.std.proofs.Common.{◌≡◌, ℕ, false, true, true≢false, List, [], ◌∷◌, ◌++◌, Option, None, Some, ap, refl, subst, sym}
use Rattle.tx_map.proofs.Common.{Calls, Commit, Deed, Done, Goes, R, Read, State, TakesBack, U8, W, Write, after, after_unless, bytes_of_number, bytes_reply, calls_of, closed, number, or_true, refusal, replies, replies_of, slice, state_after, with_slice, written}
use Rattle.itm_types.specs.declared.call.Refusal.{Refusal}
use Rattle.transactions.proofs.FirstReplies.{done_by, first_of, read_by, rest_of}

-- deeds, and more after them
pub record Parts (d : ℕ) (s : State) (xs ys : List Deed) : Type 0 where
  pub first : replies_of xs ≡ replies d s (calls_of xs)
  pub second : replies_of ys ≡ replies d (state_after d s (calls_of xs)) (calls_of ys)
  pub state : state_after d s (calls_of (xs ++ ys)) ≡ state_after d (state_after d s (calls_of xs)) (calls_of ys)

pub parted : (d : ℕ) (s : State) (xs ys : List Deed) → replies_of (xs ++ ys) ≡ replies d s (calls_of (xs ++ ys)) → Parts d s xs ys
parted d s [] ys e = record { first = refl; second = e; state = refl }
parted d s (Calls call r ∷ xs) ys e =
    let inner = parted d (after d s call) xs ys (ap rest_of e) in
    record { first = λ i. first_of Done (e i) ∷ inner.first i; second = inner.second; state = inner.state }
parted d s (TakesBack gone ∷ xs) ys e =
    let inner = parted d s xs ys e in
    record { first = inner.first; second = inner.second; state = inner.state }

pub goes_nowhere : (So : List ℕ → List ℕ → Type 0) (s t : State) → t ≡ s → So s.memory s.memory → Goes false So s t
goes_nowhere So s t e so = subst (λ (u : State). Goes false So s u) (sym e) (record { so = so; wrote = refl; still = λ w. refl })

module _ (d : ℕ) (s : State) (at : ℕ) where
  pub goes_by_read : (xs : List ℕ) → bytes_reply xs ∷ [] ≡ replies d s (Read R U8 at ∷ []) → Goes false (λ old new. (new ≡ old) × (slice old at 8 ≡ xs)) s (state_after d s (Read R U8 at ∷ []))
  goes_by_read xs e =
      let by = read_by (refusal d s (Read R U8 at)) xs (slice s.memory at 8) s (ap (first_of Done) e) in
      goes_nowhere (λ old new. (new ≡ old) × (slice old at 8 ≡ xs)) s (state_after d s (Read R U8 at ∷ [])) by.1 (refl, by.0)

  pub goes_by_write : (n : ℕ) → Done ∷ [] ≡ replies d s (Write W at (number n) ∷ []) → Goes true (λ old new. new ≡ with_slice old at (bytes_of_number n)) s (state_after d s (Write W at (number n) ∷ []))
  goes_by_write n e =
      let by = done_by Done (refusal d s (Write W at (number n))) s (written s at (bytes_of_number n)) tt (ap (first_of Done) e) in
      subst (λ (u : State). Goes true (λ old new. new ≡ with_slice old at (bytes_of_number n)) s u) (sym by) (record { so = refl; wrote = or_true s.wrote; still = λ w. absurd (true≢false w) })

module _ (d : ℕ) (s : State) where
  pub committed_memory : (after d s Commit).memory ≡ s.memory
  committed_memory = by (refusal d s Commit)
    where
      by : (o : Option Refusal) → (after_unless o s (closed s)).memory ≡ s.memory
      by None = refl
      by (Some why) = refl

  pub committed_wrote : (after d s Commit).wrote ≡ s.wrote
  committed_wrote = by (refusal d s Commit)
    where
      by : (o : Option Refusal) → (after_unless o s (closed s)).wrote ≡ s.wrote
      by None = refl
      by (Some why) = refl

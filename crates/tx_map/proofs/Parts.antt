-- Parts of a transaction, one after the other.
use Rattle.std.proofs.Common.{◌≡◌, ◌∙◌, ◌||◌, ℕ, ◌+◌, ◌*◌, ◌/◌, ◌^◌, ◌<◌, Bool, false, true, true≢false, List, [], ◌∷◌, ◌++◌, Result, Ok, Err, ap, refl, subst, sym, arith}
use Rattle.tx_map.proofs.Common.{Calls, Does, Done, Goes, R, Read, Standing, State, U8, W, Words, Write, answer_to_read, answer_to_write, bytes_of_number, bytes_reply, calls_of, number, pair_of, slice, state_after, to_le_bytes, w64, with_slice}
use Rattle.call_rules.specs.CallResults.{Tells}
use Rattle.itm_runtime.specs.declared.stop.Stop.{Stop}
use Rattle.transactions.proofs.Deeds.{makes_then}
use Rattle.typed_cells.specs.Reads.{read_as}
use Rattle.tx_map.{proofs.Bytes.pair_read, proofs.Finds.Reads, proofs.Machines.goes_by_read, proofs.Machines.goes_by_write, proofs.Machines.parted}

pub goes_weaker : (a : Bool) (So Then : List ℕ → List ℕ → Type 0) (s t : State) → ((m n : List ℕ) → So m n → Then m n) → Goes a So s t → Goes a Then s t
goes_weaker a So Then s t by g = record { so = by s.memory t.memory g.so; wrote = g.wrote; still = g.still }

wrote_on : (a b s t u : Bool) → t ≡ (a || s) → u ≡ (b || t) → u ≡ ((a || b) || s)
wrote_on true true s t u g h = h
wrote_on true false s t u g h = h ∙ g
wrote_on false true s t u g h = h
wrote_on false false s t u g h = h ∙ g

still_on : (a b : Bool) (l m n : List ℕ) → (a ≡ false → m ≡ l) → (b ≡ false → n ≡ m) → (a || b) ≡ false → n ≡ l
still_on true b l m n g h none = absurd (true≢false none)
still_on false b l m n g h none = h none ∙ g refl

goes_on : (a b : Bool) (So Then All : List ℕ → List ℕ → Type 0) (s t u : State) → ((m n o : List ℕ) → So m n → Then n o → All m o) → Goes a So s t → Goes b Then t u → Goes (a || b) All s u
goes_on a b So Then All s t u by g h = record {
  so = by s.memory t.memory u.memory g.so h.so;
  wrote = wrote_on a b s.wrote t.wrote u.wrote g.wrote h.wrote;
  still = still_on a b s.memory t.memory u.memory g.still h.still;
}

module _ (words : Words) where
  pub does_then : (a b c : Standing) (f g : Bool) (So Then All : List ℕ → List ℕ → Type 0) → ((m n o : List ℕ) → So m n → Then n o → All m o) → Does words a b f So → Does words b c g Then → Does words a c (f || g) All
  does_then a b c f g So Then All by x y = record {
    made = x.made ++ y.made;
    makes = makes_then words a b c x.made y.made x.makes y.makes;
    plainly = λ d s e.
        let p = parted d s x.made y.made e in
        let t = state_after d s (calls_of x.made) in
        let u = state_after d t (calls_of y.made) in
        subst (λ (v : State). Goes (f || g) All s v) (sym p.state) (goes_on f g So Then All s t u by (x.plainly d s p.first) (y.plainly d t p.second));
  }

  pub does_so : (a b : Standing) (f : Bool) (So Then : List ℕ → List ℕ → Type 0) → ((m n : List ℕ) → So m n → Then m n) → Does words a b f So → Does words a b f Then
  does_so a b f So Then by x = record { made = x.made; makes = x.makes; plainly = λ d s e. goes_weaker f So Then s (state_after d s (calls_of x.made)) by (x.plainly d s e) }

  -- ## One call

  pub does_write : (a b : Standing) (at n : ℕ) → Tells words a (Write W at (number n)) (answer_to_write (Ok tt)) b → Does words a b true (λ old new. new ≡ with_slice old at (to_le_bytes w64 n))
  does_write a b at n tells = record { made = Calls (Write W at (number n)) Done ∷ []; makes = (b, tt, tells, refl); plainly = λ d s e. goes_by_write d s at n e }

  read_so : (a b : Standing) (first i place n : ℕ) → place ≡ first + 8 * i → n < 2 ^ 64 → Tells words a (Read R U8 place) (answer_to_read (Ok n)) b → Does words a b false (Reads first i (pair_of n))
  read_so a b first i place n at fits tells = record {
    made = Calls (Read R U8 place) (bytes_reply (bytes_of_number n)) ∷ [];
    makes = (b, tt, tells, refl);
    plainly = λ d s e. goes_weaker false (λ old new. (new ≡ old) × (slice old place 8 ≡ bytes_of_number n)) (Reads first i (pair_of n)) s (state_after d s (Read R U8 place ∷ []))
        (λ old new r. record { same = r.0; pair_is = pair_read old first i n fits (ap (λ k. slice old k 8) (sym at) ∙ r.1) })
        (goes_by_read d s place (bytes_of_number n) e);
  }

  abbrev is_read : Result (ℕ × ℕ) Stop → Type 0
  is_read (Ok pair) = Unit {0}
  is_read (Err stop) = ⊥

  abbrev pair_in : ℕ × ℕ → Result (ℕ × ℕ) Stop → ℕ × ℕ
  pair_in other (Ok pair) = pair
  pair_in other (Err stop) = other

  pub does_read : (a b : Standing) (first i place : ℕ) (pair : ℕ × ℕ) → place ≡ first + 8 * i → (pair.0 < 2 ^ 32) × (pair.1 < 2 ^ 32) → (read : Result ℕ Stop) × Tells words a (Read R U8 place) (answer_to_read read) b × (Ok pair ≡ read_as pair_of read) → Does words a b false (Reads first i pair)
  does_read a b first i place pair at fits told = by told.0 told.1 told.2
    where
      by : (read : Result ℕ Stop) → Tells words a (Read R U8 place) (answer_to_read read) b → Ok pair ≡ read_as pair_of read → Does words a b false (Reads first i pair)
      by (Ok n) tells e =
          let same : pair ≡ pair_of n = ap (pair_in pair) e in
          let high : n / 2 ^ 32 < 2 ^ 32 = subst (λ (k : ℕ). k < 2 ^ 32) (ap (λ (x : ℕ × ℕ). x.1) same) fits.1 in
          subst (λ (x : ℕ × ℕ). Does words a b false (Reads first i x)) (sym same) (read_so a b first i place n at (omega arith) tells)
      by (Err stop) tells e = absurd (subst is_read e tt)

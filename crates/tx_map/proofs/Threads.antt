-- From what each thread has written to the bytes that all threads leave.
use Rattle.std.proofs.Common.{◌≡◌, ◌∙◌, ◌⊎◌, inl, inr, ℕ, zero, suc, ◌+◌, ◌-◌, ◌*◌, ◌/◌, ◌%◌, ◌==◌, ◌<◌, ◌≤◌, Bool, true, false, List, [], ◌∷◌, ◌++◌, length, Option, None, Some, IsSome, IfSome, unwrap_or, ap, refl, subst, sym, true≢false, arith, length-append}
use Rattle.tx_map.proofs.Common.{AllTell, EachPuts, HasAllPairs, HasOnlyPairs, HasPair, HasWritten, HasWrittenIn, HasWrittenSome, IsEmpty, MutBor, Put, PutsPair, StartsWith, Stores, View, Words, added_in, bytes_in, bytes_of, cases_lt, eq-eqb, eqb-true, positions, sum_by-cons, times, told_in_all, view_of}
use Rattle.std.{specs.List.flat_map, proofs.Math.Seq.take-length}
use denote.Param.Members.{Shared}
use Rattle.shared_words.{proofs.PositionTotals.count_is, specs.Commits.after}
use Rattle.transactions.specs.declared.client.Client.{Client}
use Rattle.tx_threads.specs.Threads.{AllBegin, EachHasRun, HasRun, HaveRun}
use Rattle.tx_map.proofs.Added.{AllPut, all_append, all_of_each, as_many_new}
use Rattle.tx_map.proofs.Counts.{times_append, times_other}
use Rattle.tx_map.proofs.Histories.{KeepsAt, each_later, pairs_at, put_stays}
use Rattle.tx_map.proofs.Pairs.{empty_only, put_keeps}
use Rattle.tx_map.proofs.Written.{added_append, positions_append}

given : (r : Option ℕ) (X : ℕ → Type 0) → IsSome r → IfSome r X → (n : ℕ) × (r ≡ Some n) × X n
given (Some n) X some x = (n, refl, x)
given None X some x = absurd (true≢false (sym some))

positions_length : (made : List (ℕ × Put)) → length (positions made) ≡ length made
positions_length [] = refl
positions_length (x ∷ xs) = ap suc (positions_length xs)

-- ## The commits of one thread, within the view of all

pub record PutAll (first count from upto added : ℕ) (whole v : View) : Type 0 where
  pub made : List (ℕ × Put)
  pub count_is : length made ≡ upto
  pub added_is : added_in made ≡ added
  pub mine_is : v.mine ≡ positions made
  pub puts : EachPuts first count from whole made

-- the commits of some threads, whose bodies told so many new keys together
pub record AllMade (first count : ℕ) (whole : View) (mine : List ℕ) (added : ℕ) : Type 0 where
  pub made : List (ℕ × Put)
  pub mine_is : mine ≡ positions made
  pub puts : AllPut first count 160 whole made
  pub added_is : added_in made ≡ added

-- the commit at this position puts one of these pairs
pub record PutsOne (first count from upto : ℕ) (whole : View) (p : ℕ) : Type 0 where
  pub number : ℕ
  pub low : from ≤ number
  pub high : number < from + upto
  pub put : Put
  pub puts : PutsPair first count number whole (p, put)

-- some commit puts this pair
pub record IsPutBySome (first count : ℕ) (whole : View) (n : ℕ) : Type 0 where
  pub made : ℕ × Put
  pub puts : PutsPair first count n whole made

module _ (first count : ℕ) (whole : View) where
  put_all : (from upto added : ℕ) (v old new : View) → v ≡ new → whole.base ≡ new.base → StartsWith whole.seen v.seen → old.mine ≡ [] → HasWrittenIn first count from upto added old new → PutAll first count from upto added whole v
  put_all from upto added v old new is base begins none w = record {
    made = w.made;
    count_is = w.count_is;
    added_is = w.added_is;
    mine_is = ap (λ (x : View). x.mine) is ∙ w.mine_is ∙ ap (λ (l : List ℕ). l ++ positions w.made) none;
    puts = each_later new whole base (subst (λ (x : View). StartsWith whole.seen x.seen) is begins) first count from w.made w.puts;
  }

  puts_at : (p n : ℕ) (made : List (ℕ × Put)) → EachPuts first count n whole made → 0 < times p (positions made) → PutsOne first count n (length made) whole p
  puts_at p n [] e h = let none : times p [] ≡ 0 = refl in absurd (omega (arith, h, none))
  puts_at p n (x ∷ xs) e h = by (x.0 == p) refl (puts_at p (suc n) xs e.1)
    where
      by : (b : Bool) → (x.0 == p) ≡ b → (0 < times p (positions xs) → PutsOne first count (suc n) (length xs) whole p) → PutsOne first count n (length (x ∷ xs)) whole p
      by true is later = record { number = n; low = omega arith; high = omega arith; put = x.1; puts = subst (λ (q : ℕ). PutsPair first count n whole (q, x.1)) (eqb-true x.0 p is) e.0 }
      by false is later =
          let away : x.0 ≡ p → ⊥ = λ same. true≢false (sym (eq-eqb x.0 p same) ∙ is) in
          let rest = later (omega (arith, h, times_other p x.0 (positions xs) away)) in
          record { number = rest.number; low = omega (arith, rest.low); high = omega (arith, rest.high); put = rest.put; puts = rest.puts }

  nth_put : (k n : ℕ) (made : List (ℕ × Put)) → EachPuts first count n whole made → k < length made → IsPutBySome first count whole (n + k)
  nth_put k n [] e h = absurd (omega (arith, h))
  nth_put zero n (x ∷ xs) e h = let same : n ≡ n + 0 = omega arith in subst (IsPutBySome first count whole) same (record { made = x; puts = e.0 })
  nth_put (suc k) n (x ∷ xs) e h = let same : suc n + k ≡ n + suc k = omega arith in subst (IsPutBySome first count whole) same (nth_put k (suc n) xs e.1 (omega (arith, h)))

  one_keeps : (keys p from upto : ℕ) → from + upto ≤ keys → PutsOne first count from upto whole p → KeepsAt first count keys whole p
  one_keeps keys p from upto few one = record { seen = one.puts.seen; keeps = put_keeps first count keys one.number (omega (arith, one.high, few)) (bytes_in whole p) (bytes_in whole (suc p)) one.put one.puts.puts }

module _ {F : Type 0} (fn : Shared F (ℕ × (MutBor Client × Unit {0})) (Option ℕ × (MutBor Client × Unit {0}))) (f : F) (first count : ℕ) where
  -- what each run of a thread's body has written
  abbrev pub EachWrites : Type 0
  EachWrites = (n : ℕ) (lent left : MutBor Client) (r : Option ℕ) → fn.post f (n, (lent, tt)) (r, (left, tt)) → HasWrittenSome first count (32 * (n % 4)) 64 lent.now.transaction left.now.transaction

  -- and where it tells something
  abbrev pub EachTells : Type 0
  EachTells = (n : ℕ) (lent left : MutBor Client) (r : Option ℕ) → fn.post f (n, (lent, tt)) (r, (left, tt)) → IfSome r (λ added. HasWritten first count (32 * (n % 4)) 64 added lent.now.transaction left.now.transaction)

  module _ (words : Words) (tries : ℕ) (whole : View) where
    one_put : (n upto added : ℕ) (r : Option ℕ) (v : View) (run : HasRun fn f words whole.base tries n r v) → StartsWith whole.seen v.seen → HasWritten first count (32 * (n % 4)) upto added run.lent.now.transaction run.left.now.transaction → PutAll first count (32 * (n % 4)) upto added whole v
    one_put n upto added r v run begins w = put_all first count whole (32 * (n % 4)) upto added v (view_of run.lent.now.transaction.thread.pass) (view_of run.left.now.transaction.thread.pass) run.ends (sym (w.went.base ∙ run.begins.base_is)) begins run.begins.new w

    all_put : EachTells → (n : ℕ) (r : Option ℕ) (v : View) → HasRun fn f words whole.base tries n r v → StartsWith whole.seen v.seen → IsSome r → PutAll first count (32 * (n % 4)) 64 (unwrap_or r 0) whole v
    all_put tells n r v run begins some =
        let told = given r (λ added. HasWritten first count (32 * (n % 4)) 64 added run.lent.now.transaction run.left.now.transaction) some (tells n run.lent run.left r run.runs) in
        let is : told.0 ≡ unwrap_or r 0 = ap (λ (o : Option ℕ). unwrap_or o 0) (sym told.1) in
        subst (λ (k : ℕ). PutAll first count (32 * (n % 4)) 64 k whole v) is (one_put n 64 told.0 r v run begins told.2)

    keeps_own : EachWrites → (n : ℕ) (r : Option ℕ) (v : View) → HasRun fn f words whole.base tries n r v → StartsWith whole.seen v.seen → (p : ℕ) → 0 < times p v.mine → KeepsAt first count 160 whole p
    keeps_own writes n r v run begins p own =
        let s = writes n run.lent run.left r run.runs in
        let all : PutAll first count (32 * (n % 4)) s.upto s.added whole v = one_put n s.upto s.added r v run begins s.written in
        one_keeps first count whole 160 p (32 * (n % 4)) (length all.made) (omega (arith, s.few, all.count_is)) (puts_at first count whole p (32 * (n % 4)) all.made all.puts (subst (λ (l : List ℕ). 0 < times p l) all.mine_is own))

    all_keep : EachWrites → (n : ℕ) (rs : List (Option ℕ)) (vs : List View) → EachHasRun fn f words whole.base tries n rs vs → AllBegin whole.seen vs → (p : ℕ) → 0 < times p (flat_map (λ (v : View). v.mine) vs) → KeepsAt first count 160 whole p
    all_keep writes n [] [] each begin p own = absurd (omega (arith, own))
    all_keep writes n [] (v ∷ vs) each begin p own = absurd each
    all_keep writes n (r ∷ rs) [] each begin p own = absurd each
    all_keep writes n (r ∷ rs) (v ∷ vs) each begin p own = by (cases_lt 0 (times p v.mine)) (all_keep writes (suc n) rs vs each.1 begin.1 p)
      where
        by : (0 < times p v.mine) ⊎ (times p v.mine ≤ 0) → (0 < times p (flat_map (λ (v : View). v.mine) vs) → KeepsAt first count 160 whole p) → KeepsAt first count 160 whole p
        by (inl here) later = keeps_own writes n r v each.0 begin.0 p here
        by (inr none) later = later (omega (arith, own, none, times_append p v.mine (flat_map (λ (v : View). v.mine) vs)))

    each_put : EachTells → (n : ℕ) (rs : List (Option ℕ)) (vs : List View) → EachHasRun fn f words whole.base tries n rs vs → AllTell rs → AllBegin whole.seen vs → (i : ℕ) → i < length rs → (m : ℕ) → m < 64 → IsPutBySome first count whole (32 * ((n + i) % 4) + m)
    each_put tells n [] vs each tell begin i there m few = absurd (omega (arith, there))
    each_put tells n (r ∷ rs) [] each tell begin i there m few = absurd each
    each_put tells n (r ∷ rs) (v ∷ vs) each tell begin zero there m few =
        let same : n ≡ n + 0 = omega arith in
        let all = all_put tells n r v each.0 begin.0 (tell 0 (omega arith)) in
        subst (λ (k : ℕ). IsPutBySome first count whole (32 * (k % 4) + m)) same (nth_put first count whole m (32 * (n % 4)) all.made all.puts (omega (arith, all.count_is, few)))
    each_put tells n (r ∷ rs) (v ∷ vs) each tell begin (suc i) there m few =
        let same : suc n + i ≡ n + suc i = omega arith in
        subst (λ (k : ℕ). IsPutBySome first count whole (32 * (k % 4) + m)) same (each_put tells (suc n) rs vs each.1 (λ k few. tell (suc k) (omega arith)) begin.1 i (omega arith) m few)

    all_count : EachTells → (n : ℕ) (rs : List (Option ℕ)) (vs : List View) → EachHasRun fn f words whole.base tries n rs vs → AllTell rs → AllBegin whole.seen vs → length (flat_map (λ (v : View). v.mine) vs) ≡ length rs * 64
    all_count tells n [] [] each tell begin = refl
    all_count tells n [] (v ∷ vs) each tell begin = absurd each
    all_count tells n (r ∷ rs) [] each tell begin = absurd each
    all_count tells n (r ∷ rs) (v ∷ vs) each tell begin =
        let all = all_put tells n r v each.0 begin.0 (tell 0 (omega arith)) in
        let own : length v.mine ≡ 64 = ap length all.mine_is ∙ positions_length all.made ∙ all.count_is in
        let rest = all_count tells (suc n) rs vs each.1 (λ k few. tell (suc k) (omega arith)) begin.1 in
        omega (arith, own, rest, length-append v.mine (flat_map (λ (v : View). v.mine) vs))

    all_made : EachTells → (n : ℕ) (rs : List (Option ℕ)) (vs : List View) → EachHasRun fn f words whole.base tries n rs vs → AllTell rs → AllBegin whole.seen vs → AllMade first count whole (flat_map (λ (v : View). v.mine) vs) (told_in_all rs)
    all_made tells n [] [] each tell begin = record { made = []; mine_is = refl; puts = tt; added_is = refl }
    all_made tells n [] (v ∷ vs) each tell begin = absurd each
    all_made tells n (r ∷ rs) [] each tell begin = absurd each
    all_made tells n (r ∷ rs) (v ∷ vs) each tell begin =
        let own = all_put tells n r v each.0 begin.0 (tell 0 (omega arith)) in
        let rest = all_made tells (suc n) rs vs each.1 (λ k few. tell (suc k) (omega arith)) begin.1 in
        let sum : told_in_all (r ∷ rs) ≡ unwrap_or r 0 + told_in_all rs = sum_by-cons (λ (o : Option ℕ). unwrap_or o 0) r rs in
        record {
          made = own.made ++ rest.made;
          mine_is = ap (λ (l : List ℕ). l ++ flat_map (λ (v : View). v.mine) vs) own.mine_is ∙ ap (λ (l : List ℕ). positions own.made ++ l) rest.mine_is ∙ sym (positions_append own.made rest.made);
          puts = all_append first count 160 whole own.made rest.made (all_of_each first count 160 whole (32 * (n % 4)) own.made (omega (arith, own.count_is)) own.puts) rest.puts;
          added_is = omega (arith, added_append own.made rest.made, own.added_is, rest.added_is, sum);
        }

-- the four threads meet all pairs
which : (P : ℕ → Type 0) → ((i : ℕ) → i < 4 → (m : ℕ) → m < 64 → P (32 * ((0 + i) % 4) + m)) → (n : ℕ) → n < 160 → P n
which P met n few = by (cases_lt n 128)
  where
    by : (n < 128) ⊎ (128 ≤ n) → P n
    by (inl low) = let same : 32 * ((0 + n / 32) % 4) + n % 32 ≡ n = omega arith in subst P same (met (n / 32) (omega arith) (n % 32) (omega arith))
    by (inr high) = let same : 32 * ((0 + 3) % 4) + (n - 96) ≡ n = omega arith in subst P same (met 3 (omega arith) (n - 96) (omega arith))

module _ {F : Type 0} (fn : Shared F (ℕ × (MutBor Client × Unit {0})) (Option ℕ × (MutBor Client × Unit {0}))) (f : F) (first count tries clock : ℕ) (told : List (Option ℕ)) (old new : List ℕ) (run : HaveRun fn f 4 tries old told clock new) where
  left : new ≡ bytes_in run.whole (length run.whole.seen)
  left = run.ends.bytes_are ∙ ap (λ (h : List Stores). bytes_of (after run.whole.base h)) (sym (take-length run.whole.seen))

  -- as many commits as puts, where all bodies have told something
  pub all_commits : EachTells fn f first count → AllTell told → clock ≡ 512
  all_commits tells tell =
      let each : length run.whole.mine ≡ length run.whole.seen = count_is (length run.whole.seen) run.whole.mine run.ends.mine run.ends.no_other in
      let all : length run.whole.mine ≡ length told * 64 = ap length run.all.mine ∙ all_count fn f first count run.words tries run.whole tells 0 told run.all.views run.all.each tell run.all.begin in
      omega (arith, run.ends.clock_is, run.all.count_is, each, all)

  module _ (writes : EachWrites fn f first count) (empty : IsEmpty first count old) where
    begins : HasOnlyPairs first count 160 (bytes_in run.whole 0)
    begins = subst (HasOnlyPairs first count 160) (sym run.bytes) (empty_only first count 160 old empty)

    keeps : (p : ℕ) → p < length run.whole.seen → KeepsAt first count 160 run.whole p
    keeps p few =
        let own : times p (flat_map (λ (v : View). v.mine) run.all.views) ≡ 1 = ap (times p) (sym run.all.mine) ∙ run.ends.mine p few in
        all_keep fn f first count run.words tries run.whole writes 0 told run.all.views run.all.each run.all.begin p (omega (arith, own))

    -- whatever the bodies have told, no other pair is there at the end
    pub only_pairs : HasOnlyPairs first count 160 new
    only_pairs = subst (HasOnlyPairs first count 160) (sym left) (pairs_at first count 160 run.whole begins keeps (length run.whole.seen) (omega arith))

    -- all bodies have told something: all pairs are there
    pub all_pairs : EachTells fn f first count → AllTell told → HasAllPairs first count 160 new
    all_pairs tells tell = record { pairs = only_pairs; each = λ n few. subst (HasPair first count n) (sym left) (which (λ k. HasPair first count k (bytes_in run.whole (length run.whole.seen))) there n few) }
      where
        there : (i : ℕ) → i < 4 → (m : ℕ) → m < 64 → HasPair first count (32 * ((0 + i) % 4) + m) (bytes_in run.whole (length run.whole.seen))
        there i few m less =
            let is = each_put fn f first count run.words tries run.whole tells 0 told run.all.views run.all.each tell run.all.begin i (omega (arith, few, run.all.count_is)) m less in
            put_stays first count 160 run.whole begins keeps (32 * ((0 + i) % 4) + m) is.made is.puts

    -- and as many puts were of new keys as there are keys
    pub all_added : EachTells fn f first count → AllTell told → told_in_all told ≡ 160
    all_added tells tell =
        let all = all_made fn f first count run.words tries run.whole tells 0 told run.all.views run.all.each tell run.all.begin in
        sym all.added_is
        ∙ as_many_new first count 160 run.whole all.made all.puts (λ p few. ap (times p) (sym all.mine_is) ∙ ap (times p) (sym run.all.mine) ∙ run.ends.mine p few) (subst (IsEmpty first count) (sym run.bytes) empty) (pairs_at first count 160 run.whole begins keeps)
        (subst (HasAllPairs first count 160) left (all_pairs tells tell))

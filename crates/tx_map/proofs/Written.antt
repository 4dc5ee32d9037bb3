-- What a thread's own commits have done, transaction by transaction.
use Rattle.std.proofs.Common.{◌≡◌, ◌∙◌, ℕ, suc, ◌+◌, ◌*◌, ◌<◌, Bool, true, false, true≢false, List, [], ◌∷◌, ◌++◌, length, Option, Some, Result, Ok, Err, IfOk, ap, refl, subst, sym, arith, append_assoc, append-nil, length-append}
use Rattle.tx_map.proofs.Common.{Added, Again, EachPuts, Failed, Full, HasGot, HasLed, HasPut, HasWritten, HasWrittenIn, HasWrittenSome, IsKept, IsLeft, Lent, Put, View, added_in, added_of, is_put, mine_left, mine_of, positions, view_of, went_on, went_self}
use Rattle.std.{proofs.lemmas.Option.none-some, proofs.lemmas.Option.same_Some, specs.Result.result_ok}
use Rattle.call_rules.specs.Served.{mine_if}
use Rattle.transactions.specs.declared.tried.Done.{Done}
use Rattle.tx_map.proofs.Histories.{each_later}

pub positions_append : (xs ys : List (ℕ × Put)) → positions (xs ++ ys) ≡ positions xs ++ positions ys
positions_append [] ys = refl
positions_append (x ∷ xs) ys = ap (λ (l : List ℕ). x.0 ∷ l) (positions_append xs ys)

pub added_append : (xs ys : List (ℕ × Put)) → added_in (xs ++ ys) ≡ added_in xs + added_in ys
added_append [] ys = omega arith
added_append (x ∷ xs) ys = omega (arith, added_append xs ys)

pub not_full : (put : Put) → (put ≡ Full → ⊥) → is_put put ≡ true
not_full Added other = refl
not_full Again other = refl
not_full Full other = absurd (other refl)

module _ (first count : ℕ) where
  each_append : (n m : ℕ) (v : View) (xs ys : List (ℕ × Put)) → m ≡ n + length xs → EachPuts first count n v xs → EachPuts first count m v ys → EachPuts first count n v (xs ++ ys)
  each_append n m v [] ys e a b = let same : m ≡ n = omega arith in subst (λ (k : ℕ). EachPuts first count k v ys) same b
  each_append n m v (x ∷ xs) ys e a b = let next : m ≡ suc n + length xs = omega arith in (a.0, each_append (suc n) m v xs ys next a.1 b)

  -- ## One after another

  pub written_on : (from upto more added also : ℕ) (u v w : View) → HasWrittenIn first count from upto added u v → HasWrittenIn first count (from + upto) more also v w → HasWrittenIn first count from (upto + more) (added + also) u w
  written_on from upto more added also u v w a b = record {
    went = went_on u v w a.went b.went;
    made = a.made ++ b.made;
    count_is = omega (arith, length-append a.made b.made, a.count_is, b.count_is);
    added_is = omega (arith, added_append a.made b.made, a.added_is, b.added_is);
    mine_is = b.mine_is ∙ ap (λ (l : List ℕ). l ++ positions b.made) a.mine_is ∙ append_assoc u.mine (positions a.made) (positions b.made) ∙ ap (λ (l : List ℕ). u.mine ++ l) (sym (positions_append a.made b.made));
    puts = each_append from (from + upto) w a.made b.made (omega (arith, a.count_is)) (each_later v w b.went.base b.went.grows first count from a.made a.puts) b.puts;
  }

  pub some_on : (from upto most added : ℕ) (u v w : Lent) → upto < most → HasWritten first count from upto added u v → HasWrittenSome first count (from + upto) 1 v w → HasWrittenSome first count from most u w
  some_on from upto most added u v w less a s = record {
    upto = upto + s.upto;
    few = omega (arith, s.few, less);
    added = added + s.added;
    written = written_on from upto s.upto added s.added (view_of u.thread.pass) (view_of v.thread.pass) (view_of w.thread.pass) a s.written;
  }

  pub none_written : (from : ℕ) (v : Lent) → HasWritten first count from 0 0 v v
  none_written from v = record { went = went_self (view_of v.thread.pass); made = []; count_is = refl; added_is = refl; mine_is = sym (append-nil (mine_of v)); puts = tt }

  -- ## A look

  kept_written : (from upto added : ℕ) (u v w : Lent) → HasWritten first count from upto added u v → IsKept v w → HasWritten first count from upto added u w
  kept_written from upto added u v w a k = record {
    went = went_on (view_of u.thread.pass) (view_of v.thread.pass) (view_of w.thread.pass) a.went k.went;
    made = a.made;
    count_is = a.count_is;
    added_is = a.added_is;
    mine_is = k.mine_is ∙ a.mine_is;
    puts = each_later (view_of v.thread.pass) (view_of w.thread.pass) k.went.base k.went.grows first count from a.made a.puts;
  }

  looked : (key : ℕ) (v w : Lent) (found : Result (Done (Option ℕ)) (Failed (Unit {0}))) → IsLeft (mine_left (mine_of v) found) v w → IfOk found (λ done. HasLed (λ got. false) (HasGot first count key) done w.thread) → IsKept v w
  looked key v w (Ok done) left led = subst (λ (b : Bool). IsLeft (mine_if b (mine_of v) done.at) v w) led.wrote_is left
  looked key v w (Err why) left led = left

  module _ (n key value : ℕ) (key_is : key ≡ 8 * n + 1) (value_is : value ≡ n + 1_000) (u v : Lent) where
    -- ## A put

    abbrev Led : Done Put → Type 0
    Led done = HasLed is_put (HasPut first count key value) done v.thread

    of_pair : (done : Done Put) → Led done → HasLed is_put (HasPut first count (8 * n + 1) (n + 1_000)) done v.thread
    of_pair done led = subst (λ (k : ℕ). HasLed is_put (HasPut first count k (n + 1_000)) done v.thread) key_is (subst (λ (m : ℕ). HasLed is_put (HasPut first count key m) done v.thread) value_is led)

    one_written : (put : Put) (at : ℕ) (wrote : Bool) → wrote ≡ true → IsLeft (mine_if wrote (mine_of u) at) u v → HasLed is_put (HasPut first count (8 * n + 1) (n + 1_000)) (record { value = put; at = at; wrote = wrote }) v.thread → HasWritten first count n 1 (added_of put) u v
    one_written put at true e left led = record {
      went = left.went;
      made = (at, put) ∷ [];
      count_is = refl;
      added_is = omega arith;
      mine_is = left.mine_is;
      puts = (record { seen = omega (arith, led.seen); put_is = sym led.wrote_is; puts = led.so }, tt);
    }
    one_written put at false e left led = absurd (true≢false (sym e))

    put_written : (told : Result (Done Put) (Failed (Unit {0}))) (done : Done Put) → Some done ≡ result_ok told → is_put done.value ≡ true → IsLeft (mine_left (mine_of u) told) u v → IfOk told Led → HasWritten first count n 1 (added_of done.value) u v
    put_written (Ok told) done is puts left led =
        let put_is : is_put told.value ≡ true = ap (λ (d : Done Put). is_put d.value) (sym (same_Some done told is)) ∙ puts in
        subst (λ (d : Done Put). HasWritten first count n 1 (added_of d.value) u v) (sym (same_Some done told is)) (one_written told.value told.at told.wrote (led.wrote_is ∙ put_is) left (of_pair told led))
    put_written (Err why) done is puts left led = absurd (none-some done (sym is))

    some_written : (put : Put) (at : ℕ) (wrote : Bool) → IsLeft (mine_if wrote (mine_of u) at) u v → HasLed is_put (HasPut first count (8 * n + 1) (n + 1_000)) (record { value = put; at = at; wrote = wrote }) v.thread → HasWrittenSome first count n 1 u v
    some_written put at true left led = record { upto = 1; few = omega arith; added = added_of put; written = one_written put at true refl left led }
    some_written put at false left led = record { upto = 0; few = omega arith; added = 0; written = kept_written n 0 0 u u v (none_written n u) left }

    -- whatever came of it
    pub put_some : (told : Result (Done Put) (Failed (Unit {0}))) → IsLeft (mine_left (mine_of u) told) u v → IfOk told Led → HasWrittenSome first count n 1 u v
    put_some (Ok told) left led = some_written told.value told.at told.wrote left (of_pair told led)
    put_some (Err why) left led = record { upto = 0; few = omega arith; added = 0; written = kept_written n 0 0 u u v (none_written n u) left }

    -- ## And a look after it

    module _ (w : Lent) (told : Result (Done Put) (Failed (Unit {0}))) (found : Result (Done (Option ℕ)) (Failed (Unit {0}))) (left : IsLeft (mine_left (mine_of u) told) u v) (led : IfOk told Led) (left' : IsLeft (mine_left (mine_of v) found) v w) (led' : IfOk found (λ done. HasLed (λ got. false) (HasGot first count key) done w.thread)) where
      pub pair_some : HasWrittenSome first count n 1 u w
      pair_some = let s = put_some told left led in record { upto = s.upto; few = s.few; added = s.added; written = kept_written n s.upto s.added u v w s.written (looked key v w found left' led') }

      pub pair_written : (done : Done Put) → Some done ≡ result_ok told → is_put done.value ≡ true → HasWritten first count n 1 (added_of done.value) u w
      pair_written done is puts = kept_written n 1 (added_of done.value) u v w (put_written told done is puts left led) (looked key v w found left' led')

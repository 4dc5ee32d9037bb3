-- The canonical attempt of one that is alone on a memory is alone there.
use Rattle.std.proofs.Common.{◌≡◌, ℕ, true, false, List, [], ◌∷◌, ◌++◌, map, take, length, Option, None, Some, refl, sym, ap, subst, ◌∙◌}
use Rattle.history_reader.proofs.Common.{Abort, Again, AreAgain, AtEach, Attempt, Breaks, ByAbort, ByCommit, Call, CallRecord, Cancelled, ClosedBy, Code, Commit, Committed, Done, EndsIn, IsAgain, IsAlone, IsInnerBegin, Outcome, ReadOnly, alone, breaks_of, canonical_again, canonical_attempt, canonical_call, canonical_entry, is_begin, is_open, map-append, opened, option_map, ran_alone, replies_through, slice_get, slice_get-map, state_at, state_through, take-map}
use Rattle.itm_types.specs.declared.call.Call.TheVariants as calls
use Rattle.itm_model.specs.State.{State}
use Rattle.tx_attempts.specs.Opacity.{AreRestarts, StaysRevocable}
use Rattle.history_reader.proofs.Canon.Runs.{calls_in, same_alone, same_breaks, same_replies, same_state, same_told}

-- ## Lists that a function made

-- what stands around an element stood around what it was made of
pub record Parts {A B : Type 0} (f : A → B) (all : List A) (before : List B) (rest : List B) : Type 0 where
  pub front : List A
  pub here : A
  pub back : List A
  pub whole : all ≡ front ++ here ∷ back
  pub front_is : map f front ≡ before
  pub back_is : map f back ≡ rest

parts_of : {A B : Type 0} (f : A → B) (all : List A) (before : List B) (y : B) (rest : List B) → map f all ≡ before ++ y ∷ rest → Parts f all before rest
parts_of f [] [] y rest e = absurd (cc)
parts_of f [] (b ∷ before) y rest e = absurd (cc)
parts_of f (x ∷ xs) [] y rest e = let t : map f xs ≡ rest = cc in record { front = []; here = x; back = xs; whole = refl; front_is = refl; back_is = t }
parts_of f (x ∷ xs) (b ∷ before) y rest e =
    let t : map f xs ≡ before ++ y ∷ rest = cc in
    let h : f x ≡ b = cc in
    let p = parts_of f xs before y rest t in
    record { front = x ∷ p.front; here = p.here; back = p.back; whole = ap (λ l. x ∷ l) p.whole; front_is = λ i. h i ∷ p.front_is i; back_is = p.back_is }

none_left : {A B : Type 0} (f : A → B) (xs : List A) → map f xs ≡ [] → xs ≡ []
none_left f [] e = refl
none_left f (x ∷ xs) e = absurd (cc)

-- ## An attempt

by_commit : (calls : List CallRecord) → ByCommit calls → ByCommit (map canonical_entry calls)
by_commit calls h = (map canonical_entry h.0, ap (map canonical_entry) h.1 ∙ map-append canonical_entry h.0 (record { call = Commit; reply = Done } ∷ []))

by_abort : (calls : List CallRecord) → ByAbort calls → ByAbort (map canonical_entry calls)
by_abort calls h = (map canonical_entry h.0, h.1, ap (map canonical_entry) h.2 ∙ map-append canonical_entry h.0 (record { call = Abort h.1; reply = Code 24 } ∷ []))

closed_too : (o : Outcome) (calls : List CallRecord) → ClosedBy o calls → ClosedBy o (map canonical_entry calls)
closed_too Committed calls h = by_commit calls h
closed_too ReadOnly calls h = by_commit calls h
closed_too Cancelled calls h = by_abort calls h
closed_too o calls h = tt

-- ## Blocks that ran again

same_begin : (c : Call) → is_begin (canonical_call c) ≡ is_begin c
same_begin calls.Commit = refl
same_begin c = refl

begins_so : (o : Option CallRecord) → IsInnerBegin o → IsInnerBegin (option_map canonical_entry o)
begins_so None b = b
begins_so (Some e) b = (same_begin e.call ∙ b.0, b.1)

again_so : (size : ℕ) (es : List CallRecord) (a : Again) → IsAgain size es a → IsAgain size (map canonical_entry es) (canonical_again a)
again_so size es a h = record {
  place = h.place;
  kept = h.kept;
  begins = subst IsInnerBegin (sym (slice_get-map canonical_entry es h.place)) (begins_so (slice_get es h.place) h.begins);
  arena = h.arena;
}

pub stand_so : (size from : ℕ) (es : List CallRecord) (rs : List Again) → AreAgain size from es rs → AreAgain size from (map canonical_entry es) (map canonical_again rs)
stand_so size from es [] h = tt
stand_so size from es (a ∷ rest) h = (again_so size es a h.0, h.1, stand_so size a.kept es rest h.2)

each_so : (P Q : List CallRecord → Type 0) → ((es : List CallRecord) → P es → Q (map canonical_entry es)) → (es : List CallRecord) (rs : List Again) → AtEach P es rs → AtEach Q (map canonical_entry es) (map canonical_again rs)
each_so P Q f es [] h = tt
each_so P Q f es (a ∷ rest) h = (subst Q (sym (take-map canonical_entry a.kept es)) (f (take a.kept es) h.0), each_so P Q f es rest h.1)

-- ## The attempt

module _ (deepest : ℕ) (memory : List ℕ) (a : Attempt) (h : IsAlone deepest memory a) where
  abbrev start : State
  start = opened memory a.arena a.props

  same : alone deepest memory (canonical_attempt a) ≡ alone deepest memory a
  same = same_alone deepest memory a

  -- the state after these calls
  same_after_calls : (es : List CallRecord) → state_at deepest memory (canonical_attempt a) (map canonical_entry es) ≡ state_at deepest memory a es
  same_after_calls es =
      ap (λ (breaks : Breaks). state_through deepest breaks start (calls_in (map canonical_entry es))) (same_breaks a.restarts) ∙ same_state deepest (breaks_of a.restarts) start es

  -- the state after some first calls
  same_at : (before : List CallRecord) (rest : List CallRecord) (p : Parts canonical_entry a.calls.list before rest) → state_at deepest memory (canonical_attempt a) before ≡ state_at deepest memory a p.front
  same_at before rest p = ap (state_at deepest memory (canonical_attempt a)) (sym p.front_is) ∙ same_after_calls p.front

  stays : (before : List CallRecord) (e : CallRecord) (rest : List CallRecord) → map canonical_entry a.calls.list ≡ before ++ e ∷ rest → is_open (state_at deepest memory (canonical_attempt a) before) ≡ true
  stays before e rest is =
      let p = parts_of canonical_entry a.calls.list before e rest is in
      ap is_open (same_at before rest p) ∙ h.stays_open p.front p.here p.back p.whole

  was_revocable : ((before : List CallRecord) (last : CallRecord) → a.calls.list ≡ before ++ last ∷ [] → (state_at deepest memory a before).irrevocable ≡ false)
      → (before : List CallRecord) (last : CallRecord) → map canonical_entry a.calls.list ≡ before ++ last ∷ [] → (state_at deepest memory (canonical_attempt a) before).irrevocable ≡ false
  was_revocable r before last is =
      let p = parts_of canonical_entry a.calls.list before last [] is in
      let whole : a.calls.list ≡ p.front ++ p.here ∷ [] = p.whole ∙ ap (λ (l : List CallRecord). p.front ++ p.here ∷ l) (none_left canonical_entry p.back p.back_is) in
      ap (λ (s : State). s.irrevocable) (same_at before [] p) ∙ r p.front p.here whole

  ends_so : (o : Outcome) (s : State) → EndsIn deepest o memory a s → EndsIn deepest o memory (canonical_attempt a) s
  ends_so ReadOnly s e = (e.0, e.1, was_revocable e.2)
  ends_so o s e = e

  restarts_so : AreRestarts deepest (canonical_attempt a) memory
  restarts_so = record {
    stand = stand_so (length a.arena) 0 a.calls.list a.restarts h.again.stand;
    revocable = each_so (StaysRevocable deepest memory a) (StaysRevocable deepest memory (canonical_attempt a))
        (λ es r. ap (λ (s : State). s.irrevocable) (same_after_calls es) ∙ r) a.calls.list a.restarts h.again.revocable;
  }

  pub canonical_alone : IsAlone deepest memory (canonical_attempt a)
  canonical_alone = record {
    props = h.props;
    replies = same_told a.calls.list ∙ h.replies ∙ sym (same_replies deepest (breaks_of a.restarts) start a.calls.list)
        ∙ ap (λ (breaks : Breaks). replies_through deepest breaks start (calls_in (map canonical_entry a.calls.list))) (sym (same_breaks a.restarts));
    stays_open = stays;
    ends = subst (EndsIn deepest a.outcome memory (canonical_attempt a)) (sym same) (ends_so a.outcome (alone deepest memory a) h.ends);
    closed = closed_too a.outcome a.calls.list h.closed;
    ran = h.ran ∙ ap (ran_alone a.outcome) (sym same);
    again = restarts_so;
  }

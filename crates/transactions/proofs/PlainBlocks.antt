-- The calls of a block, with its begin and its end, are calls of its transaction.
use Rattle.std.proofs.Common.{◌≡◌, ◌∙◌, inl, inr, ℕ, false, List, [], ◌∷◌, ◌++◌, Result, Ok, Err, ap, refl, subst, sym}
use Rattle.transactions.proofs.Common.{Abort, AreRunAgain, Begin, Call, CalledAtMut, Calls, Cancelled, Cancellings, Code, Commit, Deed, Done, EndsBlockBy, EndsRuns, Engine, Enters, HasRunBlock, IsAnswered, IsAsBefore, IsKept, IsLastRun, IsPlainBack, IsPlainBackIn, IsPlainBlock, IsPlainIn, KeepsBlocks, KeepsLent, Leaves, Lent, Makes, Makings, Mut, MutBor, Replied, Reply, Stays, Stop, Stopped, TakesBack, TellsBlock, Words, block_told, start_of, usual}
use Rattle.transactions.proofs.BlockOutcomes.{abort_served, back_served, commit_served}
use Rattle.transactions.proofs.BlockRuns.{run_again, runs_body}
use Rattle.transactions.proofs.Deeds.{makes_then}

abbrev told_value : {R E : Type 0} → R → Result (Result R E) Stop → R
told_value other (Ok (Ok value)) = value
told_value other told = other

abbrev told_why : {R E : Type 0} → E → Result (Result R E) Stop → E
told_why other (Ok (Err why)) = why
told_why other told = other

abbrev IsValue : {R E : Type 0} → Result (Result R E) Stop → Type 0
IsValue (Ok (Ok value)) = Unit {0}
IsValue told = ⊥

abbrev IsBack : {R E : Type 0} → Result (Result R E) Stop → Type 0
IsBack (Ok (Err why)) = Unit {0}
IsBack told = ⊥

not_back : {R E : Type 0} {value : R} (why : E) (left : Result (Unit {0}) Stop) → Ok (Ok value) ≡ block_told {R = R} {E = E} (Err why) left → ⊥
not_back why (Ok done) told = subst IsValue told tt
not_back why (Err stop) told = subst IsValue told tt

not_valued : {R E : Type 0} {why : E} (value : R) (left : Result (Unit {0}) Stop) → Ok (Err why) ≡ block_told {R = R} {E = E} (Ok value) left → ⊥
not_valued value (Ok done) told = subst IsBack told tt
not_valued value (Err stop) told = subst IsBack told tt

module _ {F R E : Type 0} (fn : Mut F (MutBor Lent × Unit {0}) (Result R (Stopped E) × (MutBor Lent × Unit {0}))) (lent : KeepsLent fn) (blocks : KeepsBlocks fn) (first : F) (old : Lent) (times : ℕ) (body : F) (from : Lent) (before : AreRunAgain fn first old times body from) (body' : F) (new : Lent) where
  kept : IsKept old from
  kept = (run_again fn first old lent blocks times body from before).0

  fresh : IsAsBefore old from
  fresh = (run_again fn first old lent blocks times body from before).1

  module _ (began last : Lent) (enters : Enters from began) (gives : Result R (Stopped E)) (runs : CalledAtMut fn body began gives body' last) where
    last_run : IsLastRun fn first old gives body began body' last
    last_run = record {
      times = times;
      from = from;
      before = before;
      enters = enters;
      here = enters.words ∙ kept.words;
      same = λ steady. runs_body fn first old steady times body from before;
      runs = runs;
    }

    -- the deeds of that run, between the begin and the call that ends the block
    made_between : (made : List Deed) (call : Call) (reply : Replied) → Makes began.words began.thread made last.thread → Stays call new.thread → IsAnswered last.words (start_of last.thread call false) (Reply reply) new.thread.pass new.thread.engine
        → Makes old.words old.thread (TakesBack (fresh enters.inside).0 ∷ Calls (Begin usual 0) (Code 5) ∷ (made ++ Calls call reply ∷ [])) new.thread
    made_between made call reply makes stays ended =
        let here : began.words ≡ old.words = enters.words ∙ kept.words in
        let there : last.words ≡ old.words = (lent body began gives body' last runs).words ∙ here in (
          from.thread,
          (fresh enters.inside).1,
          (
            began.thread,
            refl,
            subst (λ (w : Words). IsAnswered w (start_of from.thread (Begin usual 0) false) (Reply (Code 5)) began.thread.pass began.thread.engine) kept.words enters.answered,
            makes_then old.words began.thread last.thread new.thread made (Calls call reply ∷ []) (subst (λ (w : Words). Makes w began.thread made last.thread) here makes)
                (new.thread, stays, subst (λ (w : Words). IsAnswered w (start_of last.thread call false) (Reply reply) new.thread.pass new.thread.engine) there ended, refl),
          ),
        )

  -- ## A block that gave a value

  module _ (makings : Makings fn) (value : R) where
    valued_by : (began last : Lent) (enters : Enters from began) (given : R) → CalledAtMut fn body began (Ok given) body' last → (left : Result (Unit {0}) Stop) → Leaves Commit last left new → Ok (Ok value) ≡ block_told {E = E} (Ok given) left → IsPlainBlock fn makings first old value new
    unfolding last_run
    valued_by began last enters given runs (Err stop) ends told = absurd (subst IsValue told tt)
    valued_by began last enters given runs (Ok done) ends told =
        let run : CalledAtMut fn body began (Ok value) body' last = subst (λ (x : R). CalledAtMut fn body began (Ok x) body' last) (sym (ap (told_value value) told)) runs in
        let made = makings body began value body' last run in
        record {
          gone = (fresh enters.inside).0;
          body = body;
          began = began;
          body' = body';
          last = last;
          run = last_run began last enters (Ok value) run;
          makes = made_between began last enters (Ok value) run made.0 Commit Done made.1 tt (commit_served from began last new enters (lent body began (Ok value) body' last run) (blocks body began (Ok value) body' last run) done ends);
        }

    valued : HasRunBlock fn body from (Ok (Ok value)) body' new → IsPlainBlock fn makings first old value new
    valued r = by_end r.gives r.runs r.ends
      where
        by_end : (gives : Result R (Stopped E)) → CalledAtMut fn body r.began gives body' r.last → EndsBlockBy gives r.last (Ok (Ok value)) new → IsPlainBlock fn makings first old value new
        by_end (Ok given) runs ends = valued_by r.began r.last r.enters given runs ends.0 ends.1 ends.2
        by_end (Err (Cancelled why)) runs ends = absurd (not_back why ends.0 ends.2)
        by_end (Err (Engine stop)) runs ends = absurd (subst IsValue ends.2 tt)

  -- ## A block that its body took back

  module _ (cancellings : Cancellings fn) (why : E) where
    back_by : (began last : Lent) (enters : Enters from began) (given : E) → CalledAtMut fn body began (Err (Cancelled given)) body' last → (left : Result (Unit {0}) Stop) → Leaves (Abort false) last left new → Ok (Err why) ≡ block_told {R = R} (Err given) left → IsPlainBack fn cancellings first old why new
    unfolding last_run
    back_by began last enters given runs (Err stop) ends told = absurd (subst IsBack told tt)
    back_by began last enters given runs (Ok done) ends told =
        let run : CalledAtMut fn body began (Err (Cancelled why)) body' last = subst (λ (x : E). CalledAtMut fn body began (Err (Cancelled x)) body' last) (sym (ap (told_why why) told)) runs in
        let made = cancellings body began why body' last run in
        let keeps = lent body began (Err (Cancelled why)) body' last run in
        let within = blocks body began (Err (Cancelled why)) body' last run in
        record {
          gone = (fresh enters.inside).0;
          body = body;
          began = began;
          body' = body';
          last = last;
          run = last_run began last enters (Err (Cancelled why)) run;
          makes = made_between began last enters (Err (Cancelled why)) run made.0 (Abort false) (Code 24) made.1 (back_served from began last new enters keeps within done ends).0 (abort_served from began last new enters keeps within done ends);
        }

    taken_back : HasRunBlock fn body from (Ok (Err why)) body' new → IsPlainBack fn cancellings first old why new
    taken_back r = by_end r.gives r.runs r.ends
      where
        by_end : (gives : Result R (Stopped E)) → CalledAtMut fn body r.began gives body' r.last → EndsBlockBy gives r.last (Ok (Err why)) new → IsPlainBack fn cancellings first old why new
        by_end (Ok given) runs ends = absurd (not_valued given ends.0 ends.2)
        by_end (Err (Cancelled given)) runs ends = back_by r.began r.last r.enters given runs ends.0 ends.1 ends.2
        by_end (Err (Engine stop)) runs ends = absurd (subst IsBack ends.2 tt)

module _ {F R E : Type 0} (fn : Mut F (MutBor Lent × Unit {0}) (Result R (Stopped E) × (MutBor Lent × Unit {0}))) (lent : KeepsLent fn) (blocks : KeepsBlocks fn) (first : F) (old : Lent) (f' : F) (new : Lent) where
  valued_in : (makings : Makings fn) (value : R) (e : EndsRuns fn first old (Ok (Ok value)) f' new) → TellsBlock fn e.body e.from (Ok (Ok value)) f' new → IsPlainBlock fn makings first old value new
  valued_in makings value e (inl r) = valued fn lent blocks first old e.times e.body e.from e.before f' new makings value r
  valued_in makings value e (inr none) = absurd (subst IsValue none.told_is tt)

  pub plain_in : (makings : Makings fn) (told : Result (Result R E) Stop) → EndsRuns fn first old told f' new → IsPlainIn fn makings first old told new
  plain_in makings (Ok (Ok value)) e = valued_in makings value e e.last
  plain_in makings (Ok (Err why)) e = tt
  plain_in makings (Err stop) e = tt

  back_in : (cancellings : Cancellings fn) (why : E) (e : EndsRuns fn first old (Ok (Err why)) f' new) → TellsBlock fn e.body e.from (Ok (Err why)) f' new → IsPlainBack fn cancellings first old why new
  back_in cancellings why e (inl r) = taken_back fn lent blocks first old e.times e.body e.from e.before f' new cancellings why r
  back_in cancellings why e (inr none) = absurd (subst IsBack none.told_is tt)

  pub plain_back_in : (cancellings : Cancellings fn) (told : Result (Result R E) Stop) → EndsRuns fn first old told f' new → IsPlainBackIn fn cancellings first old told new
  plain_back_in cancellings (Ok (Err why)) e = back_in cancellings why e e.last
  plain_back_in cancellings (Ok (Ok value)) e = tt
  plain_back_in cancellings (Err stop) e = tt

-- What an answer makes of a player among the tries of its blocks: its depth, where it goes back to, and how much is left to do.
use Rattle.std.proofs.Common.{◌≡◌, ℕ, ◌+◌, ◌<◌, ◌≤◌, Bool, true, false, nat_lt, if◌then◌else◌, List, None, Some, refl, sym, subst, true≢false, ◌∙◌, arith, Option, []}
use Rattle.run_rules.proofs.Common.{Answer, AnswerFits, Attempt, Busy, Call, Committed, Conflict, Done, Falls, Full, IsDeep, IsNested, LeavesRestarts, Obeys, Ran, Replied as Reply, Reply as Replied, Restarted, Rules, Stage, Stand, Taken, Tally, begins, depth_after, is_begin, ltb-false, over_as, took_in, within}
use Rattle.tx_attempts.specs.declared.attempt.Outcome.TheVariants as outcomes
use Rattle.run_rules.proofs.EngineDepths.{was_open}
use Rattle.run_rules.proofs.Players.{nested_again, nested_outside, plays}
use Rattle.run_rules.proofs.Ranks.{falls_back, falls_close, falls_reply, falls_try}
use Rattle.tx_runs.{proofs.TookIn.tried_as, specs.Tallies.outside}

-- an attempt is open just within a transaction
abbrev pub StageFits : Bool → Stage → Type 0
StageFits true (within row points) = Unit {0}
StageFits false outside = Unit {0}
StageFits false (begins row) = Unit {0}
StageFits is_open stage = ⊥

module _ {P : Type 0} (rules : Rules P) (laws : Obeys rules) (retries restarts : ℕ) where
  -- a call of the player is answered so: a transaction was open as it came, or not, and is now, or not, with so many blocks; so many restarts were left, and are
  pub record IsAnswering (was now : Bool) (deep before left : ℕ) (t : Tally P) (call : Call) (a : Answer) : Type 0 where
    pub asks : rules.next_call t.player ≡ Some call
    pub nested : IsNested rules was t.player
    pub tried : 0 < t.nth
    pub tries : t.nth ≤ retries + 1
    pub stage : StageFits was t.stage
    pub begins : t.stage ≡ outside → is_begin call ≡ false
    pub fits : AnswerFits was (rules.depth t.player) now deep call a
    pub deep_now : IsDeep now deep
    pub leaves : LeavesRestarts was now before left a
    pub most : left ≤ restarts

  -- it goes on, with less left to do
  pub record IsOn (was now : Bool) (deep before left : ℕ) (old new : Tally P) : Type 0 where
    pub nested : IsNested rules now new.player
    pub depth : rules.depth new.player ≡ deep
    pub falls : Falls rules retries restarts was now old.nth new.nth before left old.player new.player

  -- or this was the end
  pub record GoesOn (was now : Bool) (deep before left : ℕ) (old : Tally P) (x : Taken P) : Type 0 where
    pub tried : 0 < x.tally.nth
    pub tries : x.tally.nth ≤ retries + 1
    pub stage : StageFits now x.tally.stage
    pub on : x.end ≡ None → IsOn was now deep before left old x.tally

  module _ {deep before left : ℕ} {t : Tally P} {call : Call} {a : Answer} where
    -- a reply, in the same try
    replies : {was now : Bool} → IsAnswering was now deep before left t call a → (r : Replied) → depth_after (rules.depth t.player) call r ≡ deep → left ≤ before → (again : Bool) (stage : Stage) → StageFits now stage
        → GoesOn was now deep before left t (record { tally = record { player = rules.answered t.player r; nth = t.nth; again = again; stage = stage }; over = []; end = None })
    replies {was} {now} m r fits few again stage there =
        let played = plays rules laws t.player call r m.asks was now m.nested (subst (IsDeep now) (sym fits) m.deep_now) in
        record { tried = m.tried; tries = m.tries; stage = there; on = λ none. record { nested = played.nested; depth = laws.nests t.player call r m.asks ∙ fits; falls = falls_reply rules retries restarts laws t.nth before left few played } }

    -- the block is done
    closes : IsAnswering true false deep before left t call a → (r : Replied) → depth_after (rules.depth t.player) call r ≡ deep → (over : List Attempt)
        → GoesOn true false deep before left t (record { tally = record { player = rules.answered t.player r; nth = 1; again = false; stage = outside }; over = over; end = None })
    closes m r fits over =
        let played = plays rules laws t.player call r m.asks true false m.nested (subst (IsDeep false) (sym fits) m.deep_now) in
        record { tried = omega arith; tries = omega arith; stage = tt; on = λ none. record { nested = played.nested; depth = laws.nests t.player call r m.asks ∙ fits; falls = falls_close rules retries restarts laws t.nth before left m.most m.nested played } }

    -- a try came to nothing: the player is where it began the block, or begins it
    begun_again : (was : Bool) → IsAnswering was false deep before left t call a → rules.depth (if was then rules.restarted t.player else t.player) ≡ 0
    begun_again true m = m.nested.begun refl
    begun_again false m = m.nested.deep

    tries_on : {was : Bool} → IsAnswering was false deep before left t call a → (over : List Attempt) (b : Bool) → nat_lt retries t.nth ≡ b → GoesOn was false deep before left t (tried_as b (record t { player = if was then rules.restarted t.player else t.player }) over)
    tries_on m over true last = record { tried = m.tried; tries = m.tries; stage = tt; on = λ none. absurd (cc) }
    tries_on {was} m over false more =
        let begun = begun_again was m in
        let few = ltb-false retries t.nth more in
        record { tried = omega arith; tries = omega arith; stage = tt; on = λ none. record { nested = nested_outside rules _ begun; depth = begun ∙ sym m.deep_now; falls = falls_try rules retries restarts was t.nth before left t.player few m.most } }

  module _ (player : P) (nth : ℕ) (again : Bool) (call : Call) (at : ℕ) (ran : List Ran) (arena : List ℕ) where
    abbrev At : Stage → Tally P
    At stage = record { player = player; nth = nth; again = again; stage = stage }

    abbrev Now : Bool → Stand
    Now now = record { is_open = now; at = at; ran = ran; arena = arena }

    module _ {deep before left : ℕ} where
      on_reply : (was now : Bool) (stage : Stage) (r : Replied) → IsAnswering was now deep before left (At stage) call (Reply r) → GoesOn was now deep before left (At stage) (took_in rules retries (At stage) call (Reply r) (Now now))
      on_reply true true (within row points) r m = replies m r m.fits.0 (m.leaves (λ w n. absurd (cc))) again _ tt
      on_reply true false (within row points) r m = closes m r m.fits.0 _
      on_reply false true (begins row) r m = replies m r m.fits.0 (m.leaves (λ w. absurd (cc))) true _ tt
      on_reply false false (begins row) r m = replies m r m.fits.0 (m.leaves (λ w. absurd (cc))) again outside tt
      on_reply false false outside r m = replies m r m.fits.0 (m.leaves (λ w. absurd (cc))) again outside tt
      on_reply false true outside r m = absurd (true≢false (sym (was_open false true (rules.depth player) deep call r m.nested.deep m.deep_now (λ w. m.begins refl) m.fits.0 refl)))
      on_reply was now stage r m = absurd m.stage

      on_conflict : (was : Bool) (clock : ℕ) (word : Option ℕ) (stage : Stage) → IsAnswering was false deep before left (At stage) call (Conflict clock word) → GoesOn was false deep before left (At stage) (took_in rules retries (At stage) call (Conflict clock word) (Now false))
      on_conflict true clock word (within row points) m = tries_on m (over_as outcomes.Conflict (Now false) (within row points)) (nat_lt retries nth) refl
      on_conflict false clock word outside m = tries_on m [] (nat_lt retries nth) refl
      on_conflict false clock word (begins row) m = tries_on m [] (nat_lt retries nth) refl
      on_conflict was clock word stage m = absurd m.stage

      on_restart : (clock word : ℕ) (stage : Stage) → IsAnswering true true deep before left (At stage) call (Restarted clock word) → GoesOn true true deep before left (At stage) (took_in rules retries (At stage) call (Restarted clock word) (Now true))
      on_restart clock word (within row points) m = record {
        tried = m.tried;
        tries = m.tries;
        stage = tt;
        on = λ none. record {
          nested = nested_again rules player m.nested;
          depth = (m.nested.blocks (rules.depth player) m.nested.deep (omega arith)).depth ∙ m.fits.2;
          falls = falls_back rules retries restarts nth before left player m.nested m.leaves;
        };
      }
      on_restart clock word stage m = absurd m.stage

      pub took_on : (was now : Bool) (stage : Stage) (a : Answer) → IsAnswering was now deep before left (At stage) call a → GoesOn was now deep before left (At stage) (took_in rules retries (At stage) call a (Now now))
      took_on was now stage (Reply r) m = on_reply was now stage r m
      took_on true false stage (Committed at' wrote) m = closes m Done ((λ i. depth_after (m.fits.3 i) (m.fits.2 i) Done) ∙ sym m.deep_now) _
      took_on was false stage (Conflict clock word) m = on_conflict was clock word stage m
      took_on true true stage (Restarted clock word) m = on_restart clock word stage m
      took_on false false stage (Busy clock) m = tries_on m [] (nat_lt retries nth) refl
      took_on was false stage (Full at') m = record { tried = m.tried; tries = m.tries; stage = tt; on = λ none. absurd (cc) }
      took_on was now stage a m = absurd (let fits = m.fits in cc)

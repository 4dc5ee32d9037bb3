-- How a thread's row of calls ended.
use Rattle.std.proofs.Common.{◌≡◌, inl, inr, ℕ, ◌<◌, Bool, true, false, nat_lt, if◌then◌else◌, ◌+◌, List, [], Option, None, Some, ltb-true, refl}
use Rattle.report_rules.proofs.Common.{Account, Attempt, Busy, Call, Committed, Conflict, End, EndsWhere, Finished, Full, Gating, GaveUp, IsLast, NoMemory, Reply, Restarted, Rules, Standing, Thread, Words, thread_rules}
use Rattle.itm_types.specs.declared.call.Reply.{Reply as Replied}
use Rattle.norec_core.specs.declared.answer.Answer.{Answer}
use Rattle.tx_attempts.specs.declared.attempt.Outcome.TheVariants as outcomes
use Rattle.tx_runs.specs.declared.savepoint.Savepoint.{Savepoint}
use Rattle.tx_runs.specs.Tallies.{Stage, Stand, Taken, Tally, begins, outside, over_as, replied, sent_back, took_in, tried, went_on, within, stand_of}
use Rattle.worker_rules.specs.Calls.{StopsAt, asked}

went_on_end : {P : Type 0} (open_still : Bool) (t : Tally P) (row : Attempt) (points : List Savepoint) (s : Stand) → (went_on open_still t row points s).end ≡ None
went_on_end true t row points s = refl
went_on_end open_still t row points s = refl

replied_end : {P : Type 0} (stage : Stage) (t : Tally P) (call : Call) (reply : Replied) (s : Stand) → (replied stage t call reply s).end ≡ None
replied_end outside t call reply s = refl
replied_end (begins row) t call reply s = refl
replied_end (within row points) t call reply s = went_on_end s.is_open t _ _ s

none_is_some : (o : Option End) (end : End) → o ≡ None → o ≡ Some end → ⊥
none_is_some o end n e = cc

tried_end : {P : Type 0} (retries : ℕ) (t : Tally P) (over : List Attempt) → (tried retries t over).end ≡ Some GaveUp → retries < t.nth
tried_end {P} retries t over e = by_test (nat_lt retries t.nth) refl e
  where
    by_test : (b : Bool) → nat_lt retries t.nth ≡ b
        → (let taken : Taken P = if b then record { tally = record t { stage = outside }; over = over; end = Some GaveUp } else record { tally = record t { nth = t.nth + 1; stage = outside }; over = over; end = None } in taken.end ≡ Some GaveUp) → retries < t.nth
    by_test true is f = ltb-true retries t.nth is
    by_test false is f = absurd (none_is_some None GaveUp refl f)

-- a run gives up only at an answer after which there is no further try
last_of : {P : Type 0} (rules : Rules P) (retries : ℕ) (t : Tally P) (call : Call) (answer : Answer) (s : Stand) → (took_in rules retries t call answer s).end ≡ Some GaveUp → IsLast retries t.nth answer
last_of rules retries t call (Reply reply) s e = none_is_some _ GaveUp (replied_end t.stage (record t { player = rules.answered t.player reply }) call reply s) e
last_of rules retries t call (Committed at wrote) s e = none_is_some None GaveUp refl e
last_of rules retries t call (Conflict clock word) s e = tried_end retries (record t { player = sent_back rules t.stage t.player }) (over_as outcomes.Conflict s t.stage) e
last_of rules retries t call (Restarted clock word) s e = none_is_some None GaveUp refl e
last_of rules retries t call (Busy clock) s e = tried_end retries t [] e
last_of rules retries t call (Full at) s e = tt

pub ends_where : (words : Words) (number retries : ℕ) (gate : Gating) (call : ℕ) (end : End) (a : Account Thread) (s : Standing) (a' : Account Thread) (s' : Standing) → StopsAt words thread_rules number retries gate call end a s a' s' → EndsWhere words number retries gate call end a s a' s'
ends_where words number retries gate call Finished a s a' s' k = k.0
ends_where words number retries gate call GaveUp a s a' s' (inl k) = inl k
ends_where words number retries gate call GaveUp a s a' s' (inr (made, passed)) = inr (made, last_of thread_rules retries (asked words thread_rules number retries s a made.call) made.call made.answer (stand_of s'.engine) made.end_is)
ends_where words number retries gate call NoMemory a s a' s' k = tt

-- What an answer makes of a tally, whichever it was.
use Rattle.std.proofs.Common.{◌≡◌, ◌⊎◌, inl, inr, ℕ, ◌+◌, Bool, true, false, nat_lt, if◌then◌else◌, List, [], ◌∷◌, Some, None, refl, sym, ap, ◌∙◌}
use Rattle.tx_runs.proofs.Common.{Attempt, Call, Done, Replied, Rules, Stage, Stand, Taken, Tally, begins, cut_back, ending_as, entered, gone_back, outside, over_as, ran_on, savepoints_after, sent_back, stage_with, took_in, went_on, with_call, within}
use Rattle.norec_core.specs.declared.answer.Answer.{Answer}
use Rattle.norec_core.specs.declared.answer.Answer.TheVariants.{Busy, Committed, Conflict, Full, Reply, Restarted}
use Rattle.norec_core.specs.Restarts.{IsRestart}
use Rattle.tx_attempts.specs.declared.attempt.Outcome.{Outcome}
use Rattle.tx_runs.{specs.declared.savepoint.Savepoint.Savepoint, specs.declared.ending.End.TheVariants.GaveUp}
use Rattle.tx_attempts.specs.declared.attempt.Outcome.TheVariants as outcomes

-- an attempt is open: the one that was, with a reply to its call; or the one whose begin was accepted; or the one that was, as its innermost block has gone back
abbrev pub OpensBy : Stage → Call → Answer → Stand → Attempt → List Savepoint → Type 0
OpensBy g call (Reply reply) s row points = ((old : Attempt) × (at : List Savepoint) × (g ≡ within old at) × (row ≡ record (with_call call reply old) { ran = ran_on old.ran old.restarts s.ran }) × (points ≡ savepoints_after at old (record { call = call; reply = reply })))
    ⊎ ((old : Attempt) × (g ≡ begins old) × (row ≡ record old { at = s.at }) × (points ≡ []))
OpensBy g call (Restarted clock word) s row points = (old : Attempt) × (g ≡ within old points) × (row ≡ cut_back points s.arena s.ran old)
OpensBy g call _ s row points = ⊥

-- how an attempt has ended that is over by it
abbrev pub outcome_by : Answer → Outcome
outcome_by (Reply reply) = outcomes.Cancelled
outcome_by (Committed at wrote) = if wrote then outcomes.Committed else outcomes.ReadOnly
outcome_by (Full at) = outcomes.Full
outcome_by answer = outcomes.Conflict

-- none is over, or the one that was open, with this outcome and position
abbrev pub EndedIn : Stage → Outcome → ℕ → List Attempt → Type 0
EndedIn g outcome at over = (over ≡ []) ⊎ ((old : Attempt) × (points : List Savepoint) × (now : Attempt) × (g ≡ within old points) × (over ≡ now ∷ []) × (now.thread ≡ old.thread) × (now.outcome ≡ outcome) × (now.at ≡ at))

-- a try that came to nothing: the last one, or not
abbrev pub tried_as : {P : Type 0} → Bool → Tally P → List Attempt → Taken P
tried_as b t over = if b then record { tally = record t { stage = outside }; over = over; end = Some GaveUp } else record { tally = record t { nth = t.nth + 1; stage = outside }; over = over; end = None }

-- by the stage before
pub record IsTaken {P : Type 0} (g : Stage) (call : Call) (answer : Answer) (s : Stand) (taken : Taken P) : Type 0 where
  pub idle : g ≡ outside → taken.tally.stage ≡ outside
  pub begun : (IsRestart answer → (row : Attempt) → g ≡ begins row → ⊥) → (row : Attempt) → taken.tally.stage ≡ begins row → ⊥
  pub still : (row : Attempt) (points : List Savepoint) → taken.tally.stage ≡ within row points → (taken.over ≡ []) × (taken.end ≡ None) × OpensBy g call answer s row points
  pub over : EndedIn g (outcome_by answer) s.at taken.over
  pub end : (taken.end ≡ None) ⊎ (taken.end ≡ Some GaveUp)

over_ended : (outcome : Outcome) (s : Stand) (g : Stage) → EndedIn g outcome s.at (over_as outcome s g)
over_ended outcome s (within row at) = inr (row, at, ending_as outcome s row, refl, refl, refl, refl, refl)
over_ended outcome s g = inl refl

with_ended : (outcome : Outcome) (s : Stand) (call : Call) (reply : Replied) (g : Stage) → EndedIn g outcome s.at (over_as outcome s (stage_with call reply g))
with_ended outcome s call reply (within row at) = inr (row, at, ending_as outcome s (with_call call reply row), refl, refl, refl, refl, refl)
with_ended outcome s call reply g = inl refl

module _ {P : Type 0} (call : Call) (s : Stand) where
  shut : (g : Stage) (answer : Answer) (taken : Taken P) → taken.tally.stage ≡ outside → EndedIn g (outcome_by answer) s.at taken.over → (taken.end ≡ None) ⊎ (taken.end ≡ Some GaveUp) → IsTaken g call answer s taken
  shut g answer taken out over end = record { idle = λ e. out; begun = λ none row e. cc; still = λ row points e. absurd (cc); over = over; end = end }

  tried_taken : (g : Stage) (answer : Answer) (b : Bool) (t : Tally P) (over : List Attempt) → EndedIn g (outcome_by answer) s.at over → IsTaken g call answer s (tried_as b t over)
  tried_taken g answer true t over ended = shut g answer _ refl ended (inr refl)
  tried_taken g answer false t over ended = shut g answer _ refl ended (inl refl)

  module _ (reply : Replied) (t : Tally P) (old : Attempt) where
    entered_taken : (b : Bool) → IsTaken (begins old) call (Reply reply) s (record { tally = entered b t old s; over = []; end = None })
    entered_taken true = record {
      idle = λ e. absurd (cc);
      begun = λ none row e. cc;
      still = λ row points e. (refl, refl, inr (old, refl, (let same : record old { at = s.at } ≡ row = cc in sym same), (let same : [] ≡ points = cc in sym same)));
      over = inl refl;
      end = inl refl;
    }
    entered_taken false = shut (begins old) (Reply reply) _ refl (inl refl) (inl refl)

    went_taken : (at : List Savepoint) (b : Bool) → IsTaken (within old at) call (Reply reply) s (went_on b t (with_call call reply old) (savepoints_after at old (record { call = call; reply = reply })) s)
    went_taken at true = record {
      idle = λ e. absurd (cc);
      begun = λ none row e. cc;
      still = λ row points e. (
        refl,
        refl,
        inl (old, at, refl, (let same : record (with_call call reply old) { ran = ran_on old.ran old.restarts s.ran } ≡ row = cc in sym same), (let same : savepoints_after at old (record { call = call; reply = reply }) ≡ points = cc in sym same)),
      );
      over = inl refl;
      end = inl refl;
    }
    went_taken at false = shut (within old at) (Reply reply) _ refl (with_ended outcomes.Cancelled s call reply (within old at)) (inl refl)

  back_taken : (rules : Rules P) (clock word : ℕ) (t : Tally P) (g : Stage) → IsTaken g call (Restarted clock word) s (record { tally = gone_back rules (record t { stage = g }) g s; over = []; end = None })
  back_taken rules clock word t outside = shut outside (Restarted clock word) _ refl (inl refl) (inl refl)
  back_taken rules clock word t (begins old) = record { idle = λ e. absurd (cc); begun = λ none row e. none tt old refl; still = λ row points e. absurd (cc); over = inl refl; end = inl refl }
  back_taken rules clock word t (within old at) = record {
    idle = λ e. absurd (cc);
    begun = λ none row e. cc;
    still = λ row points e. (
      refl,
      refl,
      (old, (let same : at ≡ points = cc in ap (within old) same), (let same : cut_back at s.arena s.ran old ≡ row = cc in let there : at ≡ points = cc in sym same ∙ ap (λ (x : List Savepoint). cut_back x s.arena s.ran old) there)),
    );
    over = inl refl;
    end = inl refl;
  }

  pub is_taken : (rules : Rules P) (retries : ℕ) (player : P) (nth : ℕ) (again : Bool) (g : Stage) (answer : Answer) → IsTaken g call answer s (took_in rules retries (record { player = player; nth = nth; again = again; stage = g }) call answer s)
  is_taken rules retries player nth again outside (Reply reply) = shut outside (Reply reply) _ refl (inl refl) (inl refl)
  is_taken rules retries player nth again (begins old) (Reply reply) = entered_taken reply (record { player = rules.answered player reply; nth = nth; again = again; stage = begins old }) old s.is_open
  is_taken rules retries player nth again (within old at) (Reply reply) = went_taken reply (record { player = rules.answered player reply; nth = nth; again = again; stage = within old at }) old at s.is_open
  is_taken rules retries player nth again g (Committed at wrote) = shut g (Committed at wrote) _ refl (with_ended (if wrote then outcomes.Committed else outcomes.ReadOnly) s call Done g) (inl refl)
  is_taken rules retries player nth again g (Conflict clock word) = tried_taken g (Conflict clock word) (nat_lt retries nth) (record { player = sent_back rules g player; nth = nth; again = again; stage = g }) (over_as outcomes.Conflict s g) (over_ended outcomes.Conflict s g)
  is_taken rules retries player nth again g (Busy clock) = tried_taken g (Busy clock) (nat_lt retries nth) (record { player = player; nth = nth; again = again; stage = g }) [] (inl refl)
  is_taken rules retries player nth again g (Full at) = shut g (Full at) _ refl (over_ended outcomes.Full s g) (inr refl)
  is_taken rules retries player nth again g (Restarted clock word) = back_taken rules clock word (record { player = player; nth = nth; again = again; stage = g }) g

-- where an attempt is open afterwards, none is over
pub within_untold : {P : Type 0} (rules : Rules P) (retries : ℕ) (t : Tally P) (call : Call) (answer : Answer) (s : Stand) (row : Attempt) (points : List Savepoint)
    → (took_in rules retries t call answer s).tally.stage ≡ within row points → (took_in rules retries t call answer s).over ≡ []
within_untold rules retries t call answer s row points is = ((is_taken call s rules retries t.player t.nth t.again t.stage answer).still row points is).0

-- Each attempt that a row of calls tells of was begun by one of them.
use Rattle.std.proofs.Common.{◌≡◌, ℕ, zero, suc, Bool, true, false, nat_lt, List, [], ◌∷◌, ◌++◌, None, Some, refl, sym, ap, subst, ◌∙◌, inl, inr, unwrap_or}
use Rattle.std.proofs.lemmas.Bool.{cases_Bool}
use Rattle.worker_rules.proofs.Common.{Account, Answer, Attempt, Begin, Busy, Call, Committed, Conflict, Full, Outcome, Replied, Reply, Restarted, Rules, Savepoint, Stage, Stand, Standing, StopsAt, Taken, Tally, Words, account_after, asked, begins, begun, commits_known, cut_back, entered, first_account, irrevocable_room, is_taken, outside, over_as, savepoints_after, stage_at, stand_of, told, took_in, tried_as, view_of, with_call, within}
use Rattle.itm_types.specs.declared.call.Props.{Props}
use Rattle.itm_types.specs.declared.call.Reply.TheVariants.{Done}
use Rattle.tx_attempts.specs.declared.attempt.Outcome.TheVariants as outcomes
use Rattle.tx_runs.specs.Tallies.{gone_back, replied, sent_back, stage_with, went_on}
use Rattle.tx_runs.specs.declared.ending.End.{End}
use Rattle.tx_runs.specs.declared.ending.End.TheVariants as ends
use Rattle.worker_rules.specs.Calls.{AllBegun, HasMade, IsBegunIn, as_begun}
use Rattle.worker_rules.specs.Gates.{Gating, call_number}

-- ## What an answer keeps of how attempts were begun

module _ (K : Attempt → Type 0) where
  -- it holds of the attempt that is open
  abbrev Open : Stage → Type 0
  Open outside = Unit {0}
  Open (begins row) = Unit {0}
  Open (within row points) = K (as_begun row)

  -- and of one that is to be opened
  abbrev In : Stage → Type 0
  In outside = Unit {0}
  In (begins row) = K (as_begun row)
  In (within row points) = K (as_begun row)

  open_in : (g : Stage) → In g → Open g
  open_in outside k = tt
  open_in (begins row) k = tt
  open_in (within row points) k = k

  over : (outcome : Outcome) (s : Stand) (g : Stage) → Open g → AllBegun K (over_as outcome s g)
  over outcome s outside k = tt
  over outcome s (begins row) k = tt
  over outcome s (within row points) k = (k, tt)

  more : (xs ys : List Attempt) → AllBegun K xs → AllBegun K ys → AllBegun K (xs ++ ys)
  more [] ys k l = l
  more (x ∷ xs) ys k l = (k.0, more xs ys k.1 l)

  -- a call comes
  came_in : (g : Stage) (call : Call) (row : Props → Attempt) (ahead : ℕ) → In g → ((props : Props) (room : ℕ) → call ≡ Begin props room → g ≡ outside → K (as_begun (row props))) → In (stage_at g call row ahead)
  came_in outside (Begin props room) row ahead k begins_it = begins_it props room refl refl
  came_in outside call row ahead k begins_it = tt
  came_in (begins old) call row ahead k begins_it = k
  came_in (within old points) call row ahead k begins_it = k

  came_open : (g : Stage) (call : Call) (row : Props → Attempt) (ahead : ℕ) → Open g → Open (stage_at g call row ahead)
  came_open outside (Begin props room) row ahead k = tt
  came_open outside call row ahead k = tt
  came_open (begins old) call row ahead k = tt
  came_open (within old points) call row ahead k = k

  -- the innermost block goes back
  cut_in : (s : Stand) (points : List Savepoint) (row : Attempt) → K (as_begun row) → K (as_begun (cut_back points s.arena s.ran row))
  cut_in s [] row k = k
  cut_in s (p ∷ outer) row k = k

  -- a commit ends it
  commit_over : (call : Call) (s : Stand) (outcome : Outcome) (g : Stage) → Open g → AllBegun K (over_as outcome s (stage_with call Done g))
  commit_over call s outcome outside k = tt
  commit_over call s outcome (begins row) k = tt
  commit_over call s outcome (within row points) k = (k, tt)

  module _ {P : Type 0} (call : Call) (s : Stand) where
    -- ## Those that are over by the answer

    reply_over : (g : Stage) (t : Tally P) (reply : Replied) → Open g → AllBegun K (replied g t call reply s).over
    reply_over outside t reply k = tt
    reply_over (begins row) t reply k = tt
    reply_over (within row points) t reply k =
        elim s.is_open as (λ (b : Bool). AllBegun K (went_on b t (with_call call reply row) (savepoints_after points row (record { call = call; reply = reply })) s).over) [ true ↦ tt | false ↦ (k, tt) ]

    tried_over : (b : Bool) (t : Tally P) (xs : List Attempt) → AllBegun K xs → AllBegun K (tried_as b t xs).over
    tried_over true t xs k = k
    tried_over false t xs k = k

    took_over : (rules : Rules P) (retries : ℕ) (t : Tally P) (answer : Answer) → Open t.stage → AllBegun K (took_in rules retries t call answer s).over
    took_over rules retries t (Reply reply) k = reply_over t.stage (record t { player = rules.answered t.player reply }) reply k
    took_over rules retries t (Committed at wrote) k = commit_over call s _ t.stage k
    took_over rules retries t (Conflict clock word) k = tried_over (nat_lt retries t.nth) (record t { player = sent_back rules t.stage t.player }) (over_as outcomes.Conflict s t.stage) (over outcomes.Conflict s t.stage k)
    took_over rules retries t (Restarted clock word) k = tt
    took_over rules retries t (Busy clock) k = tried_over (nat_lt retries t.nth) t [] tt
    took_over rules retries t (Full at) k = over outcomes.Full s t.stage k

    -- ## The one that is open after it

    reply_in : (g : Stage) (t : Tally P) (reply : Replied) → In t.stage → In g → In (replied g t call reply s).tally.stage
    reply_in outside t reply k l = k
    reply_in (begins row) t reply k l = elim s.is_open as (λ (b : Bool). In (entered b t row s).stage) [ true ↦ l | false ↦ tt ]
    reply_in (within row points) t reply k l =
        elim s.is_open as (λ (b : Bool). In (went_on b t (with_call call reply row) (savepoints_after points row (record { call = call; reply = reply })) s).tally.stage) [ true ↦ l | false ↦ tt ]

    tried_in : (b : Bool) (t : Tally P) (xs : List Attempt) → In (tried_as b t xs).tally.stage
    tried_in true t xs = tt
    tried_in false t xs = tt

    back_in : (rules : Rules P) (g : Stage) (t : Tally P) → In t.stage → In g → In (gone_back rules t g s).stage
    back_in rules outside t k l = k
    back_in rules (begins row) t k l = k
    back_in rules (within row points) t k l = cut_in s points row l

    took_stage : (rules : Rules P) (retries : ℕ) (t : Tally P) (answer : Answer) → In t.stage → In (took_in rules retries t call answer s).tally.stage
    took_stage rules retries t (Reply reply) k = reply_in t.stage (record t { player = rules.answered t.player reply }) reply k k
    took_stage rules retries t (Committed at wrote) k = tt
    took_stage rules retries t (Conflict clock word) k = tried_in (nat_lt retries t.nth) (record t { player = sent_back rules t.stage t.player }) (over_as outcomes.Conflict s t.stage)
    took_stage rules retries t (Restarted clock word) k = back_in rules t.stage t k k
    took_stage rules retries t (Busy clock) k = tried_in (nat_lt retries t.nth) t []
    took_stage rules retries t (Full at) k = tt

  -- ## All that are told

  told_all : {P : Type 0} (a : Account P) (s : Stand) → Open a.stage → AllBegun K a.ended → AllBegun K (told a s)
  told_all a s k l = more a.ended (over_as outcomes.Unfinished s a.stage) l (over outcomes.Unfinished s a.stage k)

module _ {K L : Attempt → Type 0} (weaker : (x : Attempt) → K x → L x) where
  all_weaker : (xs : List Attempt) → AllBegun K xs → AllBegun L xs
  all_weaker [] k = tt
  all_weaker (x ∷ xs) k = (weaker (as_begun x) k.0, all_weaker xs k.1)

  in_weaker : (g : Stage) → In K g → In L g
  in_weaker outside k = tt
  in_weaker (begins row) k = weaker (as_begun row) k
  in_weaker (within row points) k = weaker (as_begun row) k

-- ## In a row of calls

module _ {P : Type 0} (words : Words) (rules : Rules P) (number retries : ℕ) (gate : Gating) (player : P) (start : Standing) where
  abbrev Made : ℕ → Account P → Standing → Type 0
  Made n a s = HasMade words rules number retries gate n (first_account player) start a s

  abbrev By : (n : ℕ) (a : Account P) (s : Standing) → Made n a s → Attempt → Type 0
  By n a s made x = IsBegunIn words rules number retries gate n (first_account player) start a s made x

  abbrev Told : Account P → Standing → Call → Answer → Standing → Taken P
  Told a s call answer s' = took_in rules retries (asked words rules number retries s a call) call answer (stand_of s'.engine)

  abbrev opens : Account P → Standing → Call → Props → Attempt
  opens a s call props = begun number a.nth (commits_known (view_of s.pass)) props s.engine.arena (unwrap_or (irrevocable_room s.engine call) 0)

  -- of the attempts so far each was begun by one of the calls so far
  begun_by : (n : ℕ) (a : Account P) (s : Standing) (made : Made n a s) → In (By n a s made) a.stage × AllBegun (By n a s made) a.ended
  begun_by zero a s made = subst (λ (x : Account P). In (λ (b : Attempt). ⊥) x.stage × AllBegun (λ (b : Attempt). ⊥) x.ended) (sym made.0) (tt, tt)
  begun_by (suc n) a s made =
      let last : Account P = made.0 in
      let then : Standing = made.1 in
      let m = made.3 in
      let K : Attempt → Type 0 = By (suc n) a s made in
      let before = begun_by n last then made.2 in
      let ahead : ℕ = unwrap_or (irrevocable_room then.engine m.call) 0 in
      let came = came_in K last.stage m.call (opens last then m.call) ahead (in_weaker {K = By n last then made.2} {L = K} (λ x k. inr k) last.stage before.0) (λ props room is out. inl (record { stage = out; room = room; asks = m.asks ∙ ap Some is; is = refl })) in
      let t = asked words rules number retries then last m.call in
      subst (λ (x : Account P). In K x.stage × AllBegun K x.ended) (sym m.account) (
        took_stage K m.call (stand_of s.engine) rules retries t m.answer came,
        more K last.ended _ (all_weaker {K = By n last then made.2} {L = K} (λ x k. inr k) last.ended before.1) (took_over K m.call (stand_of s.engine) rules retries t m.answer (open_in K t.stage came)),
      )

  -- and so was each that is told
  module _ (n : ℕ) (a : Account P) (s : Standing) (made : Made n a s) where
    abbrev K : Attempt → Type 0
    K = By n a s made

    now_open : Open K a.stage
    now_open = open_in K a.stage (begun_by n a s made).0

    so_far : AllBegun K a.ended
    so_far = (begun_by n a s made).1

    shut : (call : Call) (answer : Answer) (t : Standing) → (Told a s call answer t).end ≡ Some ends.GaveUp → (g : Stage) → (Told a s call answer t).tally.stage ≡ g → Open K g
    shut call answer t end outside is = tt
    shut call answer t end (begins row) is = tt
    shut call answer t end (within row points) is =
        let x = asked words rules number retries s a call in
        let none = ((is_taken call (stand_of t.engine) rules retries x.player x.nth x.again x.stage answer).still row points is).1 in
        absurd (let no : None ≡ Some ends.GaveUp = sym none ∙ end in cc)

    pub told_begun : (end : End) (left : Account P) (t : Standing) → StopsAt words rules number retries gate (call_number n) end a s left t → AllBegun K (told left (stand_of t.engine))
    told_begun ends.Finished left t k = subst (λ (x : Account P). AllBegun K (told x (stand_of t.engine))) (sym k.1) (told_all K a (stand_of t.engine) now_open so_far)
    told_begun ends.GaveUp left t k = elim k [
      | inl x ↦ subst (λ (x : Account P). AllBegun K (told x (stand_of t.engine))) (sym x.account) (told_all K a (stand_of t.engine) now_open so_far)
      | inr y ↦
          (let m = y.0 in
          let x = asked words rules number retries s a m.call in
          let here : Open K x.stage = came_open K a.stage m.call (opens a s m.call) (unwrap_or (irrevocable_room s.engine m.call) 0) now_open in
          subst (λ (x : Account P). AllBegun K (told x (stand_of t.engine))) (sym m.account)
          (told_all K (account_after a (Told a s m.call m.answer t)) (stand_of t.engine) (shut m.call m.answer t m.end_is (Told a s m.call m.answer t).tally.stage refl)
          (more K a.ended _ so_far (took_over K m.call (stand_of t.engine) rules retries x m.answer here))))
    ]
    told_begun ends.NoMemory left t k = elim (cases_Bool s.engine.irrevocable) [
      | inl held ↦ subst (λ (x : Account P). AllBegun K (told x (stand_of t.engine))) (sym (k.0.held held)) (told_all K a (stand_of t.engine) now_open so_far)
      | inr free ↦
          subst (λ (x : Account P). AllBegun K (told x (stand_of t.engine))) (sym (k.0.over free))
          (told_all K (record a { stage = outside; ended = a.ended ++ over_as outcomes.NoMemory (stand_of t.engine) a.stage }) (stand_of t.engine) tt (more K a.ended _ so_far (over K outcomes.NoMemory (stand_of t.engine) a.stage now_open)))
    ]

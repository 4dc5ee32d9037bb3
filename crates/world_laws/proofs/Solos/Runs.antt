-- The run of an actor that has its world to itself is what its player does alone.
use Rattle.std.proofs.Common.{◌≡◌, inl, inr, ℕ, suc, ◌+◌, ◌<◌, ◌≤◌, ◌==◌, ◌&&◌, Bool, true, false, nat_le, if◌then◌else◌, List, [], ◌∷◌, ◌++◌, map, Option, Some, refl, sym, ap, subst, ◌∙◌, arith, eqb-true, eq-eqb, leb-true}
use Rattle.world_laws.proofs.Common.{AreSole, Attempt, Beginning, Between, Call, CallRecord, ClosedBy, EndsAs, IsAlone, IsFirstTry, IsOpaque, IsRunOf, Obeys, Outcome, Progress, Reply, Rules, Solo, State, aborts, after, after_try, alone, answered_all, answers, answers_on, answers_through, answers_within, begin_code, begin_of, breaks_of, bytes_at, cases_Bool, committed_at, ended_as, false_from_ne_true, follows, is_abort, is_at, is_committed, is_done, is_open, memory_left, one_if, opened, pair_of, player_then, ran_of, replies_of, reply, row_of, run_after, solo_within, state_then, try_begun, turn, unbroken, with_all, with_first}
use Rattle.tx_attempts.specs.declared.attempt.Outcome.TheVariants as outcomes
use Rattle.world_laws.{proofs.Solos.Players.aborts_snoc, proofs.Solos.Players.ended_block, proofs.Solos.TakingCalls.stands_then}
use Rattle.tx_history.{proofs.Runs.AloneCalls.same_head, proofs.Runs.AloneCalls.same_tail, proofs.Runs.UnwrittenTransactions.stands_opened}

-- ## The calls of an attempt

module _ {P : Type 0} (rules : Rules P) (deepest : ℕ) where
  -- a beginning of what a player gets was made alone
  pub alone_of : (n : ℕ) (p : P) (s : State) (o : Option Call) (xs : List CallRecord) (rest : List (Call × Reply)) → turn rules.next_call rules.answered rules.calls_left p s ≡ o → map pair_of xs ++ rest ≡ answers_within rules.next_call rules.answered rules.calls_left deepest n p s o
      → IsAlone rules deepest unbroken p s xs
  alone_of n p s o [] rest t e = tt
  alone_of (suc n) p s (Some c) (x ∷ xs) rest t e =
      let q : P = rules.answered p (reply deepest s c) in
      let first : pair_of x ≡ (c, reply deepest s c) = same_head _ _ _ _ e in
      let call : x.call ≡ c = ap (λ (y : Call × Reply). y.0) first in
      let replied : x.reply ≡ reply deepest s c = ap (λ (y : Call × Reply). y.1) first in (
        t ∙ ap Some (sym call),
        replied ∙ ap (reply deepest s) (sym call),
        subst (λ (r : Reply). IsAlone rules deepest unbroken (rules.answered p r) (after deepest s x.call) xs) (sym replied)
            (subst (λ (k : Call). IsAlone rules deepest unbroken q (after deepest s k) xs) (sym call) (alone_of n q (after deepest s c) (turn rules.next_call rules.answered rules.calls_left q (after deepest s c)) xs rest refl (same_tail _ _ _ _ e))),
      )
  alone_of n p s o (x ∷ xs) rest t e = absurd (cc)

-- ## Block after block

-- they do not go down
sole_up : (n : ℕ) (xs : List Attempt) (k : ℕ) → AreSole n xs k → n ≤ k
sole_up n [] k s = omega (arith, s)
sole_up n (a ∷ rest) k s = (let l = sole_up (n + one_if (is_committed a.outcome)) rest k s.4 in omega arith)

not_full : (w : Bool) (n m : ℕ) → (w ≡ true → n < m) → (w && nat_le m n) ≡ false
not_full false n m l = refl
not_full true n m l = false_from_ne_true (nat_le m n) (λ e. (let most = leb-true m n e in let less = l refl in omega arith))

-- a player between two blocks, as the headline has it
abbrev pub between : {P : Type 0} → Progress P → Between P
between b = record { player = b.player; arena = b.arena; again = false; tries = 0 }

module _ {P : Type 0} (rules : Rules P) (laws : Obeys rules) (max_commits : ℕ) (deepest : ℕ) (base : List ℕ) (all : List Attempt) (total : ℕ) where
  abbrev goes : ℕ → Progress P → Solo
  goes n b = solo_within rules deepest max_commits 0 n b

  -- the attempt is of the block that the player comes to
  pub record IsNext (b : Progress P) (a : Attempt) : Type 0 where
    pub start : Beginning P
    pub comes : begin_of rules deepest b.player b.arena ≡ Some start
    pub arena : a.arena ≡ start.arena
    pub props : a.props ≡ start.props
    pub opaque : IsOpaque rules deepest (rules.answered start.player (begin_code false)) a total (bytes_at deepest base all a.at)
    pub restarts : a.restarts ≡ []
    pub leads : after_try rules deepest (bytes_at deepest base all) (between b) (begin_of rules deepest b.player b.arena) a
        ≡ follows rules deepest a.outcome (rules.answered start.player (begin_code false)) a (alone deepest (bytes_at deepest base all a.at) a)

  pub is_next : (b : Progress P) (a : Attempt) (rest : List Attempt) → IsRunOf rules deepest total (bytes_at deepest base all) (Some (between b)) (a ∷ rest) → a.restarts ≡ [] → IsNext b a
  is_next b a rest r none =
      let t = try_begun rules deepest total (bytes_at deepest base all) (between b) a (begin_of rules deepest b.player b.arena) r.0 in
      record { start = t.0; comes = t.1; arena = t.2.0; props = t.2.1; opaque = t.2.3; restarts = none; leads = ap (λ (o : Option (Beginning P)). after_try rules deepest (bytes_at deepest base all) (between b) o a) t.1 }

  -- such an attempt, which reads where all before it had committed
  module _ (b : Progress P) (a : Attempt) (x : IsNext b a) (now : b.memory ≡ bytes_at deepest base all b.commits) (first : IsFirstTry b.commits a) (at : a.at ≡ b.commits) where
    abbrev pub begun : P
    begun = rules.answered x.start.player (begin_code false)

    bytes : bytes_at deepest base all a.at ≡ b.memory
    bytes = ap (bytes_at deepest base all) at ∙ sym now

    pub same_state : alone deepest (bytes_at deepest base all a.at) a ≡ state_then deepest unbroken (opened b.memory x.start.arena x.start.props) a.calls.list
    same_state = λ i. state_then deepest (breaks_of (x.restarts i)) (opened (bytes i) (x.arena i) (x.props i)) a.calls.list

    pub same_answers : answers_on rules deepest (rules.answered x.start.player (begin_code false)) a (bytes_at deepest base all a.at) ≡ answers rules.next_call rules.answered rules.calls_left deepest (rules.answered x.start.player (begin_code false)) b.memory x.start.arena x.start.props
    same_answers = λ i. answers_through rules.next_call rules.answered rules.calls_left deepest (breaks_of (x.restarts i)) begun (bytes i) (x.arena i) (x.props i)

    pub same_row : (outcome : Outcome) (room : ℕ) → outcome ≡ a.outcome → room ≡ a.calls.room → row_of deepest 0 b x.start (record { list = a.calls.list; room = room }) outcome ≡ a
    same_row outcome room o z = λ i. record {
      thread = sym first.thread i;
      nth = sym first.nth i;
      began = sym first.began i;
      at = sym at i;
      props = sym x.props i;
      arena = sym x.arena i;
      calls = record { list = a.calls.list; room = z i };
      restarts = sym x.restarts i;
      ran = (ap (λ (k : Outcome). ran_of k (state_then deepest unbroken (opened b.memory x.start.arena x.start.props) a.calls.list)) o ∙ (ap (ran_of a.outcome) (sym same_state) ∙ sym x.opaque.ran)) i;
      outcome = o i;
    }

    pub made_alone : IsAlone rules deepest unbroken (rules.answered x.start.player (begin_code false)) (opened b.memory x.start.arena x.start.props) a.calls.list
    made_alone =
        let s : State = opened b.memory x.start.arena x.start.props in
        alone_of rules deepest (rules.calls_left begun) begun s (turn rules.next_call rules.answered rules.calls_left begun s) a.calls.list x.opaque.beginning.0 refl (x.opaque.beginning.1 ∙ same_answers)

    -- and that ended by its commit
    module _ (done : is_done a.outcome ≡ true) where
      abbrev ended : State
      ended = alone deepest (bytes_at deepest base all a.at) a

      abbrev pub after_it : Progress P
      after_it = record { player = player_then rules.answered (rules.answered x.start.player (begin_code false)) a.calls.list; arena = (alone deepest (bytes_at deepest base all a.at) a).arena; memory = (alone deepest (bytes_at deepest base all a.at) a).memory; commits = b.commits + one_if (is_committed a.outcome) }

      record IsOver (o : Outcome) : Type 0 where
        shut : is_open ended ≡ false
        wrote : ended.wrote ≡ is_committed o
        named : ended_as (aborts (map pair_of a.calls.list)) (is_committed o) ≡ o
        led : follows rules deepest o begun a ended ≡ Some (record { player = answered_all rules.answered begun (replies_of a); arena = ended.arena; again = false; tries = 0 })

      last_is : (before : List CallRecord) (last : CallRecord) → a.calls.list ≡ before ++ last ∷ [] → aborts (map pair_of a.calls.list) ≡ is_abort last.call
      last_is before last e = ap (λ (l : List CallRecord). aborts (map pair_of l)) e ∙ aborts_snoc rules laws deepest max_commits 0 before last

      over_as : (o : Outcome) → is_done o ≡ true → EndsAs o ended → ClosedBy o a.calls.list → IsOver o
      over_as outcomes.Committed d e c = record { shut = e.0; wrote = e.1; named = ap (λ (b : Bool). ended_as b true) (last_is c.0 _ c.1); led = refl }
      over_as outcomes.ReadOnly d e c = record { shut = e.0; wrote = e.1; named = ap (λ (b : Bool). ended_as b false) (last_is c.0 _ c.1); led = refl }
      over_as outcomes.Cancelled d e c = record { shut = e.0; wrote = e.1; named = ap (λ (b : Bool). ended_as b false) (last_is c.0 _ c.2); led = refl }
      over_as o d e c = absurd (cc)

      over : IsOver a.outcome
      over = over_as a.outcome done x.opaque.ends x.opaque.closed

      wrote_then : (state_then deepest unbroken (opened b.memory x.start.arena x.start.props) a.calls.list).wrote ≡ is_committed a.outcome
      wrote_then = ap (λ (s : State). s.wrote) (sym same_state) ∙ over.wrote

      pub goes_past : a.calls.room ≡ 0 → (is_committed a.outcome ≡ true → b.commits < max_commits) → goes (rules.calls_left b.player) b ≡ with_first a (goes (rules.calls_left after_it.player) after_it)
      goes_past spent few =
          ended_block rules laws deepest max_commits 0 b x.start x.comes a.calls.list (sym same_answers ∙ sym (x.opaque.whole over.shut)) made_alone
          (ap is_open (sym same_state) ∙ over.shut) (not_full _ b.commits max_commits (λ w. few (sym wrote_then ∙ w)))
          ∙ (λ i. with_first (same_row (ended_as (aborts (map pair_of a.calls.list)) ((state_then deepest unbroken (opened b.memory x.start.arena x.start.props) a.calls.list).wrote)) 0 (ap (ended_as (aborts (map pair_of a.calls.list))) wrote_then ∙ over.named) (sym spent) i)
          (goes (rules.calls_left after_it.player) (record { player = after_it.player; arena = (sym same_state i).arena; memory = (sym same_state i).memory; commits = b.commits + one_if (wrote_then i) })))

      pub leads_past : after_try rules deepest (bytes_at deepest base all) (between b) (begin_of rules deepest b.player b.arena) a ≡ Some (between after_it)
      leads_past = x.leads ∙ over.led

      -- the memory that it leaves is that of its commit, if it made one
      pub memory_past : (rest : List Attempt) → ((j : ℕ) → b.commits ≤ j → committed_at all j ≡ committed_at (a ∷ rest) j) → after_it.memory ≡ bytes_at deepest base all after_it.commits
      memory_past rest found = by_commit (is_committed a.outcome) refl
        where
          by_commit : (w : Bool) → is_committed a.outcome ≡ w → ended.memory ≡ bytes_at deepest base all (b.commits + one_if w)
          by_commit true e =
              let hit : is_at b.commits a ≡ true = (λ i. e i && (a.at == b.commits)) ∙ eq-eqb a.at b.commits at in
              let it : committed_at all b.commits ≡ Some a = found b.commits (omega arith) ∙ ap (λ (w : Bool). if w then Some a else committed_at rest b.commits) hit in
              ap (λ (k : ℕ). (alone deepest (bytes_at deepest base all k) a).memory) at
              ∙ (ap (memory_left deepest (bytes_at deepest base all b.commits)) (sym it) ∙ ap (bytes_at deepest base all) (let n : suc b.commits ≡ b.commits + 1 = omega arith in n))
          by_commit false e =
              let left_as = (stands_then rules deepest b.memory begun (opened b.memory x.start.arena x.start.props) a.calls.list made_alone (stands_opened deepest b.memory x.start.arena x.start.props)).memory (wrote_then ∙ e) in
              ap (λ (s : State). s.memory) same_state ∙ (left_as ∙ (now ∙ ap (bytes_at deepest base all) (let n : b.commits ≡ b.commits + 0 = omega arith in n)))

      pub found_past : (rest : List Attempt) → ((j : ℕ) → b.commits ≤ j → committed_at all j ≡ committed_at (a ∷ rest) j) → (j : ℕ) → after_it.commits ≤ j → committed_at all j ≡ committed_at rest j
      found_past rest found j l =
          let missed : is_at j a ≡ false = elim (cases_Bool (is_committed a.outcome)) [
            | inl e ↦ (λ i. e i && (a.at == j)) ∙ false_from_ne_true (a.at == j) (λ h. (let same = eqb-true a.at j h in let one = ap one_if e in omega arith))
            | inr e ↦ λ i. e i && (a.at == j)
          ] in
          found j (omega arith) ∙ ap (λ (w : Bool). if w then Some a else committed_at rest j) missed

  -- where these attempts have led the player
  pub record Arrives (b : Progress P) (past tail : List Attempt) (k : ℕ) : Type 0 where
    pub before : Progress P
    pub whole : goes (rules.calls_left b.player) b ≡ with_all past (goes (rules.calls_left before.player) before)
    pub commits : before.commits ≡ k
    pub memory : before.memory ≡ bytes_at deepest base all before.commits
    pub run : IsRunOf rules deepest total (bytes_at deepest base all) (Some (between before)) tail
    pub led : run_after rules deepest (bytes_at deepest base all) (Some (between b)) past ≡ Some (between before)

  pub arrives : (b : Progress P) (past tail : List Attempt) (k : ℕ) → b.memory ≡ bytes_at deepest base all b.commits → ((j : ℕ) → b.commits ≤ j → committed_at all j ≡ committed_at (past ++ tail) j)
      → IsRunOf rules deepest total (bytes_at deepest base all) (Some (between b)) (past ++ tail) → AreSole b.commits past k → k ≤ max_commits → Arrives b past tail k
  arrives b [] tail k now found r sole few = record { before = b; whole = refl; commits = sole; memory = now; run = r; led = refl }
  arrives b (a ∷ past) tail k now found r sole few =
      let x = is_next b a (past ++ tail) r sole.0.unbroken in
      let q : Progress P = after_it b a x now sole.0 sole.1 sole.2 in
      let led = leads_past b a x now sole.0 sole.1 sole.2 in
      let up = sole_up q.commits past k sole.4 in
      let rest = arrives q past tail k (memory_past b a x now sole.0 sole.1 sole.2 (past ++ tail) found) (found_past b a x now sole.0 sole.1 sole.2 (past ++ tail) found)
      (subst (λ (o : Option (Between P)). IsRunOf rules deepest total (bytes_at deepest base all) o (past ++ tail)) led r.1) sole.4 few in
      record {
        before = rest.before;
        whole = goes_past b a x now sole.0 sole.1 sole.2 sole.3 (λ w. (let one = ap one_if w in omega arith)) ∙ ap (with_first a) rest.whole;
        commits = rest.commits;
        memory = rest.memory;
        run = rest.run;
        led = ap (λ (o : Option (Between P)). run_after rules deepest (bytes_at deepest base all) o past) led ∙ rest.led;
      }

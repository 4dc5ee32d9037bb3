-- What a world with one actor shows is what its player does alone.
use Rattle.std.proofs.Common.{◌≡◌, ◌⊎◌, inl, inr, ℕ, zero, suc, ◌+◌, ◌/◌, ◌%◌, ◌≤◌, Bool, true, false, ◌&&◌, ◌==◌, nat_le, if◌then◌else◌, List, [], ◌∷◌, ◌++◌, length, map, replicate, Option, None, Some, slice_get, refl, sym, ap, subst, ◌∙◌, arith, append-nil, le-leb}
use Rattle.world_laws.proofs.Common.{Actor, Again, AreOfActors, AreOpaque, AreSole, AreTied, Attempt, Between, Call, CommitsInOrder, DoneBy, End, EndsAs, EndsWith, Finished, GaveUp, IsAlone, IsFirstTry, IsIdle, IsKeptOut, IsOnWay, IsRunOf, IsSole, NoMemory, Obeys, Outcome, Reply, Rules, ShowsAlone, StandsSole, State, Step, World, active_of, after, alone, alone_whole, and_left, and_right, answers, attempts_of, begin_code, begin_of, begin_within, begins_alone, both_ways, breaks_after, breaks_in, breaks_of, bytes_at, calls_of, committed_at, cond-false, cond-true, current_of, ending_at, ending_of, first_of, gets_none, gets_through, in_transaction, is_committed, is_open, left_open, lt-leb, map-append, memory_of, observed, odd_or_even, of_thread, one_if, open_in, opened, opens, option_and_then, pair_of, pending_of, player_then, reply, row_of, row_open, row_shut, row_unfinished, run_after, run_still, same_Some, solo_within, state_then, state_through, stopped, takes_clock, unbroken, with_all, with_first, with_open, without_room}
use Rattle.world_rules.proofs.Common.{IsBeforeTry, Row, StandsIn, stands_for, HasRow}
use Rattle.tx_runs.proofs.Begins.{before_led}
use Rattle.tx_attempts.specs.declared.attempt.Outcome.TheVariants as outcomes
use Rattle.world_laws.specs.SoFar.{IsBegun, IsSoFar, IsAll}
use Rattle.world_laws.proofs.Solos.Players.{full_block, kept_out, open_block, no_block}
use Rattle.world_rules.proofs.Commits.Memories.{bytes_still}
use Rattle.world_laws.proofs.Solos.Events.{of_actors_first, of_thread_all}
use Rattle.world_laws.proofs.Solos.Worlds.{even_free, even_shut}
use Rattle.world_laws.proofs.Solos.Worlds.{HasSole}
use Rattle.world_laws.proofs.Solos.Runs.{Arrives, IsNext, between, arrives, is_next, same_state, same_answers, same_row, made_alone}
use Rattle.norec_core.specs.Stands.{state_in}
use Rattle.nest_frames.specs.Nest.{Frame}
use Rattle.user_actions.specs.Actions.{Actions}

-- the list of one
one_of : {A : Type 0} (xs : List A) → length xs ≡ 1 → (x : A) × (xs ≡ x ∷ [])
one_of [] e = absurd (omega arith)
one_of (x ∷ []) e = (x, refl)
one_of (x ∷ y ∷ ys) e = absurd (omega arith)

mode_in : (b : Bool) (writes : List Row) (blocks : List Frame) (arena : List ℕ) (actions : Actions) (m : List ℕ) → (state_in b writes blocks arena actions m).irrevocable ≡ b
mode_in true writes blocks arena actions m = refl
mode_in false writes blocks arena actions m = refl

-- of attempts that are over no room is told
told_whole : (n : ℕ) (xs : List Attempt) (k : ℕ) → AreSole n xs k → map without_room xs ≡ xs
told_whole n [] k s = refl
told_whole n (a ∷ rest) k s = λ i. record a { calls = record { list = a.calls.list; room = sym s.3 i } } ∷ told_whole (n + one_if (is_committed a.outcome)) rest k s.4 i

module _ {P : Type 0} (rules : Rules P) (laws : Obeys rules) (w : World P) (commits : CommitsInOrder w) (opaque : AreOpaque rules (observed w)) (tied : AreTied rules w)
    (p : P) (a : Actor P) (players : w.opening ≡ p ∷ []) (actors : w.actors ≡ a ∷ []) (sole : IsSole rules w.limits.max_commits w.limits.depth w.base (first_of p w.arena) w.cells.clock w.attempts a) where
  -- it is the one actor
  player_here : slice_get w.opening 0 ≡ Some p
  player_here = ap (λ (l : List P). slice_get l 0) players

  here : slice_get w.actors 0 ≡ Some a
  here = ap (λ (l : List (Actor P)). slice_get l 0) actors

  all_mine : AreOfActors 1 (attempts_of w)
  all_mine = subst (λ (l : List P). AreOfActors (length l) (attempts_of w)) players opaque.threads

  one : length w.actors ≡ 1
  one = ap (λ (l : List (Actor P)). length l) actors

  -- ## Its open attempt

  row_kept : HasRow (in_transaction a.engine) a
  row_kept = tied.rows 0 a here

  open_are : opens w.actors ≡ with_open (active_of a) []
  open_are = ap (λ (l : List (Actor P)). opens l) actors

  active_none : active_of a ≡ None → opens w.actors ≡ []
  active_none e = open_are ∙ ap (λ (o : Option Attempt). with_open o []) e

  -- ## The player's blocks that are over

  abbrev Arrived : List Attempt → Type 0
  Arrived tail = Arrives rules laws w.limits.max_commits w.limits.depth w.base (attempts_of w) (w.cells.clock / 2) (record { player = p; arena = replicate w.arena 0; memory = w.base; commits = 0 }) sole.past tail (w.cells.clock / 2)

  abbrev So : ℕ → List ℕ → Outcome → Type 0
  So commits memory outcome = IsSoFar rules w.limits.depth w.limits.max_commits 0 p w.base (replicate w.arena 0) commits memory outcome (attempts_of w)

  abbrev All : End → Type 0
  All end = IsAll rules w.limits.depth w.limits.max_commits 0 p w.base (replicate w.arena 0) w.cells (attempts_of w) end

  arrived : (tail : List Attempt) → attempts_of w ≡ sole.past ++ tail → Arrived tail
  arrived tail is =
      arrives rules laws w.limits.max_commits w.limits.depth w.base (attempts_of w) (w.cells.clock / 2) (record { player = p; arena = replicate w.arena 0; memory = w.base; commits = 0 }) sole.past tail (w.cells.clock / 2) refl
      (λ j l. ap (λ (xs : List Attempt). committed_at xs j) is)
      (subst (IsRunOf rules w.limits.depth (w.cells.clock / 2) (bytes_at w.limits.depth w.base (attempts_of w)) (Some (first_of p w.arena))) (of_thread_all (attempts_of w) all_mine ∙ is) (opaque.runs 0 p player_here))
      sole.commit (let few = commits.few in omega arith)

  so_far : (tail : List Attempt) (x : Arrived tail) (outcome : Outcome) → (attempts_of w ≡ sole.past) ⊎ IsBegun rules w.limits.depth w.limits.max_commits 0 x.before sole.past outcome (attempts_of w) → So (w.cells.clock / 2) x.before.memory outcome
  so_far tail x outcome rows = record { before = x.before; past = sole.past; whole = x.whole; commits_are = sym x.commits; memory_is = refl; left = x.memory ∙ ap (bytes_at w.limits.depth w.base (attempts_of w)) x.commits; rows_are = rows }

  left_by : (tail : List Attempt) (x : Arrived tail) → w.cells.clock % 2 ≡ 0 → memory_of w ≡ x.before.memory
  left_by tail x z = opaque.free z ∙ (ap (bytes_at w.limits.depth w.base (attempts_of w)) (sym x.commits) ∙ sym x.memory)

  -- what is told of its attempts
  told_as : (tail : List Attempt) → attempts_of w ≡ sole.past ++ tail → map without_room (attempts_of w) ≡ sole.past ++ map without_room tail
  told_as tail is = ap (map without_room) is ∙ (map-append without_room sole.past tail ∙ ap (λ (l : List Attempt). l ++ map without_room tail) (told_whole 0 sole.past (w.cells.clock / 2) sole.commit))

  -- the player goes no further
  stops : (tail : List Attempt) (x : Arrived tail) (end : End) (memory : List ℕ) (held : Bool) → solo_within rules w.limits.depth w.limits.max_commits 0 (rules.calls_left x.before.player) x.before ≡ record { attempts = map without_room tail; memory = memory; commits = x.before.commits; held = held; ending = end }
      → attempts_of w ≡ sole.past ++ tail → memory_of w ≡ memory → (w.cells.clock % 2 == 1) ≡ held → All end
  stops tail x end memory held last is left odd =
      x.whole ∙ (ap (with_all sole.past) last ∙ (λ i. record { attempts = sym (told_as tail is) i; memory = sym left i; commits = x.commits i; held = sym odd i; ending = end }))

  -- between two blocks, or with the block given up
  rests_even : (tail : List Attempt) (x : Arrived tail) (end : End) → solo_within rules w.limits.depth w.limits.max_commits 0 (rules.calls_left x.before.player) x.before ≡ record { attempts = map without_room tail; memory = x.before.memory; commits = x.before.commits; held = false; ending = end }
      → attempts_of w ≡ sole.past ++ tail → w.cells.clock % 2 ≡ 0 → All end
  rests_even tail x end last is z = stops tail x end x.before.memory false last is (left_by tail x z) (ap (λ (n : ℕ). n == 1) z)

  abbrev place_now : Option (Between P)
  place_now = run_after rules w.limits.depth (bytes_at w.limits.depth w.base w.attempts.ended) (Some (first_of p w.arena)) (of_thread a.run.thread w.attempts.ended)

  -- what its attempts have led to is where its player stands
  led : (tail : List Attempt) (x : Arrived tail) → w.attempts.ended ≡ sole.past
      → place_now ≡ Some (between x.before)
  led tail x ended =
      let run = tied.players 0 p a player_here here in
      let rows : of_thread a.run.thread w.attempts.ended ≡ sole.past =
      ap (λ (t : ℕ). of_thread t w.attempts.ended) (tied.threads 0 a here) ∙ (of_thread_all w.attempts.ended (of_actors_first 1 w.attempts.ended _ all_mine) ∙ ended) in
      let still = run_still rules w.limits.depth (w.cells.clock / 2) (w.cells.clock / 2) (bytes_at w.limits.depth w.base w.attempts.ended) (bytes_at w.limits.depth w.base (attempts_of w)) (omega arith)
      (λ k l. bytes_still w.limits.depth w.base w.cells.clock w.attempts.ended commits.counted _ k l) (Some (first_of p w.arena)) (of_thread a.run.thread w.attempts.ended) run.run in
      sym still.1 ∙ (ap (run_after rules w.limits.depth (bytes_at w.limits.depth w.base (attempts_of w)) (Some (first_of p w.arena))) rows ∙ x.led)

  -- the clock is odd where its engine is irrevocable
  odd_where : a.engine.irrevocable ≡ true → w.cells.clock % 2 ≡ 1
  odd_where e = elim (odd_or_even w.cells.clock) [
    | inl even ↦ absurd (both_ways a.engine.holds (commits.free even 0 a here) (tied.irrevocable 0 a here e))
    | inr odd ↦ odd
  ]

  -- ## The last one

  module _ (row : Attempt) (is : attempts_of w ≡ sole.past ++ row ∷ []) (first : IsFirstTry (w.cells.clock / 2) row) (x : Arrived (row ∷ [])) where
    y : IsNext rules laws w.limits.max_commits w.limits.depth w.base (attempts_of w) (w.cells.clock / 2) x.before row
    y = is_next rules laws w.limits.max_commits w.limits.depth w.base (attempts_of w) (w.cells.clock / 2) x.before row [] x.run first.unbroken

    first_here : IsFirstTry x.before.commits row
    first_here = subst (λ (n : ℕ). IsFirstTry n row) (sym x.commits) first

    at_here : row.at ≡ x.before.commits
    at_here = (let older = y.opaque.no_older in let newer = y.opaque.no_newer in let began = first.began in let n = x.commits in omega arith)

    abbrev begun : P
    begun = rules.answered y.start.player (begin_code false)

    abbrev from : State
    from = opened x.before.memory y.start.arena y.start.props

    alone_here : IsAlone rules w.limits.depth unbroken begun from row.calls.list
    alone_here = made_alone rules laws w.limits.max_commits w.limits.depth w.base (attempts_of w) (w.cells.clock / 2) x.before row y x.memory first_here at_here

    state_here : alone w.limits.depth (bytes_at w.limits.depth w.base (attempts_of w) row.at) row ≡ state_then w.limits.depth unbroken from row.calls.list
    state_here = same_state rules laws w.limits.max_commits w.limits.depth w.base (attempts_of w) (w.cells.clock / 2) x.before row y x.memory first_here at_here

    row_here : (outcome : Outcome) → outcome ≡ row.outcome → row_of w.limits.depth 0 x.before y.start row.calls outcome ≡ row
    row_here outcome o = same_row rules laws w.limits.max_commits w.limits.depth w.base (attempts_of w) (w.cells.clock / 2) x.before row y x.memory first_here at_here outcome row.calls.room o refl

    row_told : (outcome : Outcome) → outcome ≡ row.outcome → row_of w.limits.depth 0 x.before y.start (record { list = row.calls.list; room = 0 }) outcome ≡ without_room row
    row_told outcome o = ap without_room (row_here outcome o)

    begun_so : (outcome : Outcome) → row.outcome ≡ outcome → ((outcome ≡ outcomes.Unfinished → ⊥) → row.calls.room ≡ 0) → IsBegun rules w.limits.depth w.limits.max_commits 0 x.before sole.past outcome (attempts_of w)
    begun_so outcome o spent = record { start = y.start; calls = row.calls; rows_are = is ∙ ap (λ (r : Attempt). sole.past ++ r ∷ []) (sym (row_here outcome (sym o))); begins = y.comes; alone = alone_here; spent = spent }

    -- its player makes no more calls
    rests_open : row.outcome ≡ outcomes.Unfinished → rules.next_call (player_then rules.answered begun row.calls.list) ≡ None → ((state_then w.limits.depth unbroken from row.calls.list).irrevocable && nat_le w.limits.max_commits x.before.commits) ≡ false
        → memory_of w ≡ (if (state_then w.limits.depth unbroken from row.calls.list).irrevocable then (state_then w.limits.depth unbroken from row.calls.list).memory else x.before.memory) → (w.cells.clock % 2 == 1) ≡ (state_then w.limits.depth unbroken from row.calls.list).irrevocable → All Finished
    rests_open o none free left odd =
        let t : State = state_then w.limits.depth unbroken from row.calls.list in
        let q : P = player_then rules.answered begun row.calls.list in
        let gets : answers rules.next_call rules.answered rules.calls_left w.limits.depth begun x.before.memory y.start.arena y.start.props ≡ map pair_of row.calls.list =
        begins_alone rules laws w.limits.depth (rules.calls_left begun) unbroken begun from row.calls.list (let l : rules.calls_left begun ≤ rules.calls_left begun = omega arith in l) alone_here
        ∙ (ap (λ (k : Option Call). map pair_of row.calls.list ++ gets_through rules.next_call rules.answered rules.calls_left w.limits.depth (rules.calls_left begun) (breaks_after unbroken row.calls.list) q t k) (ap (λ (k : Option Call). if is_open t then k else None) none ∙ (elim (is_open t) as (λ (b : Bool). ◌≡◌ {A = Option Call} (if b then None else None) None) [ true ↦ refl | false ↦ refl ]))
        ∙ (ap (λ (l : List (Call × Reply)). map pair_of row.calls.list ++ l) (gets_none rules laws w.limits.depth (rules.calls_left begun) (breaks_after unbroken row.calls.list) q t) ∙ append-nil (map pair_of row.calls.list))) in
        let open_then : is_open t ≡ true = ap is_open (sym state_here) ∙ subst (λ (k : Outcome). EndsAs k (alone w.limits.depth (bytes_at w.limits.depth w.base (attempts_of w) row.at) row)) o y.opaque.ends in
        stops (row ∷ []) x Finished (if t.irrevocable then t.memory else x.before.memory) t.irrevocable
        (open_block rules laws w.limits.depth w.limits.max_commits 0 x.before y.start y.comes row.calls.list gets alone_here open_then free
        ∙ ap (λ (r : Attempt). with_first r (left_open rules w.limits.depth w.limits.max_commits 0 x.before t)) (row_told outcomes.Unfinished (sym o))) is left odd

    -- it was refused the clock, as full
    refused : row.outcome ≡ outcomes.Full → w.limits.max_commits ≤ w.cells.clock / 2 → w.cells.clock % 2 ≡ 0 → All GaveUp
    refused o full z =
        let lacks = y.opaque.full o in
        let n = x.commits in
        rests_even (row ∷ []) x GaveUp
        (full_block rules laws w.limits.depth w.limits.max_commits 0 x.before y.start y.comes row.calls.list lacks.call (reply w.limits.depth (alone w.limits.depth (bytes_at w.limits.depth w.base (attempts_of w) row.at) row) lacks.call) lacks.rest
        (sym (same_answers rules laws w.limits.max_commits w.limits.depth w.base (attempts_of w) (w.cells.clock / 2) x.before row y x.memory first_here at_here) ∙ lacks.answers_are) alone_here
        (ap is_open (sym state_here) ∙ (subst (λ (k : Outcome). EndsAs k (alone w.limits.depth (bytes_at w.limits.depth w.base (attempts_of w) row.at) row)) o y.opaque.ends).0)
        (ap (λ (s : State). s.irrevocable) (sym state_here) ∙ lacks.revocable) (ap (λ (s : State). takes_clock (after w.limits.depth s lacks.call)) (sym state_here) ∙ lacks.takes)
        (le-leb w.limits.max_commits x.before.commits (omega arith))
        ∙ ap (λ (r : Attempt). with_first r (stopped rules w.limits.depth w.limits.max_commits 0 x.before GaveUp)) (row_told outcomes.Full (sym o))) is z

    -- its engine, and the plain state after its calls
    module _ (some : active_of a ≡ Some row) where
      -- no block of it has run again
      whole_alone : (memory : List ℕ) → alone_whole w.limits.depth memory row ≡ alone w.limits.depth memory row
      whole_alone memory =
          ap (λ (rs : List Again). state_through w.limits.depth (breaks_in rs) (opened memory row.arena row.props) (calls_of row)) first.unbroken
          ∙ sym (ap (λ (rs : List Again). state_through w.limits.depth (breaks_of rs) (opened memory row.arena row.props) (calls_of row)) first.unbroken)

      -- and where it is, it is what the words hold
      held_here : IsIdle a.engine → a.engine.irrevocable ≡ true → stands_for a.engine w.cells.words ≡ state_then w.limits.depth unbroken from row.calls.list
      held_here idle e =
          let n : w.cells.clock / 2 ≡ row.at = sym (at_here ∙ x.commits) in
          subst (λ (o : Option Step). StandsIn w.limits.depth o a.engine.doing a.engine w.cells.words (alone_whole w.limits.depth (bytes_at w.limits.depth w.base (attempts_of w) (w.cells.clock / 2)) row)) idle.0 (tied.stored 0 a row here some e)
          ∙ (whole_alone (bytes_at w.limits.depth w.base (attempts_of w) (w.cells.clock / 2)) ∙ ap (λ (k : ℕ). alone w.limits.depth (bytes_at w.limits.depth w.base (attempts_of w) k) row) n ∙ state_here)

      rests_idle : IsIdle a.engine → row.outcome ≡ outcomes.Unfinished → rules.next_call (player_then rules.answered begun row.calls.list) ≡ None → All Finished
      rests_idle idle o none = by_mode a.engine.irrevocable refl
        where
          by_mode : (b : Bool) → a.engine.irrevocable ≡ b → All Finished
          by_mode true e =
              let t : State = state_then w.limits.depth unbroken from row.calls.list in
              let stands = held_here idle e in
              let odd = odd_where e in
              let mode : t.irrevocable ≡ true = ap (λ (s : State). s.irrevocable) (sym stands) ∙ (mode_in a.engine.irrevocable a.engine.writes a.engine.blocks a.engine.arena a.engine.actions w.cells.words ∙ e) in
              let left : memory_of w ≡ t.memory = sym (ap (λ (b : Bool). (state_in b a.engine.writes a.engine.blocks a.engine.arena a.engine.actions w.cells.words).memory) e) ∙ ap (λ (s : State). s.memory) stands in
              rests_open o none (and_right t.irrevocable (nat_le w.limits.max_commits x.before.commits) (lt-leb w.limits.max_commits x.before.commits (omega (arith, odd_where e, commits.few, x.commits)))) (left ∙ sym (cond-true t.irrevocable t.memory x.before.memory mode)) (ap (λ (n : ℕ). n == 1) odd ∙ sym mode)
          by_mode false e =
              let t : State = state_then w.limits.depth unbroken from row.calls.list in
              let even = even_free w commits one a here (idle.1 ∙ e) in
              let mode : t.irrevocable ≡ false = ap (λ (s : State). s.irrevocable) (sym state_here) ∙ (tied.modes 0 a row here some ∙ e) in
              rests_open o none (and_left t.irrevocable (nat_le w.limits.max_commits x.before.commits) mode) (left_by (row ∷ []) x even ∙ sym (cond-false t.irrevocable t.memory x.before.memory mode)) (ap (λ (n : ℕ). n == 1) even ∙ sym mode)

    -- its player stands where its calls have led it
    stands_so : w.attempts.ended ≡ sole.past → active_of a ≡ Some row → a.run.player ≡ player_then rules.answered begun row.calls.list
    stands_so ended some =
        let t = (tied.players 0 p a player_here here).inside (row_open (in_transaction a.engine) a row row_kept some) in
        let place : t.0 ≡ between x.before = same_Some _ _ (sym t.2 ∙ led (row ∷ []) x ended) in
        let block = t.5.open_try.of_block in
        let start : block.start ≡ y.start = same_Some _ _ (sym block.begins ∙ (ap (λ (b : Between P). begin_of rules w.limits.depth b.player b.arena) place ∙ y.comes)) in
        let same : t.1 ≡ row = same_Some _ _ (sym (ap open_in t.4) ∙ some) in
        block.player ∙ (λ i. player_then rules.answered (rules.answered (start i).player (begin_code (place i).again)) (same i).calls.list)

  -- ## By how it stands

  none_comes : (b : Between P) (x : Arrived []) → IsBeforeTry rules w.limits.depth (w.cells.clock / 2) b a → place_now ≡ Some b → w.attempts.ended ≡ sole.past → rules.next_call a.run.player ≡ None → begin_of rules w.limits.depth x.before.player x.before.arena ≡ None
  none_comes b x t led_to ended none =
      ap (λ (b : Between P). begin_of rules w.limits.depth b.player b.arena) (sym (same_Some _ _ (sym led_to ∙ led [] x ended)))
      ∙ (before_led rules laws w.limits.depth t.before ∙ (ap (begin_within rules w.limits.depth (rules.calls_left a.run.player) a.run.player a.engine.arena) none ∙ (elim (rules.calls_left a.run.player) as (λ (k : ℕ). begin_within rules w.limits.depth k a.run.player a.engine.arena None ≡ None) [ zero ↦ refl | suc k ↦ refl ])))

  -- between two blocks its player makes no more calls
  rests : (x : Arrived []) → attempts_of w ≡ sole.past ++ [] → w.attempts.ended ≡ sole.past → ending_of a.status ≡ Some Finished → active_of a ≡ None → rules.next_call a.run.player ≡ None → w.cells.clock % 2 ≡ 0 → All Finished
  rests x is ended finished shut none z =
      let t = (tied.players 0 p a player_here here).between (row_shut (in_transaction a.engine) a row_kept shut) (λ e. absurd (let both = sym finished ∙ e in cc)) (λ e. absurd (let both = sym finished ∙ e in cc)) in
      rests_even [] x Finished (no_block rules laws w.limits.depth w.limits.max_commits 0 x.before (none_comes t.0 x t.2 t.1 ended none)) is z

  module _ (ended : w.attempts.ended ≡ sole.past) where
    is_none : active_of a ≡ None → attempts_of w ≡ sole.past ++ []
    is_none e = λ i. ended i ++ active_none e i

    is_some_row : (row : Attempt) → active_of a ≡ Some row → attempts_of w ≡ sole.past ++ row ∷ []
    is_some_row row e = λ i. ended i ++ (open_are ∙ ap (λ (o : Option Attempt). with_open o []) e) i

    nothing_open : (outcome : Outcome) → active_of a ≡ None → (memory : List ℕ) × So (w.cells.clock / 2) memory outcome × (w.cells.clock % 2 ≡ 0 → memory_of w ≡ memory)
    nothing_open outcome e = (let x = arrived [] (is_none e) in (x.before.memory, so_far [] x outcome (inl (is_none e ∙ append-nil sole.past)), left_by [] x))

  some_over : (outcome : Outcome) (row : Attempt) (is : attempts_of w ≡ sole.past ++ row ∷ []) → IsFirstTry (w.cells.clock / 2) row → row.outcome ≡ outcome → ((outcome ≡ outcomes.Unfinished → ⊥) → row.calls.room ≡ 0) → (memory : List ℕ) × So (w.cells.clock / 2) memory outcome × (w.cells.clock % 2 ≡ 0 → memory_of w ≡ memory)
  some_over outcome row is first o spent = (let x = arrived (row ∷ []) is in (x.before.memory, so_far (row ∷ []) x outcome (inr (begun_so row is first x outcome o spent)), left_by (row ∷ []) x))

  going : IsOnWay rules w.limits.max_commits w.limits.depth w.base (first_of p w.arena) sole.past (w.cells.clock / 2) w.attempts a → DoneBy rules w p None
  going s = by_open (active_of a) refl
    where
      by_open : (o : Option Attempt) → active_of a ≡ o → DoneBy rules w p None
      by_open None e = nothing_open s.ended outcomes.Unfinished e
      by_open (Some row) e = some_over outcomes.Unfinished row (is_some_row s.ended row e) (s.current row (ap (λ (o : Option Attempt). current_of o (pending_of a)) e)) (row_unfinished (in_transaction a.engine) a row row_kept e) (λ u. absurd (u refl))

  finished : IsOnWay rules w.limits.max_commits w.limits.depth w.base (first_of p w.arena) sole.past (w.cells.clock / 2) w.attempts a → ending_of a.status ≡ Some Finished → rules.next_call a.run.player ≡ None → IsIdle a.engine → All Finished
  finished s end none idle = by_open (active_of a) refl
    where
      by_open : (o : Option Attempt) → active_of a ≡ o → All Finished
      by_open None e = rests (arrived [] (is_none s.ended e)) (is_none s.ended e) s.ended end e none (even_shut rules w tied commits one a here e)
      by_open (Some row) e =
          let is = is_some_row s.ended row e in
          let first = s.current row (ap (λ (o : Option Attempt). current_of o (pending_of a)) e) in
          let x = arrived (row ∷ []) is in
          rests_idle row is first x e idle (row_unfinished (in_transaction a.engine) a row row_kept e) (ap rules.next_call (sym (stands_so row is first x s.ended e)) ∙ none)

  -- its next block goes irrevocable, where as many have committed as may
  kept_away : IsKeptOut rules w.limits.max_commits w.limits.depth w.base (first_of p w.arena) sole.past w.attempts a → active_of a ≡ None → w.limits.max_commits ≤ w.cells.clock / 2 → w.cells.clock % 2 ≡ 0 → All GaveUp
  kept_away k shut full z =
      let is = is_none k.ended shut in
      let x = arrived [] is in
      let place : k.before ≡ between x.before = same_Some _ _ (sym k.led ∙ led [] x k.ended) in
      let n = x.commits in
      rests_even [] x GaveUp
      (kept_out rules laws w.limits.depth w.limits.max_commits 0 x.before k.start (ap (λ (b : Between P). begin_of rules w.limits.depth b.player b.arena) (sym place) ∙ k.begins) k.goes (le-leb w.limits.max_commits x.before.commits (omega arith))) is z

  last_is : (outcome : Outcome) → active_of a ≡ None → (l : EndsWith sole.past (w.cells.clock / 2) outcome w.attempts) → attempts_of w ≡ sole.past ++ l.row ∷ []
  last_is outcome none l = (λ i. l.ended i ++ active_none none i) ∙ append-nil (sole.past ++ l.row ∷ [])

  starved : w.cells.clock % 2 ≡ 0 → (memory : List ℕ) × So (w.cells.clock / 2) memory outcomes.NoMemory × (w.cells.clock % 2 ≡ 0 → memory_of w ≡ memory) → DoneBy rules w p (Some NoMemory)
  starved z (memory, part, told) = inl (z, subst (λ (m : List ℕ). So (w.cells.clock / 2) m outcomes.NoMemory) (sym (told z)) part)

  done_by : (o : Option End) → ending_of a.status ≡ o → StandsSole rules w.limits.max_commits w.limits.depth w.base (first_of p w.arena) o sole.past (w.cells.clock / 2) w.attempts a → DoneBy rules w p o
  done_by None e s = going s
  done_by (Some Finished) e s = finished s.0 e s.1 s.2
  done_by (Some GaveUp) e s =
      let even = even_shut rules w tied commits one a here s.0 in
      elim s.2 [
        | inl k ↦ kept_away k s.0 s.1 even
        | inr last ↦ (let is = last_is outcomes.Full s.0 last in refused last.row is last.first (arrived (last.row ∷ []) is) last.outcome_is s.1 even)
      ]
  done_by (Some NoMemory) e (inl s) = starved (even_shut rules w tied commits one a here s.0) (elim s.1 [
    | inl ended ↦ nothing_open ended outcomes.NoMemory s.0
    | inr last ↦ some_over outcomes.NoMemory last.row (last_is outcomes.NoMemory s.0 last) last.first last.outcome_is (λ u. last.spent)
  ])
  done_by (Some NoMemory) e (inr s) = (let part = going s.1 in inr (odd_where s.0, (part.0, part.1)))

  done_so : DoneBy rules w p (ending_at w 0)
  done_so =
      subst (DoneBy rules w p) (sym (ap (option_and_then (λ (x : Actor P). ending_of x.status)) here)) (done_by (ending_of a.status) refl sole.stands)

-- ## A world

module _ {P : Type 0} (rules : Rules P) (laws : Obeys rules) where
  pub shows_alone : (w : World P) → CommitsInOrder w → AreOpaque rules (observed w) → AreTied rules w → HasSole rules w → ShowsAlone rules w
  shows_alone w commits opaque tied sole one =
      let p = one_of w.opening one in
      let a = one_of w.actors (tied.each ∙ one) in (
        p.0,
        p.1,
        done_so rules laws w commits opaque tied p.0 a.0 p.1 a.1 (sole p.0 a.0 (ap (λ (l : List P). slice_get l 0) p.1) (ap (λ (l : List (Actor P)). slice_get l 0) a.1)),
      )

-- A player that runs alone, block by block.
use Rattle.std.proofs.Common.{◌≡◌, ℕ, zero, suc, ◌+◌, ◌<◌, ◌≤◌, Bool, true, false, not, ◌&&◌, ◌||◌, nat_le, is_none, if◌then◌else◌, List, [], ◌∷◌, ◌++◌, map, Option, None, Some, refl, sym, ap, subst, ◌∙◌, inl, arith, cond}
use Rattle.world_laws.proofs.Common.{Begin, Beginning, Call, CallRecord, Finished, Full, GaveUp, IsAlone, Obeys, Progress, Props, Reply, Rules, Solo, State, Unfinished, aborts, after, and_from, and_left, and_right, answers, answers_within, asked, before_taking, begin_code, begin_of, begin_within, begun_then, block_then, both_ways, cond-false, cond-true, ended_as, entry_of, false_from_ne_true, is_abort, is_open, left_open, limited_then, one_if, opened, or_from, outside, pair_of, passed, player_after, player_then, refusal, reply, row_of, same_Some, solo_within, state_after, state_then, stopped, takes_clock, turn, unbroken, with_first, within_limit}
use Rattle.std.proofs.Math.Bool.{and-true, or-false}
use Rattle.tx_history.proofs.Runs.UnwrittenTransactions.{stands_opened}
use Rattle.world_laws.proofs.Solos.TakingCalls.{goes_opened, next_takes, none_takes, stands_then}

pub state_pairs : (deepest : ℕ) (s : State) (xs : List CallRecord) → state_after deepest s (map (λ (c : Call × Reply). c.0) (map pair_of xs)) ≡ state_then deepest unbroken s xs
state_pairs deepest s [] = refl
state_pairs deepest s (x ∷ xs) = state_pairs deepest (after deepest s x.call) xs

module _ {P : Type 0} (rules : Rules P) (laws : Obeys rules) (deepest : ℕ) where
  abbrev comes : ℕ → P → List ℕ → Option Call → Option (Beginning P)
  comes n p arena o = begin_within rules deepest n p arena o

  -- the player comes to the begin of a block that is accepted
  pub record IsBeginning (p : P) (start : Beginning P) : Type 0 where
    pub room : ℕ
    pub asks : rules.next_call start.player ≡ Some (Begin start.props room)
    pub accepted : is_none (refusal deepest (outside [] start.arena) (Begin start.props room)) ≡ true
    pub less : rules.calls_left start.player ≤ rules.calls_left p

  later : (p q : P) (start : Beginning P) → rules.calls_left q ≤ rules.calls_left p → IsBeginning q start → IsBeginning p start
  later p q start l b = record { room = b.room; asks = b.asks; accepted = b.accepted; less = (let m = b.less in omega arith) }

  -- a begin that is accepted, or is refused and passed over
  begins : (n : ℕ) (p : P) (arena : List ℕ) (props : Props) (room : ℕ) (start : Beginning P) (b : Bool) → b ≡ is_none (refusal deepest (outside [] arena) (Begin props room)) → rules.next_call p ≡ Some (Begin props room)
      → ((q : P) → comes n q arena (rules.next_call q) ≡ Some start → IsBeginning q start)
      → cond b (Some (record { player = p; arena = arena; props = props }))
      (comes n (rules.answered p (reply deepest (outside [] arena) (Begin props room))) arena (rules.next_call (rules.answered p (reply deepest (outside [] arena) (Begin props room))))) ≡ Some start
      → IsBeginning p start
  begins n p arena props room start true is e rest h =
      subst (IsBeginning p) (same_Some _ _ h) (record { room = room; asks = e; accepted = sym is; less = omega arith })
  begins n p arena props room start false is e rest h = (
      let q : P = rules.answered p (reply deepest (outside [] arena) (Begin props room)) in
      let l = laws.nearer p (Begin props room) (reply deepest (outside [] arena) (Begin props room)) e in
      later p q start (omega arith) (rest q h))

  found : (n : ℕ) (p : P) (arena : List ℕ) (o : Option Call) (start : Beginning P) → rules.next_call p ≡ o → comes n p arena o ≡ Some start → IsBeginning p start
  found (suc n) p arena (Some (Begin props room)) start e h = begins n p arena props room start _ refl e (λ q g. found n q arena (rules.next_call q) start refl g) h
  found (suc n) p arena (Some c) start e h = (
      let q : P = rules.answered p (reply deepest (outside [] arena) c) in
      let l = laws.nearer p c (reply deepest (outside [] arena) c) e in
      later p q start (omega arith) (found n q _ (rules.next_call q) start refl h))
  found n p arena o start e h = absurd (cc)

  -- the calls left do not grow along what a player gets
  falls_along : (n : ℕ) (p : P) (s : State) (o : Option Call) → turn rules.next_call rules.answered rules.calls_left p s ≡ o
      → rules.calls_left (player_after rules deepest 0 0 p (answers_within rules.next_call rules.answered rules.calls_left deepest n p s o)) ≤ rules.calls_left p
  falls_along (suc n) p s (Some c) e = (
      let r = reply deepest s c in
      let q : P = rules.answered p r in
      let t : State = after deepest s c in
      let l = laws.nearer p c r (asked rules laws deepest p s c e) in
      let m = falls_along n q t (turn rules.next_call rules.answered rules.calls_left q t) refl in
      omega arith)
  falls_along n p s o e = omega arith

  module _ (max_commits thread : ℕ) where
    abbrev goes : ℕ → Progress P → Solo
    goes n b = solo_within rules deepest max_commits thread n b

    none_left : (p : P) (arena : List ℕ) → rules.calls_left p ≤ 0 → begin_of rules deepest p arena ≡ None
    none_left p arena l = ap (λ (n : ℕ). begin_within rules deepest n p arena (rules.next_call p)) (let e : rules.calls_left p ≡ 0 = omega arith in e)

    -- the block that begins here takes calls
    passed_less : (b : Progress P) (start : Beginning P) → begin_of rules deepest b.player b.arena ≡ Some start
        → rules.calls_left (player_after rules deepest max_commits thread (rules.answered start.player (begin_code false)) (answers rules.next_call rules.answered rules.calls_left deepest (rules.answered start.player (begin_code false)) b.memory start.arena start.props))
        < rules.calls_left b.player
    passed_less b start e =
        let p : P = rules.answered start.player (begin_code false) in
        let s : State = opened b.memory start.arena start.props in
        let found = found (rules.calls_left b.player) b.player b.arena (rules.next_call b.player) start refl e in
        let m = laws.nearer start.player (Begin start.props found.room) (begin_code false) found.asks in
        omega (arith, found.less, falls_along (rules.calls_left p) p s (turn rules.next_call rules.answered rules.calls_left p s) refl)

    limited_same : (n k : ℕ) (b : Progress P) (start : Beginning P) (p : P) (pairs : List (Call × Reply)) (t : State) (o : Option (List (Call × Reply)))
        → goes n (passed rules deepest max_commits thread b p pairs t) ≡ goes k (passed rules deepest max_commits thread b p pairs t)
        → limited_then rules deepest max_commits thread (goes n) b start p pairs t o ≡ limited_then rules deepest max_commits thread (goes k) b start p pairs t o
    limited_same n k b start p pairs t None e = ap (λ (r : Solo). block_then rules deepest max_commits thread (λ (q : Progress P). r) b start p pairs t) e
    limited_same n k b start p pairs t (Some before) e = refl

    same_from : (n k : ℕ) (b : Progress P) (o : Option (Beginning P)) → begin_of rules deepest b.player b.arena ≡ o
        → ((c : Progress P) → rules.calls_left c.player < rules.calls_left b.player → goes n c ≡ goes k c)
        → begun_then rules deepest max_commits thread (goes n) b o ≡ begun_then rules deepest max_commits thread (goes k) b o
    same_from n k b None e rest = refl
    same_from n k b (Some start) e rest =
        let p : P = rules.answered start.player (begin_code false) in
        let s : State = opened b.memory start.arena start.props in
        let pairs : List (Call × Reply) = answers rules.next_call rules.answered rules.calls_left deepest p b.memory start.arena start.props in
        let t : State = state_after deepest s (map (λ (c : Call × Reply). c.0) pairs) in
        ap (λ (r : Solo). if start.props.goes_irrevocable && nat_le max_commits b.commits then stopped rules deepest max_commits thread b GaveUp else r)
        (limited_same n k b start p pairs t (if nat_le max_commits b.commits then before_taking deepest s pairs else None) (rest (passed rules deepest max_commits thread b p pairs t) (passed_less b start e)))

    -- so many blocks suffice
    pub solo_enough : (n k : ℕ) (b : Progress P) → rules.calls_left b.player ≤ n → rules.calls_left b.player ≤ k → goes n b ≡ goes k b
    solo_enough zero zero b u v = refl
    solo_enough zero (suc k) b u v = sym (ap (begun_then rules deepest max_commits thread (goes k) b) (none_left b.player b.arena u))
    solo_enough (suc n) zero b u v = ap (begun_then rules deepest max_commits thread (goes n) b) (none_left b.player b.arena v)
    solo_enough (suc n) (suc k) b u v =
        same_from n k b (begin_of rules deepest b.player b.arena) refl (λ c l. solo_enough n k c (omega arith) (omega arith))

    -- ## One block

    pub player_pairs : (p : P) (xs : List CallRecord) → player_after rules deepest max_commits thread p (map pair_of xs) ≡ player_then rules.answered p xs
    player_pairs p [] = refl
    player_pairs p (x ∷ xs) = player_pairs (rules.answered p x.reply) xs

    pub entries_pairs : (xs : List CallRecord) → map entry_of (map pair_of xs) ≡ xs
    entries_pairs [] = refl
    entries_pairs (x ∷ xs) = ap (λ (ys : List CallRecord). x ∷ ys) (entries_pairs xs)

    -- the player between the block and the next one
    abbrev pub next_of : Progress P → P → State → Progress P
    next_of b q t = record { player = q; arena = t.arena; memory = t.memory; commits = b.commits + one_if t.wrote }

    -- the last of the calls
    pub aborts_snoc : (xs : List CallRecord) (x : CallRecord) → aborts (map pair_of (xs ++ x ∷ [])) ≡ is_abort x.call
    aborts_snoc (y ∷ z ∷ zs) x = aborts_snoc (z ∷ zs) x
    aborts_snoc xs x = refl

    abbrev pub begun : Beginning P → P
    begun start = rules.answered start.player (begin_code false)

    abbrev pub state_of : Progress P → Beginning P → List CallRecord → State
    state_of b start xs = state_then deepest unbroken (opened b.memory start.arena start.props) xs

    -- the block that begins here
    module _ (b : Progress P) (start : Beginning P) (comes_to : begin_of rules deepest b.player b.arena ≡ Some start) where
      abbrev first_state : State
      first_state = opened b.memory start.arena start.props

      begun_here : goes (rules.calls_left b.player) b ≡ begun_then rules deepest max_commits thread (goes (rules.calls_left b.player)) b (Some start)
      begun_here =
          let n : ℕ = rules.calls_left b.player in
          solo_enough n (suc n) b (omega arith) (omega arith) ∙ ap (begun_then rules deepest max_commits thread (goes n) b) comes_to

      -- it goes irrevocable, and as many have committed as may
      pub kept_out : start.props.goes_irrevocable ≡ true → nat_le max_commits b.commits ≡ true → goes (rules.calls_left b.player) b ≡ stopped rules deepest max_commits thread b GaveUp
      kept_out irrevocable full =
          begun_here
          ∙ cond-true (start.props.goes_irrevocable && nat_le max_commits b.commits) _ _ (and_from start.props.goes_irrevocable (nat_le max_commits b.commits) irrevocable full)

      -- its calls are these
      whole_block : (pairs : List (Call × Reply)) → answers rules.next_call rules.answered rules.calls_left deepest (begun start) b.memory start.arena start.props ≡ pairs
          → (start.props.goes_irrevocable && nat_le max_commits b.commits) ≡ false → (o : Option (List (Call × Reply))) → (if nat_le max_commits b.commits then before_taking deepest first_state pairs else None) ≡ o
          → goes (rules.calls_left b.player) b
          ≡ limited_then rules deepest max_commits thread (goes (rules.calls_left b.player)) b start (begun start) pairs (state_after deepest first_state (map (λ (c : Call × Reply). c.0) pairs)) o
      whole_block pairs all enters o limit =
          let n : ℕ = rules.calls_left b.player in
          begun_here
          ∙ (cond-false (start.props.goes_irrevocable && nat_le max_commits b.commits) _ _ enters
          ∙ (ap (within_limit rules deepest max_commits thread (goes n) b start (begun start)) all
          ∙ ap (limited_then rules deepest max_commits thread (goes n) b start (begun start) pairs (state_after deepest first_state (map (λ (c : Call × Reply). c.0) pairs))) limit))

      -- one that is not irrevocable at once did not go irrevocable
      revocable_begins : first_state.irrevocable ≡ false → start.props.goes_irrevocable ≡ false
      revocable_begins e = false_from_ne_true start.props.goes_irrevocable (λ goes. both_ways first_state.irrevocable e (goes_opened b.memory start.arena start.props goes))

      -- the player makes these alone, and then one that takes the clock, as many writers having committed as may
      pub full_block : (ys : List CallRecord) (c : Call) (r : Reply) (rest : List (Call × Reply))
          → answers rules.next_call rules.answered rules.calls_left deepest (begun start) b.memory start.arena start.props ≡ map pair_of ys ++ (c, r) ∷ rest → IsAlone rules deepest unbroken (begun start) first_state ys
          → is_open (state_of b start ys) ≡ true → (state_of b start ys).irrevocable ≡ false → takes_clock (after deepest (state_of b start ys) c) ≡ true → nat_le max_commits b.commits ≡ true
          → goes (rules.calls_left b.player) b ≡ with_first (row_of deepest thread b start (record { list = ys; room = 0 }) Full) (stopped rules deepest max_commits thread b GaveUp)
      full_block ys c r rest all made opens revocable takes full =
          let before = next_takes rules deepest b.memory (begun start) first_state ys c r rest made (stands_opened deepest b.memory start.arena start.props) opens revocable takes in
          whole_block (map pair_of ys ++ (c, r) ∷ rest) all (and_left start.props.goes_irrevocable (nat_le max_commits b.commits) (revocable_begins before.0)) (Some (map pair_of ys))
          (cond-true (nat_le max_commits b.commits) _ _ full ∙ before.1)
          ∙ ap (λ (l : List CallRecord). with_first (row_of deepest thread b start (record { list = l; room = 0 }) Full) (stopped rules deepest max_commits thread b GaveUp)) (entries_pairs ys)

      -- these are all that the player makes
      module _ (xs : List CallRecord) (all : answers rules.next_call rules.answered rules.calls_left deepest (begun start) b.memory start.arena start.props ≡ map pair_of xs)
          (made : IsAlone rules deepest unbroken (begun start) (opened b.memory start.arena start.props) xs) where
        abbrev last_state : State
        last_state = state_of b start xs

        abbrev IsFree : Bool → Type 0
        IsFree full = ((start.props.goes_irrevocable && full) ≡ false) × ((if full then before_taking deepest first_state (map pair_of xs) else None) ≡ None)

        free_where : (takes_clock last_state && nat_le max_commits b.commits) ≡ false → IsFree (nat_le max_commits b.commits)
        free_where free = by_limit (nat_le max_commits b.commits) free
          where
            by_limit : (full : Bool) → (takes_clock last_state && full) ≡ false → IsFree full
            by_limit false e = (and_right start.props.goes_irrevocable false refl, refl)
            by_limit true e =
                let none = none_takes rules deepest b.memory (begun start) first_state xs made (stands_opened deepest b.memory start.arena start.props) (sym (and-true (takes_clock last_state)) ∙ e) in
                (and_left start.props.goes_irrevocable true (revocable_begins none.0), none.1)

        block_here : (takes_clock last_state && nat_le max_commits b.commits) ≡ false
            → goes (rules.calls_left b.player) b ≡ block_then rules deepest max_commits thread (goes (rules.calls_left b.player)) b start (begun start) (map pair_of xs) last_state
        block_here free =
            let is = free_where free in
            whole_block (map pair_of xs) all is.0 None is.1
            ∙ ap (block_then rules deepest max_commits thread (goes (rules.calls_left b.player)) b start (begun start) (map pair_of xs)) (state_pairs deepest first_state xs)

        less : rules.calls_left (player_then rules.answered (begun start) xs) ≤ rules.calls_left b.player
        less =
            omega (arith, passed_less b start comes_to, ap (λ (pairs : List (Call × Reply)). rules.calls_left (player_after rules deepest max_commits thread (begun start) pairs)) all, ap rules.calls_left (player_pairs (begun start) xs))

        -- it has ended
        pub ended_block : is_open (state_of b start xs) ≡ false → ((state_of b start xs).wrote && nat_le max_commits b.commits) ≡ false
            → goes (rules.calls_left b.player) b ≡ with_first (row_of deepest thread b start (record { list = xs; room = 0 }) (ended_as (aborts (map pair_of xs)) (state_of b start xs).wrote))
            (goes (rules.calls_left (player_then rules.answered (begun start) xs)) (next_of b (player_then rules.answered (begun start) xs) (state_of b start xs)))
        ended_block closed free =
            let n : ℕ = rules.calls_left b.player in
            let q : P = player_then rules.answered (begun start) xs in
            block_here (by_wrote last_state.wrote refl)
            ∙ (cond-false (is_open last_state) _ _ closed
            ∙ ((λ i. with_first (row_of deepest thread b start (record { list = entries_pairs xs i; room = 0 }) (ended_as (aborts (map pair_of xs)) last_state.wrote)) (goes n (next_of b (player_pairs (begun start) xs i) last_state)))
            ∙ ap (with_first (row_of deepest thread b start (record { list = xs; room = 0 }) (ended_as (aborts (map pair_of xs)) last_state.wrote))) (solo_enough n (rules.calls_left q) (next_of b q last_state) less (omega arith))))
          where
            by_wrote : (w : Bool) → last_state.wrote ≡ w → (takes_clock last_state && nat_le max_commits b.commits) ≡ false
            by_wrote true w = and_right (takes_clock last_state) (nat_le max_commits b.commits) (ap (λ (x : Bool). x && nat_le max_commits b.commits) (sym w) ∙ free)
            by_wrote false w =
                let stands = stands_then rules deepest b.memory (begun start) first_state xs made (stands_opened deepest b.memory start.arena start.props) in
                let revocable = false_from_ne_true last_state.irrevocable (λ e. both_ways last_state.wrote w (stands.lasts (inl e)).0) in
                and_left (takes_clock last_state) (nat_le max_commits b.commits) (or_from last_state.irrevocable (not (is_open last_state) && last_state.wrote) revocable (and_right (not (is_open last_state)) last_state.wrote w))

        -- the player leaves it open for good
        pub open_block : is_open (state_of b start xs) ≡ true → ((state_of b start xs).irrevocable && nat_le max_commits b.commits) ≡ false
            → goes (rules.calls_left b.player) b ≡ with_first (row_of deepest thread b start (record { list = xs; room = 0 }) Unfinished) (left_open rules deepest max_commits thread b (state_of b start xs))
        open_block opens free =
            block_here (ap (λ (x : Bool). x && nat_le max_commits b.commits) ((λ i. last_state.irrevocable || and_left (not (is_open last_state)) last_state.wrote (ap not opens) i) ∙ or-false last_state.irrevocable) ∙ free)
            ∙ (cond-true (is_open last_state) _ _ opens
            ∙ ap (λ (l : List CallRecord). with_first (row_of deepest thread b start (record { list = l; room = 0 }) Unfinished) (left_open rules deepest max_commits thread b last_state)) (entries_pairs xs))

    -- a player that comes to no block
    pub no_block : (b : Progress P) → begin_of rules deepest b.player b.arena ≡ None → goes (rules.calls_left b.player) b ≡ stopped rules deepest max_commits thread b Finished
    no_block b e = solo_enough (rules.calls_left b.player) (suc (rules.calls_left b.player)) b (omega arith) (omega arith) ∙ ap (begun_then rules deepest max_commits thread (goes (rules.calls_left b.player)) b) e

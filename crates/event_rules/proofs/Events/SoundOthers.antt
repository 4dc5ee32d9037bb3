-- An event of one actor leaves the others sound.
use Rattle.std.proofs.Common.{◌≡◌, ◌≢◌, ◌⊎◌, inl, inr, ℕ, zero, suc, ◌+◌, ◌%◌, ◌<◌, ◌≤◌, true, false, List, [], ◌∷◌, ◌++◌, length, length-append, Some, slice_get, slice_set, refl, sym, ap, subst, ◌∙◌, arith, eqb-true, ◌==◌, length-set, ◌/◌}
use Rattle.event_rules.proofs.Common.{Actor, AllFit, AreActors, Cells, ClocksOn, Current, IsActor, IsInCall, IsSound, IsTied, KeepsOthers, MAX_ACTORS, Ready, Rows, Rules, Stage, Status, StatusIs, Waits, Within, both_ways, cases_Bool, count_all, count_in, count_of, eqb-false, false_from_ne_true, in_transaction, is_ready, moved_count, moved_to, odd_or_even, others_same, outside, set_place, slice_get-set_other, slice_get-set_same, slice_get_within, stage_of, told, told_kept, within}
use Rattle.event_rules.{proofs.Engines.TiedEngines.held_even, proofs.Rooms.ActionRoom.at_current, proofs.Rooms.ActionRoom.told_acting}
use Rattle.{tx_runs.specs.Tallies.begins}

module _ {P : Type 0} (rules : Rules P) where
  -- another one, where the cells of the clock that it holds did not change
  pub sound_still : (cells cells' : Cells) (r r' : Rows) (b : Actor P) → IsSound rules cells r b
      → AllFit cells'.words → cells.clock ≤ cells'.clock → length cells'.words ≡ length cells.words → (b.engine.holds ≡ true → cells' ≡ cells) → count_of b ≤ r'.room → IsSound rules cells' r' b
  sound_still cells cells' r r' b s fit late long held room =
      let t = s.tied in
      let tied : IsTied cells' b.engine = record { words = t.words ∙ sym long; fit = fit; late = omega (arith, t.late); holder = λ h. ap (λ (c : Cells). c.clock) (held h) ∙ t.holder h; settled = t.settled; small = t.small } in
      record { tied = tied; kept = s.kept; acts = s.acts; status = s.status; place = room }

  -- one whose open attempt is told where its engine reads
  told_status : (a : Actor P) (s : Status) (c : Current) → StatusIs rules (at_current a c) s → StatusIs rules (at_current a (moved_to (a.engine.snapshot / 2) c)) s
  told_status a Ready (Within o) s = record { nested = s.nested; depth = s.depth; points = s.points; idle = s.idle; free = s.free; nothing = s.nothing }
  told_status a (Waits call step) (Within o) s =
      let i = s.in_call in
      let in_call : IsInCall rules (in_transaction a.engine) (at_current a (moved_to (a.engine.snapshot / 2) (Within o))) call = record { asks = i.asks; begins = i.begins; inside = i.inside; opens = λ row e. absurd (cc); props = i.props } in
      assumption (in_call, s)
  told_status a s c x = x

  pub told_sound : {cells : Cells} {r : Rows} {a : Actor P} → IsSound rules cells r a → IsSound rules cells r (told a)
  told_sound {r = r} {a = a} s =
      let place : count_of (told a) ≤ r.room = (let n = moved_count (a.engine.snapshot / 2) a.run.current in let p = s.place in omega arith) in
      assumption (told_kept a s.kept, told_acting a s.acts, told_status a a.status a.run.current s.status, place, s)

-- its room and its thread are the same
pub told_others : {P : Type 0} (a : Actor P) (r : Rows) → KeepsOthers a r (told a) r
told_others a r = others_same a (told a) r r refl (let n = moved_count (a.engine.snapshot / 2) a.run.current in omega arith) refl (omega arith)

-- ## Sums

count_one : (s : Stage) → count_in s ≤ 1
count_one outside = (let z : 0 ≤ 1 = omega arith in z)
count_one (begins row) = (let z : 1 ≤ 1 = omega arith in z)
count_one (within row points) = (let z : 1 ≤ 1 = omega arith in z)

count_le : {P : Type 0} (actors : List (Actor P)) → count_all actors ≤ length actors
count_le [] = (let z : 0 ≤ 0 = omega arith in z)
count_le (a ∷ rest) = (let l = count_le rest in let m = count_one (stage_of a.run.current) in omega arith)

-- the others' sum, where one is replaced
replaced_sum : {P : Type 0} (actors : List (Actor P)) (i : ℕ) (got new : Actor P) → slice_get actors i ≡ Some got
    → (others : ℕ) × (others + count_of got ≡ count_all actors) × (others + count_of new ≡ count_all (slice_set actors i new)) × (others < length actors)
replaced_sum [] i got new e = absurd (cc)
replaced_sum (a ∷ rest) zero got new e =
    let same : a ≡ got = cc in
    let p : count_of a ≡ count_of got = ap count_of same in
    (count_all rest, omega arith, omega arith, omega (arith, count_le rest))
replaced_sum (a ∷ rest) (suc i) got new e =
    let those = replaced_sum rest i got new e in
    (count_of a + those.0, omega (arith, those.1), omega (arith, those.2), omega (arith, those.3, count_one (stage_of a.run.current)))

-- where one holds it, the clock is odd
pub odd_held : {P : Type 0} {rules : Rules P} {cells : Cells} {r : Rows} {actors : List (Actor P)} → AreActors rules cells r actors → (j : ℕ) (b : Actor P) → slice_get actors j ≡ Some b → b.engine.holds ≡ true → cells.clock % 2 ≡ 1
odd_held s j b e h =
    let t = (s.each j b e).sound.tied in
    omega (arith, t.holder h, held_even b.engine t.settled h)

-- ## One actor is new

module _ {P : Type 0} where
  -- at this place stands the new one, and elsewhere who stood there
  abbrev IsPlaced : List (Actor P) → List (Actor P) → ℕ → Actor P → Type 0
  IsPlaced actors actors' i new = (j : ℕ) (b : Actor P) → slice_get actors' j ≡ Some b → ((i ≡ j) × (b ≡ new)) ⊎ ((i ≢ j) × (slice_get actors j ≡ Some b))

  -- at most one holds the clock
  abbrev OneHolds : List (Actor P) → Type 0
  OneHolds actors = (j k : ℕ) (a b : Actor P) → slice_get actors j ≡ Some a → slice_get actors k ≡ Some b → a.engine.holds ≡ true → b.engine.holds ≡ true → j ≡ k

  -- another one that holds the clock sees no change, and the new one does not hold it
  abbrev LeavesHeld : Cells → Cells → List (Actor P) → ℕ → Actor P → Type 0
  LeavesHeld cells cells' actors i new = (j : ℕ) (b : Actor P) → i ≢ j → slice_get actors j ≡ Some b → b.engine.holds ≡ true → (cells' ≡ cells) × (new.engine.holds ≡ false)

module _ {P : Type 0} (cells cells' : Cells) (actors actors' : List (Actor P)) (i : ℕ) (new : Actor P) (placed : IsPlaced actors actors' i new) (apart : LeavesHeld cells cells' actors i new) where
  one_then : OneHolds actors → OneHolds actors'
  one_then one j k a b ea eb ha hb = elim (placed j a ea) [
    | inl x ↦ elim (placed k b eb) [
      | inl y ↦ sym x.0 ∙ y.0
      | inr y ↦ absurd (both_ways new.engine.holds (apart k b y.0 y.1 hb).1 (ap (λ (z : Actor P). z.engine.holds) (sym x.1) ∙ ha))
    ]
    | inr x ↦ elim (placed k b eb) [
      | inl y ↦ absurd (both_ways new.engine.holds (apart j a x.0 x.1 ha).1 (ap (λ (z : Actor P). z.engine.holds) (sym y.1) ∙ hb))
      | inr y ↦ one j k a b x.1 y.1 ha hb
    ]
  ]

  module _ (rules : Rules P) (r r' : Rows) (s : AreActors rules cells r actors) (sound : IsSound rules cells' r' new) (done : is_ready new.status ≡ false) (thread : new.run.thread ≡ i)
      (late : cells.clock ≤ cells'.clock) (long : length cells'.words ≡ length cells.words) (room : count_all actors' ≤ r'.room) where
    each_then : (j : ℕ) (b : Actor P) → slice_get actors' j ≡ Some b → IsActor rules cells' r' j b
    each_then j b e = elim (placed j b e) [
      | inl h ↦ subst (IsActor rules cells' r' j) (sym h.1) (record { sound = sound; done = done; thread = thread ∙ h.0 })
      | inr h ↦
          (let was = s.each j b h.1 in
          assumption (sound_still rules cells cells' r r' b was.sound sound.tied.fit late long (λ holds. (apart j b h.0 h.1 holds).0) (let share = (replaced_sum actors' j b b e).1 in omega arith), was))
    ]

    actors_then : length actors' ≤ MAX_ACTORS → (cells'.clock % 2 ≡ 1 → (place : ℕ) × (a : Actor P) × (slice_get actors' place ≡ Some a) × (a.engine.holds ≡ true))
        → AreActors rules cells' r' actors'
    actors_then few held = record { few = few; each = each_then; one = one_then s.one; held = held; room = room }

-- ## One event

-- who holds the clock, once one is replaced
module _ {P : Type 0}
    (cells cells' : Cells) (actors : List (Actor P)) (i : ℕ) (got new : Actor P) (here : slice_get actors i ≡ Some got) (clocks : ClocksOn cells got.engine cells' new.engine)
    (one : OneHolds actors)
    (odd_of : (j : ℕ) (b : Actor P) → slice_get actors j ≡ Some b → b.engine.holds ≡ true → cells.clock % 2 ≡ 1) where
  -- one that holds the clock and is not this one sees no change
  pub held_apart : LeavesHeld cells cells' actors i new
  held_apart j b apart e h = clocks.apart (odd_of j b e h) (false_from_ne_true got.engine.holds (λ g. apart (one i j got b here e g h)))

  pub one_after : OneHolds (slice_set actors i new)
  one_after = one_then cells cells' actors (slice_set actors i new) i new (set_place actors i got new here) held_apart one

  pub held_after : (cells.clock % 2 ≡ 1 → (place : ℕ) × (a : Actor P) × (slice_get actors place ≡ Some a) × (a.engine.holds ≡ true)) → cells'.clock % 2 ≡ 1
      → (place : ℕ) × (a : Actor P) × (slice_get (slice_set actors i new) place ≡ Some a) × (a.engine.holds ≡ true)
  held_after held odd =
      let here_after : slice_get (slice_set actors i new) i ≡ Some new = slice_get-set_same actors i new (slice_get_within actors i got here) in
      elim (odd_or_even cells.clock) [
        | inl even ↦ (i, new, here_after, clocks.alone (λ o. absurd (let z : 0 ≡ 1 = sym even ∙ o in omega arith)) odd)
        | inr was_odd ↦
            (let h = held was_odd in
            elim (cases_Bool (i == h.0)) [
              | inl c ↦
                  (let same : got ≡ h.1 = (let found : Some got ≡ Some h.1 = sym here ∙ (ap (slice_get actors) (eqb-true i h.0 c) ∙ h.2) in cc) in
                  (i, new, here_after, clocks.alone (λ o. ap (λ (z : Actor P). z.engine.holds) same ∙ h.3) odd))
              | inr c ↦ (h.0, h.1, slice_get-set_other actors i h.0 new (eqb-false i h.0 c) ∙ h.2, h.3)
            ])
      ]

module _ {P : Type 0} (rules : Rules P)
    (cells cells' : Cells) (r r' : Rows) (actors : List (Actor P)) (s : AreActors rules cells r actors)
    (i : ℕ) (got new : Actor P) (here : slice_get actors i ≡ Some got)
    (sound : IsSound rules cells' r' new) (done : is_ready new.status ≡ false)
    (others : KeepsOthers got r new r') (clocks : ClocksOn cells got.engine cells' new.engine) where
  -- the world goes on
  pub actors_after : AreActors rules cells' r' (slice_set actors i new)
  actors_after =
      let mine = (s.each i got here).thread in
      let long = length-set actors i new in
      let w = replaced_sum actors i got new here in
      let room : count_all (slice_set actors i new) ≤ r'.room = omega (arith, w.2, others.room w.0 (omega (arith, s.few, w.3)) (omega (arith, s.room, w.1))) in
      actors_then cells cells' actors (slice_set actors i new) i new (set_place actors i got new here) (held_apart cells cells' actors i got new here clocks s.one (odd_held s))
      rules r r' s sound done (others.thread ∙ mine) clocks.late clocks.long room (omega (arith, s.few)) (held_after cells cells' actors i got new here clocks s.one (odd_held s) s.held)

-- ## One actor more

pub joined_place : {A : Type 0} (xs : List A) (y : A) (j : ℕ) (b : A) → slice_get (xs ++ y ∷ []) j ≡ Some b → ((length xs ≡ j) × (b ≡ y)) ⊎ ((length xs ≢ j) × (slice_get xs j ≡ Some b))
joined_place [] y zero b e = inl (refl, cc)
joined_place [] y (suc j) b e = absurd (cc)
joined_place (x ∷ xs) y zero b e = inr (λ same. absurd (omega arith), e)
joined_place (x ∷ xs) y (suc j) b e = elim (joined_place xs y j b e) [ inl h ↦ inl (ap suc h.0, h.1) | inr h ↦ inr (λ same. h.0 (omega arith), h.1) ]

still_there : {A : Type 0} (xs ys : List A) (j : ℕ) (b : A) → slice_get xs j ≡ Some b → slice_get (xs ++ ys) j ≡ Some b
still_there [] ys j b e = absurd (cc)
still_there (x ∷ xs) ys zero b e = e
still_there (x ∷ xs) ys (suc j) b e = still_there xs ys j b e

count_more : {P : Type 0} (actors : List (Actor P)) (new : Actor P) → count_all (actors ++ new ∷ []) ≡ count_all actors + count_of new
count_more [] new = (let e : count_of new + 0 ≡ 0 + count_of new = omega arith in e)
count_more (a ∷ rest) new = (let e = count_more rest new in omega arith)

module _ {P : Type 0} (rules : Rules P)
    (cells : Cells) (r r' : Rows) (actors : List (Actor P)) (s : AreActors rules cells r actors) (new : Actor P)
    (sound : IsSound rules cells r' new) (done : is_ready new.status ≡ false) (thread : new.run.thread ≡ length actors) (fewer : length actors < MAX_ACTORS)
    (roomy : (others : ℕ) → others < MAX_ACTORS → others ≤ r.room → others + count_of new ≤ r'.room) (free : new.engine.holds ≡ false) where
  pub actors_joined : AreActors rules cells r' (actors ++ new ∷ [])
  actors_joined =
      let long = length-append actors (new ∷ []) in
      let room : count_all (actors ++ new ∷ []) ≤ r'.room = omega (arith, count_more actors new, roomy (count_all actors) (omega (arith, count_le actors)) s.room) in
      actors_then cells cells actors (actors ++ new ∷ []) (length actors) new (joined_place actors new) (λ j b other e h. (refl, free))
      rules r r' s sound done thread (omega arith) refl room (omega arith) (λ odd. (let h = s.held odd in (h.0, h.1, still_there actors (new ∷ []) h.0 h.1 h.2, h.3)))

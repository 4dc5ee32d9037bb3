-- A block that goes back to its begin: where the engine stands then is where the attempt leads, cut to that begin, with its record.
use Rattle.std.proofs.Common.{◌≡◌, ℕ, zero, suc, ◌≤◌, Bool, true, false, List, [], ◌∷◌, ◌++◌, length, map, take, drop, reverse, Option, None, Some, refl, sym, ap, ◌∙◌, append_assoc, if◌then◌else◌, ◌+◌, length-append, subst, arith, inl, inr, nat_lt}
use Rattle.run_rules.proofs.Common.{Again, Agrees, AreAlike, AtEach, Attempt, Begin, Breaks, Call, CallRecord, Code, Core, Frame, HasBegun, IsAlone, IsMemory, Kept, Props, Ran, Refusal, Rules, Savepoint, State, StaysRevocable, after, after_unless, again_of, alike_before, alone_alike, arena_set, as_undo, at_each_also, back, begun_again, blocks_sized, breaks_in, breaks_of, bytes_of, cases_Bool, cond-true, count_undone, cut_to, drop-append-le, due_at, earlier, effect, entered, irrevocable_from, is_open, kept_of, later, le-ltb, length-take, lt-ltb, ltb-true, nothing, opened, pushed, put_back, refusal, renewed, reply, reply_unless, restored, run_on, stands_for, state_again_in, state_alike, state_then, state_under, take-append-drop, take-append-le, take-take, with_again}

-- ## A begin that was accepted

accepted_by : (o : Option Refusal) (old new : State) → Code 5 ≡ reply_unless o (Code 5) → after_unless o old new ≡ new
accepted_by None old new e = refl
accepted_by (Some r) old new e = absurd (cc)

pub accepted : (deepest : ℕ) (s : State) (props : Props) (room : ℕ) → is_open s ≡ true → Code 5 ≡ reply deepest s (Begin props room) → after deepest s (Begin props room) ≡ entered s props
accepted deepest s props room o e =
    accepted_by (refusal deepest s (Begin props room)) s (effect s (Begin props room)) e ∙ cond-true (is_open s) (entered s props) (opened s.memory s.arena props) o

open_by : (b : Bool) (o : Option Call) (c : Call) → (if b then o else None) ≡ Some c → b ≡ true
open_by true o c e = refl
open_by false o c e = absurd (cc)

module _ {P : Type 0} (rules : Rules P) (deepest : ℕ) where
  pub last_alone : (br : Breaks) (p : P) (s : State) (xs : List CallRecord) (x : CallRecord) → IsAlone rules deepest br p s (xs ++ x ∷ [])
      → (is_open (state_then deepest br s xs) ≡ true) × (x.reply ≡ reply deepest (state_then deepest br s xs) x.call)
  last_alone br p s [] x a = (open_by (is_open s) (rules.next_call p) x.call a.0, a.1)
  last_alone br p s (y ∷ ys) x a = last_alone (later br) (rules.answered p y.reply) (br 1 (after deepest s y.call)) ys x a.2

-- ## A begin from another arena

pub entered_so : (s : State) (props : Props) → props.goes_irrevocable ≡ false → entered s props ≡ pushed s props
entered_so s props stays = ap (λ (b : Bool). if b then irrevocable_from (pushed s props) else pushed s props) stays

-- and with more actions that have run
entered_again : (s : State) (arena : List ℕ) (ran : List Ran) (a : Again) (props : Props) → props.goes_irrevocable ≡ false → a.arena ≡ arena → nothing arena ≡ nothing s.arena → s.actions.ran ++ a.undone ≡ ran
    → entered (record s { arena = arena; actions = record s.actions { ran = ran } }) props ≡ run_on (Some a) (entered s props)
entered_again s arena ran a props stays is same all =
    let is' : arena ≡ a.arena = sym is in
    let all' : ran ≡ s.actions.ran ++ a.undone = sym all in
    entered_so (record s { arena = arena; actions = record s.actions { ran = ran } }) props stays
    ∙ ((λ i. record s {
      arena = is' i;
      blocks = record { props = props; saved = if s.irrevocable then None else Some (record { memory = s.memory; wrote = s.wrote; commits = length s.actions.commits; undos = length s.actions.undos; kept = same i }) } ∷ s.blocks;
      actions = record s.actions { ran = all' i };
    })
    ∙ ap (run_on (Some a)) (sym (entered_so s props stays)))

-- ## Lists

kept_all : (n : ℕ) (xs own : List Ran) → n ≤ length xs → take n xs ++ drop n (xs ++ own) ≡ xs ++ own
kept_all n xs own l = ap (λ (ys : List Ran). take n xs ++ ys) (drop-append-le n xs own l) ∙ (sym (append_assoc (take n xs) (drop n xs) own) ∙ ap (λ (ys : List Ran). ys ++ own) (take-append-drop n xs))

pub taken : (xs : List CallRecord) (x : CallRecord) (rest : List CallRecord) → take (suc (length xs)) (xs ++ x ∷ rest) ≡ xs ++ x ∷ []
taken [] x rest = refl
taken (y ∷ ys) x rest = ap (λ (zs : List CallRecord). y ∷ zs) (taken ys x rest)

-- ## The engine

module _ {P : Type 0} (rules : Rules P) (deepest : ℕ) (by : P) (row : Attempt) (point : Savepoint) (c : Core) (b p : Frame) (outer : List Frame) (clock : ℕ) where
  -- a retryable transaction with an inner block open
  abbrev e : Core
  e = record c { irrevocable = false; blocks = b ∷ p ∷ outer }

  abbrev new : Core
  new = renewed e clock

  abbrev cut : Attempt
  cut = cut_to point new.arena new.actions.ran row

  module _ (begun : HasBegun rules deepest by row e b (p ∷ outer) point) (m : List ℕ) (memory : IsMemory c.words m) (agrees : Agrees m (take b.reads c.log)) where
    abbrev before : State
    before = state_then deepest (breaks_in row.restarts) (opened (bytes_of m) row.arena row.props) begun.before

    abbrev begin : CallRecord
    begin = record { call = Begin b.props begun.room; reply = Code 5 }

    abbrev own : List Ran
    own = map as_undo (reverse (drop b.undos c.actions.undos))

    -- Over every memory that agrees with the log as it is cut, the engine stands where the attempt leads, cut to the block's begin. Of the engine this asks what its contract says (`meets`), that what was logged puts back what is kept, and that its block is no irrevocable one; of the record that no more actions were told by then than had come to run, and that the arena keeps its size.
    pub goes_back : stands_for new m ≡ begun_again e.blocks (back (stands_for e m)) → restored (kept_of c.arena b.log) c.arena ≡ put_back b.log c.arena → b.props.goes_irrevocable ≡ false
        → due_at point row.restarts ≤ length c.actions.ran → nothing new.arena ≡ nothing before.arena
        → stands_for new m ≡ state_then deepest (breaks_in cut.restarts) (opened (bytes_of m) row.arena row.props) cut.calls.list
    goes_back meets puts stays few size =
        let a : Again = again_of point row new.arena new.actions.ran in
        let due : ℕ = due_at point row.restarts in
        let under = begun.under m memory agrees in
        let kept' = sym begun.kept in
        let calls' = sym begun.calls in
        let last = last_alone rules deepest (breaks_in row.restarts) by (opened (bytes_of m) row.arena row.props) begun.before begin (begun.alone m memory agrees) in
        let told : before.actions.ran ++ a.undone ≡ c.actions.ran ++ own = ap (λ (s : State). s.actions.ran ++ a.undone) (sym under) ∙ kept_all due c.actions.ran own few in
        meets
        ∙ (ap (λ (arena : List ℕ). entered (record (state_under e b (p ∷ outer) due m) { arena = arena; actions = record (state_under e b (p ∷ outer) due m).actions { ran = c.actions.ran ++ own } }) b.props) puts
        ∙ (ap (λ (s : State). entered (record s { arena = new.arena; actions = record s.actions { ran = c.actions.ran ++ own } }) b.props) under
        ∙ (entered_again before new.arena (c.actions.ran ++ own) a b.props stays refl size told
        ∙ (ap (run_on (Some a)) (sym (accepted deepest before b.props begun.room last.0 last.1))
        ∙ (sym (state_again_in a deepest row.restarts (opened (bytes_of m) row.arena row.props) begun.before begin (sym begun.kept))
        ∙ ap (state_then deepest (breaks_in cut.restarts) (opened (bytes_of m) row.arena row.props))
        (sym (taken begun.before begin begun.rest) ∙ (λ i. take (kept' i) (calls' i))))))))

-- ## While the block stays open

-- what it goes back to stays, whatever comes: the lists grow, or are cut no further than to its begin, and the arena keeps its size
pub under_still : (e e' : Core) (b : Frame) (outer : List Frame) (due : ℕ) (m : List ℕ) → nothing e'.arena ≡ nothing e.arena
    → take b.commits e'.actions.commits ≡ take b.commits e.actions.commits → take b.undos e'.actions.undos ≡ take b.undos e.actions.undos → take due e'.actions.ran ≡ take due e.actions.ran
    → state_under e' b outer due m ≡ record (state_under e b outer due m) { arena = e'.arena }
under_still e e' b outer due m size commits undos ran =
    let around = blocks_sized outer e'.arena e.arena m size in
    λ i. record (state_under e' b outer due m) { blocks = around i; actions = record { commits = commits i; undos = undos i; ran = ran i } }

-- an open inner block is so known after more calls within the transaction, or within it and its block, and with other room for calls, elsewhere
pub begun_still : {P : Type 0} (rules : Rules P) (deepest : ℕ) (by : P) (row : Attempt) (e e' : Core) (b : Frame) (outer : List Frame) (s : Savepoint) (at : ℕ) (calls : Kept) (ran : List Ran) (later : List CallRecord) (more : List Ran) → calls.list ≡ row.calls.list ++ later → ran ≡ row.ran ++ more
    → HasBegun rules deepest by row e b outer s → e'.words ≡ e.words → take b.reads e'.log ≡ take b.reads e.log → nothing e'.arena ≡ nothing e.arena
    → take b.commits e'.actions.commits ≡ take b.commits e.actions.commits → take b.undos e'.actions.undos ≡ take b.undos e.actions.undos
    → take (due_at s row.restarts) e'.actions.ran ≡ take (due_at s row.restarts) e.actions.ran
    → HasBegun rules deepest by (record row { at = at; calls = calls; ran = ran }) e' b outer s
begun_still rules deepest by row e e' b outer s at calls ran later more calls_are ran_is h words log size commits undos due =
    let begin : CallRecord = record { call = Begin b.props h.room; reply = Code 5 } in
    let was : (m : List ℕ) → IsMemory e'.words m → IsMemory e.words m = λ m k. subst (λ (n : ℕ). IsMemory n m) words k in
    let had : (m : List ℕ) → Agrees m (take b.reads e'.log) → Agrees m (take b.reads e.log) = λ m a. subst (Agrees m) log a in
    record {
      before = h.before;
      room = h.room;
      rest = h.rest ++ later;
      calls = calls_are ∙ (ap (λ (xs : List CallRecord). xs ++ later) h.calls ∙ append_assoc h.before (begin ∷ h.rest) later);
      kept = h.kept;
      few = omega (arith, h.few, ap (length {A = Ran}) ran_is, length-append row.ran more);
      stays = h.stays;
      sized = λ m k a. h.sized m (was m k) (had m a);
      under = λ m k a.
          under_still e e' b outer (due_at s row.restarts) m size commits undos due
          ∙ ap (λ (t : State). record t { arena = e'.arena }) (h.under m (was m k) (had m a));
      told = λ m k a. ap (take s.ran) ran_is ∙ (take-append-le s.ran row.ran more h.few ∙ h.told m (was m k) (had m a));
      alone = λ m k a. h.alone m (was m k) (had m a);
      revocable = λ m k a. h.revocable m (was m k) (had m a);
    }

-- ## As it goes back, or a block within it

pub before_all : (k n : ℕ) (rs : List Again) → k ≤ n → (a : Again) → n ≤ a.kept → earlier k (earlier n rs ++ a ∷ []) ≡ earlier k rs
before_all k n [] l a u = ap (λ (b : Bool). if b then a ∷ [] else []) (le-ltb a.kept k (omega (arith, l, u)))
before_all k n (r ∷ rest) l a u = elim (cases_Bool (nat_lt r.kept k)) [
  | inl f ↦ rw (lt-ltb r.kept n (omega (arith, l, ltb-true r.kept k f)), f) (ap (λ (xs : List Again). r ∷ xs) (before_all k n rest l a u))
  | inr f ↦ elim (cases_Bool (nat_lt r.kept n)) [ inl e ↦ rw (e, f) (before_all k n rest l a u) | inr e ↦ rw (e, f) (before_all k n rest l a u) ]
]

take_past : (n : ℕ) (xs : List CallRecord) (x : CallRecord) (ys : List CallRecord) → suc (length xs) ≤ n → (zs : List CallRecord) × (take n (xs ++ x ∷ ys) ≡ xs ++ x ∷ zs)
take_past zero xs x ys l = absurd (omega arith)
take_past (suc n) [] x ys l = (take n ys, refl)
take_past (suc n) (y ∷ xs) x ys l = (let f = take_past n xs x ys (omega (arith, l)) in (f.0, ap (λ (zs : List CallRecord). y ∷ zs) f.1))

nearer_alike : (top low : ℕ) (b c : Breaks) → low ≤ top → AreAlike top b c → AreAlike low b c
nearer_alike top low b c l h n u v s = h n u (omega (arith, l, v)) s

-- a block that goes back, or one around it, is known as it was
pub begun_cut : {P : Type 0} (rules : Rules P) (deepest : ℕ) (by : P) (row : Attempt) (e e' : Core) (b : Frame) (outer : List Frame) (s t : Savepoint) (arena : List ℕ) (due : List Ran) (h : HasBegun rules deepest by row e b outer s)
    → s.kept ≤ t.kept → s.ran ≤ t.ran
    → e'.words ≡ e.words → take b.reads e'.log ≡ take b.reads e.log → nothing e'.arena ≡ nothing e.arena
    → take b.commits e'.actions.commits ≡ take b.commits e.actions.commits → take b.undos e'.actions.undos ≡ take b.undos e.actions.undos
    → take (due_at s row.restarts) e'.actions.ran ≡ take (due_at s row.restarts) e.actions.ran
    → (k : HasBegun rules deepest by (cut_to t arena due row) e' b outer s) × (k.before ≡ h.before) × (k.room ≡ h.room)
begun_cut rules deepest by row e e' b outer s t arena due h later fewer words log size commits undos ran =
    let begin : CallRecord = record { call = Begin b.props h.room; reply = Code 5 } in
    let a : Again = again_of t row arena due in
    let cut : Attempt = cut_to t arena due row in
    let at = h.kept in
    let past = take_past t.kept h.before begin h.rest (omega arith) in
    let was : (m : List ℕ) → IsMemory e'.words m → IsMemory e.words m = λ m k. subst (λ (n : ℕ). IsMemory n m) words k in
    let had : (m : List ℕ) → Agrees m (take b.reads e'.log) → Agrees m (take b.reads e.log) = λ m k. subst (Agrees m) log k in
    let same : due_at s (with_again a row.restarts) ≡ due_at s row.restarts = ap (λ (xs : List Again). s.ran + count_undone xs) (before_all s.kept a.kept row.restarts later a (let m : a.kept ≤ a.kept = omega arith in m)) in
    let low : suc (length h.before) ≤ a.kept = omega arith in
    let led : (m : List ℕ) → state_then deepest (breaks_in row.restarts) (opened (bytes_of m) row.arena row.props) h.before ≡ state_then deepest (breaks_in (with_again a row.restarts)) (opened (bytes_of m) row.arena row.props) h.before = λ m.
    state_alike deepest (breaks_in row.restarts) (breaks_in (with_again a row.restarts)) (opened (bytes_of m) row.arena row.props) h.before (nearer_alike a.kept (suc (length h.before)) (breaks_in row.restarts) (breaks_in (with_again a row.restarts)) low (alike_before a run_on row.restarts)) in
    let told_led : (m : List ℕ) (xs : List CallRecord) → suc (length xs) ≤ a.kept → state_then deepest (breaks_of row.restarts) (opened (bytes_of m) row.arena row.props) xs ≡ state_then deepest (breaks_of (with_again a row.restarts)) (opened (bytes_of m) row.arena row.props) xs = λ m xs few.
    state_alike deepest (breaks_of row.restarts) (breaks_of (with_again a row.restarts)) (opened (bytes_of m) row.arena row.props) xs (nearer_alike a.kept (suc (length xs)) (breaks_of row.restarts) (breaks_of (with_again a row.restarts)) few (alike_before a arena_set row.restarts)) in
    let one : length (h.before ++ begin ∷ []) ≡ suc (length h.before) = (let n = length-append h.before (begin ∷ []) in omega arith) in (
      record {
        before = h.before;
        room = h.room;
        rest = past.0;
        calls = ap (take t.kept) h.calls ∙ past.1;
        kept = h.kept;
        few = (let few = h.few in let n = length-take t.ran row.ran in omega arith);
        stays = h.stays;
        sized = λ m k g. ap (λ (x : State). length x.arena) (sym (led m)) ∙ h.sized m (was m k) (had m g);
        under = λ m k g.
            ap (λ (n : ℕ). state_under e' b outer n m) same
            ∙ (under_still e e' b outer (due_at s row.restarts) m size commits undos ran
            ∙ (ap (λ (x : State). record x { arena = e'.arena }) (h.under m (was m k) (had m g))
            ∙ ap (λ (x : State). record x { arena = e'.arena }) (led m)));
        told = λ m k g.
            take-take s.ran t.ran row.ran fewer
            ∙ (h.told m (was m k) (had m g)
            ∙ ap (λ (x : State). x.actions.ran) (told_led m h.before low));
        revocable = λ m k g.
            subst (AtEach (StaysRevocable deepest cut m) h.before) (sym (before_all s.kept t.kept row.restarts later a (let l : t.kept ≤ a.kept = omega arith in l)))
            (at_each_also (StaysRevocable deepest row m) (StaysRevocable deepest cut m) h.before (earlier s.kept row.restarts)
            (λ n was_so.
            (let few = length-take n h.before in
            subst (λ (x : State). x.irrevocable ≡ false) (told_led m (take n h.before) (omega (arith, low, few))) was_so))
            (h.revocable m (was m k) (had m g)));
        alone = λ m k g.
            alone_alike rules deepest (breaks_in row.restarts) (breaks_in (with_again a row.restarts)) by (opened (bytes_of m) row.arena row.props) (h.before ++ begin ∷ [])
            (nearer_alike a.kept (length (h.before ++ begin ∷ [])) (breaks_in row.restarts) (breaks_in (with_again a row.restarts)) (omega (arith, low, one)) (alike_before a run_on row.restarts)) (h.alone m (was m k) (had m g));
      },
      refl,
      refl,
    )

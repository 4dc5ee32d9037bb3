-- An attempt has no fault on a memory exactly where it is one alone on it.
use Rattle.std.proofs.Common.{◌≡◌, ℕ, zero, suc, ◌-◌, ◌<◌, Bool, true, false, not, ◌&&◌, if◌then◌else◌, is_some, List, [], ◌∷◌, ◌++◌, length, map, take, Option, None, Some, refl, sym, ap, subst, ◌∙◌, arith, length-append, bytes_eq}
use Rattle.history_checker.proofs.Common.{Abort, Again, Attempt, Breaks, ByAbort, ByCommit, Call, CallRecord, Cancelled, ClosedBy, Code, Commit, Committed, Decides, Decides-and, Done, EndsIn, Fault, IsAlone, Outcome, ReadOnly, Reply, State, Unfinished, after, again_at, again_fault, alone, and_from, and_parts, are_again, arena_set, at_call, at_head, bytes_eq-Decides, calls_fault, came_irrevocable, cond-false, end_fault, ends_by_abort, ends_by_commit, eqb-true, fault_in, first_of, fits, is_abort_done, is_cancelled, is_commit_done, is_done, is_open, last_is, may_begin, may_stand, not-true, not_from_false, opened, pointwise, ran_alone, replies_through, reply, same_ran, same_reply, state_at, state_through, take-append_seam}
use Rattle.tx_attempts.specs.Opacity.{StaysRevocable}
use Rattle.history_checker.specs.declared.verdict.BadKind.TheVariants as kind
use Rattle.tx_history.proofs.Runs.AloneCalls.{same_head, same_tail}
use Rattle.history_checker.proofs.Steps.Calls.{made}
use Rattle.history_checker.proofs.Steps.Firsts.{first_nothing, passed, passed_over}
use Rattle.history_checker.proofs.Legality.Replies.{all_ran_decides, reply_decides}
use Rattle.history_checker.proofs.Legality.Restarts.{again_decides, each_at, each_from}

-- ## The calls

-- where no block ran again in an irrevocable transaction, nothing later is wrong
none_held : (o : Option Again) (s : State) (later : Option Fault) → again_fault o s later ≡ None → (is_some o ≡ true → s.irrevocable ≡ false) × (later ≡ None)
none_held None s later e = (λ is. absurd (cc), e)
none_held (Some a) s later e = (let parts = passed_over s.irrevocable (at_head kind.Shape) later e in (λ is. parts.0, parts.1))

-- and where nothing is, none did
held_none : (o : Option Again) (s : State) (later : Option Fault) → (is_some o ≡ true → s.irrevocable ≡ false) → later ≡ None → again_fault o s later ≡ None
held_none None s later h e = e
held_none (Some a) s later h e = cond-false s.irrevocable (Some (at_head kind.Shape)) later (h refl) ∙ e

-- an arena that is set leaves the mode
mode_set : (o : Option Again) (s : State) → (arena_set o s).irrevocable ≡ s.irrevocable
mode_set None s = refl
mode_set (Some a) s = refl

-- what the blocks that ran again make of a run
abbrev pub sets : (ℕ → Option Again) → Breaks
sets again n s = arena_set (again n) s

module _ (deepest : ℕ) where
  -- no call stands after the outermost block's end
  abbrev StaysOpen : (ℕ → Option Again) → State → List CallRecord → Type 0
  StaysOpen again s es = (before : List CallRecord) (e : CallRecord) (rest : List CallRecord) → es ≡ before ++ e ∷ rest → is_open (state_through deepest (sets again) s (made before)) ≡ true

  -- of no calls none does
  none_there : (again : ℕ → Option Again) (s : State) → StaysOpen again s []
  none_there again s [] e rest is = absurd (cc)
  none_there again s (b ∷ before) e rest is = absurd (cc)

  -- the state before the calls that follow a first one
  abbrev next : (ℕ → Option Again) → State → CallRecord → State
  next again s x = arena_set (again 1) (after deepest s x.call)

  -- with one more that is made in an open block it stays so
  one_more_there : (again : ℕ → Option Again) (s : State) (x : CallRecord) (xs : List CallRecord) → is_open s ≡ true → StaysOpen (λ n. again (suc n)) (next again s x) xs → StaysOpen again s (x ∷ xs)
  one_more_there again s x xs o later [] e rest is = o
  one_more_there again s x xs o later (b ∷ before) e rest is =
      let call : x.call ≡ b.call = ap (λ (c : CallRecord). c.call) (same_head x b xs (before ++ e ∷ rest) is) in
      subst (λ (c : Call). is_open (state_through deepest (sets (λ n. again (suc n))) (arena_set (again 1) (after deepest s c)) (made before)) ≡ true) call (later before e rest (same_tail x b xs (before ++ e ∷ rest) is))

  -- where a block ran again the transaction was not irrevocable
  abbrev StaysFree : (ℕ → Option Again) → State → List CallRecord → Type 0
  StaysFree again s es = (n : ℕ) → n < length es → is_some (again (suc n)) ≡ true → (state_through deepest (sets again) s (made (take (suc n) es))).irrevocable ≡ false

  one_more_free : (again : ℕ → Option Again) (s : State) (x : CallRecord) (xs : List CallRecord) → (is_some (again 1) ≡ true → (after deepest s x.call).irrevocable ≡ false) → StaysFree (λ n. again (suc n)) (next again s x) xs → StaysFree again s (x ∷ xs)
  one_more_free again s x xs h later zero l is = mode_set (again 1) (after deepest s x.call) ∙ h is
  one_more_free again s x xs h later (suc n) l is = later n (omega (arith, l)) is

  -- with no fault the replies are the plain machine's, each of a call in an open block
  calls_told : (again : ℕ → Option Again) (s : State) (i : ℕ) (es : List CallRecord) → calls_fault deepest again s i es ≡ None
      → (map (λ (e : CallRecord). e.reply) es ≡ replies_through deepest (sets again) s (made es)) × StaysOpen again s es × StaysFree again s es
  calls_told again s i [] f = (refl, none_there again s, λ n l is. absurd (omega (arith, l)))
  calls_told again s i (x ∷ xs) f =
      let t = after deepest s x.call in
      let rest = calls_fault deepest (λ n. again (suc n)) (arena_set (again 1) t) (suc i) xs in
      let inside = passed (is_open s) (if same_reply x.reply (reply deepest s x.call) then again_fault (again 1) t rest else Some (at_call i kind.Reply)) (at_head kind.Shape) f in
      let right = passed (same_reply x.reply (reply deepest s x.call)) (again_fault (again 1) t rest) (at_call i kind.Reply) inside.1 in
      let held = none_held (again 1) t rest right.1 in
      let later = calls_told (λ n. again (suc n)) (arena_set (again 1) t) (suc i) xs held.1 in
      let first : x.reply ≡ reply deepest s x.call = (reply_decides x.reply (reply deepest s x.call)).0 right.0 in
      (λ t. first t ∷ later.0 t, one_more_there again s x xs inside.0 later.1, one_more_free again s x xs held.0 later.2)

  -- and where they are there is none
  calls_right : (again : ℕ → Option Again) (s : State) (i : ℕ) (es : List CallRecord) → map (λ (e : CallRecord). e.reply) es ≡ replies_through deepest (sets again) s (made es) → StaysOpen again s es → StaysFree again s es
      → calls_fault deepest again s i es ≡ None
  calls_right again s i [] r o h = refl
  calls_right again s i (x ∷ xs) r o h =
      let t = after deepest s x.call in
      let first : x.reply ≡ reply deepest s x.call = same_head _ _ _ _ r in
      let rest = calls_right (λ n. again (suc n)) (arena_set (again 1) t) (suc i) xs (same_tail _ _ _ _ r) (λ before e rest is. o (x ∷ before) e rest (ap (λ (l : List CallRecord). x ∷ l) is)) (λ n l is. h (suc n) (omega (arith, l)) is) in
      rw (o [] x xs refl, (reply_decides x.reply (reply deepest s x.call)).1 first) (held_none (again 1) t _ (λ is. sym (mode_set (again 1) t) ∙ h 0 (omega arith) is) rest)

-- ## The last call

-- calls of which the last one passes a test
last_passes : (test : CallRecord → Bool) (es : List CallRecord) → last_is test es ≡ true → (before : List CallRecord) × (e : CallRecord) × (es ≡ before ++ e ∷ []) × (test e ≡ true)
last_passes test [] h = absurd (cc)
last_passes test (e ∷ []) h = ([], e, refl, h)
last_passes test (e ∷ f ∷ rest) h = (let r = last_passes test (f ∷ rest) h in (e ∷ r.0, r.1, ap (λ (l : List CallRecord). e ∷ l) r.2, r.3))

-- where the last call passes they are such
passes_last : (test : CallRecord → Bool) (before : List CallRecord) (e : CallRecord) → test e ≡ true → last_is test (before ++ e ∷ []) ≡ true
passes_last test [] e h = h
passes_last test (b ∷ []) e h = h
passes_last test (b ∷ c ∷ before) e h = passes_last test (c ∷ before) e h

-- a reply that passes is the one
is_done_only : (r : Reply) → is_done r ≡ true → r ≡ Done
is_done_only Done h = refl
is_done_only r h = absurd (cc)

-- likewise
is_cancelled_only : (r : Reply) → is_cancelled r ≡ true → r ≡ Code 24
is_cancelled_only (Code n) h = ap (λ (k : ℕ). Code k) (eqb-true n 24 h)
is_cancelled_only r h = absurd (cc)

-- an accepted commit is the one call with the one reply
commit_only : (c : Call) (r : Reply) → is_commit_done c r ≡ true → (c ≡ Commit) × (r ≡ Done)
commit_only Commit r h = (refl, is_done_only r h)
commit_only c r h = absurd (cc)

-- and so is an accepted abort
abort_only : (c : Call) (r : Reply) → is_abort_done c r ≡ true → (outer : Bool) × (c ≡ Abort outer) × (r ≡ Code 24)
abort_only (Abort outer) r h = (outer, refl, is_cancelled_only r h)
abort_only c r h = absurd (cc)

-- the test of the last call is true exactly where it is an accepted commit
commit_decides : (es : List CallRecord) → Decides (ends_by_commit es) (ByCommit es)
commit_decides es = (
  λ h. (let r = last_passes (λ (e : CallRecord). is_commit_done e.call e.reply) es h in
      let only = commit_only r.1.call r.1.reply r.3 in
      (r.0, r.2 ∙ (λ t. r.0 ++ record { call = only.0 t; reply = only.1 t } ∷ []))),
  λ by. ap ends_by_commit by.1 ∙ passes_last (λ (e : CallRecord). is_commit_done e.call e.reply) by.0 (record { call = Commit; reply = Done }) refl,
)

-- or an accepted abort
abort_decides : (es : List CallRecord) → Decides (ends_by_abort es) (ByAbort es)
abort_decides es = (
  λ h. (let r = last_passes (λ (e : CallRecord). is_abort_done e.call e.reply) es h in
      let only = abort_only r.1.call r.1.reply r.3 in
      (r.0, only.0, r.2 ∙ (λ t. r.0 ++ record { call = only.1 t; reply = only.2 t } ∷ []))),
  λ by. ap ends_by_abort by.2 ∙ passes_last (λ (e : CallRecord). is_abort_done e.call e.reply) by.0 (record { call = Abort by.1; reply = Code 24 }) refl,
)

-- ## The end

-- all but the last call
front_is : (before : List CallRecord) (e : CallRecord) → take (length (before ++ e ∷ []) - 1) (before ++ e ∷ []) ≡ before
front_is before e =
    let size : length (before ++ e ∷ []) - 1 ≡ length before = omega (arith, length-append before (e ∷ [])) in
    ap (λ (n : ℕ). take n (before ++ e ∷ [])) size ∙ take-append_seam before (e ∷ [])

-- the mode as the last call came
came_is : (deepest : ℕ) (memory : List ℕ) (a : Attempt) (before : List CallRecord) (last : CallRecord) → a.calls.list ≡ before ++ last ∷ [] → came_irrevocable deepest memory a ≡ (state_at deepest memory a before).irrevocable
came_is deepest memory a before last is =
    ap (λ (xs : List CallRecord). (state_at deepest memory a (take (length xs - 1) xs)).irrevocable) is
    ∙ ap (λ (xs : List CallRecord). (state_at deepest memory a xs).irrevocable) (front_is before last)

-- a test that is to be false
off_decides : (b : Bool) → Decides (not b) (b ≡ false)
off_decides b = (not-true b, not_from_false b)

-- the end that is given up leaves an open block that could be rolled back
given_up : (inside irrevocable : Bool) → Decides (inside && not irrevocable) (((inside ≡ true) × (irrevocable ≡ false)) × Unit {0})
given_up inside irrevocable =
    let d : Decides (inside && not irrevocable) ((inside ≡ true) × (irrevocable ≡ false)) = Decides-and inside (not irrevocable) (λ h. h, λ h. h) (off_decides irrevocable) in
    (λ h. (d.0 h, tt), λ h. d.1 h.0)

-- the state fits the outcome exactly where it is as the outcome says, and the last call too
fits_decides : (deepest : ℕ) (o : Outcome) (memory : List ℕ) (a : Attempt) (s : State) → Decides (fits deepest o memory a s) (EndsIn deepest o memory a s × ClosedBy o a.calls.list)
fits_decides deepest Committed memory a s = Decides-and (not (is_open s)) (ends_by_commit a.calls.list) (off_decides (is_open s)) (commit_decides a.calls.list)
fits_decides deepest ReadOnly memory a s =
    let came = came_irrevocable deepest memory a in
    let last : CallRecord = record { call = Commit; reply = Done } in
    let ends = Decides-and (not (is_open s)) (ends_by_commit a.calls.list) (off_decides (is_open s)) (commit_decides a.calls.list) in
    let kept = Decides-and (bytes_eq s.memory memory) (not came) (bytes_eq-Decides s.memory memory) (off_decides came) in
    let both = Decides-and (not (is_open s) && ends_by_commit a.calls.list) (bytes_eq s.memory memory && not came) ends kept in (
      λ h. (let d = both.0 h in ((d.0.0, d.1.0, λ before end is. sym (came_is deepest memory a before end is) ∙ d.1.1), d.0.1)),
      λ h. both.1 ((h.0.0, h.1), (h.0.1, came_is deepest memory a h.1.0 last h.1.1 ∙ h.0.2 h.1.0 last h.1.1)),
    )
fits_decides deepest Cancelled memory a s = Decides-and (not (is_open s)) (ends_by_abort a.calls.list) (off_decides (is_open s)) (abort_decides a.calls.list)
fits_decides deepest Unfinished memory a s = (λ h. (h, tt), λ h. h.0)
fits_decides deepest o memory a s = given_up (is_open s) s.irrevocable

-- ## The attempt

module _ (deepest : ℕ) (memory : List ℕ) (a : Attempt) where
  -- an attempt with no fault is one alone
  pub alone_from : fault_in deepest memory a ≡ None → IsAlone deepest memory a
  unfolding fault_in
  alone_from e =
      let s = alone deepest memory a in
      let start = opened memory a.arena a.props in
      let called = calls_fault deepest (again_at a.restarts) start 0 a.calls.list in
      let begun = passed (may_stand a) (first_of called (end_fault deepest memory a s)) (at_head kind.Shape) e in
      let stands = and_parts (may_begin a.props) (are_again (length a.arena) 0 a.calls.list a.restarts) begun.0 in
      let again = (again_decides (length a.arena) 0 a.calls.list a.restarts).0 stands.1 in
      let parts = first_nothing called (end_fault deepest memory a s) begun.1 in
      let told = calls_told deepest (again_at a.restarts) start 0 a.calls.list parts.0 in
      let ended = passed (fits deepest a.outcome memory a s) (if pointwise same_ran a.ran (ran_alone a.outcome s) then None else Some (at_head kind.Ran)) (at_head kind.Shape) parts.1 in
      let as_told = (fits_decides deepest a.outcome memory a s).0 ended.0 in
      record {
        props = stands.0;
        replies = told.0;
        stays_open = told.1;
        ends = as_told.0;
        closed = as_told.1;
        ran = (all_ran_decides a.ran (ran_alone a.outcome s)).0 (passed (pointwise same_ran a.ran (ran_alone a.outcome s)) None (at_head kind.Ran) ended.1).0;
        again = record { stand = again; revocable = each_from (StaysRevocable deepest memory a) (length a.arena) 0 a.calls.list a.restarts again told.2 };
      }

  -- and one alone has no fault
  pub faultless : IsAlone deepest memory a → fault_in deepest memory a ≡ None
  unfolding fault_in
  faultless i =
      let s = alone deepest memory a in
      let start = opened memory a.arena a.props in
      let stands : may_stand a ≡ true = and_from (may_begin a.props) (are_again (length a.arena) 0 a.calls.list a.restarts) i.props ((again_decides (length a.arena) 0 a.calls.list a.restarts).1 i.again.stand) in
      let calls : calls_fault deepest (again_at a.restarts) start 0 a.calls.list ≡ None =
      calls_right deepest (again_at a.restarts) start 0 a.calls.list i.replies i.stays_open (λ n l is. each_at (StaysRevocable deepest memory a) a.calls.list a.restarts i.again.revocable (suc n) is) in
      let ended : end_fault deepest memory a s ≡ None =
      rw ((fits_decides deepest a.outcome memory a s).1 (i.ends, i.closed), (all_ran_decides a.ran (ran_alone a.outcome s)).1 i.ran) refl in
      rw stands (λ t. first_of (calls t) (ended t))

-- How often a call has tried as it gives up, and what asks for a step outside a transaction.
use Rattle.std.proofs.Common.{inl, inr, ◌≡◌, ◌≢◌, ℕ, zero, suc, ◌+◌, ◌*◌, ◌/◌, ◌%◌, ◌≤◌, ◌==◌, ◌&&◌, not, nat_le, nat_lt, Bool, true, false, List, [], ◌∷◌, length, if◌then◌else◌, is_none, Option, None, Some, refl, ap, subst, ◌∙◌, arith}
use Rattle.call_rules.proofs.Common.{Answer, Busy, Call, Cas, Confirm, Conflict, Core, Exchange, Frame, Free, Full, GoesBegin, Idle, IsEnding, IsLawful, IsOpening, Phase, Restarted, RoundBack, RoundEnd, RoundRow, RoundStart, Step, StepTells, Store, Take, TakesFor, View, again_stage, aimed_ending, asked, asked_from, begin_stage, cases_Bool, commit_stage, copying_stage, ending_from, fill_from, going_stage, in_transaction, is_inside, is_outermost, ltb-false, may_go, pending, place_from, placed_in, read_stage, row_stage, stage_at, stage_from, stays_revocable, tries_after, tries_at, try_stage, value_reading, value_writing}
use Rattle.itm_types.specs.Access.{size_of}
use Rattle.itm_types.specs.declared.call.Call.TheVariants as calls
use Rattle.itm_types.specs.declared.step.Step.TheVariants as steps
use Rattle.norec_core.specs.declared.answer.Answer.TheVariants.{Reply as Answered}
use Rattle.norec_core.specs.Aims.{Aim}
use Rattle.norec_core.specs.Aims as aims
use Rattle.norec_core.specs.declared.call_parts.Opening.{Opening}
use Rattle.norec_core.specs.Phases.{Begin}
use Rattle.norec_core.specs.declared.call_parts.Taking.TheVariants as takings
use Rattle.norec_core.specs.Copies.{copy_refusal}
use Rattle.norec_core.specs.Rows.{row_at}
use Rattle.call_rules.{proofs.Steps.CallsInHand.both, proofs.Steps.NextViews.exchanged}

-- ## Looks

pub looks_on : (v w : View) (n : ℕ) (step : Step) → StepTells v step n w → v.looks ≤ w.looks
looks_on v w n (steps.Load zero) u = let is : w.looks ≡ v.looks + 1 = ap (λ (x : View). x.looks) (u.0 refl).0 in omega arith
looks_on v w n (steps.Load (suc word)) u =
    let told = u.1 word (let x : suc word ≡ word + 1 = omega arith in x) in
    let is : w.looks ≡ v.looks = elim (cases_Bool v.holds) [ inl h ↦ ap (λ (x : View). x.looks) (told.1 h).0 | inr h ↦ ap (λ (x : View). x.looks) (told.0 h) ] in
    omega arith
looks_on v w n (Store zero value) u = let is : w.looks ≡ v.looks = ap (λ (x : View). x.looks) (u.0 refl).0 in omega arith
looks_on v w n (Store (suc word) value) u = let is : w.looks ≡ v.looks = ap (λ (x : View). x.looks) (u.1 word (let x : suc word ≡ word + 1 = omega arith in x)) in omega arith
looks_on v w n (Cas cell from to) u = let looks = (exchanged v w n cell from to u).looks in omega arith

-- a load of the clock is a look
looks_more : (v w : View) (n : ℕ) (step : Step) → step ≡ steps.Load 0 → StepTells v step n w → v.looks + 1 ≤ w.looks
looks_more v w n step is u =
    let there : StepTells v (steps.Load 0) n w = subst (λ (x : Step). StepTells v x n w) is u in
    let more : w.looks ≡ v.looks + 1 = ap (λ (x : View). x.looks) (there.0 refl).0 in
    omega arith

pub pended : (v w : View) (n : ℕ) (c : Core) (step : Step) → Some step ≡ asked c → StepTells v step n w → (p : Phase) → c.stage ≡ p → v.looks + pending p ≤ w.looks
pended v w n c step asks u (Begin b) is = looks_more v w n step (let x : Some step ≡ Some (steps.Load 0) = asks ∙ ap (asked_from c) is in cc) u
pended v w n c step asks u (RoundStart aim) is = looks_more v w n step (let x : Some step ≡ Some (steps.Load 0) = asks ∙ ap (asked_from c) is in cc) u
pended v w n c step asks u p is = (let on = looks_on v w n step u in omega arith)

-- ## Tries

pub first_tries : (p : Phase) → tries_at p ≤ pending p
first_tries (Begin b) = (let r : 1 ≤ 1 = omega arith in r)
first_tries (RoundStart aim) = (let r : 0 ≤ 1 = omega arith in r)
first_tries p = (let r : 0 ≤ 0 = omega arith in r)

pub next_tries : (p : Phase) (a t l : ℕ) → a + t ≤ l → a + tries_after p t ≤ l + pending p
next_tries Idle a t l x = (let r : a + 0 ≤ l + 0 = omega arith in r)
next_tries (Begin b) a t l x = (let r : a + suc t ≤ l + 1 = omega arith in r)
next_tries (RoundStart aim) a t l x = (let r : a + suc t ≤ l + 1 = omega arith in r)
next_tries p a t l x = (let r : a + t ≤ l + 0 = omega arith in r)

-- ## The stage outside a transaction

idle_opens : Idle ≢ Idle → IsOpening Idle
idle_opens n = absurd (n refl)

if_opens : (b : Bool) (x y : Phase) → (x ≢ Idle → IsOpening x) → (y ≢ Idle → IsOpening y) → (if b then x else y) ≢ Idle → IsOpening (if b then x else y)
if_opens true x y f g n = f n
if_opens false x y f g n = g n

pub next_opens : (c : Core) (p : Phase) (seen : ℕ) → IsOpening p → stage_from c p seen ≢ Idle → IsOpening (stage_from c p seen)
next_opens c (Begin b) seen o n =
    if_opens (seen % 2 == 0) (begin_stage c.max_commits b seen) (again_stage c b)
    (if_opens b.props.goes_irrevocable (if nat_lt (seen / 2) c.max_commits then Take b else Idle) Idle (if_opens (nat_lt (seen / 2) c.max_commits) (Take b) Idle (λ x. tt) idle_opens) idle_opens)
    (if_opens (nat_lt c.tries c.patience) (Begin b) Idle (λ x. tt) idle_opens) n
next_opens c (Take b) seen o n =
    if_opens (seen == c.snapshot) Idle (again_stage c b) idle_opens (if_opens (nat_lt c.tries c.patience) (Begin b) Idle (λ x. tt) idle_opens) n
next_opens c p seen o n = absurd o

none_outermost : (bs : List Frame) → is_inside bs ≡ false → is_outermost bs ≡ false
none_outermost [] e = refl
none_outermost (b ∷ bs) e = absurd (cc)

begin_opens : (b go : Bool) (x : Phase) (o : Opening) → b ≡ false → (if b then x else (if go then Begin o else Idle)) ≢ Idle → IsOpening (if b then x else (if go then Begin o else Idle))
begin_opens true go x o e n = absurd (cc)
begin_opens false go x o e n = if_opens go (Begin o) Idle (λ y. tt) idle_opens n

pub first_opens : (c : Core) (call : Call) (again : Bool) → in_transaction c ≡ false → stage_at c call again ≢ Idle → IsOpening (stage_at c call again)
first_opens c (calls.Begin props room) again e n = begin_opens (in_transaction c) (may_go c.blocks props) _ _ e n
first_opens c calls.Commit again e n = absurd (n (ap (λ (b : Bool). if b then commit_stage c else Idle) (none_outermost c.blocks e)))
first_opens c (calls.Mode room) again e n = absurd (n (ap (λ (b : Bool). going_stage c (if b && not (stays_revocable c.blocks) && not c.irrevocable then Some room else None) (takings.Mode room)) e))
first_opens c (calls.Read hint width place) again e n = absurd (n (ap (λ (b : Bool). if b && nat_le (place + size_of width) (8 * c.words) then read_stage c (value_reading hint width place) else Idle) e))
first_opens c (calls.Write hint place value) again e n = absurd (n (ap (λ (b : Bool). if b && nat_le (place + size_of value.width) (8 * c.words) then placed_in c (place_from Idle (value_writing hint place value.width)) else Idle) e))
first_opens c (calls.Copy k) again e n = absurd (n (ap (λ (b : Bool). if is_none (copy_refusal b c.words (length c.arena) k) then copying_stage c k else Idle) e))
first_opens c (calls.Fill hint to byte size) again e n = absurd (n (ap (λ (b : Bool). if b && nat_le (to + size) (8 * c.words) then placed_in c (fill_from hint to byte size 0) else Idle) e))
first_opens c call again e n = absurd (n refl)

-- ## Giving up

-- no try is left
none_left : (tries patience : ℕ) (x : Phase) → x ≢ Idle → (if nat_lt tries patience then x else Idle) ≡ Idle → patience ≤ tries
none_left tries patience x some is = by_more (nat_lt tries patience) refl is
  where
    by_more : (b : Bool) → nat_lt tries patience ≡ b → (if b then x else Idle) ≡ Idle → patience ≤ tries
    by_more true e is = absurd (some is)
    by_more false e is = ltb-false tries patience e

not_begin : (b : Opening) → Begin b ≢ Idle
not_begin b e = absurd (cc)

not_round : (aim : Aim) → RoundStart aim ≢ Idle
not_round aim e = absurd (cc)

not_row : (rows : ℕ) (aim : Aim) (row : ℕ) → row_stage rows aim row ≢ Idle
not_row rows aim row = elim (nat_lt row rows) as (λ (b : Bool). (if b then RoundRow aim row else RoundEnd aim) ≢ Idle) [ true ↦ λ e. absurd (cc) | false ↦ λ e. absurd (cc) ]

-- the clock as a begin finds it is no conflict
not_begun : (seen clock : ℕ) (word : Option ℕ) (even goes : Bool) → IsEnding (if even then (if goes then Some (Full (seen / 2)) else None) else Some (Busy seen)) (Conflict clock word) → ⊥
not_begun seen clock word true true g = absurd (cc)
not_begun seen clock word true false g = g
not_begun seen clock word false goes g = absurd (cc)

-- a conflict that no word tells of, and a clock that is held
abbrev pub GivesUp : Answer → Type 0
GivesUp (Conflict clock None) = Unit {0}
GivesUp (Busy clock) = Unit {0}
GivesUp a = ⊥

no_reply : (a : Answer) → GivesUp a → IsEnding None a → ⊥
no_reply (Answered r) up g = up
no_reply a up g = g

module _ (c : Core) (seen : ℕ) (a : Answer) (up : GivesUp a) where
  full_end : (b : Bool) → IsEnding (if b then Some (Full (seen / 2)) else None) a → ⊥
  full_end true g = subst GivesUp g up
  full_end false g = no_reply a up g

  aimed_end : (aim : Aim) → IsEnding (aimed_ending aim seen) a → ⊥
  aimed_end (aims.Read r) g = no_reply a up g
  aimed_end (aims.Take taking) g = subst GivesUp g up

  -- another clock was found than was wanted
  by_same : (b : Bool) (end lost : Option Answer) (x y : Phase) → (IsEnding end a → ⊥) → y ≢ Idle → IsEnding (if b then end else lost) a → (if b then x else (if nat_lt c.tries c.patience then y else Idle)) ≡ Idle → c.patience ≤ c.tries
  by_same true end lost x y never some g is = absurd (never g)
  by_same false end lost x y never some g is = none_left c.tries c.patience y some is

  by_even : (b : Bool) (aim : Aim) → (if b then row_stage (length c.log) aim 0 else try_stage c.tries c.patience aim) ≡ Idle → c.patience ≤ c.tries
  by_even true aim is = absurd (not_row (length c.log) aim 0 is)
  by_even false aim is = none_left c.tries c.patience (RoundStart aim) (not_round aim) is

  pub last_try : (p : Phase) → IsEnding (ending_from c p seen) a → stage_from c p seen ≡ Idle → c.patience ≤ c.tries
  last_try (Begin b) g is = by_same (seen % 2 == 0) (if b.props.goes_irrevocable then Some (Full (seen / 2)) else None) _ _ (Begin b) (full_end b.props.goes_irrevocable) (not_begin b) g is
  last_try (Take b) g is = by_same (seen == c.snapshot) None _ _ (Begin b) (no_reply a up) (not_begin b) g is
  last_try (Confirm r value) g is = by_same (seen == c.snapshot) None _ _ (RoundStart (aims.Read r)) (no_reply a up) (not_round (aims.Read r)) g is
  last_try (RoundStart aim) g is = by_even (seen % 2 == 0) aim is
  last_try (RoundRow aim row) g is = absurd (subst GivesUp g up)
  last_try (RoundEnd aim) g is = by_same (seen == c.clock) (aimed_ending aim seen) _ _ (RoundStart aim) (aimed_end aim) (not_round aim) g is
  last_try (RoundBack aim row) g is = by_same (seen == c.clock) (Some (Restarted seen (row_at c.log row).word)) _ _ (RoundStart aim) (λ back. subst GivesUp back up) (not_round aim) g is
  last_try (Exchange taking) g is = by_same (seen == c.snapshot) None _ _ (RoundStart (aims.Take taking)) (no_reply a up) (not_round (aims.Take taking)) g is
  last_try Free g is = absurd (subst GivesUp g up)
  last_try p g is = absurd (no_reply a up g)

-- a begin alone loses the clock outside, and it goes irrevocable
takes_goes : (c : Core) (call : Call) → in_transaction c ≡ false → TakesFor c (Some call) → GoesBegin call
takes_goes c (calls.Begin props room) closed t = t closed
takes_goes c call closed t = absurd (both (in_transaction c) t closed)

pub goes_begin : (c : Core) (call : Call) (step : Step) (seen clock : ℕ) (word : Option ℕ) → in_transaction c ≡ false → c.doing ≡ Some call → Some step ≡ asked c → IsLawful c step → (p : Phase) → c.stage ≡ p → IsOpening p → IsEnding (ending_from c p seen) (Conflict clock word) → GoesBegin call
goes_begin c call step seen clock word closed doing asks lawful (Begin b) is o g = absurd (not_begun seen clock word (seen % 2 == 0) b.props.goes_irrevocable g)
goes_begin c call step seen clock word closed doing asks lawful (Take b) is o g =
    let same : step ≡ Cas 0 c.snapshot (c.snapshot + 1) = (let x : Some step ≡ Some (Cas 0 c.snapshot (c.snapshot + 1)) = asks ∙ ap (asked_from c) is in cc) in
    takes_goes c call closed (subst (TakesFor c) doing (let there : IsLawful c (Cas 0 c.snapshot (c.snapshot + 1)) = subst (IsLawful c) same lawful in there.2))
goes_begin c call step seen clock word closed doing asks lawful p is o g = absurd o

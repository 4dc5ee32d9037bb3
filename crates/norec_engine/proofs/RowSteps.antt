-- The rows of a commit, as the engine's callers see them stored.
use Rattle.std.proofs.Common.{◌≡◌, ℕ, ◌+◌, ◌*◌, ◌<◌, ◌≤◌, Bool, false, [], inl, inr, length, List, Option, None, Some, true, arith, refl, sym, ap, subst, ◌∙◌}
use Rattle.norec_engine.proofs.Common.{Asks, AsksForClock, CallTurns, Cas, CommitCall, Core, Data, IsCalled, IsResumed, IsSound, IsSoundIn, IsWhole, Pending, Phase, Row, StoresRows, Taking, Wait, WaitsForClock, WritesBack, after_row, after_taking, asking, asking_commit, asks_next, core, counted, engine_in, exchanging, in_block, last_stage, may_first, may_store, merging, next_step, part_loaded, part_stage, part_store, phase_of, sound_load, step_in, storing, whole_stage}
use Rattle.itm_types.specs.declared.step.Step.{Step}
use Rattle.norec_core.specs.Phases as at
use Rattle.norec_core.specs.declared.call_parts.Taking.TheVariants as takings
use Rattle.norec_data.specs.declared.pending.Pending.TheVariants as waits
use Rattle.norec_turns.specs.Between as fields
use Rattle.norec_blocks.proofs.CommitCalls.{asks}
use Rattle.norec_engine.proofs.BlockSteps.{exchange_at, mode}
use Rattle.norec_engine.proofs.IdleEngines.{asks_for, core_idle, sound_idle}
use Rattle.norec_engine.proofs.RevocableTurns.{resumed}
use Rattle.norec_engine.proofs.WholeReads.{stage_is}

-- the engine with these fields, as it takes the clock to commit what is written
module _ (d : Data) (commit : d.taking ≡ takings.Commit) (sound : IsSound d (at.Exchange d.taking)) where
  abbrev takes : Core
  takes = core d (at.Exchange takings.Commit)

  abbrev rows : List Row
  rows = d.frames.writes.rows

  inside : (in_block d) ≡ true
  inside = sound.in_phase.0.is_open

  pub takes_is : core d (at.Exchange d.taking) ≡ core d (at.Exchange takings.Commit)
  takes_is = ap (λ (t : Taking). core d (at.Exchange t)) commit

  -- ### As so many steps are counted

  abbrev in_stage : ℕ → ℕ → Phase → Core
  in_stage row steps stage = record (core d (at.Exchange takings.Commit)) { holds = true; done = row; got = None; waits = Some (step_in d.log.rows d.snapshot d.frames.writes.rows [] stage); spent = d.spent + steps; stage = stage }

  asked_as : (got : Option ℕ) (steps row loads : ℕ) → steps ≡ row + loads → asking (fields.storing d got steps) row ≡ storing takes row loads
  asked_as got steps row loads is =
      let same : (d.spent + steps) + 1 ≡ d.spent + (row + loads + 1) = omega (arith, is) in
      ap (λ (n : ℕ). record (storing takes row loads) { spent = n }) same

  at_whole : (row loads : ℕ) → row < length rows → IsWhole takes row → core (fields.storing d None (row + loads + 1)) (at.Store d.taking row None) ≡ storing takes row loads
  at_whole row loads within whole =
      ap (λ (t : Taking). core (fields.storing d None (row + loads + 1)) (at.Store t row None)) commit
      ∙ ap (in_stage row (row + loads + 1)) (whole_stage takings.Commit rows row within whole)

  at_load : (row loads : ℕ) → row < length rows → ¬ IsWhole takes row → core (fields.storing d None (row + loads + 1)) (at.BackLoad d.taking row) ≡ storing takes row loads
  at_load row loads within part =
      ap (λ (t : Taking). core (fields.storing d None (row + loads + 1)) (at.BackLoad t row)) commit
      ∙ ap (in_stage row (row + loads + 1)) (part_stage takings.Commit rows row within part)

  at_part : (row loads found : ℕ) → core (fields.storing d (Some found) (row + loads + 2)) (at.Store d.taking row (Some found)) ≡ merging takes row loads found
  at_part row loads found = ap (λ (t : Taking). core (fields.storing d (Some found) (row + loads + 2)) (at.Store t row (Some found))) commit

  pub at_free : (loads : ℕ) → core (fields.storing d d.got (length d.frames.writes.rows + loads + 1)) at.Free ≡ storing (core d (at.Exchange takings.Commit)) (length d.frames.writes.rows) loads
  at_free loads = ap (in_stage (length rows) (length rows + loads + 1)) (last_stage takings.Commit rows (length rows) refl)

  -- ### What each value leads to

  first : IsResumed takes d.snapshot (Asks (next_step takes 0)) (storing takes 0 0)
  first =
      let n = asks_next d 0 commit (may_first d sound) in
      let turns = after_taking d n.pending n.new n.kept inside sound.in_phase.2 n.goes in
      let same : d.spent + 1 ≡ d.spent + (0 + 0 + 1) = omega arith in
      subst (λ (e : Core). IsResumed e d.snapshot (Asks (next_step takes 0)) (storing takes 0 0)) takes_is
      (subst (IsResumed (core d (at.Exchange d.taking)) d.snapshot (Asks (next_step takes 0))) (n.is ∙ ap (λ (k : ℕ). record (storing takes 0 0) { spent = k }) same)
      (subst (λ (s : Step). IsResumed (core d (at.Exchange d.taking)) d.snapshot (Asks s) (core (counted n.new) (phase_of n.new n.pending))) n.step
      (resumed d (at.Exchange d.taking) d.snapshot (Wait n.pending) n.new turns)))

  -- a row was stored
  stored : (got : Option ℕ) (steps row loads seen : ℕ) → steps ≤ 2 * (row + 1) → row + 1 ≤ length rows → steps ≡ (row + 1) + loads
      → IsResumed (core (fields.storing d got steps) (at.Store d.taking row got)) seen (Asks (next_step takes (row + 1))) (storing takes (row + 1) loads)
  stored got steps row loads seen few far is =
      let s = fields.storing d got steps in
      let n = asks_next s (row + 1) commit (may_store d sound got steps (row + 1) few far) in
      let old = core s (at.Store d.taking row got) in
      subst (IsResumed old seen (Asks (next_step takes (row + 1)))) (n.is ∙ asked_as got steps (row + 1) loads is)
      (subst (λ (x : Step). IsResumed old seen (Asks x) (core (counted n.new) (phase_of n.new n.pending))) n.step
      (resumed s (at.Store d.taking row got) seen (Wait n.pending) n.new (after_row s n.pending n.new n.kept inside row seen n.goes)))

  pub stores_rows : StoresRows (core d (at.Exchange takings.Commit))
  stores_rows = record {
    first = first;
    whole = λ row loads seen within whole few.
        subst (λ (e : Core). IsResumed e seen (Asks (next_step takes (row + 1))) (storing takes (row + 1) loads)) (at_whole row loads within whole)
        (stored None (row + loads + 1) row loads seen (omega (arith, few)) (omega (arith, within)) (omega arith));
    load = λ row loads found within part few.
        (let s = fields.storing d None (row + loads + 1) in
        let same : (d.spent + (row + loads + 1)) + 1 ≡ d.spent + (row + loads + 2) = omega arith in
        let next = ap (λ (k : ℕ). core (record d { got = Some found; spent = k }) (at.Store d.taking row (Some found))) same ∙ at_part row loads found in
        subst (λ (e : Core). IsResumed e found (Asks (part_store takes row found)) (merging takes row loads found)) (at_load row loads within part)
        (subst (IsResumed (core s (at.BackLoad d.taking row)) found (Asks (part_store takes row found))) next
        (resumed s (at.BackLoad d.taking row) found (Wait (waits.Store row)) (record s { got = Some found }) (part_loaded s row found (sound_load d sound row loads within part few)))));
    part = λ row loads found seen within few.
        subst (λ (e : Core). IsResumed e seen (Asks (next_step takes (row + 1))) (storing takes (row + 1) (loads + 1))) (at_part row loads found)
        (stored (Some found) (row + loads + 2) row (loads + 1) seen (omega (arith, few)) (omega (arith, within)) (omega arith));
  }

-- ## As its callers see it

-- the fields as the clock is asked for, to commit what is written
abbrev pub asking_fields : Data → ℕ → ℕ → ℕ → Data
asking_fields d spent entry tries = record d { taking = takings.Commit; spent = spent; entry = entry; tries = tries }

-- these fields are those of the engine once it asks for it
pub record Exchanges (d : Data) (c : Core) : Type 0 where
  pub spent : ℕ
  pub entry : ℕ
  pub tries : ℕ
  pub same : core (asking_fields d spent entry tries) (at.Exchange takings.Commit) ≡ exchanging c
  pub sound : IsSound (asking_fields d spent entry tries) (at.Exchange takings.Commit)

module _ (b : Bool) (d : Data) (p : Pending) (c : Core) (view : engine_in b d (phase_of d p) ≡ c) (sound : IsSoundIn b d (phase_of d p)) where
  -- it waits for the clock already
  waiting : c.irrevocable ≡ false → c.stage ≡ at.Exchange takings.Commit → (core d (at.Exchange takings.Commit) ≡ c) × IsSound (record d { taking = takings.Commit }) (at.Exchange takings.Commit)
  waiting revocable stage =
      let here = exchange_at b d p c view sound revocable stage in
      let shown = (λ i. engine_in (mode b d p c view sound revocable i) d (phase_of d (here.0 i))) ∙ ap (λ (k : Taking). core d (at.Exchange k)) here.1 in
      (sym shown ∙ view, subst (λ (k : Taking). IsSound (record d { taking = k }) (at.Exchange k)) here.1 here.2)

  exchanges_waiting : WaitsForClock c → Exchanges d c
  exchanges_waiting t = (let w = waiting t.revocable t.stage in record { spent = d.spent; entry = d.entry; tries = d.tries; same = ap exchanging w.0; sound = w.1 })

  pub shown_taking : WaitsForClock c → core d (at.Exchange takings.Commit) ≡ c
  shown_taking t = (waiting t.revocable t.stage).0

  -- or a commit comes now
  module _ (t : AsksForClock c) where
    none : c.waits ≡ None
    none =
        let here = sym (stage_is b d (phase_of d p)) ∙ (ap (λ (e : Core). e.stage) view ∙ t.stage) in
        sym (ap (λ (e : Core). e.waits) view) ∙ (λ i. (engine_in (mode b d p c view sound t.revocable i) d (here i)).waits)

    pub comes_idle : core d at.Idle ≡ c
    comes_idle = core_idle b d p c view sound none (mode b d p c view sound t.revocable)

    pub comes_sound : IsSound d at.Idle
    comes_sound = sound_idle b d p c view sound none (mode b d p c view sound t.revocable)

    pub comes_shown : AsksForClock (core d at.Idle)
    comes_shown = subst AsksForClock (sym comes_idle) t

    pub comes_turns : CallTurns d CommitCall false (Wait waits.Exchange) (asking_commit d)
    comes_turns = (let i = comes_shown in asks d comes_sound i.outermost i.some i.free)

    exchanges_coming : Exchanges d c
    exchanges_coming = record { spent = 1; entry = length d.log.rows; tries = 0; same = ap exchanging comes_idle; sound = comes_turns.sound.sound }

    pub commit_comes : IsCalled c CommitCall false (Asks (Cas 0 c.snapshot (c.snapshot + 1))) (exchanging c)
    commit_comes =
        let m = mode b d p c view sound t.revocable in
        let mid = counted (asking_commit d) in
        subst (λ (e : Core). IsCalled c CommitCall false (Asks (Cas 0 e.snapshot (e.snapshot + 1))) (exchanging e)) comes_idle
        (subst (λ (x : Bool). IsCalled c CommitCall false (Asks (Cas 0 d.snapshot (d.snapshot + 1))) (engine_in x mid (at.Exchange takings.Commit))) m
        (asks_for b d p c view sound none m CommitCall false waits.Exchange (asking_commit d) comes_turns))

  pub exchanges : WritesBack c → Exchanges d c
  exchanges (inl t) = exchanges_waiting t
  exchanges (inr t) = exchanges_coming t

-- once each row is stored
pub stored_as : (b : Bool) (d new : Data) (loads : ℕ) (c : Core) → b ≡ false → d.taking ≡ takings.Commit → core d (at.Exchange takings.Commit) ≡ c → IsSound d (at.Exchange d.taking) → new ≡ fields.storing d d.got (length d.frames.writes.rows + loads + 1)
    → engine_in b new (phase_of new waits.Free) ≡ storing c (length c.writes) loads
stored_as b d new loads c revocable commit view sound is =
    (λ i. engine_in (revocable i) (is i) at.Free)
    ∙ (at_free d commit sound loads ∙ ap (λ (e : Core). storing e (length e.writes) loads) view)

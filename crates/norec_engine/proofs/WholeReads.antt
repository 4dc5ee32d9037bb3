-- The steps of a read of one whole word, for the engine as its callers see it.
use Rattle.std.proofs.Common.{◌≡◌, ◌+◌, inl, ℕ, suc, Bool, true, false, None, length, refl, sym, ap, subst, ◌∙◌, arith}
use Rattle.norec_engine.proofs.Common.{Answers, Asks, Bytes, CallTurns, Confirm, Core, Data, End, Idle, IsCalled, IsResumed, IsSound, IsSoundIn, IsTaken, IsWord, Joins, Next, Pending, Phase, Read, Reply, StepGoesTo, StepTurns, StepTurnsIn, Turn, Wait, Word, core, counted, engine_in, lookup, phase_of, rows_before, step_of, value_reading}
use Rattle.std.{proofs.lemmas.List.take_all, specs.Int.w64, specs.Int.to_le_bytes}
use Rattle.itm_types.{specs.declared.access.ReadHint.ReadHint, specs.declared.access.Width.Width}
use Rattle.itm_types.specs.declared.step.Step.TheVariants as steps
use Rattle.norec_core.{specs.OwnAccesses.word_of, specs.Phases.Load, specs.declared.call_parts.Reading.Reading}
use Rattle.norec_data.specs.declared.pending.Pending.TheVariants as waits
use Rattle.norec_accesses.{specs.WholeReads.asking_word, specs.WholeReads.IsNewWord, specs.WholeReads.ReadTurns, proofs.ReadCalls.WholeReads.is_word}
use Rattle.norec_engine.specs.WholeReads.{ConfirmsWord, IsConfirmed, IsReadAtOnce, LoadsWord, ReadsAtOnce}
use Rattle.norec_engine.proofs.EitherTurns.{resumed_in, revocable_step}
use Rattle.norec_engine.proofs.IdleEngines.{asks_for, core_idle, left_is, left_sound, sound_idle}

pub mode_is : (b : Bool) (d : Data) (phase : Phase) → (engine_in b d phase).irrevocable ≡ b
mode_is true d phase = refl
mode_is false d phase = refl

pub stage_is : (b : Bool) (d : Data) (phase : Phase) → (engine_in b d phase).stage ≡ phase
stage_is true d phase = refl
stage_is false d phase = refl

pub same_wait : (p q : Pending) → Wait p ≡ Wait q → p ≡ q
same_wait p q e = cc

pub same_load : (r q : Reading) → Load r ≡ Load q → r ≡ q
same_load r q e = cc

-- it waits for the clock, to confirm the word that was loaded
pub confirms : (d : Data) (word value : ℕ) (b : Bool) (p : Pending) → b ≡ false → p ≡ waits.Confirm value → IsWord d.reading word → lookup word (rows_before d) ≡ None → ConfirmsWord (engine_in b d (phase_of d p)) word
confirms d word value b p mode is here none =
    subst (λ (m : Bool). ConfirmsWord (engine_in m d (phase_of d p)) word) (sym mode)
    (subst (λ (q : Pending). ConfirmsWord (core d (phase_of d q)) word) (sym is) (record { revocable = refl; reading = d.reading; value = value; stage = refl; is_word = here; unwritten = none }))

-- the rows that were there as the read came
pub rows_loaded : (b : Bool) (d : Data) (p : Pending) → b ≡ false → p ≡ waits.Load → (engine_in b d (phase_of d p)).writes ≡ rows_before d
rows_loaded b d p mode is = λ i. (engine_in (mode i) d (phase_of d (is i))).writes

-- a step that is counted, and leaves the fields as they are otherwise, moves neither the log nor the snapshot
pub joins_none : (b : Bool) (d : Data) (p q : Phase) (seen : ℕ) → Joins (engine_in b d p) seen (engine_in b (counted d) q)
joins_none true d p q seen = record { log = λ o. inl refl; begins = λ shut o. absurd (cc); snapshot = λ o. inl refl }
joins_none false d p q seen = record { log = λ o. inl refl; begins = λ shut o. absurd (cc); snapshot = λ o. inl refl }

load_waits : (d : Data) (p : Pending) (r : Reading) → phase_of d p ≡ Load r → p ≡ waits.Load
load_waits d waits.Load r is = refl
load_waits d p r is = absurd (cc)

-- the word was loaded, and no field changed
load_turns : (s d : Data) (value : ℕ) (turn : Turn) → turn ≡ Wait (waits.Confirm value) → IsSound s (Load s.reading) → StepGoesTo s (Load s.reading) value turn d → StepTurns s (Load s.reading) value (Wait (waits.Confirm value)) d
load_turns s d value turn is sound goes =
    let g : StepGoesTo s (Load s.reading) value (Wait (waits.Confirm value)) d = subst (λ (t : Turn). StepGoesTo s (Load s.reading) value t d) is goes in
    record {
      sound = g.sound;
      proceeds = g.proceeds;
      joins = record { log = λ o. inl (g.stays.log o); begins = λ shut o. (let inside = sound.in_phase.0.is_open in absurd (cc)); snapshot = λ o. inl g.stays.snapshot };
      order = g.order;
      ends = g.ends;
      tries = g.tries;
      snapshot = g.stays.snapshot;
      log = g.stays.log;
    }

-- an engine of these fields, as its callers see it, that waits for a word
module _ (s : Data) (p : Pending) (b : Bool) (old : Core) (view : engine_in b s (phase_of s p) ≡ old) (sound : IsSoundIn b s (phase_of s p)) (word : ℕ) (loads : LoadsWord old word) where
  revocable : b ≡ false
  revocable = sym (mode_is b s (phase_of s p)) ∙ (ap (λ (e : Core). e.irrevocable) view ∙ loads.revocable)

  stage : phase_of s p ≡ Load loads.reading
  stage = sym (stage_is b s (phase_of s p)) ∙ (ap (λ (e : Core). e.stage) view ∙ loads.stage)

  waits_here : p ≡ waits.Load
  waits_here = load_waits s p loads.reading stage

  sound_here : IsSound s (Load s.reading)
  sound_here = subst (λ (q : Pending). IsSound s (phase_of s q)) waits_here (subst (λ (x : Bool). IsSoundIn x s (phase_of s p)) revocable sound)

  -- it was loaded
  module _ (value : ℕ) (turn : Turn) (d : Data) (is : turn ≡ Wait (waits.Confirm value)) (goes : StepGoesTo s (Load s.reading) value turn d) where
    abbrev loaded_core : Core
    loaded_core = engine_in b (counted d) (phase_of (counted d) (waits.Confirm value))

    turns : StepTurns s (phase_of s p) value (Wait (waits.Confirm value)) d
    turns = subst (λ (q : Pending). StepTurns s (phase_of s q) value (Wait (waits.Confirm value)) d) (sym waits_here) (load_turns s d value turn is sound_here goes)

    loaded_sound : IsSound (counted d) (Confirm d.reading value)
    loaded_sound = turns.sound.sound

    asked : IsResumed old value (Asks (steps.Load 0)) loaded_core
    asked = resumed_in s p b old view (Wait (waits.Confirm value)) d (Asks (steps.Load 0)) (counted d) (waits.Confirm value) b (record { state = refl; pending = refl; mode = refl; next = refl }) sound value (revocable_step b s (phase_of s p) value (Wait (waits.Confirm value)) d revocable turns)

    -- and confirmed
    module _ (clock : ℕ) (new : Data) (then : StepTurns (counted d) (Confirm d.reading value) clock (End (Word value)) new) where
      taken : IsTaken b (End (Word value)) new (Answers (Reply (Bytes (record { items = to_le_bytes w64 value })))) new waits.Idle b
      taken = record { state = refl; pending = refl; mode = revocable; next = refl }

      loaded_in : IsSoundIn b (counted d) (phase_of (counted d) (waits.Confirm value))
      loaded_in = subst (λ (x : Bool). IsSoundIn x (counted d) (phase_of (counted d) (waits.Confirm value))) (sym revocable) loaded_sound

      step : StepTurnsIn b (counted d) (phase_of (counted d) (waits.Confirm value)) clock (End (Word value)) new
      step = revocable_step b (counted d) (phase_of (counted d) (waits.Confirm value)) clock (End (Word value)) new revocable then

      pub is_confirmed : IsConfirmed old value clock (Reply (Bytes (record { items = to_le_bytes w64 value }))) (engine_in b new (phase_of new waits.Idle))
      is_confirmed = record {
        loaded = loaded_core;
        asked = asked;
        answered = resumed_in (counted d) (waits.Confirm value) b loaded_core refl (End (Word value)) new (Answers (Reply (Bytes (record { items = to_le_bytes w64 value })))) new waits.Idle b taken loaded_in clock step;
      }

-- ## A read that is done at once

-- an engine of these fields, as its callers see it, between two calls
module _ (b : Bool) (d : Data) (p : Pending) (c : Core) (view : engine_in b d (phase_of d p) ≡ c) (sound : IsSoundIn b d (phase_of d p)) (none : c.waits ≡ None) (width : Width) (place word : ℕ) (reads : ReadsAtOnce c width place word) where
  mode : b ≡ false
  mode = sym (mode_is b d (phase_of d p)) ∙ (ap (λ (e : Core). e.irrevocable) view ∙ reads.revocable)

  pub read_sound : IsSound d Idle
  read_sound = sound_idle b d p c view sound none mode

  pub read_new : IsNewWord (core d Idle) width place word
  read_new = subst (λ (e : Core). IsNewWord e width place word) (sym (core_idle b d p c view sound none mode)) reads.new

  pub read_left : (new : Data) → IsSound new Idle → IsSoundIn b new (phase_of new p)
  read_left = left_sound b d p c view sound none mode

  module _ (hint : ReadHint) where
    abbrev mid : Data
    mid = asking_word d hint width place

    abbrev asking : Core
    asking = engine_in b (counted mid) (phase_of (counted mid) waits.Load)

    cell : Asks (step_of mid (phase_of mid waits.Load)) ≡ Asks (steps.Load (word + 1))
    cell = (let same : suc (word_of (value_reading hint width place)) ≡ word + 1 = omega (arith, reads.new.at_is) in ap (λ (n : ℕ). Asks (steps.Load n)) same)

    pub read_called : CallTurns d (Read hint width place) false (Wait waits.Load) mid → IsCalled c (Read hint width place) false (Asks (steps.Load (word + 1))) asking
    read_called t = subst (λ (n : Next). IsCalled c (Read hint width place) false n asking) cell (asks_for b d p c view sound none mode (Read hint width place) false waits.Load mid t)

    pub read_loads : LoadsWord asking word
    read_loads = subst (λ (m : Bool). LoadsWord (engine_in m (counted mid) (phase_of (counted mid) waits.Load)) word) (sym mode) (record {
      small = omega (arith, reads.new.within, read_new.within, read_sound.bounds.small);
      revocable = refl;
      free = refl;
      reading = value_reading hint width place;
      stage = refl;
      is_word = is_word d hint width place word read_new;
      unwritten = ap (lookup word) (take_all (length d.frames.writes.rows) d.frames.writes.rows (omega arith)) ∙ read_new.unwritten;
    })

    asking_sound : IsSound (counted mid) (Load mid.reading) → IsSoundIn b (counted mid) (phase_of (counted mid) waits.Load)
    asking_sound s = subst (λ (m : Bool). IsSoundIn m (counted mid) (phase_of (counted mid) waits.Load)) (sym mode) s

    pub read_done : (value : ℕ) (new : Data) → ReadTurns d hint width place word value new → IsReadAtOnce c (Read hint width place) word value (engine_in b new (phase_of new p))
    read_done value new t = record {
      mid = asking;
      called = read_called t.called;
      confirmed =
          (let confirmed = is_confirmed (counted mid) waits.Load b asking refl (asking_sound t.called.sound.sound) word read_loads value (Wait (waits.Confirm value)) (counted mid) refl t.loaded d.snapshot t.last t.confirmed in
          subst (λ (n : ℕ). IsConfirmed asking value n (Reply (Bytes (record { items = to_le_bytes w64 value }))) (engine_in b new (phase_of new p))) (ap (λ (e : Core). e.snapshot) (core_idle b d p c view sound none mode))
          (subst (IsConfirmed asking value d.snapshot (Reply (Bytes (record { items = to_le_bytes w64 value })))) (left_is b d p c view sound none mode t.last new t.same) confirmed));
    }

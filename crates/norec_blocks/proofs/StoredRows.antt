-- The rows of a commit as they are stored one after the other, and what is asked for next.
use Rattle.std.proofs.Common.{◌≡◌, ◌≢◌, ℕ, ◌+◌, ◌*◌, ◌<◌, ◌≤◌, ◌==◌, nat_lt, List, [], length, Option, None, Some, true, inl, arith, refl, sym, ap, subst, ◌∙◌, eq-eqb}
use Rattle.norec_blocks.proofs.Common.{AllWritesWithin-at, Core, Data, GoesTo, InStores, IsHolding, IsSound, Phase, Row, StepTurns, Taking, Turns, Wait, call_of, cond-false, cond-true, core, counted, handed, in_block, in_stores, kept_log, le-ltb, lt-ltb, ne_eqb, phase_of, row_store, step_in, step_of, store_stage, stored_stage, stores_part, stores_whole, storing, wants_later, whole, write_at}
use Rattle.norec_data.specs.declared.pending.Pending.{Pending}
use mathlib.Core.Logic.{dite}
use native.Mathlib.Decide.{ℕ_discrete}
use Rattle.norec_core.specs.Aims as aims
use Rattle.norec_core.specs.Phases as at
use Rattle.norec_core.specs.declared.call_parts.Taking.TheVariants as takings
use Rattle.norec_data.specs.declared.pending.Pending.TheVariants as waits
use Rattle.norec_blocks.proofs.ClockHolding.{holds_on}

-- ## The order

pub whole_stage : (t : Taking) (rows : List Row) (row : ℕ) → row < length rows → (write_at rows row).mask ≡ whole → at.Store t row None ≡ store_stage t rows row
whole_stage t rows row within mask =
    sym (cond-true (nat_lt row (length rows)) (row_store t (write_at rows row) row) (stored_stage t) (lt-ltb row (length rows) within)
    ∙ cond-true ((write_at rows row).mask == whole) (at.Store t row None) (at.BackLoad t row) (eq-eqb (write_at rows row).mask whole mask))

pub part_stage : (t : Taking) (rows : List Row) (row : ℕ) → row < length rows → (write_at rows row).mask ≢ whole → at.BackLoad t row ≡ store_stage t rows row
part_stage t rows row within mask =
    sym (cond-true (nat_lt row (length rows)) (row_store t (write_at rows row) row) (stored_stage t) (lt-ltb row (length rows) within)
    ∙ cond-false ((write_at rows row).mask == whole) (at.Store t row None) (at.BackLoad t row) (ne_eqb (write_at rows row).mask whole mask))

pub last_stage : (t : Taking) (rows : List Row) (row : ℕ) → row ≡ length rows → stored_stage t ≡ store_stage t rows row
last_stage t rows row last = sym (cond-false (nat_lt row (length rows)) (row_store t (write_at rows row) row) (stored_stage t) (le-ltb row (length rows) (omega (arith, last))))

-- ## What is asked for next

-- a row of a whole word is stored
pub asks_row : (s : Data) (row : ℕ) → InStores s s.taking row → row < length s.frames.writes.rows → (write_at s.frames.writes.rows row).mask ≡ whole
    → GoesTo (in_stores s s.taking row) (store_stage s.taking s.frames.writes.rows row) None s (Wait (waits.Store row)) (record s { got = None })
asks_row s row may within mask =
    let rows = s.frames.writes.rows in
    record {
      sound = record {
        asked = tt;
        sound = record { bounds = may.bounds; reached = omega (arith, may.holding.settled); in_phase = (holds_on s None row may.holding, within, mask) };
      };
      proceeds =
          record {
            unfreed = refl;
            lawful = (
              omega (arith, AllWritesWithin-at s.words rows row may.holding.is_open.writes within),
              refl,
              λ r. record { some = within; word_is = refl; value_is = λ m mem got. stores_whole m rows row within may.holding.is_open.rows mask },
            );
            stays = refl;
          };
      stays = record { opens = λ o. o; log = λ o. refl; snapshot = refl };
      order = whole_stage s.taking rows row within mask;
      ends = tt;
      tries = refl;
    }

-- the word of another row is loaded first
pub asks_part : (s : Data) (row : ℕ) → InStores s s.taking row → row < length s.frames.writes.rows → (write_at s.frames.writes.rows row).mask ≢ whole
    → GoesTo (in_stores s s.taking row) (store_stage s.taking s.frames.writes.rows row) None s (Wait (waits.BackLoad row)) s
asks_part s row may within mask =
    let rows = s.frames.writes.rows in
    let hold = may.holding in
    record {
      sound = record {
        asked = tt;
        sound = record { bounds = may.bounds; reached = omega (arith, hold.settled); in_phase = (holds_on s s.got row hold, within, mask) };
      };
      proceeds =
          record {
            unfreed = refl;
            lawful = (omega (arith, AllWritesWithin-at s.words rows row hold.is_open.writes within), (hold.is_open.is_open, λ h r. (within, refl)));
            stays = refl;
          };
      stays = record { opens = λ o. o; log = λ o. refl; snapshot = refl };
      order = part_stage s.taking rows row within mask;
      ends = tt;
      tries = refl;
    }

-- each row is stored: the clock is freed
pub asks_free : (s : Data) (row : ℕ) → InStores s s.taking row → row ≡ length s.frames.writes.rows → s.taking ≡ takings.Commit
    → GoesTo (in_stores s s.taking row) (store_stage s.taking s.frames.writes.rows row) None s (Wait waits.Free) s
asks_free s row may last commit =
    let rows = s.frames.writes.rows in
    let hold = subst (λ (t : Taking). IsHolding s t (2 * row)) commit may.holding in
    let o = hold.is_open in
    record {
      sound = record {
        asked = tt;
        sound = record {
          bounds = may.bounds;
          reached = omega (arith, hold.settled);
          in_phase = record {
            is_open = record { is_open = o.is_open; log = o.log; writes = o.writes; rows = o.rows; frames = o.frames; begun = o.begun; tries = o.tries };
            wants = hold.wants;
            settled = hold.settled;
            free = hold.free;
            spent = omega (arith, hold.spent, last);
          };
        };
      };
      proceeds =
          record {
            unfreed = refl;
            lawful = (omega arith, refl, (omega (arith, hold.settled), refl));
            stays = λ i. record (core (counted s) at.Free) { done = (sym last) i; doing = Some (call_of (aims.Take ((sym commit) i))) };
          };
      stays = record { opens = λ o. o; log = λ o. refl; snapshot = refl };
      order = ap stored_stage (sym commit) ∙ last_stage s.taking rows row last;
      ends = tt;
      tries = refl;
    }

-- ## What comes of a step

-- as the clock is held, between two rows
module _ (s : Data) (p : Pending) (new : Data) (kept : kept_log (phase_of new p) s.log.rows ≡ s.log.rows) (inside : in_block s ≡ true) where
  -- a row was stored, whatever that found
  pub after_row : (row seen : ℕ) → GoesTo (in_stores s s.taking (row + 1)) (store_stage s.taking s.frames.writes.rows (row + 1)) None s (Wait p) new → StepTurns s (at.Store s.taking row s.got) seen (Wait p) new
  after_row row seen g = record {
    sound = g.sound;
    proceeds = g.proceeds;
    joins = record { log = λ o. inl (g.stays.log o); begins = λ shut o. absurd (cc); snapshot = λ o. inl g.stays.snapshot };
    order = g.order;
    ends = tt;
    tries = g.tries;
    snapshot = g.stays.snapshot;
    log = λ o. g.stays.log o ∙ (sym kept ∙ ap (λ (q : Phase). kept_log q s.log.rows) g.order);
  }

  taken : s.clock ≡ s.snapshot → handed (core s (at.Exchange s.taking)) s.snapshot ≡ in_stores s s.taking 0
  taken settled = λ i. record (in_stores s s.taking 0) { clock = (sym settled) i; holds = (eq-eqb s.snapshot s.snapshot refl) i }

  -- the clock was taken
  pub after_taking : s.clock ≡ s.snapshot → GoesTo (in_stores s s.taking 0) (store_stage s.taking s.frames.writes.rows 0) None s (Wait p) new → StepTurns s (at.Exchange s.taking) s.snapshot (Wait p) new
  after_taking settled g =
      let same = eq-eqb s.snapshot s.snapshot refl in
      let stage = store_stage s.taking s.frames.writes.rows 0 in
      record {
        sound = g.sound;
        proceeds = subst (λ (mid : Core). Turns mid (Wait p) new) (sym (taken settled)) g.proceeds;
        joins = record { log = λ o. inl (g.stays.log o); begins = λ shut o. absurd (cc); snapshot = λ o. inl g.stays.snapshot };
        order = g.order ∙ sym (cond-true (s.snapshot == s.snapshot) stage _ same);
        ends = tt;
        tries = g.tries;
        snapshot = g.stays.snapshot;
        log = λ o. g.stays.log o ∙ (sym kept ∙ (ap (λ (q : Phase). kept_log q s.log.rows) g.order ∙ sym (cond-true (s.snapshot == s.snapshot) (kept_log stage s.log.rows) s.log.rows same)));
      }

-- the word of a row was loaded: the row's part of it is stored
pub part_loaded : (s : Data) (row found : ℕ) → IsSound s (at.BackLoad s.taking row) → StepTurns s (at.BackLoad s.taking row) found (Wait (waits.Store row)) (record s { got = Some found })
part_loaded s row found sound =
    let rows = s.frames.writes.rows in
    let h = sound.in_phase.0 in
    let o = h.is_open in
    let within = sound.in_phase.1 in
    let inside = o.is_open in
    record {
      sound = record {
        asked = tt;
        sound = record {
          bounds = sound.bounds;
          reached = sound.reached;
          in_phase = (
            record {
              is_open = record { is_open = o.is_open; log = o.log; writes = o.writes; rows = o.rows; frames = o.frames; begun = o.begun; tries = o.tries };
              wants = wants_later s s.taking s.clock s.snapshot (s.spent + 1) h.wants;
              settled = h.settled;
              free = h.free;
              spent = omega (arith, h.spent);
            },
            within,
          );
        };
      };
      proceeds = record {
        unfreed = refl;
        lawful = (
          omega (arith, AllWritesWithin-at s.words rows row o.writes within),
          refl,
          λ r. record { some = within; word_is = refl; value_is = λ m mem got. stores_part m rows row found within got },
        );
        stays = refl;
      };
      joins = record { log = λ o. inl refl; begins = λ shut o. absurd (cc); snapshot = λ o. inl refl };
      order = refl;
      ends = tt;
      tries = refl;
      snapshot = refl;
      log = λ o. refl;
    }

-- ## What is asked for next, whichever it is

-- the engine with these fields once it is asked for
abbrev pub asking : Data → ℕ → Core
asking s row =
    record (core s (at.BackLoad takings.Commit row)) {
      waits = Some (step_in s.log.rows s.snapshot s.frames.writes.rows [] (store_stage takings.Commit s.frames.writes.rows row));
      spent = s.spent + 1;
      stage = store_stage takings.Commit s.frames.writes.rows row;
    }

pub record AsksNext (s : Data) (row : ℕ) : Type 0 where
  pub pending : Pending
  pub new : Data
  pub goes : GoesTo (in_stores s s.taking row) (store_stage s.taking s.frames.writes.rows row) None s (Wait pending) new
  pub kept : kept_log (phase_of new pending) s.log.rows ≡ s.log.rows
  pub is : core (counted new) (phase_of new pending) ≡ asking s row
  pub step : step_of new (phase_of new pending) ≡ step_in s.log.rows s.snapshot s.frames.writes.rows [] (store_stage takings.Commit s.frames.writes.rows row)

-- the engine in this stage
abbrev in_stage : Data → ℕ → Phase → Core
in_stage s row stage = record (core s (at.BackLoad takings.Commit row)) { waits = Some (step_in s.log.rows s.snapshot s.frames.writes.rows [] stage); spent = s.spent + 1; stage = stage }

asks_next_row : (s : Data) (row : ℕ) → s.taking ≡ takings.Commit → InStores s s.taking row → row < length s.frames.writes.rows → AsksNext s row
asks_next_row s row commit may within =
    let rows = s.frames.writes.rows in
    dite (ℕ_discrete (write_at rows row).mask whole)
    (λ (mask : (write_at rows row).mask ≡ whole). record {
      pending = waits.Store row;
      new = record s { got = None };
      goes = asks_row s row may within mask;
      kept = refl;
      is = ap (λ (t : Taking). core (record s { got = None; spent = s.spent + 1 }) (at.Store t row None)) commit ∙ ap (in_stage s row) (whole_stage takings.Commit rows row within mask);
      step = ap (step_in s.log.rows s.snapshot rows []) (whole_stage takings.Commit rows row within mask);
    })
    (λ (mask : (write_at rows row).mask ≢ whole). record {
      pending = waits.BackLoad row;
      new = s;
      goes = asks_part s row may within mask;
      kept = refl;
      is = ap (λ (t : Taking). core (counted s) (at.BackLoad t row)) commit ∙ ap (in_stage s row) (part_stage takings.Commit rows row within mask);
      step = ap (step_in s.log.rows s.snapshot rows []) (part_stage takings.Commit rows row within mask);
    })

pub asks_next : (s : Data) (row : ℕ) → s.taking ≡ takings.Commit → InStores s s.taking row → AsksNext s row
asks_next s row commit may =
    let rows = s.frames.writes.rows in
    dite (ℕ_discrete row (length rows))
    (λ (last : row ≡ length rows). record {
      pending = waits.Free;
      new = s;
      goes = asks_free s row may last commit;
      kept = refl;
      is = ap (λ (n : ℕ). in_stage s n at.Free) (sym last) ∙ ap (in_stage s row) (last_stage takings.Commit rows row last);
      step = ap (step_in s.log.rows s.snapshot rows []) (last_stage takings.Commit rows row last);
    })
    (λ (more : row ≢ length rows). asks_next_row s row commit may (omega (arith, more, may.far)))

-- ## As so many steps were taken since the clock was

module _ (s : Data) (sound : IsSound s (at.Exchange s.taking)) where
  holding : (got : Option ℕ) (steps most : ℕ) → steps ≤ most → IsHolding (storing s got steps) s.taking most
  holding got steps most few =
      let p = sound.in_phase in
      let o = p.0 in
      record {
        is_open = record { is_open = o.is_open; log = o.log; writes = o.writes; rows = o.rows; frames = o.frames; begun = o.begun; tries = o.tries };
        wants = wants_later s s.taking s.clock s.snapshot (s.spent + steps) p.1.wants;
        settled = p.2;
        free = p.3;
        spent = omega (arith, p.4, few);
      }

  pub sound_load : (row loads : ℕ) → row < length s.frames.writes.rows → (write_at s.frames.writes.rows row).mask ≢ whole → loads ≤ row → IsSound (storing s None (row + loads + 1)) (at.BackLoad s.taking row)
  sound_load row loads within mask few = record { bounds = sound.bounds; reached = sound.reached; in_phase = (holding None (row + loads + 1) (2 * row + 1) (omega (arith, few)), within, mask) }

  pub sound_free : (loads : ℕ) → s.taking ≡ takings.Commit → loads ≤ length s.frames.writes.rows → IsSound (storing s s.got (length s.frames.writes.rows + loads + 1)) at.Free
  sound_free loads commit few = record {
    bounds = sound.bounds;
    reached = sound.reached;
    in_phase =
        (let n = length s.frames.writes.rows in
        subst (λ (t : Taking). IsHolding (storing s s.got (n + loads + 1)) t (2 * n + 1)) commit (holding s.got (n + loads + 1) (2 * n + 1) (omega (arith, few))));
  }

  pub may_store : (got : Option ℕ) (steps row : ℕ) → steps ≤ 2 * row → row ≤ length s.frames.writes.rows → InStores (storing s got steps) s.taking row
  may_store got steps row few far = record { bounds = sound.bounds; holding = holding got steps (2 * row) few; far = far }

  pub may_first : InStores s s.taking 0
  may_first =
      let p = sound.in_phase in
      record {
        bounds = sound.bounds;
        holding = record { is_open = p.0; wants = p.1.wants; settled = p.2; free = p.3; spent = omega (arith, p.4) };
        far = omega arith;
      }

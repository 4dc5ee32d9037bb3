-- A read of one whole word at once: what is stored of it only while a step is waited for is of no account.
use Rattle.std.proofs.Common.{◌≡◌, ℕ, ◌^◌, ◌<◌, false, [], ◌∷◌, ◌++◌, length, refl, sym, ap, ◌∙◌, rules}
use Rattle.norec_accesses.proofs.Common.{AreSingle, CallTurns, Confirm, Data, End, Idle, IsNewWord, IsOpen, IsSound, Load, Log, Read, ReadHint, ReadTurns, StepGoesTo, StepTurns, Wait, Width, Word, asking_word, core, counted, overlay-unwritten}
use Rattle.norec_data.specs.declared.pending.Pending.TheVariants as waits
use Rattle.norec_accesses.proofs.ReadCalls.ConfirmedWords.{confirms, is_open}
use Rattle.norec_accesses.proofs.ReadCalls.WholeReads.{asks, is_word}

-- the word was loaded, and no field changed
pub loaded_word : (d : Data) (value : ℕ) → IsSound d (Load d.reading) → StepGoesTo d (Load d.reading) value (Wait (waits.Confirm value)) d
loaded_word d value sound = record {
  sound = search rules;
  proceeds = search rules;
  stays = search rules;
  order = search rules;
  ends = tt;
  tries = search rules;
}

module _ (s : Data) (hint : ReadHint) (width : Width) (place word value : ℕ) (is : IsNewWord (core s Idle) width place word) (sound : IsSound s Idle) (room : 0 < s.log.room)
    (fits : value < 2 ^ 64) (log : Log) (joined : log.rows ≡ s.log.rows ++ record { word = word; value = value } ∷ []) (single : AreSingle log.rows) where
  -- as the word is waited for
  abbrev mid : Data
  mid = asking_word s hint width place

  asked : CallTurns s (Read hint width place) false (Wait waits.Load) mid
  asked = asks s hint width place word is sound (record { items = [] }) s.log refl refl room

  abbrev loaded : Data
  loaded = counted (counted mid)

  found : StepGoesTo (counted mid) (Load mid.reading) value (Wait (waits.Confirm value)) (counted mid)
  found = loaded_word (counted mid) value asked.sound.sound

  abbrev last : Data
  last = record loaded { clock = s.snapshot; log = log }

  answered : StepTurns loaded (Confirm mid.reading value) s.snapshot (End (Word value)) last
  answered = confirms loaded word value s.snapshot value log found.sound.sound (is_word s hint width place word is) refl fits joined single (λ m there. overlay-unwritten m s.frames.writes.rows word is.unwritten ∙ there)

  abbrev new : Data
  new = record s { entry = length s.log.rows; spent = 2; log = log }

  settled : s.clock ≡ s.snapshot
  settled = (sound.in_phase.0 is.is_open).1

  open_now : IsOpen new
  open_now =
      let o = is_open loaded word value s.snapshot value log found.sound.sound (is_word s hint width place word is) refl fits joined single (λ m there. overlay-unwritten m s.frames.writes.rows word is.unwritten ∙ there) in
      record { is_open = o.is_open; log = o.log; writes = o.writes; rows = o.rows; frames = o.frames; begun = o.begun; tries = (sound.in_phase.0 is.is_open).0.tries }

  pub reads : ReadTurns s hint width place word value new
  reads = record {
    last = last;
    called = asked;
    loaded = found;
    confirmed = answered;
    same = ap (λ (n : ℕ). core (record new { clock = n }) Idle) (sym settled);
    sound = record {
      bounds = sound.bounds;
      reached = sound.reached;
      in_phase = (λ o. (open_now, settled), λ closed. absurd (let yes = is.is_open in cc));
    };
  }

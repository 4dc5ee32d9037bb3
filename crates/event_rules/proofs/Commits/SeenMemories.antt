-- What an engine has seen of the memories that the commits left, over a step or a call.
use Rattle.std.proofs.Common.{◌≡◌, inl, inr, [], ◌++◌, append-nil, take, ℕ, zero, suc, ◌+◌, ◌/◌, ◌%◌, ◌≤◌, ◌==◌, Bool, true, false, if◌then◌else◌, List, length, Some, refl, sym, ap, subst, ◌∙◌, arith, ◌<◌, slice_get, slice_set, slice_index, eqb-true}
use Rattle.event_rules.proofs.Common.{Agrees, AreLaid, AreRead, Call, Cas, Cells, Core, GoesBack, Got, IsLawful, IsMemory, IsTied, Joins, Load, Loaded, LogRow, Rows, Sees, Settles, StaysOn, Step, Store, backed, both_ways, came, cells_after, cond-true, cond_both, found, got_now, got_or, handed_is, handed_to, in_transaction, is_inside, same_Some, slice_get-get_or, word_loaded, words_at, write_at}
use Rattle.event_rules.proofs.{Engines.ClockHolders.freed_by, Engines.ClockHolders.is_free, Engines.TiedEngines.held_even, Engines.TiedEngines.holds_handed}
use Rattle.norec_core.proofs.Logs.{agrees_more, log_longer, snapshot_late, log_now as log_then, still_logged as log_of_before}
use Rattle.{norec_core.specs.OwnAccesses.got_in, write_set.specs.Rows.overlay}

-- ## Over cells and then others

-- over these cells and then those, by the engine mid, in which the value or the call is, and the engine that it became
pub record HasSeen (deepest : ℕ) (base : List ℕ) (cells cells' : Cells) (r : Rows) (mid new : Core) : Type 0 where
  pub laid : AreLaid deepest base cells r
  pub words : mid.words ≡ length cells.words
  pub long : length cells'.words ≡ length cells.words
  pub late : mid.snapshot / 2 ≤ cells.clock / 2
  pub up : in_transaction mid ≡ true → mid.snapshot ≤ new.snapshot
  pub opens : in_transaction mid ≡ false → in_transaction new ≡ true → cells.clock / 2 ≤ new.snapshot / 2
  pub unlogged : in_transaction mid ≡ false → mid.log ≡ []
  pub logged : in_transaction mid ≡ true → Agrees (words_at deepest base r.ended (mid.snapshot / 2)) mid.log
  pub still : new.restarted ≡ mid.restarted → in_transaction mid ≡ true → Agrees (words_at deepest base r.ended (new.snapshot / 2)) mid.log
  pub now : in_transaction new ≡ true → Agrees (words_at deepest base r.ended (new.snapshot / 2)) new.log
  pub longer : new.restarted ≡ mid.restarted → in_transaction new ≡ true → new.irrevocable ≡ false → (rows : List LogRow) × (new.log ≡ mid.log ++ rows)  -- unless a block has gone back
  pub read : mid.irrevocable ≡ false → AreRead (length mid.log) mid.blocks
  pub loaded : mid.freed ≡ false → Loaded (words_at deepest base r.ended) cells' mid
  pub even : mid.freed ≡ false → cells'.clock % 2 ≡ 0 → cells' ≡ cells  -- an even clock that was not freed was there before
  pub freed : mid.freed ≡ true → mid.irrevocable ≡ false → cells'.words ≡ backed mid (words_at deepest base r.ended (cells.clock / 2))

-- what stands at a position that there is
module _ {deepest : ℕ} {base : List ℕ} {cells cells' : Cells} {r : Rows} {mid new : Core} (s : HasSeen deepest base cells cells' r mid new) where
  pub memory_at : (k : ℕ) → k ≤ cells.clock / 2 → IsMemory mid.words (words_at deepest base r.ended k)
  memory_at k l = (let f = s.laid.memories.fits k l in (f.0 ∙ sym s.words, f.1))

-- ## A call comes

pub call_seen : (deepest : ℕ) (base : List ℕ) (cells : Cells) (r : Rows) (e new : Core) (call : Call) (again : Bool) → AreLaid deepest base cells r → IsTied cells e → e.holds ≡ e.irrevocable → Sees (words_at deepest base r.ended) cells e → StaysOn e new
    → HasSeen deepest base cells cells r (came e call again) new
call_seen deepest base cells r e new call again laid tied free sees stays = record {
  laid = laid;
  words = tied.words;
  long = refl;
  late = (let reached = tied.settled.reached in let late = tied.late in omega arith);
  up = λ o. (let same = stays.snapshot in omega arith);
  opens = λ shut o. absurd (both_ways (in_transaction e) shut (stays.opens o));
  unlogged = λ o. (tied.settled.closed o).0;
  logged = sees.logged;
  still = λ same o. subst (λ (k : ℕ). Agrees (words_at deepest base r.ended (k / 2)) e.log) (sym stays.snapshot) (sees.logged o);
  now = λ o.
      subst (λ (l : _). Agrees (words_at deepest base r.ended (new.snapshot / 2)) l) (sym (stays.log o))
      (subst (λ (k : ℕ). Agrees (words_at deepest base r.ended (k / 2)) e.log) (sym stays.snapshot) (sees.logged (stays.opens o)));
  longer = λ same o r. ([], stays.log o ∙ sym (append-nil e.log));
  read = tied.settled.reads;
  loaded = λ f. record { fresh = λ even same h. tt; held = λ h r. absurd (both_ways e.irrevocable r (sym free ∙ h)); got = λ h r. absurd (both_ways e.irrevocable r (sym free ∙ h)) };
  even = λ f even. refl;
  freed = λ f r. absurd (cc);
}

-- ## A step was done

module _ (deepest : ℕ) (base : List ℕ) (cells : Cells) (r : Rows) (e : Core) (laid : AreLaid deepest base cells r) (t : IsTied cells e) where
  abbrev memory : ℕ → List ℕ
  memory = words_at deepest base r.ended

  word_handed : Loaded memory cells e → (word : ℕ) → word < length cells.words → (holds : Bool) → e.holds ≡ holds → (e.holds ≡ true → e.irrevocable ≡ false → word ≡ (write_at e.writes e.done).word)
      → Loaded memory cells (word_loaded e holds word (slice_index cells.words word))
  word_handed s word inside true h own = record {
    fresh = λ even same f. absurd (both_ways e.holds f h);
    held = s.held;
    got = λ g r. got_now (got_in e.stage (slice_index cells.words word)) (got_or e.stage (slice_index cells.words word)) (ap (slice_get cells.words) (sym (own g r)) ∙ slice_get-get_or cells.words word 0 inside);
  }
  word_handed s word inside false h own = record {
    fresh = λ even same f. agrees_more (memory (cells.clock / 2)) e.fresh _ (s.fresh even same f)
        (subst (λ (m : List ℕ). slice_get m word ≡ Some (slice_index cells.words word)) (laid.free even) (slice_get-get_or cells.words word 0 inside), tt);
    held = s.held;
    got = λ g r. absurd (both_ways e.holds h g);
  }

  -- any step but the store that frees the clock
  loaded_handed : Loaded memory cells e → (step : Step) → IsLawful e step → is_free step ≡ false → Loaded memory (cells_after cells step) (handed_to e (Some step) (found cells step))
  loaded_handed s (Load zero) l n = record { fresh = λ even same f. tt; held = λ h r. absurd (both_ways e.holds l.1 h); got = λ h r. absurd (both_ways e.holds l.1 h) }
  loaded_handed s (Load (suc word)) l n = word_handed s word (let k = l.0 in let w = t.words in omega arith) e.holds refl (λ h r. (l.1.1 h r).1)
  loaded_handed s (Store zero value) l n = absurd (cc)
  loaded_handed s (Store (suc word) value) l n = record {
    fresh = λ even same f. absurd (both_ways e.holds f l.1);
    held = λ h r.
        (let held = s.held l.1 r in
        let next = l.2 r in
        let fits = laid.memories.fits (cells.clock / 2) (let k : cells.clock / 2 ≤ cells.clock / 2 = omega arith in k) in
        let mem : IsMemory e.words (memory (cells.clock / 2)) = (fits.0 ∙ sym t.words, fits.1) in
        let got : Got e.got (slice_get cells.words word) = subst (λ (k : ℕ). Got e.got (slice_get cells.words k)) (sym next.word_is) (s.got l.1 r) in
        ap (λ (m : List ℕ). slice_set m word value) held ∙ (sym (next.value_is (memory (cells.clock / 2)) mem (subst (λ (m : List ℕ). Got e.got (slice_get m word)) held got))
        ∙ ap (λ (n : ℕ). overlay (memory (cells.clock / 2)) (take n e.writes)) (sym (ap (λ (b : Bool). if b then e.done else e.done + 1) r))));
    got = λ h r. tt;
  }
  loaded_handed s (Cas cell from to) l n = record {
    fresh = λ even same f. tt;
    held = λ h r.
        (let same : cells.clock ≡ from = eqb-true cells.clock from h in
        let now : (if cells.clock == from then to else cells.clock) ≡ to = cond-true (cells.clock == from) to cells.clock h in
        let half : cells.clock / 2 ≡ (if cells.clock == from then to else cells.clock) / 2 = omega (arith, l.4, l.6) in
        laid.free (omega (arith, l.4)) ∙ ap memory half);
    got = λ h r. tt;
  }

  -- an even clock that was not freed was there before
  even_same : (s : Step) → IsLawful e s → is_free s ≡ false → (cells_after cells s).clock % 2 ≡ 0 → cells_after cells s ≡ cells
  even_same (Load cell) l k even = refl
  even_same (Store zero value) l k even = absurd (cc)
  even_same (Store (suc word) value) l k even = absurd (let held = t.holder l.1 in let h = held_even e t.settled l.1 in omega arith)
  even_same (Cas cell from to) l k even =
      cond_both (cells.clock == from) to cells.clock (λ (n : ℕ). n % 2 ≡ 0 → record cells { clock = n } ≡ cells) (λ h e. absurd (let was = l.4 in let up = l.6 in omega arith)) (λ h e. refl) even

  freed_words : Loaded memory cells e → (s : Step) → IsLawful e s → is_free s ≡ true → e.irrevocable ≡ false → (cells_after cells s).words ≡ backed (handed_to e (Some s) (found cells s)) (memory (cells.clock / 2))
  freed_words x (Store zero value) l k r = x.held l.1 r
  freed_words x s l k r = absurd (cc)

  module _ (s : Sees (words_at deepest base r.ended) cells e) (step : Step) (waits : e.waits ≡ Some step) (lawful : IsLawful e step) (new : Core) (joins : Joins e (found cells step) new) where
    -- what is settled was loaded from the last memory
    settled_fresh : Settles e (found cells step) → Agrees (memory (found cells step / 2)) e.fresh
    settled_fresh k =
        let is = same_Some step (Load 0) (sym waits ∙ k.load) in
        let seen : found cells step ≡ cells.clock = ap (found cells) is in
        let own : e.holds ≡ false = (subst (IsLawful e) is lawful).1 in
        let even : cells.clock % 2 ≡ 0 = ap (λ (n : ℕ). n % 2) (sym seen) ∙ k.even in
        subst (λ (n : ℕ). Agrees (memory (n / 2)) e.fresh) (sym seen) (s.loaded.fresh even (sym k.same ∙ seen) own)

    -- no block goes back unless one more has
    not_back : {A : Type 0} → new.restarted ≡ e.restarted → GoesBack e (found cells step) new → A
    not_back same back = absurd (let more = back.counted in omega arith)

    pub step_seen : HasSeen deepest base cells (cells_after cells step) r (handed_to e (Some step) (found cells step)) new
    step_seen =
        let k = handed_is e step (found cells step) in
        let unfreed = freed_by e step (found cells step) t.settled.unfreed in
        let inside : is_inside (handed_to e (Some step) (found cells step)).blocks ≡ is_inside e.blocks = ap is_inside k.keeps.blocks in
        record {
          laid = laid;
          words = k.keeps.words ∙ t.words;
          long = (holds_handed cells e step t lawful).long;
          late = (let same = k.snapshot in let reached = t.settled.reached in let late = t.late in omega arith);
          up = λ o. (let late = snapshot_late e new (found cells step) joins t.settled (sym inside ∙ o) in let same = k.snapshot in omega arith);
          opens = λ shut o.
              elim (joins.begins (sym inside ∙ shut) o) [
                | inl b ↦ (let clock : found cells step ≡ cells.clock = ap (found cells) (same_Some _ _ (sym waits ∙ b.0)) in omega (arith, b.1))
                | inr b ↦ (let clock : found cells step ≡ cells.clock = ap (found cells) (same_Some _ _ (sym waits ∙ b.0.cas)) in omega (arith, b.1))
              ];
          unlogged = λ o. k.log ∙ (t.settled.closed (sym inside ∙ o)).0;
          logged = λ o. subst (λ (j : ℕ). Agrees (memory (j / 2)) (handed_to e (Some step) (found cells step)).log) (sym k.snapshot) (subst (Agrees (memory (e.snapshot / 2))) (sym k.log) (s.logged (sym inside ∙ o)));
          still = λ same o. subst (Agrees (memory (new.snapshot / 2))) (sym k.log)
              (elim (log_of_before e new (found cells step) joins t.settled memory s.logged settled_fresh (sym inside ∙ o)) [ inl all ↦ all | inr back ↦ not_back (same ∙ k.keeps.restarted) back ]);
          now = λ o. log_then e new (found cells step) joins t.settled memory s.logged settled_fresh o;
          longer = λ same o r. elim (log_longer e new (found cells step) joins t.settled o) [
            | inl more ↦ (more.0, more.1 ∙ ap (λ (l : List LogRow). l ++ more.0) (sym k.log))
            | inr (inl over) ↦ absurd (both_ways new.irrevocable r over.is)
            | inr (inr back) ↦ not_back (same ∙ k.keeps.restarted) back
          ];
          read = λ r. subst (λ (l : List LogRow). AreRead (length l) (handed_to e (Some step) (found cells step)).blocks) (sym k.log) (subst (AreRead (length e.log)) (sym k.keeps.blocks) (t.settled.reads (sym k.keeps.irrevocable ∙ r)));
          loaded = λ f. loaded_handed s.loaded step lawful (sym unfreed ∙ f);
          even = λ f. even_same step lawful (sym unfreed ∙ f);
          freed = λ f r. freed_words s.loaded step lawful (sym unfreed ∙ f) (sym k.keeps.irrevocable ∙ r);
        }

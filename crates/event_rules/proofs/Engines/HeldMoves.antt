-- An irrevocable attempt over a call that comes, and over a step: what each comes to is that of the plain state to which the attempt's calls alone lead.
use Rattle.std.proofs.Common.{◌≡◌, ℕ, zero, suc, ◌/◌, Bool, true, false, List, Option, Some, slice_get, refl, sym, ap, subst, ◌∙◌, arith, unwrap_or, ◌+◌}
use Rattle.event_rules.proofs.Common.{Actor, Answers, Asks, AsksFor, Attempt, Call, Cells, ComesTo, Core, Got, IsFound, IsHeld, IsLawful, IsLoaded, IsTied, Load, Next, Proceeds, Replied, Rows, Rules, StandsIn, State, Step, Store, active_of, after, alone_whole, answers, asked_from, bytes_at, bytes_of, cells_after, found, got_stored, handed_to, in_transaction, irrevocable_room, is_inside, is_open, memory_after, none_got, plainly as reply, reserved, rests, shut_revocable, slice_get-get_or, stage_from}
use Rattle.event_rules.proofs.Engines.SoundSteps.{IsCalling, IsStepping, asked_row, mid, mid_step, rests as between_calls, same, waits, went}

-- the attempt's calls alone on the memory of its position lead to an open block, and the call comes to what the plain machine makes of it then
pub record HasHeld (deepest : ℕ) (base : List ℕ) (cells cells' : Cells) (r : Rows) (o : Option Attempt) (mid new : Core) (call : Call) (what : Next) : Type 0 where
  pub still_open : mid.irrevocable ≡ true → (row : Attempt) → o ≡ Some row → is_open (alone_whole deepest (bytes_at deepest base r.ended (cells.clock / 2)) row) ≡ true
  pub mode : mid.irrevocable ≡ true → (row : Attempt) → o ≡ Some row → (alone_whole deepest (bytes_at deepest base r.ended (cells.clock / 2)) row).irrevocable ≡ true
  pub comes : mid.irrevocable ≡ true → (row : Attempt) → o ≡ Some row
      → ComesTo (after deepest (alone_whole deepest (bytes_at deepest base r.ended (cells.clock / 2)) row) call) (reply deepest (alone_whole deepest (bytes_at deepest base r.ended (cells.clock / 2)) row) call) what new cells'.words
  pub shut : in_transaction mid ≡ false → mid.irrevocable ≡ false
  pub got : mid.irrevocable ≡ true → (word value : ℕ) → new.waits ≡ Some (Store (suc word) value) → Got new.got (slice_get cells'.words word)

-- an attempt that stands elsewhere, with another room for its calls, is held as well
pub held_same : {deepest : ℕ} {memory words : List ℕ} {row : Attempt} {e : Core} (at room : ℕ) → IsHeld deepest memory words row e → IsHeld deepest memory words (record row { at = at; calls = record row.calls { room = room } }) e
held_same at room h = record { still_open = h.still_open; mode = h.mode; stands = h.stands; got = h.got }

-- what a commit leaves is this plain state, once its stores are done
pub record CommitsTo (cells : Cells) (new : Core) (wrote : Bool) (s : State) : Type 0 where
  pub closes : is_open s ≡ false
  pub wrote_is : wrote ≡ s.wrote
  pub arena_is : new.arena ≡ s.arena
  pub actions_is : new.actions ≡ s.actions
  pub memory_is : wrote ≡ true → bytes_of cells.words ≡ s.memory

-- ## A call comes

module _ {P : Type 0} {rules : Rules P} {cells : Cells} {r0 r : Rows} {old a : Actor P} {call : Call} {what : Next} (m : IsCalling rules cells r0 r old a call what)
    (base : List ℕ) (held : old.engine.irrevocable ≡ true → (row : Attempt) → active_of old ≡ Some row → IsHeld old.engine.depth (bytes_at old.engine.depth base r0.ended (cells.clock / 2)) cells.words row old.engine) where
  held_then : old.engine.irrevocable ≡ true → (row : Attempt) → active_of a ≡ Some row → IsHeld old.engine.depth (bytes_at old.engine.depth base r.ended (cells.clock / 2)) cells.words row old.engine
  held_then i row f =
      let was = asked_row m row f in
      subst (λ (l : List Attempt). IsHeld old.engine.depth (bytes_at old.engine.depth base l (cells.clock / 2)) cells.words row old.engine) (sym m.asks.ended)
      (subst (λ (x : Attempt). IsHeld old.engine.depth (bytes_at old.engine.depth base r0.ended (cells.clock / 2)) cells.words x old.engine) (sym was.2) (held_same was.0.at (reserved was.0.calls (unwrap_or (irrevocable_room old.engine call) 0 + 1)).room (held i was.0 was.1)))

  pub call_held : HasHeld old.engine.depth base cells cells r (active_of a) (mid m) a.engine call what
  call_held = record {
    still_open = λ i row f. (held_then i row f).still_open;
    mode = λ i row f. (held_then i row f).mode;
    comes = λ i row f.
        subst (λ (s : State). ComesTo (after old.engine.depth s call) (reply old.engine.depth s call) what a.engine cells.words)
        (subst (λ (w : Option Step). StandsIn old.engine.depth w old.engine.doing old.engine cells.words (alone_whole old.engine.depth (bytes_at old.engine.depth base r.ended (cells.clock / 2)) row)) (between_calls m.sound m.ready).idle (held_then i row f).stands)
        (m.asks.called.held i cells.words (sym m.sound.tied.words, m.sound.tied.fit));
    shut = λ o. shut_revocable old.engine m.sound.tied.settled o;
    got = λ i word value e. none_got (mid m) a.engine what m.asks.called.proceeds refl word value cells.words e;
  }

-- ## A step

-- the value that a load found is in the words
is_loaded : (cells : Cells) (e : Core) (step : Step) → IsTied cells e → IsLawful e step → IsLoaded step (found cells step) cells.words
is_loaded cells e (Load (suc word)) t l = slice_get-get_or cells.words word 0 (let k = l.0 in let w = t.words in omega arith)
is_loaded cells e step t l = tt

-- and what the word that a store writes was made of
is_found : (e : Core) (step : Step) (seen : ℕ) (m : List ℕ) → IsLoaded step seen m → ((word value : ℕ) → step ≡ Store (suc word) value → Got e.got (slice_get m word)) → IsFound e (Some step) seen m
is_found e (Load (suc word)) seen m loaded got = loaded
is_found e (Store (suc word) value) seen m loaded got = got word value refl
is_found e step seen m loaded got = tt

words_then : (cells : Cells) (step : Step) → memory_after (Some step) cells.words ≡ (cells_after cells step).words
words_then cells (Store zero value) = refl
words_then cells (Store (suc word) value) = refl
words_then cells step = refl

-- the value that the holder was handed
got_handed : (cells : Cells) (e new : Core) (word value : ℕ) → new.writes ≡ e.writes → IsTied cells e → (step : Step) → IsLawful e step → e.holds ≡ true → (handed_to e (Some step) (found cells step)).freed ≡ false → asked_from e e.stage ≡ Some step
    → asked_from new (stage_from e e.stage (found cells step)) ≡ Some (Store (suc word) value) → Got (handed_to e (Some step) (found cells step)).got (slice_get (cells_after cells step).words word)
got_handed cells e new word value writes t step l held unfreed was now =
    subst (λ (m : List ℕ). Got (handed_to e (Some step) (found cells step)).got (slice_get m word)) (words_then cells step) (got_stored e new word value (found cells step) writes cells.words held now step l unfreed was (is_loaded cells e step t l))

module _ {P : Type 0} {rules : Rules P} {cells : Cells} {r : Rows} {old : Actor P} {call : Call} {what : Next} {cells' : Cells} {new : Core} (m : IsStepping rules cells r old call what cells' new)
    (deepest : ℕ) (base : List ℕ) (held : old.engine.irrevocable ≡ true → (row : Attempt) → active_of old ≡ Some row → IsHeld deepest (bytes_at deepest base r.ended (cells.clock / 2)) cells.words row old.engine) where
  was : (mid_step m).irrevocable ≡ true → old.engine.irrevocable ≡ true
  was i = sym (same m).irrevocable ∙ i

  comes_to : old.engine.irrevocable ≡ true → (row : Attempt) → active_of old ≡ Some row
      → ComesTo (after deepest (alone_whole deepest (bytes_at deepest base r.ended (cells.clock / 2)) row) call) (reply deepest (alone_whole deepest (bytes_at deepest base r.ended (cells.clock / 2)) row) call) what new cells'.words
  comes_to i row f =
      let w = waits m in
      let h = held i row f in
      let state : State = alone_whole deepest (bytes_at deepest base r.ended (cells.clock / 2)) row in
      let pair = subst (λ (o : Option Call). StandsIn deepest (Some m.step) o old.engine cells.words state) w.doing (subst (λ (o : Option Step). StandsIn deepest o old.engine.doing old.engine cells.words state) w.waits h.stands) in
      let there = subst (λ (o : Option Step). IsFound old.engine o (found cells m.step) cells.words) (sym w.waits)
      (is_found old.engine m.step (found cells m.step) cells.words (is_loaded cells old.engine m.step m.sound.tied w.lawful) (λ word value e. h.got word value (w.waits ∙ ap (λ (s : Step). Some s) e))) in
      let words : memory_after old.engine.waits cells.words ≡ cells'.words = ap (λ (o : Option Step). memory_after o cells.words) w.waits ∙ (words_then cells m.step ∙ ap (λ (c : Cells). c.words) (sym m.cells_are)) in
      subst (λ (x : List ℕ). ComesTo (after deepest state call) (reply deepest state call) what new x) words
      (subst (λ (x : Replied). ComesTo (after deepest state call) x what new (memory_after old.engine.waits cells.words)) pair.1
      (subst (λ (x : State). ComesTo x (answers old.engine cells.words) what new (memory_after old.engine.waits cells.words)) pair.0
      (m.resumed.held i cells.words (sym m.sound.tied.words, m.sound.tied.fit) there)))

  got_next : (x : Next) → what ≡ x → old.engine.irrevocable ≡ true → (word value : ℕ) → new.waits ≡ Some (Store (suc word) value) → Got new.got (slice_get cells'.words word)
  got_next (Answers answer) is i word value e = absurd (let z = sym (rests (mid_step m) new answer (subst (λ (x : Next). Proceeds (mid_step m) x new) is (went m))).idle ∙ e in cc)
  got_next (Asks step) is i word value e =
      let g : AsksFor (mid_step m) step new = subst (λ (x : Next). Proceeds (mid_step m) x new) is (went m) in
      let w = waits m in
      let writes : new.writes ≡ old.engine.writes = ap (λ (c : Core). c.writes) g.stays ∙ (same m).writes in
      let asks : asked_from new (stage_from old.engine old.engine.stage (found cells m.step)) ≡ Some (Store (suc word) value) = ap (asked_from new) (sym m.resumed.order) ∙ (sym m.resumed.asks ∙ e) in
      subst (λ (o : Option ℕ). Got o (slice_get cells'.words word)) (sym (ap (λ (c : Core). c.got) g.stays))
      (subst (λ (c : Cells). Got (mid_step m).got (slice_get c.words word)) (sym m.cells_are)
      (got_handed cells old.engine new word value writes m.sound.tied m.step w.lawful (m.sound.tied.settled.irrevocable i).0 g.unfreed (sym w.asks ∙ w.waits) asks))

  pub step_held : HasHeld deepest base cells cells' r (active_of old) (mid_step m) new call what
  step_held = record {
    still_open = λ i row f. (held (was i) row f).still_open;
    mode = λ i row f. (held (was i) row f).mode;
    comes = λ i row f. comes_to (was i) row f;
    shut = λ o. (same m).irrevocable ∙ shut_revocable old.engine m.sound.tied.settled (sym (ap is_inside (same m).blocks) ∙ o);
    got = λ i word value e. got_next what refl (was i) word value e;
  }

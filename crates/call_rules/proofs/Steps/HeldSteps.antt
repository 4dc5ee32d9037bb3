-- A step of an irrevocable transaction was done, and its value is handed in.
use Rattle.std.proofs.Common.{◌≡◌, ℕ, zero, suc, ◌+◌, true, List, length, Option, Some, slice_get, refl, sym, ap, subst, ◌∙◌, arith}
use Rattle.call_rules.proofs.Common.{Answers, Asks, Cas, ComesTo, Core, Got, HeldOn, InCall, IsFound, IsLoaded, Load, Next, Proceeds, Reply, Start, State, Step, StepTells, StepsHeld, Store, View, after, after_snoc, answers, asked, asked_from, got_handed, handed_is, handed_to, held_words, leaves, memory_after, reply, rests, stage_after, stage_from, stands_for, stored_snoc}
use Rattle.call_rules.{proofs.Steps.CallsInHand.both, proofs.Steps.CallsInHand.IsHeldMid, proofs.Steps.CallsInHand.get_of, proofs.Steps.NewCalls.held_memory}

module _ (s : Start) (v : View) (e : Core) (n : ℕ) (w : View) (holds : e.holds ≡ true) where
  add_one : (word : ℕ) → suc word ≡ word + 1
  add_one word = omega arith

  -- what the holder found stands in its words
  loaded_there : (step : Step) → InCall s v e step → StepTells v step n w → IsLoaded step n (held_words v)
  loaded_there (Load (suc word)) i u =
      let told = (u.1 word (add_one word)).1 (i.tied.holds ∙ holds) in
      let inside = i.lawful.0 in
      let long : length (held_words v) ≡ e.words = (held_memory e.words v i.tied.over).0 in
      get_of (held_words v) word n (omega arith) (sym told.1)
  loaded_there step i u = tt

  found_there : (step : Step) → (i : InCall s v e step) → HeldOn s v e → StepTells v step n w → IsFound e (Some step) n (held_words v)
  found_there (Load (suc word)) i h u = loaded_there (Load (suc word)) i u
  found_there (Store (suc word) value) i h u = h.got word value i.waits
  found_there step i h u = tt

  -- the words after the step
  words_then : (step : Step) → InCall s v e step → StepTells v step n w → memory_after (Some step) (held_words v) ≡ held_words w
  words_then (Load zero) i u = absurd (both e.holds holds i.lawful.1)
  words_then (Load (suc word)) i u = ap held_words (sym ((u.1 word (add_one word)).1 (i.tied.holds ∙ holds)).0)
  words_then (Store zero value) i u = sym (after_snoc v.base v.seen v.done) ∙ ap held_words (sym (u.0 refl).0)
  words_then (Store (suc word) value) i u = sym (stored_snoc (after v.base v.seen) v.done (word, value)) ∙ ap held_words (sym (u.1 word (add_one word)))
  words_then (Cas cell from to) i u = absurd (both e.holds holds i.lawful.1)

  module _ (new : Core) (what : Next) (order : new.stage ≡ stage_after e n) (asks : new.waits ≡ asked new) (steps : StepsHeld e n what new) (step : Step) (i : InCall s v e step) (h : HeldOn s v e) (u : StepTells v step n w) (g : Proceeds (handed_to e (Some step) n) what new) where
    comes : ComesTo (leaves e (held_words v)) (answers e (held_words v)) what new (held_words w)
    comes =
        subst (λ (m : List ℕ). ComesTo (leaves e (held_words v)) (answers e (held_words v)) what new m) (words_then step i u)
        (subst (λ (o : Option Step). ComesTo (leaves e (held_words v)) (answers e (held_words v)) what new (memory_after o (held_words v))) i.waits
        (steps (held_words v) (held_memory e.words v i.tied.over) (subst (λ (o : Option Step). IsFound e o n (held_words v)) (sym i.waits) (found_there step i h u))))

    got_next : (x : Next) → Proceeds (handed_to e (Some step) n) x new → (word value : ℕ) → new.waits ≡ Some (Store (suc word) value) → Got new.got (slice_get (held_words w) word)
    got_next (Answers answer) x word value is = absurd (let z = sym (rests (handed_to e (Some step) n) new answer x).idle ∙ is in cc)
    got_next (Asks next) x word value is =
        let writes : new.writes ≡ e.writes = ap (λ (c : Core). c.writes) x.stays ∙ (handed_is e step n).keeps.writes in
        let now : asked_from new (stage_from e e.stage n) ≡ Some (Store (suc word) value) = ap (asked_from new) (sym order) ∙ (sym asks ∙ is) in
        subst (λ (o : Option ℕ). Got o (slice_get (held_words w) word)) (sym (ap (λ (c : Core). c.got) x.stays))
        (subst (λ (m : List ℕ). Got (handed_to e (Some step) n).got (slice_get m word)) (words_then step i u)
        (got_handed e new word value n writes (held_words v) holds now step i.lawful x.unfreed (sym i.asks ∙ i.waits) (loaded_there step i u)))

    pub hands_held : IsHeldMid s w what new
    hands_held = record {
      comes = subst (λ (x : State). ComesTo x (reply s.engine.depth (stands_for s.engine (held_words s.view)) s.call) what new (held_words w)) h.leaves_it
          (subst (λ (r : Reply). ComesTo (leaves e (held_words v)) r what new (held_words w)) h.answers_it comes);
      got = got_next what g;
    }

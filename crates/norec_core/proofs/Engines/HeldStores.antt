-- What a holder's load found is the word that it stores next.
use Rattle.std.proofs.Common.{◌≡◌, ◌⊎◌, inl, inr, ℕ, zero, suc, ◌+◌, Bool, true, false, List, Option, None, Some, if◌then◌else◌, slice_get, refl, sym, ap, subst, ◌∙◌}
use Rattle.norec_core.proofs.Common.{Aim, Answers, Asks, Cas, Core, Got, IsLawful, IsSettled, Load, Next, Phase, Proceeds, Step, Store, asked_from, both_ways, false_from_ne_true, got_in, handed_to, in_transaction, memory_after, stage_from, word_loaded, write_at}
use Rattle.norec_core.proofs.Replies.AnsweredEngines.{rests}
use Rattle.norec_core.specs.Phases as at

-- outside a transaction none is irrevocable
pub shut_revocable : (e : Core) → IsSettled e → in_transaction e ≡ false → e.irrevocable ≡ false
shut_revocable e s shut = false_from_ne_true e.irrevocable (λ i. both_ways (in_transaction e) shut (s.holder (s.irrevocable i).0).0)

-- ## What it keeps of a word that it loaded

-- that word, or nothing
pub got_or : (stage : Phase) (seen : ℕ) → (got_in stage seen ≡ None) ⊎ (got_in stage seen ≡ Some seen)
got_or (at.Load r) seen = inl refl
got_or stage seen = inr refl

pub got_now : {seen : ℕ} {word : Option ℕ} (got : Option ℕ) → (got ≡ None) ⊎ (got ≡ Some seen) → word ≡ Some seen → Got got word
got_now {word = word} got (inl none) e = subst (λ (g : Option ℕ). Got g word) (sym none) tt
got_now {word = word} got (inr some) e = subst (λ (g : Option ℕ). Got g word) (sym some) e

-- ## What it stores next

-- as a call comes nothing is loaded
pub none_got : (mid new : Core) (what : Next) → Proceeds mid what new → mid.got ≡ None → (word value : ℕ) (words : List ℕ) → new.waits ≡ Some (Store (suc word) value) → Got new.got (slice_get words word)
none_got mid new (Asks step) g none word value words e = subst (λ (o : Option ℕ). Got o (slice_get words word)) (sym (ap (λ (c : Core). c.got) g.stays ∙ none)) tt
none_got mid new (Answers answer) g none word value words e = absurd (let z = sym (rests mid new answer g).idle ∙ e in cc)

-- a load of a word found it in this memory
abbrev pub IsLoaded : Step → ℕ → List ℕ → Type 0
IsLoaded (Load (suc word)) seen m = slice_get m word ≡ Some seen
IsLoaded _ seen m = Unit {0}

-- what is stored next of a word that was loaded is that word
module _ (e new : Core) (word value seen : ℕ) (writes : new.writes ≡ e.writes) where
  no_round : (b c d : Bool) (aim : Aim) (row next : ℕ) → asked_from new (if b then (if c then at.RoundRow aim next else at.RoundEnd aim) else (if d then at.RoundBack aim row else at.Idle)) ≡ Some (Store (suc word) value) → ⊥
  no_round true true d aim row next q = cc
  no_round true false d aim row next q = cc
  no_round false c true aim row next q = cc
  no_round false c false aim row next q = cc

  got_same : (stage : Phase) (loaded : ℕ) → asked_from e stage ≡ Some (Load (suc loaded)) → asked_from new (stage_from e stage seen) ≡ Some (Store (suc word) value) → (got_in stage seen ≡ None) ⊎ (loaded ≡ word)
  got_same (at.Load r) loaded q w = inl refl
  got_same (at.RoundRow aim row) loaded q w = absurd (no_round _ _ _ aim row (row + 1) w)
  got_same (at.BackLoad taking row) loaded q w = inr (let x : (write_at new.writes row).word ≡ word = cc in let y : (write_at e.writes row).word ≡ loaded = cc in sym y ∙ (ap (λ rows. (write_at rows row).word) (sym writes) ∙ x))
  got_same (at.Fetch p) loaded q w = inr (cc)
  got_same stage loaded q w = absurd (cc)

  module _ (m : List ℕ) (held : e.holds ≡ true) (now : asked_from new (stage_from e e.stage seen) ≡ Some (Store (suc word) value)) where
    loaded_got : (loaded : ℕ) → slice_get m loaded ≡ Some seen → asked_from e e.stage ≡ Some (Load (suc loaded)) → (b : Bool) → b ≡ true → Got (word_loaded e b loaded seen).got (slice_get m word)
    loaded_got loaded there was true h = elim (got_same e.stage loaded was now) [
      | inl none ↦ subst (λ (o : Option ℕ). Got o (slice_get m word)) (sym none) tt
      | inr same ↦ got_now (got_in e.stage seen) (got_or e.stage seen) (ap (slice_get m) (sym same) ∙ there)
    ]
    loaded_got loaded there was false h = absurd (cc)

    -- by any step that leaves it the clock
    pub got_handed : (step : Step) → IsLawful e step → (handed_to e (Some step) seen).freed ≡ false → asked_from e e.stage ≡ Some step → IsLoaded step seen m → Got (handed_to e (Some step) seen).got (slice_get (memory_after (Some step) m) word)
    got_handed (Load zero) l unfreed was there = absurd (both_ways e.holds l.1 held)
    got_handed (Load (suc loaded)) l unfreed was there = loaded_got loaded there was e.holds held
    got_handed (Store zero stored) l unfreed was there = absurd (let f : true ≡ false = unfreed in cc)
    got_handed (Store (suc loaded) stored) l unfreed was there = tt
    got_handed (Cas cell from to) l unfreed was there = tt

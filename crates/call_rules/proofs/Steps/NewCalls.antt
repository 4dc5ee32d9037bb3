-- A call comes, and the engine asks for a step.
use Rattle.std.proofs.Common.{◌≡◌, ◌≢◌, inl, inr, ℕ, suc, ◌+◌, ◌/◌, ◌≤◌, Bool, true, List, [], ◌∷◌, length, ◌++◌, None, Some, refl, sym, ap, subst, ◌∙◌, arith}
use Rattle.call_rules.proofs.Common.{Agrees, AreRead, Asks, AsksFor, Call, ComesHeld, Core, Follows, Frame, Grew, Grows, InCall, IsHolding, IsMemory, IsOpening, IsOver, IsSettled, IsWithin, Keeps, LogRow, Next, Proceeds, Stands, Start, StaysOn, Step, View, after, asked, asked_from, came, held_words, in_transaction, is_inside, keeps_asked, keeps_self, keeps_twice, length_stored, memory_of, most, most_same, none_got, pending, reads_of, shut_revocable, stage_at, starts_self, stored_fits, tries_at}
use Rattle.call_rules.proofs.Steps.Tries.{first_opens, first_tries}
use Rattle.call_rules.proofs.Steps.LastLoads.{no_last}
use Rattle.call_rules.proofs.Steps.CallsInHand.{both, IsMid, IsHeldMid, Tried, whole_memory}

-- the words that are held are a memory
pub held_memory : (words : ℕ) (v : View) → IsOver (suc words) v → IsMemory words (held_words v)
held_memory words v o = let whole = whole_memory words v o in (length_stored (after v.base v.seen) v.done ∙ whole.0, stored_fits (after v.base v.seen) v.done whole.1 o.done_fits)

module _ (s : Start) (w : View) (mid new : Core) (m : IsMid s w mid new) where
  not_over : new.irrevocable ≡ mid.irrevocable → Grows s w new → Grew s w new
  not_over same g = record { snapshot = g.snapshot; log = elim g.log [ inl more ↦ more | inr over ↦ absurd (both s.engine.irrevocable (sym m.kept.irrevocable ∙ (sym same ∙ over.is)) over.was) ]; looks = elim g.looks [ inl same ↦ inl same | inr (inl up) ↦ inr up | inr (inr over) ↦ absurd (both s.engine.irrevocable (sym m.kept.irrevocable ∙ (sym same ∙ over.is)) over.was) ] }

  pub asked_on : (step : Step) → AsksFor mid step new → IsWithin new → Tried s w mid new → (s.engine.irrevocable ≡ true → IsHeldMid s w (Asks step) new) → InCall s w new step
  asked_on step g within q on =
      let same = g.stays in
      let words : new.words ≡ mid.words = ap (λ (c : Core). c.words) same in
      let clock : new.clock ≡ mid.clock = ap (λ (c : Core). c.clock) same in
      let holds : new.holds ≡ mid.holds = ap (λ (c : Core). c.holds) same in
      let mode : new.irrevocable ≡ mid.irrevocable = ap (λ (c : Core). c.irrevocable) same in
      let fresh : new.fresh ≡ mid.fresh = ap (λ (c : Core). c.fresh) same in
      let waits : new.waits ≡ Some step = ap (λ (c : Core). c.waits) same in
      let kept : Keeps (came s.engine s.call s.again) new = keeps_twice _ mid new m.kept (keeps_asked mid new step g) in
      let behind = m.behind in
      let known = m.known in
      let is_some : new.waits ≢ None = λ none. (let x : Some step ≡ None = sym waits ∙ none in absurd (cc)) in
      let bound : new.spent ≤ most new new.doing = within is_some in
      let most_is : most new new.doing ≡ most (came s.engine s.call s.again) (Some s.call) = ap (most new) kept.doing ∙ most_same _ new kept (Some s.call) in
      record {
        tied = record {
          over = subst (λ (n : ℕ). IsOver (suc n) w) (sym words) m.over;
          holds = m.holds ∙ sym holds;
          behind = omega arith;
          known = omega arith;
          clocks = λ o. (let c = m.clocks o in record { clock = c.clock ∙ sym clock; count = c.count ∙ ap (λ (n : ℕ). n / 2) (sym clock) });
          fresh = λ x l st. subst (Agrees x) (sym fresh) (m.fresh x (l ∙ words) st);
          logged = m.logged;
          holding = λ h i. (let k = m.holding (sym holds ∙ h) (sym mode ∙ i) in subst (IsHolding w) (sym same)
              (record { laid = k.laid; got = k.got }));
          settled = m.settled;
        };
        kept = kept;
        went = m.went;
        rises = (let r = m.rises in omega arith);
        mine = m.mine g.unfreed;
        looked = m.looked g.unfreed;
        taken = λ h i. m.taken (sym holds ∙ h) (sym mode ∙ i);
        first = m.first;
        read = m.read;
        shut = m.shut;
        begun = λ z. is_some (m.idle z).0;
        tried = q.tried;
        loads = λ before row x. q.loads before row (sym fresh ∙ x);
        opening = λ c. q.opening (sym (ap in_transaction same) ∙ c) (λ z. is_some (m.asks ∙ ap (asked_from new) z));
        fixed = m.fixed;
        waits = waits;
        asks = m.asks;
        lawful = g.lawful;
        steps = (let a = m.steps in let b : new.spent ≡ mid.spent + 1 = ap (λ (c : Core). c.spent) same in omega arith);
        within = omega arith;
        grew = λ o. not_over mode (m.grows (sym (ap is_inside kept.blocks) ∙ o) o (ap (λ (c : Core). c.restarted) same));
        held_on = λ i. (let h = on i in record { leaves_it = h.comes.0; answers_it = h.comes.1; got = h.got });
      }

-- what had been read at the innermost begin was read since
reads_within : (n : ℕ) (bs : List Frame) → AreRead n bs → reads_of bs ≤ n
reads_within n [] r = omega arith
reads_within n (b ∷ []) r = omega (arith, r)
reads_within n (b ∷ p ∷ bs) r = r.0

-- a call comes
module _ (v : View) (e new : Core) (call : Call) (again : Bool) (t : Stands v e) (stays : StaysOn e new) (settled : IsSettled new) (asks : new.waits ≡ asked new) (order : new.stage ≡ stage_at e call again) where
  abbrev pub start : Start
  start = record { view = v; engine = e; call = call; again = again }

  pub comes : IsMid start v (came e call again) new
  comes =
      let le : v.looks ≤ v.looks = omega arith in
      let snap : new.snapshot ≡ e.snapshot = stays.snapshot in
      let clock_is : in_transaction e ≡ true → e.clock ≡ e.snapshot = λ o. (t.settled.inside t.waits o).0 in
      let follows : in_transaction e ≡ true → Follows v (came e call again) = λ o. (let r = t.reads o in record { clock = r.clock ∙ sym (clock_is o); count = r.count ∙ ap (λ (n : ℕ). n / 2) (sym (clock_is o)) }) in
      let old : in_transaction e ≡ true → Agrees (memory_of v (new.snapshot / 2)) e.log = λ o. subst (λ (n : ℕ). Agrees (memory_of v (n / 2)) e.log) (sym snap) (t.reads o).agrees in
      record {
        over = t.over;
        kept = keeps_self (came e call again);
        went = record { base = refl; share = refl; grows = starts_self v.seen; looks = le; high = (let r : v.high ≤ v.high = omega arith in r) };
        behind = t.behind;
        known = t.known;
        rises = (let r : e.clock ≤ e.clock = omega arith in r);
        holds = t.holds;
        fresh = λ m l st. tt;
        before = λ o. (let r = t.reads o in let count = r.count in record {
          seen = omega arith;
          agrees = λ same. old o;
          late = omega arith;
          from = omega arith;
          log = starts_self e.log;
        });
        empty = λ c. (t.settled.closed c).0;
        clocks = λ o. follows (stays.opens o);
        clock = λ o. (follows o).clock;
        logged = λ o. subst (Agrees (memory_of v (new.snapshot / 2))) (sym (stays.log o)) (old (stays.opens o));
        holding = λ h i. absurd (both e.holds h (t.mode ∙ i));
        freed = λ f. absurd (cc);
        mine = λ f. refl;
        looked = λ f. inl refl;
        taken = λ h i. absurd (both e.holds h (t.mode ∙ i));
        first = λ o. (t.reads o).clock;
        read = λ r. reads_within (length e.log) e.blocks (t.settled.reads r);
        shut = λ c. record { revocable = shut_revocable e t.settled c; writes = (t.settled.closed c).1 };
        settled = settled;
        asks = asks;
        idle = λ z. (asks ∙ ap (asked_from new) (order ∙ z), refl, stays.snapshot);
        fixed = λ x. stays.snapshot;
        grows = λ o o' same. record { snapshot = omega arith; log = inl (subst (λ (l : List LogRow). (rest : List LogRow) × (l ≡ e.log ++ rest)) (sym (stays.log o')) (starts_self e.log)); looks = inl (stays.log o'); agrees = old o };
        opens = λ o o'. absurd (both (in_transaction e) (stays.opens o') o);
        steps = omega arith;
        spent = omega arith;
      }

  pub comes_tried : new.tries ≡ tries_at new.stage → Tried start v (came e call again) new
  comes_tried tries = record {
    tried = (let a = first_tries new.stage in let r : v.looks + new.tries ≤ v.looks + pending new.stage = omega arith in r);
    opening = λ c n. subst IsOpening (sym order) (first_opens e call again c (λ z. n (order ∙ z)));
    loads = λ before row x. absurd (no_last before row x);
  }

  pub comes_held : (what : Next) → Proceeds (came e call again) what new → (e.irrevocable ≡ true → ComesHeld e call what new) → e.irrevocable ≡ true → IsHeldMid start v what new
  comes_held what g held_by i = record {
    comes = held_by i (held_words v) (held_memory e.words v t.over);
    got = λ word value is. none_got (came e call again) new what g refl word value (held_words v) is;
  }

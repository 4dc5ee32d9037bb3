-- The engine that a call's answer comes of.
use Rattle.std.proofs.Common.{◌≡◌, ◌∙◌, inl, inr, ℕ, ◌/◌, Bool, true, false, List, [], ◌∷◌, Option, None, Some, IsSome, ap, refl, subst, sym, true≢false}
use Rattle.transactions.proofs.Common.{Answer, Call, Core, Ends, Idle, IsAnswered, IsMemory, Proceeds, Replied, Replies, Reply, Standing, Start, StaysOn, View, Words, arena_after, asked_from, came, cells_of, handed_is, handed_to, in_transaction, irrevocable_room, is_memory, keeps_asked, keeps_self, keeps_twice, memory_of, stage_at, start_of, view_of, writes_after}
use Rattle.itm_types.specs.declared.step.Step.{Step}
use Rattle.norec_core.specs.declared.answer.Next.{Next}
use Rattle.norec_core.specs.declared.answer.Next.TheVariants.{Step as Asks, Answer as Answers}
use Rattle.norec_core.specs.Keeps.{Keeps}
use Rattle.norec_core.specs.Moves.{IsCalled}
use Rattle.norec_core.proofs.Replies.ReplyCases.{reply_cases}
use Rattle.call_rules.specs.Drives.{Drives, IsDriven, LeadsOn}

-- it has kept what the call came with
pub record IsLast (s : Start) (a : Answer) (e : Core) : Type 0 where
  pub mid : Core
  pub kept : Keeps (came s.engine s.call s.again) mid
  pub ends : Ends mid a e

module _ (s : Start) where
  abbrev from : Core
  from = came s.engine s.call s.again

  abbrev Due : Core → Next → Type 0
  Due e (Asks step) = Keeps from e × (e.waits ≡ Some step)
  Due e (Answers a) = IsLast s a e

  due_of : (mid e : Core) (next : Next) → Keeps from mid → Proceeds mid next e → Due e next
  due_of mid e (Asks step) k g = (keeps_twice from mid e k (keeps_asked mid e step g), ap (λ (c : Core). c.waits) g.stays)
  due_of mid e (Answers a) k g = record { mid = mid; kept = k; ends = g }

  due_on : (cells : ℕ) (steps : List (Step × ℕ)) (v v' : View) (e e' : Core) (next next' : Next) → Due e next → LeadsOn cells v e next steps v' e' next' → Due e' next'
  due_on cells [] v v' e e' next next' due l = subst (λ (x : Core × Next). Due x.0 x.1) (λ i. (sym l.1 i, sym l.2 i)) due
  due_on cells (done ∷ rest) v v' e e' (Asks step) next' due l =
      let d : Drives cells v e done l.1 l.2 l.3 = l.4 in
      let mid = handed_to e (Some step) done.1 in
      due_on cells rest l.1 v' l.2 e' l.3 next'
      (due_of mid l.2 l.3 (keeps_twice from e mid due.0 (handed_is e step done.1).keeps) (subst (λ (o : Option Step). Proceeds (handed_to e o done.1) l.3 l.2) due.1 d.resumed.proceeds)) l.5
  due_on cells (done ∷ rest) v v' e e' (Answers b) next' due l = absurd l

  pub last_of : (cells : ℕ) (a : Answer) (v : View) (e : Core) → IsDriven cells s a v e → IsLast s a e
  last_of cells a v e d = due_on cells d.steps s.view v d.came e d.first (Answers a) (due_of from d.came d.first (keeps_self from) d.called.proceeds) d.leads

-- ## A call that takes no step

-- it is answered as it comes
pub record IsSaidAtOnce (s : Start) (a : Answer) (e : Core) : Type 0 where
  pub ends : Ends (came s.engine s.call s.again) a e
  pub stays : StaysOn s.engine e

module _ (cells : ℕ) (s : Start) (a : Answer) (v : View) (e : Core) (idle : stage_at s.engine s.call s.again ≡ Idle) where
  no_step : (step : Step) (c : Core) → IsCalled s.engine s.call s.again (Asks step) c → ⊥
  no_step step c called =
      let stage : c.stage ≡ Idle = called.order ∙ idle in
      let none : c.waits ≡ None = called.asks ∙ ap (asked_from c) stage in
      let some : c.waits ≡ Some step = ap (λ (x : Core). x.waits) called.proceeds.stays in
      true≢false (sym (subst IsSome (sym some ∙ none) refl))

  by_first : (first : Next) (c : Core) (steps : List (Step × ℕ)) → IsCalled s.engine s.call s.again first c → LeadsOn cells s.view c first steps v e (Answers a) → IsSaidAtOnce s a e
  by_first (Asks step) c steps called l = absurd (no_step step c called)
  by_first (Answers b) c (done ∷ rest) called l = absurd l
  by_first (Answers b) c [] called l = record {
    ends = subst (λ (x : Core × Next). Proceeds (came s.engine s.call s.again) x.1 x.0) (λ i. (sym l.1 i, sym l.2 i)) called.proceeds;
    stays = subst (StaysOn s.engine) (sym l.1) called.stays;
  }

  pub at_once : IsDriven cells s a v e → IsSaidAtOnce s a e
  at_once d = by_first d.first d.came d.steps d.called d.leads

-- ## A reply

module _ (words : Words) (t new : Standing) (call : Call) (again : Bool) (r : Replied) (a : IsAnswered words (start_of t call again) (Reply r) new.pass new.engine) (is : t.engine.irrevocable ≡ false) (goes : (c : Core) → irrevocable_room c call ≡ None) where
  abbrev e : Core
  e = new.engine

  abbrev v : View
  v = view_of new.pass

  abbrev s : Start
  s = start_of t call again

  pub last : IsLast s (Reply r) e
  last = last_of s (cells_of words) (Reply r) v e a.driven

  abbrev pub mid : Core
  mid = last.mid

  pub replied_of : (l : IsLast s (Reply r) e) → Replies l.mid call r e
  replied_of l = elim (reply_cases l.mid e call r l.kept.doing l.ends) [
    | inl g ↦ g
    | inr (inl g) ↦ absurd (true≢false (sym (subst IsSome (goes l.mid) g.goes)))
    | inr (inr g) ↦ absurd (true≢false (sym g.irrevocable ∙ l.kept.irrevocable ∙ is))
  ]

  pub replied : Replies mid call r e
  replied = replied_of last

  abbrev pub m : List ℕ
  m = memory_of v (e.snapshot / 2)

  fits : IsMemory mid.words m
  fits = subst (λ (n : ℕ). IsMemory n m) (a.served.words ∙ sym last.kept.words) (is_memory e.words v a.stands.over (e.snapshot / 2))

  module _ (o : in_transaction e ≡ true) where
    pub arena_left : e.arena ≡ arena_after mid m call r
    arena_left = replied.arena m fits (a.stands.reads o).agrees

    pub writes_left : e.writes ≡ writes_after mid m call r
    writes_left = replied.writes m fits (a.stands.reads o).agrees

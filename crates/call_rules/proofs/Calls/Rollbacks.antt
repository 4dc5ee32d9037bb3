-- A thread whose transaction is given up.
use Rattle.std.proofs.Common.{inl, inr, ◌≡◌, Bool, false, [], refl, sym, ap, subst, ◌∙◌, if◌then◌else◌}
use Rattle.call_rules.proofs.Common.{Core, Idle, Stands, View, cases_Bool, rolled_back}
use Rattle.norec_core.specs.Undoing.{after_undoing}

-- the engine outside
abbrev outside : Core → Core
outside e = record (rolled_back e) { stage = Idle; tries = 0 }

rolled : (v : View) (e : Core) → Stands v e → e.holds ≡ false → ((outside e).actions.commits ≡ []) × ((outside e).actions.undos ≡ []) → Stands v (outside e)
rolled v e t free none = record {
  over = t.over;
  holds = t.holds ∙ free;
  mode = refl;
  waits = refl;
  behind = t.behind;
  known = t.known;
  settled = record {
    closed = λ c. (refl, refl, none.0, none.1);
    reached = t.settled.reached;
    logged = record { within = tt; single = tt; fit = tt };
    agreed = (t.settled.agreed.0, t.settled.agreed.1, tt);
    inside = λ w o. absurd (cc);
    unfreed = refl;
    even = t.settled.even;
    holder = λ h. absurd (cc);
    limit = t.settled.limit;
    reads = λ r. tt;
    few = t.settled.few;
    deep = t.settled.deep;
    irrevocable = λ i. absurd (cc);
  };
  reads = λ o. absurd (cc);
}

pub stands_undone : (v : View) (e new : Core) → Stands v e → new ≡ after_undoing e → (e.holds ≡ false → (new.actions.commits ≡ []) × (new.actions.undos ≡ [])) → Stands v new
stands_undone v e new t is none = elim (cases_Bool e.holds) [
  | inl h ↦ subst (Stands v) (sym (is ∙ ap (λ (b : Bool). if b then e else outside e) h)) t
  | inr h ↦
      (let now : new ≡ outside e = is ∙ ap (λ (b : Bool). if b then e else outside e) h in
      let left : ((outside e).actions.commits ≡ []) × ((outside e).actions.undos ≡ []) = subst (λ (c : Core). (c.actions.commits ≡ []) × (c.actions.undos ≡ [])) now (none h) in
      subst (Stands v) (sym now) (rolled v e t h left))
]

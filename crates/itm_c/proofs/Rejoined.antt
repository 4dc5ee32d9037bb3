-- A pass that is cut from another and joined to it again.
use Rattle.std.proofs.Common.{◌≡◌, ℕ, ◌+◌, ◌-◌, ◌<◌, ◌⊎◌, ◌∙◌, subst, inl, inr, arith, append-nil, max}
use Rattle.itm_c.proofs.Common.{Client, view_of}
use Rattle.shared_words.{specs.Commits.StartsWith, specs.Steps.Joined, specs.Views.cut_left, specs.Views.cut_right, specs.declared.view.View.View}
use Rattle.itm_c.{specs.Seats.Enters, specs.Seats.IsUnused, specs.Seats.Leaves, specs.declared.root.Root.Root}

either : {A : Type 0} → (s t : A) (P Q : Type 0) → (P × (t ≡ s)) ⊎ (Q × (t ≡ s)) → t ≡ s
either s t P Q (inl p) = p.1
either s t P Q (inr p) = p.1

same_max : (n : ℕ) → max n n ≡ n
same_max n = omega arith

same_share : (n : ℕ) → 0 < n → n - 1 + 1 ≡ n
same_share n some = omega arith

pub rejoined : (v w : View) → 0 < v.share → Joined (cut_left v) (cut_right v) w → IsUnused v w
rejoined v w some j = λ i. record {
  base = j.base i;
  seen = either v.seen w.seen (StartsWith v.seen v.seen) (StartsWith v.seen v.seen) j.longer i;
  shorter = w.shorter;
  mine = (j.mine ∙ append-nil v.mine) i;
  high = (j.high ∙ same_max v.high) i;
  clock = j.clock i;
  fresh = j.fresh i;
  met = (j.met ∙ append-nil v.met) i;
  holds = j.holds i;
  done = j.done i;
  steps = j.steps i;
  looks = j.looks i;
  share = (j.share ∙ same_share v.share some) i;
}

-- the same of a thread that has entered and left at once
pub left_again : (r s t : Root) (c : Client) → 0 < (view_of r.pass).share → Enters r s c → Leaves s c t → IsUnused (view_of r.pass) (view_of t.pass)
left_again r s t c some e l =
    rejoined (view_of r.pass) (view_of t.pass) some (subst (λ (u : View). Joined (cut_left (view_of r.pass)) u (view_of t.pass)) e.seat (subst (λ (u : View). Joined u (view_of c.thread.pass) (view_of t.pass)) e.left l.joined))

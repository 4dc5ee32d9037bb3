-- What is answered where the transaction goes on.
use Rattle.std.proofs.Common.{◌≡◌, ℕ, Bool, Option, None, Some, refl, sym, ap, subst}
use Rattle.itm_runtime.proofs.Common.{Answer, Busy, Call, Commit, Committed, Conflict, Core, Full, GoesOn, Refusal, Replied, Reply, Restarted, Served, Start, View, reply_unless}
use Rattle.itm_runtime.specs.declared.stop.Stop.TheVariants as stops

-- what is so of a reply and of a commit
pub on_answer : (F : Answer → Type 0) (a : Answer) → GoesOn a → ((r : Replied) → GoesOn (Reply r) → F (Reply r)) → ((at : ℕ) (wrote : Bool) → F (Committed at wrote)) → F a
on_answer F (Reply r) on reply commit = reply r on
on_answer F (Committed at wrote) on reply commit = commit at wrote
on_answer F (Conflict clock word) on reply commit = absurd (on (stops.Conflict clock word) refl)
on_answer F (Restarted clock word) on reply commit = absurd (on (stops.Restarted clock word) refl)
on_answer F (Busy clock) on reply commit = absurd (on (stops.Busy clock) refl)
on_answer F (Full at) on reply commit = absurd (on (stops.Full at) refl)

-- any other call than a commit
abbrev pub NoCommit : Call → Type 0
NoCommit Commit = ⊥
NoCommit call = Unit {0}

-- is answered by a reply
pub on_reply : (F : Answer → Type 0) (s : Start) (a : Answer) (v : View) (e : Core) → NoCommit s.call → Served s a v e → GoesOn a → ((r : Replied) → GoesOn (Reply r) → Served s (Reply r) v e → F (Reply r)) → F a
on_reply F s a v e other served on reply =
    on_answer (λ (x : Answer). Served s x v e → F x) a on reply (λ at wrote now. absurd (subst NoCommit now.tells.call other)) served

-- which refuses nothing
pub unrefused : (r code : Replied) (why : Option Refusal) → r ≡ reply_unless why code → GoesOn (Reply r) → Reply r ≡ Reply code
unrefused r code (Some why) e on = absurd (on (stops.Refused why) (ap (λ (x : Replied). Some (Reply x)) (sym e)))
unrefused r code None e on = ap Reply e

-- What a call that comes, and its answer, leave of the places that the list of an irrevocable transaction's calls promises.
use Rattle.std.proofs.Common.{◌≡◌, ℕ, ◌+◌, ◌-◌, ◌≤◌, max, Bool, true, false, if◌then◌else◌, Option, None, Some, is_some, unwrap_or, refl, sym, ap, subst, ◌∙◌, inl, inr, arith}
use Rattle.run_rules.proofs.Common.{Answer, Call, Core, Ends, IsRestart, IsSettled, Replied as Reply, Reply as Replied, came, cases_Bool, goes_in, in_transaction, irrevocable_room, none_asked, promised, promised_held, promised_none, reply_cases, rests, room_left, wanted}
use Rattle.run_rules.proofs.HeldRooms.{goes_in_same}
use Rattle.run_rules.proofs.IrrevocableCalls.{asks_no_room, goes_same, left_least, plain_goes}

-- ## An answer

-- what an answer leaves
pub record LeavesBacked (mid new : Core) : Type 0 where
  pub adds : (room : ℕ) → room ≤ max (promised mid) (wanted mid + 1) → room - 1 ≤ promised new
  pub opens : (room : ℕ) → room ≡ wanted mid → room ≤ promised new

-- a call that does not make it so wants nothing
pub wanted_as : (c : Core) (call : Call) → c.doing ≡ Some call → wanted c ≡ unwrap_or (irrevocable_room c call) 0
wanted_as c call doing = ap (λ (o : Option Call). unwrap_or (goes_in c o) 0) doing

pub wanted_none : (c : Core) (call : Call) → c.doing ≡ Some call → is_some (irrevocable_room c call) ≡ false → wanted c ≡ 0
wanted_none c call doing is = wanted_as c call doing ∙ none_asked (irrevocable_room c call) is

module _ (mid new : Core) (call : Call) (doing : mid.doing ≡ Some call) (backed : wanted mid ≤ mid.room) (settled : IsSettled new) where
  -- a reply
  pub reply_backed : (r : Replied) → Ends mid (Reply r) new → LeavesBacked mid new
  reply_backed r g = elim (reply_cases mid new call r doing g) [
    | inl w ↦
        (let none = promised_none mid w.revocable in
        let nothing = wanted_none mid call doing (plain_goes mid new call r w settled) in
        record { adds = λ room few. omega arith; opens = λ room few. omega arith })
    | inr (inl w) ↦
        (let none = promised_none mid w.revocable in
        let most = promised_held new (ap (λ (c : Core). c.irrevocable) w.stays) in
        let same : new.room ≡ mid.room = ap (λ (c : Core). c.room) w.stays in
        record { adds = λ room few. omega arith; opens = λ room few. omega arith })
    | inr (inr w) ↦
        (let was = promised_held mid w.irrevocable in
        let nothing = wanted_none mid call doing (ap (is_some {T = ℕ}) (asks_no_room mid call w.irrevocable)) in
        let most = promised_held new (ap (λ (c : Core). c.irrevocable) w.stays ∙ w.irrevocable) in
        let left : new.room ≡ room_left mid call r = ap (λ (c : Core). c.room) w.stays in
        let least = left_least mid call r in
        record { adds = λ room few. omega arith; opens = λ room few. omega arith })
  ]

  -- where the transaction is open after it
  pub leaves_backed : (answer : Answer) → Ends mid answer new → (IsRestart answer → ⊥) → in_transaction new ≡ true → LeavesBacked mid new
  leaves_backed answer g stays now =
      elim ((rests mid new answer g).replies now) [ inl reply ↦ reply_backed reply.0 (subst (λ (a : Answer). Ends mid a new) reply.1 g) | inr back ↦ absurd (stays back) ]

-- ## A call comes, and goes on

-- nothing changes while it goes on
pub promised_same : (c d : Core) → c.irrevocable ≡ d.irrevocable → c.room ≡ d.room → promised c ≡ promised d
promised_same c d h room = λ i. if h i then room i else 0

pub wanted_same : (c d : Core) → c.depth ≡ d.depth → c.blocks ≡ d.blocks → c.irrevocable ≡ d.irrevocable → c.doing ≡ d.doing → wanted c ≡ wanted d
wanted_same c d deep b h doing = λ i. unwrap_or ((goes_in_same c d c.doing deep b h ∙ ap (goes_in d) doing) i) 0

-- as it comes
pub promised_came : (c : Core) (call : Call) (again : Bool) → promised (came c call again) ≡ promised c
promised_came c call again = elim (cases_Bool c.irrevocable) [
  | inl e ↦ promised_held (came c call again) e ∙ (ap (λ (o : Option ℕ). unwrap_or o c.room) (asks_no_room c call e) ∙ sym (promised_held c e))
  | inr e ↦ promised_none (came c call again) e ∙ sym (promised_none c e)
]

pub wanted_came : (c : Core) (call : Call) (again : Bool) → wanted (came c call again) ≡ unwrap_or (irrevocable_room c call) 0
wanted_came c call again = ap (λ (o : Option ℕ). unwrap_or o 0) (goes_same (came c call again) c call refl refl refl)

pub backed_came : (c : Core) (call : Call) (again : Bool) → wanted (came c call again) ≤ (came c call again).room
backed_came c call again = (let asked = wanted_came c call again in let most = by_room (irrevocable_room c call) in omega arith)
  where
    by_room : (o : Option ℕ) → unwrap_or o 0 ≤ unwrap_or o c.room
    by_room (Some room) = omega arith
    by_room None = omega arith

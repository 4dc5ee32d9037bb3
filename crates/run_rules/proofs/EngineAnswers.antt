-- What an engine's answer leaves of its blocks.
use Rattle.std.proofs.Common.{◌≡◌, ℕ, Bool, true, false, List, length, None, Option, Some, refl, sym, ap, subst, ◌∙◌, arith}
use Rattle.run_rules.proofs.Common.{Answer, AnswerFits, Begin, Busy, Call, Commit, Committed, Conflict, ConflictsIn, Core, Ends, Frame, Full, IsBegin, IsSettled, Mode, Replied as Reply, Restarted, WantsClock, in_transaction, is_begin, none_inside, replied_so, reply_cases}
use Rattle.run_rules.{proofs.EngineDepths.reply_fits, proofs.RestartedEngines.is_back}

-- what is full is a commit, or a call that makes the transaction irrevocable; outside a transaction a begin
wants_begin : (c : Core) (call : Call) → WantsClock c (Some call) → in_transaction c ≡ false → is_begin call ≡ true
wants_begin c (Begin props room) w shut = refl
wants_begin c Commit w shut = absurd (let none = ap (λ (bs : List Frame). length bs) (none_inside c.blocks shut) in omega (arith, w.0, none))
wants_begin c (Mode room) w shut = absurd (let none = rw shut at w in cc)
wants_begin c call w shut = absurd (cc)

begin_is : (doing : Option Call) (call : Call) → doing ≡ Some call → IsBegin doing → is_begin call ≡ true
begin_is None call d b = absurd b
begin_is (Some (Begin props room)) call d b = (let same : Begin props room ≡ call = cc in sym (ap is_begin same))
begin_is (Some other) call d b = absurd b

module _ (mid new : Core) (settled : IsSettled new) where
  conflict_fits : (call : Call) (clock : ℕ) (word : Option ℕ) (inside : Bool) → mid.doing ≡ Some call → ConflictsIn inside mid clock word new → (inside ≡ false → is_begin call ≡ true) × (in_transaction new ≡ false)
  conflict_fits call clock word true doing g = (λ shut. absurd (cc), ap in_transaction g.stays)
  conflict_fits call clock word false doing g = (λ shut. begin_is mid.doing call doing g.begins, ap in_transaction g.stays)

  pub answer_fits : (call : Call) (a : Answer) → mid.doing ≡ Some call → Ends mid a new → AnswerFits (in_transaction mid) (length mid.blocks) (in_transaction new) (length new.blocks) call a
  answer_fits call (Reply r) doing g =
      let told = replied_so mid new call r (reply_cases mid new call r doing g) in
      (sym (reply_fits mid call r) ∙ told.deep, told.still)
  answer_fits call (Committed at wrote) doing g =
      let same : Some call ≡ Some Commit = sym doing ∙ g.doing in
      let is : call ≡ Commit = cc in
      (g.is_open, ap in_transaction g.stays, is, g.outermost)
  answer_fits call (Conflict clock word) doing g = conflict_fits call clock word (in_transaction mid) doing g
  answer_fits call (Restarted clock word) doing g = (let b = is_back mid new clock word settled g in (b.was, b.still, sym b.deep, b.inner))
  answer_fits call (Busy clock) doing g = (g.closed, ap in_transaction g.stays)
  answer_fits call (Full at) doing g = (wants_begin mid call (subst (WantsClock mid) doing g.wants), ap in_transaction g.stays)

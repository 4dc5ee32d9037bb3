-- What a call of an open transaction found, over the memory of the position that it comes to.
use Rattle.std.proofs.Common.{◌≡◌, ℕ, ◌/◌, ◌&&◌, Bool, true, false, not, List, refl, ap, subst, ◌∙◌, arith}
use Rattle.worker_rules.proofs.Common.{Agrees, Answer, Core, IsMemory, MayRead, Meets, ReadsFrom, Replied, Reply, Served, Stands, Start, View, came_over, in_transaction, is_memory, left_over, memory_in, memory_of, reply, stands_for, stood, told_plainly}
use Rattle.worker_rules.proofs.Runs.LaterCommits.{memory_later}
use Rattle.norec_core.specs.Effects.{recoded}

-- the words that an engine stands over
in_stood : (b : Bool) (holder v : View) (k : ℕ) → memory_in b holder v k ≡ stood b holder (memory_of v k)
in_stood true holder v k = refl
in_stood false holder v k = refl

-- the call came over those
pub came_stood : (s : Start) (v : View) (e : Core) → came_over s v e ≡ stood s.engine.irrevocable s.view (memory_of v (e.snapshot / 2))
came_stood s v e = in_stood s.engine.irrevocable s.view v (e.snapshot / 2)

module _ (s : Start) (v : View) (e : Core) (before : Stands s.view s.engine) (stands : Stands v e) (inside : in_transaction s.engine ≡ true) where
  -- the memory of its position is one that the attempt may have read before
  pub position_read : (a : Answer) → Served s a v e → Agrees (memory_of v (e.snapshot / 2)) s.engine.log → MayRead s.view s.engine (memory_of v (e.snapshot / 2))
  position_read a served agrees = (subst (λ (n : ℕ). IsMemory n (memory_of v (e.snapshot / 2))) served.words (is_memory e.words v stands.over (e.snapshot / 2)), by_mode s.engine.irrevocable refl)
    where
      by_mode : (b : Bool) → s.engine.irrevocable ≡ b → ReadsFrom b (memory_of s.view (s.engine.snapshot / 2)) s.engine.log (memory_of v (e.snapshot / 2))
      by_mode false was = agrees
      by_mode true was =
          let fixed = served.fixed was in
          let count = (before.reads inside).count in
          memory_later s.view v served.went (e.snapshot / 2) (omega arith) ∙ ap (λ (n : ℕ). memory_of s.view (n / 2)) fixed

  module _ (r : Replied) (served : Served s (Reply r) v e) where
    -- from the one memory to the other the call was the plain machine's
    pub met_here : Meets s r e (stood s.engine.irrevocable s.view (memory_of v (e.snapshot / 2))) (stood e.irrevocable v (memory_of v (e.snapshot / 2)))
    met_here =
        let from : Meets s r e (stood s.engine.irrevocable s.view (memory_of v (e.snapshot / 2))) (left_over v e) = subst (λ (m : List ℕ). Meets s r e m (left_over v e)) (came_stood s v e) served.tells.here in
        subst (Meets s r e (stood s.engine.irrevocable s.view (memory_of v (e.snapshot / 2)))) (in_stood e.irrevocable v v (e.snapshot / 2)) from

  -- ## The reply

  module _ (r : Replied) (first_time : s.again ≡ false) (m left : List ℕ) (told : Meets s r e m left) where
    pub told_plain : r ≡ reply s.engine.depth (stands_for s.engine m) s.call
    told_plain =
        let plain : Replied = reply s.engine.depth (stands_for s.engine m) s.call in
        told.reply_is ∙ (ap (λ (b : Bool). recoded s.call (b && not (in_transaction s.engine)) plain) first_time ∙ told_plainly s.call plain)

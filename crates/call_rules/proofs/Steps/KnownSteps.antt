-- Steps that were done one after another, as what they lead to.
use Rattle.std.proofs.Common.{◌≡◌, ℕ, List, [], ◌∷◌, refl, ap}
use Rattle.call_rules.proofs.Common.{Answer, Answers, Asks, Core, Finds, Finishes, IsOver, IsResumed, LeadsOn, Next, Owns, Pass, Step, StepTells, View, Words, cells_of, view_of}
use Rattle.shared_words.specs.Moves.{Moves}

-- the step that is asked for was done, and the engine was handed what it found
module _ {v w : View} {e : Core} {done asks : Step} {found : ℕ} (is : done ≡ asks) (moves : Moves v done found w) (turn : StepTells v done found w) where
  pub leads_then : {cells : ℕ} {mid : Core} {next : Next} → IsOver cells w → IsResumed e found next mid → (rest : List (Step × ℕ)) (x : View) (new : Core) (last : Next) → LeadsOn cells w mid next rest x new last → LeadsOn cells v e (Asks asks) ((done, found) ∷ rest) x new last
  leads_then {mid = mid} {next = next} over resumed rest x new last l = (is, w, mid, next, record { stepped = record { turn = turn; moves = moves }; over = over; resumed = resumed }, l)

  pub leads_last : {cells : ℕ} {mid : Core} {next : Next} → IsOver cells w → IsResumed e found next mid → LeadsOn cells v e (Asks asks) ((done, found) ∷ []) w mid next
  leads_last {mid = mid} {next = next} over resumed = leads_then over resumed [] w mid next (refl, refl, refl)

module _ {A : Type 0} {words : Words A} {v : View} {e : Core} {done asks : Step} {found : ℕ} {on : Pass} (is : done ≡ asks) (moves : Moves v done found (view_of on)) (turn : StepTells v done found (view_of on)) (own : Owns words on) where
  -- nothing has been handed to the engine yet
  pub finds_first : IsOver (cells_of words) v → Finds words v e (Asks asks) found on e
  finds_first over = record { own = own; steps = []; before = v; step = done; over = over; leads = (refl, refl, ap Asks is); stepped = record { turn = turn; moves = moves } }

  -- or it was the last one
  pub last_finishes : {mid : Core} {a : Answer} → IsResumed e found (Answers a) mid → Finishes words v e (Asks asks) a on mid
  last_finishes resumed = record { own = own; steps = (done, found) ∷ []; leads = leads_last is moves turn own.over resumed }

  -- other steps were done after it
  module _ {mid new : Core} {next : Next} {pass : Pass} (resumed : IsResumed e found next mid) where
    pub then_finds : {n : ℕ} → Finds words (view_of on) mid next n pass new → Finds words v e (Asks asks) n pass new
    then_finds f = record { own = f.own; steps = (done, found) ∷ f.steps; before = f.before; step = f.step; over = f.over; leads = leads_then is moves turn own.over resumed f.steps f.before new (Asks f.step) f.leads; stepped = f.stepped }

    pub then_finishes : {a : Answer} → Finishes words (view_of on) mid next a pass new → Finishes words v e (Asks asks) a pass new
    then_finishes {a = a} f = record { own = f.own; steps = (done, found) ∷ f.steps; leads = leads_then is moves turn own.over resumed f.steps (view_of pass) new (Answers a) f.leads }

-- The begins of open blocks, as blocks begin, close, are cancelled or go back.
use Rattle.std.proofs.Common.{◌≡◌, ℕ, ◌≤◌, true, false, List, [], ◌∷◌, length, take, drop, length-append, refl, sym, subst, arith}
use Rattle.norec_turns.proofs.Common.{Action, ActionKind, Actions, AreBegun, AreRead, Frame, HasBegun, LogRow, Old, Row, actions_cancelled, begun, closed, is_inside, length-take-le, logged, no_actions, reads_of, registered, renewed}
use Rattle.itm_types.specs.declared.call.Props.{Props}
use Rattle.itm_types.specs.declared.call.ActionKind.TheVariants as kinds

has_more : (r c u r' c' u' : ℕ) (b : Frame) → r ≤ r' → c ≤ c' → u ≤ u' → HasBegun r c u b → HasBegun r' c' u' b
has_more r c u r' c' u' b hr hc hu h = record { read = omega (arith, h.read); to_commit = omega (arith, h.to_commit); to_undo = omega (arith, h.to_undo); revocable = h.revocable }

-- more may be read and registered
pub begun_more : (r c u r' c' u' : ℕ) (bs : List Frame) → r ≤ r' → c ≤ c' → u ≤ u' → AreBegun r c u bs → AreBegun r' c' u' bs
begun_more r c u r' c' u' [] hr hc hu h = tt
begun_more r c u r' c' u' (b ∷ []) hr hc hu h = (has_more r c u r' c' u' b hr hc hu h.0, h.1)
begun_more r c u r' c' u' (b ∷ p ∷ bs) hr hc hu h = (has_more r c u r' c' u' b hr hc hu h.0, h.1)

pub begun_read : (r r' c u : ℕ) (bs : List Frame) → r ≤ r' → AreBegun r c u bs → AreBegun r' c u bs
begun_read r r' c u bs l h = begun_more r c u r' c u bs l (omega arith) (omega arith) h

-- what is logged of the arena is of no account
pub begun_logged : (r c u : ℕ) (bs : List Frame) (olds : List Old) → AreBegun r c u bs → AreBegun r c u (logged bs olds)
begun_logged r c u [] olds h = h
begun_logged r c u (b ∷ []) olds h = (record { read = h.0.read; to_commit = h.0.to_commit; to_undo = h.0.to_undo; revocable = h.0.revocable }, h.1)
begun_logged r c u (b ∷ p ∷ bs) olds h = (record { read = h.0.read; to_commit = h.0.to_commit; to_undo = h.0.to_undo; revocable = h.0.revocable }, h.1)

-- the blocks around the innermost one
around : (r c u : ℕ) (b p : Frame) (bs : List Frame) → HasBegun r c u b → AreBegun b.reads b.commits b.undos (p ∷ bs) → AreBegun r c u (p ∷ bs)
around r c u b p bs h rest = begun_more b.reads b.commits b.undos r c u (p ∷ bs) h.read h.to_commit h.to_undo rest

pub begun_closed : (r c u : ℕ) (bs : List Frame) → AreBegun r c u bs → AreBegun r c u (closed bs)
begun_closed r c u [] h = tt
begun_closed r c u (b ∷ []) h = tt
begun_closed r c u (b ∷ p ∷ []) h = (let k = around r c u b p [] h.0 h.1 in (record { read = k.0.read; to_commit = k.0.to_commit; to_undo = k.0.to_undo; revocable = k.0.revocable }, k.1))
begun_closed r c u (b ∷ p ∷ q ∷ bs) h = (let k = around r c u b p (q ∷ bs) h.0 h.1 in (record { read = k.0.read; to_commit = k.0.to_commit; to_undo = k.0.to_undo; revocable = k.0.revocable }, k.1))

-- the innermost block is cancelled, with what it registered
pub begun_cancelled : (r : ℕ) (a : Actions) (bs : List Frame) → AreBegun r (length a.commits) (length a.undos) bs
    → AreBegun r (length (actions_cancelled bs a).commits) (length (actions_cancelled bs a).undos) (drop 1 bs)
begun_cancelled r a [] h = tt
begun_cancelled r a (b ∷ []) h = tt
begun_cancelled r a (b ∷ p ∷ bs) h =
    let commits = length-take-le b.commits a.commits h.0.to_commit in
    let undos = length-take-le b.undos a.undos h.0.to_undo in
    begun_more b.reads b.commits b.undos r (length (take b.commits a.commits)) (length (take b.undos a.undos)) (p ∷ bs) h.0.read (omega (arith, commits)) (omega (arith, undos)) h.1

-- or goes back to its begin
pub begun_renewed : (log : List LogRow) (a : Actions) (bs : List Frame) → AreBegun (length log) (length a.commits) (length a.undos) bs
    → AreBegun (length (take (reads_of bs) log)) (length (actions_cancelled bs a).commits) (length (actions_cancelled bs a).undos) (renewed bs)
begun_renewed log a [] h = tt
begun_renewed log a (b ∷ []) h =
    let reads = length-take-le b.reads log h.0.read in
    let commits = length-take-le b.commits a.commits h.0.to_commit in
    let undos = length-take-le b.undos a.undos h.0.to_undo in
    (record { read = omega (arith, reads); to_commit = omega (arith, commits); to_undo = omega (arith, undos); revocable = h.0.revocable }, h.1)
begun_renewed log a (b ∷ p ∷ bs) h =
    let reads = length-take-le b.reads log h.0.read in
    let commits = length-take-le b.commits a.commits h.0.to_commit in
    let undos = length-take-le b.undos a.undos h.0.to_undo in
    (record { read = omega (arith, reads); to_commit = omega (arith, commits); to_undo = omega (arith, undos); revocable = h.0.revocable }, h.1)

-- a block begins within others
pub begun_within : (r : ℕ) (props : Props) (rows : List Row) (a : Actions) (bs : List Frame) → props.goes_irrevocable ≡ false → is_inside bs ≡ true → AreBegun r (length a.commits) (length a.undos) bs
    → AreBegun r (length a.commits) (length a.undos) (begun props rows a r ∷ bs)
begun_within r props rows a [] goes inside h = absurd (cc)
begun_within r props rows a (b ∷ bs) goes inside h = (record { read = omega arith; to_commit = omega arith; to_undo = omega arith; revocable = goes }, h)

-- and outside
pub begun_first : (props : Props) → props.goes_irrevocable ≡ false → AreBegun 0 0 0 (begun props [] no_actions 0 ∷ [])
begun_first props goes = (record { read = omega arith; to_commit = omega arith; to_undo = omega arith; revocable = goes }, refl)

pub are_read : (r c u : ℕ) (bs : List Frame) → AreBegun r c u bs → AreRead r bs
are_read r c u [] h = tt
are_read r c u (b ∷ []) h = h.1
are_read r c u (b ∷ p ∷ bs) h = (h.0.read, are_read b.reads b.commits b.undos (p ∷ bs) h.1)

-- an action is registered
registered_more : (r : ℕ) (kind : ActionKind) (action : Action) (a : Actions) → (length a.commits ≤ length (registered kind action a).commits) × (length a.undos ≤ length (registered kind action a).undos)
registered_more r kinds.Commit action a = (omega (arith, length-append a.commits (action ∷ [])), omega arith)
registered_more r kinds.Undo action a = (omega arith, omega (arith, length-append a.undos (action ∷ [])))

pub begun_registered : (r : ℕ) (kind : ActionKind) (action : Action) (a : Actions) (bs : List Frame) → AreBegun r (length a.commits) (length a.undos) bs
    → AreBegun r (length (registered kind action a).commits) (length (registered kind action a).undos) bs
begun_registered r kind action a bs h =
    let more = registered_more r kind action a in
    begun_more r (length a.commits) (length a.undos) r (length (registered kind action a).commits) (length (registered kind action a).undos) bs (omega arith) more.0 more.1 h

-- the same blocks, actions and log
pub begun_same : (log log' : List LogRow) (a a' : Actions) (bs bs' : List Frame) → log' ≡ log → a' ≡ a → bs' ≡ bs → AreBegun (length log) (length a.commits) (length a.undos) bs
    → AreBegun (length log') (length a'.commits) (length a'.undos) bs'
begun_same log log' a a' bs bs' logs actions blocks h =
    subst (λ (x : List LogRow). AreBegun (length x) (length a'.commits) (length a'.undos) bs') (sym logs)
    (subst (λ (x : Actions). AreBegun (length log) (length x.commits) (length x.undos) bs') (sym actions)
    (subst (AreBegun (length log) (length a.commits) (length a.undos)) (sym blocks) h))

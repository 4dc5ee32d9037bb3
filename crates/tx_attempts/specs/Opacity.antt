-- Opacity: what an attempt saw is what its player gets alone on the bytes that some first commits left, also where the attempt came to nothing.
use Rattle.std.specs.Prelude.{ℕ, zero, suc, ◌≡◌, ◌<◌, ◌≤◌, Bool, true, false, not, ◌&&◌, ◌||◌, is_none, is_some, if◌then◌else◌, List, [], ◌∷◌, ◌++◌, length, map, Option, None, Some}
use Rattle.itm_types.specs.declared.call.Props.{Props}
use Rattle.itm_types.specs.declared.call.Call.{Call}
use Rattle.itm_types.specs.declared.call.Call.TheVariants.{Begin}
use Rattle.itm_types.specs.declared.call.Ran.{Ran}
use Rattle.itm_types.specs.Calls.{is_begin}
use Rattle.itm_types.specs.declared.call.Reply.{Reply}
use Rattle.itm_types.specs.declared.call.Reply.TheVariants.{Code}
use Rattle.itm_model.specs.State.{State}
use Rattle.itm_model.specs.Machine.{opened, outside, undone, is_open, refusal, reply, after}
use Rattle.itm_model.specs.Runs.{answers_through, state_through}
use Rattle.tx_attempts.specs.declared.attempt.Outcome.{Outcome}
use Rattle.tx_attempts.specs.declared.attempt.Outcome.TheVariants.{Committed, ReadOnly, Cancelled, Conflict, Full, NoMemory, Unfinished}
use Rattle.tx_attempts.specs.declared.attempt.Attempt.{Attempt}
use Rattle.tx_attempts.specs.declared.attempt.CallRecord.{CallRecord}
use Rattle.tx_attempts.specs.Attempts.{ClosedBy, alone, pairs_of, replies_of}
use Rattle.tx_attempts.specs.Beginnings.{IsBeginningOf}
use Rattle.tx_attempts.specs.Outrun.{IsDisturbed}
use Rattle.tx_attempts.specs.Restarts.{AreAgain, AtEach, breaks_of}
use Rattle.tx_player.specs.Rules.{Rules}

-- how an attempt ended, by the plain state after its calls: whether its block has ended, and whether it wrote; none is given up once it is irrevocable
abbrev pub EndsAs : Outcome → State → Type 0
EndsAs Committed s = (is_open s ≡ false) × (s.wrote ≡ true)
EndsAs ReadOnly s = (is_open s ≡ false) × (s.wrote ≡ false)
EndsAs Cancelled s = (is_open s ≡ false) × (s.wrote ≡ false)
EndsAs Conflict s = (is_open s ≡ true) × (s.irrevocable ≡ false)
EndsAs Full s = (is_open s ≡ true) × (s.irrevocable ≡ false)
EndsAs NoMemory s = (is_open s ≡ true) × (s.irrevocable ≡ false)
EndsAs Unfinished s = is_open s ≡ true

-- the actions that have run once an attempt ended so, by the plain state after its calls: one that was given up is rolled back
abbrev pub ran_of : Outcome → State → List Ran
ran_of Committed s = s.actions.ran
ran_of ReadOnly s = s.actions.ran
ran_of Cancelled s = s.actions.ran
ran_of Conflict s = (undone s).actions.ran
ran_of Full s = (undone s).actions.ran
ran_of NoMemory s = (undone s).actions.ran
ran_of Unfinished s = s.actions.ran

-- the call that leads here takes the clock: it commits what the transaction wrote, or makes it irrevocable
abbrev pub takes_clock : State → Bool
takes_clock s = s.irrevocable || (not (is_open s) && s.wrote)

-- what the outermost begin of a try is answered: entered, or entered again
abbrev pub begin_code : Bool → Reply
begin_code again = Code (if again then 9 else 5)

-- a player as it calls an outermost begin, with its arena and the block's properties
pub record Beginning (P : Type 0) : Type 0 where
  pub player : P
  pub arena : List ℕ
  pub props : Props

-- a player between attempts: its arena, whether its next begin enters a block again, and how many tries of the block there were at least
pub record Between (P : Type 0) : Type 0 where
  pub player : P
  pub arena : List ℕ
  pub again : Bool
  pub tries : ℕ

-- a call that begins no block outside a transaction
abbrev pub stays_outside : ℕ → List ℕ → Call → Bool
stays_outside deepest arena call = not (is_begin call) || is_some (refusal deepest (outside [] arena) call)

module _ {P : Type 0} (answered : P → Reply → P) where
  abbrev pub answered_all : P → List Reply → P
  answered_all p [] = p
  answered_all p (r ∷ rs) = answered_all (answered p r) rs

module _ {P : Type 0} (rules : Rules P) (deepest : ℕ) where
  -- where a player's calls outside a transaction lead: to an outermost begin that is accepted, or to its end
  abbrev pub begin_within : ℕ → P → List ℕ → Option Call → Option (Beginning P)
  begin_within zero p arena call = None
  begin_within (suc n) p arena None = None
  begin_within (suc n) p arena (Some (Begin props room)) =
      if is_none (refusal deepest (outside [] arena) (Begin props room)) then Some (record { player = p; arena = arena; props = props })
      else (let q = rules.answered p (reply deepest (outside [] arena) (Begin props room)) in begin_within n q arena (rules.next_call q))
  begin_within (suc n) p arena (Some call) =
      let q = rules.answered p (reply deepest (outside [] arena) call) in
      begin_within n q (after deepest (outside [] arena) call).arena (rules.next_call q)

  abbrev pub begin_of : P → List ℕ → Option (Beginning P)
  begin_of p arena = begin_within (rules.calls_left p) p arena (rules.next_call p)

module _ (deepest : ℕ) where
  -- after these calls of an attempt the transaction may be tried again
  abbrev pub StaysRevocable : List ℕ → Attempt → List CallRecord → Type 0
  StaysRevocable memory a calls = (state_through deepest (breaks_of a.restarts) (opened memory a.arena a.props) (map (λ e. e.call) calls)).irrevocable ≡ false

  -- each block that ran again is one within the outermost, with a whole arena, and was begun while the transaction might be tried again
  pub record AreRestarts (a : Attempt) (memory : List ℕ) : Type 0 where
    pub stand : AreAgain (length a.arena) 0 a.calls.list a.restarts
    pub revocable : AtEach (StaysRevocable memory a) a.calls.list a.restarts

module _ {P : Type 0} (rules : Rules P) (deepest : ℕ) where
  -- the calls of the attempt's player alone on these bytes, each with its reply, until the attempt's block has ended; each inner block that ran again goes on from the arena that is told
  abbrev pub answers_on : P → Attempt → List ℕ → List (Call × Reply)
  answers_on p a memory = answers_through rules.next_call rules.answered rules.calls_left deepest (breaks_of a.restarts) p memory a.arena a.props

  -- after its calls its player makes one alone that takes the clock
  pub record LacksClock (p : P) (a : Attempt) (memory : List ℕ) : Type 0 where
    pub call : Call
    pub rest : List (Call × Reply)
    pub answers_are : answers_on p a memory ≡ pairs_of a ++ (call, reply deepest (alone deepest memory a) call) ∷ rest
    pub revocable : (alone deepest memory a).irrevocable ≡ false
    pub takes : takes_clock (after deepest (alone deepest memory a) call) ≡ true

  -- The attempt is opaque: its player after the begin is p, n commits are done, and the memory is the bytes that the first a.at of them left.
  pub record IsOpaque (p : P) (a : Attempt) (n : ℕ) (memory : List ℕ) : Type 0 where
    pub no_older : IsDisturbed a  -- it reads where it began or later, by a commit or more for each block of it that ran again
    pub no_newer : a.at ≤ n
    pub beginning : IsBeginningOf (pairs_of a) (answers_on p a memory)
    pub whole : is_open (alone deepest memory a) ≡ false → pairs_of a ≡ answers_on p a memory
    pub ends : EndsAs a.outcome (alone deepest memory a)
    pub closed : ClosedBy a.outcome a.calls.list
    pub ran : a.ran ≡ ran_of a.outcome (alone deepest memory a)
    pub again : AreRestarts deepest a memory  -- else a record could stand anywhere, and hide a wrong arena
    pub full : a.outcome ≡ Full → LacksClock p a memory  -- full is told of a writer's commit alone, or of a call that makes the transaction irrevocable

  -- what follows an attempt whose player after the begin was p and that left the plain state s, if anything does
  abbrev pub follows : Outcome → P → Attempt → State → Option (Between P)
  follows Committed p a s = Some (record { player = answered_all rules.answered p (replies_of a); arena = s.arena; again = false; tries = 0 })
  follows ReadOnly p a s = Some (record { player = answered_all rules.answered p (replies_of a); arena = s.arena; again = false; tries = 0 })
  follows Cancelled p a s = Some (record { player = answered_all rules.answered p (replies_of a); arena = s.arena; again = false; tries = 0 })
  follows Conflict p a s = Some (record { player = rules.restarted (answered_all rules.answered p (replies_of a)); arena = (undone s).arena; again = true; tries = a.nth })
  follows Full p a s = None
  follows NoMemory p a s = None
  follows Unfinished p a s = None

  -- the attempt is of the block that its player comes to, and is opaque
  abbrev pub IsTryAt : ℕ → (ℕ → List ℕ) → Between P → Option (Beginning P) → Attempt → Type 0
  IsTryAt n memory b None a = ⊥
  IsTryAt n memory b (Some start) a =
      (a.arena ≡ start.arena) × (a.props ≡ start.props) × (b.tries < a.nth) × IsOpaque (rules.answered start.player (begin_code b.again)) a n (memory a.at)

  abbrev pub after_try : (ℕ → List ℕ) → Between P → Option (Beginning P) → Attempt → Option (Between P)
  after_try memory b None a = None
  after_try memory b (Some start) a = follows a.outcome (rules.answered start.player (begin_code b.again)) a (alone deepest (memory a.at) a)

  -- The attempts of one actor, in order, are its player's own: each is of the block to which the player's calls lead from
  -- where the attempt before left it, and each is opaque. No block is left out before another, but a try of one may be that
  -- came to a conflict, where the next one shows nothing of it.
  abbrev pub IsRunOf : ℕ → (ℕ → List ℕ) → Option (Between P) → List Attempt → Type 0
  IsRunOf n memory b [] = Unit {0}
  IsRunOf n memory None (a ∷ rest) = ⊥
  IsRunOf n memory (Some b) (a ∷ rest) =
      IsTryAt n memory b (begin_of rules deepest b.player b.arena) a × IsRunOf n memory (after_try memory b (begin_of rules deepest b.player b.arena) a) rest

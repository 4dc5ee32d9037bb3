-- An attempt within which a block ran again, and attempts in conflict, worked by computation.
use Rattle.std.proofs.Common.{◌≡◌, ℕ, suc, ◌-◌, false, true, List, [], ◌∷◌, ◌++◌, take, refl, subst, arith, slice_get}
use Rattle.tx_attempts.proofs.Common.{Again, AreAgain, AreOutrun, Attempt, Begin, Call, CallRecord, Commit, Conflict, EndsAs, IsDisturbed, IsInnerBegin, IsOpaque, Load, Log, Props, Read, ReadOnly, Reply, Rules, Save, State, alone, breaks_of, bytes_reply, calls_of, open_in, opened, ran_of, replies_of, replies_through, state_after, unbroken, with_again}
use Rattle.itm_types.specs.declared.access.Width.TheVariants.{U1, U8}
use Rattle.itm_types.specs.declared.access.ReadHint.TheVariants.{R}
use Rattle.itm_types.specs.declared.datum.Datum.{Datum}
use Rattle.itm_types.specs.declared.call.Reply.TheVariants.{Done, Code}
use Rattle.tx_attempts.proofs.LaterClocks.{outrun_more, outrun_none}

abbrev pub plain : Props
plain = record { no_abort = false; no_irrevocable = false; goes_irrevocable = false }

-- the eight bytes of a small number
abbrev pub eight : ℕ → List ℕ
eight b = b ∷ 0 ∷ 0 ∷ 0 ∷ 0 ∷ 0 ∷ 0 ∷ 0 ∷ []

abbrev nine : Datum
nine = record { width = U1; bytes = record { items = 9 ∷ [] }; sized = refl }

-- three words, of which another thread has written 7 to the second
abbrev pub memory : List ℕ
memory = eight 0 ++ eight 7 ++ eight 0

-- the outer block reads the first word; the inner one logs a byte of the arena, writes that and the next one, and reads the other two words
abbrev inner : List CallRecord
inner =
    record { call = Log U1 0; reply = Done } ∷ record { call = Save 0 nine; reply = Done } ∷ record { call = Save 1 nine; reply = Done }
    ∷ record { call = Read R U8 8; reply = bytes_reply (eight 7) } ∷ record { call = Read R U8 16; reply = bytes_reply (eight 0) } ∷ []

abbrev outer : List CallRecord
outer = record { call = Read R U8 0; reply = bytes_reply (eight 0) } ∷ record { call = Begin plain 0; reply = Code 5 } ∷ []

abbrev ends : List CallRecord
ends = record { call = Commit; reply = Done } ∷ record { call = Commit; reply = Done } ∷ []

-- its inner block ran again from this arena
abbrev pub from : List ℕ → Again
from arena = record { kept = 2; arena = arena; undone = [] }

abbrev pub attempt : List Again → Attempt
attempt restarts = record {
  thread = 0;
  nth = 1;
  began = 0;
  at = 1;
  props = plain;
  arena = 0 ∷ 0 ∷ [];
  calls = record { list = outer ++ inner ++ ends; room = 0 };
  restarts = restarts;
  ran = [];
  outcome = ReadOnly;
}

abbrev pub again : Attempt
again = attempt (from (0 ∷ 9 ∷ []) ∷ [])

-- ## Alone on those bytes

told : replies_of again ≡ replies_through 16 (breaks_of again.restarts) (opened memory again.arena again.props) (calls_of again)
told = refl

left : alone 16 memory again ≡ record { memory = memory; arena = 9 ∷ 9 ∷ []; blocks = []; actions = record { commits = []; undos = []; ran = [] }; wrote = false; irrevocable = false }
left = refl

ends_read_only : EndsAs ReadOnly (alone 16 memory again)
ends_read_only = (refl, refl)

ran : again.ran ≡ ran_of again.outcome (alone 16 memory again)
ran = refl

-- the arena that the inner block keeps of its begin is that from which it ran again
abbrev inside : List Again → ℕ → State
inside restarts n = alone 16 memory (record (attempt restarts) { calls = record { list = take n (attempt restarts).calls.list; room = 0 } })

runs_from : (inside (from (0 ∷ 9 ∷ []) ∷ []) 2).arena ≡ 0 ∷ 9 ∷ []
runs_from = refl

-- ## From another arena

-- the calls write both bytes, so their replies and the arena at the end do not tell; the arena before the first of them does
runs_from_logged : (inside (from (9 ∷ 0 ∷ []) ∷ []) 2).arena ≡ 9 ∷ 0 ∷ []
runs_from_logged = refl

runs_from_none : (inside [] 2).arena ≡ 0 ∷ 0 ∷ []
runs_from_none = refl

-- a load within the block tells them apart
abbrev looks : List Again → List Reply
looks restarts = replies_through 16 (breaks_of restarts) (opened memory (0 ∷ 0 ∷ []) plain) (Read R U8 0 ∷ Begin plain 0 ∷ Load U1 0 ∷ Load U1 1 ∷ [])

looks_again : looks (from (0 ∷ 9 ∷ []) ∷ []) ≡ bytes_reply (eight 0) ∷ Code 5 ∷ bytes_reply (0 ∷ []) ∷ bytes_reply (9 ∷ []) ∷ []
looks_again = refl

looks_logged : looks (from (9 ∷ 0 ∷ []) ∷ []) ≡ bytes_reply (eight 0) ∷ Code 5 ∷ bytes_reply (9 ∷ []) ∷ bytes_reply (0 ∷ []) ∷ []
looks_logged = refl

looks_first : looks [] ≡ bytes_reply (eight 0) ∷ Code 5 ∷ bytes_reply (0 ∷ []) ∷ bytes_reply (0 ∷ []) ∷ []
looks_first = refl

-- and so does a cancel of the block: it puts the logged byte back, and not the other one
abbrev logs_and_cancels : List Again → List ℕ
logs_and_cancels restarts = (alone 16 memory (record (attempt restarts) { calls = record { list = outer ++ record { call = Log U1 0; reply = Done } ∷ []; room = 0 } })).arena

logged_bytes : logs_and_cancels (from (0 ∷ 9 ∷ []) ∷ []) ≡ 0 ∷ 9 ∷ []
logged_bytes = refl

-- ## With no record it is a run that is never broken off

none_told : (s : State) (calls : List Call) → replies_through 16 (breaks_of []) s calls ≡ replies_through 16 unbroken s calls
none_told s calls = refl

none_left : (bytes : List ℕ) → alone 16 bytes (attempt []) ≡ state_after 16 (opened bytes (attempt []).arena plain) (calls_of (attempt []))
none_left bytes = refl

-- ## Which blocks are open, by the calls

none_open : open_in outer ≡ 2 ∷ []
none_open = refl

after_all : open_in (outer ++ inner ++ ends) ≡ []
after_all = refl

two_open : open_in (outer ++ outer ++ record { call = Commit; reply = Done } ∷ outer) ≡ 7 ∷ 2 ∷ []
two_open = refl

-- ## A later record takes those out that stand in its block

again_in_the_outer : with_again (record { kept = 2; arena = []; undone = [] }) (record { kept = 1; arena = []; undone = [] } ∷ record { kept = 2; arena = []; undone = [] } ∷ record { kept = 5; arena = []; undone = [] } ∷ [])
    ≡ record { kept = 1; arena = []; undone = [] } ∷ record { kept = 2; arena = []; undone = [] } ∷ []
again_in_the_outer = refl

-- ## Opacity

-- a player that makes these calls, whatever it is replied
abbrev maker : Rules ℕ
maker = record { next_call = λ p. slice_get (calls_of again) p; answered = λ p r. suc p; restarted = λ p. p; at_block = λ p d. p; calls_left = λ p. 9 - p; depth = λ p. 0 }

opaque : IsOpaque maker 16 0 again 1 memory
opaque = record {
  no_older = omega arith;
  no_newer = omega arith;
  beginning = ([], refl);
  whole = λ closed. refl;
  ends = (refl, refl);
  closed = (take 8 again.calls.list, refl);
  ran = refl;
  again = record { stand = (record { place = 1; kept = refl; begins = (refl, refl); arena = refl }, omega arith, tt); revocable = (refl, tt) };
  full = λ full. absurd (cc);
}

-- a record stands nowhere but at the begin of a block
no_begin : AreAgain 2 0 again.calls.list (record { kept = 1; arena = 0 ∷ 9 ∷ []; undone = [] } ∷ []) → ⊥
no_begin h =
    let kept = h.0.kept in
    let first : h.0.place ≡ 0 = omega arith in
    let begins : IsInnerBegin (slice_get again.calls.list 0) = subst (λ (n : ℕ). IsInnerBegin (slice_get again.calls.list n)) first h.0.begins in
    let is : false ≡ true = begins.0 in
    cc

-- and its arena is a whole one
short_arena : AreAgain 2 0 again.calls.list (record { kept = 2; arena = 9 ∷ []; undone = [] } ∷ []) → ⊥
short_arena h = (let size = h.0.arena in omega arith)

-- ## Conflicts and the clock

-- in conflict at position 2, and a try with no conflict at position 9
abbrev lost : Attempt
lost = record (attempt []) { at = 2; outcome = Conflict }

abbrev unharmed : Attempt
unharmed = record (attempt []) { at = 9 }

-- the clock was odd: somebody held it
outrun_held : AreOutrun 5 (lost ∷ unharmed ∷ [])
outrun_held = outrun_more 5 (lost ∷ []) unharmed (outrun_more 5 [] lost (outrun_none 5) (λ e. omega arith)) (λ e. absurd (cc))

-- it had not moved
not_outrun : AreOutrun 4 (lost ∷ []) → ⊥
not_outrun all = let past = all 0 lost (omega arith) refl in omega arith

-- ## Blocks that ran again, and the commits between

-- it ran again once, and one more has committed than as it began
disturbed : IsDisturbed again
disturbed = omega arith

-- none had committed since
undisturbed : IsDisturbed (record again { at = 0 }) → ⊥
undisturbed told = omega (arith, told)

-- and one commit is not enough for two blocks
disturbed_once : IsDisturbed (attempt (from [] ∷ from [] ∷ [])) → ⊥
disturbed_once told = omega (arith, told)

-- one that tells of none may read where it began
still : IsDisturbed (record (attempt []) { at = 0 })
still = omega arith

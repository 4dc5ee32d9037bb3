-- Worked verdicts on histories in which a block ran again, and on those of another depth, computed.
use Rattle.std.proofs.Common.{◌≡◌, ℕ, List, [], ◌∷◌, ◌++◌, refl, replicate, arith}
use Rattle.history_checker.proofs.Common.{Again, Attempt, Bad, Begin, CallRecord, Code, Commit, Committed, Done, History, Legal, Load, Mode, One, Refused, Reply, Three, TooDeep, Two, U1, U8, Unfinished, Version, W, Write, bytes_reply, fault_in, verdict_of}
use Rattle.itm_types.{specs.declared.call.ActionKind.TheVariants.Undo, specs.declared.limits.Depth.Depth}
use Rattle.tx_attempts.proofs.Examples.{again, eight, plain}
use Rattle.history_checker.specs.declared.verdict.BadKind.TheVariants as kind

-- ## A block that ran again

-- the other thread's attempt, in the lines 3 to 7
abbrev writer : Attempt
writer = record {
  thread = 1;
  nth = 1;
  began = 0;
  at = 0;
  props = plain;
  arena = 0 ∷ 0 ∷ [];
  calls = record { list = record { call = Write W 8 (record { width = U8; bytes = record { items = eight 7 }; sized = refl }); reply = Done } ∷ record { call = Commit; reply = Done } ∷ []; room = 0 };
  restarts = [];
  ran = [];
  outcome = Committed;
}

abbrev history : List Attempt → History
history attempts = record { version = Two; memory = eight 0 ++ eight 0 ++ eight 0; attempts = attempts; clock = 2; bytes = eight 0 ++ eight 7 ++ eight 0 }

whole : verdict_of (history (writer ∷ again ∷ [])) ≡ Legal
unfolding verdict_of fault_in
whole = refl

-- an attempt that has not ended, in whose inner block byte 1 of the arena is read as 9: head in line 8, arena, begin, the restart and two undone actions, the read in line 14
abbrev undo : ℕ → Again
undo byte = record { kept = 1; arena = 0 ∷ byte ∷ []; undone = record { kind = Undo; action = record { fun = 1; arg = 0 } } ∷ record { kind = Undo; action = record { fun = 1; arg = 0 } } ∷ [] }

abbrev begins : CallRecord
begins = record { call = Begin plain 0; reply = Code 5 }

abbrev looking : List CallRecord → Again → Attempt
looking calls a = record again { at = 1; calls = record { list = calls; room = 0 }; restarts = a ∷ []; outcome = Unfinished }

abbrev look : CallRecord
look = record { call = Load U1 1; reply = bytes_reply (9 ∷ []) }

looks_again : verdict_of (history (writer ∷ looking (begins ∷ look ∷ []) (undo 9) ∷ [])) ≡ Legal
unfolding verdict_of fault_in
looks_again = refl

wrong_arena : verdict_of (history (writer ∷ looking (begins ∷ look ∷ []) (undo 8) ∷ [])) ≡ Bad 14 kind.Reply
unfolding verdict_of fault_in
wrong_arena = refl

-- the lines of an attempt before it count too
wrong_arena_later : verdict_of (history (writer ∷ looking (begins ∷ look ∷ []) (undo 9) ∷ looking (begins ∷ look ∷ []) (undo 8) ∷ [])) ≡ Bad 22 kind.Reply
unfolding verdict_of fault_in
wrong_arena_later = refl

-- ## One that could not

-- in an irrevocable transaction no block runs again, and that is told before the replies of the calls that follow
irrevocable : verdict_of (history (writer ∷ looking (record { call = Mode 0; reply = Done } ∷ begins ∷ record { call = Load U1 1; reply = Done } ∷ []) (record (undo 9) { kept = 2 }) ∷ [])) ≡ Bad 8 kind.Shape
unfolding verdict_of fault_in
irrevocable = refl

-- but the reply of its own begin comes before
wrong_begin : verdict_of (history (writer ∷ looking (record { call = Mode 0; reply = Code 5 } ∷ begins ∷ []) (record (undo 9) { kept = 2 }) ∷ [])) ≡ Bad 10 kind.Reply
unfolding verdict_of fault_in
wrong_begin = refl

-- behind a call that is no begin none is told, and none with another arena
no_begin : verdict_of (history (writer ∷ looking (begins ∷ look ∷ []) (record (undo 9) { kept = 2 }) ∷ [])) ≡ Bad 8 kind.Shape
unfolding verdict_of fault_in
no_begin = refl

short_arena : verdict_of (history (writer ∷ looking (begins ∷ []) (record (undo 9) { arena = [] }) ∷ [])) ≡ Bad 8 kind.Shape
unfolding verdict_of fault_in
short_arena = refl

-- ## Depth

-- an attempt that has not ended: head, arena, and sixteen begins within its block, of which this is the last one's reply
abbrev deep : Version → Reply → History
deep version reply = record {
  version = version;
  memory = eight 0;
  attempts = record again { at = 0; calls = record { list = replicate 15 begins ++ record { call = Begin plain 0; reply = reply } ∷ []; room = 0 }; restarts = []; outcome = Unfinished } ∷ [];
  clock = 0;
  bytes = eight 0;
}

abbrev seventeen : Depth
seventeen = record { blocks = 17; some = omega arith; few = omega arith }

too_deep : verdict_of (deep One (Refused TooDeep)) ≡ Legal
unfolding verdict_of fault_in
too_deep = refl

not_deep : verdict_of (deep One (Code 5)) ≡ Bad 20 kind.Reply
unfolding verdict_of fault_in
not_deep = refl

not_deep_in_two : verdict_of (deep Two (Code 5)) ≡ Bad 20 kind.Reply
unfolding verdict_of fault_in
not_deep_in_two = refl

deeper : verdict_of (deep (Three seventeen) (Code 5)) ≡ Legal
unfolding verdict_of fault_in
deeper = refl

-- the third version has one line more at its beginning
deeper_refused : verdict_of (deep (Three seventeen) (Refused TooDeep)) ≡ Bad 21 kind.Reply
unfolding verdict_of fault_in
deeper_refused = refl

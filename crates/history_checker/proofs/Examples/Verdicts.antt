-- Worked verdicts, computed. The text of a history has its header in line 1 and the memory in line 2; an attempt has a line for its head, one for its arena, one for each call and each action that ran, and its `end`; the final line comes last. Those with their reasons are in `Answers.antt`.
use Rattle.std.proofs.Common.{◌≡◌, [], ◌∷◌, refl}
use Rattle.history_checker.proofs.Common.{Bad, Cancelled, Commit, Committed, Legal, Outside, ReadOnly, Refused, Unfinished, fault_in, verdict_of}
use Rattle.user_actions.specs.Actions.{as_undo}
use Rattle.history_checker.specs.declared.verdict.BadKind.TheVariants as kind
use Rattle.history_checker.proofs.Examples.Histories.{action, answered, attempt, attempt_ran, cancels, commits, history, holder, on_undo, reader, reads, writer, writes}

-- ## Legal ones

-- each reads what so many first commits left, whatever came later
older_memory : verdict_of (history (writer 0 ∷ reader 1 1 ∷ writer 1 ∷ reader 0 0 ∷ reader 2 2 ∷ []) 4 2) ≡ Legal
unfolding verdict_of fault_in
older_memory = refl

-- of the bytes beside an odd clock nothing is known
held : verdict_of (history (writer 0 ∷ holder 1 ∷ []) 3 9) ≡ Legal
unfolding verdict_of fault_in
held = refl

-- ## Positions

-- head 3, arena 4, calls 5 and 6, end 7
taken_position : verdict_of (history (attempt Committed 0 (writes 1 ∷ commits ∷ []) ∷ attempt Committed 0 (writes 1 ∷ commits ∷ []) ∷ []) 4 1) ≡ Bad 8 kind.Position
unfolding verdict_of
taken_position = refl

-- ## Shapes

call_after_the_end : verdict_of (history (reader 0 0 ∷ attempt ReadOnly 0 (reads 0 ∷ commits ∷ answered Commit (Refused Outside) ∷ []) ∷ []) 0 0) ≡ Bad 8 kind.Shape
unfolding verdict_of fault_in
call_after_the_end = refl

-- ## Actions

wrong_order : verdict_of (history (attempt_ran Cancelled (on_undo 1 ∷ on_undo 2 ∷ cancels ∷ []) (as_undo (action 1) ∷ as_undo (action 2) ∷ []) ∷ []) 0 0) ≡ Bad 3 kind.Ran
unfolding verdict_of fault_in
wrong_order = refl

-- ## The end

-- it stands at 0, where a writer has committed since
irrevocable_elsewhere : verdict_of (history (writer 0 ∷ holder 0 ∷ attempt Unfinished 1 [] ∷ []) 3 1) ≡ Bad 16 kind.Final
unfolding verdict_of fault_in
irrevocable_elsewhere = refl

odd_with_fewer_bytes : verdict_of (record (history (holder 0 ∷ []) 1 0) { bytes = [] }) ≡ Bad 7 kind.Final
unfolding verdict_of fault_in
odd_with_fewer_bytes = refl

-- ## Which is told first

-- a position, though an attempt before it saw too many commits
position_first : verdict_of (history (reader 9 0 ∷ writer 0 ∷ writer 0 ∷ []) 4 2) ≡ Bad 14 kind.Position
unfolding verdict_of
position_first = refl

-- of an attempt the first call that is wrong, and that before its end
first_call : verdict_of (history (attempt Committed 0 (writes 1 ∷ reads 7 ∷ reads 8 ∷ []) ∷ []) 2 1) ≡ Bad 6 kind.Reply
unfolding verdict_of fault_in
first_call = refl

-- Worked answers, computed: what the plain machine answers where an attempt is wrong.
use Rattle.std.proofs.Common.{◌≡◌, [], ◌∷◌, refl, None, Some}
use Rattle.history_checker.proofs.Common.{Bad, Bytes, Cancelled, Committed, Legal, at_call, at_head, fault_in, finding_of, verdict_of}
use Rattle.history_checker.specs.declared.verdict.BadKind.TheVariants as kind
use Rattle.history_checker.proofs.Examples.Histories.{attempt, cancels, commits, eight, history, reader, reads, writer, writes}

-- the second writer read what was before the first one, which wrote 1
lost_update : finding_of (history (writer 0 ∷ attempt Committed 1 (reads 0 ∷ writes 1 ∷ commits ∷ []) ∷ []) 4 1)
    ≡ record { verdict = Bad 11 kind.Reply; spot = Some (record { attempt = 1; fault = at_call 0 kind.Reply }); answer = Some (Bytes (record { items = eight 1 })) }
unfolding verdict_of fault_in
lost_update = refl

-- one that was thrown away, behind a write of its own
own_write : finding_of (history (attempt Cancelled 0 (writes 5 ∷ reads 0 ∷ cancels ∷ []) ∷ []) 0 0)
    ≡ record { verdict = Bad 6 kind.Reply; spot = Some (record { attempt = 0; fault = at_call 1 kind.Reply }); answer = Some (Bytes (record { items = eight 5 })) }
unfolding verdict_of fault_in
own_write = refl

-- of the first one by position, though another stands before it in the text
by_position : finding_of (history (attempt Committed 1 (reads 7 ∷ commits ∷ []) ∷ attempt Committed 0 (reads 7 ∷ commits ∷ []) ∷ []) 4 0)
    ≡ record { verdict = Bad 10 kind.Reply; spot = Some (record { attempt = 1; fault = at_call 0 kind.Reply }); answer = Some (Bytes (record { items = eight 0 })) }
unfolding verdict_of fault_in
by_position = refl

-- at a head nothing is answered
at_its_head : finding_of (history (writer 0 ∷ reader 1 1 ∷ reader 2 1 ∷ []) 2 1)
    ≡ record { verdict = Bad 14 kind.At; spot = Some (record { attempt = 2; fault = at_head kind.At }); answer = None }
unfolding verdict_of fault_in
at_its_head = refl

-- of the final line no attempt is told
at_the_end : finding_of (history (writer 0 ∷ []) 2 2) ≡ record { verdict = Bad 9 kind.Final; spot = None; answer = None }
unfolding verdict_of fault_in
at_the_end = refl

-- the text has them in another order than their positions
nothing_wrong : finding_of (history (writer 1 ∷ writer 0 ∷ []) 4 2) ≡ record { verdict = Legal; spot = None; answer = None }
unfolding verdict_of fault_in
nothing_wrong = refl

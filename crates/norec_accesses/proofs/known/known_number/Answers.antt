use Rattle.std.proofs.Common.{◌≡◌, ◌+◌, ◌*◌, ◌/◌, ◌≤◌, ◌&&◌, nat_le, true, false, length, sym, subst, ◌∙◌, arith, rules}
use Rattle.norec_accesses.proofs.Common.{CallTurns, Data, End, Read, Word, in_block, size_of}
use Rattle.norec_accesses.{proofs.ReadCalls.ReadyReads.ready, proofs.ReadCalls.KnownReads.known_turns}
use Rattle.norec_accesses.proofs.known.known_number.Goals as goal

pub returns-clause-called : goal.returns-clause-called
returns-clause-called c =
    let s = c.args.state.now in
    let at = c.args.at in
    let size : size_of c.args.width ≡ 8 = omega (arith, c.size.ensures.value, c.if-size-ne8.false) in
    let is_open : in_block s ≡ true = search rules in
    let inside : at + 8 ≤ 8 * s.words = search rules in
    let accepted : (in_block s && nat_le (at + 8) (8 * s.words)) ≡ true = search rules in
    let is : c.start.new.state ≡ ready s s.gathered s.log = c.start.ensures ∙ (λ i. record s { written = c.len-state.ensures.len i; spent = 0; entry = length s.log.rows; tries = 0 }) in
    subst (λ (d : Data). CallTurns s (Read c.args.hint c.args.width at) false (End (Word c.in_ok-number.number)) d) (sym is)
    (known_turns s c.args.hint c.args.width at (at / 8) c.requires.sound is_open (omega (arith, c.if-at-ne0.false)) size inside accepted c.in_ok-number.number (sym c.in_ok-number.ensures.had) c.in_ok-number.ensures.part)

-- The steps of a call are within its most.
use Rattle.std.proofs.Common.{◌≡◌, ◌≢◌, ℕ, ◌+◌, ◌-◌, ◌*◌, ◌^◌, ◌<◌, ◌≤◌, Bool, true, false, if◌then◌else◌, List, length, refl, ap, arith, Some, None, sym}
use Rattle.norec_blocks.proofs.Common.{Aim, Begin, Core, Data, FitsPurpose, InRound, IsHolding, IsOn, IsSound, IsWithin, LogRow, MayRead, Opening, Phase, Taking, Written, among, call_for, call_of, cond-false, cond-true, core, count, doing_of, first_of, in_block, in_transaction, most, passed, round_of, total, total_for, total_left, waits_of}
use Rattle.itm_types.{specs.declared.limits.TheConstants.MAX_WORDS, specs.declared.limits.TheConstants.MAX_PATIENCE}
use Rattle.norec_core.specs.declared.call_parts.Purpose.{Purpose}
use Rattle.norec_core.specs.declared.call_parts.Reading.{Reading}
use Rattle.word_pieces.specs.Pieces.{count_of}
use Rattle.access_rules.{proofs.CopyChunks.few_words, proofs.CopyChunks.source_few, proofs.CopyChunks.length-chunks_in}
use Rattle.norec_core.specs.Copies.{source_words}
use Rattle.std.{proofs.Math.Nat.mul-le-mul_right, proofs.lemmas.Nat.mul-le}
use Rattle.norec_core.specs.declared.call_parts.Purpose.TheVariants as for
use Rattle.norec_turns.proofs.AcceptedCopies.{source_within}
use Rattle.norec_core.specs.Aims as aims
use Rattle.norec_core.specs.Phases as at
use Rattle.norec_core.specs.declared.call_parts.Taking.TheVariants as takings
use Rattle.norec_core.specs.Copies.{words_read, words_written}

-- the most steps of the call that an access is made for
most_for : (words bytes written : ℕ) (writes : Written) (own : List LogRow) (buffer : List ℕ) (what : Purpose) (at size : ℕ) → FitsPurpose words bytes written writes own buffer what at size → (c : Core) → c.irrevocable ≡ false
    → most c (Some (call_for what at)) ≡ 2 * total_for what (count_of at size) + c.patience * (c.entry + total_for what (count_of at size) + 4)
most_for words bytes written writes own buffer (for.Value hint width) at size f c i = ap (λ (n : ℕ). 2 * count_of at n + c.patience * (c.entry + count_of at n + 4)) (sym f.0)
most_for words bytes written writes own buffer (for.Chunk k n) at size f c i = ap (λ (b : Bool). if b then words_read k k.pair + 2 * words_written k k.pair else 2 * source_words k + c.patience * (c.entry + source_words k + 4)) i

-- no call reads more words
few_for : (words bytes written : ℕ) (writes : Written) (own : List LogRow) (buffer : List ℕ) (what : Purpose) (at size : ℕ) → FitsPurpose words bytes written writes own buffer what at size → words ≤ MAX_WORDS → size ≤ 32
    → total_for what (count_of at size) ≤ 5 * 2 ^ 30
few_for words bytes written writes own buffer (for.Value hint width) at size f w small = omega (arith, few_words at size small)
few_for words bytes written writes own buffer (for.Chunk k n) at size f w small =
    omega (arith, source_few k, length-chunks_in k, w, source_within words bytes k f.copied.shared f.copied.served.accepted)

module _ (d : Data) (r : Reading) (may : MayRead d r) where
  most_read : (c : Core) → c.irrevocable ≡ false → most c (Some (call_for r.purpose r.at)) ≡ 2 * total r + c.patience * (c.entry + total r + 4)
  most_read c i = most_for d.words (length d.arena) d.written d.frames.writes d.log.rows d.buffer.items r.purpose r.at r.size may.reading.purpose c i

  few_read : d.words ≤ MAX_WORDS → total r ≤ 5 * 2 ^ 30
  few_read w = few_for d.words (length d.arena) d.written d.frames.writes d.log.rows d.buffer.items r.purpose r.at r.size may.reading.purpose w may.reading.small

  left : passed r < total r
  left = total_left r.purpose r.number (count r) (among d r.purpose r.at r.size may.reading.purpose) may.missing.some

-- and of one that takes the clock
most_take : (c : Core) (taking : Taking) → in_transaction c ≡ true → most c (Some (call_of (aims.Take taking))) ≡ c.patience * (c.entry + 3) + 2 * length c.writes + 2
most_take c takings.Commit o = refl
most_take c (takings.Mode room) o = refl
most_take c (takings.Begin props room) o = cond-true (in_transaction c) _ _ o

-- one try more, all of them within the patience
pub more : (t p k : ℕ) → 0 < t → t ≤ p → (t - 1) * k + k ≤ p * k
more t p k l h =
    let e : (t - 1 + 1) * k ≤ p * k = mul-le-mul_right {m = t - 1 + 1} {n = p} k (omega arith) in
    omega (arith, e)

-- a round is over: its steps are counted in full, whatever the clock is
pub round_over : (d : Data) (aim : Aim) (clock : ℕ) → InRound d aim (length d.log.rows + 2) → d.spent ≤ first_of aim + d.tries * round_of aim (record d { clock = clock })
round_over d (aims.Read r) clock round =
    omega (arith, more d.tries d.tries (d.entry + total r + 4) round.tried (omega arith), round.spent, round.may.logging.grown, left d r round.may)
round_over d (aims.Take taking) clock round = omega (arith, more d.tries d.tries (d.entry + 3) round.tried (omega arith), round.spent, round.may.grown)

rounds : (d : Data) (aim : Aim) (steps : ℕ) → InRound d aim steps → steps ≤ length d.log.rows + 3 → d.spent ≤ most (core d (at.RoundStart aim)) (doing_of (at.RoundStart aim))
rounds d (aims.Read r) steps round l =
    omega (arith, most_read d r round.may (core d (at.RoundStart (aims.Read r))) refl, more d.tries d.limits.patience (d.entry + total r + 4) round.tried round.is_open.tries, round.spent, round.may.logging.grown, left d r round.may)
rounds d (aims.Take taking) steps round l =
    omega (arith, most_take (core d (at.RoundStart (aims.Take taking))) taking round.is_open.is_open, more d.tries d.limits.patience (d.entry + 3) round.tried round.is_open.tries, round.spent, round.may.grown)

-- an outermost begin loads the clock at most as often as the patience says, and exchanges it as often
most_begin : (d : Data) (phase : Phase) (b : Opening) → in_block d ≡ false → most (core d phase) (Some (Begin b.props b.room)) ≡ 2 * d.limits.patience
most_begin d phase b o = cond-false (in_block d) _ _ o

holds_within : (d : Data) (phase : Phase) (taking : Taking) (steps : ℕ) → IsHolding d taking steps → steps ≤ 2 * length d.frames.writes.rows + 1 → most (core d phase) (Some (call_of (aims.Take taking))) ≡ d.limits.patience * (d.entry + 3) + 2 * length d.frames.writes.rows + 2
    → d.spent ≤ most (core d phase) (Some (call_of (aims.Take taking)))
holds_within d phase taking steps h l e = omega (arith, e, h.spent, mul-le-mul_right {m = d.tries} {n = d.limits.patience} (d.entry + 3) h.is_open.tries)

-- what a waiting engine has asked for
within : (d : Data) (phase : Phase) → IsSound d phase → IsOn phase → d.spent ≤ most (core d phase) (doing_of phase)
within d at.Idle s w = absurd w
within d (at.Begin b) s w = omega (arith, most_begin d (at.Begin b) b s.in_phase.0.is_open, s.in_phase.2, s.in_phase.3, s.in_phase.0.tries)
within d (at.Take b) s w = omega (arith, most_begin d (at.Take b) b s.in_phase.0.is_open, s.in_phase.5, s.in_phase.0.tries)
within d (at.Load r) s w = omega (arith, most_read d r s.in_phase.1 (core d (at.Load r)) refl, s.in_phase.3, left d r s.in_phase.1, mul-le-mul_right {m = d.tries} {n = d.limits.patience} (d.entry + total r + 4) s.in_phase.0.tries)
within d (at.Confirm r value) s w = omega (arith, most_read d r s.in_phase.1 (core d (at.Confirm r value)) refl, s.in_phase.3, left d r s.in_phase.1, mul-le-mul_right {m = d.tries} {n = d.limits.patience} (d.entry + total r + 4) s.in_phase.0.tries)
within d (at.RoundStart aim) s w = rounds d aim 1 s.in_phase (omega arith)
within d (at.RoundRow (aims.Read r) row) s w = rounds d (aims.Read r) (row + 2) s.in_phase.0 (omega (arith, s.in_phase.2))
within d (at.RoundRow (aims.Take taking) row) s w = rounds d (aims.Take taking) (row + 2) s.in_phase.0 (omega (arith, s.in_phase.2))
within d (at.RoundEnd aim) s w = rounds d aim (length d.log.rows + 2) s.in_phase.0 (omega arith)
within d (at.RoundBack aim row) s w = rounds d aim (row + 3) s.in_phase.0 (omega (arith, s.in_phase.2))
within d (at.Exchange taking) s w =
    omega (arith, most_take (core d (at.Exchange taking)) taking s.in_phase.0.is_open, s.in_phase.4, mul-le-mul_right {m = d.tries} {n = d.limits.patience} (d.entry + 3) s.in_phase.0.tries)
within d (at.BackLoad taking row) s w = holds_within d (at.BackLoad taking row) taking (2 * row + 1) s.in_phase.0 (omega (arith, s.in_phase.1)) (most_take (core d (at.BackLoad taking row)) taking s.in_phase.0.is_open.is_open)
within d (at.Store taking row None) s w = holds_within d (at.Store taking row None) taking (2 * row + 1) s.in_phase.0 (omega (arith, s.in_phase.1)) (most_take (core d (at.Store taking row None)) taking s.in_phase.0.is_open.is_open)
within d (at.Store taking row (Some word)) s w = holds_within d (at.Store taking row (Some word)) taking (2 * row + 2) s.in_phase.0 (omega (arith, s.in_phase.1)) (most_take (core d (at.Store taking row (Some word))) taking s.in_phase.0.is_open.is_open)
within d at.Free s w = holds_within d at.Free takings.Commit (2 * length d.frames.writes.rows + 1) s.in_phase (omega arith) refl
within d (at.Fetch x) s w = absurd s.in_phase
within d (at.Place x got) s w = absurd s.in_phase

waiting : (d : Data) (phase : Phase) → waits_of d phase ≢ None → IsOn phase
waiting d at.Idle n = n refl
waiting d phase n = tt

pub counts : (d : Data) (phase : Phase) → IsSound d phase → IsWithin (core d phase)
counts d phase s = λ n. within d phase s (waiting d phase n)

-- a bound that every call's most steps keep
few : (p k w s : ℕ) → p ≤ MAX_PATIENCE → k ≤ 2 ^ 64 + 5368709124 → w < 2 ^ 64 → s ≤ p * k + 2 * w + 2 → s < 2 ^ 128
few p k w s a b c h = omega (arith, h, mul-le p k MAX_PATIENCE (2 ^ 64 + 5368709124) a b)

read_few : (d : Data) (r : Reading) (c : Core) → c.irrevocable ≡ false → MayRead d r → d.words ≤ MAX_WORDS → c.patience ≤ MAX_PATIENCE → c.entry < 2 ^ 64 → d.spent ≤ most c (Some (call_for r.purpose r.at)) → d.spent < 2 ^ 128
read_few d r c i may w p e h = few c.patience (c.entry + total r + 4) (total r) d.spent p (omega (arith, e, few_read d r may w)) (omega (arith, few_read d r may w)) (omega (arith, most_read d r may c i, h))

take_few : (d : Data) (phase : Phase) (taking : Taking) → in_block d ≡ true → d.entry < 2 ^ 64 → d.limits.patience ≤ MAX_PATIENCE → length d.frames.writes.rows < 2 ^ 64
    → most (core d phase) (Some (call_of (aims.Take taking))) ≡ d.limits.patience * (d.entry + 3) + 2 * length d.frames.writes.rows + 2 → d.spent ≤ most (core d phase) (Some (call_of (aims.Take taking))) → d.spent < 2 ^ 128
take_few d phase taking o l p w e h = few d.limits.patience (d.entry + 3) (length d.frames.writes.rows) d.spent p (omega arith) w (omega (arith, e, h))

-- so the count fits
fits_most : (d : Data) (phase : Phase) → IsSound d phase → IsOn phase → length d.frames.writes.rows < 2 ^ 64 → d.entry < 2 ^ 64 → d.spent ≤ most (core d phase) (doing_of phase) → d.spent < 2 ^ 128
fits_most d at.Idle s w m e h = absurd w
fits_most d (at.Begin b) s w m e h = (let p = s.bounds.patient.1 in omega (arith, h, p, most_begin d (at.Begin b) b s.in_phase.0.is_open))
fits_most d (at.Take b) s w m e h = (let p = s.bounds.patient.1 in omega (arith, h, p, most_begin d (at.Take b) b s.in_phase.0.is_open))
fits_most d (at.Load r) s w m e h = read_few d r (core d (at.Load r)) refl s.in_phase.1 s.bounds.small s.bounds.patient.1 e h
fits_most d (at.Confirm r value) s w m e h = read_few d r (core d (at.Confirm r value)) refl s.in_phase.1 s.bounds.small s.bounds.patient.1 e h
fits_most d (at.RoundStart (aims.Read r)) s w m e h = read_few d r (core d (at.RoundStart (aims.Read r))) refl s.in_phase.may s.bounds.small s.bounds.patient.1 e h
fits_most d (at.RoundRow (aims.Read r) row) s w m e h = read_few d r (core d (at.RoundRow (aims.Read r) row)) refl s.in_phase.0.may s.bounds.small s.bounds.patient.1 e h
fits_most d (at.RoundEnd (aims.Read r)) s w m e h = read_few d r (core d (at.RoundEnd (aims.Read r))) refl s.in_phase.0.may s.bounds.small s.bounds.patient.1 e h
fits_most d (at.RoundStart (aims.Take t)) s w m e h = take_few d (at.RoundStart (aims.Take t)) t s.in_phase.is_open.is_open e s.bounds.patient.1 m (most_take (core d (at.RoundStart (aims.Take t))) t s.in_phase.is_open.is_open) h
fits_most d (at.RoundRow (aims.Take t) row) s w m e h = take_few d (at.RoundRow (aims.Take t) row) t s.in_phase.0.is_open.is_open e s.bounds.patient.1 m (most_take (core d (at.RoundRow (aims.Take t) row)) t s.in_phase.0.is_open.is_open) h
fits_most d (at.RoundEnd (aims.Take t)) s w m e h = take_few d (at.RoundEnd (aims.Take t)) t s.in_phase.0.is_open.is_open e s.bounds.patient.1 m (most_take (core d (at.RoundEnd (aims.Take t))) t s.in_phase.0.is_open.is_open) h
fits_most d (at.RoundBack (aims.Read r) row) s w m e h = read_few d r (core d (at.RoundBack (aims.Read r) row)) refl s.in_phase.0.may s.bounds.small s.bounds.patient.1 e h
fits_most d (at.RoundBack (aims.Take t) row) s w m e h = take_few d (at.RoundBack (aims.Take t) row) t s.in_phase.0.is_open.is_open e s.bounds.patient.1 m (most_take (core d (at.RoundBack (aims.Take t) row)) t s.in_phase.0.is_open.is_open) h
fits_most d (at.Exchange t) s w m e h = take_few d (at.Exchange t) t s.in_phase.0.is_open e s.bounds.patient.1 m (most_take (core d (at.Exchange t)) t s.in_phase.0.is_open) h
fits_most d (at.BackLoad t row) s w m e h = take_few d (at.BackLoad t row) t s.in_phase.0.is_open.is_open e s.bounds.patient.1 m (most_take (core d (at.BackLoad t row)) t s.in_phase.0.is_open.is_open) h
fits_most d (at.Store t row None) s w m e h = take_few d (at.Store t row None) t s.in_phase.0.is_open.is_open e s.bounds.patient.1 m (most_take (core d (at.Store t row None)) t s.in_phase.0.is_open.is_open) h
fits_most d (at.Store t row (Some word)) s w m e h = take_few d (at.Store t row (Some word)) t s.in_phase.0.is_open.is_open e s.bounds.patient.1 m (most_take (core d (at.Store t row (Some word))) t s.in_phase.0.is_open.is_open) h
fits_most d at.Free s w m e h = take_few d at.Free takings.Commit s.in_phase.is_open.is_open e s.bounds.patient.1 m refl h
fits_most d (at.Fetch x) s w m e h = absurd s.in_phase
fits_most d (at.Place x got) s w m e h = absurd s.in_phase

pub fits : (d : Data) (phase : Phase) → IsSound d phase → IsOn phase → length d.frames.writes.rows < 2 ^ 64 → d.entry < 2 ^ 64 → d.spent < 2 ^ 128
fits d phase s w m e = fits_most d phase s w m e (within d phase s w)

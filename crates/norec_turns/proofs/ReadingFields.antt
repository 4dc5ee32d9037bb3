-- The access in progress among the fields, and what a turn leaves of them, as callers see it.
use Rattle.std.proofs.Common.{◌≡◌, ℕ, ◌+◌, List, length, refl, ap, arith}
use Rattle.norec_turns.proofs.Common.{Data, FitsPurpose, IsAmong, IsFor, LogRow, Wait, Written, chunks_in, core_after, in_block, in_transaction, words_in-at}
use Rattle.norec_core.specs.declared.call_parts.Purpose.{Purpose}
use Rattle.norec_data.specs.declared.turn.Turn.{Turn}
use Rattle.word_pieces.specs.Pieces.{count_of}
use Rattle.norec_core.specs.declared.call_parts.Purpose.TheVariants as for

-- the words of a chunk that is read are some of its copy's
among_for : (words bytes written : ℕ) (writes : Written) (log : List LogRow) (buffer : List ℕ) (what : Purpose) (at size : ℕ) → FitsPurpose words bytes written writes log buffer what at size → IsAmong what (count_of at size)
among_for words bytes written writes log buffer (for.Value hint width) at size f = tt
among_for words bytes written writes log buffer (for.Chunk k n) at size f =
    let here = words_in-at k.from (chunks_in k) n f.chunk f.is in
    omega (arith, here, ap (λ (a : ℕ). count_of a size) f.at_is, ap (λ (s : ℕ). count_of (k.from + f.chunk.at) s) f.size_is)

pub among : (d : Data) (what : Purpose) (at size : ℕ) → IsFor d what at size → IsAmong what (count_of at size)
among d what at size f = among_for d.words (length d.arena) d.written d.frames.writes d.log.rows d.buffer.items what at size f

-- what a turn leaves, as callers see it
pub after_log : (turn : Turn) (d : Data) → (core_after turn d).log ≡ d.log.rows
after_log (Wait phase) d = refl
after_log turn d = refl

pub after_open : (turn : Turn) (d : Data) → in_transaction (core_after turn d) ≡ in_block d
after_open (Wait phase) d = refl
after_open turn d = refl

pub after_snapshot : (turn : Turn) (d : Data) → (core_after turn d).snapshot ≡ d.snapshot
after_snapshot (Wait phase) d = refl
after_snapshot turn d = refl

use Rattle.std.proofs.Common.{◌≡◌, ℕ, ◌+◌, ◌/◌, ◌%◌, ◌≤◌, ◌==◌, sym, ap, subst, ◌∙◌, arith}
use Rattle.norec_accesses.proofs.Common.{IsValue, Piece, Reading, cond_both, count, eqb-true, part}
use Rattle.norec_accesses.proofs.reads.is_whole.Goals as goal

-- past a piece that ends where the value does there is none
ends_last : (r : Reading) → (part r).at + (part r).count ≡ r.size → count r ≤ r.number + 1
ends_last r ends = cond_both (r.size == 0) 0 ((r.at % 8 + r.size + 7) / 8) (λ (n : ℕ). n ≤ r.number + 1) (λ none. omega arith) (λ some. omega (arith, ends))

pub returns-in-Value : goal.returns-in-Value
returns-in-Value c =
    let r = c.args.reading.now in
    record {
      whole = λ yes. (
        subst IsValue (sym c.in-Value.is) tt,
        ends_last r (sym (ap (λ (p : Piece). p.at + p.count) c.requires.part) ∙ eqb-true (c.args.piece.at + c.args.piece.count) r.size yes),
      );
    }

use Rattle.std.proofs.Common.{ℕ, ◌^◌, ◌<◌, arith, ◌∙◌, subst, get_or, bit_xor}
use Rattle.shared_words.proofs.Common.{Moves, StepTells, Store, held_cells, view_of}
use Rattle.shared_words.proofs.ViewsFit.{over_step}
use Rattle.shared_words.proofs.TableSteps.{allows_change, changed, store_high, store_holds}
use Rattle.shared_words.proofs.words.Words.change.Goals as goal

pub fetch_xor-requires : goal.fetch_xor-requires
fetch_xor-requires g c =
    let v = view_of c.args.pass.now in
    let is = changed v c.args.cell c.args.found c.args.new c.requires.cell.0 c.requires.found in
    let small : bit_xor (get_or (held_cells v) c.args.cell 0) (bit_xor c.args.found c.args.new) < 2 ^ 64 = omega arith in
    (c.requires.own.same, c.requires.cell.1, allows_change _ _ _ (omega (arith, c.args.pass.now.counted)) c.args.cell (bit_xor c.args.found c.args.new) c.requires.cell.0 c.requires.holds small)

pub invariant_of-pass : goal.invariant_of-pass
invariant_of-pass g c = record {
  counted = c.fetch_xor.ensures.2.1 ∙ c.args.pass.now.counted;
  flagged = store_holds _ _ c.args.cell _ 0 (λ e. (let word = c.requires.cell.0 in omega arith)) c.fetch_xor.ensures.2.0 ∙ c.args.pass.now.flagged;
  latest = store_high _ _ c.args.cell _ 0 (λ e. (let word = c.requires.cell.0 in omega arith)) c.fetch_xor.ensures.2.0 ∙ c.args.pass.now.latest;
  slotless = c.fetch_xor.ensures.2.2 ∙ c.args.pass.now.slotless;
}

pub returns : goal.returns
returns g c =
    let v = view_of c.args.pass.now in
    let w = c.fetch_xor.new.seat.me.0 in
    let is = changed v c.args.cell c.args.found c.args.new c.requires.cell.0 c.requires.found in
    let turn : StepTells v (Store c.args.cell c.args.new) 0 w = subst (λ (x : ℕ). StepTells v (Store c.args.cell x) 0 w) is c.fetch_xor.ensures.2.0 in
    record {
      own = record {
        same = c.fetch_xor.ensures.0 ∙ c.requires.own.same;
        over = over_step _ _ _ c.requires.own.over (Store c.args.cell c.args.new) 0 (c.requires.holds, λ e. (let word = c.requires.cell.0 in absurd (omega arith))) (omega arith) turn;
      };
      turn = turn;
      moves = subst (λ (x : ℕ). Moves v (Store c.args.cell x) 0 w) is c.fetch_xor.ensures.2.3;
    }

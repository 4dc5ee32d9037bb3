use Rattle.std.proofs.Common.{◌≡◌, arith, take, drop}
use Rattle.tx_history.proofs.AppendedTexts.{hex_starts, hex_grown, hex_whole}
use Rattle.tx_history.proofs.page.Page.hex_in_chunks.Goals as goal

pub loop-at-init : goal.loop-at-init
loop-at-init g c = record { carries = hex_starts _ c.args.bytes.now; far = omega arith }

pub loop-at-preserved : goal.loop-at-preserved
loop-at-preserved g c =
    let e : c.split_at-in-loop-at.result.0.now ≡ take c.min-n.result (drop c.loop-at.at c.args.bytes.now) = cc in
    record {
      carries = hex_grown _ _ _ c.args.bytes.now c.loop-at.at c.min-n.result c.loop-at.invariant.carries (rw (← e) c.chunk.ensures);
      far = omega arith;
    }

pub returns : goal.returns
returns g c = record {
  carries = hex_whole _ _ c.args.bytes.now c.loop-at.at c.loop-at.invariant.carries c.loop-at-test.false;
  fits = λ i. (c.type_inv.bytes i).fits;
}

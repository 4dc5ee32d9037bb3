use Rattle.std.proofs.Common.{arith, ap, sym, ◌∙◌, ◌++◌, [], ◌∷◌, List}
use Rattle.run_commands.proofs.Common.{Item, Out, map-range_with_len_more}
use Rattle.run_commands.proofs.running.each_out.Goals as goal

pub loop-thread-preserved : goal.loop-thread-preserved
loop-thread-preserved c =
    c.in_ok-push.ensures.items ∙ ap (λ (l : List Item). l ++ Out c.loop-thread.thread ∷ []) c.loop-thread.invariant ∙ sym (map-range_with_len_more Out 0 c.loop-thread.thread c.loop-thread.thread (omega arith))

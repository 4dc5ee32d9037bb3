use Rattle.std.proofs.Common.{ℕ, List, ◌++◌, ap, sym, ◌∙◌, add-one}
use Rattle.history_picture.proofs.Common.{one_thread, threads_below}
use Rattle.history_picture.proofs.columns.columns_of.Goals as goal

pub loop-thread-preserved : goal.loop-thread-preserved
loop-thread-preserved c =
    let ts = c.as_slice-attempts.result.now in
    let i = c.loop-thread.thread in
    c.in_ok-add_thread.ensures ∙ ap (λ (l : List ℕ). l ++ one_thread ts i) c.loop-thread.invariant ∙ ap (threads_below ts) (sym (add-one i))

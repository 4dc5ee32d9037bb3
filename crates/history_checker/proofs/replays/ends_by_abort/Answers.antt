use Rattle.std.proofs.Common.{ap, sym, ◌∙◌, arith}
use Rattle.history_checker.proofs.Common.{CallRecord, is_abort_done}
use Rattle.history_checker.proofs.Steps.Calls.{last_item}
use Rattle.history_checker.proofs.replays.ends_by_abort.Goals as goal

pub returns-in-len1-up : goal.returns-in-len1-up
returns-in-len1-up c =
    let test = λ (e : CallRecord). is_abort_done e.call e.reply in
    c.is_abort_done.ensures ∙ (ap test c.last-item.is ∙ sym (last_item test c.args.calls.now c.last-item.result (omega (arith, c.in-len1-up.len_at_least))))

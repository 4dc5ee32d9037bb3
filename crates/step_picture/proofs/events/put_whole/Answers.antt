use Rattle.step_picture.proofs.Common.{mark_in, puts_cut, three, three_cut_first, three_cut_second}
use Rattle.step_picture.proofs.events.put_whole.Goals as goal

pub returns-in_err-put_bar : goal.returns-in_err-put_bar
unfolding mark_in
returns-in_err-put_bar g c = puts_cut _ _ _ _ c.from_residual.ensures.0 (three_cut_first _ _ _ _ _ c.in_err-put_bar.ensures)

pub returns-in_err-put_event : goal.returns-in_err-put_event
unfolding mark_in
returns-in_err-put_event g c = puts_cut _ _ _ _ c.from_residual-in_err-put_event.ensures.0 (three_cut_second _ _ _ _ _ _ c.in_ok-put_bar.ensures c.in_err-put_event.ensures)

pub returns : goal.returns
unfolding mark_in
returns g c = three _ _ _ _ _ _ _ c.put_back.result c.in_ok-put_bar.ensures c.in_ok-put_event.ensures c.put_back.ensures

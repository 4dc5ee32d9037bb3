use Rattle.itm_c.proofs.SameWords.{answered_over, over_still, told_over}
use Rattle.itm_c.proofs.whole_run.try_to_store.Goals as goal

pub returns-clause-same : goal.returns-clause-same
returns-clause-same c =
    let begun = told_over c.args.thread.now.kept c.itm_c_begin.new.thread.kept _ _ _ c.itm_c_begin.ensures.told in
    let wrote = told_over c.itm_c_begin.new.thread.kept c.itm_c_write8.new.thread.kept _ _ _ c.itm_c_write8.ensures.told in
    let done = answered_over c.itm_c_write8.new.thread.kept c.itm_c_commit.new.thread.kept _ _ c.itm_c_commit.ensures.answered in
    over_still c.args.thread.now.kept c.itm_c_write8.new.thread.kept c.itm_c_commit.new.thread.kept
    (over_still c.args.thread.now.kept c.itm_c_begin.new.thread.kept c.itm_c_write8.new.thread.kept begun wrote) done

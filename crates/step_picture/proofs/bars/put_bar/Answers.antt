use Rattle.step_picture.proofs.Common.{Appends-nil, ended_bar}
use Rattle.step_picture.proofs.bars.put_bar.Goals as goal

pub returns-in-GoesOn : goal.returns-in-GoesOn
unfolding ended_bar
returns-in-GoesOn g c = rw c.in-GoesOn.is (Appends-nil _)

pub returns-in-Begun : goal.returns-in-Begun
unfolding ended_bar
returns-in-Begun g c = rw c.in-Begun.is (Appends-nil _)

pub returns-in-NotBegun : goal.returns-in-NotBegun
unfolding ended_bar
returns-in-NotBegun g c = rw c.in-NotBegun.is (Appends-nil _)

pub returns-in-Replied : goal.returns-in-Replied
unfolding ended_bar
returns-in-Replied g c = rw c.in-Replied.is (Appends-nil _)

pub returns-in-Restarted : goal.returns-in-Restarted
unfolding ended_bar
returns-in-Restarted g c = rw c.in-Restarted.is (Appends-nil _)

pub returns-in-Ended : goal.returns-in-Ended
unfolding ended_bar
returns-in-Ended g c = rw c.in-Ended.is c.put_ended.ensures

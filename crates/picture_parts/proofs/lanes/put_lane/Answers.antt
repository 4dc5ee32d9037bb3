use Rattle.std.proofs.Common.{sym, ◌∙◌}
use Rattle.std.proofs.KnownBytes.{Appends-nil}
use Rattle.picture_parts.proofs.lanes.put_lane.Goals as goal

pub returns-in-Some : goal.returns-in-Some
returns-in-Some g c = rw (sym c.thread_at.ensures ∙ c.in-Some.is) c.put_thread.ensures

pub returns-in-None : goal.returns-in-None
returns-in-None g c = rw (sym c.thread_at.ensures ∙ c.in-None.is) (Appends-nil _)

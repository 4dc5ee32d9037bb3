use Rattle.std.proofs.Common.{ℕ, length, sym, ap, ◌∙◌}
use Rattle.step_picture.proofs.Common.{Appends-nil, mark_in, put_as}
use Rattle.step_picture.proofs.events.put_mark.Goals as goal

pub returns-in-Some : goal.returns-in-Some
returns-in-Some g c =
    rw (sym c.event_at.ensures ∙ c.in-Some.is)
    (put_as _ _ _ _ _ c.put_whole.ensures (ap (λ (l : ℕ). mark_in (length c.args.columns.now) l c.args.marks.now c.args.at c.in-Some.mark) c.lane_in-lane.ensures))

pub returns-in-None : goal.returns-in-None
returns-in-None g c = rw (sym c.event_at.ensures ∙ c.in-None.is) (Appends-nil _)

use Rattle.std.proofs.Common.{length, ap, arith, length-append}
use Rattle.nest_frames.proofs.Common.{Moment, option_to_list}
use Rattle.nest_frames.proofs.moments.Moments.pop.Goals as goal

pub invariant_of-self : goal.invariant_of-self
invariant_of-self c =
    let less = ap (length {A = Moment}) c.pop.ensures.items in
    record {
      few = omega (arith, c.self.invariant.few, less, length-append c.pop.new.self.items (option_to_list c.pop.result));
      room = omega (arith, c.self.invariant.room, c.pop.ensures.capacity);
    }

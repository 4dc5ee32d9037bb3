use Rattle.std.proofs.Common.{◌∷◌, [], length, ap, arith, length-append}
use Rattle.nest_frames.proofs.Common.{Begins, Moment}
use Rattle.nest_frames.proofs.moments.Moments.push.Goals as goal

pub push_reserved-requires : goal.push_reserved-requires
push_reserved-requires c =
    let moments = ap (λ (b : Begins). length b.items) c.self.view_is in
    let most = ap (λ (b : Begins). b.most) c.self.view_is in
    omega (arith, c.requires, c.self.invariant.room, moments, most)

pub invariant_of-self : goal.invariant_of-self
invariant_of-self c =
    let moments = ap (λ (b : Begins). length b.items) c.self.view_is in
    let most = ap (λ (b : Begins). b.most) c.self.view_is in
    let more = ap (length {A = Moment}) c.push_reserved.ensures.items in
    record {
      few = omega (arith, c.requires, moments, most, more, length-append c.self.inside.places.items (c.args.moment ∷ []));
      room = omega (arith, c.self.invariant.room, c.push_reserved.ensures.capacity);
    }

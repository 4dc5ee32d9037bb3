use Rattle.std.proofs.Common.{refl, subst, sym, ◌∙◌, ap}
use Rattle.tx_runs.proofs.Common.{LacksPlaces, Open, Rooms, open_of}
use Rattle.tx_runs.proofs.OpenRooms.{err_with, on_err}
use Rattle.tx_runs.proofs.open_attempt.OpenAttempt.prepare_places.Goals as goal

pub returns-in_err-places-clause-short : goal.returns-in_err-places-clause-short
returns-in_err-places-clause-short c = on_err c.from_residual.result (λ arena.
    subst (λ (o : Open). LacksPlaces c.args.call.now c.args.actions c.args.ahead arena o) (sym c.in_err-places.ensures.err.1) (c.if-not-takes_places.ensures.takes refl c.args.self.now.row arena))

pub returns-clause-short : goal.returns-clause-short
returns-clause-short c = err_with c.prepare-made.result (λ short arena.
    subst (λ (o : Open). LacksPlaces c.args.call.now c.args.actions c.args.ahead arena o)
    (ap (λ (p : Rooms). open_of c.args.self.now.row p) c.deref_mut.ensures.value ∙ sym c.in_ok-places.ensures.taken)
    (short c.args.self.now.row arena))
    c.prepare-made.ensures.short

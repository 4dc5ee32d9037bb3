use Rattle.std.proofs.Common.{refl, sym, ◌∙◌}
use Rattle.itm_runtime.proofs.Common.{Asks, Load, finds_first, last_finishes}
use Rattle.norec_engine.proofs.BlockSteps.{closed_of}
use Rattle.call_rules.proofs.Steps.ClockLooks.{clock_fits, clock_within, may_look}
use Rattle.itm_runtime.proofs.blocks.begin_block.Goals as goal

pub step-clock-requires : goal.step-clock-requires
step-clock-requires g c =
    let closed = closed_of c.args.engine.now c.args.props (sym c.begins_outer.ensures ∙ c.if-not-begins_outer.false) in
    record { own = c.requires.own; cell = clock_within _ _ c.requires.own.over; lawful = may_look _ c.args.engine.now c.requires.stands closed }

pub begin_outer-requires-clause-outer : goal.begin_outer-requires-clause-outer
begin_outer-requires-clause-outer g c = sym c.begins_outer.ensures ∙ c.if-not-begins_outer.false

pub begin_at_once-requires-clause-outer : goal.begin_at_once-requires-clause-outer
begin_at_once-requires-clause-outer g c = sym c.begins_outer.ensures ∙ c.if-not-begins_outer.false

pub begin_at_once-requires-clause-fits : goal.begin_at_once-requires-clause-fits
begin_at_once-requires-clause-fits g c = clock_fits _ _ c.args.engine.now _ c.requires.stands c.step-clock.ensures.turn

pub returns-then-clock-ne0 : goal.returns-then-clock-ne0
returns-then-clock-ne0 g c = record {
  came = c.begin_outer.new.self;
  first = Asks (Load 0);
  called = c.begin_outer.ensures;
  finds = finds_first refl c.step-clock.ensures.moves c.step-clock.ensures.turn c.step-clock.ensures.own c.requires.own.over;
}

pub returns : goal.returns
returns g c =
    let begun = c.begin_at_once.ensures c.args.room in
    record {
      came = begun.mid;
      first = Asks (Load 0);
      called = begun.called;
      finishes = last_finishes refl c.step-clock.ensures.moves c.step-clock.ensures.turn c.step-clock.ensures.own begun.resumed;
    }

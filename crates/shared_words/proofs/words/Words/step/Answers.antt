use Rattle.std.proofs.Common.{◌<◌, arith, ◌∙◌, subst}
use Rattle.shared_words.proofs.Common.{Cas, Lawful, Load, Step, Store, cell_of, cells_of, view_of}
use Rattle.shared_words.proofs.ViewsFit.{over_step}
use Rattle.shared_words.proofs.TableSteps.{allows_load, allows_store, allows_exchange, load_high, load_holds, load_latest, store_high, store_holds}
use Rattle.shared_words.proofs.words.Words.step.Goals as goal

pub load-value-requires : goal.load-value-requires
load-value-requires g c =
    let v = view_of c.args.pass.now in
    let can : Lawful v (Load c.in-Load.cell) = subst (Lawful v) c.in-Load.is c.requires.lawful in
    let room : c.in-Load.cell < cells_of c.args.self.now = subst (λ (s : Step). cell_of s < cells_of c.args.self.now) c.in-Load.is c.requires.cell in
    (c.requires.own.same, room, allows_load _ _ _ (omega (arith, c.args.pass.now.counted)) c.in-Load.cell can)

pub store-requires : goal.store-requires
store-requires g c =
    let v = view_of c.args.pass.now in
    let can : Lawful v (Store c.in-Store.cell c.in-Store.new) = subst (Lawful v) c.in-Store.is c.requires.lawful in
    let room : c.in-Store.cell < cells_of c.args.self.now = subst (λ (s : Step). cell_of s < cells_of c.args.self.now) c.in-Store.is c.requires.cell in
    (c.requires.own.same, room, allows_store _ _ _ (omega (arith, c.args.pass.now.counted)) c.in-Store.cell c.in-Store.new can (omega arith))

pub compare_exchange-found-requires : goal.compare_exchange-found-requires
compare_exchange-found-requires g c =
    let v = view_of c.args.pass.now in
    let can : Lawful v (Cas c.in-Cas.cell c.in-Cas.old c.in-Cas.new) = subst (Lawful v) c.in-Cas.is c.requires.lawful in
    let room : c.in-Cas.cell < cells_of c.args.self.now = subst (λ (s : Step). cell_of s < cells_of c.args.self.now) c.in-Cas.is c.requires.cell in
    (c.requires.own.same, room, allows_exchange _ _ _ (omega (arith, c.args.pass.now.counted)) c.in-Cas.cell c.in-Cas.old c.in-Cas.new can)

pub invariant_of-pass : goal.invariant_of-pass
invariant_of-pass g c = record {
  counted = c.load-value.ensures.2.1 ∙ c.args.pass.now.counted;
  flagged = load_holds _ _ _ _ c.load-value.ensures.2.0 ∙ c.args.pass.now.flagged;
  latest = load_latest _ _ c.in-Load.cell _ (omega arith) c.load-value.ensures.2.0;
  slotless = c.load-value.ensures.2.2 ∙ c.args.pass.now.slotless;
}

pub invariant_of-pass-else-cell-eq0 : goal.invariant_of-pass-else-cell-eq0
invariant_of-pass-else-cell-eq0 g c = record {
  counted = c.load-value.ensures.2.1 ∙ c.args.pass.now.counted;
  flagged = load_holds _ _ _ _ c.load-value.ensures.2.0 ∙ c.args.pass.now.flagged;
  latest = load_high _ _ c.in-Load.cell _ (λ e. omega arith) c.load-value.ensures.2.0 ∙ c.args.pass.now.latest;
  slotless = c.load-value.ensures.2.2 ∙ c.args.pass.now.slotless;
}

pub invariant_of-pass-else-cell-eq0-2 : goal.invariant_of-pass-else-cell-eq0-2
invariant_of-pass-else-cell-eq0-2 g c = record {
  counted = c.store.ensures.2.1 ∙ c.args.pass.now.counted;
  flagged = store_holds _ _ c.in-Store.cell c.in-Store.new 0 (λ e. omega arith) c.store.ensures.2.0 ∙ c.args.pass.now.flagged;
  latest = store_high _ _ c.in-Store.cell c.in-Store.new 0 (λ e. omega arith) c.store.ensures.2.0 ∙ c.args.pass.now.latest;
  slotless = c.store.ensures.2.2 ∙ c.args.pass.now.slotless;
}

pub returns-then-cell-eq0-clause-own : goal.returns-then-cell-eq0-clause-own
returns-then-cell-eq0-clause-own g c = record {
  same = c.load-value.ensures.0 ∙ c.requires.own.same;
  over = over_step _ _ _ c.requires.own.over (Load c.in-Load.cell) _ (subst (Lawful (view_of c.args.pass.now)) c.in-Load.is c.requires.lawful) tt c.load-value.ensures.2.0;
}

pub returns-else-cell-eq0-clause-own : goal.returns-else-cell-eq0-clause-own
returns-else-cell-eq0-clause-own g c = record {
  same = c.load-value.ensures.0 ∙ c.requires.own.same;
  over = over_step _ _ _ c.requires.own.over (Load c.in-Load.cell) _ (subst (Lawful (view_of c.args.pass.now)) c.in-Load.is c.requires.lawful) tt c.load-value.ensures.2.0;
}

pub returns-then-cell-eq0-2-clause-own : goal.returns-then-cell-eq0-2-clause-own
returns-then-cell-eq0-2-clause-own g c = record {
  same = c.store.ensures.0 ∙ c.requires.own.same;
  over = over_step _ _ _ c.requires.own.over (Store c.in-Store.cell c.in-Store.new) 0 (subst (Lawful (view_of c.args.pass.now)) c.in-Store.is c.requires.lawful) (omega arith) c.store.ensures.2.0;
}

pub returns-else-cell-eq0-2-clause-own : goal.returns-else-cell-eq0-2-clause-own
returns-else-cell-eq0-2-clause-own g c = record {
  same = c.store.ensures.0 ∙ c.requires.own.same;
  over = over_step _ _ _ c.requires.own.over (Store c.in-Store.cell c.in-Store.new) 0 (subst (Lawful (view_of c.args.pass.now)) c.in-Store.is c.requires.lawful) (omega arith) c.store.ensures.2.0;
}

use Rattle.std.proofs.Common.{◌≡◌, rules, false, List, None, sym, ap, subst, ◌∙◌}
use Rattle.norec_engine.proofs.Common.{Core, Data, IsWord, Joins, Row, counted, engine_in, lookup, phase_of, rows_before}
use Rattle.norec_engine.proofs.SettledEngines.{counts_in, settled_in}
use Rattle.norec_engine.proofs.WholeReads.{confirms, joins_none, mode_is, rows_loaded, same_load, same_wait, stage_is}
use Rattle.norec_engine.proofs.engine.Engine.load_fast.Goals as goal

pub returns-clause-resumed : goal.returns-clause-resumed
returns-clause-resumed c = record {
  proceeds = search rules;
  joins =
      (let s = c.self.inside.state in
      let b = c.self.inside.irrevocable in
      let phase = phase_of s c.self.inside.pending in
      let next = phase_of (counted c.loaded.new.state) c.in-Wait.next in
      subst (λ (e : Core). Joins e c.args.value (engine_in b (counted c.loaded.new.state) next)) c.self.view_is
      (subst (λ (d : Data). Joins (engine_in b s phase) c.args.value (engine_in b (counted d) next)) (sym c.loaded.ensures.state) (joins_none b s phase next c.args.value)));
  order = search rules;
  ends = tt;
  tries = search rules;
  snapshot = search rules;
  log = search rules;
  asks = search rules;
  count = counts_in c.self.inside.irrevocable (counted c.loaded.new.state) (phase_of (counted c.loaded.new.state) c.in-Wait.next) (search rules);
  settled = settled_in c.self.inside.irrevocable (counted c.loaded.new.state) (phase_of (counted c.loaded.new.state) c.in-Wait.next) (search rules);
  held = λ h. (let r = c.requires.loads.1.revocable in absurd (cc));
}

pub returns-clause-confirms : goal.returns-clause-confirms
returns-clause-confirms c word l =
    let s = c.self.inside.state in
    let b = c.self.inside.irrevocable in
    let phase = phase_of s c.self.inside.pending in
    let mode : b ≡ false = sym (mode_is b s phase) ∙ (ap (λ (e : Core). e.irrevocable) c.self.view_is ∙ l.revocable) in
    let loads = sym (ap (phase_of s) c.in-Load.is) ∙ (sym (stage_is b s phase) ∙ (ap (λ (e : Core). e.stage) c.self.view_is ∙ l.stage)) in
    let here : IsWord s.reading word = subst (λ r. IsWord r word) (sym (same_load s.reading l.reading loads)) l.is_word in
    let none : lookup word (rows_before s) ≡ None = subst (λ (rows : List Row). lookup word rows ≡ None) (sym (ap (λ (e : Core). e.writes) c.self.view_is) ∙ rows_loaded b s c.self.inside.pending mode c.in-Load.is) l.unwritten in
    confirms (counted c.loaded.new.state) word c.args.value b c.in-Wait.next mode (same_wait _ _ (sym c.in-Wait.is ∙ c.loaded.ensures.turn)) (subst (λ (d : Data). IsWord d.reading word) (sym c.loaded.ensures.state) here) (subst (λ (d : Data). lookup word (rows_before d) ≡ None) (sym c.loaded.ensures.state) none)

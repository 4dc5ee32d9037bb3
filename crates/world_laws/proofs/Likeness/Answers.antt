-- What comes of a call is recorded alike of two actors that are alike.
use Rattle.std.proofs.Common.{◌≡◌, ℕ, ◌/◌, ◌++◌, refl, sym, ap, subst, ◌∙◌}
use Rattle.world_laws.proofs.Common.{Actor, Answers, AreAlike, Asks as Steps, Call, Current, Next, Outside, Records, Rows, Rules, Stage, Taken, Tells, Waits, moved_to, stage_of, stand_of, status_after, tally_of, told, took_in, within}
use Rattle.world_rules.proofs.Common.{Answer}
use Rattle.tx_runs.specs.Tallies.{outside, begins}

-- two actors are alike, and where the same attempts had ended the same ones have
pub record GoAlike {P : Type 0} (r s r' s' : Rows) (a' b' : Actor P) : Type 0 where
  pub alike : AreAlike a' b'
  pub ended : r.ended ≡ s.ended → r'.ended ≡ s'.ended

-- ## Told where they read

abbrev moved_in : ℕ → Stage → Stage
moved_in at outside = outside
moved_in at (begins row) = begins row
moved_in at (within row points) = within (record row { at = at }) points

stage_moved : (at : ℕ) (c : Current) → stage_of (moved_to at c) ≡ moved_in at (stage_of c)
stage_moved at Outside = refl
stage_moved at c = refl

module _ {P : Type 0} where
  tally_told : (a : Actor P) → tally_of (told a).run ≡ record (tally_of a.run) { stage = moved_in (a.engine.snapshot / 2) (stage_of a.run.current) }
  tally_told a = λ i. record (tally_of a.run) { stage = stage_moved (a.engine.snapshot / 2) a.run.current i }

  pub told_same : (a b : Actor P) → AreAlike a b → AreAlike (told a) (told b)
  told_same a b k = record {
    thread = k.thread;
    retries = k.retries;
    tally = tally_told a ∙ ((λ i. record (k.tally i) { stage = moved_in ((k.engine i).snapshot / 2) (k.tally i).stage }) ∙ sym (tally_told b));
    engine = k.engine;
    status = k.status;
  }

-- ## Answers

module _ {P : Type 0} (rules : Rules P) (r s r' s' : Rows) (a b a' b' : Actor P) (k : AreAlike a b)
    (thread : a'.run.thread ≡ b'.run.thread) (retries : a'.run.retries ≡ b'.run.retries) (engine : a'.engine ≡ b'.engine) (call : Call) where
  recorded_alike : (answer : Answer) → Records rules r r' a a' call answer → Records rules s s' b b' call answer → GoAlike r s r' s' a' b'
  recorded_alike answer x y =
      let same : took_in rules a.run.retries (tally_of a.run) call answer (stand_of a'.engine) ≡ took_in rules b.run.retries (tally_of b.run) call answer (stand_of b'.engine)
      = λ i. took_in rules (k.retries i) (k.tally i) call answer (stand_of (engine i)) in
      record {
        alike = record {
          thread = thread;
          retries = retries;
          tally = x.takes.tally ∙ (ap (λ (t : Taken P). t.tally) same ∙ sym y.takes.tally);
          engine = engine;
          status = x.takes.status ∙ (ap (λ (t : Taken P). status_after t.end) same ∙ sym y.takes.status);
        };
        ended = λ e. x.takes.ended ∙ ((λ i. e i ++ (same i).over) ∙ sym y.takes.ended);
      }

  -- the call waits for its next step, or its answer is recorded
  pub told_alike : (what : Next) → Tells rules r r' a a' call what → Tells rules s s' b b' call what → GoAlike r s r' s' a' b'
  told_alike (Steps step) x y = record {
    alike = subst (λ (z : Actor P). AreAlike z b') (sym x.0) (subst (AreAlike (record a { status = Waits call step })) (sym y.0)
        (record { thread = k.thread; retries = k.retries; tally = k.tally; engine = k.engine; status = refl }));
    ended = λ e. ap (λ (z : Rows). z.ended) x.1 ∙ (e ∙ sym (ap (λ (z : Rows). z.ended) y.1));
  }
  told_alike (Answers answer) x y = recorded_alike answer x y

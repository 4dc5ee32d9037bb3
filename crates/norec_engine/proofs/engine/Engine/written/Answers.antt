use Rattle.std.proofs.Common.{◌≡◌, Bool, true, false, None, length, refl, sym, ap, ◌∙◌}
use Rattle.norec_engine.proofs.Common.{Core, Data, Pending, engine_in, phase_of}
use Rattle.norec_data.specs.declared.pending.Pending.TheVariants as waits
use Rattle.norec_engine.proofs.engine.Engine.written.Goals as goal

-- between two calls the rows are those of the write set
rows_of : (b : Bool) (d : Data) (p : Pending) → (engine_in b d (phase_of d p)).waits ≡ None → (engine_in b d (phase_of d p)).writes ≡ d.frames.writes.rows
rows_of true d p none = refl
rows_of false d waits.Idle none = refl
rows_of false d p none = absurd (cc)

pub returns : goal.returns
returns c =
    let s = c.self.inside in
    let none = ap (λ (e : Core). e.waits) c.self.view_is ∙ c.requires.idle in
    let rows = ap (λ (e : Core). e.writes) (sym c.self.view_is) ∙ rows_of s.irrevocable s.state s.pending none in
    c.len.ensures.len ∙ ap length (sym rows)

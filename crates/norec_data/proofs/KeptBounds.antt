-- What is true in every phase stays so where the arena's size and the depth do.
use Rattle.std.proofs.Common.{◌≡◌, ℕ, ◌<◌, sym, subst, ◌∙◌}
use Rattle.nest_frames.specs.Nest.{Nest}
use Rattle.norec_data.{specs.declared.data.Data.Data, specs.Bounds.IsBounded}

pub bounds_kept : (d : Data) (frames : Nest) → frames.size ≡ d.frames.size → frames.depth ≡ d.frames.depth → IsBounded d.words d.limits d.restarted d.snapshot d.frames.size d.frames.depth d.arena
    → IsBounded d.words d.limits d.restarted d.snapshot frames.size frames.depth d.arena
bounds_kept d frames size depth b = record {
  patient = b.patient;
  commits = b.commits;
  few = b.few;
  small = b.small;
  sized = size ∙ b.sized;
  deep = subst (λ (n : ℕ). 0 < n) (sym depth) b.deep;
  even = b.even;
}

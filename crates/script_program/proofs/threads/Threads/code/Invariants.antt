use Rattle.std.proofs.Common.{◌≡◌, ◌+◌, ◌++◌, ◌∷◌, [], take, drop}
use Rattle.std.{specs.Prelude.slice_get, specs.List.sum_by}
use Rattle.script_program.specs.Listing.{Part, codes_of}
use Rattle.script_program.proofs.threads.Threads.code.Given as goal

abbrev pub invariant-loop-section : goal.invariant-loop-section
invariant-loop-section l =
    let last : Part = record { count = l.self-inside.count; code = l.self-inside.code.items } in
    record {
      here : slice_get (codes_of (drop l.section-index l.self-inside.ended.items ++ last ∷ [])) l.left ≡ slice_get (codes_of (l.self-inside.ended.items ++ last ∷ [])) l.thread;
      left : sum_by (λ p. p.count) (take l.section-index l.self-inside.ended.items) + l.left ≡ l.thread;
    }

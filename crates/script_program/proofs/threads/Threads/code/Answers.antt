use Rattle.std.proofs.Common.{◌≡◌, ◌+◌, ◌<◌, ◌≤◌, List, [], ◌∷◌, length, get_or, Some, arith, sym, ap, ◌∙◌}
use Rattle.std.{specs.Prelude.slice_get, specs.List.sum_by}
use Rattle.script_program.specs.declared.instruction.Instruction.{Instruction}
use Rattle.script_program.specs.Listing.{Part, codes_of}
use Rattle.script_program.specs.Sections.{Sections, thread_total, instruction_total}
use Rattle.script_program.proofs.AddedSections.{code_here, found_here, goes_on, threads_taken, past_all}
use Rattle.script_program.proofs.threads.Threads.code.Goals as goal

pub returns-then-left-section-clause-value : goal.returns-then-left-section-clause-value
returns-then-left-section-clause-value c =
    let ended = c.self.inside.ended.items in
    let last : Part = record { count = c.self.inside.count; code = c.self.inside.code.items } in
    let same = c.deref-section-items.ensures.value in
    let inside : c.loop-section.section-index < length ended = rw same at c.loop-section-test.true in
    let is : c.section-item.result ≡ get_or ended c.loop-section.section-index c.section-item.result = rw same at c.section-item.is in
    let count : c.section.inside.count ≡ c.section-item.result.count = ap (λ (q : Part). q.count) c.section.view_is in
    let here : c.loop-section.left < c.section-item.result.count = omega (arith, c.if-left-section.true, count) in
    let code : c.section.inside.code.items ≡ c.section-item.result.code = ap (λ (q : Part). q.code) c.section.view_is in
    rw (← c.self.view_is)
    (sym c.loop-section.invariant.here ∙ found_here ended (last ∷ []) c.loop-section.section-index c.loop-section.left c.section-item.result inside is here
    ∙ ap (λ (x : List Instruction). Some x) (sym (c.deref.ensures.value ∙ code)))

pub loop-section-preserved : goal.loop-section-preserved
loop-section-preserved c =
    let ended = c.self.inside.ended.items in
    let last : Part = record { count = c.self.inside.count; code = c.self.inside.code.items } in
    let same = c.deref-section-items.ensures.value in
    let inside : c.loop-section.section-index < length ended = rw same at c.loop-section-test.true in
    let is : c.section-item.result ≡ get_or ended c.loop-section.section-index c.section-item.result = rw same at c.section-item.is in
    let count : c.section.inside.count ≡ c.section-item.result.count = ap (λ (q : Part). q.count) c.section.view_is in
    let past : c.section-item.result.count ≤ c.loop-section.left = omega (arith, c.if-left-section.false, count) in
    record {
      here = rw count (sym (goes_on ended (last ∷ []) c.loop-section.section-index c.loop-section.left c.section-item.result inside is past) ∙ c.loop-section.invariant.here);
      left = omega (arith, threads_taken ended c.loop-section.section-index c.section-item.result inside is, count, past, c.loop-section.invariant.left);
    }

pub returns-clause-value : goal.returns-clause-value
unfolding thread_total
returns-clause-value c =
    let ended = c.self.inside.ended.items in
    let last : Part = record { count = c.self.inside.count; code = c.self.inside.code.items } in
    let outside : length ended ≤ c.loop-section.section-index = rw c.deref-section-items.ensures.value at c.loop-section-test.false in
    let past = past_all ended (last ∷ []) c.loop-section.section-index outside in
    let total : sum_by (λ p. p.count) ended + c.self.inside.count ≡ thread_total c.args.self.now = ap (λ (t : Sections). thread_total t) c.self.view_is in
    let seen : sum_by (λ p. p.count) ended + c.loop-section.left ≡ c.args.thread = rw past.1 at c.loop-section.invariant.left in
    let here : c.loop-section.left < last.count = omega (arith, total, seen, c.requires) in
    rw (← c.self.view_is)
    (sym c.loop-section.invariant.here ∙ ap (λ (q : List Part). slice_get (codes_of q) c.loop-section.left) past.0 ∙ code_here last [] c.loop-section.left here
    ∙ ap (λ (x : List Instruction). Some x) (sym c.deref-2.ensures.value))

pub returns-clause-few : goal.returns-clause-few
unfolding instruction_total
returns-clause-few c = omega (arith, c.deref-2.ensures.len, c.self.invariant.1, c.self.invariant.3)

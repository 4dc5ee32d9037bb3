use Rattle.std.proofs.Common.{ℕ, Result, Ok, Err, ◌≡◌, ◌+◌, ◌<◌, ◌≤◌, ◌++◌, List, length, take, drop, arith, refl, ap, sym, ◌∙◌, subst}
use Rattle.std.{specs.Prelude.OnErr, specs.List.repeat}
use Rattle.script_program.specs.declared.instruction.Instruction.{Instruction}
use Rattle.script_program.specs.Sections.{Sections, instruction_total, expanded}
use Rattle.script_program.proofs.Repeats.{room, few_more, longer, more_again, cut_back, part_is, within_them}
use Rattle.script_program.proofs.threads.Threads.repeat.Goals as goal

-- where it holds in any case
whatever : {A E P : Type 0} (r : Result A E) → P → OnErr r P
whatever (Ok x) p = tt
whatever (Err e) p = p

pub returns-in_err-piece-clause-refused : goal.returns-in_err-piece-clause-refused
returns-in_err-piece-clause-refused c = whatever c.from_residual.result (longer c.args.self.now c.args.start c.args.times c.code_len-end.result c.code_len-end.ensures (omega arith) (omega arith), refl)

pub overflow_mul-size : goal.overflow_mul-size
overflow_mul-size c =
    let s : Sections = c.args.self.now in
    let start = c.args.start in
    let group : c.split_at.result.1.now ≡ drop start s.code = c.split_at.ensures.back ∙ ap (drop start) (c.deref.ensures.value ∙ ap (λ (t : Sections). t.code) c.self.view_is) in
    omega (arith, few_more s start c.args.times c.split_at.result.1.now group c.requires)

pub returns-in_err-reserve_code-clause-refused : goal.returns-in_err-reserve_code-clause-refused
returns-in_err-reserve_code-clause-refused c = whatever c.from_residual-in_err-reserve_code.result (longer c.args.self.now c.args.start c.args.times c.code_len-end.result c.code_len-end.ensures (omega arith) (omega arith), c.reserve_code.ensures)

pub split_at-requires-in-loop-count : goal.split_at-requires-in-loop-count
split_at-requires-in-loop-count c =
    let few : c.min-more.result ≤ c.clamp-most.result = omega (arith, c.min-more.ensures) in
    let piece : c.deref-in-loop-count.result.now ≡ repeat c.clamp-most.result c.split_at.result.1.now = c.deref-in-loop-count.ensures.value ∙ c.in_ok-piece.ensures in
    omega (arith, within_them c.min-more.result c.clamp-most.result c.split_at.result.1.now few, ap length piece)

pub append-requires : goal.append-requires
append-requires c =
    let s : Sections = c.args.self.now in
    let start = c.args.start in
    let n = c.min-more.result in
    let few : n ≤ c.clamp-most.result = omega (arith, c.min-more.ensures) in
    let group : c.split_at.result.1.now ≡ drop start s.code = c.split_at.ensures.back ∙ ap (drop start) (c.deref.ensures.value ∙ ap (λ (t : Sections). t.code) c.self.view_is) in
    let part : c.split_at-in-loop-count.result.0.now ≡ repeat n (drop start s.code) = part_is n c.clamp-most.result _ _ _ _ few (c.deref-in-loop-count.ensures.value ∙ c.in_ok-piece.ensures) group c.split_at-in-loop-count.ensures.front in
    let here : instruction_total (expanded s start c.loop-count.count) + length (repeat n (drop start s.code)) ≤ 65536 = room s start c.loop-count.count n c.args.times (omega arith) (omega (arith, c.min-more.ensures)) c.requires in
    let there : instruction_total (expanded s start c.loop-count.count) + length c.split_at-in-loop-count.result.0.now ≤ 65536 = subst (λ (l : List Instruction). instruction_total (expanded s start c.loop-count.count) + length l ≤ 65536) (sym part) here in
    record { room = subst (λ (t : Sections). instruction_total t + length c.split_at-in-loop-count.result.0.now ≤ 65536) (sym c.loop-count.invariant.same) there }

-- so much more
abbrev next : Sections → List Instruction → Sections
next t more = record t { code = t.code ++ more }

pub loop-count-preserved : goal.loop-count-preserved
loop-count-preserved c =
    let s : Sections = c.args.self.now in
    let start = c.args.start in
    let n = c.min-more.result in
    let few : n ≤ c.clamp-most.result = omega (arith, c.min-more.ensures) in
    let group : c.split_at.result.1.now ≡ drop start s.code = c.split_at.ensures.back ∙ ap (drop start) (c.deref.ensures.value ∙ ap (λ (t : Sections). t.code) c.self.view_is) in
    let part : c.split_at-in-loop-count.result.0.now ≡ repeat n (drop start s.code) = part_is n c.clamp-most.result _ _ _ _ few (c.deref-in-loop-count.ensures.value ∙ c.in_ok-piece.ensures) group c.split_at-in-loop-count.ensures.front in
    let now : c.append.new.self ≡ next c.loop-count.self c.split_at-in-loop-count.result.0.now = c.in-Ok.ensures.ok in
    record {
      same = now ∙ ap (next c.loop-count.self) part ∙ ap (λ (t : Sections). next t (repeat n (drop start s.code))) c.loop-count.invariant.same ∙ more_again s start c.loop-count.count n;
      some = omega arith;
      most = omega (arith, c.min-more.ensures);
    }

-- what stands up to an end
abbrev up_to : Sections → ℕ → Sections
up_to t end = record t { code = take end t.code }

pub returns-in-Err-clause-refused : goal.returns-in-Err-clause-refused
returns-in-Err-clause-refused c =
    let s : Sections = c.args.self.now in
    let start = c.args.start in
    let end = c.code_len-end.result in
    let more : length s.code < length (expanded s start c.args.times).code = longer s start c.args.times end c.code_len-end.ensures (omega arith) (omega arith) in
    let cut : c.cut-in-Err.new.self ≡ up_to c.append.new.self end = c.cut-in-Err.ensures in
    let same : c.append.new.self ≡ expanded s start c.loop-count.count = c.in-Err.ensures.refused ∙ c.loop-count.invariant.same in
    (more, cut ∙ ap (λ (t : Sections). up_to t end) same ∙ ap (up_to (expanded s start c.loop-count.count)) c.code_len-end.ensures ∙ cut_back s start c.loop-count.count c.loop-count.invariant.some)

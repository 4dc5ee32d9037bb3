use Rattle.std.proofs.Common.{◌≡◌, ℕ, List, [], ◌∷◌, ◌++◌, ap, ◌∙◌, codes}
use Rattle.script_print.proofs.Common.{depth_lines, lines_text, number_fields, on_ok_weaker, restart_lines}
use Rattle.itm_types.specs.declared.limits.Limits.{Limits}
use Rattle.script_print.proofs.Texts.LineTexts.{lines_put}
use Rattle.script_print.proofs.whole.put_limits.Goals as goal

pub returns : goal.returns
returns c =
    let p = c.args.program.now in
    let old = c.args.text.now.items in
    let memory : List (List ℕ) = number_fields (codes ".memory") p.memory.size in
    let arena : List (List ℕ) = number_fields (codes ".arena") p.arena in
    let patience : List (List ℕ) = number_fields (codes ".patience") p.limits.patience in
    let retries : List (List ℕ) = number_fields (codes ".retries") p.limits.retries in
    let commits : List (List ℕ) = number_fields (codes ".commits") p.limits.max_commits in
    let patient : c.from.result ≡ p.limits.patience = c.from.ensures ∙ ap (λ (l : Limits). l.patience) c.limits-limits.ensures.value in
    let retried : c.from-2.result ≡ p.limits.retries = c.from-2.ensures ∙ ap (λ (l : Limits). l.retries) c.limits-limits.ensures.value in
    let sized : c.put_number.new.text.items ≡ old ++ lines_text (memory ∷ []) = rw c.size.ensures.value at (c.in_ok-put_number.ensures {u = tt}) in
    let of_arena : c.put_number-2.new.text.items ≡ c.put_number.new.text.items ++ lines_text (arena ∷ []) = rw c.arena.ensures.value at (c.in_ok-put_number-2.ensures {u = tt}) in
    let of_patience : c.put_number-3.new.text.items ≡ c.put_number-2.new.text.items ++ lines_text (patience ∷ []) = rw patient at (c.in_ok-put_number-3.ensures {u = tt}) in
    let of_retries : c.put_number-4.new.text.items ≡ c.put_number-3.new.text.items ++ lines_text (retries ∷ []) = rw retried at (c.in_ok-put_number-4.ensures {u = tt}) in
    let of_commits : c.put_number-5.new.text.items ≡ c.put_number-4.new.text.items ++ lines_text (commits ∷ []) = rw c.limits-limits.ensures.value at (c.in_ok-put_number-5.ensures {u = tt}) in
    let first = lines_put old (memory ∷ []) (arena ∷ []) c.put_number.new.text.items c.put_number-2.new.text.items sized of_arena in
    let second = lines_put old (memory ∷ arena ∷ []) (patience ∷ []) c.put_number-2.new.text.items c.put_number-3.new.text.items first of_patience in
    let third = lines_put old (memory ∷ arena ∷ patience ∷ []) (retries ∷ []) c.put_number-3.new.text.items c.put_number-4.new.text.items second of_retries in
    let fourth = lines_put old (memory ∷ arena ∷ patience ∷ retries ∷ []) (commits ∷ []) c.put_number-4.new.text.items c.put_number-5.new.text.items third of_commits in
    let of_restarts : c.put_restarts.new.text.items ≡ c.put_number-5.new.text.items ++ lines_text (restart_lines p.limits.restarts) = rw c.limits-limits.ensures.value at (c.in_ok-put_restarts.ensures {u = tt}) in
    let fifth = lines_put old (memory ∷ arena ∷ patience ∷ retries ∷ commits ∷ []) (restart_lines p.limits.restarts) c.put_number-5.new.text.items c.put_restarts.new.text.items fourth of_restarts in
    on_ok_weaker c.put_depth.result (lines_put old (memory ∷ arena ∷ patience ∷ retries ∷ commits ∷ restart_lines p.limits.restarts) (depth_lines p.limits.depth) c.put_restarts.new.text.items c.put_depth.new.text.items fifth)
    (rw c.limits-limits.ensures.value at c.put_depth.ensures)

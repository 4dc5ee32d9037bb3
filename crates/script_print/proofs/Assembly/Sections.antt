-- What is kept of the sections as lines are read.
use Rattle.std.proofs.Common.{◌≡◌, ℕ, ◌+◌, ◌<◌, ◌≤◌, true, false, ltb, List, [], ◌∷◌, ◌++◌, length, Some, refl, sym, ap, subst, arith, length-append, inl, inr}
use Rattle.script_print.proofs.Common.{AllByRecursion, Beginning, Instruction, MAX_ACTORS, MAX_INSTRUCTIONS, Sections, all_append, begun, cases_Bool, code_more, counted_again, expanded, innermost, instruction_total, ltb-true, outer, parts_of, thread_total, threads_more, within_never}
use Rattle.script_asm.specs.declared.groups.Group.TheVariants as groups
use Rattle.script_print.proofs.Printable.{IsSaid, IsPart, open_after, threads_in, instructions_in}
use Rattle.script_print.proofs.Assembly.Levels.{kinds, Starts, IsOpen, one_more, repeat_ended, standing, standing_all, standing_outer, never_outer}
use Rattle.script_print.proofs.Assembly.Lists.{all_again}

-- what is kept of them, where these levels are open
pub record IsReading (t : Sections) (ls : List Beginning) : Type 0 where
  pub ended : AllByRecursion IsPart t.ended
  pub said : AllByRecursion IsSaid t.code
  pub levels : IsOpen t.code (standing ls)
  pub threads : thread_total t ≤ MAX_ACTORS
  pub instructions : instruction_total t ≤ MAX_INSTRUCTIONS

-- ## All sections

-- the section that is read is a part where nothing is open
last_part : (t : Sections) → IsReading t [] → 0 < t.count → IsPart (record { count = t.count; code = t.code })
last_part t r h = (omega arith, (r.said, r.levels.after))

pub read_parts : (t : Sections) → IsReading t [] → 0 < t.count → AllByRecursion IsPart (parts_of t)
read_parts t r h = all_append IsPart t.ended (record { count = t.count; code = t.code } ∷ []) r.ended (last_part t r h, tt)

pub threads_read : (t : Sections) → threads_in (parts_of t) ≡ thread_total t
unfolding thread_total
threads_read t = threads_more t.ended (record { count = t.count; code = t.code })

-- what is counted is their code, and what was left out
pub instructions_read : (t : Sections) → instructions_in (parts_of t) + t.left_out ≡ instruction_total t
unfolding instruction_total
instructions_read t = ap (λ (n : ℕ). n + t.left_out) (code_more t.ended (record { count = t.count; code = t.code }))

-- ## One more line

-- what is open, where nothing of it is to stand never
pub all_open : (t : Sections) (ls : List Beginning) → IsReading t ls → within_never ls ≡ false → IsOpen t.code ls
all_open t ls r stands = subst (IsOpen t.code) (standing_all ls stands) r.levels

-- one more instruction, and the levels that it leaves
pub reads_more : (t : Sections) (i : Instruction) (ls ms : List Beginning) → IsReading t ls → IsSaid i → instruction_total t < MAX_INSTRUCTIONS → within_never ls ≡ false → within_never ms ≡ false
    → open_after (kinds ls) i ≡ Some (kinds ms) → Starts t.code (length t.code) ms → IsReading (record t { code = t.code ++ i ∷ [] }) ms
unfolding thread_total instruction_total
reads_more t i ls ms r said room stands still e s = record {
  ended = r.ended;
  said = all_append IsSaid t.code (i ∷ []) r.said (said, tt);
  levels = subst (IsOpen (t.code ++ i ∷ [])) (sym (standing_all ms still)) (one_more t.code i ls ms (all_open t ls r stands) e s);
  threads = r.threads;
  instructions = omega (arith, length-append t.code (i ∷ []));
}

-- one more that is left out, where the levels that stand stay the same
pub reads_past : (t : Sections) (ls ms : List Beginning) → IsReading t ls → instruction_total t < MAX_INSTRUCTIONS → standing ms ≡ standing ls → IsReading (record t { left_out = t.left_out + 1 }) ms
unfolding thread_total instruction_total
reads_past t ls ms r room same =
    let few : instruction_total (record t { left_out = t.left_out + 1 }) ≤ MAX_INSTRUCTIONS = omega arith in
    assumption (subst (IsOpen t.code) (sym same) r.levels, few, r)

-- the code from a place on stands so many times
pub reads_again : (t : Sections) (ls : List Beginning) (start times : ℕ) → IsReading t ls → innermost ls ≡ Some (groups.Repeat start times) → within_never ls ≡ false
    → instruction_total (expanded t start times) ≤ MAX_INSTRUCTIONS → IsReading (expanded t start times) (outer ls)
unfolding expanded thread_total
reads_again t ls start times r e stands few =
    let levels = subst (IsOpen (expanded t start times).code) (sym (standing_all (outer ls) (never_outer ls stands))) (repeat_ended t.code ls start times e (all_open t ls r stands)) in
    assumption (all_again IsSaid t.code start times r.said, levels, few, r)

-- what was left out from a number on counts so many times
pub reads_counted : (t : Sections) (ls : List Beginning) (start times : ℕ) → IsReading t ls → within_never ls ≡ true
    → instruction_total (counted_again t start times) ≤ MAX_INSTRUCTIONS → IsReading (counted_again t start times) (outer ls)
unfolding counted_again thread_total
reads_counted t ls start times r never few = assumption (subst (IsOpen t.code) (sym (standing_outer ls never)) r.levels, few, r)

-- the next section of so many threads begins
pub reads_section : (t : Sections) (n : ℕ) → IsReading t [] → thread_total t + n ≤ MAX_ACTORS → IsReading (begun t n) []
unfolding thread_total instruction_total
reads_section t n r few =
    elim (cases_Bool (ltb 0 t.count)) [
      | inl some ↦ rw some (record {
        ended = read_parts t r (ltb-true 0 t.count some);
        said = tt;
        levels = record { after = refl; starts = tt };
        threads = omega (arith, threads_read t, few);
        instructions = omega (arith, instructions_read t, r.instructions);
      })
      | inr none ↦ rw none (let fits : thread_total (record t { count = n }) ≤ MAX_ACTORS = omega (arith, few) in assumption (fits, r))
    ]

-- What each line holds is read as its fields.
use Rattle.std.proofs.Common.{ℕ, ◌<◌, ◌≤◌, ◌^◌, List, [], ◌∷◌, ◌++◌, map, refl, sym, subst, arith, lit<, inl, inr, codes}
use Rattle.script_print.proofs.Common.{AllByRecursion, AreWithin, Instruction, IsField, IsSize, Item, Listing, MAX_ACTORS, MAX_ARENA, MAX_MEMORY, Part, Placed, USUAL_DEPTH, all_append, cases_eq, decimal_field, depth_lines, eq-eqb, flat_map, flat_map-cons, hex_field, init_fields, instruction_fields, item_fields, limit_lines, literal_field, mode_field, ne_eqb, no_transaction_field, number_fields, part_lines, place_field, program_lines, props_field, register_field, restart_lines, scope_field, sum_by-cons, thread_fields}
use Rattle.itm_entries.specs.declared.entry.Control.TheVariants as controls
use Rattle.itm_entries.specs.declared.entry.Entry.TheVariants as entries
use Rattle.script_program.specs.declared.instruction.Instruction.TheVariants as code
use Rattle.script_print.proofs.Printable.{IsSaid, IsInit, IsItem, IsPart, IsPrintable, threads_in}
use Rattle.script_print.proofs.Texts.Words.{operation_field, load_field, save_field, entry_field}
use Rattle.script_print.proofs.Texts.Lines.{AreFields, lines_unless}
use Rattle.script_print.proofs.Texts.ItemTexts.{item_field}

-- ## Instructions

pub instruction_field : (i : Instruction) → IsSaid i → AllByRecursion IsField (instruction_fields i)
instruction_field (code.Set to number) h = ((lit< tt, refl), (register_field to, (decimal_field number h, tt)))
instruction_field (code.Bytes to literal) h = ((lit< tt, refl), (register_field to, (literal_field literal h, tt)))
instruction_field (code.Move to from) h = ((lit< tt, refl), (register_field to, (register_field from, tt)))
instruction_field (code.Compute operation to left right) h = (operation_field operation, (register_field to, (register_field left, (register_field right, tt))))
instruction_field (code.IfNotZero register) h = ((lit< tt, refl), (register_field register, tt))
instruction_field code.Else h = ((lit< tt, refl), tt)
instruction_field code.EndIf h = ((lit< tt, refl), tt)
instruction_field (code.Load width to at) h = (load_field width, (register_field to, (place_field at h, tt)))
instruction_field (code.Save width at from) h = (save_field width, (place_field at h, (register_field from, tt)))
instruction_field (code.Begin props to) h = (entry_field (entries.Control controls.BeginTransaction), (register_field to, (props_field props, tt)))
instruction_field code.Commit h = (entry_field (entries.Control controls.CommitTransaction), tt)
instruction_field (code.Abort outer) h = (entry_field (entries.Control controls.AbortTransaction), (scope_field outer, tt))
instruction_field code.Mode h = (entry_field (entries.Control controls.ChangeTransactionMode), (mode_field, tt))
instruction_field (code.InTransaction to) h = (entry_field (entries.Control controls.InTransaction), (register_field to, tt))
instruction_field (code.CommitAction fun arg) h = (entry_field (entries.Control controls.AddUserCommitAction), (decimal_field fun (omega (arith, h.0)), (no_transaction_field, (place_field arg h.1, tt))))
instruction_field (code.UndoAction fun arg) h = (entry_field (entries.Control controls.AddUserUndoAction), (decimal_field fun (omega (arith, h.0)), (place_field arg h.1, tt)))
instruction_field (code.Read hint width to at) h = (entry_field (entries.Read hint width), (register_field to, (place_field at h, tt)))
instruction_field (code.Write hint width at from) h = (entry_field (entries.Write hint width), (place_field at h, (register_field from, tt)))
instruction_field (code.Log width at) h = (entry_field (entries.Log width), (place_field at h, tt))
instruction_field (code.LogBytes at size) h = (entry_field entries.LogBytes, (place_field at h.0, (place_field size h.1, tt)))
instruction_field (code.Copy moves pair to from size) h = (entry_field (entries.Copy moves pair), (place_field to h.0, (place_field from h.1.0, (place_field size h.1.1, tt))))
instruction_field (code.Fill hint to byte size) h = (entry_field (entries.Fill hint), (place_field to h.0, (place_field byte h.1.0, (place_field size h.1.1, tt))))

-- ## Directives

number_field : (word : List ℕ) (n : ℕ) → IsField word → n < 2 ^ 64 → AllByRecursion IsField (number_fields word n)
number_field word n h small = (h, (decimal_field n small, tt))

unless_field : (usual k : ℕ) (word : List ℕ) → IsField word → k < 2 ^ 64 → AreFields (lines_unless usual word k)
unless_field usual k word h small =
    elim (cases_eq k usual) [
      | inl same ↦ rw (eq-eqb k usual same) tt
      | inr other ↦ rw (ne_eqb k usual other) (number_field word k h small, tt)
    ]

init_field : (size : ℕ) (i : Placed) → size ≤ MAX_MEMORY → IsInit size i → AllByRecursion IsField (init_fields i)
init_field size i few h = ((lit< tt, refl), (decimal_field i.at (omega (arith, h.3)), (hex_field i.bytes h.0 h.1, tt)))

thread_field : (count : ℕ) → count ≤ MAX_ACTORS → AllByRecursion IsField (thread_fields count)
thread_field count few =
    elim (cases_eq count 1) [
      | inl one ↦ rw (eq-eqb count 1 one) ((lit< tt, refl), tt)
      | inr several ↦ rw (ne_eqb count 1 several) (number_field (codes ".thread") count (lit< tt, refl) (omega arith))
    ]

-- ## All lines

-- where each element makes such lines, all of them do
each : {A : Type 0} (P : A → Type 0) (f : A → List (List ℕ)) → ((x : A) → P x → AllByRecursion IsField (f x)) → (xs : List A) → AllByRecursion P xs → AreFields (map f xs)
each P f step [] h = tt
each P f step (x ∷ xs) h = (step x h.0, each P f step xs h.1)

limit_field : (p : Listing) → IsSize p.memory.size → p.arena ≤ MAX_ARENA → AreWithin p.limits → AreFields (limit_lines p)
limit_field p size arena within = (
  number_field (codes ".memory") p.memory.size (lit< tt, refl) (omega arith),
  (
    number_field (codes ".arena") p.arena (lit< tt, refl) (omega arith),
    (
      number_field (codes ".patience") p.limits.patience (lit< tt, refl) (omega arith),
      (
        number_field (codes ".retries") p.limits.retries (lit< tt, refl) (omega arith),
        (number_field (codes ".commits") p.limits.max_commits (lit< tt, refl) (omega arith), all_append (AllByRecursion IsField) (restart_lines p.limits.restarts) (depth_lines p.limits.depth) (unless_field 0 p.limits.restarts (codes ".restarts") (lit< tt, refl) (omega arith)) (unless_field USUAL_DEPTH p.limits.depth (codes ".depth") (lit< tt, refl) (omega arith))),
      ),
    ),
  ),
)

part_field : (q : Part) → q.count ≤ MAX_ACTORS → IsPart q → AreFields (part_lines q)
part_field q few h = (thread_field q.count few, each IsSaid instruction_fields instruction_field q.code h.1.0)

parts_field : (parts : List Part) → threads_in parts ≤ MAX_ACTORS → AllByRecursion IsPart parts → AreFields (flat_map part_lines parts)
parts_field [] few h = tt
parts_field (q ∷ parts) few h =
    let all = sum_by-cons (λ (p : Part). p.count) q parts in
    subst AreFields (sym (flat_map-cons part_lines q parts)) (all_append (AllByRecursion IsField) (part_lines q) (flat_map part_lines parts) (part_field q (omega arith) h.0) (parts_field parts (omega arith) h.1))

pub program_field : (p : Listing) → IsPrintable p → AreFields (program_lines p)
program_field p h =
    let threads = threads_in p.parts in
    let item : (i : Item) → IsItem threads i → AllByRecursion IsField (item_fields i) = λ i k. ((lit< tt, refl), (item_field threads i h.threads k, tt)) in
    let sizes = limit_lines p in
    let inits = map init_fields p.memory.inits in
    let items = map item_fields p.schedule in
    let first = all_append (AllByRecursion IsField) sizes inits (limit_field p h.size h.arena h.limits) (each (IsInit p.memory.size) init_fields (λ i k. init_field p.memory.size i h.size.1 k) p.memory.inits h.inits) in
    let second = all_append (AllByRecursion IsField) (sizes ++ inits) items first (each (IsItem threads) item_fields item p.schedule h.schedule) in
    all_append (AllByRecursion IsField) (sizes ++ inits ++ items) (flat_map part_lines p.parts) second (parts_field p.parts h.threads h.parts)

-- What operands are that were read: their ranges.
use Rattle.std.proofs.Common.{ℕ, ◌*◌, ◌%◌, ◌^◌, ◌<◌, ◌≤◌, leb, eqb, ◌&&◌, List, length, Result, Ok, Err, arith}
use Rattle.script_print.proofs.Common.{FaultKind, IfOk, IsBytes, IsLiteral, IsPlace, IsSize, MAX_INIT_DIGITS, MAX_MEMORY, after_if, and_parts, any_if, bind_if, both, both_if, choice_if, commit_action, digits, digits_if, eqb-true, function, init_of, leb-true, limit_of, literal, literal_form, memory_size, no_transaction, number, number_form, one, one_place, place, place_form, place_register, register, register_literal, register_number, register_place, size_of, three, three_places, two, two_places, undo_action, within, within_if, ⊤}
use Rattle.script_fields.{specs.Operands.◌>>=◌, proofs.HexDigits.hex_said}
use Rattle.script_fields.specs.declared.fault.FaultKind.TheVariants as kinds

-- ## Numbers and bytes

function_if : (f : List ℕ) → IfOk (function f) (λ n. n < 2 ^ 32)
unfolding function
function_if f = after_if _ (number f) (within 0 4294967295) (λ n. within_if 0 4294967295 n (λ m. m < 2 ^ 32) (λ low high. omega arith))

-- bytes for the memory: at least one, and of no more digits than a line may have
abbrev IsInitial : List ℕ → Type 0
IsInitial bytes = IsBytes bytes × (1 ≤ length bytes) × (2 * length bytes ≤ MAX_INIT_DIGITS)

digits_form : (f : List ℕ) → IfOk (digits f) IsInitial
unfolding digits
digits_form f = digits_if MAX_INIT_DIGITS f IsInitial (λ hex few. let said = hex_said f hex in (said.0, said.1, omega (arith, said.2, few)))

-- ## Operands of instructions

two_if : {A B : Type 0} (P : A → Type 0) (Q : B → Type 0) (f : List ℕ → Result A FaultKind) (g : List ℕ → Result B FaultKind) (fs : List (List ℕ)) → ((x : List ℕ) → IfOk (f x) P) → ((x : List ℕ) → IfOk (g x) Q)
    → IfOk (two fs >>= λ x. both (f x.0) (g x.1)) (λ y. P y.0 × Q y.1)
two_if P Q f g fs p q = after_if _ (two fs) _ (λ x. both_if P Q (f x.0) (g x.1) (p x.0) (q x.1))

pub register_number_if : (fs : List (List ℕ)) → IfOk (register_number fs) (λ x. ⊤ × (x.1 < 2 ^ 64))
unfolding register_number
register_number_if fs = two_if (λ r. ⊤) (λ n. n < 2 ^ 64) register number fs (λ f. any_if (register f)) number_form

pub register_literal_if : (fs : List (List ℕ)) → IfOk (register_literal fs) (λ x. ⊤ × IsLiteral x.1)
unfolding register_literal
register_literal_if fs = two_if (λ r. ⊤) IsLiteral register literal fs (λ f. any_if (register f)) literal_form

pub register_place_if : (fs : List (List ℕ)) → IfOk (register_place fs) (λ x. ⊤ × IsPlace x.1)
unfolding register_place
register_place_if fs = two_if (λ r. ⊤) IsPlace register place fs (λ f. any_if (register f)) place_form

pub place_register_if : (fs : List (List ℕ)) → IfOk (place_register fs) (λ x. IsPlace x.0 × ⊤)
unfolding place_register
place_register_if fs = two_if IsPlace (λ r. ⊤) place register fs place_form (λ f. any_if (register f))

pub one_place_if : (fs : List (List ℕ)) → IfOk (one_place fs) IsPlace
unfolding one_place
one_place_if fs = after_if IsPlace (one fs) place place_form

pub two_places_if : (fs : List (List ℕ)) → IfOk (two_places fs) (λ x. IsPlace x.0 × IsPlace x.1)
unfolding two_places
two_places_if fs = two_if IsPlace IsPlace place place fs place_form place_form

pub three_places_if : (fs : List (List ℕ)) → IfOk (three_places fs) (λ x. IsPlace x.0 × (IsPlace x.1.0 × IsPlace x.1.1))
unfolding three_places
three_places_if fs = after_if _ (three fs) _ (λ x. both_if _ _ (place x.0) _ (place_form x.0) (both_if _ _ (place x.1) (place x.2) (place_form x.1) (place_form x.2)))

pub commit_action_if : (fs : List (List ℕ)) → IfOk (commit_action fs) (λ x. (x.0 < 2 ^ 32) × IsPlace x.1)
unfolding commit_action
commit_action_if fs =
    after_if _ (three fs) _ (λ x. bind_if _ _ (both (function x.0) (both (no_transaction x.1) (place x.2))) _
    (both_if _ _ (function x.0) _ (function_if x.0) (both_if _ _ (no_transaction x.1) (place x.2) (any_if (no_transaction x.1)) (place_form x.2))) (λ y k. (k.0, k.1.1)))

pub undo_action_if : (fs : List (List ℕ)) → IfOk (undo_action fs) (λ x. (x.0 < 2 ^ 32) × IsPlace x.1)
unfolding undo_action
undo_action_if fs = two_if (λ n. n < 2 ^ 32) IsPlace function place fs function_if place_form

-- ## Operands of directives

memory_size_if : (n : ℕ) → IfOk (memory_size n) IsSize
memory_size_if n =
    choice_if IsSize (leb 8 n && leb n MAX_MEMORY && eqb (n % 8) 0) (Ok n) (Err kinds.Range)
    (λ h. let more = and_parts _ _ h in let parts = and_parts _ _ more.0 in (leb-true 8 n parts.0, leb-true n MAX_MEMORY parts.1, eqb-true (n % 8) 0 more.1)) (λ h. tt)

pub size_of_if : (fs : List (List ℕ)) → IfOk (size_of fs) IsSize
unfolding size_of
size_of_if fs = after_if IsSize (one fs >>= number) memory_size memory_size_if

pub limit_of_if : (low high : ℕ) (fs : List (List ℕ)) → IfOk (limit_of low high fs) (λ n. (low ≤ n) × (n ≤ high))
unfolding limit_of
limit_of_if low high fs = after_if _ (one fs >>= number) (within low high) (λ n. within_if low high n _ (λ l m. (l, m)))

pub init_of_if : (fs : List (List ℕ)) → IfOk (init_of fs) (λ x. ⊤ × (IsBytes x.1 × (1 ≤ length x.1) × (2 * length x.1 ≤ MAX_INIT_DIGITS)))
unfolding init_of
init_of_if fs = two_if (λ n. ⊤) IsInitial number digits fs (λ f. any_if (number f)) digits_form

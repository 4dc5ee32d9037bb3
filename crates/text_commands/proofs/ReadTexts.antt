-- What a text that was read up to its limit says.
use Rattle.std.proofs.Common.{◌≡◌, ℕ, ◌+◌, ◌<◌, ◌≤◌, List, [], ◌++◌, length, take, Option, Some, None, IfSome, Result, Err, refl, sym, ap, subst, ◌∙◌, arith, inl, inr}
use Rattle.std.specs.Io.KnownBytes.{Consumes}
use Rattle.std.proofs.KnownBytes.{Consumes-trans}
use Rattle.std.proofs.lemmas.Bool.{cases_lt, lt-ltb}
use Rattle.std.proofs.lemmas.List.{length-append, length-take}
use Rattle.std.proofs.lemmas.Grind.{common_steps}
use Rattle.script_fields.specs.declared.fault.AsmFault.{AsmFault}
use Rattle.script_program.{specs.declared.limits.TheConstants.MAX_TEXT, specs.Listing.Listing}
use Rattle.script_asm.specs.Assembly.{program_of}
use Rattle.text_commands.specs.declared.failure.Failure.TheVariants as failures
use Rattle.text_commands.specs.declared.input.InputFault.{InputFault}
use Rattle.text_commands.specs.declared.input.InputFault.TheVariants.{Memory, Reading}
use Rattle.text_commands.specs.Answers.{Reads}
use Rattle.text_commands.specs.Input.{IsFront, failure_of}

pub few_more : (a b c : Option (List ℕ)) (x y : List ℕ) (limit : ℕ) → Consumes a b x → Consumes b c y → length x + length y ≤ limit → IsFront a c limit
few_more a b c x y limit p q h = (x ++ y, omega (arith, length-append x y), Consumes-trans a b c x y p q)

pub past : (n : ℕ) (xs : List ℕ) → length xs ≤ n → take n xs ≡ xs
past n xs h = grind (arith, common_steps)

too_long : (text : List ℕ) → MAX_TEXT < length text → program_of text ≡ program_of (take (MAX_TEXT + 1) text)
unfolding program_of
too_long text h = rw (lt-ltb MAX_TEXT (length text) h, lt-ltb MAX_TEXT (length (take (MAX_TEXT + 1) text)) (omega (arith, length-take (MAX_TEXT + 1) text))) refl

-- a beginning of that many bytes tells as much as the whole text
pub same_text : (text all : List ℕ) → text ≡ take (MAX_TEXT + 1) all → program_of text ≡ program_of all
same_text text all e =
    elim (cases_lt MAX_TEXT (length all)) [
      | inl more ↦ ap program_of e ∙ sym (too_long all more)
      | inr few ↦ ap program_of (e ∙ past (MAX_TEXT + 1) all (omega arith))
    ]

-- what is so of some text that a reader gave, and of what is read of that text
abbrev pub OfText : {A : Type 0} → (List ℕ → A) → Option (List ℕ) → (A → Type 0) → Type 0
OfText f known P = (text : List ℕ) × IfSome known (λ all. text ≡ all) × P (f text)

-- what is so of the program of the text that was read is so of the reader's text, where that is known
pub cut : (known : Option (List ℕ)) (text : List ℕ) (P : Result Listing AsmFault → Type 0) → IfSome known (λ all. text ≡ take (MAX_TEXT + 1) all) → P (program_of text) → OfText program_of known P
cut None text P e h = (text, tt, h)
cut (Some all) text P e h = (all, refl, subst P (same_text text all e) h)

-- a text that is no longer than its limit is the reader's whole text
pub uncut : {A : Type 0} (f : List ℕ → A) (known : Option (List ℕ)) (text : List ℕ) (limit : ℕ) (P : A → Type 0) → IfSome known (λ all. text ≡ take (limit + 1) all) → length text ≤ limit → P (f text) → OfText f known P
uncut f None text limit P e few h = (text, tt, h)
uncut f (Some all) text limit P e few h =
    let short : length all ≤ limit + 1 = omega (arith, length-take (limit + 1) all, ap length e) in
    (all, refl, subst (λ (t : List ℕ). P (f t)) (e ∙ past (limit + 1) all short) h)

-- what is so whatever the text says
pub unread : {A : Type 0} (f : List ℕ → A) (known : Option (List ℕ)) (P : A → Type 0) → ((r : A) → P r) → OfText f known P
unread f None P h = ([], tt, h (f []))
unread f (Some all) P h = (all, refl, h (f all))

-- a failure for want of a text is one, whatever the text would say
pub no_text : {A F : Type 0} (f : List ℕ → Result A F) (known : Option (List ℕ)) (fault : InputFault) → OfText f known (Reads {A = A} {F = F} (Err (failure_of fault)))
no_text {A} {F} f known Memory = unread f known (Reads {A = A} {F = F} (Err failures.NoMemory)) (λ _. tt)
no_text {A} {F} f known Reading = unread f known (Reads {A = A} {F = F} (Err failures.Reading)) (λ _. tt)

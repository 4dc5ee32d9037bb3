-- The code of a section so far, within what has begun and not ended.
use Rattle.std.proofs.Common.{◌≡◌, ℕ, zero, suc, true, false, if◌then◌else◌, List, [], ◌∷◌, ◌++◌, length, refl, sym, ap, subst, ◌∙◌, append_assoc}
use Rattle.script_laws.proofs.Common.{Beginning, Group, Instruction, Leads, Level, block, cond-false, cond-true, group, repeat, within_never}
use Rattle.script_program.specs.declared.instruction.Instruction.TheVariants as code
use Rattle.script_asm.specs.declared.groups.Group.TheVariants as groups

-- ## Code

-- code after code
pub leads_then : (xs ys : List Instruction) (a b c : List Level) → Leads xs a b → Leads ys b c → Leads (xs ++ ys) a c
leads_then [] ys a b c x y = subst (λ (l : List Level). Leads ys l c) (sym x) y
leads_then (code.Begin props r ∷ xs) ys a b c x y = leads_then xs ys (block ∷ a) b c x y
leads_then (code.Commit ∷ xs) ys a b c x y = (x.0, x.1, leads_then xs ys x.0 b c x.2 y)
leads_then (code.IfNotZero r ∷ xs) ys a b c x y = leads_then xs ys (group ∷ a) b c x y
leads_then (code.Else ∷ xs) ys a b c x y = (x.0, x.1, leads_then xs ys a b c x.2 y)
leads_then (code.EndIf ∷ xs) ys a b c x y = (x.0, x.1, leads_then xs ys x.0 b c x.2 y)
leads_then (i ∷ xs) ys a b c x y = leads_then xs ys a b c x y

pub leads_times : (n : ℕ) (xs : List Instruction) (a : List Level) → Leads xs a a → Leads (repeat n xs) a a
leads_times zero xs a x = refl
leads_times (suc n) xs a x = leads_then xs (repeat n xs) a a a x (leads_times n xs a x)

-- ## What is open

abbrev pub level_in : Group → List Level → List Level
level_in groups.Block levels = block ∷ levels
level_in groups.First levels = group ∷ levels
level_in groups.Second levels = group ∷ levels
level_in (groups.Repeat start times) levels = levels

-- lines that stand several times begin at this place
abbrev pub BeginsAt : Group → ℕ → Type 0
BeginsAt (groups.Repeat start times) place = start ≡ place
BeginsAt g place = Unit {0}

-- the code so far stands where these are open
abbrev pub Open : List Beginning → List Instruction → List Level → Type 0
Open [] xs levels = Leads xs [] [] × (levels ≡ [])
Open (b ∷ more) xs levels = (front body : List Instruction) × (around : List Level) × Open more front around × (xs ≡ front ++ body) × (levels ≡ level_in b.group around) × Leads body around levels × BeginsAt b.group (length front)

pub open_more : (bs : List Beginning) (xs more : List Instruction) (levels : List Level) → Open bs xs levels → Leads more levels levels → Open bs (xs ++ more) levels
open_more [] xs more levels o m = (leads_then xs more [] [] [] o.0 (subst (λ (l : List Level). Leads more l l) o.1 m), o.1)
open_more (b ∷ bs) xs more levels o m = (o.0, o.1 ++ more, o.2, o.3, ap (λ (l : List Instruction). l ++ more) o.4 ∙ append_assoc o.0 o.1 more, o.5, leads_then o.1 more o.2 levels levels o.6 m, o.7)

-- without the innermost, once code has ended it
pub open_ended : (b : Beginning) (bs : List Beginning) (xs : List Instruction) (levels : List Level) (i : Instruction) → Open (b ∷ bs) xs levels → ((around : List Level) → Leads (i ∷ []) (level_in b.group around) around) → (around : List Level) × Open bs (xs ++ i ∷ []) around
open_ended b bs xs levels i o ends_it = (
  o.2,
  subst (λ (l : List Instruction). Open bs l o.2) (sym (ap (λ (l : List Instruction). l ++ i ∷ []) o.4 ∙ append_assoc o.0 o.1 (i ∷ [])))
      (open_more bs o.0 (o.1 ++ i ∷ []) o.2 o.3 (leads_then o.1 (i ∷ []) o.2 levels o.2 o.6 (subst (λ (l : List Level). Leads (i ∷ []) l o.2) (sym o.5) (ends_it o.2)))),
)

-- those within lines that are to stand 0 times leave no code
abbrev pub live : List Beginning → List Beginning
live [] = []
live (b ∷ more) = if within_never (b ∷ more) then live more else b ∷ more

pub live_never : (b : Beginning) (more : List Beginning) → within_never (b ∷ more) ≡ true → live (b ∷ more) ≡ live more
live_never b more w = cond-true (within_never (b ∷ more)) (live more) (b ∷ more) w

pub live_all : (bs : List Beginning) → within_never bs ≡ false → live bs ≡ bs
live_all [] w = refl
live_all (b ∷ more) w = cond-false (within_never (b ∷ more)) (live more) (b ∷ more) w

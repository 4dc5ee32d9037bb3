-- What is open after the code so far, as lines begin and end blocks, groups and repeats.
use Rattle.std.proofs.Common.{◌≡◌, ℕ, zero, suc, ◌<◌, ◌≤◌, Bool, true, false, cond, ◌||◌, List, [], ◌∷◌, ◌++◌, length, take, drop, Option, Some, None, refl, sym, ap, ◌∙◌, arith, subst}
use Rattle.script_print.proofs.Common.{Beginning, Group, Instruction, MAX_LEVELS, innermost, length-append, length-take, lt-ltb, outer, repeat, second_part, stands_never, take-append-drop, take-append-le, take-length, take-take, within_never, ⊤}
use Rattle.script_asm.specs.declared.groups.Group.TheVariants as groups
use Rattle.script_print.proofs.Printable.{pushed, open_after, then_after, open_after_all}

-- ## What is open, but for repeats

-- one more within those of gs: a repeat is not told by the code
abbrev pub with_kind : Group → List Group → List Group
with_kind (groups.Repeat start times) gs = gs
with_kind g gs = g ∷ gs

-- the blocks and groups that are open, without the repeats
abbrev pub kinds : List Beginning → List Group
kinds [] = []
kinds (b ∷ more) = with_kind b.group (kinds more)

kind_length : (g : Group) (gs : List Group) (n : ℕ) → length gs ≤ n → length (with_kind g gs) ≤ suc n
kind_length groups.Block gs n h = omega arith
kind_length g gs n h = omega arith

kinds_length : (ls : List Beginning) → length (kinds ls) ≤ length ls
kinds_length [] = omega arith
kinds_length (b ∷ more) = kind_length b.group (kinds more) (length more) (kinds_length more)

-- where one more level may be open, so may one more block or group
pub pushed_kind : (ls : List Beginning) (g : Group) → length ls < MAX_LEVELS → pushed (kinds ls) g ≡ Some (g ∷ kinds ls)
pushed_kind ls g h = rw (lt-ltb (length (kinds ls)) MAX_LEVELS (omega (arith, kinds_length ls))) refl

-- ## Code after code

then_then : (o : Option (List Group)) (f g h : List Group → Option (List Group)) → ((gs : List Group) → f gs ≡ then_after (g gs) h) → then_after o f ≡ then_after (then_after o g) h
then_then None f g h e = refl
then_then (Some gs) f g h e = e gs

pub open_append : (gs : List Group) (xs ys : List Instruction) → open_after_all gs (xs ++ ys) ≡ then_after (open_after_all gs xs) (λ hs. open_after_all hs ys)
open_append gs [] ys = refl
open_append gs (i ∷ is) ys = then_then (open_after gs i) (λ hs. open_after_all hs (is ++ ys)) (λ hs. open_after_all hs is) (λ hs. open_after_all hs ys) (λ hs. open_append hs is ys)

pub open_then : (gs hs : List Group) (xs ys : List Instruction) → open_after_all gs xs ≡ Some hs → open_after_all gs (xs ++ ys) ≡ open_after_all hs ys
open_then gs hs xs ys e = open_append gs xs ys ∙ ap (λ (o : Option (List Group)). then_after o (λ ks. open_after_all ks ys)) e

then_nothing : (o : Option (List Group)) → then_after o (λ hs. open_after_all hs []) ≡ o
then_nothing None = refl
then_nothing (Some hs) = refl

open_one : (gs : List Group) (i : Instruction) → open_after_all gs (i ∷ []) ≡ open_after gs i
open_one gs i = then_nothing (open_after gs i)

-- code that leaves open what it found open does so however often it stands
open_repeat : (gs : List Group) (xs : List Instruction) (n : ℕ) → open_after_all gs xs ≡ Some gs → open_after_all gs (repeat n xs) ≡ Some gs
open_repeat gs xs zero e = refl
open_repeat gs xs (suc n) e = open_then gs gs xs (repeat n xs) e ∙ open_repeat gs xs n e

-- ## Where repeats began

-- what is kept of one that is open, where gs are the kinds around it and rest is what is kept of those
abbrev StandsFrom : List Instruction → ℕ → Group → List Group → (ℕ → Type 0) → Type 0
StandsFrom code limit (groups.Repeat start times) gs rest = (start ≤ limit) × (open_after_all [] (take start code) ≡ Some gs) × rest start
StandsFrom code limit g gs rest = rest limit

-- each repeat began within the code before the limit, and those around it no later, with just what is around it open
abbrev pub Starts : List Instruction → ℕ → List Beginning → Type 0
Starts code limit [] = ⊤
Starts code limit (b ∷ more) = StandsFrom code limit b.group (kinds more) (λ n. Starts code n more)

stands_on : (c d : List Instruction) (g : Group) (gs : List Group) (low high : ℕ) (rest more : ℕ → Type 0) → low ≤ high → ((n : ℕ) → n ≤ low → take n c ≡ take n d) → ((m n : ℕ) → m ≤ low → m ≤ n → rest m → more n)
    → StandsFrom c low g gs rest → StandsFrom d high g gs more
stands_on c d (groups.Repeat start times) gs low high rest more h same f s = (omega arith, ap (open_after_all []) (sym (same start s.0)) ∙ s.1, f start start s.0 (omega arith) s.2)
stands_on c d g gs low high rest more h same f s = f low high (omega arith) h s

-- a later limit, and other code that begins alike up to the first one
starts_on : (c d : List Instruction) (ls : List Beginning) (low high : ℕ) → low ≤ high → ((n : ℕ) → n ≤ low → take n c ≡ take n d) → Starts c low ls → Starts d high ls
starts_on c d [] low high h same s = tt
starts_on c d (b ∷ more) low high h same s =
    stands_on c d b.group (kinds more) low high (λ n. Starts c n more) (λ n. Starts d n more) h same (λ m n k l. starts_on c d more m n l (λ j i. same j (omega arith))) s

-- ## A section that is read

-- what is open is what its code leaves open, and each repeat began in the code
pub record IsOpen (code : List Instruction) (levels : List Beginning) : Type 0 where
  pub after : open_after_all [] code ≡ Some (kinds levels)
  pub starts : Starts code (length code) levels

-- one more instruction, and the levels that it leaves
pub one_more : (code : List Instruction) (i : Instruction) (ls ms : List Beginning) → IsOpen code ls → open_after (kinds ls) i ≡ Some (kinds ms) → Starts code (length code) ms → IsOpen (code ++ i ∷ []) ms
one_more code i ls ms o e s =
    let same : (n : ℕ) → n ≤ length code → take n code ≡ take n (code ++ i ∷ []) = λ n h. sym (take-append-le n code (i ∷ []) h) in
    record {
      after = open_then [] (kinds ls) code (i ∷ []) o.after ∙ open_one (kinds ls) i ∙ e;
      starts = starts_on code (code ++ i ∷ []) ms (length code) (length (code ++ i ∷ [])) (omega (arith, length-append code (i ∷ []))) same s;
    }

-- ## Levels that begin and end

-- what the innermost is
pub innermost_kind : (ls : List Beginning) (g : Group) → innermost ls ≡ Some g → kinds ls ≡ with_kind g (kinds (outer ls))
innermost_kind [] g e = absurd cc
innermost_kind (b ∷ more) g e = let is : b.group ≡ g = cc in ap (λ (k : Group). with_kind k (kinds more)) is

pub second_kind : (ls : List Beginning) → innermost ls ≡ Some groups.First → kinds (second_part ls) ≡ groups.Second ∷ kinds (outer ls)
second_kind [] e = absurd cc
second_kind (b ∷ more) e = refl

stands_within : (code : List Instruction) (g : Group) (gs : List Group) (limit : ℕ) (rest : ℕ → Type 0) → ((m n : ℕ) → m ≤ n → rest m → rest n) → StandsFrom code limit g gs rest → rest limit
stands_within code (groups.Repeat start times) gs limit rest f s = f start limit s.0 s.2
stands_within code g gs limit rest f s = s

-- the innermost ends, or its second part begins
pub starts_outer : (code : List Instruction) (ls : List Beginning) (limit : ℕ) → Starts code limit ls → Starts code limit (outer ls)
starts_outer code [] limit s = tt
starts_outer code (b ∷ more) limit s = stands_within code b.group (kinds more) limit (λ n. Starts code n more) (λ m n h. starts_on code code more m n h (λ k l. refl)) s

pub starts_second : (code : List Instruction) (ls : List Beginning) (limit : ℕ) → Starts code limit ls → Starts code limit (second_part ls)
starts_second code [] limit s = tt
starts_second code (b ∷ more) limit s = starts_outer code (b ∷ more) limit s

-- a repeat begins after the code so far
pub repeat_begun : (code : List Instruction) (ls : List Beginning) (n times : ℕ) → IsOpen code ls → IsOpen code (record { line = n; group = groups.Repeat (length code) times } ∷ ls)
repeat_begun code ls n times o = record {
  after = o.after;
  starts = (omega arith, ap (open_after_all []) (take-length code) ∙ o.after, o.starts);
}

-- what stood once from a repeat's start on stands so many times
again_open : (code : List Instruction) (b : Beginning) (more : List Beginning) (start times : ℕ) → b.group ≡ groups.Repeat start times → IsOpen code (b ∷ more) → IsOpen (take start code ++ repeat times (drop start code)) more
again_open code b more start times e o =
    let again : List Instruction = take start code ++ repeat times (drop start code) in
    let s = subst (λ (g : Group). StandsFrom code (length code) g (kinds more) (λ n. Starts code n more)) e o.starts in
    let around : kinds (b ∷ more) ≡ kinds more = ap (λ (g : Group). with_kind g (kinds more)) e in
    let body : open_after_all (kinds more) (drop start code) ≡ Some (kinds more) =
    sym (open_then [] (kinds more) (take start code) (drop start code) s.1) ∙ ap (open_after_all []) (take-append-drop start code) ∙ o.after ∙ ap (λ (gs : List Group). Some gs) around in
    let same : (n : ℕ) → n ≤ start → take n code ≡ take n again = λ n h.
    sym (take-append-le n (take start code) (repeat times (drop start code)) (omega (arith, length-take start code, s.0)) ∙ take-take n start code h) in
    record {
      after = open_then [] (kinds more) (take start code) (repeat times (drop start code)) s.1 ∙ open_repeat (kinds more) (drop start code) times body;
      starts = starts_on code again more start (length again) (omega (arith, length-append (take start code) (repeat times (drop start code)), length-take start code)) same s.2;
    }

-- the innermost repeat ends
pub repeat_ended : (code : List Instruction) (ls : List Beginning) (start times : ℕ) → innermost ls ≡ Some (groups.Repeat start times) → IsOpen code ls → IsOpen (take start code ++ repeat times (drop start code)) (outer ls)
repeat_ended code [] start times e o = absurd cc
repeat_ended code (b ∷ more) start times e o = let is : b.group ≡ groups.Repeat start times = cc in again_open code b more start times is o

-- ## Lines that are to stand never

-- what is open, but for lines that are to stand never and what is within them: their code is left out
abbrev pub standing : List Beginning → List Beginning
standing [] = []
standing (b ∷ more) = cond (within_never (b ∷ more)) (standing more) (b ∷ more)

-- all stands where there are no such lines
pub standing_all : (ls : List Beginning) → within_never ls ≡ false → standing ls ≡ ls
standing_all [] e = refl
standing_all (b ∷ more) e = rw e refl

-- the innermost does not stand where there are
pub standing_outer : (ls : List Beginning) → within_never ls ≡ true → standing (outer ls) ≡ standing ls
standing_outer [] e = refl
standing_outer (b ∷ more) e = rw e refl

neither : (a b : Bool) → (a || b) ≡ false → b ≡ false
neither true b e = absurd cc
neither false b e = e

-- there are none around the innermost where there are none
pub never_outer : (ls : List Beginning) → within_never ls ≡ false → within_never (outer ls) ≡ false
never_outer [] e = refl
never_outer (b ∷ more) e = neither (stands_never b.group) (within_never more) e

-- the parts of a group are within the same lines
pub never_second : (ls : List Beginning) → innermost ls ≡ Some groups.First → within_never (second_part ls) ≡ within_never ls
never_second [] e = absurd cc
never_second (b ∷ more) e = let is : b.group ≡ groups.First = cc in rw is refl

pub standing_second : (ls : List Beginning) → innermost ls ≡ Some groups.First → within_never ls ≡ true → standing (second_part ls) ≡ standing ls
standing_second [] first e = absurd cc
standing_second (b ∷ more) first e = rw (e, never_second (b ∷ more) first ∙ e) refl

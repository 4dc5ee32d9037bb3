-- Code that stands several times.
use Rattle.std.proofs.Common.{◌≡◌, ◌<◌, ℕ, zero, suc, ◌+◌, ◌-◌, ◌*◌, ◌^◌, ◌≤◌, min, ltb, List, [], ◌++◌, length, take, drop, refl, sym, ap, ◌∙◌, arith, length-append, append_assoc, add-one}
use Rattle.std.specs.List.{repeat}
use Rattle.std.proofs.lemmas.Bool.{ltb_from_iff, ltb-true, lt-ltb}
use Rattle.std.proofs.lemmas.Grind.{common_steps}
use Rattle.std.proofs.lemmas.List.{append-nil, length-take, length-drop, take-append-drop}
use Rattle.std.proofs.Math.Seq.{take-append_seam}
use Rattle.std.proofs.Math.Nat.{mul_comm, mul-le-mul_right}
use Rattle.script_program.specs.declared.instruction.Instruction.{Instruction}
use Rattle.script_program.specs.Sections.{Sections, instruction_total, expanded, counted_again}

length-repeat : (n : ℕ) (xs : List Instruction) → length (repeat n xs) ≡ n * length xs
length-repeat zero xs = omega arith
length-repeat (suc n) xs = omega (arith, length-append xs (repeat n xs), length-repeat n xs)

repeat_more : (n : ℕ) (xs : List Instruction) → repeat n xs ++ xs ≡ repeat (suc n) xs
repeat_more zero xs = sym (append-nil xs)
repeat_more (suc n) xs = append_assoc xs (repeat n xs) xs ∙ ap (λ (l : List Instruction). xs ++ l) (repeat_more n xs)

-- one more at the end
pub one_more : (n : ℕ) (xs : List Instruction) → repeat n xs ++ xs ≡ repeat (n + 1) xs
one_more n xs = rw add-one (repeat_more n xs)

repeat_both : (m n : ℕ) (xs : List Instruction) → repeat m xs ++ repeat n xs ≡ repeat (m + n) xs
repeat_both zero n xs = let e : n ≡ 0 + n = omega arith in ap (λ (k : ℕ). repeat k xs) e
repeat_both (suc m) n xs =
    let e : suc (m + n) ≡ suc m + n = omega arith in
    append_assoc xs (repeat m xs) (repeat n xs) ∙ ap (λ (l : List Instruction). xs ++ l) (repeat_both m n xs) ∙ ap (λ (k : ℕ). repeat k xs) e

-- the first of them
first_of_them : (m n : ℕ) (xs : List Instruction) → m ≤ n → take (m * length xs) (repeat n xs) ≡ repeat m xs
first_of_them m n xs h =
    let e : m + (n - m) ≡ n = omega arith in
    let whole : repeat m xs ++ repeat (n - m) xs ≡ repeat n xs = repeat_both m (n - m) xs ∙ ap (λ (k : ℕ). repeat k xs) e in
    let size : m * length xs ≡ length (repeat m xs) = sym (length-repeat m xs) in
    ap (λ (k : ℕ). take k (repeat n xs)) size ∙ ap (λ (l : List Instruction). take (length (repeat m xs)) l) (sym whole) ∙ take-append_seam (repeat m xs) (repeat (n - m) xs)

-- that many are there
pub within_them : (m n : ℕ) (xs : List Instruction) → m ≤ n → m * length xs ≤ length (repeat n xs)
within_them m n xs h = omega (arith, length-repeat n xs, mul-le-mul_right (length xs) h)

-- a part of a piece that is some copies of the group
pub part_is : (m n : ℕ) (part piece group xs : List Instruction) → m ≤ n → piece ≡ repeat n group → group ≡ xs → part ≡ take (m * length group) piece → part ≡ repeat m xs
part_is m n part piece group xs h p g e =
    e ∙ ap (λ (l : List Instruction). take (m * length group) l) p ∙ first_of_them m n group h ∙ ap (repeat m) g

repeat-nil : (n : ℕ) → repeat {A = Instruction} n [] ≡ []
repeat-nil zero = refl
repeat-nil (suc n) = repeat-nil n

-- nothing stands from the place on
pub nothing : (t : Sections) (start times : ℕ) → length t.code ≤ start → t ≡ expanded t start times
unfolding expanded
nothing t start times h =
    let none : drop start t.code ≡ [] = grind (arith, common_steps) in
    let all : take start t.code ≡ t.code = grind (arith, common_steps) in
    let code : t.code ≡ take start t.code ++ repeat times (drop start t.code) = sym (rw (none, all, repeat-nil times) (append-nil t.code)) in
    ap (λ (l : List Instruction). record t { code = l }) code

-- what stands once is what stands
pub once : (t : Sections) (start : ℕ) → t ≡ expanded t start 1
unfolding expanded
once t start =
    let code : take start t.code ++ repeat 1 (drop start t.code) ≡ t.code = ap (λ (l : List Instruction). take start t.code ++ l) (append-nil (drop start t.code)) ∙ take-append-drop start t.code in
    ap (λ (l : List Instruction). record t { code = l }) (sym code)

-- how many instructions there are then
pub expanded_total : (t : Sections) (start times : ℕ) → instruction_total (expanded t start times) ≡ (instruction_total t - (length t.code - start)) + times * (length t.code - start)
unfolding expanded instruction_total
expanded_total t start times =
    omega (arith, length-append (take start t.code) (repeat times (drop start t.code)), length-take start t.code, length-repeat times (drop start t.code), ap (λ (n : ℕ). times * n) (length-drop start t.code))

-- as much, whichever number of the two comes first
pub turned : (n group times : ℕ) → group ≡ n → times * n ≡ group * times
turned n group times g = ap (λ (k : ℕ). times * k) (sym g) ∙ mul_comm times group

-- too many where so many of them counted so many times
pub too_many : (all group times product : ℕ) → all ≤ 65536 → group ≤ all → product ≡ min (group * times) (2 ^ 64 - 1) → ltb (65536 - (all - group)) product ≡ ltb 65536 ((all - group) + times * group)
too_many all group times product few within p =
    let same = turned group group times refl in
    ltb_from_iff (λ e. let below = ltb-true _ _ e in omega (arith, same, below), λ below. lt-ltb _ _ (omega (arith, same, below)))

-- so many more of what stands there
pub more_again : (t : Sections) (start count more : ℕ) → record (expanded t start count) { code = (expanded t start count).code ++ repeat more (drop start t.code) } ≡ expanded t start (count + more)
unfolding expanded
more_again t start count more =
    let d : List Instruction = drop start t.code in
    let code : (take start t.code ++ repeat count d) ++ repeat more d ≡ take start t.code ++ repeat (count + more) d =
    append_assoc (take start t.code) (repeat count d) (repeat more d) ∙ ap (λ (l : List Instruction). take start t.code ++ l) (repeat_both count more d) in
    ap (λ (l : List Instruction). record t { code = l }) code

-- as much of it as there was before is what there was
pub cut_back : (t : Sections) (start count : ℕ) → 1 ≤ count → record (expanded t start count) { code = take (length t.code) (expanded t start count).code } ≡ t
unfolding expanded
cut_back t start zero k = absurd (omega arith)
cut_back t start (suc n) k =
    let d : List Instruction = drop start t.code in
    let more : List Instruction = repeat n d in
    let whole : take start t.code ++ (d ++ more) ≡ t.code ++ more = sym (append_assoc (take start t.code) d more) ∙ ap (λ (l : List Instruction). l ++ more) (take-append-drop start t.code) in
    ap (λ (l : List Instruction). record t { code = l }) (ap (take (length t.code)) whole ∙ take-append_seam t.code more)

-- how much code that is
pub expanded_length : (t : Sections) (start times : ℕ) → start ≤ length t.code → length (expanded t start times).code ≡ start + times * (length t.code - start)
unfolding expanded
expanded_length t start times h =
    omega (arith, length-append (take start t.code) (repeat times (drop start t.code)), length-take start t.code, length-repeat times (drop start t.code), ap (λ (n : ℕ). times * n) (length-drop start t.code))

-- fewer times are less code
pub room : (t : Sections) (start count more times : ℕ) → start ≤ length t.code → count + more ≤ times → instruction_total (expanded t start times) ≤ 65536 → instruction_total (expanded t start count) + length (repeat more (drop start t.code)) ≤ 65536
room t start count more times h k few =
    let here = expanded_total t start count in
    let there = expanded_total t start times in
    let size : length (repeat more (drop start t.code)) ≡ more * (length t.code - start) = length-repeat more (drop start t.code) ∙ ap (λ (n : ℕ). more * n) (length-drop start t.code) in
    let all : (count + more) * (length t.code - start) ≤ times * (length t.code - start) = mul-le-mul_right (length t.code - start) k in
    let both : (count + more) * (length t.code - start) ≡ count * (length t.code - start) + more * (length t.code - start) = omega arith in
    omega (arith, here, there, all, both, size)

-- how much more that is
pub few_more : (t : Sections) (start times : ℕ) (group : List Instruction) → group ≡ drop start t.code → instruction_total (expanded t start times) ≤ 65536 → length group * (times - 1) ≤ 65536
few_more t start times group e few =
    let there = expanded_total t start times in
    let size : length group ≡ length t.code - start = ap length e ∙ length-drop start t.code in
    let fewer : (times - 1) * (length t.code - start) ≤ times * (length t.code - start) = mul-le-mul_right (length t.code - start) (omega arith) in
    omega (arith, there, fewer, turned (length t.code - start) (length group) (times - 1) size)

pub longer : (t : Sections) (start times end : ℕ) → end ≡ length t.code → start < end → 1 < times → length t.code < length (expanded t start times).code
longer t start times end e h k =
    let there = expanded_length t start times (omega arith) in
    let twice : 2 * (length t.code - start) ≤ times * (length t.code - start) = mul-le-mul_right (length t.code - start) (omega arith) in
    omega (arith, there, twice)

-- ## Instructions that leave no code

-- how many instructions there are where what was left out counts so many times
pub counted_total : (t : Sections) (start times : ℕ) → instruction_total (counted_again t start times) ≡ (instruction_total t - (t.left_out - start)) + times * (t.left_out - start)
unfolding counted_again instruction_total
counted_total t start times = omega arith

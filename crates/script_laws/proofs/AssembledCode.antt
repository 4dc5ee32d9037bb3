-- The code of a script's threads is nested: a line that would leave it otherwise is a fault.
use Rattle.std.proofs.Common.{◌≡◌, ℕ, zero, suc, ◌+◌, ◌||◌, Bool, true, false, nat_eq, nat_le, nat_lt, if◌then◌else◌, List, [], ◌∷◌, ◌++◌, length, take, drop, replicate, Option, None, Some, Result, Ok, Err, refl, sym, ap, subst, ◌∙◌, inl, inr, slice_get}
use Rattle.script_laws.proofs.Common.{Beginning, Group, Instruction, Leads, Level, Listing, Nests, Part, Shared, cases_Bool, codes_of, flat_map, group, innermost, innermost_line, list_all, or_parts, or_right, outer, repeat, second_part, stands_never, threads_of, within_never}
use Rattle.std.{proofs.lemmas.List.append-nil, proofs.Math.Seq.drop-append_seam, proofs.Math.Seq.take-append_seam, specs.Str.Lines.lines}
use Rattle.itm_types.specs.declared.limits.TheConstants.{MAX_ACTORS, MAX_ARENA, MAX_COMMITS, MAX_DEPTH, MAX_PATIENCE, MAX_RESTARTS, MAX_RETRIES}
use Rattle.script_fields.specs.declared.fault.AsmFault.{AsmFault}
use Rattle.script_fields.specs.declared.fault.FaultKind.TheVariants as kinds
use Rattle.script_fields.specs.Text.{fields, without_comment, is_allowed}
use Rattle.script_program.specs.declared.limits.TheConstants.{MAX_INSTRUCTIONS, MAX_ITEMS, MAX_LEVELS, MAX_REPEATS, MAX_TEXT}
use Rattle.script_program.specs.declared.instruction.Instruction.TheVariants as code
use Rattle.script_program.specs.Schedules.{stray_of}
use Rattle.script_program.specs.Sections.{Sections, begun, counted_again, expanded, instruction_total, parts_of, thread_total}
use Rattle.script_asm.specs.declared.groups.Group.TheVariants as groups
use Rattle.script_asm.specs.declared.state.State.{State}
use Rattle.script_asm.specs.declared.mnemonics.Word.{Word}
use Rattle.script_asm.specs.declared.mnemonics.Word.TheVariants as words
use Rattle.script_asm.specs.Assembly.{closed, complete, end_of, initial, lines_say, listing_of, meaning, named, obeyed, program_of, said, worded}
use Rattle.script_asm.specs.Blocks.{added, again, begins, counted, ends, ends_block, ends_group, in_second_part, opened, place_of, repeated, repeats, run_code, turns_group, without_innermost}
use Rattle.script_asm.specs.Directives.{laid_in, scheduled, threaded}
use Rattle.script_asm.specs.Readings.{◌>>=◌, at_line, fault}
use Rattle.script_asm.specs.Code.{instruction_of}
use Rattle.script_asm.specs.Items.{schedule_of}
use Rattle.script_fields.specs.Shapes.{none, size_of, limit_of, init_of, count_of}
use Rattle.script_asm.specs.Placement.{has_begun, may_stand}
use Rattle.script_asm.specs.Words.{word_of}
use Rattle.script_laws.proofs.OpenCode.{leads_times, level_in, BeginsAt, Open, open_more, open_ended, live, live_never, live_all}

-- ## Sections

abbrev NestedParts : List Part → Type 0
NestedParts [] = Unit {0}
NestedParts (p ∷ more) = Nests p.code [] × NestedParts more

one_more : (ps : List Part) (p : Part) → NestedParts ps → Nests p.code [] → NestedParts (ps ++ p ∷ [])
one_more [] p ns n = (n, tt)
one_more (q ∷ more) p ns n = (ns.0, one_more more p ns.1 n)

-- a section that is read, within what is open
record AreOpen (t : Sections) (bs : List Beginning) : Type 0 where
  ended : NestedParts t.ended
  levels : List Level
  now : Open (live bs) t.code levels

abbrev IsGood : State → Type 0
IsGood s = AreOpen s.threads s.levels

abbrev OkGood : Result State AsmFault → Type 0
OkGood (Ok s) = IsGood s
OkGood (Err f) = Unit {0}

fault_or : (b : Bool) (f : AsmFault) (r : Result State AsmFault) → OkGood r → OkGood (if b then Err f else r)
fault_or true f r g = tt
fault_or false f r g = g

or_fault : (b : Bool) (f : AsmFault) (r : Result State AsmFault) → OkGood r → OkGood (if b then r else Err f)
or_fault true f r g = g
or_fault false f r g = tt

any_good : {A : Type 0} (r : Result A AsmFault) (f : A → Result State AsmFault) → ((x : A) → OkGood (f x)) → OkGood (r >>= f)
any_good (Ok x) f g = g x
any_good (Err k) f g = tt

then_good : (r : Result State AsmFault) (f : State → Result State AsmFault) → OkGood r → ((t : State) → IsGood t → OkGood (f t)) → OkGood (r >>= f)
then_good (Ok s) f r g = g s r
then_good (Err k) f r g = tt

-- ## Instructions

-- an instruction is added, which leads from what is open to what is open then
module _ (s : State) (n : ℕ) (good : IsGood s) where
  -- within lines that are to stand 0 times it leaves no code
  never_added : (i : Instruction) (bs : List Beginning) → within_never s.levels ≡ true → live bs ≡ live s.levels → AreOpen (added (within_never s.levels) s.threads i) bs
  never_added i bs w same =
      subst (λ (b : Bool). AreOpen (added b s.threads i) bs) (sym w) (record { ended = good.ended; levels = good.levels; now = subst (λ (l : List Beginning). Open l s.threads.code good.levels) (sym same) good.now })

  all_open : within_never s.levels ≡ false → Open s.levels s.threads.code good.levels
  all_open w = subst (λ (l : List Beginning). Open l s.threads.code good.levels) (live_all s.levels w) good.now

  now_added : (i : Instruction) (bs : List Beginning) (levels : List Level) → within_never s.levels ≡ false → live bs ≡ bs → Open bs (s.threads.code ++ i ∷ []) levels → AreOpen (added (within_never s.levels) s.threads i) bs
  now_added i bs levels w same o =
      subst (λ (b : Bool). AreOpen (added b s.threads i) bs) (sym w) (record { ended = good.ended; levels = levels; now = subst (λ (l : List Beginning). Open l (s.threads.code ++ i ∷ []) levels) (sym same) o })

  -- where there is no room for it, it is a fault
  all_room : (f : State → Result State AsmFault) (t : Sections) → OkGood (f (record s { threads = t })) → OkGood ((if nat_le MAX_INSTRUCTIONS (instruction_total s.threads) then fault n kinds.TooLong else Ok (record s { threads = t })) >>= f)
  all_room f t g = elim (nat_le MAX_INSTRUCTIONS (instruction_total s.threads)) as (λ (full : Bool). OkGood ((if full then fault n kinds.TooLong else Ok (record s { threads = t })) >>= f)) [ true ↦ tt | false ↦ g ]

  -- one that begins and ends nothing
  plain_good : (i : Instruction) → ((levels : List Level) → Leads (i ∷ []) levels levels) → OkGood (counted s n i)
  plain_good i leads = fault_or (nat_le MAX_INSTRUCTIONS (instruction_total s.threads)) _ _ (elim (cases_Bool (within_never s.levels)) [
    | inl w ↦ never_added i s.levels w refl
    | inr w ↦ now_added i s.levels good.levels w (live_all s.levels w) (open_more s.levels s.threads.code (i ∷ []) good.levels (all_open w) (leads good.levels))
  ])

  -- one that begins a block or a group
  begins_good : (i : Instruction) (g : Group) → stands_never g ≡ false → ((levels : List Level) → Leads (i ∷ []) levels (level_in g levels)) → BeginsAt g (length s.threads.code) → OkGood (begins s n i g)
  begins_good i g stands leads place = all_room (λ t. opened t n g) (added (within_never s.levels) s.threads i) (fault_or (nat_le MAX_LEVELS (length s.levels)) _ _ opens)
    where
      b : Beginning
      b = record { line = n; group = g }

      opens : AreOpen (added (within_never s.levels) s.threads i) (b ∷ s.levels)
      opens = elim (cases_Bool (within_never s.levels)) [
        | inl w ↦ never_added i (b ∷ s.levels) w (live_never b s.levels (or_right (stands_never g) (within_never s.levels) w))
        | inr w ↦
            now_added i (b ∷ s.levels) (level_in g good.levels) w (live_all (b ∷ s.levels) ((λ j. stands j || within_never s.levels) ∙ w))
            (s.threads.code, i ∷ [], good.levels, all_open w, refl, refl, leads good.levels, place)
      ]

  -- one that ends what is innermost
  ends_good : (i : Instruction) (g : Group) → innermost s.levels ≡ Some g → ((levels : List Level) → Leads (i ∷ []) (level_in g levels) levels) → OkGood (ends s n i)
  ends_good i g is leads = all_room (λ t. Ok (without_innermost t)) (added (within_never s.levels) s.threads i) (closes s.levels refl is)
    where
      closes : (bs : List Beginning) → bs ≡ s.levels → innermost bs ≡ Some g → AreOpen (added (within_never s.levels) s.threads i) (outer bs)
      closes [] same is = absurd (cc)
      closes (b ∷ more) same is = elim (cases_Bool (within_never s.levels)) [
        | inl w ↦ never_added i more w (sym (live_never b more (ap within_never same ∙ w)) ∙ ap live same)
        | inr w ↦
            (let group_is : b.group ≡ g = cc in
            let x = open_ended b more s.threads.code good.levels i (subst (λ (l : List Beginning). Open l s.threads.code good.levels) (sym same) (all_open w)) (λ around. subst (λ (h : Group). Leads (i ∷ []) (level_in h around) around) (sym group_is) (leads around)) in
            now_added i more x.0 w (live_all more (or_parts (stands_never b.group) (within_never more) (ap within_never same ∙ w)).1) x.1)
      ]

  -- the second part of a group
  turns_good : innermost s.levels ≡ Some groups.First → OkGood (turns_group s n (innermost s.levels))
  turns_good is = subst (λ (o : Option Group). OkGood (turns_group s n o)) (sym is) (all_room (λ t. Ok (in_second_part t)) (added (within_never s.levels) s.threads code.Else) (turned s.levels refl is))
    where
      turned : (bs : List Beginning) → bs ≡ s.levels → innermost bs ≡ Some groups.First → AreOpen (added (within_never s.levels) s.threads code.Else) (second_part bs)
      turned [] same is = absurd (cc)
      turned (b ∷ more) same is =
          let first : b.group ≡ groups.First = cc in
          let around_never : within_never (b ∷ more) ≡ within_never more = ap (λ (g : Group). stands_never g || within_never more) first in
          elim (cases_Bool (within_never s.levels)) [
            | inl w ↦
                never_added code.Else (record b { group = groups.Second } ∷ more) w
                (live_never (record b { group = groups.Second }) more (sym around_never ∙ (ap within_never same ∙ w)) ∙ (sym (live_never b more (ap within_never same ∙ w)) ∙ ap live same))
            | inr w ↦
                (let all = subst (λ (l : List Beginning). Open l s.threads.code good.levels) (sym same) (all_open w) in
                let levels_are : good.levels ≡ group ∷ all.2 = all.5 ∙ ap (λ (g : Group). level_in g all.2) first in
                let more_code = open_more (b ∷ more) s.threads.code (code.Else ∷ []) good.levels all (all.2, levels_are, refl) in
                now_added code.Else (record b { group = groups.Second } ∷ more) good.levels w (live_all (record b { group = groups.Second } ∷ more) (sym around_never ∙ (ap within_never same ∙ w)))
                (more_code.0, more_code.1, more_code.2, more_code.3, more_code.4, more_code.5 ∙ ap (λ (g : Group). level_in g more_code.2) first, more_code.6, tt))
          ]

  ends_group_good : (o : Option Group) → innermost s.levels ≡ o → OkGood (ends_group s n o)
  ends_group_good (Some groups.First) is = ends_good code.EndIf groups.First is (λ levels. (levels, refl, refl))
  ends_group_good (Some groups.Second) is = ends_good code.EndIf groups.Second is (λ levels. (levels, refl, refl))
  ends_group_good o is = tt

  ends_block_good : (o : Option Group) → innermost s.levels ≡ o → OkGood (ends_block s n o)
  ends_block_good (Some groups.Block) is = ends_good code.Commit groups.Block is (λ levels. (levels, refl, refl))
  ends_block_good o is = tt

  turns_group_good : (o : Option Group) → innermost s.levels ≡ o → OkGood (turns_group s n (innermost s.levels))
  turns_group_good (Some groups.First) is = turns_good is
  turns_group_good now is = subst (λ (o : Option Group). OkGood (turns_group s n o)) (sym is) tt

  run_good : (i : Instruction) → OkGood (run_code s n i)
  unfolding run_code
  run_good (code.Begin props r) = begins_good (code.Begin props r) groups.Block refl (λ levels. refl) tt
  run_good (code.IfNotZero r) = begins_good (code.IfNotZero r) groups.First refl (λ levels. refl) tt
  run_good code.Else = turns_group_good (innermost s.levels) refl
  run_good code.EndIf = ends_group_good (innermost s.levels) refl
  run_good code.Commit = ends_block_good (innermost s.levels) refl
  run_good i = plain_good i (λ levels. refl)

  -- ## Lines that stand several times

  repeats_good : (times : ℕ) → OkGood (repeats s n times)
  repeats_good times = fault_or (nat_le MAX_LEVELS (length s.levels)) _ _ opens
    where
      b : Beginning
      b = record { line = n; group = groups.Repeat (place_of (nat_eq times 0 || within_never s.levels) s.threads) times }

      opens : AreOpen s.threads (b ∷ s.levels)
      opens = elim (cases_Bool (nat_eq times 0 || within_never s.levels)) [
        | inl w ↦ record { ended = good.ended; levels = good.levels; now = subst (λ (l : List Beginning). Open l s.threads.code good.levels) (sym (live_never b s.levels w)) good.now }
        | inr w ↦
            (let place : place_of (nat_eq times 0 || within_never s.levels) s.threads ≡ length s.threads.code = ap (λ (x : Bool). place_of x s.threads) w in
            record {
              ended = good.ended;
              levels = good.levels;
              now = subst (λ (l : List Beginning). Open l s.threads.code good.levels) (sym (live_all (b ∷ s.levels) w))
                  (s.threads.code, [], good.levels, all_open (or_parts (nat_eq times 0) (within_never s.levels) w).1, sym (append-nil s.threads.code), refl, refl, place);
            })
      ]

  repeated_good : (o : Option Group) → innermost s.levels ≡ o → OkGood (repeated s n o)
  unfolding repeated expanded counted_again
  repeated_good (Some (groups.Repeat start times)) is = fault_or (nat_lt MAX_INSTRUCTIONS (instruction_total (again (within_never s.levels) s.threads start times))) _ _ (by_levels s.levels refl is)
    where
      by_levels : (bs : List Beginning) → bs ≡ s.levels → innermost bs ≡ Some (groups.Repeat start times) → AreOpen (again (within_never s.levels) s.threads start times) (outer bs)
      by_levels [] same is = absurd (cc)
      by_levels (b ∷ more) same is = elim (cases_Bool (within_never s.levels)) [
        | inl w ↦
            subst (λ (x : Bool). AreOpen (again x s.threads start times) more) (sym w)
            (record { ended = good.ended; levels = good.levels; now = subst (λ (l : List Beginning). Open l s.threads.code good.levels) (sym (ap live same) ∙ live_never b more (ap within_never same ∙ w)) good.now })
        | inr w ↦
            (let group_is : b.group ≡ groups.Repeat start times = cc in
            let o = subst (λ (l : List Beginning). Open l s.threads.code good.levels) (sym same) (all_open w) in
            let levels_are : good.levels ≡ o.2 = o.5 ∙ ap (λ (g : Group). level_in g o.2) group_is in
            let place : start ≡ length o.0 = subst (λ (g : Group). BeginsAt g (length o.0)) group_is o.7 in
            let again_is : take start s.threads.code ++ repeat times (drop start s.threads.code) ≡ o.0 ++ repeat times o.1 =
            (λ i. take (place i) (o.4 i) ++ repeat times (drop (place i) (o.4 i))) ∙ (λ i. take-append_seam o.0 o.1 i ++ repeat times (drop-append_seam o.0 o.1 i)) in
            let stands = open_more more o.0 (repeat times o.1) o.2 o.3 (leads_times times o.1 o.2 (subst (Leads o.1 o.2) levels_are o.6)) in
            subst (λ (x : Bool). AreOpen (again x s.threads start times) more) (sym w)
            (record {
              ended = good.ended;
              levels = o.2;
              now = subst (λ (l : List Beginning). Open l (take start s.threads.code ++ repeat times (drop start s.threads.code)) o.2) (sym (live_all more (or_parts (stands_never b.group) (within_never more) (ap within_never same ∙ w)).1))
                  (subst (λ (xs : List Instruction). Open more xs o.2) (sym again_is) stands);
            }))
      ]
  repeated_good o is = tt

  -- ## Sections

  -- all of them, where nothing is open
  all_nested : innermost_line s.levels ≡ None → NestedParts (parts_of s.threads)
  all_nested none = by_levels s.levels refl none
    where
      by_levels : (bs : List Beginning) → bs ≡ s.levels → innermost_line bs ≡ None → NestedParts (parts_of s.threads)
      by_levels [] same none = one_more s.threads.ended _ good.ended (subst (λ (l : List Beginning). Open (live l) s.threads.code good.levels) (sym same) good.now).0
      by_levels (b ∷ more) same none = absurd (cc)

  begun_good : (count : ℕ) → innermost_line s.levels ≡ None → AreOpen (begun s.threads count) s.levels
  begun_good count none = by_count (nat_lt 0 s.threads.count)
    where
      no_levels : (bs : List Beginning) → innermost_line bs ≡ None → bs ≡ []
      no_levels [] e = refl
      no_levels (b ∷ more) e = absurd (cc)

      by_count : (some : Bool) → AreOpen (if some then record { ended = parts_of s.threads; count = count; code = []; left_out = s.threads.left_out } else record s.threads { count = count }) s.levels
      by_count true = record { ended = all_nested none; levels = []; now = subst (λ (l : List Beginning). Open (live l) [] []) (sym (no_levels s.levels none)) (refl, refl) }
      by_count false = record { ended = good.ended; levels = good.levels; now = good.now }

  threaded_good : (count : ℕ) (o : Option ℕ) → innermost_line s.levels ≡ o → OkGood (threaded s n count o)
  unfolding threaded
  threaded_good count (Some line) is = tt
  threaded_good count None is = fault_or (nat_lt MAX_ACTORS (thread_total s.threads + count)) _ _ (begun_good count is)

  laid_good : (x : ℕ × List ℕ) (o : Option Shared) → OkGood (laid_in s n x o)
  unfolding laid_in
  laid_good x None = tt
  laid_good x (Some m) = or_fault (nat_le (x.0 + length x.1) m.size) _ _ good

  -- ## Lines

  obeyed_good : (w : Word) (fs : List (List ℕ)) → OkGood (obeyed s n w fs)
  unfolding obeyed
  obeyed_good words.Memory fs = any_good (at_line n (size_of fs)) (λ m. Ok (record s { memory = Some (record { size = m; inits = [] }) })) (λ m. good)
  obeyed_good words.Init fs = any_good (at_line n (init_of fs)) (λ x. laid_in s n x s.memory) (λ x. laid_good x s.memory)
  obeyed_good words.Arena fs = any_good (at_line n (limit_of 0 MAX_ARENA fs)) (λ k. Ok (record s { limits = record s.limits { arena = Some k } })) (λ k. good)
  obeyed_good words.Patience fs = any_good (at_line n (limit_of 1 MAX_PATIENCE fs)) (λ k. Ok (record s { limits = record s.limits { patience = Some k } })) (λ k. good)
  obeyed_good words.Retries fs = any_good (at_line n (limit_of 0 MAX_RETRIES fs)) (λ k. Ok (record s { limits = record s.limits { retries = Some k } })) (λ k. good)
  obeyed_good words.Restarts fs = any_good (at_line n (limit_of 0 MAX_RESTARTS fs)) (λ k. Ok (record s { limits = record s.limits { restarts = Some k } })) (λ k. good)
  obeyed_good words.Commits fs = any_good (at_line n (limit_of 1 MAX_COMMITS fs)) (λ k. Ok (record s { limits = record s.limits { commits = Some k } })) (λ k. good)
  obeyed_good words.Depth fs = any_good (at_line n (limit_of 1 MAX_DEPTH fs)) (λ k. Ok (record s { limits = record s.limits { depth = Some k } })) (λ k. good)
  obeyed_good words.Schedule fs = any_good (at_line n (schedule_of fs)) (scheduled s n) (λ items. fault_or (nat_lt MAX_ITEMS (length s.schedule.items + length items)) _ _ good)
  obeyed_good words.Thread fs = any_good (at_line n (count_of fs)) (λ count. threaded s n count (innermost_line s.levels)) (λ count. threaded_good count (innermost_line s.levels) refl)
  obeyed_good words.Repeat fs = any_good (at_line n (limit_of 0 MAX_REPEATS fs)) (repeats s n) repeats_good
  obeyed_good words.EndRepeat fs = any_good (at_line n (none fs)) (λ x. repeated s n (innermost s.levels)) (λ x. repeated_good (innermost s.levels) refl)
  obeyed_good (words.Code m) fs = any_good (at_line n (instruction_of m fs)) (run_code s n) run_good

  worded_good : (o : Option Word) (fs : List (List ℕ)) → OkGood (worded s n o fs)
  worded_good None fs = tt
  worded_good (Some w) fs = or_fault (may_stand s w) _ _ (obeyed_good w fs)

  said_good : (fs : List (List ℕ)) → OkGood (said s n fs)
  said_good [] = good
  said_good (f ∷ fs) = worded_good (word_of f) fs

  meaning_good : (line : List ℕ) → OkGood (meaning s n line)
  unfolding meaning
  meaning_good line = or_fault (list_all is_allowed (without_comment line)) _ _ (said_good (fields (without_comment line)))

lines_good : (ls : List (List ℕ)) (s : State) (n : ℕ) → IsGood s → OkGood (lines_say s n ls)
lines_good [] s n good = good
lines_good (line ∷ more) s n good = then_good (meaning s n line) _ (meaning_good s n good line) (λ t g. lines_good more t (n + 1) g)

-- ## The whole text

named_parts : (s : State) (m : Shared) (o : Option ℕ) (p : Listing) → named s m o ≡ Ok p → p.parts ≡ parts_of s.threads
named_parts s m (Some line) p e = absurd (cc)
named_parts s m None p e = (let same : listing_of s m ≡ p = cc in ap (λ (x : Listing). x.parts) (sym same))

complete_parts : (s : State) (o : Option Shared) (p : Listing) → complete s o ≡ Ok p → p.parts ≡ parts_of s.threads
complete_parts s None p e = absurd (cc)
complete_parts s (Some m) p e = by_begun (has_begun s) e
  where
    by_begun : (b : Bool) → (if b then named s m (stray_of (thread_total s.threads) s.schedule.items s.schedule.lines) else fault 0 kinds.Misplaced) ≡ Ok p → p.parts ≡ parts_of s.threads
    by_begun true e = named_parts s m (stray_of (thread_total s.threads) s.schedule.items s.schedule.lines) p e
    by_begun false e = absurd (cc)

ended_parts : (s : State) (p : Listing) → IsGood s → end_of s ≡ Ok p → NestedParts p.parts
unfolding end_of
ended_parts s p good e = by_line (innermost_line s.levels) refl e
  where
    by_line : (o : Option ℕ) → innermost_line s.levels ≡ o → closed s o ≡ Ok p → NestedParts p.parts
    by_line (Some line) is e = absurd (cc)
    by_line None is e = subst NestedParts (sym (complete_parts s s.memory p e)) (all_nested s 0 good is)

read_parts : (r : Result State AsmFault) (p : Listing) → OkGood r → (r >>= end_of) ≡ Ok p → NestedParts p.parts
read_parts (Ok s) p good e = ended_parts s p good e
read_parts (Err f) p good e = absurd (cc)

text_parts : (text : List ℕ) (p : Listing) → program_of text ≡ Ok p → NestedParts p.parts
unfolding program_of
text_parts text p e = by_size (nat_lt MAX_TEXT (length text)) e
  where
    by_size : (b : Bool) → (if b then fault 0 kinds.TooLong else (lines_say initial 1 (lines text) >>= end_of)) ≡ Ok p → NestedParts p.parts
    by_size true e = absurd (cc)
    by_size false e = read_parts (lines_say initial 1 (lines text)) p (lines_good (lines text) initial 1 (record { ended = tt; levels = []; now = (refl, refl) })) e

-- ## Threads

abbrev AllNest : List (List Instruction) → Type 0
AllNest [] = Unit {0}
AllNest (x ∷ more) = Nests x [] × AllNest more

all_after : (xs ys : List (List Instruction)) → AllNest xs → AllNest ys → AllNest (xs ++ ys)
all_after [] ys a b = b
all_after (x ∷ xs) ys a b = (a.0, all_after xs ys a.1 b)

all_same : (n : ℕ) (x : List Instruction) → Nests x [] → AllNest (replicate n x)
all_same zero x a = tt
all_same (suc n) x a = (a, all_same n x a)

all_codes : (ps : List Part) → NestedParts ps → AllNest (flat_map (λ p. replicate p.count p.code) ps)
all_codes [] a = tt
all_codes (p ∷ more) a = all_after (replicate p.count p.code) (flat_map (λ p. replicate p.count p.code) more) (all_same p.count p.code a.0) (all_codes more a.1)

found : (xs : List (List Instruction)) (place : ℕ) (x : List Instruction) → AllNest xs → slice_get xs place ≡ Some x → Nests x []
found [] place x a e = absurd (cc)
found (y ∷ more) zero x a e = (let same : y ≡ x = cc in subst (λ (z : List Instruction). Nests z []) same a.0)
found (y ∷ more) (suc n) x a e = found more n x a.1 e

pub assembled_nests : (text : List ℕ) (p : Listing) → program_of text ≡ Ok p → (place : ℕ) (code : List Instruction) → slice_get (threads_of p) place ≡ Some code → Nests code []
unfolding codes_of
assembled_nests text p e place x is = found (threads_of p) place x (all_codes p.parts (text_parts text p e)) is

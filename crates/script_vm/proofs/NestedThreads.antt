-- A thread whose code is nested makes no more calls up to its outermost commit than it tells.
use Rattle.std.proofs.Common.{◌≡◌, ℕ, zero, suc, ◌+◌, ◌-◌, ◌<◌, ◌≤◌, Bool, true, false, List, [], ◌∷◌, ◌++◌, length, None, Some, ◌⊎◌, inl, inr, true≢false, if◌then◌else◌, refl, sym, ap, subst, ◌∙◌, arith, rules, slice_index_or, take}
use Rattle.script_vm.proofs.Common.{Block, Bytes, Code, Done, Instruction, Level, Nests, Refused, Register, Reply, Runs, Stage, Thread, answered, answered_at, at_block, back_to, begun, block, blocks_in, call_at, cancelled, cancelled_in, closed, depth_of, ended, entered, goes_on, innermost, length-closed, ltb-false, may_open, next_call, no_block, none_is_no_call, one_longer, open_past, opening, past_block, restarted, room, same_call, settled, stage_past, stopped, told, took, with_number, worked, zeros}
use Rattle.itm_types.specs.declared.call.Call.{Call}
use Rattle.itm_types.specs.declared.call.Call.TheVariants as calls
use Rattle.tx_player.specs.Replies.{MayReply}
use Rattle.script_program.specs.declared.instruction.Instruction.TheVariants as code
use Rattle.script_vm.specs.Rooms.{carried_room}
use Rattle.script_vm.proofs.NestedCode.{past_nests, room_more, room_nil, room_step, worked_settles}

-- ## A thread

-- code that a thread stands at between two calls: it has ended, or a call is next
abbrev pub IsAtCall : List Instruction → Type 0
IsAtCall [] = Unit {0}
IsAtCall (code.Set to n ∷ more) = ⊥
IsAtCall (code.Bytes to literal ∷ more) = ⊥
IsAtCall (code.Move to from ∷ more) = ⊥
IsAtCall (code.Compute operation to x y ∷ more) = ⊥
IsAtCall (code.IfNotZero x ∷ more) = ⊥
IsAtCall (code.Else ∷ more) = ⊥
IsAtCall (code.EndIf ∷ more) = ⊥
IsAtCall (call ∷ more) = Unit {0}

-- the code from which its outermost block began is nested
abbrev pub HasNestedStart : List Block → Type 0
HasNestedStart [] = Unit {0}
HasNestedStart (b ∷ inner) = (levels : List Level) × Nests b.rest levels × (blocks_in levels ≡ 0) × IsAtCall b.rest

-- its code is nested, with as many blocks around it as it has open
pub record IsWithin (t : Thread) : Type 0 where
  pub levels : List Level
  pub nests : Nests t.rest levels
  pub blocks : blocks_in levels ≡ depth_of t
  pub at_call : IsAtCall t.rest

-- or more are open than may be, and it has no more calls
pub record IsNested (t : Thread) : Type 0 where
  pub code : IsWithin t ⊎ ((t.rest ≡ []) × (t.deepest < depth_of t))
  pub start : HasNestedStart t.blocks

-- how many instructions stand up to the end of its outermost block
abbrev pub left : Thread → ℕ
left t = room (depth_of t) t.rest

-- its work is done up to the next call
worked_at_call : (stage : Stage) (registers : List (List ℕ)) (rest : List Instruction) → IsAtCall (worked stage registers rest).1
worked_at_call stage registers [] = tt
worked_at_call Runs registers (code.Set to n ∷ more) = worked_at_call Runs (with_number registers to n) more
worked_at_call Runs registers (i ∷ more) =
    let next : (s : Stage) (r : List (List ℕ)) → IsAtCall (worked s r more).1 = λ s r. worked_at_call s r more in
    first_of (search rules, search (rules, next))
worked_at_call stage registers (i ∷ more) = worked_at_call (stage_past stage i) registers more

-- it goes on at such code
record GoesOn (new : Thread) (more : List Instruction) : Type 0 where
  nested : IsNested new
  fewer : left new ≤ room (depth_of new) more

goes_nested : (t : Thread) (registers : List (List ℕ)) (more : List Instruction) (levels : List Level) → Nests more levels → blocks_in levels ≡ depth_of t → HasNestedStart t.blocks → GoesOn (goes_on t registers more) more
goes_nested t registers more levels x same start =
    let s = worked_settles Runs registers more levels levels x refl in
    record {
      nested = record { code = inl (record { levels = s.levels; nests = s.nests; blocks = s.blocks_are ∙ same; at_call = worked_at_call Runs registers more }); start = start };
      fewer = by_depth (depth_of t) same s.fewer;
    }
  where
    by_depth : (d : ℕ) → blocks_in levels ≡ d → (0 < blocks_in levels → room (blocks_in levels) (settled registers more).1 ≤ room (blocks_in levels) more) → room d (settled registers more).1 ≤ room d more
    by_depth zero e fewer = omega arith
    by_depth (suc d) e fewer = (let less = fewer (omega arith) in let now = ap (λ (n : ℕ). room n (settled registers more).1) e in let was = ap (λ (n : ℕ). room n more) e in omega arith)

-- after an instruction, a call, it is nested, and no further from the end of its outermost block than the code behind it
record StaysNested (i : Instruction) (d : ℕ) (more : List Instruction) (new : Thread) : Type 0 where
  nested : IsNested new
  fewer : left new ≤ room (open_past i d) more

goes_as : (i : Instruction) (d : ℕ) (more : List Instruction) (new : Thread) → GoesOn new more → depth_of new ≡ open_past i d → StaysNested i d more new
goes_as i d more new g depth = record { nested = g.nested; fewer = (let less = g.fewer in let same = ap (λ (n : ℕ). room n more) depth in omega arith) }

-- past the end of so many blocks
goes_past : (i : Instruction) (d n : ℕ) (more : List Instruction) (new : Thread) → GoesOn new (past_block n more) → n + depth_of new ≡ open_past i d → StaysNested i d more new
goes_past i d n more new g depth = record {
  nested = g.nested;
  fewer = (let less = g.fewer in let all = room_more n (depth_of new) more in let same = ap (λ (k : ℕ). room k more) depth in omega arith);
}

-- a block that may not be open is one more than may
stopped_deeper : (deepest : ℕ) (blocks : List Block) → may_open deepest blocks ≡ false → deepest < length (blocks ++ no_block ∷ [])
stopped_deeper deepest [] full = absurd (true≢false full)
stopped_deeper deepest (outer ∷ inner) full = (let many = ltb-false (length (outer ∷ inner)) deepest full in let one = one_longer (outer ∷ inner) no_block in omega arith)

closed_start : (blocks : List Block) → HasNestedStart blocks → HasNestedStart (closed blocks)
closed_start [] s = tt
closed_start (b ∷ []) s = tt
closed_start (b ∷ inner ∷ more) s = s

module _ (deepest : ℕ) (registers : List (List ℕ)) (rest : List Instruction) (blocks : List Block) (start : HasNestedStart blocks) where
  abbrev at_blocks : Thread
  at_blocks = record { rest = rest; registers = registers; blocks = blocks; deepest = deepest }

  module _ (more : List Instruction) (levels : List Level) (same : blocks_in levels ≡ length blocks) where
    plain : (i : Instruction) → (regs : List (List ℕ)) → Nests more levels → open_past i (length blocks) ≡ length blocks → StaysNested i (length blocks) more (goes_on at_blocks regs more)
    plain i regs x e = goes_as i (length blocks) more _ (goes_nested at_blocks regs more levels x same start) (sym e)

    took_goes : (i : Instruction) (x : Register) (r : Reply) → Nests more levels → open_past i (length blocks) ≡ length blocks → StaysNested i (length blocks) more (took at_blocks x more r)
    took_goes i x (Bytes v) n e = plain i _ n e
    took_goes i x r n e = plain i _ n e

    told_goes : (i : Instruction) (x : Register) (r : Reply) → Nests more levels → open_past i (length blocks) ≡ length blocks → StaysNested i (length blocks) more (told at_blocks x more r)
    told_goes i x (Code k) n e = plain i _ n e
    told_goes i x r n e = plain i _ n e

    entered_start : (b : Block) → Nests b.rest levels → IsAtCall b.rest → (all : List Block) → all ≡ blocks → HasNestedStart (all ++ b ∷ [])
    entered_start b n at [] e = (levels, n, same ∙ ap length (sym e), at)
    entered_start b n at (outer ∷ inner) e = subst HasNestedStart (sym e) start

    stopped_start : (all : List Block) → all ≡ blocks → may_open deepest all ≡ false → HasNestedStart (all ++ no_block ∷ [])
    stopped_start [] e full = absurd (cc)
    stopped_start (outer ∷ inner) e full = subst HasNestedStart (sym e) start

    past_one : (regs : List (List ℕ)) → (t : Thread) → (k : ℕ) → Nests more levels → k + depth_of t ≡ length blocks → HasNestedStart t.blocks → GoesOn (goes_on t regs (past_block k more)) (past_block k more)
    past_one regs t k x depth from =
        let p = past_nests k more levels (omega arith) x in
        goes_nested t regs (past_block k more) p.0 p.1 (let all = p.2 in omega arith) from

    cancelled_goes : (outer : Bool) (r : Reply) → Nests more levels → StaysNested (code.Abort outer) (length blocks) more (cancelled at_blocks outer more r)
    cancelled_goes outer (Code n) x = by_blocks outer blocks refl
      where
        by_blocks : (outer : Bool) (all : List Block) → all ≡ blocks → StaysNested (code.Abort outer) (length blocks) more (cancelled_in at_blocks outer more n all)
        by_blocks outer [] e = plain (code.Abort outer) _ x refl
        by_blocks false (b ∷ inner) e =
            let k = innermost b inner in
            let t : Thread = record at_blocks { blocks = closed (b ∷ inner) } in
            let depth : 1 + depth_of t ≡ length blocks = (let one = length-closed (b ∷ inner) in let all = ap length e in omega arith) in
            goes_past (code.Abort false) (length blocks) 1 more _ (past_one (with_number k.registers k.code n) t 1 x depth (closed_start (b ∷ inner) (subst HasNestedStart (sym e) start))) depth
        by_blocks true (b ∷ inner) e =
            let t : Thread = record at_blocks { blocks = [] } in
            let depth : length (b ∷ inner) + 0 ≡ length blocks = (let all = ap length e in omega arith) in
            goes_past (code.Abort true) (length blocks) (length (b ∷ inner)) more _ (past_one (with_number b.registers b.code n) t (length (b ∷ inner)) x depth tt) depth
    cancelled_goes outer r x = plain (code.Abort outer) _ x refl

answered_goes : (deepest : ℕ) (registers : List (List ℕ)) (i : Instruction) (more : List Instruction) (blocks : List Block) (start : HasNestedStart blocks) (levels : List Level) → Nests (i ∷ more) levels → blocks_in levels ≡ length blocks → (c : Call) (r : Reply)
    → call_at registers (length blocks) (i ∷ more) ≡ Some c → MayReply (length blocks) c r → StaysNested i (length blocks) more (answered_at (at_blocks deepest registers (i ∷ more) blocks start) (i ∷ more) r)
answered_goes deepest registers (code.IfNotZero y) more blocks start levels x same c r e may = absurd (none_is_no_call c e)
answered_goes deepest registers code.Else more blocks start levels x same c r e may = absurd (none_is_no_call c e)
answered_goes deepest registers code.EndIf more blocks start levels x same c r e may = absurd (none_is_no_call c e)
answered_goes deepest registers (code.Load width to at) more blocks start levels x same c r e may = took_goes deepest registers (code.Load width to at ∷ more) blocks start more levels same (code.Load width to at) to r x refl
answered_goes deepest registers (code.Read hint width to at) more blocks start levels x same c r e may = took_goes deepest registers (code.Read hint width to at ∷ more) blocks start more levels same (code.Read hint width to at) to r x refl
answered_goes deepest registers (code.InTransaction to) more blocks start levels x same c r e may = told_goes deepest registers (code.InTransaction to ∷ more) blocks start more levels same (code.InTransaction to) to r x refl
answered_goes deepest registers (code.Abort outer) more blocks start levels x same c r e may = cancelled_goes deepest registers (code.Abort outer ∷ more) blocks start more levels same outer r x
answered_goes deepest registers (code.Begin props to) more blocks start levels x same c r e may = by_reply r (subst (λ (y : Call). MayReply (length blocks) y r) (sym (same_call _ c e)) may)
  where
    t : Thread
    t = record { rest = code.Begin props to ∷ more; registers = registers; blocks = blocks; deepest = deepest }

    by_reply : (r : Reply) → MayReply (length blocks) (calls.Begin props (room (suc (length blocks)) more)) r → StaysNested (code.Begin props to) (length blocks) more (begun t to more r)
    by_reply (Code n) may = by_room (may_open deepest blocks) refl
      where
        b : Block
        b = record { rest = code.Begin props to ∷ more; registers = registers; code = to }

        by_room : (room : Bool) → may_open deepest blocks ≡ room → StaysNested (code.Begin props to) (length blocks) more (if room then entered t to more n else stopped t)
        by_room true e =
            let deep = one_longer blocks b in
            goes_as (code.Begin props to) (length blocks) more _
            (goes_nested (record t { blocks = blocks ++ b ∷ [] }) (with_number registers to n) more (block ∷ levels) x (ap suc same ∙ sym deep)
            (entered_start deepest registers (code.Begin props to ∷ more) blocks start more levels same b x tt blocks refl)) deep
        by_room false e = record {
          nested = record { code = inr (refl, stopped_deeper deepest blocks e); start = stopped_start deepest registers (code.Begin props to ∷ more) blocks start more levels same blocks refl e };
          fewer = (let none = room_nil (length (blocks ++ no_block ∷ [])) in omega arith);
        }
    by_reply (Refused why) may =
        let p = past_nests 1 more (block ∷ levels) (omega arith) x in
        goes_past (code.Begin props to) (length blocks) 1 more _ (goes_nested t registers (past_block 1 more) p.0 p.1 (let all = p.2 in omega arith) start) (omega arith)
    by_reply Done may = absurd may
    by_reply (Bytes v) may = absurd may
answered_goes deepest registers code.Commit more blocks start levels x same c r e may =
    let some : 0 < length blocks = (let one = ap blocks_in x.1 in omega arith) in
    let done : r ≡ Done = (subst (λ (y : Call). MayReply (length blocks) y r) (sym (same_call _ c e)) may) some in
    let t : Thread = record { rest = code.Commit ∷ more; registers = registers; blocks = blocks; deepest = deepest } in
    subst (λ (y : Reply). StaysNested code.Commit (length blocks) more (ended t more y)) (sym done)
    (goes_as code.Commit (length blocks) more _
    (goes_nested (record t { blocks = closed blocks }) registers more x.0 x.2 (let one = ap blocks_in x.1 in let fewer = length-closed blocks in omega arith) (closed_start blocks start)) (length-closed blocks))
answered_goes deepest registers i more blocks start levels x same c r e may = first_of (cc, search (plain deepest registers (i ∷ more) blocks start more levels same i registers x refl))

-- the room that it tells is what is left of its blocks
told_left : (registers : List (List ℕ)) (i : Instruction) (more : List Instruction) (d : ℕ) (c : Call) (n : ℕ) → call_at registers d (i ∷ more) ≡ Some c → carried_room c ≡ Some n → room (open_past i d) more ≡ n
told_left registers (code.Set to k) more d c n e asks = absurd (none_is_no_call c e)
told_left registers (code.Bytes to literal) more d c n e asks = absurd (none_is_no_call c e)
told_left registers (code.Move to from) more d c n e asks = absurd (none_is_no_call c e)
told_left registers (code.Compute operation to y z) more d c n e asks = absurd (none_is_no_call c e)
told_left registers (code.IfNotZero y) more d c n e asks = absurd (none_is_no_call c e)
told_left registers code.Else more d c n e asks = absurd (none_is_no_call c e)
told_left registers code.EndIf more d c n e asks = absurd (none_is_no_call c e)
told_left registers (code.Begin props to) more d c n e asks = (let both : Some (room (suc d) more) ≡ Some n = ap carried_room (same_call _ c e) ∙ asks in cc)
told_left registers code.Mode more d c n e asks = (let both : Some (room d more) ≡ Some n = ap carried_room (same_call _ c e) ∙ asks in cc)
told_left registers call more d c n e asks = absurd (let both : None ≡ Some n = ap carried_room (same_call _ c e) ∙ asks in cc)

-- a reply came
pub record Plays (t new : Thread) (c : Call) : Type 0 where
  pub nested : IsNested new
  pub falls : 0 < depth_of t → left new < left t
  pub told : (n : ℕ) → carried_room c ≡ Some n → left new ≤ n

pub plays : (t : Thread) (c : Call) (r : Reply) → IsNested t → next_call t ≡ Some c → MayReply (depth_of t) c r → Plays t (answered t r) c
plays t c r nested e may = by_code t.rest nested.code e
  where
    by_code : (rest : List Instruction) → IsWithin (record t { rest = rest }) ⊎ ((rest ≡ []) × (t.deepest < depth_of t)) → call_at t.registers (depth_of t) rest ≡ Some c → Plays (record t { rest = rest }) (answered_at (record t { rest = rest }) rest r) c
    by_code [] within e = absurd (none_is_no_call c e)
    by_code (i ∷ more) (inr none) e = absurd (let gone : i ∷ more ≡ [] = none.0 in cc)
    by_code (i ∷ more) (inl x) e =
        let g = answered_goes t.deepest t.registers i more t.blocks nested.start x.levels x.nests x.blocks c r e may in
        record {
          nested = g.nested;
          falls = λ some. (let less = g.fewer in let step = room_step (depth_of t) i more some in omega arith);
          told = λ n asks. (let less = g.fewer in let same = told_left t.registers i more (depth_of t) c n e asks in omega arith);
        }

-- a call within a block is one of those that were told
pub some_left : (t : Thread) (c : Call) → next_call t ≡ Some c → 0 < depth_of t → 0 < left t
some_left t c e some = by_code t.rest e
  where
    by_code : (rest : List Instruction) → call_at t.registers (depth_of t) rest ≡ Some c → 0 < room (depth_of t) rest
    by_code [] e = absurd (none_is_no_call c e)
    by_code (i ∷ more) e = (let step = room_step (depth_of t) i more some in omega arith)

-- it goes back to where its outermost block began
pub back_nested : (t : Thread) → IsNested t → IsNested (restarted t)
back_nested t nested = by_blocks t.blocks refl nested.start
  where
    by_blocks : (blocks : List Block) → blocks ≡ t.blocks → HasNestedStart blocks → IsNested (back_to t blocks)
    by_blocks [] e start = nested
    by_blocks (b ∷ inner) e start = record { code = inl (record { levels = start.0; nests = start.1; blocks = start.2; at_call = start.3 }); start = tt }

-- before its first call
pub opening_nested : (deepest : ℕ) (rest : List Instruction) → Nests rest [] → IsNested (opening deepest rest)
opening_nested deepest rest x = (goes_nested (record { rest = rest; registers = zeros; blocks = []; deepest = deepest }) zeros rest [] x refl tt).nested

-- ## A thread that has no more calls

is_a_call : (registers : List (List ℕ)) (d : ℕ) (rest : List Instruction) → IsAtCall rest → call_at registers d rest ≡ None → rest ≡ []
is_a_call registers d [] at e = refl
is_a_call registers d (code.Set to n ∷ more) at e = absurd at
is_a_call registers d (i ∷ more) at e = first_of (cc, search rules)

-- has no block open, where no more are open than may be
pub ended_shut : (t : Thread) → IsNested t → depth_of t ≤ t.deepest → next_call t ≡ None → depth_of t ≡ 0
ended_shut t nested few e = by_code nested.code
  where
    by_code : IsWithin t ⊎ ((t.rest ≡ []) × (t.deepest < depth_of t)) → depth_of t ≡ 0
    by_code (inl within) =
        let ends : t.rest ≡ [] = is_a_call t.registers (depth_of t) t.rest within.at_call e in
        let none : within.levels ≡ [] = subst (λ (rest : List Instruction). Nests rest within.levels) ends within.nests in
        sym within.blocks ∙ ap blocks_in none
    by_code (inr more) = absurd (let deep = more.1 in omega arith)

-- ## How many may be open stays

answered_deepest_at : (t : Thread) (rest : List Instruction) (r : Reply) → (answered_at t rest r).deepest ≡ t.deepest
answered_deepest_at t (code.Load width to at ∷ more) (Bytes v) = refl
answered_deepest_at t (code.Read hint width to at ∷ more) (Bytes v) = refl
answered_deepest_at t (code.InTransaction to ∷ more) (Code n) = refl
answered_deepest_at t (code.Commit ∷ more) Done = refl
answered_deepest_at t (code.Begin props to ∷ more) (Code n) = by_room (may_open t.deepest t.blocks)
  where
    by_room : (b : Bool) → (if b then entered t to more n else stopped t).deepest ≡ t.deepest
    by_room true = refl
    by_room false = refl
answered_deepest_at t (code.Abort outer ∷ more) (Code n) = by_blocks outer t.blocks
  where
    by_blocks : (outer : Bool) (all : List Block) → (cancelled_in t outer more n all).deepest ≡ t.deepest
    by_blocks outer [] = refl
    by_blocks true (b ∷ inner) = refl
    by_blocks false (b ∷ inner) = refl
answered_deepest_at t rest r = refl

pub answered_deepest : (t : Thread) (r : Reply) → (answered t r).deepest ≡ t.deepest
answered_deepest t r = answered_deepest_at t t.rest r

pub restarted_deepest : (t : Thread) → (restarted t).deepest ≡ t.deepest
restarted_deepest t = by_blocks t.blocks
  where
    by_blocks : (blocks : List Block) → (back_to t blocks).deepest ≡ t.deepest
    by_blocks [] = refl
    by_blocks (b ∷ inner) = refl

pub at_block_deepest : (t : Thread) (d : ℕ) → (at_block t d).deepest ≡ t.deepest
at_block_deepest t d = answered_deepest (record { rest = (slice_index_or t.blocks (d - 1) no_block).rest; registers = (slice_index_or t.blocks (d - 1) no_block).registers; blocks = take (d - 1) t.blocks; deepest = t.deepest }) (Code 5)

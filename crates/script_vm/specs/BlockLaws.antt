-- How a thread's blocks open, close and go back.
use Rattle.std.proofs.Common.{◌≡◌, ℕ, suc, ◌<◌, ◌≤◌, ◌-◌, Bool, true, false, eqb, List, [], ◌∷◌, ◌++◌, length, Some, None, refl, ap, ◌∙◌, arith, length-append, sub-one}
use Rattle.std.specs.Prelude.{if◌then◌else◌, nat_lt, slice_index_or, take}
use Rattle.std.proofs.Math.Seq.{take-append_seam}
use Rattle.std.proofs.lemmas.Bool.{le-ltb, ltb-false, ltb-true, ne_eqb}
use Rattle.std.proofs.lemmas.List.{get_or-take, get_or_append_left, take-append-le, take-take}
use Rattle.itm_types.specs.declared.call.Call.{Call}
use Rattle.itm_types.specs.declared.call.Call.TheVariants as calls
use Rattle.itm_types.specs.declared.call.Reply.{Reply}
use Rattle.itm_types.specs.declared.call.Reply.TheVariants.{Done, Bytes, Code, Refused}
use Rattle.itm_types.specs.declared.call.Props.{Props}
use Rattle.tx_player.specs.Depth.{depth_after, opens}
use Rattle.script_fields.specs.declared.register.Register.{Register}
use Rattle.script_fields.specs.declared.register.Register.TheVariants.{R0}
use Rattle.script_program.specs.declared.instruction.Instruction.{Instruction}
use Rattle.script_program.specs.declared.instruction.Instruction.TheVariants as code
use Rattle.script_program.specs.Instructions.{width_of}
use Rattle.script_vm.specs.Registers.{place_of, zeros}
use Rattle.script_vm.specs.Threads.{Thread, Block, next_call, answered, restarted, depth_of, call_at, answered_at, at_block, back_in, goes_on, room, closed, begun, ended, entered, stopped, cancelled, took, told, may_open, no_block}

pub none_is_no_call : (c : Call) → None ≡ Some c → ⊥
none_is_no_call c e = cc

pub same_call : (c d : Call) → Some c ≡ Some d → c ≡ d
same_call c d e = cc

-- ## Blocks open and close by begins and commits alone

pub length-closed : (blocks : List Block) → length (closed blocks) ≡ length blocks - 1
length-closed [] = refl
length-closed (outer ∷ []) = refl
length-closed (outer ∷ inner ∷ more) = omega (arith, length-closed (inner ∷ more))

pub one_longer : (blocks : List Block) (last : Block) → length (blocks ++ last ∷ []) ≡ suc (length blocks)
one_longer blocks last = grind (arith, length-append {A = Block})

-- with the thread's parts as variables
module _ (deepest : ℕ) (registers : List (List ℕ)) (rest : List Instruction) where
  abbrev at_blocks : List Block → Thread
  at_blocks blocks = record { rest = rest; registers = registers; blocks = blocks; deepest = deepest }

  begun_nests : (blocks : List Block) (props : Props) (x : Register) (n : ℕ) (more : List Instruction) (r : Reply) → depth_of (begun (at_blocks blocks) x more r) ≡ depth_after (length blocks) (calls.Begin props n) r
  begun_nests blocks props x n more Done = refl
  begun_nests blocks props x n more (Bytes v) = refl
  begun_nests blocks props x n more (Code k) = by_room (may_open deepest blocks)
    where
      by_room : (b : Bool) → depth_of (if b then entered (at_blocks blocks) x more k else stopped (at_blocks blocks)) ≡ suc (length blocks)
      by_room true = one_longer blocks (record { rest = rest; registers = registers; code = x })
      by_room false = one_longer blocks no_block
  begun_nests blocks props x n more (Refused f) = refl

  ended_nests : (blocks : List Block) (more : List Instruction) (r : Reply) → depth_of (ended (at_blocks blocks) more r) ≡ depth_after (length blocks) calls.Commit r
  ended_nests blocks more Done = length-closed blocks
  ended_nests blocks more (Bytes v) = refl
  ended_nests blocks more (Code n) = refl
  ended_nests blocks more (Refused f) = refl

  cancelled_nests : (outer : Bool) (blocks : List Block) (more : List Instruction) (r : Reply) → depth_of (cancelled (at_blocks blocks) outer more r) ≡ depth_after (length blocks) (calls.Abort outer) r
  cancelled_nests true [] more (Code n) = refl
  cancelled_nests false [] more (Code n) = refl
  cancelled_nests true (b ∷ inner) more (Code n) = refl
  cancelled_nests false (b ∷ inner) more (Code n) = length-closed (b ∷ inner)
  cancelled_nests outer blocks more Done = refl
  cancelled_nests outer blocks more (Bytes v) = refl
  cancelled_nests outer blocks more (Refused f) = refl

  took_nests : (blocks : List Block) (x : Register) (more : List Instruction) (r : Reply) → depth_of (took (at_blocks blocks) x more r) ≡ length blocks
  took_nests blocks x more Done = refl
  took_nests blocks x more (Bytes v) = refl
  took_nests blocks x more (Code n) = refl
  took_nests blocks x more (Refused f) = refl

  told_nests : (blocks : List Block) (x : Register) (more : List Instruction) (r : Reply) → depth_of (told (at_blocks blocks) x more r) ≡ length blocks
  told_nests blocks x more Done = refl
  told_nests blocks x more (Bytes v) = refl
  told_nests blocks x more (Code n) = refl
  told_nests blocks x more (Refused f) = refl

nests_at : (deepest : ℕ) (registers : List (List ℕ)) (rest : List Instruction) (blocks : List Block) (c : Call) (r : Reply) → call_at registers (length blocks) rest ≡ Some c → depth_of (answered_at (at_blocks deepest registers rest blocks) rest r) ≡ depth_after (length blocks) c r
nests_at deepest registers [] blocks c r e = absurd (none_is_no_call c e)
nests_at deepest registers (code.Set to n ∷ more) blocks c r e = absurd (none_is_no_call c e)
nests_at deepest registers (code.Bytes to literal ∷ more) blocks c r e = absurd (none_is_no_call c e)
nests_at deepest registers (code.Move to from ∷ more) blocks c r e = absurd (none_is_no_call c e)
nests_at deepest registers (code.Compute operation to x y ∷ more) blocks c r e = absurd (none_is_no_call c e)
nests_at deepest registers (code.IfNotZero x ∷ more) blocks c r e = absurd (none_is_no_call c e)
nests_at deepest registers (code.Else ∷ more) blocks c r e = absurd (none_is_no_call c e)
nests_at deepest registers (code.EndIf ∷ more) blocks c r e = absurd (none_is_no_call c e)
nests_at deepest registers (code.Load width to at ∷ more) blocks c r e = rw (← same_call _ c e) (took_nests deepest registers (code.Load width to at ∷ more) blocks to more r)
nests_at deepest registers (code.Read hint width to at ∷ more) blocks c r e = rw (← same_call _ c e) (took_nests deepest registers (code.Read hint width to at ∷ more) blocks to more r)
nests_at deepest registers (code.Begin props x ∷ more) blocks c r e = rw (← same_call _ c e) (begun_nests deepest registers (code.Begin props x ∷ more) blocks props x (room (suc (length blocks)) more) more r)
nests_at deepest registers (code.Commit ∷ more) blocks c r e = rw (← same_call _ c e) (ended_nests deepest registers (code.Commit ∷ more) blocks more r)
nests_at deepest registers (code.Abort outer ∷ more) blocks c r e = rw (← same_call _ c e) (cancelled_nests deepest registers (code.Abort outer ∷ more) outer blocks more r)
nests_at deepest registers (code.InTransaction to ∷ more) blocks c r e = rw (← same_call _ c e) (told_nests deepest registers (code.InTransaction to ∷ more) blocks to more r)
nests_at deepest registers (call ∷ more) blocks c r e = rw (← same_call _ c e) refl

pub nests : (p : Thread) (c : Call) (r : Reply) → next_call p ≡ Some c → depth_of (answered p r) ≡ depth_after (depth_of p) c r
nests p c r e = nests_at p.deepest p.registers p.rest p.blocks c r e

-- ## A restart goes back to the begin of the outermost block

abbrev IsRestart : Thread → Thread → Call → Reply → Type 0
IsRestart new old c r = 0 < depth_after (depth_of old) c r → restarted new ≡ (if opens (depth_of old) c r then old else restarted old)

-- its blocks are the same, and as many may be open
abbrev Keeps : Thread → Thread → Type 0
Keeps new old = (new.blocks ≡ old.blocks) × (new.deepest ≡ old.deepest)

is_open : (b : Block) (inner : List Block) → eqb (length (b ∷ inner)) 0 ≡ false
is_open b inner = ne_eqb (length (b ∷ inner)) 0 (λ e. omega arith)

module _ (deepest : ℕ) (registers : List (List ℕ)) (rest : List Instruction) where
  begun_restarts : (blocks : List Block) (props : Props) (x : Register) (n : ℕ) (more : List Instruction) (r : Reply) → IsRestart (begun (at_blocks deepest registers rest blocks) x more r) (at_blocks deepest registers rest blocks) (calls.Begin props n) r
  begun_restarts [] props x n more Done d = absurd (omega arith)
  begun_restarts [] props x n more (Bytes v) d = absurd (omega arith)
  begun_restarts [] props x n more (Code k) d = refl
  begun_restarts [] props x n more (Refused f) d = absurd (omega arith)
  begun_restarts (b ∷ inner) props x n more Done d = rw (is_open b inner) refl
  begun_restarts (b ∷ inner) props x n more (Bytes v) d = rw (is_open b inner) refl
  begun_restarts (b ∷ inner) props x n more (Code k) d = rw (is_open b inner) (by_room (may_open deepest (b ∷ inner)))
    where
      t : Thread
      t = at_blocks deepest registers rest (b ∷ inner)

      by_room : (room : Bool) → restarted (if room then entered t x more k else stopped t) ≡ record t { rest = b.rest; registers = b.registers; blocks = [] }
      by_room true = refl
      by_room false = refl
  begun_restarts (b ∷ inner) props x n more (Refused f) d = rw (is_open b inner) refl

  -- a block that stays open within which one closed
  closed_restarts : (b : Block) (inner : List Block) (t : Thread) → 0 < length (b ∷ inner) - 1 → t.blocks ≡ closed (b ∷ inner) → restarted t ≡ record t { rest = b.rest; registers = b.registers; blocks = [] }
  closed_restarts b [] t d e = absurd (omega arith)
  closed_restarts b (c ∷ more) t d e = rw e refl

  ended_restarts : (blocks : List Block) (more : List Instruction) (r : Reply) → IsRestart (ended (at_blocks deepest registers rest blocks) more r) (at_blocks deepest registers rest blocks) calls.Commit r
  ended_restarts [] more Done d = absurd (omega arith)
  ended_restarts [] more (Bytes v) d = absurd (omega arith)
  ended_restarts [] more (Code n) d = absurd (omega arith)
  ended_restarts [] more (Refused f) d = absurd (omega arith)
  ended_restarts (b ∷ inner) more Done d = rw (is_open b inner) (closed_restarts b inner (ended (at_blocks deepest registers rest (b ∷ inner)) more Done) d refl)
  ended_restarts (b ∷ inner) more (Bytes v) d = rw (is_open b inner) refl
  ended_restarts (b ∷ inner) more (Code n) d = rw (is_open b inner) refl
  ended_restarts (b ∷ inner) more (Refused f) d = rw (is_open b inner) refl

  cancelled_restarts : (outer : Bool) (blocks : List Block) (more : List Instruction) (r : Reply) → IsRestart (cancelled (at_blocks deepest registers rest blocks) outer more r) (at_blocks deepest registers rest blocks) (calls.Abort outer) r
  cancelled_restarts true blocks more (Code n) d = absurd (omega arith)
  cancelled_restarts false [] more (Code n) d = absurd (omega arith)
  cancelled_restarts false (b ∷ inner) more (Code n) d = rw (is_open b inner) (closed_restarts b inner (cancelled (at_blocks deepest registers rest (b ∷ inner)) false more (Code n)) d refl)
  cancelled_restarts outer [] more Done d = absurd (omega arith)
  cancelled_restarts outer [] more (Bytes v) d = absurd (omega arith)
  cancelled_restarts outer [] more (Refused f) d = absurd (omega arith)
  cancelled_restarts outer (b ∷ inner) more Done d = rw (is_open b inner) refl
  cancelled_restarts outer (b ∷ inner) more (Bytes v) d = rw (is_open b inner) refl
  cancelled_restarts outer (b ∷ inner) more (Refused f) d = rw (is_open b inner) refl

  -- a reply that opens and closes no block
  stays : (blocks : List Block) (new : Thread) → Keeps new (at_blocks deepest registers rest blocks) → 0 < length blocks → restarted new ≡ restarted (at_blocks deepest registers rest blocks)
  stays [] new e d = absurd (omega arith)
  stays (b ∷ inner) new e d = rw (e.0, e.1) refl

took_keeps : (t : Thread) (x : Register) (more : List Instruction) (r : Reply) → Keeps (took t x more r) t
took_keeps t x more Done = (refl, refl)
took_keeps t x more (Bytes v) = (refl, refl)
took_keeps t x more (Code n) = (refl, refl)
took_keeps t x more (Refused f) = (refl, refl)

told_keeps : (t : Thread) (x : Register) (more : List Instruction) (r : Reply) → Keeps (told t x more r) t
told_keeps t x more Done = (refl, refl)
told_keeps t x more (Bytes v) = (refl, refl)
told_keeps t x more (Code n) = (refl, refl)
told_keeps t x more (Refused f) = (refl, refl)

-- no such reply opens an outermost block
stays_open : (deepest : ℕ) (registers : List (List ℕ)) (rest : List Instruction) (blocks : List Block) (new : Thread) → Keeps new (at_blocks deepest registers rest blocks) → 0 < length blocks
    → restarted new ≡ (if opens (length blocks) calls.InTransaction Done then at_blocks deepest registers rest blocks else restarted (at_blocks deepest registers rest blocks))
stays_open deepest registers rest [] new e d = absurd (omega arith)
stays_open deepest registers rest (b ∷ inner) new e d = rw (is_open b inner) (stays deepest registers rest (b ∷ inner) new e d)

restarts_at : (deepest : ℕ) (registers : List (List ℕ)) (rest : List Instruction) (blocks : List Block) (c : Call) (r : Reply) → call_at registers (length blocks) rest ≡ Some c → IsRestart (answered_at (at_blocks deepest registers rest blocks) rest r) (at_blocks deepest registers rest blocks) c r
restarts_at deepest registers [] blocks c r e = absurd (none_is_no_call c e)
restarts_at deepest registers (code.Set to n ∷ more) blocks c r e = absurd (none_is_no_call c e)
restarts_at deepest registers (code.Bytes to literal ∷ more) blocks c r e = absurd (none_is_no_call c e)
restarts_at deepest registers (code.Move to from ∷ more) blocks c r e = absurd (none_is_no_call c e)
restarts_at deepest registers (code.Compute operation to x y ∷ more) blocks c r e = absurd (none_is_no_call c e)
restarts_at deepest registers (code.IfNotZero x ∷ more) blocks c r e = absurd (none_is_no_call c e)
restarts_at deepest registers (code.Else ∷ more) blocks c r e = absurd (none_is_no_call c e)
restarts_at deepest registers (code.EndIf ∷ more) blocks c r e = absurd (none_is_no_call c e)
restarts_at deepest registers (code.Load width to at ∷ more) blocks c r e = rw (← same_call _ c e) (λ d. stays_open deepest registers (code.Load width to at ∷ more) blocks _ (took_keeps (at_blocks deepest registers (code.Load width to at ∷ more) blocks) to more r) d)
restarts_at deepest registers (code.Read hint width to at ∷ more) blocks c r e = rw (← same_call _ c e) (λ d. stays_open deepest registers (code.Read hint width to at ∷ more) blocks _ (took_keeps (at_blocks deepest registers (code.Read hint width to at ∷ more) blocks) to more r) d)
restarts_at deepest registers (code.Begin props x ∷ more) blocks c r e = rw (← same_call _ c e) (begun_restarts deepest registers (code.Begin props x ∷ more) blocks props x (room (suc (length blocks)) more) more r)
restarts_at deepest registers (code.Commit ∷ more) blocks c r e = rw (← same_call _ c e) (ended_restarts deepest registers (code.Commit ∷ more) blocks more r)
restarts_at deepest registers (code.Abort outer ∷ more) blocks c r e = rw (← same_call _ c e) (cancelled_restarts deepest registers (code.Abort outer ∷ more) outer blocks more r)
restarts_at deepest registers (code.InTransaction to ∷ more) blocks c r e = rw (← same_call _ c e) (λ d. stays_open deepest registers (code.InTransaction to ∷ more) blocks _ (told_keeps (at_blocks deepest registers (code.InTransaction to ∷ more) blocks) to more r) d)
restarts_at deepest registers (call ∷ more) blocks c r e = rw (← same_call _ c e) (λ d. stays_open deepest registers (call ∷ more) blocks _ (refl, refl) d)

pub restarts : (p : Thread) (c : Call) (r : Reply) → next_call p ≡ Some c → 0 < depth_after (depth_of p) c r → restarted (answered p r) ≡ (if opens (depth_of p) c r then p else restarted p)
restarts p c r e = restarts_at p.deepest p.registers p.rest p.blocks c r e

-- ## Back to just after a begin

-- once a thread has its reply, it knows where each block had just begun
abbrev Begins : Thread → Thread → Call → Reply → Type 0
Begins new old c r = (d : ℕ) → 0 < d → d ≤ depth_after (depth_of old) c r → at_block new d ≡ (if nat_lt (depth_of old) d then answered old (Code 5) else at_block old d)

-- of a block that stays open
kept_begins : (X : Thread) (deepest : ℕ) (blocks new : List Block) (d : ℕ) → d ≤ length blocks → back_in deepest new (d - 1) ≡ back_in deepest blocks (d - 1) → back_in deepest new (d - 1) ≡ (if nat_lt (length blocks) d then X else back_in deepest blocks (d - 1))
kept_begins X deepest blocks new d within e = rw (le-ltb (length blocks) d within) e

-- by what is kept of it, and the blocks around it
same_back : (deepest : ℕ) (blocks new : List Block) (n : ℕ) → slice_index_or new n no_block ≡ slice_index_or blocks n no_block → take n new ≡ take n blocks → back_in deepest new n ≡ back_in deepest blocks n
same_back deepest blocks new n block around = λ i. answered (record { rest = (block i).rest; registers = (block i).registers; blocks = around i; deepest = deepest }) (Code 5)

back_more : (deepest : ℕ) (blocks : List Block) (b : Block) (n : ℕ) → n < length blocks → back_in deepest (blocks ++ b ∷ []) n ≡ back_in deepest blocks n
back_more deepest blocks b n within = same_back deepest blocks (blocks ++ b ∷ []) n (get_or_append_left blocks (b ∷ []) no_block n within) (take-append-le n blocks (b ∷ []) (omega arith))

-- the innermost of more
back_last : (deepest : ℕ) (blocks : List Block) (b : Block) → back_in deepest (blocks ++ b ∷ []) (length blocks) ≡ answered (record { rest = b.rest; registers = b.registers; blocks = blocks; deepest = deepest }) (Code 5)
back_last deepest blocks b =
    let block : slice_index_or (blocks ++ b ∷ []) (length blocks) no_block ≡ b = last_of blocks in
    let around : take (length blocks) (blocks ++ b ∷ []) ≡ blocks = take-append_seam blocks (b ∷ []) in
    λ i. answered (record { rest = (block i).rest; registers = (block i).registers; blocks = around i; deepest = deepest }) (Code 5)
  where
    last_of : (xs : List Block) → slice_index_or (xs ++ b ∷ []) (length xs) no_block ≡ b
    last_of [] = refl
    last_of (x ∷ xs) = last_of xs

-- the innermost is closed
pub closed_is : (blocks : List Block) → closed blocks ≡ take (length blocks - 1) blocks
closed_is [] = refl
closed_is (a ∷ []) = refl
closed_is (a ∷ b ∷ more) = rw sub-one (ap (λ (l : List Block). a ∷ l) (closed_is (b ∷ more)) ∙ rw sub-one refl)

back_closed : (deepest : ℕ) (blocks : List Block) (n : ℕ) → n < length blocks - 1 → back_in deepest (closed blocks) n ≡ back_in deepest blocks n
back_closed deepest blocks n within = ap (λ (bs : List Block). back_in deepest bs n) (closed_is blocks)
    ∙ same_back deepest blocks (take (length blocks - 1) blocks) n (get_or-take (length blocks - 1) blocks n no_block within) (take-take n (length blocks - 1) blocks (omega arith))

module _ (deepest : ℕ) (registers : List (List ℕ)) (rest : List Instruction) where
  -- a reply that opens and closes no block
  stays_begins : (blocks : List Block) (new : Thread) (c : Call) (r : Reply) → Keeps new (at_blocks deepest registers rest blocks) → depth_after (length blocks) c r ≡ length blocks → Begins new (at_blocks deepest registers rest blocks) c r
  stays_begins blocks new c r same n d some within =
      (λ i. back_in (same.1 i) (same.0 i) (d - 1)) ∙ kept_begins (answered (at_blocks deepest registers rest blocks) (Code 5)) deepest blocks blocks d (omega (arith, within, n)) refl

  -- the innermost closes
  closes_begins : (blocks : List Block) (d : ℕ) → 0 < d → d ≤ length blocks - 1
      → back_in deepest (closed blocks) (d - 1) ≡ (if nat_lt (length blocks) d then answered (at_blocks deepest registers rest blocks) (Code 5) else back_in deepest blocks (d - 1))
  closes_begins blocks d some within = kept_begins (answered (at_blocks deepest registers rest blocks) (Code 5)) deepest blocks (closed blocks) d (omega arith) (back_closed deepest blocks (d - 1) (omega arith))

  ended_begins : (blocks : List Block) (more : List Instruction) (r : Reply) → Begins (ended (at_blocks deepest registers rest blocks) more r) (at_blocks deepest registers rest blocks) calls.Commit r
  ended_begins blocks more Done d some within = closes_begins blocks d some within
  ended_begins blocks more (Bytes v) d some within = stays_begins blocks (ended (at_blocks deepest registers rest blocks) more (Bytes v)) calls.Commit (Bytes v) (refl, refl) refl d some within
  ended_begins blocks more (Code n) d some within = stays_begins blocks (ended (at_blocks deepest registers rest blocks) more (Code n)) calls.Commit (Code n) (refl, refl) refl d some within
  ended_begins blocks more (Refused f) d some within = stays_begins blocks (ended (at_blocks deepest registers rest blocks) more (Refused f)) calls.Commit (Refused f) (refl, refl) refl d some within

  cancelled_begins : (outer : Bool) (blocks : List Block) (more : List Instruction) (r : Reply) → Begins (cancelled (at_blocks deepest registers rest blocks) outer more r) (at_blocks deepest registers rest blocks) (calls.Abort outer) r
  cancelled_begins true blocks more (Code n) d some within = absurd (omega arith)
  cancelled_begins false [] more (Code n) d some within = absurd (omega arith)
  cancelled_begins false (b ∷ inner) more (Code n) d some within = closes_begins (b ∷ inner) d some within
  cancelled_begins outer blocks more Done d some within = stays_begins blocks (cancelled (at_blocks deepest registers rest blocks) outer more Done) (calls.Abort outer) Done (refl, refl) refl d some within
  cancelled_begins outer blocks more (Bytes v) d some within = stays_begins blocks (cancelled (at_blocks deepest registers rest blocks) outer more (Bytes v)) (calls.Abort outer) (Bytes v) (refl, refl) refl d some within
  cancelled_begins outer blocks more (Refused f) d some within = stays_begins blocks (cancelled (at_blocks deepest registers rest blocks) outer more (Refused f)) (calls.Abort outer) (Refused f) (refl, refl) refl d some within

-- one more block is open
module _ (deepest : ℕ) (registers : List (List ℕ)) (props : Props) (x : Register) (more : List Instruction) (blocks : List Block) where
  abbrev beginning : Thread
  beginning = record { rest = code.Begin props x ∷ more; registers = registers; blocks = blocks; deepest = deepest }

  opens_begins : (k : ℕ) (room : Bool) → may_open deepest blocks ≡ room → (d : ℕ) → 0 < d → d ≤ suc (length blocks)
      → at_block (if room then entered beginning x more k else stopped beginning) d ≡ (if nat_lt (length blocks) d then (if room then entered beginning x more 5 else stopped beginning) else at_block beginning d)
  opens_begins k room e d some within = by_depth room e (nat_lt (length blocks) d) refl
    where
      start : Block
      start = record { rest = code.Begin props x ∷ more; registers = registers; code = x }

      last : nat_lt (length blocks) d ≡ true → d - 1 ≡ length blocks
      last f = (let far = ltb-true (length blocks) d f in omega arith)

      around : (b : Block) → nat_lt (length blocks) d ≡ false → back_in deepest (blocks ++ b ∷ []) (d - 1) ≡ back_in deepest blocks (d - 1)
      around b f = (let near = ltb-false (length blocks) d f in back_more deepest blocks b (d - 1) (omega arith))

      by_depth : (room : Bool) → may_open deepest blocks ≡ room → (far : Bool) → nat_lt (length blocks) d ≡ far
          → at_block (if room then entered beginning x more k else stopped beginning) d ≡ (if far then (if room then entered beginning x more 5 else stopped beginning) else at_block beginning d)
      by_depth true e true f = ap (back_in deepest (blocks ++ start ∷ [])) (last f) ∙ (back_last deepest blocks start ∙ ap (λ (b : Bool). if b then entered beginning x more 5 else stopped beginning) e)
      by_depth false e true f =
          ap (back_in deepest (blocks ++ no_block ∷ [])) (last f)
          ∙ (back_last deepest blocks no_block ∙ ap (λ (b : Bool). if b then entered (record beginning { rest = no_block.rest; registers = zeros }) R0 [] 5 else stopped beginning) e)
      by_depth true e false f = around start f
      by_depth false e false f = around no_block f

  begun_begins : (n : ℕ) (r : Reply) → Begins (begun beginning x more r) beginning (calls.Begin props n) r
  begun_begins n Done = stays_begins deepest registers (code.Begin props x ∷ more) blocks (begun beginning x more Done) (calls.Begin props n) Done (refl, refl) refl
  begun_begins n (Bytes v) = stays_begins deepest registers (code.Begin props x ∷ more) blocks (begun beginning x more (Bytes v)) (calls.Begin props n) (Bytes v) (refl, refl) refl
  begun_begins n (Code k) = λ d some within. opens_begins k (may_open deepest blocks) refl d some within
  begun_begins n (Refused f) = stays_begins deepest registers (code.Begin props x ∷ more) blocks (begun beginning x more (Refused f)) (calls.Begin props n) (Refused f) (refl, refl) refl

begins_at : (deepest : ℕ) (registers : List (List ℕ)) (rest : List Instruction) (blocks : List Block) (c : Call) (r : Reply) → call_at registers (length blocks) rest ≡ Some c → Begins (answered_at (at_blocks deepest registers rest blocks) rest r) (at_blocks deepest registers rest blocks) c r
begins_at deepest registers [] blocks c r e = absurd (none_is_no_call c e)
begins_at deepest registers (code.Set to n ∷ more) blocks c r e = absurd (none_is_no_call c e)
begins_at deepest registers (code.Bytes to literal ∷ more) blocks c r e = absurd (none_is_no_call c e)
begins_at deepest registers (code.Move to from ∷ more) blocks c r e = absurd (none_is_no_call c e)
begins_at deepest registers (code.Compute operation to x y ∷ more) blocks c r e = absurd (none_is_no_call c e)
begins_at deepest registers (code.IfNotZero x ∷ more) blocks c r e = absurd (none_is_no_call c e)
begins_at deepest registers (code.Else ∷ more) blocks c r e = absurd (none_is_no_call c e)
begins_at deepest registers (code.EndIf ∷ more) blocks c r e = absurd (none_is_no_call c e)
begins_at deepest registers (code.Load width to at ∷ more) blocks c r e =
    rw (← same_call _ c e) (stays_begins deepest registers (code.Load width to at ∷ more) blocks (took (at_blocks deepest registers (code.Load width to at ∷ more) blocks) to more r) (calls.Load (width_of width) (place_of registers at)) r (took_keeps (at_blocks deepest registers (code.Load width to at ∷ more) blocks) to more r) refl)
begins_at deepest registers (code.Read hint width to at ∷ more) blocks c r e =
    rw (← same_call _ c e) (stays_begins deepest registers (code.Read hint width to at ∷ more) blocks (took (at_blocks deepest registers (code.Read hint width to at ∷ more) blocks) to more r) (calls.Read hint width (place_of registers at)) r (took_keeps (at_blocks deepest registers (code.Read hint width to at ∷ more) blocks) to more r) refl)
begins_at deepest registers (code.Begin props x ∷ more) blocks c r e = rw (← same_call _ c e) (begun_begins deepest registers props x more blocks (room (suc (length blocks)) more) r)
begins_at deepest registers (code.Commit ∷ more) blocks c r e = rw (← same_call _ c e) (ended_begins deepest registers (code.Commit ∷ more) blocks more r)
begins_at deepest registers (code.Abort outer ∷ more) blocks c r e = rw (← same_call _ c e) (cancelled_begins deepest registers (code.Abort outer ∷ more) outer blocks more r)
begins_at deepest registers (code.InTransaction to ∷ more) blocks c r e =
    rw (← same_call _ c e) (stays_begins deepest registers (code.InTransaction to ∷ more) blocks (told (at_blocks deepest registers (code.InTransaction to ∷ more) blocks) to more r) calls.InTransaction r (told_keeps (at_blocks deepest registers (code.InTransaction to ∷ more) blocks) to more r) refl)
begins_at deepest registers (call ∷ more) blocks c r e = rw (← same_call _ c e) (λ d some within. stays_begins deepest registers (call ∷ more) blocks (goes_on (at_blocks deepest registers (call ∷ more) blocks) registers more) calls.InTransaction Done (refl, refl) refl d some within)

pub begins : (p : Thread) (c : Call) (r : Reply) → next_call p ≡ Some c → Begins (answered p r) p c r
begins p c r e = begins_at p.deepest p.registers p.rest p.blocks c r e

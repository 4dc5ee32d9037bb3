-- What the plain machine does with copies, of the state that an engine stands for.
use Rattle.std.proofs.Common.{◌≡◌, ℕ, ◌+◌, ◌*◌, ◌≤◌, Bool, true, false, List, length, Option, Some, None, refl, sym, ap, ◌∙◌, arith}
use Rattle.norec_accesses.proofs.Common.{Actions, AreBytes, AreRows, Copy, CopyPair, Copying, Data, Done, Frame, Idle, In, IsMemory, IsSound, Out, Refusal, Refused, Replies, Row, State, Within, accepted_sides, after, after_unless, arena_copied, arena_within, bytes_of, came, copy_refusal, core, denied, direction_of, effect, in_block, is_clear, is_inside, is_some_row, length-bytes_of, length-overlay, length-source_in, length-with_slice, open_is, or_else, overlay, refusal, refuses, reply, reply_unless, saved_in_arena, shared_within, source_bytes, source_in, source_is, stands, state_over, target_is, target_refusal, target_written, unless, with_slice, writes_copied, written_over}
use Rattle.itm_types.{specs.declared.call.Refusal.TheVariants.Outside, specs.declared.call.Refusal.TheVariants.Overlap}
use Rattle.norec_core.proofs.Engines.Blocks.{blocks_over-same}

-- ## Refusals

-- a copy is refused by an engine as by the state that it stands for
pub copy_refused : (depth : ℕ) (rows : List Row) (blocks : List Frame) (arena : List ℕ) (actions : Actions) (m : List ℕ) (words : ℕ) (k : Copying) → IsMemory words m
    → refusal depth (state_over rows blocks arena actions m) (Copy k) ≡ copy_refusal (is_inside blocks) words (length arena) k
copy_refused depth rows blocks arena actions m words k mem =
    let s : State = state_over rows blocks arena actions m in
    let len = length-bytes_of (overlay m rows) in
    let same : length (overlay m rows) ≡ words = length-overlay m rows ∙ mem.0 in
    let size : length (bytes_of (overlay m rows)) ≡ 8 * words = omega arith in
    let target = target_is s words k.pair k.to k.size size in
    let source = source_is s words k.pair k.from k.size size in
    (λ i. or_else (unless (open_is rows blocks arena actions m i) Outside) (or_else (target i) (or_else (source i) (unless (is_clear k) Overlap))))

pub refused_copy : (d : Data) (k : Copying) (why : Refusal) → IsSound d Idle → copy_refusal (in_block d) d.words (length d.arena) k ≡ Some why
    → Replies (came (core d Idle) (Copy k) false) (Copy k) (Refused why) (core (record d { spent = 0; entry = length d.log.rows }) Idle)
refused_copy d k why s e =
    denied d (Copy k) why s (refl, refl) (λ m mem. refuses d.frames.depth (stands d m) (Copy k) why (copy_refused d.frames.depth d.frames.writes.rows d.frames.blocks d.arena d.frames.actions m d.words k mem ∙ e))

-- ## What is copied

source_bytes_is : (s : State) (pair : CopyPair) (place size : ℕ) → source_bytes s pair place size ≡ source_in pair s.arena s.memory place size
source_bytes_is s (Out to) place size = refl
source_bytes_is s (In from) place size = refl
source_bytes_is s (Within from to) place size = refl

-- what blocks keep of the arena stays
saved_over : (rows : List Row) (blocks : List Frame) (arena : List ℕ) (actions : Actions) (m : List ℕ) (place : ℕ) (bytes : List ℕ) → place + length bytes ≤ length arena
    → state_over rows blocks (with_slice arena place bytes) actions m ≡ saved_in_arena (state_over rows blocks arena actions m) place bytes
saved_over rows blocks arena actions m place bytes l =
    let same = blocks_over-same blocks (with_slice arena place bytes) arena m (length-with_slice arena bytes place l) in
    λ i. record { memory = bytes_of (overlay m rows); arena = with_slice arena place bytes; blocks = same i; actions = actions; wrote = is_some_row rows; irrevocable = false }

-- bytes that a copy writes go to its destination
copied_over : (pair : CopyPair) (rows : List Row) (blocks : List Frame) (arena : List ℕ) (actions : Actions) (m : List ℕ) (words : ℕ) (k : Copying) (bytes : List ℕ) → IsMemory words m → AreRows rows → AreBytes bytes
    → length bytes ≡ k.size → target_refusal words (length arena) pair k.to k.size ≡ None
    → state_over (writes_copied rows k pair bytes) blocks (arena_copied arena k pair bytes) actions m ≡ target_written (state_over rows blocks arena actions m) pair k.to bytes
copied_over (Out to) rows blocks arena actions m words k bytes mem are b size ok =
    let l = shared_within words k.to k.size ok in
    let n = mem.0 in
    written_over m rows blocks arena actions k.to (direction_of k) bytes mem.1 are b (omega arith)
copied_over (In from) rows blocks arena actions m words k bytes mem are b size ok =
    let l = arena_within (length arena) k.to k.size ok in
    saved_over rows blocks arena actions m k.to bytes (omega arith)
copied_over (Within from to) rows blocks arena actions m words k bytes mem are b size ok =
    let l = shared_within words k.to k.size ok in
    let n = mem.0 in
    written_over m rows blocks arena actions k.to (direction_of k) bytes mem.1 are b (omega arith)

-- a copy of these bytes by an open engine
pub copies : (depth : ℕ) (rows : List Row) (blocks : List Frame) (arena : List ℕ) (actions : Actions) (m : List ℕ) (words : ℕ) (k : Copying) → is_inside blocks ≡ true → IsMemory words m → AreRows rows
    → copy_refusal true words (length arena) k ≡ None → (bytes : List ℕ) → AreBytes bytes → bytes ≡ source_in k.pair arena (bytes_of (overlay m rows)) k.from k.size
    → (state_over (writes_copied rows k k.pair bytes) blocks (arena_copied arena k k.pair bytes) actions m ≡ after depth (state_over rows blocks arena actions m) (Copy k))
    × (Done ≡ reply depth (state_over rows blocks arena actions m) (Copy k))
copies depth rows blocks arena actions m words k o mem are accepted bytes b got =
    let s : State = state_over rows blocks arena actions m in
    let none : refusal depth s (Copy k) ≡ None =
    copy_refused depth rows blocks arena actions m words k mem ∙ (ap (λ (is : Bool). copy_refusal is words (length arena) k) o ∙ accepted) in
    let sides = accepted_sides words (length arena) k accepted in
    let len = length-bytes_of (overlay m rows) in
    let same : length (overlay m rows) ≡ words = length-overlay m rows ∙ mem.0 in
    let size = ap (length {A = ℕ}) got ∙ length-source_in k.pair words arena (bytes_of (overlay m rows)) k.from k.size (omega arith) sides.1 in (
      copied_over k.pair rows blocks arena actions m words k bytes mem are b size sides.0
          ∙ (ap (target_written s k.pair k.to) (got ∙ sym (source_bytes_is s k.pair k.from k.size)) ∙ sym (ap (λ (r : Option Refusal). after_unless r s (effect s (Copy k))) none)),
      sym (ap (λ (r : Option Refusal). reply_unless r Done) none),
    )

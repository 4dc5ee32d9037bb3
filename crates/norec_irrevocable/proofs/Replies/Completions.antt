-- A write, a copy or a fill is done.
use Rattle.std.proofs.Common.{◌≡◌, ℕ, ◌+◌, ◌*◌, ◌≤◌, true, List, replicate, Option, None, refl, sym, ap, ◌∙◌, Bool, length}
use Rattle.norec_irrevocable.proofs.Common.{Call, Copy, Copying, Data, Datum, Done, Fill, IsMemory, IsServed, Read, ReadHint, Refusal, RepliesHeld, Reply, Width, Write, WriteHint, actions_after, arena_held, blocks_after, bytes_reply, copy_refusal, core_held, in_block, in_call, kept, refusal, reply_held, reply_unless, room_left, size_of}
use Rattle.norec_irrevocable.{proofs.Replies.KeptStates.copy_kept, proofs.Replies.HeldAccesses.access_served, proofs.Replies.HeldReplies.zeros}

module _ (d : Data) (o : in_block d ≡ true) where
  pub copy_served : (k : Copying) → IsServed d k → (m : List ℕ) → IsMemory d.words m → refusal d.frames.depth (kept d m) (Copy k) ≡ None
  copy_served k ok m mem = copy_kept d.frames.blocks d.arena d.frames.actions m d.frames.depth d.words mem k ∙ (ap (λ (b : Bool). copy_refusal b d.words (length d.arena) k) o ∙ ok)

  -- which leaves the engine as it is
  done : (call : Call) (r : Reply) (bytes : List ℕ) → (let mid = in_call d call bytes in r ≡ reply_held mid call)
      → (let mid = in_call d call bytes in core_held d ≡ record (core_held d) { room = room_left mid call r; blocks = blocks_after mid call r; actions = actions_after mid call r; arena = arena_held mid call r })
      → RepliesHeld (in_call d call bytes) call r (core_held d)
  done call r bytes reply_is stays = record { held = refl; irrevocable = refl; reply_is = reply_is; unfreed = refl; stays = stays; still = λ is. is }

  pub read_done : (hint : ReadHint) (width : Width) (at : ℕ) (bytes : List ℕ) → at + size_of width ≤ 8 * d.words → RepliesHeld (in_call d (Read hint width at) bytes) (Read hint width at) (bytes_reply bytes) (core_held d)
  read_done hint width at bytes l = done (Read hint width at) (bytes_reply bytes) bytes
      (sym (ap (λ (r : Option Refusal). reply_unless r (bytes_reply bytes)) (access_served d o (replicate d.words 0) (zeros d.words) (Read hint width at) at (size_of width) refl l))) refl

  pub write_done : (hint : WriteHint) (value : Datum) (at : ℕ) (bytes : List ℕ) → at + size_of value.width ≤ 8 * d.words → RepliesHeld (in_call d (Write hint at value) bytes) (Write hint at value) Done (core_held d)
  write_done hint value at bytes l = done (Write hint at value) Done bytes
      (sym (ap (λ (r : Option Refusal). reply_unless r Done) (access_served d o (replicate d.words 0) (zeros d.words) (Write hint at value) at (size_of value.width) refl l))) refl

  pub copy_done : (k : Copying) (bytes : List ℕ) → IsServed d k → RepliesHeld (in_call d (Copy k) bytes) (Copy k) Done (core_held d)
  copy_done k bytes ok = done (Copy k) Done bytes
      (sym (ap (λ (r : Option Refusal). reply_unless r Done) (copy_served k ok (replicate d.words 0) (zeros d.words)))) refl

  pub fill_done : (hint : WriteHint) (to byte size : ℕ) (bytes : List ℕ) → to + size ≤ 8 * d.words → RepliesHeld (in_call d (Fill hint to byte size) bytes) (Fill hint to byte size) Done (core_held d)
  fill_done hint to byte size bytes l = done (Fill hint to byte size) Done bytes
      (sym (ap (λ (r : Option Refusal). reply_unless r Done) (access_served d o (replicate d.words 0) (zeros d.words) (Fill hint to byte size) to size refl l))) refl

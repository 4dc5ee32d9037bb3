-- An engine with a call that came, or with the value of its step, and the view of its pass.
use Rattle.std.proofs.Common.{◌≡◌, ◌≢◌, ◌⊎◌, ℕ, suc, ◌+◌, ◌/◌, ◌<◌, ◌≤◌, Bool, true, false, List, [], ◌∷◌, ◌++◌, length, take, None, Some, slice_get, slice_index, ap, ◌∙◌, arith}
use Rattle.call_rules.proofs.Common.{Agrees, ComesTo, Core, Follows, Got, Grows, Idle, IsFresh, IsHolding, IsMemory, IsOpening, IsOver, IsSettled, IsShut, Keeps, Loads, Next, Stand, Start, StartsWith, Store, View, Went, after, after_call, after_fits, asked, backed, came, commits_take, held_words, in_transaction, length_after, memory_of, most, pending, reads_of, reply, stage_at, stands_for, stored}
use Rattle.std.proofs.lemmas.Option.{slice_get-get_or}

pub both : (n : Bool) → n ≡ true → n ≡ false → ⊥
both n t f = absurd (cc)

-- what an open transaction has read so far agrees with the memory of the position that it goes on to, unless a block goes back
pub record Before (s : Start) (w : View) (mid new : Core) : Type 0 where
  pub seen : new.snapshot / 2 ≤ length w.seen
  pub agrees : new.restarted ≡ mid.restarted → Agrees (memory_of w (new.snapshot / 2)) mid.log
  pub late : s.engine.snapshot ≤ new.snapshot
  pub from : s.engine.snapshot ≤ mid.snapshot
  pub log : StartsWith mid.log s.engine.log

-- the clock was freed by the last step: the stores since are the last commit that was seen
pub record Freed (s : Start) (w : View) (mid new : Core) : Type 0 where
  pub past : List (List (ℕ × ℕ))
  pub last : List (ℕ × ℕ)
  pub seen_is : w.seen ≡ past ++ last ∷ []
  pub count : length past ≡ new.snapshot / 2
  pub laid : mid.irrevocable ≡ false → stored (after w.base past) last ≡ backed mid (after w.base past)
  pub mine : w.mine ≡ s.view.mine ++ (new.snapshot / 2) ∷ []
  pub done : w.done ≡ []
  pub clock : mid.clock ≡ new.snapshot + 2
  pub few : new.snapshot / 2 < s.engine.max_commits

-- mid is such an engine with the view w, and goes on to new
pub record IsMid (s : Start) (w : View) (mid new : Core) : Type 0 where
  pub over : IsOver (suc mid.words) w
  pub kept : Keeps (came s.engine s.call s.again) mid
  pub went : Went s.view w
  pub behind : mid.clock ≤ w.clock
  pub known : mid.clock / 2 ≤ length w.seen
  pub rises : s.engine.clock ≤ mid.clock
  pub holds : w.holds ≡ mid.holds
  pub fresh : IsFresh w mid
  pub before : in_transaction mid ≡ true → Before s w mid new
  pub empty : in_transaction mid ≡ false → mid.log ≡ []
  pub clocks : in_transaction new ≡ true → Follows w mid
  pub clock : in_transaction mid ≡ true → w.clock ≡ mid.clock
  pub logged : in_transaction new ≡ true → Agrees (memory_of w (new.snapshot / 2)) new.log
  pub holding : mid.holds ≡ true → mid.irrevocable ≡ false → IsHolding w mid
  pub freed : mid.freed ≡ true → Freed s w mid new
  pub mine : mid.freed ≡ false → w.mine ≡ s.view.mine
  pub looked : mid.freed ≡ false → (w.clock ≡ s.view.clock) ⊎ (s.view.looks < w.looks)
  pub taken : mid.holds ≡ true → mid.irrevocable ≡ false → s.view.looks < w.looks
  pub first : in_transaction s.engine ≡ true → s.view.clock ≡ s.engine.snapshot
  pub read : s.engine.irrevocable ≡ false → reads_of s.engine.blocks ≤ length s.engine.log
  pub shut : in_transaction s.engine ≡ false → IsShut s.engine
  pub settled : IsSettled new
  pub asks : new.waits ≡ asked new
  pub idle : stage_at s.engine s.call s.again ≡ Idle → (new.waits ≡ None) × (w ≡ s.view) × (new.snapshot ≡ s.engine.snapshot)
  pub fixed : s.engine.irrevocable ≡ true → new.snapshot ≡ s.engine.snapshot
  pub grows : in_transaction s.engine ≡ true → in_transaction new ≡ true → new.restarted ≡ mid.restarted → Grows s w new
  pub opens : in_transaction s.engine ≡ false → in_transaction new ≡ true → s.view.looks < w.looks
  pub steps : length w.steps ≡ length s.view.steps + mid.spent
  pub spent : mid.spent ≤ most (came s.engine s.call s.again) (Some s.call)

-- its tries, its stage outside a transaction, and what was loaded last
pub record Tried (s : Start) (w : View) (mid new : Core) : Type 0 where
  pub tried : s.view.looks + new.tries ≤ w.looks + pending new.stage
  pub opening : in_transaction mid ≡ false → new.stage ≢ Idle → IsOpening new.stage
  pub loads : Loads w mid

-- in an irrevocable transaction, what comes next of it over the words that are held
pub record IsHeldMid (s : Start) (w : View) (what : Next) (new : Core) : Type 0 where
  pub comes : ComesTo (after_call s.engine.depth (stands_for s.engine (held_words s.view)) s.call) (reply s.engine.depth (stands_for s.engine (held_words s.view)) s.call) what new (held_words w)
  pub got : (word value : ℕ) → new.waits ≡ Some (Store (suc word) value) → Got new.got (slice_get (held_words w) word)

-- ## Rows and pairs

pub stand_less : (m : List ℕ) (xs : List (ℕ × ℕ)) (k n : ℕ) → Stand m (xs ++ (k, n) ∷ []) → Stand m xs × (slice_index m k ≡ n)
stand_less m [] k n s = (tt, s.0)
stand_less m (x ∷ xs) k n s = let r = stand_less m xs k n s.1 in ((s.0, r.0), r.1)

pub get_of : (m : List ℕ) (k n : ℕ) → k < length m → slice_index m k ≡ n → slice_get m k ≡ Some n
get_of m k n l e = slice_get-get_or m k 0 l ∙ ap (λ (x : ℕ). Some x) e

-- the memory after some commits is one
pub is_memory : (words : ℕ) (v : View) → IsOver (suc words) v → (k : ℕ) → IsMemory words (memory_of v k)
is_memory words v o k = let size = o.size in (length_after v.base (take k v.seen) ∙ (let n : length v.base ≡ words = omega arith in n), after_fits v.base (take k v.seen) o.base_fits (commits_take k v.seen o.seen_fits))

pub whole_memory : (words : ℕ) (v : View) → IsOver (suc words) v → IsMemory words (after v.base v.seen)
whole_memory words v o = let size = o.size in (length_after v.base v.seen ∙ (let n : length v.base ≡ words = omega arith in n), after_fits v.base v.seen o.base_fits o.seen_fits)

-- One call more of an open attempt, over a memory that it may have read: it is its player's alone, and leads on from where its calls led.
use Rattle.std.proofs.Common.{◌≡◌, ℕ, Bool, true, false, List, [], ◌∷◌, ◌++◌, length, map, Option, None, Some, refl, sym, ap, ◌∙◌, drop}
use Rattle.run_rules.proofs.Common.{AreAlone, AtEach, Attempt, Begin, Between, Call, CallRecord, Code, Core, Done, IsMemory, IsOpenTry, Obeys, ReadsFrom, Refusal, Reply, Rules, Savepoint, State, StaysRevocable, after, all_more, breaks_in, bytes_of, entered_by, is_begin, is_code, is_open, open_by, opened, refusal, reply, reply_unless, state_more, state_more_in, told_then, whole_then}
use Rattle.run_rules.proofs.Tries.{alone_more}
use Rattle.std.proofs.lemmas.List.{drop-map}

-- ## The begins of its blocks

module _ (s : Savepoint) where
  pub kept_by : (begins commits : Bool) (abort : Option Bool) (points : List Savepoint) (r : Reply) → map (λ (q : Savepoint). q.kept) (open_by begins commits abort s points r) ≡ open_by begins commits abort s.kept (map (λ (q : Savepoint). q.kept) points) r
  kept_by true commits abort points (Code n) = refl
  kept_by false true abort points Done = sym (drop-map (λ (q : Savepoint). q.kept) 1 points)
  kept_by false false (Some true) points (Code n) = refl
  kept_by false false (Some false) points (Code n) = sym (drop-map (λ (q : Savepoint). q.kept) 1 points)
  kept_by begins commits abort points r = refl

-- ## A begin's reply

code_five : (o : Option Refusal) (r : Reply) → r ≡ reply_unless o (Code 5) → is_code r ≡ true → (r ≡ Code 5) × (o ≡ None)
code_five None r e codes = (e, refl)
code_five (Some why) r e codes = absurd (let f : is_code r ≡ false = ap is_code e in let g : true ≡ false = sym codes ∙ f in cc)

pub begin_accepted : (deepest : ℕ) (s : State) (call : Call) (r : Reply) → r ≡ reply deepest s call → is_begin call ≡ true → is_code r ≡ true → (r ≡ Code 5) × (refusal deepest s call ≡ None)
begin_accepted deepest s (Begin props room) r e begins codes = code_five (refusal deepest s (Begin props room)) r e codes
begin_accepted deepest s call r e begins codes = absurd (cc)

module _ {P : Type 0} {rules : Rules P} (laws : Obeys rules) {deepest : ℕ} {position : List ℕ} {b : Between P} {row : Attempt} {points : List Savepoint} {p : P} {e : Core} (t : IsOpenTry rules deepest position b row points p e)
    (call : Call) (r : Reply) where
  abbrev pub last : CallRecord
  last = record { call = call; reply = r }

  -- the machine's reply to the call is this over that memory
  pub record IsReplied (m : List ℕ) : Type 0 where
    pub memory : IsMemory e.words m
    pub reads : ReadsFrom e.irrevocable position e.log m
    pub still_open : is_open (whole_then deepest row m row.calls.list) ≡ true
    pub replied : r ≡ reply deepest (whole_then deepest row m row.calls.list) call

  module _ (m : List ℕ) (f : IsReplied m) where
    pub alone_so : rules.next_call p ≡ Some call → AreAlone rules deepest (entered_by rules deepest t.of_block) row m (row.calls.list ++ last ∷ [])
    alone_so asks = alone_more laws deepest (breaks_in row.restarts) (entered_by rules deepest t.of_block) p (opened (bytes_of m) row.arena row.props) row.calls.list last (t.alone m f.memory f.reads) f.still_open t.of_block.player asks f.replied

    pub revocable_so : AtEach (StaysRevocable deepest row m) (row.calls.list ++ last ∷ []) row.restarts
    revocable_so = all_more (StaysRevocable deepest row m) (length row.arena) 0 row.calls.list (last ∷ []) row.restarts t.stand (t.revocable m f.memory f.reads)

  pub whole_so : (m : List ℕ) → whole_then deepest row m (row.calls.list ++ last ∷ []) ≡ after deepest (whole_then deepest row m row.calls.list) call
  whole_so m = state_more_in (length row.arena) deepest row.restarts (opened (bytes_of m) row.arena row.props) row.calls.list last t.stand

  pub told_more : (m : List ℕ) → told_then deepest row m (row.calls.list ++ last ∷ []) ≡ after deepest (told_then deepest row m row.calls.list) call
  told_more m = state_more (length row.arena) deepest row.restarts (opened (bytes_of m) row.arena row.props) row.calls.list last t.stand

-- Counts of an open attempt: its open blocks after a call, and what it tells of actions as its innermost block goes back.
use Rattle.std.proofs.Common.{◌≡◌, ℕ, suc, ◌+◌, ◌-◌, ◌<◌, ◌≤◌, Bool, true, false, List, [], ◌∷◌, drop, length, length-append, Option, Some, arith}
use Rattle.run_rules.proofs.Common.{Attempt, Call, Code, Done, Ran, Reply, Savepoint, abort_of, again_of, before_no_more, count_undone, cut_to, depth_after, depth_by, due_at, earlier, is_begin, is_commit, length-drop, length-take, open_after, open_by, ran_on, told_in, undone_both}

-- as many inner blocks are open after a call as the depth says, where the outermost one still is
pub open_deep : {A : Type 0} (new : A) (begins : List A) (call : Call) (reply : Reply) → 0 < depth_after (suc (length begins)) call reply
    → depth_after (suc (length begins)) call reply ≡ suc (length (open_after new begins (record { call = call; reply = reply })))
open_deep {A} new begins call reply within = by_kind (is_begin call) (is_commit call) (abort_of call) reply begins within
  where
    dropped : (l : List A) → 0 < suc (length l) - 1 → suc (length l) - 1 ≡ suc (length (drop 1 l))
    dropped [] some = absurd (omega arith)
    dropped (x ∷ l) some = omega arith

    by_kind : (begin commit : Bool) (abort : Option Bool) (r : Reply) (l : List A) → 0 < depth_by begin commit abort (suc (length l)) r → depth_by begin commit abort (suc (length l)) r ≡ suc (length (open_by begin commit abort new l r))
    by_kind true commit abort (Code n) l some = omega arith
    by_kind false true abort Done l some = dropped l some
    by_kind false false (Some true) (Code n) l some = absurd (omega arith)
    by_kind false false (Some false) (Code n) l some = dropped l some
    by_kind begin commit abort r l some = omega arith

-- what had come to run as a block began is told
pub due_told : (s : Savepoint) (row : Attempt) → s.ran ≤ length row.ran → due_at s row.restarts ≤ told_in row
due_told s row few = (let less = before_no_more s.kept row.restarts in omega arith)

-- once it has gone back, all that has come to run is told
pub cut_told : (s : Savepoint) (row : Attempt) (arena : List ℕ) (due : List Ran) → s.ran ≤ length row.ran → told_in row ≤ length due → told_in (cut_to s arena due row) ≡ length due
cut_told s row arena due few told =
    let less = due_told s row few in
    omega (arith, length-take s.ran row.ran, undone_both (earlier s.kept row.restarts) (again_of s row arena due ∷ []), length-drop (due_at s row.restarts) due)

-- nor is any left once those that came since are told
pub told_on : (row : Attempt) (due : List Ran) → told_in row ≤ length due → length (ran_on row.ran row.restarts due) + count_undone row.restarts ≡ length due
told_on row due told = omega (arith, length-append row.ran (drop (told_in row) due), length-drop (told_in row) due)

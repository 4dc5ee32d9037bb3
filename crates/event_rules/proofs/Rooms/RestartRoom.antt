-- The room for a block that goes back to its begin, and what the attempt has then.
use Rattle.std.proofs.Common.{◌≡◌, ℕ, suc, ◌≤◌, Bool, true, false, List, [], ◌∷◌, ◌++◌, drop, length, map, Option, Some, refl, sym, ap, ◌∙◌, arith}
use Rattle.event_rules.proofs.Common.{Attempt, BacksIn, BeganBy, BeganIn, BeganWith, Begins, CallRecord, Code, Core, Current, Done, IsBack, MayGoBack, Outside, Ran, Replied, Savepoint, Within, abort_of, cut_back, due_told, is_begin, is_commit, length-take, open_after, open_calls, open_in, renew_room, savepoints_after, stage_of, stand_of, told_in, total, within}
use Rattle.tx_attempts.specs.Restarts.{open_by}
use Rattle.run_rules.{proofs.CallsAlone.kept_by, proofs.OpenCalls.open_cut, proofs.OpenCalls.open_snoc}

-- ## Before it

began_by : (row : Attempt) (points : List Savepoint) (due : ℕ) → BeganWith (length row.ran) points → told_in row ≤ due → BeganBy points row due
began_by row [] due b told = tt
began_by row (s ∷ outer) due b told = (let few = due_told s row b.0 in omega arith)

-- the room that was made for the call serves
pub back_room : (mid new : Core) → IsBack mid new → (c : Current) → ((row : Attempt) → open_in (stage_of c) ≡ Some row → told_in row ≡ length mid.actions.ran) → BeganIn (stage_of c) → BacksIn (length mid.arena) (total mid.actions) c → MayGoBack (stand_of new) c
back_room mid new b Outside all began backed = tt
back_room mid new b (Begins o) all began backed = tt
back_room mid new b (Within o) all began backed = (let told = all o.row refl in renew_room b o told (began_by o.row o.points (length mid.actions.ran) began.1 (omega arith)) backed)

-- ## Where its blocks began

pub began_more : (few many : ℕ) (points : List Savepoint) → few ≤ many → BeganWith few points → BeganWith many points
began_more few many [] l b = tt
began_more few many (s ∷ outer) l b = ((let k = b.0 in omega arith), b.1)

began_drop : (told : ℕ) (points : List Savepoint) → BeganWith told points → BeganWith told (drop 1 points)
began_drop told [] b = tt
began_drop told (s ∷ outer) b = began_more s.ran told outer b.0 b.1

-- after one call more
began_by_kind : (told now : ℕ) (new : Savepoint) → new.ran ≡ told → told ≤ now → (begin commit : Bool) (abort : Option Bool) (points : List Savepoint) (r : Replied) → BeganWith told points → BeganWith now (open_by begin commit abort new points r)
began_by_kind told now new is l true commit abort points (Code n) b = (omega arith, began_more told new.ran points (omega arith) b)
began_by_kind told now new is l false true abort points Done b = began_more told now (drop 1 points) l (began_drop told points b)
began_by_kind told now new is l false false (Some true) points (Code n) b = tt
began_by_kind told now new is l false false (Some false) points (Code n) b = began_more told now (drop 1 points) l (began_drop told points b)
began_by_kind told now new is l begin commit abort points r b = began_more told now points l b

pub began_after : (row now : Attempt) (points : List Savepoint) (x : CallRecord) → now.calls.list ≡ row.calls.list ++ x ∷ [] → length row.ran ≤ length now.ran → BeganIn (within row points) → BeganIn (within now (savepoints_after points row x))
began_after row now points x calls l b = (
  kept_by (record { kept = suc (length row.calls.list); ran = length row.ran }) (is_begin x.call) (is_commit x.call) (abort_of x.call) points x.reply
      ∙ (ap (λ (begins : List ℕ). open_after (suc (length row.calls.list)) begins x) b.0 ∙ (sym (open_snoc row.calls.list x) ∙ ap open_calls (sym calls))),
  began_by_kind (length row.ran) (length now.ran) (record { kept = suc (length row.calls.list); ran = length row.ran }) refl l (is_begin x.call) (is_commit x.call) (abort_of x.call) points x.reply b.1,
)

-- as the innermost one has gone back
pub began_back : (s : Savepoint) (outer : List Savepoint) (arena : List ℕ) (due : List Ran) (row : Attempt) → BeganIn (within row (s ∷ outer)) → BeganIn (within (cut_back (s ∷ outer) arena due row) (s ∷ outer))
began_back s outer arena due row b = (
  sym (open_cut row.calls.list s.kept (map (λ (q : Savepoint). q.kept) outer) (sym b.0)),
  ((let few = b.1.0 in let long = length-take s.ran row.ran in omega arith), b.1.1),
)

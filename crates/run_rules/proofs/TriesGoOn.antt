-- An open attempt goes on: it is the engine's open attempt after a reply to one call more.
use Rattle.std.proofs.Common.{◌≡◌, ℕ, suc, ◌+◌, ◌<◌, ◌≤◌, false, List, [], ◌∷◌, ◌++◌, length, map, Some, sym, ap, subst, ◌∙◌, arith}
use Rattle.run_rules.proofs.Common.{Agrees, Attempt, Between, Call, CallRecord, Core, HaveBegun, IsAt, IsMemory, IsOpenTry, Obeys, Ran, ReadsFrom, Reply, Rules, Savepoint, State, abort_of, adds_after, after, again_more, bounds_now, depth_after, entered_by, is_begin, is_commit, open_after, ran_on, savepoints_after, stands_for, told_then, whole_then, with_call}
use Rattle.run_rules.proofs.CallsAlone.{IsReplied, alone_so, begin_accepted, kept_by, revocable_so, told_more, whole_so}
use Rattle.run_rules.proofs.OpenBegins.{one_more}
use Rattle.run_rules.proofs.OpenCalls.{open_snoc}
use Rattle.run_rules.proofs.Tries.{block_more}
use Rattle.run_rules.proofs.TriesTold.{came_further, due_further, told_further}

module _ {P : Type 0} {rules : Rules P} (laws : Obeys rules) {deepest : ℕ} {position : List ℕ} {b : Between P} {row : Attempt} {points : List Savepoint} {p : P} {mid : Core} (t : IsOpenTry rules deepest position b row points p mid)
    (next : List ℕ) (new : Core) (call : Call) (r : Reply) (asks : rules.next_call p ≡ Some call) (within : 0 < depth_after (rules.depth p) call r) where
  abbrev last : CallRecord
  last = record { call = call; reply = r }

  -- ## Over one memory

  -- what comes of the call there
  pub record IsServed (m : List ℕ) : Type 0 where
    pub replied : IsReplied laws t call r m
    pub ran : new.actions.ran ≡ (after deepest (whole_then deepest row m row.calls.list) call).actions.ran

  module _ (m : List ℕ) (f : IsServed m) where
    abbrev k : IsReplied laws t call r m
    k = f.replied

    ran_so : ran_on row.ran row.restarts new.actions.ran ≡ (told_then deepest row m (row.calls.list ++ last ∷ [])).actions.ran
    ran_so =
        sym (ap (λ (s : State). s.actions.ran)
        (told_more laws t call r m ∙ told_further t m k.memory k.reads (λ (s : State). after deepest s call) (adds_after deepest call (whole_then deepest row m row.calls.list) k.still_open) new.actions.ran f.ran))

    -- it comes to run what had come to run, and more
    pub later_so : (more : List Ran) × (new.actions.ran ≡ mid.actions.ran ++ more)
    later_so = (_, came_further t m k.memory k.reads (λ (s : State). after deepest s call) (adds_after deepest call (whole_then deepest row m row.calls.list) k.still_open) new.actions.ran f.ran)

  -- ## The attempt then

  pub goes_on : ((m : List ℕ) → IsMemory new.words m → ReadsFrom new.irrevocable next new.log m → IsServed m) → (one : List ℕ) → IsServed one → mid.snapshot ≤ new.snapshot → new.restarted ≡ mid.restarted
      → (new.irrevocable ≡ false → length new.arena ≡ length row.arena)
      → (new.irrevocable ≡ false → (m : List ℕ) → IsMemory new.words m → Agrees m new.log → stands_for new m ≡ whole_then deepest row m (row.calls.list ++ record { call = call; reply = r } ∷ []))
      → (new.irrevocable ≡ false → HaveBegun rules deepest (entered_by rules deepest t.of_block) (record (with_call call r row) { ran = ran_on row.ran row.restarts new.actions.ran }) new
      (bounds_now (record (with_call call r row) { ran = ran_on row.ran row.restarts new.actions.ran }) new) new.blocks (savepoints_after points row (record { call = call; reply = r })))
      → IsOpenTry rules deepest next b (record (with_call call r row) { ran = ran_on row.ran row.restarts new.actions.ran }) (savepoints_after points row (record { call = call; reply = r })) (rules.answered p r) new
  goes_on over one served later restarted sized stands blocks =
      let opened : map (λ (q : Savepoint). q.kept) (savepoints_after points row last) ≡ open_after (suc (length row.calls.list)) (map (λ (q : Savepoint). q.kept) points) last =
      kept_by (record { kept = suc (length row.calls.list); ran = length row.ran }) (is_begin call) (is_commit call) (abort_of call) points r in
      record {
        of_block = block_more last (ran_on row.ran row.restarts new.actions.ran) t.of_block;
        at = subst (IsAt rules (entered_by rules deepest t.of_block) (row.calls.list ++ last ∷ []) (rules.answered p r)) (sym opened)
            (one_more rules (entered_by rules deepest t.of_block) laws row.calls.list p (map (λ (q : Savepoint). q.kept) points) last t.at asks within (λ begins codes. (begin_accepted deepest (whole_then deepest row one row.calls.list) call r served.replied.replied begins codes).0));
        began = (let began = t.began in omega (arith, later));
        sized = sized;
        alone = λ m memory reads. alone_so laws t call r m (over m memory reads).replied asks;
        ran = λ m memory reads. ran_so m (over m memory reads);
        came = λ m memory reads. (over m memory reads).ran ∙ ap (λ (s : State). s.actions.ran) (sym (whole_so laws t call r m));
        stands = stands;
        due = due_further t one served.replied.memory served.replied.reads (λ (s : State). after deepest s call) (adds_after deepest call (whole_then deepest row one row.calls.list) served.replied.still_open) new.actions.ran served.ran;
        stand = again_more (length row.arena) 0 row.calls.list (last ∷ []) row.restarts t.stand;
        revocable = λ m memory reads. revocable_so laws t call r m (over m memory reads).replied;
        few = (let few = t.few in omega (arith, restarted));
        points_are = opened ∙ (ap (λ (begins : List ℕ). open_after (suc (length row.calls.list)) begins last) t.points_are ∙ sym (open_snoc row.calls.list last));
        blocks = blocks;
      }

-- An inner block that has just begun: what it goes back to is where the calls before it led.
use Rattle.std.proofs.Common.{◌≡◌, ℕ, suc, ◌+◌, ◌≤◌, Bool, true, false, List, [], ◌∷◌, ◌++◌, length, take, refl, sym, ap, subst, ◌∙◌, arith, append-nil, length-append}
use Rattle.run_rules.proofs.Common.{Actions, Agrees, AreAlone, AreRead, AtEach, Attempt, Begin, Between, CallRecord, Code, Core, Frame, HasBegun, HaveBegun, IsMemory, IsOpenTry, LogRow, Props, Ran, ReadsFrom, Rules, Savepoint, State, StaysRevocable, all_before, begun, bounds_now, count_undone, due_at, earlier, entered_by, in_transaction, is_inside, nothing, stands_for, state_in, state_over, state_under, take-append_seam, take-length, whole_then}
use Rattle.run_rules.proofs.BlocksAgain.{under_still}
use Rattle.run_rules.proofs.BlocksStill.{KeepsAll, blocks_still, keeps_same}
use Rattle.run_rules.proofs.EngineStates.{stands_arena}

module _ {P : Type 0} {rules : Rules P} {deepest : ℕ} {position : List ℕ} {b : Between P} {row : Attempt} {points : List Savepoint} {p : P} {mid : Core} (t : IsOpenTry rules deepest position b row points p mid)
    (new : Core) (x : CallRecord) (room : ℕ) (more : List Ran) (props : Props) (places : ℕ) (begins : x ≡ record { call = Begin props places; reply = Code 5 })
    (revocable : mid.irrevocable ≡ false) (goes : props.goes_irrevocable ≡ false) (words : new.words ≡ mid.words) (rows : List LogRow) (log : new.log ≡ mid.log ++ rows) (size : nothing new.arena ≡ nothing mid.arena) (actions : new.actions ≡ mid.actions)
    (alone : (m : List ℕ) → IsMemory mid.words m → Agrees m mid.log → AreAlone rules deepest (entered_by rules deepest t.of_block) row m (row.calls.list ++ x ∷ [])) where
  abbrev on : Attempt
  on = record row { calls = record { list = row.calls.list ++ x ∷ []; room = room }; ran = row.ran ++ more }

  abbrev by : P
  by = entered_by rules deepest t.of_block

  abbrev opened : Frame
  opened = begun props mid.writes mid.actions (length mid.log)

  abbrev point : Savepoint
  point = record { kept = suc (length row.calls.list); ran = length row.ran }

  all_told : earlier (suc (length row.calls.list)) row.restarts ≡ row.restarts
  all_told = all_before (length row.arena) 0 row.calls.list row.restarts t.stand

  module _ (m : List ℕ) (memory : IsMemory new.words m) (agrees : Agrees m (take (length mid.log) new.log)) where
    here : IsMemory mid.words m
    here = subst (λ (n : ℕ). IsMemory n m) words memory

    agreed : Agrees m mid.log
    agreed = subst (Agrees m) (ap (take (length mid.log)) log ∙ take-append_seam mid.log rows) agrees

    reads : ReadsFrom mid.irrevocable position mid.log m
    reads = subst (λ (i : Bool). ReadsFrom i position mid.log m) (sym revocable) agreed

    stands : stands_for mid m ≡ whole_then deepest row m row.calls.list
    stands = t.stands revocable m here agreed

    -- all that is cut at its begin is whole
    under_now : state_under mid opened mid.blocks (due_at point row.restarts) m ≡ stands_for mid m
    under_now =
        let commits = take-length mid.actions.commits in
        let undos = take-length mid.actions.undos in
        let ran : take (due_at point row.restarts) mid.actions.ran ≡ mid.actions.ran = ap (λ (n : ℕ). take n mid.actions.ran) (ap (λ n. length row.ran + n) (ap count_undone all_told) ∙ sym t.due) ∙ take-length mid.actions.ran in
        (λ i. record (state_over mid.writes mid.blocks mid.arena mid.actions m) { actions = record { commits = commits i; undos = undos i; ran = ran i } })
        ∙ ap (λ (i : Bool). state_in i mid.writes mid.blocks mid.arena mid.actions m) (sym revocable)

    under_so : state_under new opened mid.blocks (due_at point row.restarts) m ≡ record (whole_then deepest row m row.calls.list) { arena = new.arena }
    under_so =
        under_still mid new opened mid.blocks (due_at point row.restarts) m size (ap (λ (a : Actions). take (length mid.actions.commits) a.commits) actions) (ap (λ (a : Actions). take (length mid.actions.undos) a.undos) actions)
        (ap (λ (a : Actions). take (due_at point row.restarts) a.ran) actions)
        ∙ ap (λ (s : State). record s { arena = new.arena }) (under_now ∙ stands)

  begun_block : HasBegun rules deepest by on new opened mid.blocks point
  begun_block = record {
    before = row.calls.list;
    room = places;
    rest = [];
    calls = ap (λ (y : CallRecord). row.calls.list ++ y ∷ []) begins;
    kept = refl;
    few = (let n = length-append row.ran more in omega arith);
    stays = goes;
    sized = λ m k a. ap (λ (s : State). length s.arena) (sym (stands m k a)) ∙ (ap (length {A = ℕ}) (stands_arena mid m) ∙ t.sized revocable);
    under = λ m k a. under_so m k a;
    told = λ m k a. take-append_seam row.ran more ∙ t.ran m (here m k a) (reads m k a);
    alone = λ m k a. subst (λ (y : CallRecord). AreAlone rules deepest by row m (row.calls.list ++ y ∷ [])) begins (alone m (here m k a) (agreed m k a));
    revocable = λ m k a. subst (AtEach (StaysRevocable deepest row m) row.calls.list) (sym all_told) (t.revocable m (here m k a) (reads m k a));
  }

  -- it is the innermost one now
  pub begun_blocks : in_transaction mid ≡ true → AreRead (length mid.log) mid.blocks
      → HaveBegun rules deepest by on new (bounds_now on new) (begun props mid.writes mid.actions (length mid.log) ∷ mid.blocks) (record { kept = suc (length row.calls.list); ran = length row.ran } ∷ points)
  begun_blocks inside read = with_blocks mid.blocks inside read begun_block (t.blocks revocable)
    where
      with_blocks : (bs : List Frame) → is_inside bs ≡ true → AreRead (length mid.log) bs → HasBegun rules deepest by on new opened bs point → HaveBegun rules deepest by row mid (bounds_now row mid) bs points
          → HaveBegun rules deepest by on new (bounds_now on new) (opened ∷ bs) (point ∷ points)
      with_blocks [] inside read first around = absurd (cc)
      with_blocks (g ∷ outer) inside read first around =
          let all : length mid.log ≤ length mid.log = omega arith in (
            first,
            record {
              calls = (let n = length-append row.calls.list (x ∷ []) in omega arith);
              told = (let n = length-append row.ran more in omega arith);
              commits = omega (arith, ap (λ (a : Actions). length a.commits) actions);
              undos = omega (arith, ap (λ (a : Actions). length a.undos) actions);
            },
            blocks_still rules deepest by row mid new x room more rows [] words log size (ap (λ (a : Actions). a.ran) actions ∙ sym (append-nil mid.actions.ran)) t.due (bounds_now row mid) (length mid.log) (g ∷ outer) points all read
                (subst (KeepsAll mid.actions) (sym actions) (keeps_same mid.actions)) around,
          )

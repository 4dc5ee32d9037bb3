-- A reply within an open attempt, in a transaction that may be tried again before and after it.
use Rattle.std.proofs.Common.{◌≡◌, ℕ, suc, ◌+◌, ◌-◌, ◌<◌, ◌≤◌, ◌&&◌, ◌||◌, not, nat_lt, Bool, true, false, true≢false, List, [], ◌∷◌, ◌++◌, length, drop, Option, None, Some, refl, sym, ap, subst, ◌∙◌, arith, if◌then◌else◌}
use Rattle.run_rules.proofs.Common.{Actions, Agrees, AreRead, Attempt, Begin, Between, Bounds, Call, Code, Core, Frame, HaveBegun, IsDeep, IsMemory, IsOpenTry, LogRow, NoIrrevocable, Obeys, Props, ReadsFrom, Refusal, Replies, Reply, Rules, Savepoint, State, TooDeep, actions_after, after, agrees_less, begun, blocks_after, bounds_now, count_undone, depth_after, entered, entered_by, in_transaction, irrevocable_from, is_begin, is_code, is_inside, length-map, length-over, nothing, nothing_same, or_else, pushed, ran_on, recoded, refusal, reply, reply_unless, revocable_over, savepoints_after, stands_for, state_in, state_over, told_plainly, unless, whole_then, with_call}
use Rattle.itm_model.proofs.ArenaSizes.{after_long}
use Rattle.run_rules.proofs.BlocksAgain.{accepted}
use Rattle.run_rules.proofs.BlocksBegun.{begun_blocks}
use Rattle.run_rules.proofs.BlocksStill.{begun_after}
use Rattle.run_rules.proofs.CallsAlone.{IsReplied, alone_so, begin_accepted, whole_so}
use Rattle.run_rules.proofs.EngineDepths.{deep_of, reply_fits}
use Rattle.run_rules.proofs.EngineStates.{stands_actions, stands_arena, stands_mode}
use Rattle.run_rules.proofs.IrrevocableCalls.{from_irrevocable}
use Rattle.run_rules.proofs.TriesGoOn.{IsServed, goes_on, later_so}
use Rattle.run_rules.proofs.TriesTold.{open_so}

-- ## Begins

-- whether one is refused is the same over each memory
begin_same : (deepest : ℕ) (c : Core) (m n : List ℕ) (props : Props) (places : ℕ)
    → refusal deepest (state_over c.writes c.blocks c.arena c.actions m) (Begin props places) ≡ refusal deepest (state_over c.writes c.blocks c.arena c.actions n) (Begin props places)
begin_same deepest c m n props places =
    let keeps = sym (revocable_over c.blocks c.arena m) ∙ revocable_over c.blocks c.arena n in
    let deep = length-over c.blocks c.arena m ∙ sym (length-over c.blocks c.arena n) in
    λ i. or_else (or_else (unless (not (props.goes_irrevocable && (props.no_irrevocable || keeps i))) NoIrrevocable) (unless (nat_lt (deep i) deepest) TooDeep)) None

-- one after which the transaction may be tried again does not go irrevocable
goes_not : (s : State) (props : Props) → (entered s props).irrevocable ≡ false → props.goes_irrevocable ≡ false
goes_not s props = elim props.goes_irrevocable as (λ (goes : Bool). (if goes then irrevocable_from (pushed s props) else pushed s props).irrevocable ≡ false → goes ≡ false) [
  | true ↦ λ free. absurd (true≢false (sym (from_irrevocable (pushed s props)) ∙ free))
  | false ↦ λ free. refl
]

module _ {P : Type 0} {rules : Rules P} (laws : Obeys rules) {deepest : ℕ} {position : List ℕ} {b : Between P} {row : Attempt} {points : List Savepoint} {p : P} {mid : Core} (t : IsOpenTry rules deepest position b row points p mid) where
  -- as many blocks are open as its savepoints tell, and the outermost one
  as_deep : (most : Bounds) (bs : List Frame) (at : List Savepoint) → is_inside bs ≡ true → HaveBegun rules deepest (entered_by rules deepest t.of_block) row mid most bs at → length bs ≡ suc (length at)
  as_deep most [] at inside h = absurd (cc)
  as_deep most (f ∷ []) at inside h = omega (arith, ap (length {A = Savepoint}) h)
  as_deep most (f ∷ g ∷ outer) [] inside h = absurd h
  as_deep most (f ∷ g ∷ outer) (s ∷ at) inside h = (let rest = as_deep _ (g ∷ outer) at refl h.2 in omega arith)

  pub deep_so : mid.irrevocable ≡ false → in_transaction mid ≡ true → rules.depth p ≡ length mid.blocks
  deep_so revocable inside = t.at.depth ∙ (ap suc (length-map points (λ (s : Savepoint). s.kept)) ∙ sym (as_deep (bounds_now row mid) mid.blocks points inside (t.blocks revocable)))

  -- so a reply after which the transaction is open leaves the player in it
  pub within_so : (call : Call) (r : Reply) → rules.depth p ≡ length mid.blocks → is_inside (blocks_after mid call r) ≡ true → 0 < depth_after (rules.depth p) call r
  within_so call r deep now =
      let some : 0 < length (blocks_after mid call r) = subst (λ (o : Bool). IsDeep o (length (blocks_after mid call r))) now (deep_of (blocks_after mid call r)) in
      omega (arith, some, reply_fits mid call r, ap (λ (d : ℕ). depth_after d call r) deep)

  module _ (next : List ℕ) (new : Core) (call : Call) (r : Reply) (asks : rules.next_call p ≡ Some call) (g : Replies mid call r new) (depth : mid.depth ≡ deepest) (first : mid.again ≡ false) (inside : in_transaction mid ≡ true) (now : in_transaction new ≡ true)
      (rows : List LogRow) (log : new.log ≡ mid.log ++ rows) (agreed : (m : List ℕ) × IsMemory mid.words m × Agrees m new.log) (read : AreRead (length mid.log) mid.blocks) (later : mid.snapshot ≤ new.snapshot) where
    words : new.words ≡ mid.words
    words = ap (λ (c : Core). c.words) g.stays

    still_revocable : new.irrevocable ≡ false
    still_revocable = ap (λ (c : Core). c.irrevocable) g.stays ∙ g.revocable

    now_so : is_inside (blocks_after mid call r) ≡ true
    now_so = sym (ap is_inside g.blocks) ∙ now

    within : 0 < depth_after (rules.depth p) call r
    within = within_so call r (deep_so g.revocable inside) now_so

    -- ## Over one memory

    less : (m : List ℕ) → Agrees m new.log → Agrees m mid.log
    less m agrees = agrees_less m mid.log rows (subst (Agrees m) log agrees)

    reads : (m : List ℕ) → Agrees m mid.log → ReadsFrom mid.irrevocable position mid.log m
    reads m agrees = subst (λ (i : Bool). ReadsFrom i position mid.log m) (sym g.revocable) agrees

    stands : (m : List ℕ) → IsMemory mid.words m → Agrees m mid.log → stands_for mid m ≡ whole_then deepest row m row.calls.list
    stands m memory agrees = t.stands g.revocable m memory agrees

    abbrev left : List ℕ → State
    left m = after deepest (whole_then deepest row m row.calls.list) call

    meets : (m : List ℕ) → IsMemory mid.words m → Agrees m new.log → stands_for new m ≡ left m
    meets m memory agrees =
        let same = stands m memory (less m agrees) in
        g.meets m memory agrees ∙ (λ i. after (depth i) (same i) call)

    served : (m : List ℕ) → IsMemory mid.words m → Agrees m new.log → IsServed laws t next new call r asks within m
    served m memory agrees =
        let same = stands m memory (less m agrees) in
        record {
          replied = record {
            memory = memory;
            reads = reads m (less m agrees);
            still_open = open_so t m memory (reads m (less m agrees)) g.revocable inside;
            replied = g.reply_is m memory agrees ∙ (ap (λ (a : Bool). recoded call a (reply mid.depth (stands_for mid m) call)) first ∙ (told_plainly call (reply mid.depth (stands_for mid m) call) ∙ (λ i. reply (depth i) (same i) call)));
          };
          ran = sym (ap (λ (a : Actions). a.ran) (stands_actions new m)) ∙ ap (λ (s : State). s.actions.ran) (meets m memory agrees);
        }

    -- ## The engine

    abbrev one : List ℕ
    one = agreed.0

    once : IsServed laws t next new call r asks within one
    once = served one agreed.1 agreed.2

    same_size : length new.arena ≡ length mid.arena
    same_size =
        sym (ap (length {A = ℕ}) (stands_arena new one)) ∙ (ap (λ (s : State). length s.arena) (meets one agreed.1 agreed.2)
        ∙ (after_long deepest (whole_then deepest row one row.calls.list) call ∙ (ap (λ (s : State). length s.arena) (sym (stands one agreed.1 (less one agreed.2))) ∙ ap (length {A = ℕ}) (stands_arena mid one))))

    same_kept : nothing new.arena ≡ nothing mid.arena
    same_kept = nothing_same new.arena mid.arena same_size

    -- ## A begin that is accepted

    module _ (props : Props) (places : ℕ) (is : call ≡ Begin props places) (codes : is_code r ≡ true) where
      five : (r ≡ Code 5) × (refusal deepest (whole_then deepest row one row.calls.list) call ≡ None)
      five = begin_accepted deepest (whole_then deepest row one row.calls.list) call r once.replied.replied (ap is_begin is) codes

      plain : (m : List ℕ) → IsMemory mid.words m → Agrees m mid.log → whole_then deepest row m row.calls.list ≡ state_over mid.writes mid.blocks mid.arena mid.actions m
      plain m memory agrees = sym (stands m memory agrees) ∙ ap (λ (i : Bool). state_in i mid.writes mid.blocks mid.arena mid.actions m) g.revocable

      -- it is so over each memory that agrees with the log of before
      accepts : (m : List ℕ) → IsMemory mid.words m → Agrees m mid.log → refusal deepest (whole_then deepest row m row.calls.list) (Begin props places) ≡ None
      accepts m memory agrees =
          ap (λ (s : State). refusal deepest s (Begin props places)) (plain m memory agrees)
          ∙ (begin_same deepest mid m one props places
          ∙ (ap (λ (s : State). refusal deepest s (Begin props places)) (sym (plain one agreed.1 (less one agreed.2))) ∙ (ap (refusal deepest (whole_then deepest row one row.calls.list)) (sym is) ∙ five.1)))

      begin_replied : (m : List ℕ) → IsMemory mid.words m → Agrees m mid.log → IsReplied laws t call r m
      begin_replied m memory agrees = record {
        memory = memory;
        reads = reads m agrees;
        still_open = open_so t m memory (reads m agrees) g.revocable inside;
        replied = five.0 ∙ (sym (ap (λ (o : Option Refusal). reply_unless o (Code 5)) (accepts m memory agrees)) ∙ ap (reply deepest (whole_then deepest row m row.calls.list)) (sym is));
      }

      goes : props.goes_irrevocable ≡ false
      goes =
          let whole : State = whole_then deepest row one row.calls.list in
          let enters : left one ≡ entered whole props = ap (after deepest whole) is ∙ accepted deepest whole props places once.replied.still_open (sym (ap (λ (o : Option Refusal). reply_unless o (Code 5)) (accepts one agreed.1 (less one agreed.2)))) in
          goes_not whole props (ap (λ (s : State). s.irrevocable) (sym (meets one agreed.1 agreed.2 ∙ enters)) ∙ (stands_mode new one ∙ still_revocable))

      actions : new.actions ≡ mid.actions
      actions = g.actions ∙ ((λ i. actions_after mid (is i) (five.0 i)) ∙ ap (λ (o : Bool). if o then mid.actions else record mid.actions { ran = [] }) inside)

      begun_now : HaveBegun rules deepest (entered_by rules deepest t.of_block) (record (with_call call r row) { ran = ran_on row.ran row.restarts new.actions.ran }) new
          (bounds_now (record (with_call call r row) { ran = ran_on row.ran row.restarts new.actions.ran }) new) (begun props mid.writes mid.actions (length mid.log) ∷ mid.blocks) (record { kept = suc (length row.calls.list); ran = length row.ran } ∷ points)
      begun_now =
          begun_blocks t new (record { call = call; reply = r }) (row.calls.room - 1) (drop (length row.ran + count_undone row.restarts) new.actions.ran) props places (λ i. record { call = is i; reply = five.0 i }) g.revocable goes words rows log same_kept actions
          (λ m memory agrees. alone_so laws t call r m (begin_replied m memory agrees) asks) inside read

    -- the attempt is open with the call
    pub replies_on : IsOpenTry rules deepest next b (record (with_call call r row) { ran = ran_on row.ran row.restarts new.actions.ran }) (savepoints_after points row (record { call = call; reply = r })) (rules.answered p r) new
    replies_on =
        let on : Attempt = record (with_call call r row) { ran = ran_on row.ran row.restarts new.actions.ran } in
        let was : (m : List ℕ) → IsMemory new.words m → IsMemory mid.words m = λ m. subst (λ (n : ℕ). IsMemory n m) words in
        let more = later_so laws t next new call r asks within one once in
        goes_on laws t next new call r asks within (λ m memory seen. served m (was m memory) (subst (λ (i : Bool). ReadsFrom i next new.log m) still_revocable seen)) one once later (ap (λ (c : Core). c.restarted) g.stays)
        (λ i. same_size ∙ t.sized g.revocable) (λ i m memory agrees. meets m (was m memory) agrees ∙ sym (whole_so laws t call r m))
        (λ i. subst (λ (bs : List Frame). HaveBegun rules deepest (entered_by rules deepest t.of_block) on new (bounds_now on new) bs (savepoints_after points row (record { call = call; reply = r }))) (sym g.blocks)
        (begun_after rules deepest (entered_by rules deepest t.of_block) row mid new (record { call = call; reply = r }) (row.calls.room - 1) (drop (length row.ran + count_undone row.restarts) new.actions.ran) rows more.0 words log same_kept more.1 t.due
        points read (t.blocks g.revocable) call r g.actions now_so (λ props places is codes. begun_now props places is codes)))

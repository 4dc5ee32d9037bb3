-- An open attempt begins: it is the engine's open attempt as its outermost begin has been accepted.
use Rattle.std.proofs.Common.{◌≡◌, ℕ, suc, ◌/◌, ◌<◌, ◌≤◌, Bool, true, false, true≢false, List, [], ◌∷◌, length, Option, None, Some, refl, sym, ap, subst, ◌∙◌, arith, if◌then◌else◌}
use Rattle.run_rules.proofs.Common.{Actions, Again, Agrees, AreAgain, AreAlone, AtEach, Attempt, Begin, Between, CallRecord, Core, Enters, Frame, HaveBegun, IsAt, IsMemory, IsOfBlock, IsOpenTry, Obeys, Props, Ran, Refusal, Replies, Reply, Rules, State, StaysRevocable, actions_after, after, after_unless, arena_after, begin_code, begins_at, begun, blocks_after, bounds_now, bytes_of, count_undone, depth_after, in_transaction, inside_all, is_inside, none_inside, open_in, opened, opened_told, player_then, recoded, refusal, reply, stands_for, told_then, whole_then}
use Rattle.write_set.specs.Rows.{overlay}
use Rattle.run_rules.proofs.OpenBegins.{none_begun}
use Rattle.run_rules.proofs.OutermostBegins.{begin_served, outside_of, stands_outside}

-- the begin that comes with these properties outside a transaction is to open this attempt of a player that has come to it
pub record IsToOpen {P : Type 0} (rules : Rules P) (b : Between P) (row : Attempt) (p : P) (mid : Core) (asked : Props) (room : ℕ) : Type 0 where
  pub comes : begins_at rules mid.depth b ≡ Some (record { player = p; arena = mid.arena; props = row.props })
  pub asks : rules.next_call p ≡ Some (Begin asked room)
  pub none_open : rules.depth p ≡ 0
  pub arena : row.arena ≡ mid.arena
  pub props : row.props ≡ asked
  pub calls : row.calls.list ≡ []
  pub ran : row.ran ≡ []
  pub restarts : row.restarts ≡ []
  pub tries : b.tries < row.nth
  pub outside : in_transaction mid ≡ false
  pub empty : mid.writes ≡ []
  pub again : mid.again ≡ b.again
  pub revocable : mid.irrevocable ≡ false

module _ {P : Type 0} {rules : Rules P} (laws : Obeys rules) (position : List ℕ) {b : Between P} {row : Attempt} {p : P} {mid : Core} {props : Props} {room : ℕ} (x : IsToOpen rules b row p mid props room) (r : Reply) where
  -- ## The machine's begin

  served : (m : List ℕ) → r ≡ recoded (Begin props room) mid.again (reply mid.depth (stands_for mid m) (Begin props room)) → is_inside (blocks_after mid (Begin props room) r) ≡ true
      → (refusal mid.depth (outside_of mid m) (Begin props room) ≡ None) × (r ≡ begin_code b.again)
  served m told opens =
      begin_served mid props room r b.again (refusal mid.depth (outside_of mid m) (Begin props room)) x.outside opens (told ∙ (λ i. recoded (Begin props room) (x.again i) (reply mid.depth (stands_outside mid x.outside x.revocable m i) (Begin props room))))

  leaves : (m : List ℕ) → refusal mid.depth (outside_of mid m) (Begin props room) ≡ None → after mid.depth (stands_for mid m) (Begin props room) ≡ opened (bytes_of m) row.arena row.props
  leaves m none =
      ap (λ (s : State). after mid.depth s (Begin props room)) (stands_outside mid x.outside x.revocable m)
      ∙ (ap (λ (o : Option Refusal). after_unless o (outside_of mid m) (opened (bytes_of (overlay m mid.writes)) mid.arena props)) none
      ∙ (λ i. opened (bytes_of (overlay m (x.empty i))) (sym x.arena i) (sym x.props i)))

  -- ## The attempt

  whole_none : (m : List ℕ) (calls : List CallRecord) → calls ≡ [] → opened (bytes_of m) row.arena row.props ≡ whole_then mid.depth row m calls
  whole_none m calls none = ap (λ (xs : List CallRecord). whole_then mid.depth row m xs) (sym none)

  module _ (new : Core) (at : ℕ) (code : r ≡ begin_code b.again) where
    abbrev first : P
    first = rules.answered p (begin_code b.again)

    abbrev on : Attempt
    on = record row { at = at }

    abbrev of_block : IsOfBlock rules mid.depth b on (rules.answered p r)
    of_block = record {
      start = record { player = p; arena = mid.arena; props = row.props };
      begins = x.comes;
      arena = x.arena;
      props = refl;
      tries = x.tries;
      player = ap (rules.answered p) code ∙ ap (λ (xs : List CallRecord). player_then rules.answered first xs) (sym x.calls);
    }

    none_ran : (m : List ℕ) (calls : List CallRecord) → calls ≡ [] → (told_then mid.depth row m calls).actions.ran ≡ []
    none_ran m calls none = ap (λ (xs : List CallRecord). (told_then mid.depth row m xs).actions.ran) none ∙ ap (λ (s : State). s.actions.ran) (sym (opened_told (bytes_of m) row.arena row.props))

    begins_as : row.began ≤ new.snapshot / 2 → new.actions.ran ≡ (actions_after mid (Begin props room) r).ran → (new.irrevocable ≡ false → new.arena ≡ mid.arena)
        → (new.irrevocable ≡ false → (m : List ℕ) → IsMemory new.words m → Agrees m new.log → stands_for new m ≡ opened (bytes_of m) row.arena row.props) → (new.irrevocable ≡ false → (f : Frame) × (new.blocks ≡ f ∷ []))
        → IsOpenTry rules mid.depth position b (record row { at = at }) [] (rules.answered p r) new
    begins_as began ran arena stands one =
        let none : new.actions.ran ≡ [] = ran ∙ (ap (λ (y : Reply). (actions_after mid (Begin props room) y).ran) code ∙ ap (λ (w : Bool). (if w then mid.actions else record mid.actions { ran = [] }).ran) x.outside) in
        let entered : rules.answered p r ≡ first = ap (rules.answered p) code in
        let deeper : depth_after (rules.depth p) (Begin props room) (begin_code b.again) ≡ suc (rules.depth p) = refl in
        record {
          of_block = of_block;
          at = subst (λ (xs : List CallRecord). IsAt rules first xs (rules.answered p r) []) (sym x.calls)
              (subst (λ (q : P). IsAt rules first [] q []) (sym entered) (none_begun rules first laws p (Begin props room) (begin_code b.again) refl x.asks x.none_open (omega (arith, deeper))));
          began = omega (arith, began, ap (length {A = Again}) x.restarts);
          sized = λ i. ap (length {A = ℕ}) (arena i ∙ sym x.arena);
          alone = λ m memory reads. subst (AreAlone rules mid.depth first row m) (sym x.calls) tt;
          ran = λ m memory reads. x.ran ∙ sym (none_ran m row.calls.list x.calls);
          came = λ m memory reads. none ∙ (sym (none_ran m [] refl) ∙ ap (λ (s : State). s.actions.ran) (whole_none m row.calls.list x.calls));
          stands = λ i m memory agrees. stands i m memory agrees ∙ whole_none m row.calls.list x.calls;
          due = omega (arith, ap (length {A = Ran}) none, ap (length {A = Ran}) x.ran, ap count_undone x.restarts);
          stand = subst (AreAgain (length row.arena) 0 row.calls.list) (sym x.restarts) tt;
          revocable = λ m memory reads. subst (AtEach (StaysRevocable mid.depth on m) row.calls.list) (sym x.restarts) tt;
          few = omega (arith, ap (length {A = Again}) x.restarts);
          points_are = ap open_in (sym x.calls);
          blocks = λ i. subst (λ (bs : List Frame). HaveBegun rules mid.depth first on new (bounds_now on new) bs []) (sym (one i).1) refl;
        }

  -- ## By the engine's reply

  -- in a transaction that may be tried again
  pub begins_on : (new : Core) (at : ℕ) → row.began ≤ new.snapshot / 2 → Replies mid (Begin props room) r new → (agreed : (m : List ℕ) × IsMemory mid.words m × Agrees m new.log) → in_transaction new ≡ true
      → IsOpenTry rules mid.depth position b (record row { at = at }) [] (rules.answered p r) new
  begins_on new at began g agreed opens =
      let s = served agreed.0 (g.reply_is agreed.0 agreed.1 agreed.2) (sym (ap is_inside g.blocks) ∙ opens) in
      begins_as new at s.1 began (ap (λ (a : Actions). a.ran) g.actions) (λ i. g.arena agreed.0 agreed.1 agreed.2 ∙ ap (arena_after mid agreed.0 (Begin props room)) s.1)
      (λ i m memory agrees. g.meets m (subst (λ (n : ℕ). IsMemory n m) (ap (λ (c : Core). c.words) g.stays) memory) agrees ∙ leaves m s.0)
      (λ i. (begun props mid.writes mid.actions (length mid.log), g.blocks ∙ (ap (blocks_after mid (Begin props room)) s.1 ∙ ap (λ (bs : List Frame). begun props mid.writes mid.actions (length mid.log) ∷ bs) (none_inside mid.blocks x.outside))))

  -- or one that goes irrevocable: over each memory the plain machine is there where the attempt begins
  held_served : {new : Core} → Enters mid (Begin props room) r new → in_transaction new ≡ true → (refusal mid.depth (outside_of mid []) (Begin props room) ≡ None) × (r ≡ begin_code b.again)
  held_served g opens = served [] (g.reply_is []) (sym (inside_all (blocks_after mid (Begin props room) r)) ∙ (sym (ap in_transaction g.stays) ∙ opens))

  pub begin_leaves : {new : Core} → Enters mid (Begin props room) r new → in_transaction new ≡ true → (m : List ℕ) → after mid.depth (stands_for mid m) (Begin props room) ≡ whole_then mid.depth row m row.calls.list
  begin_leaves g opens m = leaves m (held_served g opens).0 ∙ whole_none m row.calls.list x.calls

  pub begins_held : (new : Core) (at : ℕ) → row.began ≤ new.snapshot / 2 → Enters mid (Begin props room) r new → in_transaction new ≡ true → IsOpenTry rules mid.depth position b (record row { at = at }) [] (rules.answered p r) new
  begins_held new at began g opens =
      let held : new.irrevocable ≡ true = ap (λ (c : Core). c.irrevocable) g.stays in
      begins_as new at (held_served g opens).1 began (ap (λ (c : Core). c.actions.ran) g.stays) (λ i. absurd (true≢false (sym held ∙ i))) (λ i. absurd (true≢false (sym held ∙ i))) (λ i. absurd (true≢false (sym held ∙ i)))

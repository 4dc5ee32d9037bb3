-- An open attempt stays the engine's over a step, as a call comes, and where it is told elsewhere or with other room.
use Rattle.std.proofs.Common.{◌≡◌, ℕ, ◌≤◌, Bool, true, false, true≢false, List, [], ◌∷◌, ◌++◌, length, Some, refl, sym, ap, subst, ◌∙◌, arith, append-nil}
use Rattle.run_rules.proofs.Common.{Actions, Agrees, AreRead, AsksFor, Attempt, Between, Bounds, Call, Core, Frame, HaveBegun, IsMemory, IsOpenTry, LogRow, ReadsFrom, Rules, Savepoint, Step, agrees_less, bounds_now, bounds_of, came, entered_by, handed_to, in_transaction, nothing, state_in}
use Rattle.norec_core.proofs.Engines.KeptFields.{came_restarted, handed_is, keeps_asked}
use Rattle.run_rules.proofs.BlocksAgain.{begun_still}
use Rattle.run_rules.proofs.BlocksStill.{KeepsAll, blocks_on, keeps_same}
use Rattle.run_rules.proofs.Tries.{block_with}

-- ## Its open blocks

told_elsewhere : {P : Type 0} (rules : Rules P) (deepest : ℕ) (by : P) (row : Attempt) (e : Core) (at room : ℕ) (most : Bounds) (bs : List Frame) (points : List Savepoint)
    → HaveBegun rules deepest by row e most bs points → HaveBegun rules deepest by (record row { at = at; calls = record row.calls { room = room } }) e most bs points
told_elsewhere rules deepest by row e at room most (b ∷ g ∷ outer) (s ∷ points) h = (
  begun_still rules deepest by row e e b (g ∷ outer) s at (record row.calls { room = room }) row.ran [] [] (sym (append-nil row.calls.list)) (sym (append-nil row.ran)) h.0 refl refl refl refl refl refl,
  h.1,
  told_elsewhere rules deepest by row e at room (bounds_of b s) (g ∷ outer) points h.2,
)
told_elsewhere rules deepest by row e at room most bs points h = h

-- ## The memory that it reads

-- one that it may have read is one that it may have read before
reads_before : (position : List ℕ) (was now : Bool) (log log' : List LogRow) (m : List ℕ) → now ≡ was → (now ≡ false → Agrees m log' → Agrees m log) → ReadsFrom now position log' m → ReadsFrom was position log m
reads_before position true true log log' m same less r = r
reads_before position false true log log' m same less r = absurd (true≢false same)
reads_before position true false log log' m same less r = absurd (true≢false (sym same))
reads_before position false false log log' m same less r = less refl r

module _ {P : Type 0} {rules : Rules P} {deepest : ℕ} {position : List ℕ} {b : Between P} {row : Attempt} {points : List Savepoint} {p : P} {mid : Core} (t : IsOpenTry rules deepest position b row points p mid) where
  -- told elsewhere, with other room for its calls and over other words of its position, it goes on in an engine with the same blocks and actions, whose log and words it may have read before
  stays_open : (at room : ℕ) (other : List ℕ) (new : Core) → new.words ≡ mid.words → new.actions ≡ mid.actions → new.irrevocable ≡ mid.irrevocable → new.writes ≡ mid.writes → new.blocks ≡ mid.blocks → (mid.irrevocable ≡ false → new.arena ≡ mid.arena) → new.restarted ≡ mid.restarted
      → mid.snapshot ≤ new.snapshot → (mid.irrevocable ≡ false → (m : List ℕ) → Agrees m new.log → Agrees m mid.log) → ((m : List ℕ) → ReadsFrom new.irrevocable other new.log m → ReadsFrom mid.irrevocable position mid.log m)
      → (mid.irrevocable ≡ false → HaveBegun rules deepest (entered_by rules deepest t.of_block) (record row { at = at; calls = record row.calls { room = room } }) new (bounds_now row new) new.blocks points)
      → IsOpenTry rules deepest other b (record row { at = at; calls = record row.calls { room = room } }) points p new
  stays_open at room other new words actions mode writes blocks arena restarted later less had begun =
      let was : (m : List ℕ) → IsMemory new.words m → IsMemory mid.words m = λ m k. subst (λ (n : ℕ). IsMemory n m) words k in
      record {
        of_block = block_with at room t.of_block;
        at = t.at;
        began = (let began = t.began in omega (arith, later));
        sized = λ i. ap (length {A = ℕ}) (arena (sym mode ∙ i)) ∙ t.sized (sym mode ∙ i);
        alone = λ m k r. t.alone m (was m k) (had m r);
        ran = λ m k r. t.ran m (was m k) (had m r);
        came = λ m k r. ap (λ (a : Actions). a.ran) actions ∙ t.came m (was m k) (had m r);
        stands = λ i m k a.
            (let same = arena (sym mode ∙ i) in
            (λ j. state_in (mode j) (writes j) (blocks j) (same j) (actions j) m) ∙ t.stands (sym mode ∙ i) m (was m k) (less (sym mode ∙ i) m a));
        due = ap (λ (a : Actions). length a.ran) actions ∙ t.due;
        stand = t.stand;
        revocable = λ m k r. t.revocable m (was m k) (had m r);
        few = (let few = t.few in omega (arith, restarted));
        points_are = t.points_are;
        blocks = λ i. begun (sym mode ∙ i);
      }

  -- no row of its log is gone
  pub moves_on : (new : Core) → new.words ≡ mid.words → new.actions ≡ mid.actions → new.irrevocable ≡ mid.irrevocable → new.writes ≡ mid.writes → new.blocks ≡ mid.blocks → (mid.irrevocable ≡ false → new.arena ≡ mid.arena) → new.restarted ≡ mid.restarted
      → mid.snapshot ≤ new.snapshot → (mid.irrevocable ≡ false → AreRead (length mid.log) mid.blocks) → (mid.irrevocable ≡ false → (rows : List LogRow) × (new.log ≡ mid.log ++ rows)) → IsOpenTry rules deepest position b row points p new
  moves_on new words actions mode writes blocks arena restarted later read log =
      let less : mid.irrevocable ≡ false → (m : List ℕ) → Agrees m new.log → Agrees m mid.log = λ i m a. (let l = log i in agrees_less m mid.log l.0 (subst (Agrees m) l.1 a)) in
      stays_open row.at row.calls.room position new words actions mode writes blocks arena restarted later less (λ m r. reads_before position mid.irrevocable new.irrevocable mid.log new.log m mode (λ i. less (sym mode ∙ i) m) r)
      (λ i.
      (let l = log i in
      subst (λ (bs : List Frame). HaveBegun rules deepest (entered_by rules deepest t.of_block) row new (bounds_now row new) bs points) (sym blocks)
      (subst (λ (a : Actions). HaveBegun rules deepest (entered_by rules deepest t.of_block) row new (bounds_now row (record mid { actions = a })) mid.blocks points) (sym actions)
      (blocks_on rules deepest (entered_by rules deepest t.of_block) row mid new row.at row.calls row.ran [] [] (sym (append-nil row.calls.list)) (sym (append-nil row.ran)) l.0 [] words l.1 (ap nothing (arena i)) (ap (λ (a : Actions). a.ran) actions ∙ sym (append-nil mid.actions.ran)) t.due
      (bounds_now row mid) (length mid.log) mid.blocks points (omega arith) (read i) (subst (KeepsAll mid.actions) (sym actions) (keeps_same mid.actions)) (t.blocks i)))))

  -- a step is asked for
  pub asks_on : {new : Core} (step : Step) → AsksFor mid step new → mid.snapshot ≤ new.snapshot → (mid.irrevocable ≡ false → AreRead (length mid.log) mid.blocks) → (mid.irrevocable ≡ false → (rows : List LogRow) × (new.log ≡ mid.log ++ rows))
      → IsOpenTry rules deepest position b row points p new
  asks_on {new} step g later read log = (let k = keeps_asked mid new step g in moves_on new k.words k.actions k.irrevocable k.writes k.blocks k.arena k.restarted later read log)

  -- its value is handed in
  pub handed_on : (step : Step) (seen : ℕ) → (mid.irrevocable ≡ false → AreRead (length mid.log) mid.blocks) → IsOpenTry rules deepest position b row points p (handed_to mid (Some step) seen)
  handed_on step seen read =
      let h = handed_is mid step seen in
      let k = h.keeps in
      moves_on (handed_to mid (Some step) seen) k.words k.actions k.irrevocable k.writes k.blocks k.arena k.restarted (omega (arith, h.snapshot)) read (λ i. ([], h.log ∙ sym (append-nil mid.log)))

  -- a call comes
  pub came_on : (call : Call) (again : Bool) → in_transaction mid ≡ true → (mid.irrevocable ≡ false → AreRead (length mid.log) mid.blocks) → IsOpenTry rules deepest position b row points p (came mid call again)
  came_on call again inside read = moves_on (came mid call again) refl refl refl refl refl (λ i. refl) (came_restarted mid call again inside) (omega arith) read (λ i. ([], sym (append-nil mid.log)))

  -- it is told elsewhere, with other room for its calls
  pub told_on : (at room : ℕ) → IsOpenTry rules deepest position b (record row { at = at; calls = record row.calls { room = room } }) points p mid
  told_on at room = stays_open at room position mid refl refl refl refl refl (λ i. refl) refl (omega arith) (λ i m a. a) (λ m r. r)
      (λ i. told_elsewhere rules deepest (entered_by rules deepest t.of_block) row mid at room (bounds_now row mid) mid.blocks points (t.blocks i))

  -- the words of its position matter to an irrevocable one alone
  pub positioned_on : (other : List ℕ) → (mid.irrevocable ≡ true → other ≡ position) → IsOpenTry rules deepest other b row points p mid
  positioned_on other same =
      let had : (m : List ℕ) → ReadsFrom mid.irrevocable other mid.log m → ReadsFrom mid.irrevocable position mid.log m = (elim mid.irrevocable as (λ (mode : Bool). mid.irrevocable ≡ mode → (m : List ℕ) → ReadsFrom mode other mid.log m → ReadsFrom mode position mid.log m) [ true ↦ λ i m r. r ∙ same i | false ↦ λ i m r. r ]) refl in
      stays_open row.at row.calls.room other mid refl refl refl refl refl (λ i. refl) refl (omega arith) (λ i m a. a) had t.blocks

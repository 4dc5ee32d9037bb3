-- Where the innermost block of an open attempt goes back to its begin, the attempt, cut to that begin with its record, is what the engine stands for then, and its player is where its calls lead.
use Rattle.std.proofs.Common.{◌≡◌, ℕ, ◌/◌, ◌<◌, ◌≤◌, false, List, [], ◌∷◌, ◌++◌, length, map, take, drop, reverse, refl, sym, ap, ◌∙◌, subst, arith, length-append, slice_get, Some}
use Rattle.run_rules.proofs.Common.{Again, Agrees, AreAlone, AreRead, AtEach, Attempt, Begin, Between, CallRecord, Code, Core, Frame, HasBegun, HasBlocks, IsInnerBegin, IsMemory, IsOpenTry, Phase, Ran, Rules, Savepoint, State, StaysRevocable, again_cut, again_of, alone_start, as_undo, at_each_before, at_each_both, back, before_no_more, begun_again, bounds_of, breaks_in, breaks_of, bytes_of, cut_to, due_at, earlier, entered_by, kept_of, length-drop, length-restored, length-take, nothing_same, opened, pushed, renewed, restored, stands_for, state_again, take-append-le, take-take, told_alone, told_state, told_then, undone_both, whole_then, with_again}
use Rattle.tx_attempts.proofs.KeptRecords.{before_short}
use Rattle.run_rules.proofs.BlocksAgain.{accepted, before_all, begun_cut, entered_so, goes_back, last_alone, taken}
use Rattle.run_rules.proofs.BlocksStill.{begun_logged, each_still}
use Rattle.run_rules.proofs.OpenBegins.{goes_back as player_back}
use Rattle.run_rules.proofs.OpenCalls.{open_cut}

get_last : (xs : List CallRecord) (x : CallRecord) (rest : List CallRecord) → slice_get (xs ++ x ∷ rest) (length xs) ≡ Some x
get_last [] x rest = refl
get_last (y ∷ ys) x rest = get_last ys x rest

module _ {P : Type 0} (rules : Rules P) (deepest : ℕ) (position next : List ℕ) (b : Between P) (row : Attempt) (s : Savepoint) (points : List Savepoint) (p : P) (c : Core) (f g : Frame) (outer : List Frame) (clock : ℕ) (stage : Phase) (tries : ℕ) where
  -- a transaction that may be tried again, with an inner block open
  abbrev e : Core
  e = record c { irrevocable = false; blocks = f ∷ g ∷ outer }

  -- as that block has gone back to its begin
  abbrev new : Core
  new = record (renewed e clock) { stage = stage; tries = tries }

  abbrev cut : Attempt
  cut = cut_to s new.arena new.actions.ran row

  abbrev again : Again
  again = again_of s row new.arena new.actions.ran

  abbrev own : List Ran
  own = map as_undo (reverse (drop f.undos c.actions.undos))

  module _ (t : IsOpenTry rules deepest position b row (s ∷ points) p e) (has : HasBlocks rules p) (read : AreRead (length c.log) (f ∷ g ∷ outer))
      (agreed : (m : List ℕ) × IsMemory c.words m × Agrees m new.log) (meets : (m : List ℕ) → IsMemory c.words m → Agrees m new.log → stands_for new m ≡ begun_again e.blocks (back (stands_for e m))) (later : c.snapshot / 2 < clock / 2) where
    abbrev by : P
    by = entered_by rules deepest t.of_block

    abbrev begun : HasBegun rules deepest by row e f (g ∷ outer) s
    begun = (t.blocks refl).0

    abbrev begin : CallRecord
    begin = record { call = Begin f.props begun.room; reply = Code 5 }

    -- ## What the engine keeps

    put_back_so : new.arena ≡ restored (kept_of c.arena f.log) c.arena
    put_back_so = ap (λ (x : State). x.arena) (meets agreed.0 agreed.1 agreed.2) ∙ ap (λ (x : State). x.arena) (entered_so (back (stands_for e agreed.0)) f.props begun.stays)

    same_size : length new.arena ≡ length c.arena
    same_size = ap (length {A = ℕ}) put_back_so ∙ length-restored (kept_of c.arena f.log) c.arena

    due_few : (q : Savepoint) → q.ran ≤ length row.ran → due_at q row.restarts ≤ length c.actions.ran
    due_few q few = (let told = t.due in let less = before_no_more q.kept row.restarts in omega arith)

    -- a block at its begin is known as it was, the one that goes back or one around it
    begun_then : (x : Frame) (around : List Frame) (q : Savepoint) (h : HasBegun rules deepest by row e x around q) → q.kept ≤ s.kept → q.ran ≤ s.ran → x.reads ≤ f.reads → x.commits ≤ f.commits → x.undos ≤ f.undos
        → (k : HasBegun rules deepest by cut new x around q) × (k.before ≡ h.before) × (k.room ≡ h.room)
    begun_then x around q h kept ran reads commits undos =
        begun_cut rules deepest by row e new x around q s new.arena new.actions.ran h kept ran refl (take-take x.reads f.reads c.log reads) (nothing_same new.arena c.arena same_size)
        (take-take x.commits f.commits c.actions.commits commits) (take-take x.undos f.undos c.actions.undos undos) (take-append-le (due_at q row.restarts) c.actions.ran own (due_few q (let few = begun.few in omega (arith, few, ran))))

    -- ## The calls that are left

    kept_calls : take s.kept row.calls.list ≡ begun.before ++ begin ∷ []
    kept_calls = (λ i. take (begun.kept i) (begun.calls i)) ∙ taken begun.before begin begun.rest

    here : (k : HasBegun rules deepest by cut new f (g ∷ outer) s) × (k.before ≡ begun.before) × (k.room ≡ begun.room)
    here = begun_then f (g ∷ outer) s begun (omega arith) (omega arith) (omega arith) (omega arith) (omega arith)

    here_calls : take s.kept row.calls.list ≡ here.0.before ++ record { call = Begin f.props here.0.room; reply = Code 5 } ∷ []
    here_calls =
        let before = sym here.1 in
        let room = sym here.2 in
        kept_calls ∙ (λ i. before i ++ record { call = Begin f.props (room i); reply = Code 5 } ∷ [])

    module _ (m : List ℕ) (memory : IsMemory c.words m) (agrees : Agrees m new.log) where
      still : Agrees m (take f.reads new.log)
      still = subst (Agrees m) (sym (take-take f.reads f.reads c.log (omega arith))) agrees

      -- as it is told, the begin opens its block from the record's arena
      told_begun : told_then deepest cut m (begun.before ++ begin ∷ []) ≡ record (pushed (told_then deepest row m begun.before) f.props) { arena = again.arena }
      told_begun =
          let last = last_alone rules deepest (breaks_of row.restarts) by (opened (bytes_of m) row.arena row.props) begun.before begin (told_alone rules deepest row.restarts by (bytes_of m) row.arena row.props (begun.before ++ begin ∷ []) (begun.alone m memory agrees)) in
          state_again again deepest row.restarts (opened (bytes_of m) row.arena row.props) begun.before begin (sym begun.kept)
          ∙ ap (λ (x : State). record x { arena = again.arena }) (accepted deepest (told_then deepest row m begun.before) f.props begun.room last.0 last.1 ∙ entered_so (told_then deepest row m begun.before) f.props begun.stays)

      told_free : (told_then deepest row m begun.before).irrevocable ≡ false
      told_free =
          let before = told_state rules deepest row.restarts by (bytes_of m) row.arena row.props begun.before (alone_start rules deepest (breaks_in row.restarts) by (opened (bytes_of m) row.arena row.props) begun.before (begin ∷ []) (begun.alone m memory agrees)) in
          ap (λ (x : State). x.irrevocable) before.1 ∙ sym (ap (λ (x : State). x.irrevocable) (begun.under m memory agrees))

      revocable_so : AtEach (StaysRevocable deepest cut m) cut.calls.list cut.restarts
      revocable_so =
          at_each_both (StaysRevocable deepest cut m) (take s.kept row.calls.list) (earlier s.kept row.restarts) again
          (subst (λ (xs : List CallRecord). AtEach (StaysRevocable deepest cut m) xs (earlier s.kept row.restarts)) (sym kept_calls)
          (subst (AtEach (StaysRevocable deepest cut m) (begun.before ++ begin ∷ [])) (before_all s.kept s.kept row.restarts (omega arith) again (omega arith))
          (at_each_before (StaysRevocable deepest cut m) s.kept begun.before (begin ∷ []) (with_again again row.restarts) (let k = begun.kept in omega arith) (subst (λ (xs : List CallRecord). AtEach (StaysRevocable deepest cut m) xs (earlier s.kept (with_again again row.restarts))) here.1 (here.0.revocable m memory still)))))
          (subst (StaysRevocable deepest cut m) (sym (take-take s.kept s.kept row.calls.list (omega arith) ∙ kept_calls)) (ap (λ (x : State). x.irrevocable) told_begun ∙ told_free))

      stands_so : stands_for new m ≡ whole_then deepest cut m cut.calls.list
      stands_so =
          goes_back rules deepest by row s c f g outer clock begun m memory agrees (meets m memory agrees) (sym put_back_so) begun.stays (due_few s begun.few)
          (nothing_same new.arena (whole_then deepest row m begun.before).arena (same_size ∙ (t.sized refl ∙ sym (begun.sized m memory agrees))))

    -- the engine's open attempt, gone back
    pub gone_back : IsOpenTry rules deepest next b cut (s ∷ points) (rules.at_block p (rules.depth p)) new
    gone_back =
        let player = player_back rules by row.calls.list p s.kept (map (λ (q : Savepoint). q.kept) points) has t.at in
        record {
          of_block = record { start = t.of_block.start; begins = t.of_block.begins; arena = t.of_block.arena; props = t.of_block.props; tries = t.of_block.tries; player = player.player };
          at = player;
          began = (let began = t.began in omega (arith, later, before_short s.kept row.restarts, length-append (earlier s.kept row.restarts) (again ∷ [])));
          sized = λ i. same_size ∙ t.sized refl;
          alone = λ m memory reads. subst (AreAlone rules deepest by cut m) (sym here_calls) (here.0.alone m memory (still m memory reads));
          ran = λ m memory agrees. begun.told m memory agrees ∙ (sym (ap (λ (x : State). x.actions.ran) (told_begun m memory agrees)) ∙ ap (λ (xs : List CallRecord). (told_then deepest cut m xs).actions.ran) (sym kept_calls));
          came = λ m memory agrees. ap (λ (x : State). x.actions.ran) (stands_so m memory agrees);
          stands = λ i m memory agrees. stands_so m memory agrees;
          due = (let few = begun.few in let due = due_few s few in
              omega (arith, length-append c.actions.ran own, length-take s.ran row.ran, undone_both (earlier s.kept row.restarts) (again ∷ []), length-drop (due_at s row.restarts) new.actions.ran));
          stand = again_cut again (length row.arena) 0 row.calls.list row.restarts (let k = begun.kept in omega arith)
              (record { place = length begun.before; kept = begun.kept; begins = subst IsInnerBegin (sym (ap (λ (xs : List CallRecord). slice_get xs (length begun.before)) kept_calls ∙ get_last begun.before begin [])) (refl, refl); arena = same_size ∙ t.sized refl }) t.stand;
          revocable = revocable_so;
          few = (let few = t.few in omega (arith, before_short s.kept row.restarts, length-append (earlier s.kept row.restarts) (again ∷ [])));
          points_are = sym (open_cut row.calls.list s.kept (map (λ (q : Savepoint). q.kept) points) (sym t.points_are));
          blocks = λ i. (
            begun_logged rules deepest by cut new f (g ∷ outer) s [] here.0,
            record {
              calls = omega (arith, length-take s.kept row.calls.list, begun.kept, ap (length {A = CallRecord}) begun.calls, length-append begun.before (begin ∷ begun.rest));
              told = (let few = begun.few in omega (arith, length-take s.ran row.ran));
              commits = (let l = (t.blocks refl).1.commits in omega (arith, length-take f.commits c.actions.commits));
              undos = (let l = (t.blocks refl).1.undos in omega (arith, length-take f.undos c.actions.undos));
            },
            each_still rules deepest by row cut e new (bounds_of f s) f.reads (λ x around q h kept ran reads commits undos. (begun_then x around q h kept ran reads commits undos).0)
                (bounds_of f s) f.reads (g ∷ outer) points (omega arith) (omega arith) (omega arith) (omega arith) (omega arith) read.1 (t.blocks refl).2,
          );
        }

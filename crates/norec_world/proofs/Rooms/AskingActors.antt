-- A call goes to the engine of an actor, or memory is refused to it.
pub use Rattle.run_rules.proofs.Tries.{no_begin}
use Rattle.event_rules.proofs.Common.{Actor, Answer, AsksOf, Attempt, BacksIn, BeganIn, Begin, Begins, Call, Cells, Core, Current, HasPlace, HasRow, IsAsked, IsKept, IsPromised, IsSound, KeepsOthers, Kept, MAX_ACTORS, MayRunOn, NestsAs, NestsBy, NestsReady, Next, Props, Ready, Rows, Rules, Savepoint, Stage, Status, Step, Within, active_of, asked_at, begins_again, begun, came, cancels_in, cases_Bool, count_in, ends_in, in_transaction, irrevocable_room, is_begin, none-some, open_in, opened_by, others_same, outside, promised, reserved, reserved_least, row_is_of, row_open, row_same, row_shut, row_unfinished, same_Some, stage_of, stage_out, told_in, total, wanted_came, with_room, within}
use Rattle.run_rules.proofs.StepCalls.{wants_none, places_for}
use Rattle.tx_runs.proofs.OpenRooms.{again_none, begins_none, outside_current, reserved_most}
use Rattle.std.proofs.Common.{◌≡◌, inl, inr, ℕ, zero, suc, ◌+◌, ◌/◌, ◌<◌, ◌≤◌, max, length, not, Bool, true, false, true≢false, List, [], append-nil, Result, Ok, Err, IfOk, OnErr, Option, None, Some, is_some, unwrap_or, refl, sym, ap, subst, ◌∙◌, arith, if◌then◌else◌}
use Rattle.norec_core.{specs.Moves.IsCalled, specs.RestartingCalls.arena_ahead, proofs.Engines.RestartingCalls.ahead_of_it}
use Rattle.tx_runs.specs.OpenAttempts.{HasPlacesFor, LacksPlaces, Open}
use Rattle.tx_runs.specs.Savepoints.{AreSavepoints}
use Rattle.tx_runs.specs.Tallies.{begins}
use Rattle.world_rules.{specs.LocalWork.HasUsedUp, specs.ActionRoom.IsRefused, specs.Sound.IsUnasked}
use Rattle.run_rules.proofs.IrrevocableCalls.{asks_no_room}
use Rattle.norec_world.proofs.Common.{ComesInto, next_in}
use Rattle.norec_world.specs.Calls.{WasRefused}
use Rattle.event_rules.{proofs.Engines.SoundSteps.rests, proofs.Rooms.ActionRoom.gave_acting}
use Rattle.norec_world.proofs.Rooms.EngineCalls.{called_acting, used_of_call, used_of_room}
use Rattle.run_rules.proofs.CallRooms.{backed_came, promised_came}
use Rattle.run_rules.proofs.HeldRooms.{came_room, held_as}

pub not_within : (c : Current) → ((o : Open) → c ≡ Within o → ⊥) → open_in (stage_of c) ≡ None
not_within (Within o) not = absurd (not o refl)
not_within c not = refl

-- what held of an engine holds where the call did not come to it
pub on_err_still : {E : Type 0} (old new : Core) (call : Call) (again : Bool) (answer : Answer) (Q : Core → Type 0) (result : Result (Option Step) E) → ComesInto old call again result answer new → Q old → OnErr result (Q new)
on_err_still old new call again answer Q (Ok step) comes q = tt
on_err_still old new call again answer Q (Err e) comes q = subst Q (sym comes.err) q

-- with a place for the block that the call begins, and for those of as many calls as it asks for
nests_for : (call : Call) (points room room' deep ahead : ℕ) → points + room ≤ deep → room' ≤ max room (ahead + 1) → (is_begin call ≡ true → points < deep) → (0 < ahead → points + ahead < deep) → points + room' + opened_by call ≤ deep + 1
nests_for call points room room' deep ahead fits few one_more more = elim (cases_Bool (is_begin call)) [
  | inl is ↦ (let one : opened_by call ≡ 1 = ap (λ (b : Bool). if b then 1 else 0) is in let place = one_more is in by_ahead ahead few more one place)
  | inr other ↦ (let none : opened_by call ≡ 0 = ap (λ (b : Bool). if b then 1 else 0) other in by_none ahead few more none)
]
  where
    by_ahead : (n : ℕ) → room' ≤ max room (n + 1) → (0 < n → points + n < deep) → opened_by call ≡ 1 → points < deep → points + room' + opened_by call ≤ deep + 1
    by_ahead zero few more one place = omega arith
    by_ahead (suc n) few more one place = (let m = more (omega arith) in omega arith)

    by_none : (n : ℕ) → room' ≤ max room (n + 1) → (0 < n → points + n < deep) → opened_by call ≡ 0 → points + room' + opened_by call ≤ deep + 1
    by_none zero few more none = omega arith
    by_none (suc n) few more none = (let m = more (omega arith) in omega arith)

-- ## Within an attempt

module _ {P : Type 0} {rules : Rules P} {cells : Cells} {r : Rows} {a : Actor P} (sound : IsSound rules cells r a) (ready : a.status ≡ Ready) (o o' : Open) (is : a.run.current ≡ Within o) (ends : o.ends ≤ o'.ends) (cancels : o.cancels ≤ o'.cancels) (deep : o.deep ≤ o'.deep) (points : o'.points ≡ o.points) where
  abbrev New : Core → Actor P
  New e = record a { run = record a.run { current = Within o' }; engine = e }

  here : active_of a ≡ Some o.row
  here = ap (λ (c : Current). open_in (stage_of c)) is

  inside : in_transaction a.engine ≡ true
  inside = row_open (in_transaction a.engine) a o.row sound.kept.row here

  -- each of its calls has a place for the block that it begins
  here_nests : length o.points + o.row.calls.room ≤ o.deep
  here_nests = subst NestsReady is (subst (λ (s : Status). NestsAs s a.run.current) ready sound.acts.nests)

  -- what it promises
  pub kept_room : o.row.calls.room ≤ max (promised a.engine) 1
  kept_room = (let few = subst (IsPromised a) ready sound.acts.backed o.row here in omega arith)

  pub asked_room : (call : Call) → a.engine.irrevocable ≡ true → (reserved o.row.calls (unwrap_or (irrevocable_room a.engine call) 0 + 1)).room ≤ max (promised a.engine) 1
  asked_room call h =
      let few = subst (IsPromised a) ready sound.acts.backed o.row here in
      let most = reserved_most o.row.calls (unwrap_or (irrevocable_room a.engine call) 0) (promised a.engine) few in
      let none = ap (λ (x : Option ℕ). unwrap_or x 0) (asks_no_room a.engine call h) in
      omega arith

  same_ends : o.ends ≡ ends_in a.run.current
  same_ends = ap ends_in (sym is)

  same_cancels : o.cancels ≡ cancels_in a.run.current
  same_cancels = ap cancels_in (sym is)

  -- its attempt has other places for its calls
  module _ (k : Kept) (list : k.list ≡ o.row.calls.list) (row : o'.row ≡ record o.row { calls = k }) where
    pub unasked_within : IsUnasked rules a (New a.engine)
    unasked_within = record {
      actor = refl;
      stage = (k.room, (λ i. within ((row ∙ (λ j. record o.row { calls = record { list = list j; room = k.room } })) i) (points i)) ∙ ap (with_room k.room) (ap stage_of (sym is)));
    }

    has_row : (e : Core) → HasRow true (New e)
    has_row e = (o'.row, refl, ap (λ (x : Attempt). x.outcome) row ∙ row_unfinished _ a o.row sound.kept.row here, ap (λ (x : Attempt). x.thread) row ∙ row_is_of _ a o.row sound.kept.row here)

    pub kept_within : (e : Core) → IsKept (in_transaction a.engine) (New e)
    kept_within e = record { row = subst (λ (b : Bool). HasRow b (New e)) (sym inside) (has_row e); tried = sound.kept.tried; tries = sound.kept.tries; retries = sound.kept.retries }

    all_within : (x : Attempt) → Some o'.row ≡ Some x → told_in x ≡ length a.engine.actions.ran
    all_within x e = ap told_in (sym (same_Some _ _ e) ∙ row) ∙ sound.acts.all o.row here

    few_within : (x : Attempt) → Some o'.row ≡ Some x → length x.restarts ≤ a.engine.restarted
    few_within x e = (let f = sound.acts.few o.row here in let n = ap (λ (y : Attempt). length y.restarts) (sym (same_Some _ _ e) ∙ row) in omega arith)

    began_within : BeganIn (within o'.row o'.points)
    began_within =
        let had : BeganIn (within o.row o.points) = subst (λ (c : Current). BeganIn (stage_of c)) is sound.acts.began in
        let made : BeganIn (within (record o.row { calls = k }) o.points) = (subst (AreSavepoints o.points) (sym list) had.0, had.1) in
        subst (λ (x : Attempt). BeganIn (within x o'.points)) (sym row) (subst (λ (l : List Savepoint). BeganIn (within (record o.row { calls = k }) l)) (sym points) made)

    pub refused_within : (a.engine.irrevocable ≡ true → k.room ≤ max (promised a.engine) 1) → IsRefused (New a.engine)
    refused_within few = record {
      all = all_within;
      few = few_within;
      places = λ x e. (let p = sound.acts.places o.row here in let s = same_ends in omega arith);
      nothing = refl;
      room = λ held some. (let both = sound.acts.room held some in let s = same_ends in let t = same_cancels in ((let x = both.0 in omega arith), (let x = both.1 in omega arith)));
      backed = λ x e h. (let f = few h in let n = ap (λ (y : Attempt). y.calls.room) (sym (same_Some _ _ e) ∙ row) in omega arith);
      began = began_within;
    }

  pub used_within : (call : Call) → LacksPlaces call (total a.engine.actions) (unwrap_or (irrevocable_room a.engine call) 0) (arena_ahead a.engine call) o → HasUsedUp a
  used_within call = used_of_room a call o is inside sound.acts.room here_nests (subst (IsPromised a) ready sound.acts.backed o.row here)

  -- so it is where memory is refused to the call itself
  pub used_asking : (call : Call) (e : Core) {E : Type 0} (answer : Answer) (result : Result (Option Step) E) → ComesInto a.engine call false result answer e → OnErr result (HasUsedUp a)
  used_asking call e answer (Ok what) comes = tt
  used_asking call e answer (Err x) comes = used_of_call a call (subst (IsPromised a) ready sound.acts.backed) comes.starves

  pub others_within : (e : Core) → KeepsOthers a r (New e) r
  others_within e = (let one = ap (λ (c : Current). count_in (stage_of c)) is in others_same a (New e) r r refl (omega arith) refl (omega arith))

  -- there is room for the call, which goes to the engine
  module _ (call : Call) (row : o'.row ≡ record o.row { calls = reserved o.row.calls (unwrap_or (irrevocable_room a.engine call) 0 + 1) }) (asks : rules.next_call a.run.player ≡ Some call) where
    abbrev Ahead : ℕ
    Ahead = unwrap_or (irrevocable_room a.engine call) 0

    place_within : HasPlace (came a.engine call false) o'.row
    place_within =
        let backed = subst (IsPromised a) ready sound.acts.backed o.row here in
        let least = reserved_least o.row.calls Ahead in
        let most = reserved_most o.row.calls Ahead (promised a.engine) backed in
        let n = ap (λ (x : Attempt). x.calls.room) row in
        let w = wanted_came a.engine call false in
        let p = promised_came a.engine call false in
        record { least = omega arith; most = omega arith }

    nests_within : HasPlacesFor call (total a.engine.actions) Ahead (arena_ahead a.engine call) o' → NestsBy call (Within o')
    nests_within places =
        let room = ap (λ (x : Attempt). x.calls.room) row in
        let most = reserved_most o.row.calls Ahead o.row.calls.room (omega arith) in
        let long = ap (length {A = Savepoint}) points in
        nests_for call (length o'.points) o.row.calls.room o'.row.calls.room o'.deep Ahead (omega (arith, here_nests)) (omega arith) places.begins places.ahead_begins

    pub acts_within : (e : Core) {E : Type 0} (answer : Answer) (result : Result (Option Step) E) → HasPlacesFor call (total a.engine.actions) Ahead (arena_ahead a.engine call) o' → ComesInto a.engine call false result answer e → IfOk result (λ what. MayRunOn (New e) call (next_in what answer))
    acts_within e answer result places comes =
        let s = same_ends in
        let t = same_cancels in
        called_acting answer (New e) a.engine call false true inside (has_row (reserved o.row.calls (Ahead + 1)) refl row e)
        (all_within (reserved o.row.calls (Ahead + 1)) refl row) (few_within (reserved o.row.calls (Ahead + 1)) refl row) (nests_within places) (began_within (reserved o.row.calls (Ahead + 1)) refl row)
        (λ can. places.again (length a.engine.arena) (ahead_of_it a.engine call can))
        (λ x f. places_for call (total a.engine.actions) o.ends o'.ends (let p = sound.acts.places o.row here in omega arith) ends places.ends)
        (λ x f. places.cancels) (λ x f. absurd (cc))
        (came_room a.engine call false (ends_in a.run.current) (cancels_in a.run.current) o'.ends o'.cancels (λ held. sound.acts.room (held_as a.engine held)) (omega arith) (omega arith)
        (λ some. (let n = ap (λ (b : Bool). if b then total a.engine.actions else 0) inside in ((let x = places.ahead_ends some in omega arith), (let x = places.ahead_cancels some in omega arith)))))
        (λ x f. subst (HasPlace (came a.engine call false)) (same_Some _ _ f) place_within) (λ x f. absurd (cc)) (backed_came a.engine call false) (λ shut. absurd (true≢false (sym inside ∙ shut))) result comes

    pub asked_within : (e : Core) {E : Type 0} (answer : Answer) (result : Result (Option Step) E) → IfOk result (λ what. IsAsked rules a (New e) call (next_in what answer))
    asked_within e answer (Err x) = tt
    asked_within e answer (Ok what) = record {
      status = refl;
      kept = kept_within (reserved o.row.calls (Ahead + 1)) refl row e;
      in_call = record { asks = asks; begins = λ shut. absurd (true≢false (sym inside ∙ shut)); inside = λ x. refl; opens = λ x f. absurd (cc); props = λ x props room f. absurd (cc) };
    }

    pub told_within : (clock : ℕ) (e : Core) {E : Type 0} (answer : Answer) (result : Result (Option Step) E) → ComesInto a.engine call false result answer e → IfOk result (λ what. AsksOf clock r r a (New e) call (next_in what answer))
    told_within clock e answer (Err x) comes = tt
    told_within clock e answer (Ok what) comes = record {
      stage = (λ i. within (row i) (points i)) ∙ ap (asked_at clock a call) (ap stage_of (sym is));
      run = refl;
      ended = refl;
      called = subst (λ (b : Bool). IsCalled a.engine call b (next_in what answer) e) (ap (λ (c : Current). begins_again (stage_of c) a.run.again call) (sym is)) comes;
    }

-- ## Outside a transaction

module _ {P : Type 0} {rules : Rules P} {cells : Cells} {r : Rows} {a : Actor P} (sound : IsSound rules cells r a) (ready : a.status ≡ Ready) (none : active_of a ≡ None) where
  pub shut_outside : in_transaction a.engine ≡ false
  shut_outside = row_shut (in_transaction a.engine) a sound.kept.row none

  pub out_outside : stage_of a.run.current ≡ outside
  out_outside = stage_out _ none (rests sound ready).nothing

  -- memory was refused
  pub unasked_outside : IsUnasked rules a a
  unasked_outside = record { actor = refl; stage = (0, out_outside ∙ ap (with_room 0) (sym out_outside)) }

  pub used_outside : HasUsedUp a
  used_outside h row e = absurd (none-some row (sym none ∙ e))

  pub refused_outside : IsRefused a
  refused_outside = record {
    all = λ x e. absurd (none-some x (sym none ∙ e));
    few = λ x e. absurd (none-some x (sym none ∙ e));
    places = λ x e. absurd (none-some x (sym none ∙ e));
    nothing = (rests sound ready).nothing;
    room = sound.acts.room;
    backed = λ x e h. absurd (none-some x (sym none ∙ e));
    began = sound.acts.began;
  }

  pub begin_refused : (call : Call) → is_begin call ≡ true → WasRefused rules a a call
  begin_refused call is = record { unasked = unasked_outside; refused = refused_outside; grows = λ x. is; used = used_outside }

  module _ (call : Call) (asks : rules.next_call a.run.player ≡ Some call) (e : Core) where
    abbrev Same : Actor P
    Same = record a { engine = e }

    kept_outside : IsKept (in_transaction a.engine) Same
    kept_outside = record { row = row_same (in_transaction a.engine) a Same refl refl sound.kept.row; tried = sound.kept.tried; tries = sound.kept.tries; retries = sound.kept.retries }

    -- a call that begins nothing
    module _ (other : is_begin call ≡ false) where
      pub asked_outside : {E : Type 0} (answer : Answer) (result : Result (Option Step) E) → IfOk result (λ what. IsAsked rules a Same call (next_in what answer))
      asked_outside answer (Err x) = tt
      asked_outside answer (Ok what) = record {
        status = refl;
        kept = kept_outside;
        in_call = record {
          asks = asks;
          begins = λ x. ap (is_some {T = Attempt}) (rests sound ready).nothing ∙ sym other;
          inside = λ x. (rests sound ready).nothing;
          opens = λ x f. absurd (none-some x (sym (rests sound ready).nothing ∙ f));
          props = λ x props room f. absurd (none-some x (sym (rests sound ready).nothing ∙ f));
        };
      }

      pub told_outside : (clock : ℕ) (r' : Rows) → r'.ended ≡ r.ended → {E : Type 0} (answer : Answer) (result : Result (Option Step) E) → ComesInto a.engine call false result answer e → IfOk result (λ what. AsksOf clock r r' a Same call (next_in what answer))
      told_outside clock r' ended answer (Err x) comes = tt
      told_outside clock r' ended answer (Ok what) comes = record {
        stage = out_outside ∙ (sym (begins_none call _ _ other) ∙ ap (asked_at clock a call) (sym out_outside));
        run = refl;
        ended = ended;
        called = subst (λ (b : Bool). IsCalled a.engine call b (next_in what answer) e) (sym (again_none (stage_of a.run.current) a.run.again call other)) comes;
      }

      pub acts_outside : {E : Type 0} (answer : Answer) (result : Result (Option Step) E) → ComesInto a.engine call false result answer e → IfOk result (λ what. MayRunOn Same call (next_in what answer))
      acts_outside answer result comes =
          called_acting answer Same a.engine call false (in_transaction a.engine) refl (row_same (in_transaction a.engine) a Same refl refl sound.kept.row)
          (λ x f. absurd (none-some x (sym none ∙ f))) (λ x f. absurd (none-some x (sym none ∙ f))) (subst (NestsBy call) (sym (outside_current a.run.current out_outside)) tt)
          sound.acts.began (λ can. subst (BacksIn (length a.engine.arena) (total a.engine.actions)) (sym (outside_current a.run.current out_outside)) tt)
          (λ x f. absurd (none-some x (sym none ∙ f))) (λ x f. absurd (none-some x (sym none ∙ f))) (λ x f. absurd (none-some x (sym (rests sound ready).nothing ∙ f)))
          (came_room a.engine call false (ends_in a.run.current) (cancels_in a.run.current) (ends_in a.run.current) (cancels_in a.run.current) (λ held. sound.acts.room (held_as a.engine held)) (omega arith) (omega arith) (λ some. absurd (let wants = wants_none a.engine call other shut_outside in omega arith)))
          (λ x f. absurd (none-some x (sym none ∙ f))) (λ x f. absurd (none-some x (sym (rests sound ready).nothing ∙ f))) (backed_came a.engine call false) (λ over. (let s = sound.tied.settled.closed shut_outside in (s.2, s.3))) result comes

  -- a begin, whose attempt has the room that it asks for
  module _ (props : Props) (room : ℕ) (asks : rules.next_call a.run.player ≡ Some (Begin props room)) (e : Core) (o : Open) (clock : ℕ)
      (row : o.row ≡ begun a.run.thread a.run.nth (clock / 2) props a.engine.arena (unwrap_or (irrevocable_room a.engine (Begin props room)) 0))
      (ends : unwrap_or (irrevocable_room a.engine (Begin props room)) 0 ≤ o.ends) (cancels : unwrap_or (irrevocable_room a.engine (Begin props room)) 0 ≤ o.cancels) (deep : unwrap_or (irrevocable_room a.engine (Begin props room)) 0 ≤ o.deep) where
    abbrev Begun : Actor P
    Begun = record a { run = record a.run { current = Begins o }; engine = e }

    pub asked_begin : (what : Next) → IsAsked rules a Begun (Begin props room) what
    asked_begin what = record {
      status = refl;
      kept = record { row = subst (λ (b : Bool). HasRow b Begun) (sym shut_outside) refl; tried = sound.kept.tried; tries = sound.kept.tries; retries = sound.kept.retries };
      in_call = record {
        asks = asks;
        begins = λ x. refl;
        inside = λ x. absurd (true≢false (sym x ∙ shut_outside));
        opens = λ x f. (let same = sym (same_Some _ _ f) ∙ row in record { thread = ap (λ (y : Attempt). y.thread) same; nth = ap (λ (y : Attempt). y.nth) same; outcome = ap (λ (y : Attempt). y.outcome) same });
        props = λ x others k f is. ap (λ (y : Attempt). y.props) (sym (same_Some _ _ f) ∙ row) ∙ (let p : props ≡ others = cc in p);
      };
    }

    pub told_begin : (r' : Rows) → r'.ended ≡ r.ended → (what : Next) → IsCalled a.engine (Begin props room) a.run.again what e → AsksOf clock r r' a Begun (Begin props room) what
    told_begin r' ended what comes = record {
      stage = ap begins row ∙ ap (asked_at clock a (Begin props room)) (sym out_outside);
      run = refl;
      ended = ended;
      called = subst (λ (b : Bool). IsCalled a.engine (Begin props room) b what e) (ap (λ (s : Stage). begins_again s a.run.again (Begin props room)) (sym out_outside)) comes;
    }

    pub acts_begin : (what : Next) → IsCalled a.engine (Begin props room) a.run.again what e → MayRunOn Begun (Begin props room) what
    acts_begin what comes =
        let same = ap (λ (b : Bool). if b then total a.engine.actions else 0) shut_outside in
        gave_acting Begun (came a.engine (Begin props room) a.run.again) (Begin props room) false shut_outside refl refl (λ x f. absurd (cc)) (λ x f. absurd (cc)) (let n = ap (λ (y : Attempt). y.calls.room) row in omega arith) tt (λ x f. absurd (cc)) (λ x f abort. absurd (cc))
        (λ x f. (let same = sym (same_Some _ _ f) ∙ row in (ap (λ (y : Attempt). y.ran) same, ap (λ (y : Attempt). y.restarts) same, ap (λ (y : Attempt). y.calls.list) same)))
        (came_room a.engine (Begin props room) a.run.again (ends_in a.run.current) (cancels_in a.run.current) o.ends o.cancels (λ held. sound.acts.room (held_as a.engine held)) (let none_ends = ap ends_in (outside_current a.run.current out_outside) in omega arith) (let none_cancels = ap cancels_in (outside_current a.run.current out_outside) in omega arith) (λ some. (omega arith, omega arith)))
        (λ x f. absurd (cc)) (λ x f. ap (λ (y : Attempt). y.calls.room) (sym (same_Some _ _ f) ∙ row) ∙ sym (wanted_came a.engine (Begin props room) a.run.again))
        (backed_came a.engine (Begin props room) a.run.again) comes.settled what comes.proceeds (λ takes may. tt) (λ over. (let s = sound.tied.settled.closed shut_outside in (s.2, s.3))) (λ step is. (refl, refl))

pub others_begun : {P : Type 0} (a : Actor P) (r r' : Rows) (o : Open) (e : Core) → stage_of a.run.current ≡ outside → r'.ended ≡ r.ended → r.room ≤ r'.room → MAX_ACTORS ≤ r'.room → KeepsOthers a r (record a { run = record a.run { current = Begins o }; engine = e }) r'
others_begun a r r' o e out ended more enough = record { thread = refl; more = []; ended = ended ∙ sym (append-nil r.ended); mine = tt; room = λ k few l. omega arith }

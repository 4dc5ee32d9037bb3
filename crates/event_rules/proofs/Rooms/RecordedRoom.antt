-- Once an answer is recorded there is room for what comes, and for what is left.
use Rattle.std.proofs.Common.{inl, inr, if◌then◌else◌, suc, ℕ, ◌≡◌, ◌+◌, ◌<◌, ◌≤◌, Bool, true, false, [], ◌∷◌, List, drop, length, Option, None, Some, refl, sym, ap, subst, ◌∙◌, arith}
use Rattle.event_rules.proofs.Common.{Actor, Answer, AsksAs, Attempt, BeganIn, Begins, Call, Core, Current, End, Ended, HasPoints, HasRow, IsActing, IsAnswered, IsPromised, IsRestart, KeepsPlaces, MayRun, MayTakeIn, NestsAs, NestsBy, NestsReady, NoCancel, OpensBy, Outside, Ran, Ready, Records, RenewsAs, Replied, Reply, Restarted, Rows, Rules, Savepoint, Stage, Stand, Status, Waits, Within, active_of, again_of, begun_in, begun_shut, cancels_in, count_undone, counted, cut_back, cut_told, earlier, ends_in, in_transaction, is_held, length-append, none-some, none_begun, open_by, open_calls, open_in, opened_by, opens_most, outside, pending_of, points_in, promised, same_Some, stage_of, stage_open, stage_out, stand_of, status_after, told_in, told_on, total, within}
use Rattle.tx_attempts.{proofs.KeptRecords.before_short, specs.declared.attempt.Again.Again}
use Rattle.tx_runs.specs.Tallies.{begins as begins_at}
use Rattle.event_rules.{proofs.Rooms.ActionRoom.none_acting, proofs.Rooms.RestartRoom.began_after, proofs.Rooms.RestartRoom.began_back}

-- ## Places that are kept

kept_places : (ran : List Ran) (c c' : Current) (row' : Attempt) → KeepsPlaces ran c c' → open_in (stage_of c') ≡ Some row' → (ends_in c' ≡ ends_in c) × (((row : Attempt) → open_in (stage_of c) ≡ Some row → told_in row ≡ length ran) → cancels_in c' ≡ cancels_in c)
kept_places ran (Within o) (Within o') row' k e = (k.0, λ all. k.1 (all o.row refl))
kept_places ran (Begins o) (Within o') row' k e = (k.0, λ all. k.1)
kept_places ran Outside (Within o') row' k e = absurd k
kept_places ran c c' row' k e = absurd (cc)

-- how many calls the attempt has places for, and how many inner blocks are open
abbrev room_in : Stage → ℕ
room_in outside = 0
room_in (begins_at row) = row.calls.room
room_in (within row points) = row.calls.room

abbrev long_in : Stage → ℕ
long_in s = length (points_in s)

-- there is a place for where the blocks of the calls to come begin
nests_now : (ran : List Ran) (call : Call) (reply : Replied) (s : Stand) (c c' : Current) (row' : Attempt) (points : List Savepoint) → KeepsPlaces ran c c' → NestsBy call c → ((row : Attempt) → open_in (stage_of c) ≡ Some row → 0 < row.calls.room)
    → stage_of c' ≡ within row' points → OpensBy (stage_of c) call (Reply reply) s row' points → NestsReady c'
nests_now ran call reply s (Within o) (Within o') row' points k nests place is (inl y) =
    let room = ap room_in is ∙ ap (λ (x : Attempt). x.calls.room) y.3 in
    let long = ap long_in is ∙ ap (length {A = Savepoint}) y.4 in
    let most = opens_most (record { kept = suc (length y.0.calls.list); ran = length y.0.ran }) y.1 (record { call = call; reply = reply }) in
    omega (arith, place o.row refl, k.2, ap room_in y.2, ap long_in y.2)
nests_now ran call reply s (Within o) (Within o') row' points k nests place is (inr y) = absurd (let e = y.1 in cc)
nests_now ran call reply s (Begins o) (Within o') row' points k nests place is (inl y) = absurd (let e = y.2 in cc)
nests_now ran call reply s (Begins o) (Within o') row' points k nests place is (inr y) =
    let room = ap room_in is ∙ ap (λ (x : Attempt). x.calls.room) y.2 in
    let long = ap long_in is ∙ ap (length {A = Savepoint}) y.3 in
    omega (arith, k.2, ap room_in y.1)
nests_now ran call reply s Outside (Within o') row' points k nests place is x = absurd k
nests_now ran call reply s c Outside row' points k nests place is x = tt
nests_now ran call reply s c (Begins o') row' points k nests place is x = tt

-- also where the innermost one goes back
nests_back : (ran : List Ran) (call : Call) (old row' : Attempt) (points : List Savepoint) (c c' : Current) → KeepsPlaces ran c c' → NestsBy call c → 0 < old.calls.room → row'.calls.room ≡ 0 → stage_of c ≡ within old points → stage_of c' ≡ within row' points → NestsReady c'
nests_back ran call old row' points (Within o) (Within o') k nests some none is now =
    omega (arith, k.2, ap room_in is, ap long_in is, ap room_in now, ap long_in now)
nests_back ran call old row' points c Outside k nests some none is now = tt
nests_back ran call old row' points c (Begins o') k nests some none is now = tt
nests_back ran call old row' points c c' k nests some none is now = absurd (cc)

-- none is wanted where no block is open
nests_out : (s : Status) (c : Current) → stage_of c ≡ outside → NestsAs s c
nests_out Ready Outside e = tt
nests_out (Waits call step) Outside e = tt
nests_out (Ended end) c e = tt
nests_out s c e = absurd (cc)

-- there is room for what comes of the answer, where no block goes back by it
pub may_take : {P : Type 0} (a : Actor P) (call : Call) (answer : Answer) (is_open : Bool) (at : ℕ) (arena : List ℕ) → MayRun a call answer → (IsRestart answer → ⊥) → is_open ≡ in_transaction a.engine → (c : Current) → a.run.current ≡ c
    → MayTakeIn call (record { is_open = is_open; at = at; ran = a.engine.actions.ran; arena = arena }) c
may_take a call answer is_open at arena m never now Outside is = tt
may_take a call answer is_open at arena m never now (Begins o) is = tt
may_take a call answer is_open at arena m never now (Within o) is =
    let here = ap (λ (c : Current). open_in (stage_of c)) is in
    let nests : NestsBy call (Within o) = subst (NestsBy call) is m.nests in
    let entry = m.place o.row here in
    record {
      entry = entry;
      begins = λ begins. (let one : opened_by call ≡ 1 = ap (λ (b : Bool). if b then 1 else 0) begins in omega arith);
      told = m.first o.row here;
      ends = (let p = m.places o.row here in let same = ap ends_in is in omega arith);
      cancels = λ still less. (let p = m.cancel_places never (sym now ∙ still) o.row here less in let same = ap cancels_in is in omega arith);
    }

-- no call is in progress then
no_call : {P : Type 0} (a : Actor P) (end : Option End) (s : Status) → s ≡ status_after end → NoCancel s × AsksAs a s × RenewsAs a s
no_call a None s e = (subst NoCancel (sym e) tt, subst (AsksAs a) (sym e) tt, subst (RenewsAs a) (sym e) tt)
no_call a (Some end) s e = (subst NoCancel (sym e) tt, subst (AsksAs a) (sym e) tt, subst (RenewsAs a) (sym e) tt)

-- a block that goes back is within another one
pub back_within : {P : Type 0} {rules : Rules P} {was : Bool} {before : ℕ} {a : Actor P} {call : Call} (answer : Answer) → IsAnswered rules was before a call answer → IsRestart answer → (1 < rules.depth a.run.player) × (pending_of a ≡ None)
back_within (Restarted clock word) d is = (d.fits.3, d.in_call.inside d.fits.0)
back_within answer d is = absurd is

module _ {P : Type 0} (rules : Rules P) (r r' : Rows) (a last : Actor P) (call : Call) {answer : Answer} (m : MayRun a call answer) (engine : last.engine ≡ a.engine) (k : KeepsPlaces a.engine.actions.ran a.run.current last.run.current) where
  open_now : {b : Bool} → in_transaction a.engine ≡ b → in_transaction last.engine ≡ b
  open_now e = ap in_transaction engine ∙ e

  -- no transaction is open any more
  shut_acting : Records rules r r' a last call answer → HasRow (in_transaction last.engine) last → in_transaction a.engine ≡ false → pending_of last ≡ None → IsActing last
  shut_acting t row closed nothing =
      let out = stage_out _ (subst (λ (b : Bool). HasRow b last) (open_now closed) row) nothing in
      let idle = no_call last _ last.status t.takes.status in
      none_acting last (subst (λ (b : Bool). HasRow b last) (open_now closed) row) (λ x e. absurd (none-some x (sym nothing ∙ e))) idle.0 (ap is_held engine ∙ m.over closed) idle.1
      (nests_out last.status last.run.current out) (subst BeganIn (sym out) tt) idle.2

  -- its open attempt is this one
  open_acting : Records rules r r' a last call answer → in_transaction a.engine ≡ true → (row : Attempt) → active_of last ≡ Some row → told_in row ≡ length last.engine.actions.ran → total last.engine.actions ≤ ends_in last.run.current → row.calls.room ≤ promised a.engine
      → length row.restarts ≤ last.engine.restarted → NestsReady last.run.current → BeganIn (stage_of last.run.current) → pending_of last ≡ None → last.status ≡ Ready → IsActing last
  open_acting t o row here told places promises few nests began nothing ready =
      let kept = kept_places a.engine.actions.ran a.run.current last.run.current row k here in
      let idle = no_call last _ last.status t.takes.status in
      record {
        all = λ x e. subst (λ (y : Attempt). told_in y ≡ length last.engine.actions.ran) (same_Some _ _ (sym here ∙ e)) told;
        few = λ x e. subst (λ (y : Attempt). length y.restarts ≤ last.engine.restarted) (same_Some _ _ (sym here ∙ e)) few;
        places = λ x e. places;
        pending = λ x e. absurd (none-some x (sym nothing ∙ e));
        status = idle.0;
        room = λ held some.
            (let held_then : is_held a.engine ≡ true = ap is_held (sym engine) ∙ held in
            let both = m.room held_then (subst (λ (c : Core). 0 < c.room) engine some) in
            let cancels = kept.1 (m.still held_then) in
            let ends = kept.0 in
            let same : counted last.engine + last.engine.room ≡ counted a.engine + a.engine.room = ap (λ (c : Core). counted c + c.room) engine in
            ((let x = both.0 in omega arith), (let x = both.1 in omega arith)));
        backed = subst (IsPromised last) (sym ready) (λ x e. (let n = ap (λ (y : Attempt). y.calls.room) (same_Some _ _ (sym here ∙ e)) in let p = ap promised engine in omega arith));
        asks = idle.1;
        nests = subst (λ (s : Status). NestsAs s last.run.current) (sym ready) nests;
        began = began;
        renews = idle.2;
      }

  pub recorded_acting : (was : Bool) (before : ℕ) → IsAnswered rules was before a call answer → Records rules r r' a last call answer → HasRow (in_transaction last.engine) last → IsActing last
  recorded_acting was before d t has = by_open (in_transaction a.engine) refl
    where
      nothing : pending_of last ≡ None
      nothing = none_begun t (λ is. (back_within answer d is).1)

      due : List Ran
      due = last.engine.actions.ran

      same_due : a.engine.actions.ran ≡ due
      same_due = ap (λ (c : Core). c.actions.ran) (sym engine)

      -- its innermost block has gone back
      back_acting : in_transaction a.engine ≡ true → (row old : Attempt) (points : List Savepoint) → IsRestart answer → last.status ≡ Ready → stage_of a.run.current ≡ within old points → stage_of last.run.current ≡ within row points
          → row ≡ cut_back points last.engine.arena due old → IsActing last
      back_acting o row old [] is ready was_at now_at cut =
          absurd (let deep : rules.depth a.run.player ≡ 1 = subst (HasPoints (rules.depth a.run.player)) was_at d.points in let some = (back_within answer d is).0 in omega arith)
      back_acting o row old (s ∷ outer) is ready was_at now_at cut =
          let here = ap open_in was_at in
          let began = subst BeganIn was_at m.began in
          let first = m.first old here in
          let told : told_in old ≤ length due = subst (λ (l : List Ran). told_in old ≤ length l) same_due first in
          let none = ap (λ (x : Attempt). x.calls.room) cut in
          let places = m.places old here in
          let total_same = ap (λ (c : Core). total c.actions) engine in
          let ends = (kept_places a.engine.actions.ran a.run.current last.run.current row k (ap open_in now_at)).0 in
          open_acting t o row (ap open_in now_at) (ap told_in cut ∙ cut_told s old last.engine.arena due began.1.0 told) (omega arith) (omega arith)
          (let less = m.fewer is old here in let n = ap (λ (c : Core). c.restarted) engine in omega (arith, ap (λ (x : Attempt). length x.restarts) cut, length-append (earlier s.kept old.restarts) (again_of s old last.engine.arena due ∷ []), before_short s.kept old.restarts))
          (nests_back a.engine.actions.ran call old row (s ∷ outer) a.run.current last.run.current k m.nests (m.place old here) none was_at now_at)
          (subst BeganIn (sym now_at) (subst (λ (x : Attempt). BeganIn (within x (s ∷ outer))) (sym cut) (began_back s outer last.engine.arena due old began)))
          nothing ready

      by_open : (b : Bool) → in_transaction a.engine ≡ b → IsActing last
      by_open false o = shut_acting t has o nothing
      by_open true o =
          let now = subst (λ (b : Bool). HasRow b last) (open_now o) has in
          let points = points_in (stage_of last.run.current) in
          let here_now = stage_open _ now.1 in
          let x = open_by t now.0 now.1 in
          let total_same = ap (λ (c : Core). total c.actions) engine in
          let ends = (kept_places a.engine.actions.ran a.run.current last.run.current now.0 k now.1).0 in
          elim x.2 [
            | inl reply ↦
                (let is = reply.1 in
                let no : IsRestart answer → ⊥ = λ back. subst IsRestart is back in
                let nests = nests_now a.engine.actions.ran call reply.0 (stand_of last.engine) a.run.current last.run.current now.0 points k m.nests m.place here_now reply.2 in
                elim reply.2 [
                  | inl y ↦
                      (let here = ap open_in y.2 in
                      let places = m.places y.0 here in
                      let adds = m.adds no o y.0 here in
                      let room = ap (λ (z : Attempt). z.calls.room) y.3 in
                      let told : told_in y.0 ≤ length due = subst (λ (l : List Ran). told_in y.0 ≤ length l) same_due (m.first y.0 here) in
                      let few = m.few y.0 here in
                      let same = ap (λ (z : Attempt). length z.restarts) y.3 in
                      let n = ap (λ (c : Core). c.restarted) engine in
                      let longer : length y.0.ran ≤ length now.0.ran = omega (arith, ap (λ (z : Attempt). length z.ran) y.3, length-append y.0.ran (drop (told_in y.0) due)) in
                      open_acting t o now.0 now.1 (ap told_in y.3 ∙ told_on y.0 due told) (omega arith) (omega arith) (omega arith) nests
                      (subst BeganIn (sym here_now) (subst (λ (l : List Savepoint). BeganIn (within now.0 l)) (sym y.4) (began_after y.0 now.0 y.1 (record { call = call; reply = reply.0 }) (ap (λ (z : Attempt). z.calls.list) y.3) longer (subst BeganIn y.2 m.began))))
                      nothing x.1)
                  | inr y ↦
                      (let pend = ap begun_in y.1 in
                      let none = m.anew o (begun_shut _ pend) in
                      let empty = m.pending y.0 pend in
                      let opens = m.opens o y.0 pend in
                      let room = ap (λ (z : Attempt). z.calls.room) y.2 in
                      let none_told = ap told_in y.2 in
                      let none_ran = ap (length {A = Ran}) empty.0 in
                      let none_undone = ap count_undone empty.1 in
                      let none_again = ap (length {A = Again}) empty.1 in
                      let same = ap (λ (z : Attempt). length z.restarts) y.2 in
                      let n = ap (length {A = Ran}) same_due in
                      open_acting t o now.0 now.1 (omega arith) (omega arith) (omega arith) (omega arith) nests
                      (subst BeganIn (sym here_now) (subst (λ (l : List Savepoint). BeganIn (within now.0 l)) (sym y.3) (ap open_calls (sym (ap (λ (z : Attempt). z.calls.list) y.2 ∙ empty.2)), tt))) nothing x.1)
                ])
            | inr y ↦ back_acting o now.0 y.1 points y.0 x.1 y.2 here_now y.3
          ]

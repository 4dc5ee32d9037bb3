-- A worker between its player's next call and what comes of it.
use Rattle.std.proofs.Common.{◌≡◌, ℕ, Bool, refl, sym, ap, subst, ◌∙◌, inl, inr, Some, unwrap_or}
use Rattle.worker_rules.proofs.Common.{Answer, Attempt, Begins, Bounds, Call, Course, Current, HasPlaces, IsAnswered, IsAsked, IsHungry, IsPrepared, IsReadyFor, IsRoomier, IsThreadStarved, IsUnprepared, IsWorking, LacksFor, MayStarve, Outside, Props, Rules, Standing, Tally, Within, Words, Worker, again_for, begins, begins_again, begun, commits_known, irrevocable_room, stage_at, stage_of, start_of, starves_shut, view_of}
use Rattle.tx_runs.specs.declared.player_run.PlayerRun.{PlayerRun}
use Rattle.worker_rules.proofs.Laws.Places.{none_within, open_within}
use Rattle.worker_rules.proofs.Laws.Rooms.{again_prepared, never_begins, outside_shut}

-- only the attempt at hand and the room for ended ones have changed
abbrev pub OnlyRoom : {P : Type 0} → Worker P → Worker P → Type 0
OnlyRoom old new = new ≡ record old { run = record old.run { current = new.run.current }; ended = new.ended }

-- there was no memory to make room
pub hungry : {P : Type 0} {rules : Rules P} {words : Words} {c : Course P} {b : Bounds} {old new : Worker P} {call : Call} → IsWorking rules words c b old → rules.next_call old.run.player ≡ Some call → OnlyRoom old new → IsUnprepared old call new → LacksFor old.thread.engine call old.run.current → IsHungry rules words c b old call new
hungry {P} works asks same unprepared lacks = record {
  works = works;
  asks = asks;
  thread = ap (λ (w : Worker P). w.thread) same;
  run = ap (λ (w : Worker P). w.run) same;
  unprepared = unprepared;
  short = inl lacks;
}

-- the attempt at hand is that which was open
roomier : (call : Call) (row : Props → Attempt) (ahead : ℕ) (x y : Current) → ((r : Attempt) → stage_of x ≡ begins r → ⊥) → stage_of y ≡ stage_at (stage_of x) call row ahead → IsRoomier x y
roomier call row ahead (Begins o) y never is = absurd (never o.row refl)
roomier call row ahead Outside Outside never is = tt
roomier call row ahead Outside (Begins o') never is = tt
roomier call row ahead Outside (Within o') never is = absurd (none_within call row ahead o'.row o'.points is)
roomier call row ahead (Within o) y never is =
    let w = open_within y _ _ is in
    subst (IsRoomier (Within o)) (sym w.1) (w.2 ∙ ap (λ (n : ℕ). record o.row { calls = record o.row.calls { room = n } }) (sym (ap (λ (x : Attempt). x.calls.room) w.2)), w.3)

module _ {P : Type 0} {rules : Rules P} {words : Words} {c : Course P} {b : Bounds} {old mid : Worker P} {call : Call} (works : IsWorking rules words c b old) (asks : rules.next_call old.run.player ≡ Some call) (same : OnlyRoom old mid) (prepared : IsPrepared words rules old call mid) where
  abbrev opens : Props → Attempt
  opens props = begun old.run.thread old.run.nth (commits_known (view_of old.thread.pass)) props old.thread.engine.arena (unwrap_or (irrevocable_room old.thread.engine call) 0)

  stage_is : stage_of mid.run.current ≡ stage_at (stage_of old.run.current) call opens (unwrap_or (irrevocable_room old.thread.engine call) 0)
  stage_is = ap (λ (t : Tally P). t.stage) prepared.came

  -- memory was refused to the call itself
  pub hungry_still : (new : Worker P) (again : Bool) → new ≡ record mid { thread = new.thread } → IsThreadStarved words mid.thread call new.thread → IsHungry rules words c b old call new
  hungry_still new again is starved =
      let thread : new.thread ≡ old.thread = starved.err ∙ ap (λ (w : Worker P). w.thread) same in
      let run : new.run ≡ mid.run = ap (λ (w : Worker P). w.run) is in
      let ended = ap (λ (w : Worker P). w.ended) is in
      record {
        works = works;
        asks = asks;
        thread = thread;
        run = subst (λ (r : PlayerRun P). r ≡ record old.run { current = r.current }) (sym run) (ap (λ (w : Worker P). w.run) same);
        unprepared = record {
          roomier = subst (λ (r : PlayerRun P). IsRoomier old.run.current r.current) (sym run) (roomier call opens (unwrap_or (irrevocable_room old.thread.engine call) 0) old.run.current mid.run.current (never_begins old works.running) stage_is);
          roomy = subst (λ (x : Worker P). HasPlaces old.thread.engine x.ended x.run.current) (sym is) (places mid.run.current prepared.ready);
          ended = ap (λ (w : Worker P). w.ended.items) is ∙ prepared.ended;
          begins = λ none. starves_shut old.thread.engine call works.same.stands.settled (outside_shut old works.running none) starves;
        };
        short = inr starves;
      }
    where
      starves : MayStarve old.thread.engine call
      starves = subst (λ (t : Standing). MayStarve t.engine call) (ap (λ (w : Worker P). w.thread) same) starved.starves

      places : (x : Current) → IsReadyFor old.thread.engine call (unwrap_or (irrevocable_room old.thread.engine call) 0) mid.ended x → HasPlaces old.thread.engine mid.ended x
      places Outside r = tt
      places (Begins o) r = tt
      places (Within o) r = (r.0, r.1)

  -- it was answered
  pub answered : (new : Worker P) (answer : Answer) → new ≡ record mid { thread = new.thread } → IsAnswered words (start_of mid.thread call (again_for mid.run.current mid.run.again call)) answer new.thread.pass new.thread.engine → IsAsked rules words c b old call answer new
  answered new answer is a =
      let run : new.run ≡ mid.run = ap (λ (w : Worker P). w.run) is in
      let again : again_for mid.run.current mid.run.again call ≡ begins_again (stage_of old.run.current) old.run.again call =
      ap (λ (w : Worker P). again_for mid.run.current w.run.again call) same ∙ again_prepared (stage_of old.run.current) mid.run.current old.run.again call opens (unwrap_or (irrevocable_room old.thread.engine call) 0) (never_begins old works.running) stage_is in
      record {
        works = works;
        asks = asks;
        prepared = subst (IsPrepared words rules old call) (sym is) (record { came = prepared.came; ready = prepared.ready; blocks = prepared.blocks; actions = prepared.actions; thread = prepared.thread; retries = prepared.retries; ended = prepared.ended });
        answered = subst (λ (x : Standing × Bool). IsAnswered words (start_of x.0 call x.1) answer new.thread.pass new.thread.engine) (λ i. ((same i).thread, again i)) a;
      }

use Rattle.std.proofs.Common.{rules, ◌≡◌, ◌≢◌, ◌+◌, ◌<◌, ◌≤◌, ℕ, zero, suc, Some, [], ◌∷◌, ◌++◌, inl, inr, slice_get, drop, List, length, length-append, ap, sym, subst, refl, ◌∙◌, arith}
use Rattle.norec_world.proofs.{Actor, AreActors, HasStarted, IsFirst, MAX_ACTORS, RunsFrom, actors_joined, append-nil, bytes_of, ending_in, fed_joined, first_engine, first_of, joined_place, laid_first, other_runs, rows_in, same_Some, slice_index_or}
use Rattle.norec_world.proofs.start.start_all.Goals as goal

-- the next one of a list
drop_head : {A : Type 0} (xs : List A) (k : ℕ) (x : A) (ys : List A) → drop k xs ≡ x ∷ ys → (slice_get xs k ≡ Some x) × (drop (suc k) xs ≡ ys)
drop_head [] zero x ys e = absurd (cc)
drop_head [] (suc k) x ys e = absurd (cc)
drop_head (y ∷ xs) zero x ys e = ((let same : y ≡ x = cc in ap (λ (z : _). Some z) same), (let same : xs ≡ ys = cc in same))
drop_head (y ∷ xs) (suc k) x ys e = drop_head xs k x ys e

pub loop-player-preserved : goal.loop-player-preserved
loop-player-preserved g c =
    let i = c.loop-player.invariant in
    let steps = c.in-Some.ensures.steps.0 in
    let before : List (Actor g.row.P.Denot) = c.loop-player.actors.items in
    let actor : Actor g.row.P.Denot = c.in_ok-actor.actor in
    let all : length c.loop-player.player-iterator.rest.items ≡ suc (length c.next.new.self.rest.items) = ap length steps in
    let items : c.push.new.self.items ≡ before ++ actor ∷ [] = c.in_ok-push.ensures.items in
    let longer : length c.push.new.self.items ≡ length before + 1 = ap length items ∙ length-append before (actor ∷ []) in
    let count = i.count in
    let fewer : length before < MAX_ACTORS = omega (arith, i.few) in
    let numbered = c.in_ok-actor.ensures.starts.thread in
    let thread : actor.run.thread ≡ length before = omega (arith, c.len-thread.ensures) in
    let o = c.in_ok-actor.ensures.others in
    let here = drop_head c.into_iter-player-iterator.result.rest.items (length before) c.in-Some.player c.next.new.self.rest.items (sym i.rest ∙ steps) in
    let placed = λ (place : ℕ) (a : Actor g.row.P.Denot) (e : slice_get c.push.new.self.items place ≡ Some a). joined_place before actor place a (ap (λ (xs : List (Actor g.row.P.Denot)). slice_get xs place) (sym items) ∙ e) in
    let same_player : (place : ℕ) (p : g.row.P.Denot) → length before ≡ place → slice_get c.into_iter-player-iterator.result.rest.items place ≡ Some p → c.in-Some.player ≡ p =
    λ place p last e. same_Some _ _ (sym here.0 ∙ (ap (slice_get c.into_iter-player-iterator.result.rest.items) last ∙ e)) in
    let other = λ (place : ℕ) (a : Actor g.row.P.Denot) (apart : length before ≢ place) (e : slice_get before place ≡ Some a) (same : a.run.thread ≡ actor.run.thread). apart (sym thread ∙ (sym same ∙ (i.sound.each place a e).thread)) in
    let ended : c.start.new.ended.items ≡ c.loop-player.ended.items = c.in_ok-actor.ensures.ended in
    record {
      count = omega arith;
      few = i.few;
      outside = λ k d l. subst (λ (xs : List g.row.P.Denot). g.P.Player.depth (slice_index_or xs (suc k) d) ≡ 0) steps (i.outside (suc k) d (omega arith));
      sound = subst (AreActors g.P.Player c.args.memory.now (rows_in c.start.new.ended)) (sym items)
          (actors_joined g.P.Player c.args.memory.now (rows_in c.loop-player.ended) (rows_in c.start.new.ended) before i.sound actor c.in_ok-actor.ensures.sound c.in_ok-actor.ensures.starts.done thread fewer o c.in_ok-actor.ensures.free);
      ended = ended ∙ i.ended;
      tries = λ place a e. elim (placed place a e) [
        | inl h ↦ subst (IsFirst c.args.memory.now.clock c.args.terms.limits) (sym h.1) c.in_ok-actor.ensures.first
        | inr h ↦ i.tries place a h.1
      ];
      rest = sym here.1 ∙ ap (λ (k : ℕ). drop k c.into_iter-player-iterator.result.rest.items) (let e : suc (length before) ≡ length c.push.new.self.items = omega arith in e);
      runs = λ place p a e f. elim (placed place a f) [
        | inl h ↦
            subst (λ (x : Actor g.row.P.Denot). RunsFrom g.P.Player (first_of p c.args.terms.arena) c.args.terms.limits.depth (bytes_of c.args.memory.now.words) c.args.memory.now (rows_in c.start.new.ended) x) (sym h.1)
            (subst (λ (q : g.row.P.Denot). RunsFrom g.P.Player (first_of q c.args.terms.arena) c.args.terms.limits.depth (bytes_of c.args.memory.now.words) c.args.memory.now (rows_in c.start.new.ended) actor) (same_player place p h.0 e)
            (c.in_ok-actor.ensures.runs i.ended))
        | inr h ↦
            other_runs g.P.Player g.met.P.Player.laws (first_of p c.args.terms.arena) c.args.terms.limits.depth (bytes_of c.args.memory.now.words) c.args.memory.now c.args.memory.now
            (rows_in c.loop-player.ended) (rows_in c.start.new.ended) actor.run.thread a (laid_first c.args.terms.limits.depth (bytes_of c.args.memory.now.words) c.args.memory.now (rows_in c.loop-player.ended) refl c.requires.fresh.fit c.requires.fresh.clock i.ended) (i.sound.each place a h.1).sound.tied [] (ended ∙ sym (append-nil c.loop-player.ended.items)) tt
            (other place a h.0 h.1) (let z : c.args.memory.now.clock ≤ c.args.memory.now.clock = omega arith in z) (λ x. refl) (i.runs place p a e h.1)
      ];
      starts = λ place p a e f. elim (placed place a f) [
        | inl h ↦
            (let Started : ℕ → g.row.P.Denot → Actor g.row.P.Denot → Type 0 =
            HasStarted g.P.Player c.args.memory.now.clock
            (first_engine (length c.args.memory.now.words) c.args.terms.arena c.args.terms.limits) c.args.terms.limits.retries in
            subst (Started place p) (sym h.1) (subst (λ (q : g.row.P.Denot). Started place q actor) (same_player place p h.0 e)
            (subst (λ (n : ℕ). Started n c.in-Some.player actor) (sym numbered ∙ (thread ∙ h.0)) c.in_ok-actor.ensures.starts)))
        | inr h ↦ i.starts place p a e h.1
      ];
      fed = λ place e. fed_joined before actor i.fed c.in_ok-actor.ensures.fed place (ap (λ (xs : List (Actor g.row.P.Denot)). ending_in xs place) (sym items) ∙ e);
    }

pub returns : goal.returns
returns g c =
    let i = c.loop-player.invariant in
    let same : c.into_iter-player-iterator.result.rest.items ≡ c.args.players.items = search rules in
    let player_at = λ (place : ℕ) (p : g.row.P.Denot) (e : slice_get c.args.players.items place ≡ Some p). ap (λ (xs : List g.row.P.Denot). slice_get xs place) same ∙ e in
    record {
      count = search rules;
      sound = i.sound;
      first = i.tries;
      starts = λ place p a e. i.starts place p a (player_at place p e);
      runs = λ place p a e. i.runs place p a (player_at place p e);
      none = i.ended;
      none_open = λ place a e. (i.tries place a e).between.none;
      fed = i.fed;
    }

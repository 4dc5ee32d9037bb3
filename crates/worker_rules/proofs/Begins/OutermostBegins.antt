-- An outermost begin.
use Rattle.std.proofs.Common.{inl, inr, ◌≡◌, ℕ, ◌+◌, ◌/◌, ◌<◌, ◌≤◌, ◌&&◌, not, Bool, true, false, true≢false, List, [], length, Option, None, Some, refl, sym, ap, subst, ◌∙◌, arith}
use Rattle.worker_rules.proofs.Common.{Account, Agrees, Answer, Attempt, Begin, Busy, Call, Committed, Conflict, Core, Course, Full, IsMemory, IsOpenTry, IsOutside, IsRunning, IsTry, IsUndone, Meets, Obeys, Props, Replied, Reply, Rules, Served, Stands, Start, State, View, Ways, Went, after, after_unless, alone_outside, before_led, before_same, begin_entered, begin_here, begins_at, begun, bytes_of, came_over, commits_known, in_transaction, is_inside, is_open, left_over, memory_in, memory_of, mine_after, none_inside, opened, refusal, reply, reply_cases, rests, shut_revocable, stands_for, state_in, state_over, undone, within}
use Rattle.shared_words.specs.Views.{held_words}
use Rattle.run_rules.proofs.TriesBegin.{IsToOpen, begins_held, begins_on}
use Rattle.worker_rules.proofs.Machines.LastEvents.{IsLast}
use Rattle.worker_rules.proofs.Runs.LaterRuns.{later, runs_inside, stays_closed}
use Rattle.worker_rules.proofs.Begins.OutsideCalls.{nested_outside}
use Rattle.std.proofs.Math.Bool.{and-true}
use Rattle.worker_rules.proofs.Machines.PlainStates.{stands_arena}
use Rattle.worker_rules.proofs.Shapes.{RanTo, RunsTo, tried}
use Rattle.itm_types.specs.declared.call.Refusal.{Refusal}

-- ## A served begin

-- it commits nothing
pub no_commit : (s : Start) (v : View) (e : Core) → in_transaction s.engine ≡ false → (at : ℕ) (wrote : Bool) → Served s (Committed at wrote) v e → ⊥
no_commit s v e outside at wrote served = true≢false (sym served.tells.was_open ∙ outside)

-- one that is full has seen as many commits as may be
pub full_begin : (s : Start) (v : View) (e : Core) (at : ℕ) → Served s (Full at) v e → s.engine.max_commits ≤ length v.seen
full_begin s v e at served = omega (arith, served.tells.full, served.tells.closes.seen)

module _ (s : Start) (v : View) (e : Core) (before : Stands s.view s.engine) (outside : in_transaction s.engine ≡ false) where
  revocable : s.engine.irrevocable ≡ false
  revocable = shut_revocable s.engine before.settled outside

  stands_outside : (m : List ℕ) → stands_for s.engine m ≡ state_over [] [] s.engine.arena s.engine.actions m
  stands_outside m = λ i. state_in (revocable i) ((before.settled.closed outside).1 i) (none_inside s.engine.blocks outside i) s.engine.arena s.engine.actions m

  -- an accepted one leaves this block open, over each memory that its reply speaks of
  module _ (props : Props) (room : ℕ) (is : s.call ≡ Begin props room) (r : Replied) (served : Served s (Reply r) v e) (last : IsLast s v (Reply r) e) (now : in_transaction e ≡ true) where
    accepted_so : refusal s.engine.depth (alone_outside [] s.engine.arena) (Begin props room) ≡ None
    accepted_so =
        let k = last.is_mid.kept in
        subst (λ (x : ℕ × List ℕ). refusal x.0 (alone_outside [] x.1) (Begin props room) ≡ None) (λ i. (k.depth i, k.arena revocable i))
        (begin_entered last.mid e props room r (k.doing ∙ ap (λ (x : Call). Some x) is) last.is_mid.settled last.ends (ap is_inside k.blocks ∙ outside) (k.irrevocable ∙ revocable) now).0

    leaves : {m left : List ℕ} → Meets s r e m left → stands_for e left ≡ opened (bytes_of m) s.engine.arena props
    leaves {m} meets =
        meets.state
        ∙ ((λ i. after s.engine.depth (stands_outside m i) (is i))
        ∙ ap (λ (o : Option Refusal). after_unless o (state_over [] [] s.engine.arena s.engine.actions m) (opened (bytes_of m) s.engine.arena props)) accepted_so)

    -- where it goes irrevocable, over the words that are held
    begins_over : e.irrevocable ≡ true → stands_for e (held_words v) ≡ opened (bytes_of (memory_of v (e.snapshot / 2))) s.engine.arena props
    begins_over irrevocable =
        let there : came_over s v e ≡ memory_of v (e.snapshot / 2) = ap (λ (b : Bool). memory_in b s.view v (e.snapshot / 2)) revocable in
        let here : left_over v e ≡ held_words v = ap (λ (b : Bool). memory_in b v v (e.snapshot / 2)) irrevocable in
        sym (ap (stands_for e) here) ∙ (leaves served.tells.here ∙ ap (λ (x : List ℕ). opened (bytes_of x) s.engine.arena props) there)

  -- one that came to nothing leaves the arena as it was
  nothing_left : IsUndone s e → e.arena ≡ s.engine.arena
  nothing_left undone_so =
      let some = before.settled.agreed in
      sym (stands_arena e some.0) ∙ ap (λ (x : State). x.arena) (undone_so some.0 some.1 ∙ ap undone (stands_outside some.0))

-- ## The run goes on

module _ {P : Type 0} {rules : Rules P} (laws : Obeys rules) (c : Course P) (s : Start) (t : Account P) (v : View) (e : Core)
    (running : IsRunning rules c s.view s.engine t) (before : Stands s.view s.engine) (stands : Stands v e) (asks : rules.next_call t.player ≡ Some s.call) (outside : in_transaction s.engine ≡ false) where
  abbrev was : IsOutside rules c s.view s.engine t
  was = running.outside outside

  -- where no try is left, or as many commits are done as may be: the run as it is
  pub begin_over : {a : Answer} → Served s a v e → mine_after s.view.mine a ≡ s.view.mine → RanTo rules c v t.ended
  begin_over served same = (later running served.went (served.mine ∙ same)).0

  -- ## It came to nothing, and is tried again

  tries_again : Went s.view v → v.mine ≡ s.view.mine → in_transaction e ≡ false → s.view.looks < v.looks → IsUndone s e → RunsTo rules c v e (tried t t.player t.ended)
  tries_again went mine shut looks undone_so =
      stays_closed running went mine outside shut t.player (t.nth + 1) (before_same was.before refl (nothing_left s v e before outside undone_so) refl (omega arith)) (let old = was.looked in omega arith)

  pub lost : (clock : ℕ) (word : Option ℕ) → Served s (Conflict clock word) v e → RunsTo rules c v e (tried t t.player t.ended)
  lost clock word served = tries_again served.went served.mine served.tells.closes.closed served.tells.looks served.tells.undone

  pub busy : (clock : ℕ) → Served s (Busy clock) v e → RunsTo rules c v e (tried t t.player t.ended)
  busy clock served = tries_again served.went served.mine served.tells.closes.closed served.tells.looks served.tells.undone

  -- ## It is accepted

  module _ (props : Props) (room : ℕ) (is : s.call ≡ Begin props room) (again : s.again ≡ t.again) (r : Replied) (served : Served s (Reply r) v e) (now : in_transaction e ≡ true) where
    -- the attempt, with room for so many calls
    abbrev row : ℕ → Attempt
    row ahead = record (begun c.number t.nth (commits_known s.view) props s.engine.arena ahead) { at = e.snapshot / 2 }

    -- as the engine comes to its answer
    module _ (last : IsLast s v (Reply r) e) (ahead : ℕ) where
      abbrev mid : Core
      mid = last.mid

      abbrev next : List ℕ
      next = memory_of v (e.snapshot / 2)

      depth_mid : mid.depth ≡ c.depth
      depth_mid = last.is_mid.kept.depth ∙ running.deepest

      revocable_mid : mid.irrevocable ≡ false
      revocable_mid = last.is_mid.kept.irrevocable ∙ shut_revocable s.engine before.settled outside

      arena_mid : mid.arena ≡ s.engine.arena
      arena_mid = last.is_mid.kept.arena (shut_revocable s.engine before.settled outside)

      accepted : refusal c.depth (alone_outside [] s.engine.arena) (Begin props room) ≡ None
      accepted = subst (λ (deepest : ℕ). refusal deepest (alone_outside [] s.engine.arena) (Begin props room) ≡ None) running.deepest (accepted_so s v e before outside props room is r served last now)

      comes : begins_at rules c.depth was.between ≡ Some (record { player = t.player; arena = s.engine.arena; props = props })
      comes =
          before_led rules laws c.depth was.before
          ∙ begin_here rules laws c.depth t.player s.engine.arena props room (asks ∙ ap (λ (x : Call). Some x) is) accepted

      to_open : IsToOpen rules was.between (begun c.number t.nth (commits_known s.view) props s.engine.arena ahead) t.player last.mid props room
      to_open = record {
        comes = subst (λ (x : ℕ × List ℕ). begins_at rules x.0 was.between ≡ Some (record { player = t.player; arena = x.1; props = props })) (λ i. (sym depth_mid i, sym arena_mid i)) comes;
        asks = asks ∙ ap (λ (x : Call). Some x) is;
        none_open = (nested_outside running outside).deep;
        arena = sym arena_mid;
        props = refl;
        calls = refl;
        ran = refl;
        restarts = refl;
        tries = was.before.tries;
        outside = ap is_inside last.is_mid.kept.blocks ∙ outside;
        empty = last.is_mid.kept.writes ∙ (before.settled.closed outside).1;
        again = last.is_mid.kept.again ∙ ((λ i. s.again && not (outside i)) ∙ (and-true s.again ∙ (again ∙ was.before.again)));
        revocable = revocable_mid;
      }

      began : commits_known s.view ≤ e.snapshot / 2
      began = (let known = before.over.known in let seen = (served.opens outside now).seen in omega arith)

      agreed_mid : (m : List ℕ) × IsMemory mid.words m × Agrees m e.log
      agreed_mid = (let some = stands.settled.agreed in (some.0, subst (λ (n : ℕ). IsMemory n some.0) (rests mid e (Reply r) last.ends).words some.1, some.2))

      by_way : Ways last.mid e (Begin props room) r → IsOpenTry rules last.mid.depth next was.between (row ahead) [] (rules.answered t.player r) e
      by_way (inl g) = begins_on laws next to_open r e (e.snapshot / 2) began g agreed_mid now
      by_way (inr (inl g)) = begins_held laws next to_open r e (e.snapshot / 2) began g now
      by_way (inr (inr g)) = absurd (true≢false (sym g.irrevocable ∙ revocable_mid))

      tries_block : IsTry rules c.depth was.between (row ahead) [] (rules.answered t.player r) v e
      tries_block = record {
        is_open = subst (λ (d : ℕ). IsOpenTry rules d next was.between (row ahead) [] (rules.answered t.player r) e) depth_mid
            (by_way (reply_cases last.mid e (Begin props room) r (last.is_mid.kept.doing ∙ ap (λ (x : Call). Some x) is) last.ends));
        stands_held = λ irrevocable. begins_over s v e before outside props room is r served last now irrevocable;
      }

    pub opens : IsLast s v (Reply r) e → (ahead : ℕ) → RunsTo rules c v e (record t { player = rules.answered t.player r; again = true; stage = within (record (begun c.number t.nth (commits_known s.view) props s.engine.arena ahead) { at = e.snapshot / 2 }) [] })
    opens last ahead =
        let so_far = later running served.went served.mine in
        runs_inside so_far.0 now (record {
          between = was.between;
          row = row ahead;
          points = [];
          stage_is = refl;
          now_is = so_far.1 ∙ was.now_is;
          try = tries_block last ahead;
          again = refl;
          nth = refl;
          thread = refl;
          known = was.known;
          looked = omega (arith, was.looked, (served.opens outside now).looks);
        })

-- What comes of an answer once it is recorded: the actor is between calls again, as its player's laws say, or has ended.
use Rattle.std.proofs.Common.{◌≡◌, ℕ, suc, ◌+◌, ◌/◌, ◌<◌, Bool, true, false, List, length, Option, None, Some, is_some, inl, inr, refl, sym, ap, subst, ◌∙◌, arith}
use Rattle.event_rules.proofs.Common.{Actor, Answer, AnswerFits, Attempt, Call, Core, End, Falls, HasPoints, HasRow, IsAnswered, IsDeep, IsRestart, IsSettledBy, Obeys, Ready, Records, Restarted, RestsAs, Rows, Rules, Savepoint, Stage, Taken, TakesTo, Unfinished, active_of, begun_in, deep_of, depth_after, in_transaction, is_begin, is_cut, none_begun, open_by, open_deep, open_in, outside, pending_of, points_in, restarts_left, row_is_of, row_unfinished, stage_of, stage_open, stand_of, status_after, tally_of, told_again, told_nth, told_player, told_stage, took_in, within}
use Rattle.tx_runs.specs.Tallies.{begins}
use Rattle.run_rules.proofs.PlayerLaws.{GoesOn, IsOn, StageFits, took_on}
use Rattle.run_rules.proofs.Players.{is_opened}
use Rattle.run_rules.proofs.RestartsLeft.{left_most}

-- ## Its stage

fits_row : {P : Type 0} (b : Bool) (a : Actor P) → HasRow b a → StageFits b (stage_of a.run.current)
fits_row true a row = subst (StageFits true) (sym (stage_open _ row.1)) tt
fits_row false a none = by_stage (stage_of a.run.current) none
  where
    by_stage : (s : Stage) → open_in s ≡ None → StageFits false s
    by_stage outside e = tt
    by_stage (begins row) e = tt
    by_stage (within row points) e = absurd (cc)

fits_open : (b : Bool) (row : Attempt) (points : List Savepoint) → StageFits b (within row points) → b ≡ true
fits_open true row points f = refl
fits_open false row points f = absurd f

fits_begun : (b : Bool) (row : Attempt) → StageFits b (begins row) → b ≡ false
fits_begun true row f = absurd f
fits_begun false row f = refl

module _ {P : Type 0} (rules : Rules P) (laws : Obeys rules) (a : Actor P) (call : Call) (before : ℕ) (last : Actor P) (engine : last.engine ≡ a.engine) (thread : last.run.thread ≡ a.run.thread) (retries : last.run.retries ≡ a.run.retries) {r r' : Rows} (was : Bool) (answer : Answer)
    (d : IsAnswered rules was before a call answer) (t : Records rules r r' a last call answer) where
  -- what the answer makes of its player
  abbrev Took : Taken P
  Took = took_in rules a.run.retries (tally_of a.run) call answer (stand_of a.engine)

  takes : TakesTo (took_in rules a.run.retries (tally_of a.run) call answer (stand_of a.engine)) r r' a last
  takes = subst (λ (e : Core). TakesTo (took_in rules a.run.retries (tally_of a.run) call answer (stand_of e)) r r' a last) engine t.takes

  no_begin : stage_of a.run.current ≡ outside → is_begin call ≡ false
  no_begin out = by_was was refl
    where
      by_was : (b : Bool) → was ≡ b → is_begin call ≡ false
      by_was true w = absurd (subst (StageFits true) out (subst (λ (b : Bool). StageFits b (stage_of a.run.current)) w (fits_row was a d.kept.row)))
      by_was false w = sym (d.in_call.begins w) ∙ ap (λ (s : Stage). is_some (begun_in s)) out

  went : GoesOn rules laws a.run.retries a.engine.restarts was (in_transaction a.engine) (length a.engine.blocks) before (restarts_left a.engine) (tally_of a.run) (took_in rules a.run.retries (tally_of a.run) call answer (stand_of a.engine))
  went = took_on rules laws a.run.retries a.engine.restarts a.run.player a.run.nth a.run.again call (a.engine.snapshot / 2) a.engine.actions.ran a.engine.arena was (in_transaction a.engine) (stage_of a.run.current) answer (record {
    asks = d.in_call.asks;
    nested = d.nested;
    tried = d.kept.tried;
    tries = d.kept.tries;
    stage = fits_row was a d.kept.row;
    begins = no_begin;
    fits = d.fits;
    deep_now = deep_of a.engine.blocks;
    leaves = d.left;
    most = left_most a.engine;
  })

  -- its open attempt is its own
  row_of : (row : Attempt) → active_of last ≡ Some row → (row.outcome ≡ Unfinished) × (row.thread ≡ a.run.thread)
  row_of row e = elim (open_by t row e).2 [
    | inl x ↦ elim x.2 [
      | inl y ↦ (let old = ap open_in y.2 in (ap (λ (z : Attempt). z.outcome) y.3 ∙ row_unfinished was a y.0 d.kept.row old, ap (λ (z : Attempt). z.thread) y.3 ∙ row_is_of was a y.0 d.kept.row old))
      | inr y ↦ (let p = d.in_call.opens y.0 (ap begun_in y.1) in (ap (λ (z : Attempt). z.outcome) y.2 ∙ p.outcome, ap (λ (z : Attempt). z.thread) y.2 ∙ p.thread))
    ]
    | inr y ↦
        (let old = ap open_in y.2 in
        let cut = is_cut (points_in (stage_of last.run.current)) last.engine.arena last.engine.actions.ran y.1 in
        (ap (λ (z : Attempt). z.outcome) y.3 ∙ (cut.outcome ∙ row_unfinished was a y.1 d.kept.row old), ap (λ (z : Attempt). z.thread) y.3 ∙ (cut.same.thread ∙ row_is_of was a y.1 d.kept.row old)))
  ]

  -- the actor then
  abbrev Gone : Actor P
  Gone = record a { run = record a.run { player = Took.tally.player; nth = Took.tally.nth; again = Took.tally.again; current = last.run.current }; status = status_after Took.end }

  has_row : (b : Bool) (s : Stage) → stage_of last.run.current ≡ s → StageFits b s → HasRow b Gone
  has_row true (within row points) is f = (let own = row_of row (ap open_in is) in (row, ap open_in is, own.0, own.1))
  has_row false outside is f = ap open_in is
  has_row false (begins row) is f = ap open_in is
  has_row b s is f = absurd f

  -- it knows where each inner block began
  back_deep : (x : Answer) → AnswerFits was (rules.depth a.run.player) (in_transaction a.engine) (length a.engine.blocks) call x → IsRestart x → rules.depth a.run.player ≡ length a.engine.blocks
  back_deep (Restarted clock word) f is = f.2
  back_deep x f is = absurd is

  points_of : (s : Stage) → stage_of last.run.current ≡ s → HasPoints (length a.engine.blocks) s
  points_of outside is = tt
  points_of (begins row) is = tt
  points_of (within row points) is =
      let now = fits_open _ row points (subst (StageFits (in_transaction a.engine)) (sym (told_stage takes) ∙ is) went.stage) in
      let some : 0 < length a.engine.blocks = subst (λ (b : Bool). IsDeep b (length a.engine.blocks)) now (deep_of a.engine.blocks) in
      let here = ap (λ (s : Stage). length (points_in s)) is in
      elim (open_by t row (ap open_in is)).2 [
        | inl x ↦
            (let fits : depth_after (rules.depth a.run.player) call x.0 ≡ length a.engine.blocks = (subst (AnswerFits was (rules.depth a.run.player) (in_transaction a.engine) (length a.engine.blocks) call) x.1 d.fits).0 in
            elim x.2 [
              | inl y ↦
                  (let deep : rules.depth a.run.player ≡ length y.1 + 1 = subst (HasPoints (rules.depth a.run.player)) y.2 d.points in
                  let suc_deep : rules.depth a.run.player ≡ suc (length y.1) = omega arith in
                  let fits_so = ap (λ (n : ℕ). depth_after n call x.0) suc_deep in
                  let opened = open_deep (record { kept = suc (length y.0.calls.list); ran = length y.0.ran }) y.1 call x.0 (omega arith) in
                  let long = ap (length {A = Savepoint}) y.4 in
                  omega arith)
              | inr y ↦
                  (let shut = fits_begun was y.0 (subst (StageFits was) y.1 (fits_row was a d.kept.row)) in
                  let none : rules.depth a.run.player ≡ 0 = subst (λ (b : Bool). IsDeep b (rules.depth a.run.player)) shut d.nested.deep in
                  let opened = (is_opened (rules.depth a.run.player) call x.0 (omega arith)).now in
                  let long = ap (length {A = Savepoint}) y.3 in
                  omega arith)
            ])
        | inr y ↦
            (let deep : rules.depth a.run.player ≡ length (points_in (stage_of last.run.current)) + 1 = subst (HasPoints (rules.depth a.run.player)) y.2 d.points in
            let same = back_deep answer d.fits y.0 in
            omega arith)
      ]

  -- no attempt is to be opened
  nothing : pending_of last ≡ None
  nothing = none_begun t (by_answer answer d)
    where
      by_answer : (x : Answer) → IsAnswered rules was before a call x → IsRestart x → pending_of a ≡ None
      by_answer (Restarted clock word) d is = d.in_call.inside d.fits.0
      by_answer x d is = absurd is

  rests_as : (end : Option End) → (end ≡ None → IsOn rules laws a.run.retries a.engine.restarts was (in_transaction a.engine) (length a.engine.blocks) before (restarts_left a.engine) (tally_of a.run) Took.tally) → RestsAs rules (status_after end) Gone
  rests_as None on = (let o = on refl in record { nested = o.nested; depth = o.depth; points = subst (λ (n : ℕ). HasPoints n (stage_of last.run.current)) (sym o.depth) (points_of _ refl); idle = d.idle; free = d.free; nothing = nothing })
  rests_as (Some end) on = d.idle

  falls_as : (end : Option End) → (end ≡ None → IsOn rules laws a.run.retries a.engine.restarts was (in_transaction a.engine) (length a.engine.blocks) before (restarts_left a.engine) (tally_of a.run) Took.tally)
      → status_after end ≡ Ready → Falls rules was (in_transaction a.engine) before (restarts_left a.engine) a Gone
  falls_as None on ready = (let f = (on refl).falls in record { whole_falls = f.whole_falls; rank_falls = f.rank_falls })
  falls_as (Some end) on ready = absurd (cc)

  pub settles : IsSettledBy rules was before a last
  settles =
      let is : last ≡ Gone = λ i. record { run = record { thread = thread i; retries = retries i; player = told_player takes i; nth = told_nth takes i; again = told_again takes i; current = last.run.current }; engine = engine i; status = takes.status i } in
      subst (IsSettledBy rules was before a) (sym is) (record {
        engine = refl;
        thread = refl;
        retries = refl;
        kept = record { row = has_row (in_transaction a.engine) (stage_of last.run.current) refl (subst (StageFits (in_transaction a.engine)) (sym (told_stage takes)) went.stage); tried = went.tried; tries = went.tries; retries = d.kept.retries };
        rests = rests_as Took.end went.on;
        falls = falls_as Took.end went.on;
      })

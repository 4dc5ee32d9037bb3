-- An open attempt as it is told, over a memory that it may have read: its calls are its player's alone, and what is told as run is what they run.
use Rattle.std.proofs.Common.{◌≡◌, ℕ, ◌+◌, Bool, true, false, List, [], ◌++◌, drop, length, refl, sym, ap, subst, ◌∙◌, arith, append-nil, length-append}
use Rattle.run_rules.proofs.Common.{Adds, Agrees, Attempt, Between, Call, Core, IsAlone, IsMemory, IsOpenTry, LogRow, Outcome, Ran, ReadsFrom, Rules, Savepoint, State, adds_after, adds_given_up, after, begin_code, breaks_of, bytes_of, count_undone, drop-append_seam, entered_by, in_transaction, is_done, is_open, opened, ran_of, ran_on, reply, reply_told, state_then, telling, told_alone, told_state, told_then, undone, whole_then}
use Rattle.tx_attempts.specs.declared.attempt.Outcome.TheVariants as outcomes
use Rattle.run_rules.{proofs.EngineStates.stands_open, proofs.Tries.IsMadeAlone}

-- of one that is not irrevocable the memory is one that agrees with the log
pub agree_reads : (position : List ℕ) (irrevocable : Bool) (log : List LogRow) (m : List ℕ) → irrevocable ≡ false → Agrees m log → ReadsFrom irrevocable position log m
agree_reads position irrevocable log m revocable agrees = subst (λ (b : Bool). ReadsFrom b position log m) (sym revocable) agrees

module _ {P : Type 0} {rules : Rules P} {deepest : ℕ} {position : List ℕ} {b : Between P} {row : Attempt} {points : List Savepoint} {p : P} {e : Core} (t : IsOpenTry rules deepest position b row points p e)
    (m : List ℕ) (memory : IsMemory e.words m) (reads : ReadsFrom e.irrevocable position e.log m) where
  -- where its calls led for the engine, and where they lead as they are told
  abbrev pub whole : State
  whole = whole_then deepest row m row.calls.list

  abbrev pub told : State
  told = told_then deepest row m row.calls.list

  -- which is the same, but for what has run
  pub told_so : told ≡ telling whole row.ran
  told_so =
      let x = told_state rules deepest row.restarts (entered_by rules deepest t.of_block) (bytes_of m) row.arena row.props row.calls.list (t.alone m memory reads) in
      x.1 ∙ ap (telling whole) (sym (ap (λ (s : State). s.actions.ran) x.1) ∙ sym (t.ran m memory reads))

  -- it stands within its transaction
  pub open_so : e.irrevocable ≡ false → in_transaction e ≡ true → is_open whole ≡ true
  open_so revocable inside = ap is_open (sym (t.stands revocable m memory (subst (λ (i : Bool). ReadsFrom i position e.log m) revocable reads))) ∙ stands_open e m inside

  -- ## What has run

  module _ (f : State → State) (adds : Adds f whole) (due : List Ran) (is : due ≡ (f whole).actions.ran) where
    -- what adds actions to where its calls lead adds them to what came to run
    pub came_further : due ≡ e.actions.ran ++ adds.0
    came_further = is ∙ (ap (λ (s : State). s.actions.ran) (adds.1 whole.actions.ran) ∙ ap (λ (xs : List Ran). xs ++ adds.0) (sym (t.came m memory reads)))

    since : ran_on row.ran row.restarts due ≡ row.ran ++ adds.0
    since = ap (λ (xs : List Ran). row.ran ++ xs) (ap (λ (n : ℕ). drop n due) (sym t.due) ∙ (ap (drop (length e.actions.ran)) came_further ∙ drop-append_seam e.actions.ran adds.0))

    -- and the same ones to what is told; all else is the same
    pub told_further : f told ≡ telling (f whole) (ran_on row.ran row.restarts due)
    told_further = ap f told_so ∙ (adds.1 row.ran ∙ ap (telling (f whole)) (sym since))

    pub due_further : length due ≡ length (ran_on row.ran row.restarts due) + count_undone row.restarts
    due_further = omega (arith, t.due, ap (length {A = Ran}) came_further, ap (length {A = Ran}) since, length-append e.actions.ran adds.0, length-append row.ran adds.0)

  -- ## As it ends

  -- where its calls lead as they are told, by the block's begin
  abbrev pub led : State
  led = state_then deepest (breaks_of row.restarts) (opened (bytes_of m) t.of_block.start.arena t.of_block.start.props) row.calls.list

  led_so : told ≡ led
  led_so = λ i. state_then deepest (breaks_of row.restarts) (opened (bytes_of m) (t.of_block.arena i) (t.of_block.props i)) row.calls.list

  pub made_alone : is_open whole ≡ true → IsMadeAlone rules deepest b t.of_block.start row (bytes_of m)
  made_alone still_open = record {
    alone = subst (λ (s : State). IsAlone rules deepest (breaks_of row.restarts) (rules.answered t.of_block.start.player (begin_code b.again)) s row.calls.list) (λ i. opened (bytes_of m) (t.of_block.arena i) (t.of_block.props i))
        (told_alone rules deepest row.restarts (entered_by rules deepest t.of_block) (bytes_of m) row.arena row.props row.calls.list (t.alone m memory reads));
    still_open = ap is_open (sym led_so ∙ told_so) ∙ still_open;
    again = record { stand = t.stand; revocable = t.revocable m memory reads };
  }

  -- a call gets the same reply there
  pub reply_as : (call : Call) → reply deepest whole call ≡ reply deepest led call
  reply_as call = sym (ap (λ (s : State). reply deepest s call) (sym led_so ∙ told_so) ∙ reply_told deepest call whole row.ran)

  -- and leaves the same, but for what has run: a commit or a cancel of all, which ends its block, too
  pub closes_as : (call : Call) (due : List Ran) → is_open whole ≡ true → due ≡ (after deepest whole call).actions.ran → after deepest led call ≡ telling (after deepest whole call) (ran_on row.ran row.restarts due)
  closes_as call due still_open is = ap (λ (s : State). after deepest s call) (sym led_so) ∙ told_further (λ (s : State). after deepest s call) (adds_after deepest call whole still_open) due is

  pub ran_closes : (call : Call) (outcome : Outcome) (due : List Ran) → is_done outcome ≡ true → is_open whole ≡ true → due ≡ (after deepest whole call).actions.ran → ran_on row.ran row.restarts due ≡ ran_of outcome (after deepest led call)
  ran_closes call outcome due done still_open is = sym (ap (λ (s : State). s.actions.ran) (closes_as call due still_open is)) ∙ by_outcome outcome done (after deepest led call)
    where
      by_outcome : (outcome : Outcome) → is_done outcome ≡ true → (s : State) → s.actions.ran ≡ ran_of outcome s
      by_outcome outcomes.Committed done s = refl
      by_outcome outcome done s = cc

  -- it is given up, and every block of it is rolled back
  pub stops_as : (due : List Ran) → due ≡ (undone whole).actions.ran → undone led ≡ telling (undone whole) (ran_on row.ran row.restarts due)
  stops_as due is = ap undone (sym led_so) ∙ told_further undone (adds_given_up whole) due is

  pub ran_stops : (outcome : Outcome) (due : List Ran) → is_done outcome ≡ false → (outcome ≡ outcomes.Unfinished → ⊥) → due ≡ (undone whole).actions.ran → ran_on row.ran row.restarts due ≡ ran_of outcome led
  ran_stops outcome due stops ended is = sym (ap (λ (s : State). s.actions.ran) (stops_as due is)) ∙ by_outcome outcome stops ended led
    where
      by_outcome : (outcome : Outcome) → is_done outcome ≡ false → (outcome ≡ outcomes.Unfinished → ⊥) → (s : State) → (undone s).actions.ran ≡ ran_of outcome s
      by_outcome outcomes.Unfinished stops ended s = absurd (ended refl)
      by_outcome outcome stops ended s = cc

  -- or it stays as it is
  pub stays_as : led ≡ telling whole (ran_on row.ran row.restarts e.actions.ran)
  stays_as = sym led_so ∙ told_further (λ (s : State). s) ([], λ ran. ap (telling whole) (sym (append-nil ran))) e.actions.ran (t.came m memory reads)

  pub ran_stays : ran_on row.ran row.restarts e.actions.ran ≡ ran_of outcomes.Unfinished led
  ran_stays = sym (ap (λ (s : State). s.actions.ran) stays_as)

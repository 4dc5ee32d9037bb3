-- A thread of nested code that runs on a thread of its own comes back idle.
use Rattle.std.proofs.Common.{◌≡◌, inl, inr, ℕ, ◌<◌, ◌≤◌, Bool, true, false, true≢false, if◌then◌else◌, List, [], length, Result, Ok, Err, refl, sym, ap, subst, ◌∙◌, arith}
use Rattle.script_laws.proofs.Common.{Account, Core, Finished, Gating, GaveUp, Instruction, IsDeep, IsRow, Listing, NoMemory, Parts, Standing, StopsAt, Thread, Words, both, call_number, depth_of, ended_shut, false_from_ne_true, first_account, get_or_from_slice_get, in_transaction, is_held, opening, rolled_back, some_left, there_is, thread_laws, thread_rules, threads_of}
use Rattle.norec_core.{specs.Phases.Idle, specs.Undoing.after_undoing, proofs.Engines.HeldStores.shut_revocable}
use Rattle.shared_words.specs.declared.pass.Pass.{Pass}
use Rattle.script_laws.specs.Assembled.{HasNestedCode}
use Rattle.script_laws.specs.Idle.{ComeBackIdle, NoneStayHeld}
use Rattle.report_rules.{specs.Rows.MadeCalls, specs.Fresh.code_of}
use Rattle.tx_runs.specs.declared.ending.End.{End}
use Rattle.worker_rules.specs.Worked.{Worked}
use Rattle.script_laws.proofs.KeptThreads.{IsKept, course, first_kept, kept_all, some_open}

-- ## Where it stops

module _ (words : Words) (start : Standing) (code : List Instruction) (number retries : ℕ) where
  undone_free : (e : Core) → e.irrevocable ≡ false → (after_undoing e).irrevocable ≡ false
  undone_free e free = elim e.holds as (λ (b : Bool). (if b then e else record (rolled_back e) { stage = Idle; tries = 0 }).irrevocable ≡ false) [ true ↦ free | false ↦ refl ]

  free_at : (gate : Gating) (calls : ℕ) (end : End) (a : Account Thread) (s : Standing) (over : Account Thread) (thread : Standing) → IsKept words start code number retries a s → StopsAt words thread_rules number retries gate calls end a s over thread → thread.engine.irrevocable ≡ false
  free_at gate calls Finished a s over thread k stops =
      let few : depth_of a.player ≤ a.player.deepest = subst (λ (n : ℕ). depth_of a.player ≤ n) (sym k.deep) k.few in
      let none = ended_shut a.player k.nested few stops.0 in
      let shut : in_transaction s.engine ≡ false = some_open s.engine.blocks (sym k.running.depth ∙ none) in
      ap (λ (t : Standing). t.engine.irrevocable) stops.2 ∙ shut_revocable s.engine k.stands.settled shut
  free_at gate calls GaveUp a s over thread k (inl shut) = ap (λ (t : Standing). t.engine.irrevocable) shut.thread ∙ shut.free
  free_at gate calls GaveUp a s over thread k (inr (made, passed)) =
      shut_revocable thread.engine made.answered.stands.settled ((both thread_laws words (course words start code number retries) a s k.running k.own k.stands number retries refl refl made.call made.asks made.answer thread made.answered).1 GaveUp made.end_is).shut
  free_at gate calls NoMemory a s over thread k (starved, passed) = ap (λ (e : Core). e.irrevocable) starved.engine ∙ undone_free s.engine (false_from_ne_true s.engine.irrevocable (λ held.
      (let inside : in_transaction s.engine ≡ true = (k.stands.settled.holder (k.stands.settled.irrevocable held).0).0 in
      let i = k.running.inside inside in
      let some : 0 < depth_of a.player = subst (λ (b : Bool). IsDeep b (depth_of a.player)) inside k.running.nested.deep in
      let more = some_left a.player starved.call starved.asks some in
      let few = k.room held i.row i.points i.stage_is in
      let used = starved.used held i.row i.points i.stage_is in
      omega arith)))

idle_by : (thread : Standing) (back : Result Pass Standing) → Parts thread back → thread.engine.irrevocable ≡ false → is_held back ≡ false
idle_by thread (Ok pass) parts free = refl
idle_by thread (Err kept) parts free = absurd (true≢false (sym parts.1 ∙ free))

pub come_back_idle : ComeBackIdle
come_back_idle words start code number retries gate worked nests own stands shut row =
    let k = kept_all words start code number retries gate row.calls (first_account (opening start.engine.depth code)) start row.account row.standing (first_kept words start code number retries nests own stands shut) row.made in
    idle_by row.thread worked.pass row.pass (free_at words start code number retries gate (call_number row.calls) worked.end row.account row.standing row.left row.thread k row.stops)

-- ## A program

made_idle : (gate : Gating) (p : Listing) (words : Words) (base : List ℕ) (number : ℕ) (worked : Worked) → HasNestedCode p → number < length (threads_of p) → MadeCalls words p base gate number worked → is_held worked.pass ≡ false
made_idle gate p words base number worked nested there made =
    let code = there_is (threads_of p) number there in
    let its_code : code_of p number ≡ code.0 = get_or_from_slice_get (threads_of p) number code.0 [] code.1 in
    let deep : made.start.engine.depth ≡ p.limits.depth = ap (λ (e : Core). e.depth) made.begins.fresh.engine_is in
    let player : made.player ≡ opening made.start.engine.depth code.0 = made.begins.fresh.player_is ∙ (λ i. opening (sym deep i) (its_code i)) in
    come_back_idle words made.start code.0 number p.limits.retries gate worked (nested number code.0 code.1) made.begins.own made.begins.stands (ap in_transaction made.begins.fresh.engine_is)
    (subst (λ (q : Thread). IsRow thread_rules words made.start q number p.limits.retries gate worked) player made.row)

pub none_stay_held : NoneStayHeld
none_stay_held gate p nested held = true≢false (sym held.3.4 ∙ made_idle gate p held.0 held.1 held.3.0 held.3.1 nested held.3.2 held.3.3)

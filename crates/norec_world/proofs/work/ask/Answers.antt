use Rattle.std.proofs.Common.{◌≡◌, ◌≤◌, ◌/◌, ◌+◌, ◌∙◌, ℕ, Bool, Option, Some, Result, Ok, Err, IfOk, OnErr, unwrap_or, true, false, refl, sym, ap, subst, arith, rules}
use Rattle.norec_core.specs.Moves.{IsCalled}
use Rattle.tx_runs.{proofs.OpenRooms.outside_current, specs.Tallies.outside}
use Rattle.norec_world.specs.Calls.{HasAsked, WasRefused}
use Rattle.tx_player.specs.Rules.{Rules}
use Rattle.world_rules.{specs.LocalWork.HasUsedUp, specs.Rows.Rows}
use Rattle.norec_world.proofs.{Actor, Answer, AsksOf as Asks, Begin, Begins, Call, ComesInto, Core, Current, in_transaction, IsAsked, IsRefused, IsUnasked, KeepsOthers, MayRunOn, Outside, PlayerRun, Step, Within, acts_begin, acts_outside, acts_within, asked_begin, asked_outside, asked_room, asked_within, begin_refused, begun, count_in, irrevocable_room, is_begin, kept_room, next_in, no_begin, not_within, on_err, on_err_still, others_begun, others_same, others_within, out_outside, refused_outside, refused_within, reserved, rows_in, stage_of, starves_begin, told_begin, told_outside, told_within, unasked_outside, unasked_within, used_asking, used_outside, used_within}
use Rattle.norec_world.proofs.work.ask.Goals as goal

-- what holds of the step that comes, or of a call that was refused memory, in one
all_asked : {P E : Type 0} (rules : Rules P) (clock : ℕ) (r r' : Rows) (old new : Actor P) (call : Call) (answer : Answer) (result : Result (Option Step) E)
    → IfOk result (λ step. MayRunOn new call (next_in step answer)) → IfOk result (λ step. IsAsked rules old new call (next_in step answer)) → IfOk result (λ step. Asks clock r r' old new call (next_in step answer))
    → IfOk result (λ step. HasAsked rules clock r r' old new call (next_in step answer))
all_asked rules clock r r' old new call answer (Ok step) acts asked told = record { acts = acts; asked = asked; told = told }
all_asked rules clock r r' old new call answer (Err e) acts asked told = tt

all_refused : {P E : Type 0} (rules : Rules P) (old new : Actor P) (call : Call) (result : Result (Option Step) E)
    → OnErr result (IsUnasked rules old new) → OnErr result (IsRefused new) → OnErr result (in_transaction old.engine ≡ false → is_begin call ≡ true) → OnErr result (HasUsedUp old)
    → OnErr result (WasRefused rules old new call)
all_refused rules old new call (Ok step) unasked refused grows used = tt
all_refused rules old new call (Err e) unasked refused grows used = record { unasked = unasked; refused = refused; grows = grows; used = used }

-- ## Within an attempt

pub returns-in_err-prepare-clause-refused : goal.returns-in_err-prepare-clause-refused
returns-in_err-prepare-clause-refused g c =
    let grows : in_transaction c.args.actor.now.engine ≡ false → is_begin c.args.call.now ≡ true = search rules in
    on_err c.from_residual.result (record {
      unasked = unasked_within c.requires.sound c.requires.ready c.in-Some.open.now c.prepare.new.attempt c.in-Some.ensures.value c.prepare.ensures.kept.0 c.prepare.ensures.kept.1 c.prepare.ensures.kept.2 c.prepare.ensures.points c.in-Some.open.now.row.calls refl c.in_err-prepare.ensures.err;
      refused = refused_within c.requires.sound c.requires.ready c.in-Some.open.now c.prepare.new.attempt c.in-Some.ensures.value c.prepare.ensures.kept.0 c.prepare.ensures.kept.1 c.prepare.ensures.kept.2 c.prepare.ensures.points c.in-Some.open.now.row.calls refl c.in_err-prepare.ensures.err (λ h. kept_room c.requires.sound c.requires.ready c.in-Some.open.now c.prepare.new.attempt c.in-Some.ensures.value c.prepare.ensures.kept.0 c.prepare.ensures.kept.1 c.prepare.ensures.kept.2 c.prepare.ensures.points);
      grows = grows;
      used = used_within c.requires.sound c.requires.ready c.in-Some.open.now c.prepare.new.attempt c.in-Some.ensures.value c.prepare.ensures.kept.0 c.prepare.ensures.kept.1 c.prepare.ensures.kept.2 c.prepare.ensures.points c.args.call.now c.in_err-prepare.ensures.short;
    })

pub returns-in-Some : goal.returns-in-Some
returns-in-Some g c =
    let a = c.args.actor.now in
    let call = c.args.call.now in
    let o = c.in-Some.open.now in
    let o' = c.prepare.new.attempt in
    let new = c.call_into.new.self in
    let calls = reserved o.row.calls (unwrap_or (irrevocable_room a.engine call) 0 + 1) in
    let At : Core → Actor g.row.P.Denot = λ e. record a { run = record a.run { current = Within o' }; engine = e } in
    record {
      asked = all_asked g.P.Player c.args.memory.now.clock (rows_in c.args.ended.now) (rows_in c.args.ended.now) a (At new) call c.call_into.new.answer c.call_into.result
          (acts_within c.requires.sound c.requires.ready o o' c.in-Some.ensures.value c.prepare.ensures.kept.0 c.prepare.ensures.kept.1 c.prepare.ensures.kept.2 c.prepare.ensures.points call c.in_ok-prepare.ensures.calls c.requires.asks new c.call_into.new.answer c.call_into.result c.in_ok-prepare.ensures.places c.call_into.ensures)
          (asked_within c.requires.sound c.requires.ready o o' c.in-Some.ensures.value c.prepare.ensures.kept.0 c.prepare.ensures.kept.1 c.prepare.ensures.kept.2 c.prepare.ensures.points call c.in_ok-prepare.ensures.calls c.requires.asks new c.call_into.new.answer c.call_into.result)
          (told_within c.requires.sound c.requires.ready o o' c.in-Some.ensures.value c.prepare.ensures.kept.0 c.prepare.ensures.kept.1 c.prepare.ensures.kept.2 c.prepare.ensures.points call c.in_ok-prepare.ensures.calls c.requires.asks c.args.memory.now.clock new c.call_into.new.answer c.call_into.result c.call_into.ensures);
      refused = all_refused g.P.Player a (At new) call c.call_into.result
          (on_err_still a.engine new call false c.call_into.new.answer (λ e. IsUnasked g.P.Player a (At e)) c.call_into.result c.call_into.ensures
          (unasked_within c.requires.sound c.requires.ready o o' c.in-Some.ensures.value c.prepare.ensures.kept.0 c.prepare.ensures.kept.1 c.prepare.ensures.kept.2 c.prepare.ensures.points calls refl c.in_ok-prepare.ensures.calls))
          (on_err_still a.engine new call false c.call_into.new.answer (λ e. IsRefused (At e)) c.call_into.result c.call_into.ensures
          (refused_within c.requires.sound c.requires.ready o o' c.in-Some.ensures.value c.prepare.ensures.kept.0 c.prepare.ensures.kept.1 c.prepare.ensures.kept.2 c.prepare.ensures.points calls refl c.in_ok-prepare.ensures.calls (asked_room c.requires.sound c.requires.ready o o' c.in-Some.ensures.value c.prepare.ensures.kept.0 c.prepare.ensures.kept.1 c.prepare.ensures.kept.2 c.prepare.ensures.points call)))
          (search rules)
          (used_asking c.requires.sound c.requires.ready o o' c.in-Some.ensures.value c.prepare.ensures.kept.0 c.prepare.ensures.kept.1 c.prepare.ensures.kept.2 c.prepare.ensures.points call new c.call_into.new.answer c.call_into.result c.call_into.ensures);
      ended = search rules;
      place = search rules;
      others = others_within c.requires.sound c.requires.ready o o' c.in-Some.ensures.value c.prepare.ensures.kept.0 c.prepare.ensures.kept.1 c.prepare.ensures.kept.2 c.prepare.ensures.points new;
    }

-- ## Outside a transaction

pub begin-requires : goal.begin-requires
begin-requires g c = outside_current c.args.actor.now.run.current (out_outside c.requires.sound c.requires.ready (not_within c.args.actor.now.run.current c.in_default.ensures.value))

-- the run that an outermost begin leaves without an attempt is as it was
unbegun : {P : Type 0} (old mid : PlayerRun P) (left : Current) → stage_of old.current ≡ outside → mid ≡ record old { current = mid.current } → left ≡ Outside → record mid { current = left } ≡ old
unbegun old mid left out same is = λ i. record (same i) { current = (is ∙ sym (outside_current old.current out)) i }

-- where memory was not refused, what holds of all that may come of a call holds of the step that comes
a_step : {E : Type 0} (old new : Core) (call : Call) (again : Bool) (answer : Answer) (Q : Option Step → Type 0) (result : Result (Option Step) E) → ComesInto old call again result answer new
    → ((step : Option Step) → IsCalled old call again (next_in step answer) new → Q step) → IfOk result Q
a_step old new call again answer Q (Ok step) comes f = f step comes
a_step old new call again answer Q (Err e) comes f = tt

pub returns-in_err-begin-in-Begin : goal.returns-in_err-begin-in-Begin
returns-in_err-begin-in-Begin g c =
    let none = not_within c.args.actor.now.run.current c.in_default.ensures.value in
    let a = c.args.actor.now in
    let out = out_outside c.requires.sound c.requires.ready none in
    let back : c.begin.new.self ≡ a.run = unbegun a.run c.begin.new.self c.begin.new.self.current out c.begin.ensures.same c.in_err-begin-in-Begin.ensures.err in
    let refused = begin_refused c.requires.sound c.requires.ready none c.args.call.now (ap is_begin c.in-Begin.is) in
    record {
      asked = search rules;
      refused = on_err c.from_residual-in_err-begin-in-Begin.result (subst (λ (x : PlayerRun g.row.P.Denot). WasRefused g.P.Player a (record a { run = x }) c.args.call.now) (sym back) refused);
      ended = c.reserve.ensures.items;
      place = (let n = ap (λ (x : PlayerRun g.row.P.Denot). count_in (stage_of x.current)) back in let m = ap count_in out in omega arith);
      others = others_same a (record a { run = c.begin.new.self }) (rows_in c.args.ended.now) (rows_in c.reserve.new.self) (ap (λ (x : PlayerRun g.row.P.Denot). x.thread) back)
          (let n = ap (λ (x : PlayerRun g.row.P.Denot). count_in (stage_of x.current)) back in omega arith) c.reserve.ensures.items (let l = c.reserve.ensures.len in let k = c.reserve.ensures.capacity in omega arith);
    }

pub returns-then-is_err : goal.returns-then-is_err
returns-then-is_err g c =
    let none = not_within c.args.actor.now.run.current c.in_default.ensures.value in
    let a = c.args.actor.now in
    let out = out_outside c.requires.sound c.requires.ready none in
    let run : PlayerRun g.row.P.Denot = record c.begin.new.self { current = c.leave.new.self } in
    let back : run ≡ a.run = unbegun a.run c.begin.new.self c.leave.new.self out c.begin.ensures.same c.leave.ensures in
    let refused = begin_refused c.requires.sound c.requires.ready none c.args.call.now (ap is_begin c.in-Begin.is) in
    record {
      asked = search rules;
      refused = on_err_still a.engine c.begin_into-next.new.self (Begin c.in-Begin.props c.in-Begin.room) c.begin.new.self.again c.begin_into-next.new.answer (λ e. WasRefused g.P.Player a (record a { run = run; engine = e }) c.args.call.now) c.begin_into-next.result c.begin_into-next.ensures
          (subst (λ (x : PlayerRun g.row.P.Denot). WasRefused g.P.Player a (record a { run = x }) c.args.call.now) (sym back) refused);
      ended = c.reserve.ensures.items;
      place = (let n = ap count_in out in let m = ap (λ (x : PlayerRun g.row.P.Denot). count_in (stage_of x.current)) back in omega arith);
      others = others_same a (record a { run = run; engine = c.begin_into-next.new.self }) (rows_in c.args.ended.now) (rows_in c.reserve.new.self) (ap (λ (x : PlayerRun g.row.P.Denot). x.thread) back)
          (let n = ap (λ (x : PlayerRun g.row.P.Denot). count_in (stage_of x.current)) back in omega arith) c.reserve.ensures.items (let l = c.reserve.ensures.len in let k = c.reserve.ensures.capacity in omega arith);
    }

pub returns-else-is_err : goal.returns-else-is_err
returns-else-is_err g c =
    let none = not_within c.args.actor.now.run.current c.in_default.ensures.value in
    let a = c.args.actor.now in
    let call : Call = Begin c.in-Begin.props c.in-Begin.room in
    let e = c.begin_into-next.new.self in
    let answer = c.begin_into-next.new.answer in
    let begins = c.in_ok-begin-in-Begin.ensures.begins in
    let o = begins.o in
    let clock = c.args.memory.now.clock in
    let rows = rows_in c.args.ended.now in
    let rows' = rows_in c.reserve.new.self in
    let run : c.begin.new.self ≡ record a.run { current = Begins o } = c.begin.ensures.same ∙ (λ i. record a.run { current = begins.begins i }) in
    let asked : c.ahead_of-ahead.result ≡ unwrap_or (irrevocable_room a.engine call) 0 =
    c.ahead_of-ahead.ensures.value ∙ (ap (λ (o : Option ℕ). unwrap_or o 0) c.irrevocable_room.ensures ∙ ap (λ (x : Call). unwrap_or (irrevocable_room a.engine x) 0) c.in-Begin.is) in
    let asks = c.requires.asks ∙ ap (λ (x : Call). Some x) c.in-Begin.is in
    let row : o.row ≡ begun a.run.thread a.run.nth (clock / 2) c.in-Begin.props a.engine.arena (unwrap_or (irrevocable_room a.engine call) 0) =
    begins.is ∙ (λ i. begun a.run.thread a.run.nth (c.clock-began.ensures i / 2) c.in-Begin.props ((c.bytes-arena.ensures ∙ c.arena.ensures) i) (asked i)) in
    let ends = subst (λ (n : ℕ). n ≤ o.ends) asked begins.ends in
    let cancels = subst (λ (n : ℕ). n ≤ o.cancels) asked begins.cancels in
    let deep = subst (λ (n : ℕ). n ≤ o.deep) asked begins.deep in
    let comes = subst (λ (again : Bool). ComesInto a.engine call again c.begin_into-next.result answer e) (ap (λ (x : PlayerRun g.row.P.Denot). x.again) c.begin.ensures.same) c.begin_into-next.ensures in
    let new : Actor g.row.P.Denot = record a { run = record a.run { current = Begins o }; engine = e } in
    let HasCome : Call → Actor g.row.P.Denot → Option Step → Type 0 = λ x b step. HasAsked g.P.Player clock rows rows' a b x (next_in step answer) in
    record {
      asked = subst (λ (x : PlayerRun g.row.P.Denot). IfOk c.begin_into-next.result (HasCome c.args.call.now (record a { run = x; engine = e }))) (sym run)
          (subst (λ (x : Call). IfOk c.begin_into-next.result (HasCome x new)) (sym c.in-Begin.is)
          (a_step a.engine e call a.run.again answer (HasCome call new) c.begin_into-next.result comes (λ step called. record {
            acts = acts_begin c.requires.sound c.requires.ready none c.in-Begin.props c.in-Begin.room asks e o clock row ends cancels deep (next_in step answer) called;
            asked = asked_begin c.requires.sound c.requires.ready none c.in-Begin.props c.in-Begin.room asks e o clock row ends cancels deep (next_in step answer);
            told = told_begin c.requires.sound c.requires.ready none c.in-Begin.props c.in-Begin.room asks e o clock row ends cancels deep rows' c.reserve.ensures.items (next_in step answer) called;
          })));
      refused = search rules;
      ended = c.reserve.ensures.items;
      place = (let n = c.in_ok-reserve-in-Begin.ensures.ok in let l = c.reserve.ensures.len in let m = ap (λ (x : PlayerRun g.row.P.Denot). count_in (stage_of x.current)) run in omega arith);
      others = subst (λ (x : PlayerRun g.row.P.Denot). KeepsOthers a rows (record a { run = x; engine = e }) rows') (sym run)
          (others_begun a rows rows' o e (out_outside c.requires.sound c.requires.ready none) c.reserve.ensures.items (let l = c.reserve.ensures.len in let k = c.reserve.ensures.capacity in omega arith) (let n = c.in_ok-reserve-in-Begin.ensures.ok in let l = c.reserve.ensures.len in omega arith));
    }

pub returns-in_default-call : goal.returns-in_default-call
returns-in_default-call g c =
    let none = not_within c.args.actor.now.run.current c.in_default.ensures.value in
    let a = c.args.actor.now in
    let e = c.call_into-in_default-call.new.self in
    let other : is_begin c.args.call.now ≡ false = no_begin c.args.call.now c.in_default-call.not-Begin in
    record {
      asked = all_asked g.P.Player c.args.memory.now.clock (rows_in c.args.ended.now) (rows_in c.args.ended.now) a (record a { engine = e }) c.args.call.now c.call_into-in_default-call.new.answer c.call_into-in_default-call.result
          (acts_outside c.requires.sound c.requires.ready none c.args.call.now c.requires.asks e other c.call_into-in_default-call.new.answer c.call_into-in_default-call.result c.call_into-in_default-call.ensures)
          (asked_outside c.requires.sound c.requires.ready none c.args.call.now c.requires.asks e other c.call_into-in_default-call.new.answer c.call_into-in_default-call.result)
          (told_outside c.requires.sound c.requires.ready none c.args.call.now c.requires.asks e other c.args.memory.now.clock (rows_in c.args.ended.now) refl c.call_into-in_default-call.new.answer c.call_into-in_default-call.result c.call_into-in_default-call.ensures);
      refused = all_refused g.P.Player a (record a { engine = e }) c.args.call.now c.call_into-in_default-call.result
          (on_err_still a.engine e c.args.call.now false c.call_into-in_default-call.new.answer (λ x. IsUnasked g.P.Player a (record a { engine = x })) c.call_into-in_default-call.result c.call_into-in_default-call.ensures (unasked_outside c.requires.sound c.requires.ready none))
          (on_err_still a.engine e c.args.call.now false c.call_into-in_default-call.new.answer (λ x. IsRefused (record a { engine = x })) c.call_into-in_default-call.result c.call_into-in_default-call.ensures (refused_outside c.requires.sound c.requires.ready none))
          (starves_begin a.engine e c.args.call.now c.call_into-in_default-call.new.answer c.requires.sound.tied.settled c.call_into-in_default-call.result c.call_into-in_default-call.ensures)
          (on_err c.call_into-in_default-call.result (used_outside c.requires.sound c.requires.ready none));
      ended = refl;
      place = c.requires.sound.place;
      others = others_same a (record a { engine = e }) (rows_in c.args.ended.now) (rows_in c.args.ended.now) refl (omega arith) refl (omega arith);
    }

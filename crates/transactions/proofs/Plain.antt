-- The calls of a transaction are the plain machine's, on every memory that agrees with what was read.
use Rattle.std.proofs.Common.{◌≡◌, ◌∙◌, ◌⊎◌, inl, inr, ℕ, ◌/◌, ◌&&◌, not, if◌then◌else◌, Bool, true, false, List, [], ◌∷◌, ◌++◌, map, Option, None, Some, Result, Ok, Err, ap, refl, subst, sym, true≢false}
use Rattle.transactions.proofs.Common.{Abort, Action, Agrees, Answer, Begin, Block, Call, CalledAtMut, Calls, Cancelled, Code, Commit, Copy, CopyPair, Core, Deed, EndsBy, Engine, Frame, GoesOn, GoesOver, HasBegun, HasEnded, IsAnswered, IsMemory, IsPlain, IsPlainRun, IsTakenBack, IsTry, KeepsBody, LeftBy, Lent, Makes, Makings, Mode, Mut, MutBor, NoCommit, Out, Props, Refusal, Replied, Reply, Standing, Stands, Start, StartsWith, State, Stays, Stopped, TakesBack, Tried, UndoAction, Value, Words, after, after_unless, as_undo, back, begun_at, bytes_of, calls_of, came_over, commit_told, committed_at, effect, entered, in_transaction, irrevocable_from, is_inside, is_memory, is_open, left_over, memory_in, memory_of, on_answer, opened, outside, pushed, recoded, refusal, replies, replies_of, reply, reply_unless, rolled_back, source_bytes, stands_for, start_of, state_after, state_in, state_over, state_with, target_written, undone, undone_from, usual, view_of, with_action, with_gone}
use Rattle.itm_types.specs.declared.call.ActionKind.TheVariants as kinds
use Rattle.itm_types.specs.Calls.{is_abort}
use Rattle.norec_core.specs.declared.answer.Answer.TheVariants as answers
use Rattle.write_set.specs.declared.row.Row.{Row}
use Rattle.norec_core.{proofs.Logs.agrees_less, proofs.Replies.AnsweredEngines.told_plainly, proofs.Engines.Blocks.none_inside}
use Rattle.itm_runtime.specs.declared.stop.Stop.TheVariants as stops
use Rattle.transactions.specs.declared.tried.Tried.TheVariants.{Done}
use Rattle.transactions.proofs.Looks.{engine_open}
use Rattle.transactions.proofs.RanActions.{ran_as, same_after, same_left, same_replies}
use Rattle.transactions.proofs.Tries.{is_other, not_cancelled, not_stopped, told_at}
use Rattle.transactions.proofs.Modes.{KeepsMode, back_mode, keeps_begin, keeps_commit, rolled_mode, shut_revocable, stays_revocable}

-- ## The mode

entered_mode : (s : State) (p : Props) → p.goes_irrevocable ≡ false → s.irrevocable ≡ false → (entered s p).irrevocable ≡ false
entered_mode s p stays is = ap (λ (b : Bool). (if b then irrevocable_from (pushed s p) else pushed s p).irrevocable) stays ∙ is

undone_mode : (s : State) (bs : List Block) → s.irrevocable ≡ false → (undone_from s bs).irrevocable ≡ false
undone_mode s [] is = is
undone_mode s (b ∷ bs) is = undone_mode (rolled_back s bs b.saved) bs (rolled_mode s bs b.saved is)

both_modes : (b : Bool) (s u : State) → s.irrevocable ≡ false → u.irrevocable ≡ false → (if b then s else u).irrevocable ≡ false
both_modes true s u e f = e
both_modes false s u e f = f

copied_mode : (s : State) (pair : CopyPair) (place : ℕ) (bytes : List ℕ) → s.irrevocable ≡ false → (target_written s pair place bytes).irrevocable ≡ false
copied_mode s (Out to) place bytes is = is
copied_mode s pair place bytes is = is

keeps : (call : Call) (new : Standing) → Stays call new → KeepsMode call
keeps (Begin props room) new stays s is = both_modes (is_open s) (entered s props) (opened s.memory s.arena props) (entered_mode s props stays is) (entered_mode (outside s.memory s.arena) props stays refl)
keeps Commit new stays s is = keeps_commit s is
keeps (Abort outer) new stays s is = both_modes outer (undone s) (back s) (undone_mode s s.blocks is) (back_mode s s.blocks is)
keeps (Mode room) new stays s is = absurd stays
keeps (Copy c) new stays s is = copied_mode s c.pair c.to (source_bytes s c.pair c.from c.size) is
keeps (UndoAction action) new stays s is = both_modes s.irrevocable s (with_action s kinds.Undo action) is is
keeps call new stays s is = is

-- ## One call

left_open : (call : Call) (new : Standing) → Stays call new → (is_abort call ≡ false → in_transaction new.engine ≡ true) → in_transaction new.engine ≡ true
left_open (Abort outer) new stays inside = stays
left_open call new stays inside = inside refl

grown : (m : List ℕ) (old new : Core) → StartsWith new.log old.log ⊎ GoesOver old new → new.irrevocable ≡ false → Agrees m new.log → Agrees m old.log
grown m old new (inl more) is agrees = agrees_less m old.log more.0 (subst (Agrees m) more.1 agrees)
grown m old new (inr over) is agrees = absurd (true≢false (sym over.is ∙ is))

module _ (words : Words) (t next : Standing) (call : Call) (r : Replied) (stays : Stays call next) (a : IsAnswered words (start_of t call false) (Reply r) next.pass next.engine) (is : t.engine.irrevocable ≡ false) (inside : in_transaction t.engine ≡ true) where
  still_revocable : next.engine.irrevocable ≡ false
  still_revocable = stays_revocable (start_of t call false) (Reply r) (view_of next.pass) next.engine a.served a.stands (keeps call next stays) is

  still_open : in_transaction next.engine ≡ true
  still_open = left_open call next stays (λ other. a.served.tells.still other inside)

  agrees_before : (m : List ℕ) → Agrees m next.engine.log → Agrees m t.engine.log
  agrees_before m agrees = grown m t.engine next.engine (a.served.grows inside still_open (λ x. x)).log still_revocable agrees

  state_then : (m : List ℕ) → IsMemory t.engine.words m → Agrees m next.engine.log → stands_for next.engine m ≡ after t.engine.depth (stands_for t.engine m) call
  state_then m fits agrees = (a.served.tells.all is still_revocable m fits agrees).state

  reply_then : (m : List ℕ) → IsMemory t.engine.words m → Agrees m next.engine.log → r ≡ reply t.engine.depth (stands_for t.engine m) call
  reply_then m fits agrees = (a.served.tells.all is still_revocable m fits agrees).reply_is ∙ told_plainly call (reply t.engine.depth (stands_for t.engine m) call)

-- ## All calls

-- what the deeds come to over this memory
record Comes (t : Standing) (made : List Deed) (last : Standing) (m : List ℕ) : Type 0 where
  agrees : Agrees m t.engine.log
  state : stands_for last.engine m ≡ state_with t.engine.depth (stands_for t.engine m) made
  replied : replies_of made ≡ replies t.engine.depth (stands_for t.engine m) (calls_of made)

record Leads (t : Standing) (made : List Deed) (last : Standing) : Type 0 where
  revocable : last.engine.irrevocable ≡ false
  words_are : last.engine.words ≡ t.engine.words
  depth_is : last.engine.depth ≡ t.engine.depth
  comes : (m : List ℕ) → IsMemory t.engine.words m → Agrees m last.engine.log → Comes t made last m

none_made : (t last : Standing) → last ≡ t → t.engine.irrevocable ≡ false → Leads t [] last
none_made t last e is =
    subst (λ (l : Standing). Leads t [] l) (sym e) (record { revocable = is; words_are = refl; depth_is = refl; comes = λ m fits agrees. record { agrees = agrees; state = refl; replied = refl } })

call_made : (words : Words) (t next last : Standing) (call : Call) (r : Replied) (rest : List Deed) → Stays call next → IsAnswered words (start_of t call false) (Reply r) next.pass next.engine → t.engine.irrevocable ≡ false → in_transaction t.engine ≡ true → Leads next rest last → Leads t (Calls call r ∷ rest) last
call_made words t next last call r rest stays a is inside on =
    let deep : next.engine.depth ≡ t.engine.depth = a.served.limits.2 in
    let size : next.engine.words ≡ t.engine.words = a.served.words in
    record {
      revocable = on.revocable;
      words_are = on.words_are ∙ size;
      depth_is = on.depth_is ∙ deep;
      comes = λ m fits agrees.
          let later = on.comes m (subst (λ n. IsMemory n m) (sym size) fits) agrees in
          let state = state_then words t next call r stays a is inside m fits later.agrees in
          let was = stands_for t.engine m in
          record {
            agrees = agrees_before words t next call r stays a is inside m later.agrees;
            state = later.state ∙ ap (λ d. state_with d (stands_for next.engine m) rest) deep ∙ ap (λ (s : State). state_with t.engine.depth s rest) state;
            replied = ap (λ (q : Replied). q ∷ replies_of rest) (reply_then words t next call r stays a is inside m fits later.agrees)
                ∙ ap (λ (rs : List Replied). reply t.engine.depth was call ∷ rs) (later.replied ∙ ap (λ d. replies d (stands_for next.engine m) (calls_of rest)) deep ∙ ap (λ (s : State). replies t.engine.depth s (calls_of rest)) state);
          };
    }

-- a block that is taken back leaves the actions alone that came to run
gone_back : (t back : Standing) (gone : List Action) (m : List ℕ) → IsTakenBack t gone back → t.engine.irrevocable ≡ false → stands_for back.engine m ≡ with_gone (stands_for t.engine m) gone
gone_back t back gone m b is =
    ap (λ (x : Bool). state_in x back.engine.writes back.engine.blocks back.engine.arena back.engine.actions m) (b.on.mode ∙ is)
    ∙ (λ i. state_over (b.writes i) (b.blocks i) (b.arena i) (record { commits = b.commits i; undos = b.undos i; ran = b.ran i }) m)
    ∙ ap (λ (x : Bool). with_gone (state_in x t.engine.writes t.engine.blocks t.engine.arena t.engine.actions m) gone) (sym is)

block_back : (t back last : Standing) (gone : List Action) (rest : List Deed) → IsTakenBack t gone back → t.engine.irrevocable ≡ false → Leads back rest last → Leads t (TakesBack gone ∷ rest) last
block_back t back last gone rest b is on = record {
  revocable = on.revocable;
  words_are = on.words_are ∙ b.on.words;
  depth_is = on.depth_is ∙ b.on.depth;
  comes = λ m fits agrees.
      let later = on.comes m (subst (λ n. IsMemory n m) (sym b.on.words) fits) agrees in
      let was = stands_for t.engine m in
      let state = gone_back t back gone m b is in
      record {
        agrees = agrees_less m t.engine.log b.on.log.0 (subst (Agrees m) b.on.log.1 later.agrees);
        state = later.state ∙ ap (λ d. state_with d (stands_for back.engine m) rest) b.on.depth ∙ ap (λ (s : State). state_with t.engine.depth s rest) state;
        replied = later.replied ∙ ap (λ d. replies d (stands_for back.engine m) (calls_of rest)) b.on.depth ∙ ap (λ (s : State). replies t.engine.depth s (calls_of rest)) state
            ∙ same_replies t.engine.depth was (was.actions.ran ++ map as_undo gone) (calls_of rest);
      };
}

leads : (words : Words) (made : List Deed) (t last : Standing) → Makes words t made last → t.engine.irrevocable ≡ false → in_transaction t.engine ≡ true → Leads t made last
leads words [] t last e is inside = none_made t last e is
leads words (Calls call r ∷ rest) t last made is inside =
    let next = made.0 in
    let stays = made.1 in
    let a = made.2 in
    call_made words t next last call r rest stays a is inside (leads words rest next last made.3 (still_revocable words t next call r stays a is inside) (still_open words t next call r stays a is inside))
leads words (TakesBack gone ∷ rest) t last made is inside =
    let b = made.1 in
    block_back t made.0 last gone rest b is (leads words rest made.0 last made.2 (b.on.mode ∙ is) (ap is_inside b.blocks ∙ inside))

-- ## The begin

-- outside a transaction an engine stands for the memory alone
shut_state : (c : Core) (m : List ℕ) → in_transaction c ≡ false → c.irrevocable ≡ false → c.writes ≡ [] → stands_for c m ≡ state_over [] [] c.arena c.actions m
shut_state c m shut is unwritten =
    ap (λ (b : Bool). state_in b c.writes c.blocks c.arena c.actions m) is
    ∙ ap (λ (rows : List Row). state_over rows c.blocks c.arena c.actions m) unwritten
    ∙ ap (λ (blocks : List Frame). state_over [] blocks c.arena c.actions m) (none_inside c.blocks shut)

-- a begin that is not refused opens a block
unrefused : (s : State) (b : Bool) (r : Replied) (why : Option Refusal) → r ≡ recoded (Begin usual 0) b (reply_unless why (Code 5)) → GoesOn (Reply r) → after_unless why s (effect s (Begin usual 0)) ≡ effect s (Begin usual 0)
unrefused s true r (Some why) is on = absurd (on (stops.Refused why) (ap (λ (x : Replied). Some (Reply x)) (sym is)))
unrefused s false r (Some why) is on = absurd (on (stops.Refused why) (ap (λ (x : Replied). Some (Reply x)) (sym is)))
unrefused s b r None is on = refl

-- what a transaction that began has by then
pub record Begins (before : Standing) (began : Lent) : Type 0 where
  revocable : began.thread.engine.irrevocable ≡ false
  inside : in_transaction began.thread.engine ≡ true
  words_are : began.thread.engine.words ≡ before.engine.words
  depth_is : began.thread.engine.depth ≡ before.engine.depth
  arena_is : began.thread.engine.arena ≡ before.engine.arena
  state : (m : List ℕ) → IsMemory before.engine.words m → Agrees m began.thread.engine.log → stands_for began.thread.engine m ≡ opened (bytes_of m) before.engine.arena usual

state_arena : (c : Core) (m : List ℕ) → (stands_for c m).arena ≡ c.arena
state_arena c m = by_mode c.irrevocable
  where
    by_mode : (b : Bool) → (state_in b c.writes c.blocks c.arena c.actions m).arena ≡ c.arena
    by_mode true = refl
    by_mode false = refl

opens_on : (before : Standing) (again : Bool) (answer : Answer) (began : Lent) (stood : Stands (view_of before.pass) before.engine) → in_transaction before.engine ≡ false → IsAnswered began.words (start_of before (Begin usual 0) again) answer began.thread.pass began.thread.engine → GoesOn answer → Begins before began
opens_on before again answer began stood shut answered on = on_answer (λ (x : Answer). IsAnswered began.words (start_of before (Begin usual 0) again) x began.thread.pass began.thread.engine → Begins before began) answer on
    (λ r on a.
    let s : Start = start_of before (Begin usual 0) again in
    let t = before.engine in
    let e = began.thread.engine in
    let v = view_of began.thread.pass in
    let is : t.irrevocable ≡ false = shut_revocable stood shut in
    let still : e.irrevocable ≡ false = stays_revocable s (Reply r) v e a.served a.stands keeps_begin is in
    let unwritten : t.writes ≡ [] = (stood.settled.closed shut).1 in
    let opened_over : (m : List ℕ) (r' : Replied) → r' ≡ recoded (Begin usual 0) (again && not (in_transaction t)) (reply t.depth (stands_for t m) (Begin usual 0)) → GoesOn (Reply r') → after t.depth (stands_for t m) (Begin usual 0) ≡ opened (bytes_of m) t.arena usual = λ m r' e on.
    unrefused (stands_for t m) (again && not (in_transaction t)) r' (refusal t.depth (stands_for t m) (Begin usual 0)) e on ∙ ap (λ (u : State). effect u (Begin usual 0)) (shut_state t m shut is unwritten) in
    let here = a.served.tells.here in
    let opens = here.state ∙ opened_over (came_over s v e) r here.reply_is on in
    record {
      revocable = still;
      inside = sym (engine_open e (left_over v e) still) ∙ ap is_open opens;
      words_are = a.served.words;
      depth_is = a.served.limits.2;
      arena_is = sym (state_arena e (left_over v e)) ∙ ap (λ (u : State). u.arena) opens;
      state = λ m fits agrees. let meets = a.served.tells.all is still m fits agrees in meets.state ∙ opened_over m r meets.reply_is on;
    })
    (λ at wrote a. absurd (subst NoCommit a.served.tells.call tt)) answered

-- ## The commit

pub law : (words : Words) (before : Standing) (began : Lent) (made : List Deed) (last : Standing) (at : ℕ) (wrote : Bool) (w : Words) (new : Standing)
    → Begins before began → Makes words began.thread made last → IsAnswered w (start_of last Commit false) (answers.Committed at wrote) new.pass new.engine
    → IsPlain began.thread.engine.depth began.thread.engine.arena made at wrote new
law words before began made last at wrote w new begins makes a =
    let on = leads words made began.thread last makes begins.revocable begins.inside in
    let v = view_of new.pass in
    let e = new.engine in
    let commits = a.served.tells in
    let m = memory_of v at in
    let size : e.words ≡ before.engine.words = a.served.words ∙ on.words_are ∙ begins.words_are in
    let fits : IsMemory before.engine.words m = subst (λ n. IsMemory n m) size (is_memory e.words v a.stands.over at) in
    let agrees : Agrees m last.engine.log = commits.closes.agrees commits.was_open in
    let comes = on.comes m (subst (λ n. IsMemory n m) (sym begins.words_are) fits) agrees in
    let opens = begins.state m fits comes.agrees in
    let begun : stands_for began.thread.engine m ≡ begun_at v at began.thread.engine.arena = opens ∙ ap (λ xs. opened (bytes_of m) xs usual) (sym begins.arena_is) in
    let deepest = began.thread.engine.depth in
    let came : came_over (start_of last Commit false) v e ≡ m = ap (λ (b : Bool). memory_in b (view_of last.pass) v (e.snapshot / 2)) on.revocable ∙ ap (memory_of v) (sym commits.closes.at_is) in
    let start = begun_at v at began.thread.engine.arena in
    let whole : after last.engine.depth (stands_for last.engine (came_over (start_of last Commit false) v e)) Commit ≡ after deepest (state_with deepest start made) Commit =
    ap (λ d. after d (stands_for last.engine (came_over (start_of last Commit false) v e)) Commit) on.depth_is
    ∙ ap (λ x. after deepest (stands_for last.engine x) Commit) came
    ∙ ap (λ (s : State). after deepest s Commit) (comes.state ∙ ap (λ (s : State). state_with deepest s made) begun) in
    let left = same_left deepest start start.actions.ran made in
    let end = same_after deepest (state_after deepest start (calls_of made)) left.0 Commit in
    let alone : after last.engine.depth (stands_for last.engine (came_over (start_of last Commit false) v e)) Commit ≡ ran_as end.0 (committed_at deepest v at began.thread.engine.arena (calls_of made)) = whole ∙ ap (λ (s : State). after deepest s Commit) left.1 ∙ end.1 in
    record {
      seen = commits.closes.seen;
      replied = comes.replied ∙ ap (λ (s : State). replies deepest s (calls_of made)) begun;
      wrote_is = commits.wrote_is ∙ ap (λ (s : State). s.wrote) alone;
      next = λ is. let n = commits.next is in (n.0, n.1 ∙ ap (λ (s : State). s.memory) alone);
      arena_is = commits.arena_is ∙ ap (λ (s : State). s.arena) alone;
      actions_are = commits.actions_is ∙ ap (λ (s : State). s.actions) whole;
    }

-- ## The tries

abbrev told_wrote : {R E : Type 0} → Tried R E → Bool
told_wrote (Done done) = done.wrote
told_wrote _ = false

abbrev told_value : {R E : Type 0} → R → Tried R E → R
told_value value (Done done) = done.value
told_value value _ = value

-- a commit that is told as done is one, of the value that is told
told_done : {R E : Type 0} (done : Value R) (value : R) (a : Answer) → Done done ≡ commit_told {R = R} {E = E} value a → (value ≡ done.value) × (a ≡ answers.Committed done.at done.wrote)
told_done done value (answers.Committed at wrote) is = (sym (ap (told_value value) is), ap (λ n. answers.Committed n wrote) (sym (ap told_at is)) ∙ ap (λ b. answers.Committed done.at b) (sym (ap told_wrote is)))
told_done done value a is = absurd (subst is_other is tt)

module _ {F R E : Type 0} (fn : Mut F (MutBor Lent × Unit {0}) (Result R (Stopped E) × (MutBor Lent × Unit {0}))) (makings : Makings fn) (After : F → Lent → Bool → Type 0) (passed : F) (first : Words) (done : Value R) (new : Standing) where
  abbrev told : Tried R E
  told = Done done

  module _ (body : F) (same : KeepsBody fn → body ≡ passed) (mid : Lent) (again : Bool) (after : After body mid again) (words : mid.words ≡ first) (body' : F) where
    committed : (answer : Answer) (began : Lent) (begins : HasBegun mid.thread again answer began) → began.words ≡ mid.words → (last : Lent) (value : R) → CalledAtMut fn body began (Ok value) body' last → HasEnded last value told new → IsPlainRun fn makings After passed first done new
    committed answer began begins here last value runs ends =
        let so = told_done {E = E} done value ends.answer ends.told_is in
        let run : CalledAtMut fn body began (Ok done.value) body' last = subst (λ (x : R). CalledAtMut fn body began (Ok x) body' last) so.0 runs in
        let made = makings body began done.value body' last run in
        let left : new ≡ ends.then.thread = subst (λ (x : Answer). LeftBy x ends.then new) so.1 ends.left in
        let ended : IsAnswered last.words (start_of last.thread Commit false) (answers.Committed done.at done.wrote) new.pass new.engine =
        subst (λ (x : Answer × Standing). IsAnswered last.words (start_of last.thread Commit false) x.0 x.1.pass x.1.engine) (λ i. (so.1 i, sym left i)) ends.answered in
        let opens = opens_on mid.thread again answer began begins.stood begins.outside begins.answered begins.goes_on in
        record {
          body = body;
          same = same;
          mid = mid;
          again = again;
          after = after;
          answer = answer;
          began = began;
          begins = begins;
          here = here ∙ words;
          depth_is = opens.depth_is;
          arena_is = opens.arena_is;
          body' = body';
          last = last;
          runs = run;
          ends = subst (λ (x : R). HasEnded last x told new) so.0 ends;
          plain = law began.words mid.thread began made.0 last.thread done.at done.wrote last.words new opens made.1 ended;
        }

    ran : (answer : Answer) (began : Lent) (begins : HasBegun mid.thread again answer began) → began.words ≡ mid.words → (last : Lent) (gives : Result R (Stopped E)) → CalledAtMut fn body began gives body' last → EndsBy gives last told new → IsPlainRun fn makings After passed first done new
    ran answer began begins here last (Ok value) runs ends = committed answer began begins here last value runs ends
    ran answer began begins here last (Err (Engine why)) runs ends = absurd (not_stopped told why (in_transaction last.thread.engine) ends.1 tt)
    ran answer began begins here last (Err (Cancelled why)) runs ends = absurd (not_cancelled told why (in_transaction last.thread.engine) ends.1 tt)

    pub plain_run : (w : Words) → IsTry fn body mid again told body' (record { words = w; thread = new }) → IsPlainRun fn makings After passed first done new
    plain_run w (inl run) = ran run.answer run.began run.begins run.here run.last run.gives run.runs run.ends
    plain_run w (inr none) = absurd (not_stopped told none.stop true none.told_is tt)

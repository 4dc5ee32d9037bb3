-- What a block within a transaction comes to.
use Rattle.std.proofs.Common.{◌≡◌, ◌∙◌, ◌⊎◌, inl, inr, ℕ, Bool, true, false, List, [], ◌∷◌, ◌++◌, drop, length, None, Some, Result, Ok, Err, ap, refl, subst, sym, true≢false, arith}
use Rattle.transactions.proofs.Common.{Abort, Actions, Answer, Begin, Call, Code, Commit, Core, Done, Enters, Frame, GoesOn, HasGoneBack, IsAnswered, IsAsBefore, IsKept, IsWithin, IsWithinStill, Leaves, Lent, NoCommit, Outside, Refusal, Refused, Replied, Reply, Standing, StartsWith, State, StaysWithin, Stop, Tells, Words, abort_for, answer_of, blocks_after, came_over, closed, in_transaction, irrevocable_room, is_inside, is_open, on_answer, or_else, reply, reply_unless, stands_for, start_of, unless, usual, view_of, went_on}
use Rattle.norec_core.specs.declared.answer.Answer.TheVariants as answers
use Rattle.itm_runtime.specs.declared.stop.Stop.TheVariants as stops
use Rattle.call_rules.proofs.Calls.Restarts.{cancel_whole, commit_whole}
use Rattle.transactions.proofs.InnerBlocks.{HasEntered, committed, fresh_begun, goes_abort, goes_commit, has_entered, taken_back, within_self, begin_idle}
use Rattle.transactions.proofs.Looks.{engine_open}
use Rattle.transactions.proofs.LastEngines.{arena_left, last, mid, replied, writes_left}
use Rattle.transactions.proofs.Within.{begins, begins_more, on_self, on_twice, ran_more, ran_none, ran_twice, replied_on}

-- ## As before

pub within_twice : (first old new : Core) → IsWithin first old → IsWithin old new → IsWithin first new
within_twice first old new a b = record {
  blocks = b.blocks ∙ a.blocks;
  arena = b.arena ∙ a.arena;
  commits = begins_more _ _ _ _ b.commits refl a.commits;
  undos = begins_more _ _ _ _ b.undos refl a.undos;
  ran = ran_twice _ _ _ a.ran b.ran;
  on = on_twice first old new a.on b.on;
}

starts_same : {A : Type 0} {xs ys : List A} → xs ≡ ys → StartsWith xs ys
starts_same {xs = xs} e = subst (StartsWith xs) e (begins xs)

pub back_within : (old new : Standing) → HasGoneBack old new → IsWithin old.engine new.engine
back_within old new b = (let t = b.1 in record { blocks = t.blocks; arena = t.arena; commits = starts_same t.commits; undos = starts_same t.undos; ran = (b.0, t.ran); on = t.on })

pub back_twice : (a b c : Standing) → HasGoneBack a b → HasGoneBack b c → HasGoneBack a c
back_twice a b c f g = (let s = f.1 in let t = g.1 in (
  f.0 ++ g.0,
  record {
    writes = t.writes ∙ s.writes;
    blocks = t.blocks ∙ s.blocks;
    arena = t.arena ∙ s.arena;
    commits = t.commits ∙ s.commits;
    undos = t.undos ∙ s.undos;
    ran = ran_more _ _ _ f.0 g.0 s.ran t.ran;
    on = on_twice a.engine b.engine c.engine s.on t.on;
  },
))

pub back_self : (t : Standing) → HasGoneBack t t
back_self t = ([], record { writes = refl; blocks = refl; arena = refl; commits = refl; undos = refl; ran = ran_none _ _ refl; on = on_self t.engine })

pub before_twice : (a b c : Lent) → IsAsBefore a b → IsAsBefore b c → IsAsBefore a c
before_twice a b c s t o = (let u = t o in back_twice a.thread b.thread c.thread (s (ap is_inside (sym u.1.blocks) ∙ o)) u)

pub before_within : (old new : Lent) → IsAsBefore old new → StaysWithin old new
before_within old new back first fresh w = by_open (in_transaction new.thread.engine) refl
  where
    by_open : (b : Bool) → in_transaction new.thread.engine ≡ b → IsWithinStill first new.thread.engine
    by_open false shut = inr shut
    by_open true o = elim w [
      | inl within ↦ inl (within_twice first old.thread.engine new.thread.engine within (back_within old.thread new.thread (back o)))
      | inr shut ↦ absurd (true≢false (sym o ∙ ap is_inside (back o).1.blocks ∙ shut))
    ]

pub kept_twice : (a b c : Lent) → IsKept a b → IsKept b c → IsKept a c
kept_twice a b c s t = record { words = t.words ∙ s.words; mine_is = t.mine_is ∙ s.mine_is; went = went_on (view_of a.thread.pass) (view_of b.thread.pass) (view_of c.thread.pass) s.went t.went }

-- ## A begin that is refused, or for which there is no memory

module _ (words : Words) (t new : Standing) (is : t.engine.irrevocable ≡ false) (inside : in_transaction t.engine ≡ true) where
  refused_back : (why : Refusal) → IsAnswered words (start_of t (Begin usual 0) false) (Reply (Refused why)) new.pass new.engine → in_transaction new.engine ≡ true → HasGoneBack t new
  refused_back why a o =
      let goes : (c : Core) → irrevocable_room c (Begin usual 0) ≡ None = λ c. refl in
      let c = mid words t new (Begin usual 0) false (Refused why) a is goes in
      let k = (last words t new (Begin usual 0) false (Refused why) a is goes).kept in
      let g = replied words t new (Begin usual 0) false (Refused why) a is goes in
      let acts : new.engine.actions ≡ t.engine.actions = g.actions ∙ k.actions in (
        [],
        record {
          writes = writes_left words t new (Begin usual 0) false (Refused why) a is goes o ∙ k.writes;
          blocks = g.blocks ∙ k.blocks;
          arena = arena_left words t new (Begin usual 0) false (Refused why) a is goes o ∙ k.arena is;
          commits = ap (λ (x : Actions). x.commits) acts;
          undos = ap (λ (x : Actions). x.undos) acts;
          ran = ran_none _ _ (ap (λ (x : Actions). x.ran) acts);
          on = replied_on words t new (Begin usual 0) false (Refused why) goes a is inside o;
        },
      )

  pub not_entered : (stop : Stop) → Tells words t (Begin usual 0) (answer_of stop) new → in_transaction new.engine ≡ true → HasGoneBack t new
  not_entered (stops.Refused why) a o = refused_back why a o
  not_entered (stops.Restarted clock word) a o = (let same = ap (λ v. v.looks) (a.served.at_once (begin_idle t.engine inside)).0 in let looks = a.served.tells.looks in absurd (omega arith))
  not_entered stops.Memory a o = subst (HasGoneBack t) (sym a.err) (back_self t)
  not_entered stop a o = absurd (true≢false (sym o ∙ a.served.tells.closes.closed))

-- ## The call that ends it

-- outside a transaction nothing is open after it either
shut_commit : (r : Replied) (c : Core) → in_transaction c ≡ false → is_inside (blocks_after c Commit r) ≡ false
shut_commit Done c shut = by_blocks c.blocks shut
  where
    by_blocks : (bs : List Frame) → is_inside bs ≡ false → is_inside (closed bs) ≡ false
    by_blocks [] shut = refl
    by_blocks (b ∷ bs) shut = absurd (true≢false shut)
shut_commit r c shut = shut

shut_abort : (r : Replied) (c : Core) → in_transaction c ≡ false → is_inside (blocks_after c (Abort false) r) ≡ false
shut_abort (Code n) c shut = by_blocks c.blocks shut
  where
    by_blocks : (bs : List Frame) → is_inside bs ≡ false → is_inside (drop 1 bs) ≡ false
    by_blocks [] shut = refl
    by_blocks (b ∷ bs) shut = absurd (true≢false shut)
shut_abort r c shut = shut

commit_refused : (d : ℕ) (s : State) → is_open s ≡ false → reply d s Commit ≡ Refused Outside
commit_refused d s e = ap (λ (b : Bool). reply_unless (or_else (unless b Outside) None) Done) e

abort_refused : (d : ℕ) (s : State) → is_open s ≡ false → reply d s (Abort false) ≡ Refused Outside
abort_refused d s e = ap (λ (b : Bool). reply_unless (or_else (or_else (unless b Outside) (abort_for s false)) None) (Code 24)) e

abbrev Same : Standing → Standing → Type 0
Same old new = (view_of new.pass).mine ≡ (view_of old.pass).mine

module _ (words : Words) (t l new : Standing) (began : Core) (h : HasEntered t.engine began) (is : l.engine.irrevocable ≡ false) (inside : in_transaction t.engine ≡ true) (w : IsWithinStill began l.engine) where
  abbrev Over : Type 0
  Over = in_transaction new.engine ≡ false

  alone : (bs : List Frame) → is_inside bs ≡ true → length bs ≡ 0 → ⊥
  alone [] o e = true≢false (sym o)
  alone (b ∷ bs) o e = absurd (cc)

  not_outermost : length l.engine.blocks ≡ 1 → in_transaction l.engine ≡ true → ⊥
  not_outermost e o = elim w [
    | inl within ↦ alone t.engine.blocks inside (let n = ap length (within.blocks ∙ h.blocks) in omega arith)
    | inr shut ↦ true≢false (sym o ∙ shut)
  ]

  commit_reply : (r : Replied) → IsAnswered words (start_of l Commit false) (Reply r) new.pass new.engine → Over ⊎ (IsWithin t.engine new.engine × (r ≡ Done))
  commit_reply r a = elim w [
    | inl within ↦ inr (committed words t l new began h is inside within r a)
    | inr shut ↦ inl (let k = (last words l new Commit false r a is goes_commit).kept in let c = mid words l new Commit false r a is goes_commit in ap is_inside (replied words l new Commit false r a is goes_commit).blocks ∙ shut_commit r c (ap is_inside k.blocks ∙ shut))
  ]

  pub commit_out : (a : Answer) → IsAnswered words (start_of l Commit false) a new.pass new.engine → (Over ⊎ (IsWithin t.engine new.engine × (a ≡ Reply Done))) × Same l new
  commit_out (Reply r) a = elim (commit_reply r a) [
    | inl shut ↦ (inl shut, a.served.mine)
    | inr x ↦ (inr (x.0, ap Reply x.1), a.served.mine)
  ]
  commit_out (answers.Committed at wrote) a = absurd (not_outermost a.served.tells.outermost a.served.tells.was_open)
  commit_out (answers.Restarted clock word) a = absurd (commit_whole (start_of l Commit false) (answers.Restarted clock word) (view_of new.pass) new.engine a.served refl tt)
  commit_out answer a = (inl a.served.tells.closes.closed, a.served.mine)

  -- one that is served
  pub served_done : (a : Answer) → IsAnswered words (start_of l Commit false) a new.pass new.engine → GoesOn a → a ≡ Reply Done
  served_done a answered on = on_answer (λ (x : Answer). IsAnswered words (start_of l Commit false) x new.pass new.engine → x ≡ Reply Done) a on
      (λ r goes now. elim w [
        | inl within ↦ ap Reply (committed words t l new began h is inside within r now).1
        | inr shut ↦ (let m = came_over (start_of l Commit false) (view_of new.pass) new.engine in
            absurd (goes (stops.Refused Outside) (ap (λ (x : Replied). Some (Reply x)) (sym (now.served.tells.here.reply_is ∙ commit_refused l.engine.depth (stands_for l.engine m) (engine_open l.engine m is ∙ shut))))))
      ])
      (λ at wrote now. absurd (not_outermost now.served.tells.outermost now.served.tells.was_open)) answered

  abort_reply : (r : Replied) → IsAnswered words (start_of l (Abort false) false) (Reply r) new.pass new.engine → Over ⊎ HasGoneBack t new
  abort_reply r a = elim w [
    | inl within ↦ inr (taken_back words t l new began h is inside within r a).0
    | inr shut ↦ inl (let k = (last words l new (Abort false) false r a is goes_abort).kept in let c = mid words l new (Abort false) false r a is goes_abort in ap is_inside (replied words l new (Abort false) false r a is goes_abort).blocks ∙ shut_abort r c (ap is_inside k.blocks ∙ shut))
  ]

  -- one that is served
  pub served_back : (a : Answer) → IsAnswered words (start_of l (Abort false) false) a new.pass new.engine → GoesOn a → HasGoneBack t new × (a ≡ Reply (Code 24))
  served_back a answered on = on_answer (λ (x : Answer). IsAnswered words (start_of l (Abort false) false) x new.pass new.engine → HasGoneBack t new × (x ≡ Reply (Code 24))) a on
      (λ r goes now. elim w [
        | inl within ↦ (let back = taken_back words t l new began h is inside within r now in (back.0, ap Reply back.1))
        | inr shut ↦ (let m = came_over (start_of l (Abort false) false) (view_of new.pass) new.engine in
            absurd (goes (stops.Refused Outside) (ap (λ (x : Replied). Some (Reply x)) (sym (now.served.tells.here.reply_is ∙ abort_refused l.engine.depth (stands_for l.engine m) (engine_open l.engine m is ∙ shut))))))
      ])
      (λ at wrote now. absurd (subst NoCommit now.served.tells.call tt)) answered

  pub abort_out : (a : Answer) → IsAnswered words (start_of l (Abort false) false) a new.pass new.engine → (Over ⊎ HasGoneBack t new) × Same l new
  abort_out (Reply r) a = (abort_reply r a, a.served.mine)
  abort_out (answers.Committed at wrote) a = absurd (subst NoCommit a.served.tells.call tt)
  abort_out (answers.Restarted clock word) a = absurd (cancel_whole (start_of l (Abort false) false) (answers.Restarted clock word) (view_of new.pass) new.engine false a.served refl tt)
  abort_out answer a = (inl a.served.tells.closes.closed, a.served.mine)

-- ## One run

module _ (from began last new : Lent) (e : Enters from began) (kept : IsKept began last) (within : StaysWithin began last) where
  abbrev h : HasEntered from.thread.engine began.thread.engine
  h = has_entered from.words from.thread began.thread e.answered e.revocable e.inside

  still : IsWithinStill began.thread.engine last.thread.engine
  still = within began.thread.engine (fresh_begun from.thread.engine began.thread.engine h) (inl (within_self began.thread.engine))

  kept_so : (call : Call) (left : Result (Unit {0}) Stop) → (ends : Leaves call last left new) → Same last.thread new.thread → IsKept from new
  kept_so call left ends mine = record {
    words = ends.words ∙ kept.words ∙ e.words;
    mine_is = mine ∙ kept.mine_is ∙ e.answered.served.mine;
    went = went_on (view_of from.thread.pass) (view_of last.thread.pass) (view_of new.thread.pass) (went_on (view_of from.thread.pass) (view_of began.thread.pass) (view_of last.thread.pass) e.answered.served.went kept.went) ends.answered.served.went;
  }

  pub commit_kept : (left : Result (Unit {0}) Stop) → Leaves Commit last left new → IsKept from new
  commit_kept left ends = kept_so Commit left ends (commit_out last.words from.thread last.thread new.thread began.thread.engine h ends.revocable e.inside still ends.answer ends.answered).1

  pub commit_within : (left : Result (Unit {0}) Stop) → Leaves Commit last left new → StaysWithin from new
  commit_within left ends first fresh w = elim (commit_out last.words from.thread last.thread new.thread began.thread.engine h ends.revocable e.inside still ends.answer ends.answered).0 [
    | inl shut ↦ inr shut
    | inr x ↦ elim w [
      | inl there ↦ inl (within_twice first from.thread.engine new.thread.engine there x.0)
      | inr shut ↦ absurd (true≢false (sym e.inside ∙ shut))
    ]
  ]

  pub commit_served : (done : Unit {0}) → Leaves Commit last (Ok done) new → IsAnswered last.words (start_of last.thread Commit false) (Reply Done) new.thread.pass new.thread.engine
  commit_served done ends =
      subst (λ (a : Answer). IsAnswered last.words (start_of last.thread Commit false) a new.thread.pass new.thread.engine)
      (served_done last.words from.thread last.thread new.thread began.thread.engine h ends.revocable e.inside still ends.answer ends.answered ends.checked) ends.answered

  not_done : (stop : Stop) → answer_of stop ≡ Some (Reply Done) → ⊥
  not_done (stops.Refused why) is = absurd (cc)
  not_done stop is = absurd (cc)

  -- a commit of it that is not served finds no transaction open
  pub commit_failed : (stop : Stop) → Leaves Commit last (Err stop) new → IsAsBefore from new
  commit_failed stop ends o = elim (commit_out last.words from.thread last.thread new.thread began.thread.engine h ends.revocable e.inside still ends.answer ends.answered).0 [
    | inl shut ↦ absurd (true≢false (sym o ∙ shut))
    | inr x ↦ absurd (not_done stop (ends.checked ∙ ap Some x.1))
  ]

  pub abort_kept : (left : Result (Unit {0}) Stop) → Leaves (Abort false) last left new → IsKept from new
  abort_kept left ends = kept_so (Abort false) left ends (abort_out last.words from.thread last.thread new.thread began.thread.engine h ends.revocable e.inside still ends.answer ends.answered).1

  pub abort_back : (left : Result (Unit {0}) Stop) → Leaves (Abort false) last left new → IsAsBefore from new
  abort_back left ends o = elim (abort_out last.words from.thread last.thread new.thread began.thread.engine h ends.revocable e.inside still ends.answer ends.answered).0 [
    | inl shut ↦ absurd (true≢false (sym o ∙ shut))
    | inr back ↦ back
  ]

  served_so : (done : Unit {0}) (ends : Leaves (Abort false) last (Ok done) new) → HasGoneBack from.thread new.thread × (ends.answer ≡ Reply (Code 24))
  served_so done ends = served_back last.words from.thread last.thread new.thread began.thread.engine h ends.revocable e.inside still ends.answer ends.answered ends.checked

  -- a rollback of it that is served leaves the transaction open
  pub back_served : (done : Unit {0}) → Leaves (Abort false) last (Ok done) new → (in_transaction new.thread.engine ≡ true) × HasGoneBack from.thread new.thread
  back_served done ends =
      let back = (served_so done ends).0 in
      (ap is_inside back.1.blocks ∙ e.inside, back)

  pub abort_served : (done : Unit {0}) → Leaves (Abort false) last (Ok done) new → IsAnswered last.words (start_of last.thread (Abort false) false) (Reply (Code 24)) new.thread.pass new.thread.engine
  abort_served done ends =
      subst (λ (a : Answer). IsAnswered last.words (start_of last.thread (Abort false) false) a new.thread.pass new.thread.engine) (served_so done ends).1 ends.answered

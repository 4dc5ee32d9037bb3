-- What a call of a body keeps.
use Rattle.std.proofs.Common.{◌≡◌, ◌∙◌, ℕ, false, Option, None, Some, Result, Ok, Err, ap, subst, sym}
use Rattle.transactions.proofs.Common.{Action, Answer, Call, CommitAction, Done, GoesOn, IsAnswered, IsKept, Lent, Owns, Reply, Standing, Stop, Tells, UndoAction, Went, Words, answer_to_read, answer_to_write, came_over, mine_of, on_reply, refusal, stands_for, start_of, unrefused, view_of, went_self}
use Rattle.itm_runtime.specs.declared.stop.Stop.TheVariants.{Memory}
use Rattle.transactions.proofs.Modes.{KeepsMode, stays_revocable}

module _ (words : Words) (old : Standing) (call : Call) (new : Standing) where
  pub owned : (told : Option Answer) → Tells words old call told new → Owns words new.pass
  owned (Some a) t = t.own
  owned None t = t.own

  pub revocable : (told : Option Answer) → Tells words old call told new → KeepsMode call → old.engine.irrevocable ≡ false → new.engine.irrevocable ≡ false
  revocable (Some a) t keeps is = stays_revocable (start_of old call false) a (view_of new.pass) new.engine t.served t.stands keeps is
  revocable None t keeps is = subst (λ (s : Standing). s.engine.irrevocable ≡ false) (sym t.err) is

  abbrev IsMine : Type 0
  IsMine = (view_of new.pass).mine ≡ (view_of old.pass).mine

  mine_at : (stop : Stop) → Tells words old call (answer_to_write (Err stop)) new → IsMine
  mine_at Memory t = ap (λ (s : Standing). (view_of s.pass).mine) t.err
  mine_at stop t = t.served.mine

  pub mine_of_read : (r : Result ℕ Stop) → Tells words old call (answer_to_read r) new → IsMine
  mine_of_read (Ok n) t = t.served.mine
  mine_of_read (Err stop) t = mine_at stop t

  pub mine_of_write : (r : Result (Unit {0}) Stop) → Tells words old call (answer_to_write r) new → IsMine
  mine_of_write (Ok done) t = t.served.mine
  mine_of_write (Err stop) t = mine_at stop t

  went_by : (told : Option Answer) → Tells words old call told new → Went (view_of old.pass) (view_of new.pass)
  went_by (Some a) t = t.served.went
  went_by None t = subst (λ (s : Standing). Went (view_of old.pass) (view_of s.pass)) (sym t.err) (went_self (view_of old.pass))

-- the same of a transaction as it was lent
module _ (inside now : Lent) (words : Words) (call : Call) (is : inside ≡ now) (new : Standing) where
  kept_by : (told : Option Answer) → Tells words inside.thread call told new → (view_of new.pass).mine ≡ (view_of inside.thread.pass).mine → IsKept now (record { words = inside.words; thread = new })
  kept_by told t mine = record {
    words = ap (λ (l : Lent). l.words) is;
    mine_is = mine ∙ ap mine_of is;
    went = subst (λ (l : Lent). Went (view_of l.thread.pass) (view_of new.pass)) is (went_by words inside.thread call new told t);
  }

  pub kept_by_read : (r : Result ℕ Stop) → Tells words inside.thread call (answer_to_read r) new → IsKept now (record { words = inside.words; thread = new })
  kept_by_read r t = kept_by (answer_to_read r) t (mine_of_read words inside.thread call new r t)

  pub kept_by_write : (r : Result (Unit {0}) Stop) → Tells words inside.thread call (answer_to_write r) new → IsKept now (record { words = inside.words; thread = new })
  kept_by_write r t = kept_by (answer_to_write r) t (mine_of_write words inside.thread call new r t)

-- an action that was registered, where the transaction goes on
pub action_told : (w : Words) (t new : Standing) (action : Action) (a : Answer) → IsAnswered w (start_of t (CommitAction action) false) a new.pass new.engine → GoesOn a → IsAnswered w (start_of t (CommitAction action) false) (Reply Done) new.pass new.engine
action_told w t new action a answered on =
    let s = start_of t (CommitAction action) false in
    let v = view_of new.pass in
    subst (λ (x : Answer). IsAnswered w s x new.pass new.engine)
    (on_reply (λ (x : Answer). x ≡ Reply Done) s a v new.engine tt answered.served on (λ r goes now. unrefused r Done (refusal t.engine.depth (stands_for t.engine (came_over s v new.engine)) s.call) now.tells.here.reply_is goes)) answered

pub undo_told : (w : Words) (t new : Standing) (action : Action) (a : Answer) → IsAnswered w (start_of t (UndoAction action) false) a new.pass new.engine → GoesOn a → IsAnswered w (start_of t (UndoAction action) false) (Reply Done) new.pass new.engine
undo_told w t new action a answered on =
    let s = start_of t (UndoAction action) false in
    let v = view_of new.pass in
    subst (λ (x : Answer). IsAnswered w s x new.pass new.engine)
    (on_reply (λ (x : Answer). x ≡ Reply Done) s a v new.engine tt answered.served on (λ r goes now. unrefused r Done (refusal t.engine.depth (stands_for t.engine (came_over s v new.engine)) s.call) now.tells.here.reply_is goes)) answered

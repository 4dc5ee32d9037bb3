-- A transfer's calls, by what each of them tells.
use Rattle.std.proofs.Common.{◌≡◌, ℕ, ◌-◌, ◌<◌, ◌≤◌, ◌^◌, [], ◌∷◌, Result, Ok, Err, false, ap, refl, subst, sym}
use Rattle.bank.proofs.Common.{Call, Calls, CommitAction, Done, HasPaidIn, IsMade, R, RECEIPT, Read, Replied, Standing, Stop, Transfer, U8, W, Words, Write, answer_to_read, block_of, bytes_of_number, bytes_reply, deeds_of_payment, number, start_of}
use Rattle.norec_core.specs.declared.answer.Answer.TheVariants.{Reply}
use Rattle.call_rules.specs.CallResults.{IsAnswered, Tells}
use Rattle.typed_cells.specs.Reads.{read_as}
use Rattle.transactions.proofs.Deeds.{makes_then}

-- the call was answered by this reply
abbrev pub Replies : Words → Standing → Call → Replied → Standing → Type 0
Replies words old call r new = IsAnswered words (start_of old call false) (Reply r) new.pass new.engine

abbrev IsFine : Result ℕ Stop → Type 0
IsFine (Ok n) = Unit {0}
IsFine (Err stop) = ⊥

abbrev number_in : ℕ → Result ℕ Stop → ℕ
number_in other (Ok n) = n
number_in other (Err stop) = other

read_by : (words : Words) (old new : Standing) (at had : ℕ) (read : Result ℕ Stop) → Tells words old (Read R U8 at) (answer_to_read read) new → Ok had ≡ read_as (λ n. n) read → Replies words old (Read R U8 at) (bytes_reply (bytes_of_number had)) new
read_by words old new at had (Ok n) tells e = subst (λ k. Replies words old (Read R U8 at) (bytes_reply (bytes_of_number k)) new) (ap (number_in n) (sym e)) tells
read_by words old new at had (Err stop) tells e = absurd (subst IsFine e tt)

module _ (words : Words) (old new : Standing) (at had : ℕ) where
  pub read_replied : (read : Result ℕ Stop) × Tells words old (Read R U8 at) (answer_to_read read) new × (Ok had ≡ read_as (λ n. n) read) → Replies words old (Read R U8 at) (bytes_reply (bytes_of_number had)) new
  read_replied told = read_by words old new at had told.0 told.1 told.2

pub over : (w words : Words) (old new : Standing) (call : Call) (r : Replied) → w ≡ words → Replies w old call r new → Replies words old call r new
over w words old new call r e a = subst (λ (v : Words). Replies v old call r new) e a

pub write_replied : (w words : Words) (old new : Standing) (at n m : ℕ) → w ≡ words → n ≡ m → Replies w old (Write W at (number n)) Done new → Replies words old (Write W at (number m)) Done new
write_replied w words old new at n m e is a = subst (λ (k : ℕ). Replies words old (Write W at (number k)) Done new) is (over w words old new (Write W at (number n)) Done e a)

pub made_by : (t : Transfer) (words : Words) (old a b e new : Standing) (had : ℕ) → had < 2 ^ 64 → t.amount ≤ had
    → Replies words old (Read R U8 t.from.place) (bytes_reply (bytes_of_number had)) a
    → Replies words a (Write W t.from.place (number (had - t.amount))) Done b
    → HasPaidIn t.to.place t.amount words b e
    → Replies words e (CommitAction (record { fun = RECEIPT; arg = t.amount })) Done new
    → IsMade t words old new
made_by t words old a b e new had known enough r1 w1 paid last = record {
  had = had;
  has = paid.has;
  can = record { known = known; enough = enough; room = paid.room };
  gone = paid.gone;
  makes = (
    a,
    tt,
    r1,
    (b, tt, w1, makes_then words b e new (block_of paid.gone (deeds_of_payment t.to.place t.amount paid.has)) (Calls (CommitAction (record { fun = RECEIPT; arg = t.amount })) Done ∷ []) paid.makes (new, tt, last, refl)),
  );
}

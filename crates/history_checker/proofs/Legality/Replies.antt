-- The tests of replies and of actions are true exactly where both are the same.
use Rattle.std.proofs.Common.{◌≡◌, ℕ, true, ◌&&◌, ◌==◌, if◌then◌else◌, List, refl, sym, ap, subst, ◌∙◌, eq-eqb, eqb-true}
use Rattle.history_checker.proofs.Common.{Bytes, Code, Decides, Done, IsIrrevocable, NoAbort, NoIrrevocable, OutOfArena, OutOfRange, Outside, Overlap, Ran, Refusal, Refused, Reply, TooDeep, and_from, and_parts, bytes_eq-Decides, bytes_reply, pointwise, same_kind, same_ran, same_reply, slice_eq-Decides}
use Rattle.itm_types.{specs.Refusals.number_of, specs.declared.call.ActionKind.ActionKind}
use Rattle.itm_types.specs.declared.call.ActionKind.TheVariants as kinds

-- ## Refusals

-- the refusal with this number
abbrev numbered : ℕ → Refusal
numbered n =
    if n == 1 then Outside else if n == 2 then OutOfRange else if n == 3 then OutOfArena else if n == 4 then Overlap else if n == 5 then NoAbort else if n == 6 then IsIrrevocable else if n == 7 then NoIrrevocable else TooDeep

-- its number leads back to it
numbered_back : (r : Refusal) → numbered (number_of r) ≡ r
numbered_back Outside = refl
numbered_back r = refl

-- no two refusals have one number
same_number : (a b : Refusal) → number_of a ≡ number_of b → a ≡ b
same_number a b e = sym (numbered_back a) ∙ (ap numbered e ∙ numbered_back b)

-- ## Replies

-- a reply is the same as itself
reply_itself : (r : Reply) → same_reply r r ≡ true
reply_itself Done = refl
reply_itself (Bytes a) = (bytes_eq-Decides a.items a.items).1 refl
reply_itself (Code n) = eq-eqb n n refl
reply_itself (Refused a) = eq-eqb (number_of a) (number_of a) refl

-- replies that pass are one
one_reply : (r s : Reply) → same_reply r s ≡ true → r ≡ s
one_reply Done Done e = refl
one_reply (Bytes a) (Bytes b) e = ap bytes_reply ((bytes_eq-Decides a.items b.items).0 e)
one_reply (Code m) (Code n) e = ap (λ (k : ℕ). Code k) (eqb-true m n e)
one_reply (Refused a) (Refused b) e = ap (λ (x : Refusal). Refused x) (same_number a b (eqb-true (number_of a) (number_of b) e))
one_reply r s e = absurd (cc)

-- the test of replies
pub reply_decides : (r s : Reply) → Decides (same_reply r s) (r ≡ s)
reply_decides r s = (one_reply r s, λ e. subst (λ (x : Reply). same_reply r x ≡ true) e (reply_itself r))

-- ## Actions that ran

-- kinds that pass are one
one_kind : (a b : ActionKind) → same_kind a b ≡ true → a ≡ b
one_kind kinds.Commit kinds.Undo e = absurd (cc)
one_kind kinds.Undo kinds.Commit e = absurd (cc)
one_kind a b e = refl

-- a kind is the same as itself
kind_itself : (a : ActionKind) → same_kind a a ≡ true
kind_itself kinds.Commit = refl
kind_itself kinds.Undo = refl

-- actions that pass are one
one_ran : (a b : Ran) → same_ran a b ≡ true → a ≡ b
one_ran a b e =
    let first = and_parts (same_kind a.kind b.kind && (a.action.fun == b.action.fun)) (a.action.arg == b.action.arg) e in
    let second = and_parts (same_kind a.kind b.kind) (a.action.fun == b.action.fun) first.0 in
    let kind : a.kind ≡ b.kind = one_kind a.kind b.kind second.0 in
    let fun : a.action.fun ≡ b.action.fun = eqb-true a.action.fun b.action.fun second.1 in
    let arg : a.action.arg ≡ b.action.arg = eqb-true a.action.arg b.action.arg first.1 in
    (λ i. record { kind = kind i; action = record { fun = fun i; arg = arg i } })

-- an action is the same as itself
ran_itself : (a : Ran) → same_ran a a ≡ true
ran_itself a =
    and_from (same_kind a.kind a.kind && (a.action.fun == a.action.fun)) (a.action.arg == a.action.arg)
    (and_from (same_kind a.kind a.kind) (a.action.fun == a.action.fun) (kind_itself a.kind) (eq-eqb a.action.fun a.action.fun refl))
    (eq-eqb a.action.arg a.action.arg refl)

-- the test of actions
ran_decides : (a b : Ran) → Decides (same_ran a b) (a ≡ b)
ran_decides a b = (one_ran a b, λ e. subst (λ (x : Ran). same_ran a x ≡ true) e (ran_itself a))

-- the same actions, in order
pub all_ran_decides : (xs ys : List Ran) → Decides (pointwise same_ran xs ys) (xs ≡ ys)
all_ran_decides xs ys = slice_eq-Decides ran_decides xs ys (pointwise same_ran xs ys) refl

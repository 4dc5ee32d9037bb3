-- A line of a history is its fields with single spaces between them, and the feed.
use Rattle.std.proofs.Common.{◌≡◌, ℕ, Bool, true, false, cond, eqb, List, [], ◌∷◌, ◌++◌, length, refl, sym, ap, ◌∙◌, append_assoc, codes, decimal}
use Rattle.history_reader.proofs.Common.{Attempt, Call, CallRecord, Depth, Ran, Reply, Three, Version, arena_fields, arena_line, body_text, call_fields, call_line, commit_action_text, copy_text, depth_fields, encode_lower, fill_text, final_fields, first_lines, head_fields, head_line, joined, last_line, outcome_name, props_text, memory_fields, operands_of, props_end, ran_fields, ran_line, reply_fields, reply_text, restart_fields, restart_line, try_text, undo_action_text, undone_fields, undone_line, verb_in, verb_text, version_lines}
use Rattle.itm_types.specs.declared.call.Call.TheVariants as calls
use Rattle.itm_types.specs.declared.call.Reply.TheVariants as replies

-- ## Lines

-- the line of these fields
abbrev pub line_of : List (List ℕ) → List ℕ
line_of fs = joined fs ++ 10 ∷ []

two_ends : (a b c d e s f n : List ℕ) → (a ++ b ++ s ++ c ++ s ++ d ++ s ++ e) ++ (s ++ f ++ n) ≡ a ++ (b ++ (s ++ (c ++ (s ++ (d ++ (s ++ (e ++ (s ++ f)))))))) ++ n
two_ends a b c d e s f n = simp append_assoc

pub head_joined : (a : Attempt) → head_line a ≡ line_of (head_fields a)
unfolding head_line try_text props_end
head_joined a = two_ends (codes "attempt ") (decimal a.thread) (decimal a.nth) (decimal a.at) (outcome_name a.outcome) (codes " ") (props_text a.props) (codes "\n")

arena_chosen : (b : Bool) (digits : List ℕ) → cond b (codes "arena -\n") (codes "arena " ++ digits ++ codes "\n") ≡ line_of (codes "arena" ∷ cond b (codes "-") digits ∷ [])
arena_chosen true digits = refl
arena_chosen false digits = refl

pub arena_joined : (bytes : List ℕ) → arena_line bytes ≡ line_of (arena_fields bytes)
unfolding arena_line
arena_joined bytes = arena_chosen (eqb (length bytes) 0) (encode_lower bytes)

pub memory_joined : (version : Version) (bytes : List ℕ) → first_lines version bytes ≡ version_lines version ++ line_of (memory_fields bytes)
unfolding first_lines
memory_joined version bytes = simp append_assoc

pub depth_joined : (depth : Depth) → version_lines (Three depth) ≡ codes "itm-history 3\n" ++ line_of (depth_fields depth.blocks)
depth_joined depth = refl

restart_chosen : (b : Bool) (digits : List ℕ) → cond b (codes "restart -\n") (codes "restart " ++ digits ++ codes "\n") ≡ line_of (codes "restart" ∷ cond b (codes "-") digits ∷ [])
restart_chosen true digits = refl
restart_chosen false digits = refl

pub restart_joined : (bytes : List ℕ) → restart_line bytes ≡ line_of (restart_fields bytes)
unfolding restart_line
restart_joined bytes = restart_chosen (eqb (length bytes) 0) (encode_lower bytes)

pub undone_joined : (r : Ran) → undone_line r ≡ line_of (undone_fields r)
unfolding undone_line
undone_joined r = simp append_assoc

pub final_joined : (clock : ℕ) (bytes : List ℕ) → last_line clock bytes ≡ line_of (final_fields clock bytes)
unfolding last_line
final_joined clock bytes = simp append_assoc

pub ran_joined : (r : Ran) → ran_line r ≡ line_of (ran_fields r)
unfolding ran_line
ran_joined r = simp append_assoc

-- ## Calls

-- what is called and its operands
body_joined : (c : Call) → body_text c ≡ joined (verb_text (verb_in c) ∷ operands_of c)
unfolding body_text copy_text fill_text commit_action_text undo_action_text
body_joined calls.Commit = refl
body_joined c = first_of (simp append_assoc, search)

reply_joined : (r : Reply) → codes " = " ++ reply_text r ≡ 32 ∷ joined (codes "=" ∷ reply_fields r)
unfolding reply_text
reply_joined replies.Done = refl
reply_joined r = refl

-- fields that stand behind other ones
joined_after : (f : List ℕ) (fs : List (List ℕ)) (g : List ℕ) (gs : List (List ℕ)) → joined (f ∷ fs ++ g ∷ gs) ≡ joined (f ∷ fs) ++ 32 ∷ joined (g ∷ gs)
joined_after f [] g gs = refl
joined_after f (h ∷ fs) g gs = ap (λ (l : List ℕ). f ++ 32 ∷ l) (joined_after h fs g gs) ∙ sym (append_assoc f (32 ∷ joined (h ∷ fs)) (32 ∷ joined (g ∷ gs)))

ending : (a b c d n : List ℕ) → a ++ b ++ c ++ d ++ n ≡ a ++ (b ++ (c ++ d)) ++ n
ending a b c d n = simp append_assoc

pub call_joined : (e : CallRecord) → call_line e ≡ line_of (call_fields e)
unfolding call_line
call_joined e =
    let body = joined (verb_text (verb_in e.call) ∷ operands_of e.call) in
    let reply = 32 ∷ joined (codes "=" ∷ reply_fields e.reply) in
    ending (codes "call ") (body_text e.call) (codes " = ") (reply_text e.reply) (codes "\n")
    ∙ ap (λ (t : List ℕ). codes "call " ++ (t ++ (codes " = " ++ reply_text e.reply)) ++ codes "\n") (body_joined e.call)
    ∙ ap (λ (t : List ℕ). codes "call " ++ (body ++ t) ++ codes "\n") (reply_joined e.reply)
    ∙ ap (λ (t : List ℕ). codes "call " ++ t ++ codes "\n") (sym (joined_after (verb_text (verb_in e.call)) (operands_of e.call) (codes "=") (reply_fields e.reply)))

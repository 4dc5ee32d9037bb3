-- A history and its canonical one have one text.
use Rattle.std.proofs.Common.{◌≡◌, ℕ, ◌-◌, ◌%◌, List, [], ◌∷◌, ◌++◌, take, drop, map, refl, ap, ◌∙◌, arith, codes, decimal, flat_map}
use Rattle.history_reader.proofs.Common.{Again, Attempt, Call, CallRecord, History, Ran, again_lines, arena_line, attempt_lines, body_text, call_line, call_lines, canonical, canonical_again, canonical_attempt, canonical_call, canonical_entry, canonical_undone, drop-map, fill_text, first_lines, head_line, history_text, last_line, name_of, ran_line, reply_text, restart_line, take-map, try_text, undone_line}
use Rattle.itm_types.specs.declared.call.Call.TheVariants as calls
use Rattle.itm_entries.specs.declared.entry.Entry.TheVariants as points

-- the low bits of low bits are these
pub low_again : (byte : ℕ) → (byte % 256) % 256 ≡ byte % 256
low_again byte = omega arith

canonical_body : (c : Call) → body_text (canonical_call c) ≡ body_text c
unfolding body_text fill_text
canonical_body (calls.Fill hint to byte size) =
    ap (λ (low : ℕ). name_of (points.Fill hint) ++ codes " " ++ decimal to ++ codes " " ++ decimal low ++ codes " " ++ decimal size) (low_again byte)
canonical_body c = refl

canonical_line : (e : CallRecord) → call_line (canonical_entry e) ≡ call_line e
unfolding call_line
canonical_line e = ap (λ (body : List ℕ). codes "call " ++ body ++ codes " = " ++ reply_text e.reply ++ codes "\n") (canonical_body e.call)

canonical_calls : (es : List CallRecord) → flat_map call_line (map canonical_entry es) ≡ flat_map call_line es
canonical_calls [] = refl
canonical_calls (e ∷ es) = λ i. canonical_line e i ++ canonical_calls es i

all_undone : (us : List Ran) → flat_map undone_line (map canonical_undone us) ≡ flat_map undone_line us
unfolding undone_line
all_undone [] = refl
all_undone (r ∷ us) = ap (λ (lines : List ℕ). undone_line r ++ lines) (all_undone us)

same_again : (a : Again) → again_lines (canonical_again a) ≡ again_lines a
unfolding again_lines
same_again a = ap (λ (lines : List ℕ). restart_line a.arena ++ lines) (all_undone a.undone)

canonical_lines : (n : ℕ) (es : List CallRecord) (rs : List Again) → call_lines n (map canonical_entry es) (map canonical_again rs) ≡ call_lines n es rs
canonical_lines n es [] = canonical_calls es
canonical_lines n es (a ∷ rest) =
    let m = a.kept - n in
    (λ i. flat_map call_line (take-map canonical_entry m es i) ++ same_again a i ++ call_lines a.kept (drop-map canonical_entry m es i) (map canonical_again rest))
    ∙ (λ i. canonical_calls (take m es) i ++ again_lines a ++ canonical_lines a.kept (drop m es) rest i)

canonical_head : (a : Attempt) → head_line (canonical_attempt a) ≡ head_line a
unfolding head_line try_text
canonical_head a = refl

canonical_tried : (a : Attempt) → attempt_lines (canonical_attempt a) ≡ attempt_lines a
unfolding attempt_lines
canonical_tried a = λ i. canonical_head a i ++ arena_line a.arena ++ canonical_lines 0 a.calls.list a.restarts i ++ flat_map ran_line a.ran ++ codes "end\n"

canonical_all : (all : List Attempt) → flat_map attempt_lines (map canonical_attempt all) ≡ flat_map attempt_lines all
canonical_all [] = refl
canonical_all (a ∷ rest) = λ i. canonical_tried a i ++ canonical_all rest i

pub canonical_text : (h : History) → history_text (canonical h) ≡ history_text h
unfolding history_text
canonical_text h = ap (λ (lines : List ℕ). first_lines h.version h.memory ++ lines ++ last_line h.clock h.bytes) (canonical_all h.attempts)

-- Lines that are read one after the other.
use Rattle.std.proofs.Common.{◌≡◌, ℕ, ◌+◌, ◌<◌, Bool, true, false, cond, eqb, List, [], ◌∷◌, ◌++◌, length, Result, Ok, Err, refl, sym, ap, subst, ◌∙◌, arith, length-append, append_assoc, IfErr}
use Rattle.history_reader.proofs.Common.{Adds, Fails, Gives, History, Place, ReadKind, RunsOut, State, Steps, end_of, in_line, initial, is_feed, lines_leave, meaning, parts_nonempty, parts_say, slice_split, taken, whole}
use Rattle.history_reader.{specs.Reading.◌>>=◌, specs.declared.fault.ReadFault.ReadFault}
use Rattle.history_reader.specs.declared.fault.ReadKind.TheVariants as kinds
use Rattle.history_reader.specs.declared.state.Place.TheVariants as places

-- the lines before the rest of a text are well, so many, and leave this state
pub record HasRead (text rest : List ℕ) (n : ℕ) (s : State) : Type 0 where
  pub lines : List (List ℕ)
  pub split : slice_split is_feed text ≡ lines ++ slice_split is_feed rest
  pub count : n ≡ length lines
  pub left : lines_leave initial lines ≡ Ok s

pub none_read : (text : List ℕ) (n : ℕ) (s : State) → n ≡ 0 → s ≡ initial → HasRead text text n s
none_read text n s z e = record { lines = []; split = refl; count = z; left = ap (λ (t : State). Ok t) (sym e) }

leave_more : (r : Result State ReadKind) (f g : State → Result State ReadKind) (t u : State) → ((x : State) → f x ≡ Ok t → g x ≡ Ok u) → (r >>= f) ≡ Ok t → (r >>= g) ≡ Ok u
leave_more (Ok x) f g t u h e = h x e
leave_more (Err k) f g t u h e = absurd cc

leave_then : (s t u : State) (before : List (List ℕ)) (line : List ℕ) → lines_leave s before ≡ Ok t → meaning t line ≡ Ok u → lines_leave s (before ++ line ∷ []) ≡ Ok u
leave_then s t u [] line e m =
    let same : s ≡ t = cc in
    ap (λ (r : Result State ReadKind). r >>= λ x. Ok x) (ap (λ (x : State). meaning x line) same ∙ m)
leave_then s t u (b ∷ before) line e m =
    leave_more (meaning s b) (λ x. lines_leave x before) (λ x. lines_leave x (before ++ line ∷ [])) t u (λ x h. leave_then x t u before line h m) e

pub read_on : (text rest after line : List ℕ) (n : ℕ) (s t : State) → HasRead text rest n s → slice_split is_feed rest ≡ line ∷ slice_split is_feed after → meaning s line ≡ Ok t → HasRead text after (n + 1) t
read_on text rest after line n s t h e m = record {
  lines = h.lines ++ line ∷ [];
  split = h.split ∙ ap (λ (l : List (List ℕ)). h.lines ++ l) e ∙ sym (append_assoc h.lines (line ∷ []) (slice_split is_feed after));
  count = omega (arith, h.count, length-append h.lines (line ∷ []));
  left = leave_then initial s t h.lines line h.left m;
}

-- ## What the rest of a text says

parts_more : (s : State) (n : ℕ) (line : List ℕ) (parts : List (List ℕ)) → 0 < length parts → parts_say s n (line ∷ parts) ≡ (in_line n (meaning s line) >>= λ t. parts_say t (n + 1) parts)
parts_more s n line [] h = absurd (omega arith)
parts_more s n line (p ∷ parts) h = refl

says_more : (s : State) (n : ℕ) (rest after line : List ℕ) → slice_split is_feed rest ≡ line ∷ slice_split is_feed after
    → parts_say s n (slice_split is_feed rest) ≡ (in_line n (meaning s line) >>= λ t. parts_say t (n + 1) (slice_split is_feed after))
says_more s n rest after line e = ap (parts_say s n) e ∙ parts_more s n line (slice_split is_feed after) (parts_nonempty is_feed after)

pub ahead_on : (s t : State) (n : ℕ) (rest after line : List ℕ) (read : Result History ReadFault) → parts_say s n (slice_split is_feed rest) ≡ read → slice_split is_feed rest ≡ line ∷ slice_split is_feed after
    → meaning s line ≡ Ok t → parts_say t (n + 1) (slice_split is_feed after) ≡ read
ahead_on s t n rest after line read a e m =
    sym (says_more s n rest after line e ∙ ap (λ (r : Result State ReadKind). in_line n r >>= λ u. parts_say u (n + 1) (slice_split is_feed after)) m) ∙ a

faulty : (s : State) (n : ℕ) (rest after line : List ℕ) (kind : ReadKind) (read : Result History ReadFault) → parts_say s n (slice_split is_feed rest) ≡ read
    → slice_split is_feed rest ≡ line ∷ slice_split is_feed after → meaning s line ≡ Err kind → read ≡ Err (record { line = n; kind = kind })
faulty s n rest after line kind read a e m =
    sym a ∙ says_more s n rest after line e ∙ ap (λ (r : Result State ReadKind). in_line n r >>= λ u. parts_say u (n + 1) (slice_split is_feed after)) m

-- a line stops the reading
pub stopped : (amount : State → ℕ) (s new : State) (n : ℕ) (rest after line : List ℕ) (kind : ReadKind) (read : Result History ReadFault) → parts_say s n (slice_split is_feed rest) ≡ read
    → slice_split is_feed rest ≡ line ∷ slice_split is_feed after → Steps amount (Err kind) new (meaning s line) → Fails kind n read
stopped amount s new n rest after line kinds.Memory read a e m = tt
stopped amount s new n rest after line k read a e m = faulty s n rest after line k read a e m

pub runs_out : (text rest after line : List ℕ) (n : ℕ) (s : State) → HasRead text rest n s → slice_split is_feed rest ≡ line ∷ slice_split is_feed after
    → Adds (taken s.place) (meaning s line) → RunsOut text (n + 1)
runs_out text rest after line n s h e m =
    (h.lines, slice_split is_feed after, line, s, h.split ∙ ap (λ (l : List (List ℕ)). h.lines ++ l) e, parts_nonempty is_feed after, ap (λ (k : ℕ). k + 1) h.count, h.left, m)

-- ## The end of a text

in_its_line : (n : ℕ) (r : Result History ReadKind) → Gives n r (in_line n r)
in_its_line n (Ok h) = refl
in_its_line n (Err kinds.Memory) = tt
in_its_line n (Err k) = refl

pub ends : (s : State) (n : ℕ) (rest : List ℕ) (result : Result History ReadKind) (read : Result History ReadFault) → parts_say s n (slice_split is_feed rest) ≡ read → slice_split is_feed rest ≡ rest ∷ []
    → result ≡ end_of s rest → Gives n result read
ends s n rest result read a e is =
    let says : in_line n (end_of s rest) ≡ read = sym (ap (parts_say s n) e) ∙ a in
    subst (λ (r : Result History ReadKind). Gives n r read) (sym is) (subst (λ (x : Result History ReadFault). Gives n (end_of s rest) x) says (in_its_line n (end_of s rest)))

no_want : (p : Place) (s : State) → whole p s ≡ Err kinds.Memory → ⊥
no_want places.AtDepth s e = cc
no_want p s e = cc

end_want : (b : Bool) (s : State) → cond b (whole s.place s) (Err kinds.Cut) ≡ Err kinds.Memory → ⊥
end_want true s e = no_want s.place s e
end_want false s e = cc

-- the end takes no memory
pub ends_without : (s : State) (rest : List ℕ) (result : Result History ReadKind) (P : Type 0) → result ≡ end_of s rest → IfErr result (λ kind. kind ≡ kinds.Memory → P)
unfolding end_of
ends_without s rest (Ok h) P is = tt
ends_without s rest (Err kind) P is = λ m. absurd (end_want (eqb (length rest) 0) s (sym is ∙ ap (λ (k : ReadKind). Err k) m))

-- memory is refused to a line that leaves something to be kept
pub refused_at : (text rest after line : List ℕ) (n : ℕ) (s new : State) (k : ReadKind) (result : Result History ReadKind) → HasRead text rest n s
    → slice_split is_feed rest ≡ line ∷ slice_split is_feed after → Steps (taken s.place) (Err k) new (meaning s line) → result ≡ Err k → IfErr result (λ kind. kind ≡ kinds.Memory → RunsOut text (n + 1))
refused_at text rest after line n s new k (Ok h) r e m is = tt
refused_at text rest after line n s new k (Err kind) r e m is = λ memory.
    let same : k ≡ kinds.Memory = cc in
    runs_out text rest after line n s r e (subst (λ (j : ReadKind). Steps (taken s.place) (Err j) new (meaning s line)) same m)

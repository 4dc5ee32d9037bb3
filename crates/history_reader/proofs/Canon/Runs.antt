-- The plain machine gives the calls of a history and those of its canonical one the same replies and leaves the same state: it looks at no room, and of a fill's byte at the low 8 bits.
use Rattle.std.proofs.Common.{◌≡◌, ℕ, replicate, Bool, true, false, if◌then◌else◌, ◌==◌, List, [], ◌∷◌, map, Some, refl, ap, ◌∙◌}
use Rattle.history_reader.proofs.Common.{Again, Attempt, Breaks, Call, CallRecord, Reply, after, after_unless, again_at, alone, answer, arena_set, breaks_of, canonical_again, canonical_attempt, canonical_call, canonical_entry, effect, later, opened, refusal, replies_through, reply, reply_unless, state_through, written}
use Rattle.itm_types.specs.declared.call.Call.TheVariants as calls
use Rattle.itm_model.specs.State.{State}
use Rattle.history_reader.proofs.Canon.Texts.{low_again}

-- the calls of entries
abbrev pub calls_in : List CallRecord → List Call
calls_in es = map (λ (e : CallRecord). e.call) es

abbrev pub replies_in : List CallRecord → List Reply
replies_in es = map (λ (e : CallRecord). e.reply) es

module _ (deepest : ℕ) where
  same_refusal : (s : State) (c : Call) → refusal deepest s (canonical_call c) ≡ refusal deepest s c
  same_refusal s calls.Commit = refl
  same_refusal s c = refl

  same_answer : (s : State) (c : Call) → answer s (canonical_call c) ≡ answer s c
  same_answer s calls.Commit = refl
  same_answer s c = refl

  same_effect : (s : State) (c : Call) → effect s (canonical_call c) ≡ effect s c
  same_effect s (calls.Fill hint to byte size) = ap (λ (low : ℕ). written s to (replicate size low)) (low_again byte)
  same_effect s c = refl

  same_reply : (s : State) (c : Call) → reply deepest s (canonical_call c) ≡ reply deepest s c
  same_reply s c = λ i. reply_unless (same_refusal s c i) (same_answer s c i)

  same_after : (s : State) (c : Call) → after deepest s (canonical_call c) ≡ after deepest s c
  same_after s c = λ i. after_unless (same_refusal s c i) s (same_effect s c i)

  pub same_replies : (breaks : Breaks) (s : State) (es : List CallRecord) → replies_through deepest breaks s (calls_in (map canonical_entry es)) ≡ replies_through deepest breaks s (calls_in es)
  same_replies breaks s [] = refl
  same_replies breaks s (e ∷ es) =
      let t = breaks 1 (after deepest s e.call) in
      let others : replies_through deepest (later breaks) (breaks 1 (after deepest s (canonical_call e.call))) (calls_in (map canonical_entry es)) ≡ replies_through deepest (later breaks) t (calls_in es) =
      ap (λ (u : State). replies_through deepest (later breaks) (breaks 1 u) (calls_in (map canonical_entry es))) (same_after s e.call) ∙ same_replies (later breaks) t es in
      λ i. same_reply s e.call i ∷ others i

  pub same_state : (breaks : Breaks) (s : State) (es : List CallRecord) → state_through deepest breaks s (calls_in (map canonical_entry es)) ≡ state_through deepest breaks s (calls_in es)
  same_state breaks s [] = refl
  same_state breaks s (e ∷ es) =
      ap (λ (u : State). state_through deepest (later breaks) (breaks 1 u) (calls_in (map canonical_entry es))) (same_after s e.call) ∙ same_state (later breaks) (breaks 1 (after deepest s e.call)) es

-- the blocks that ran again did so from the same arenas
set_alike : (rs : List Again) (n : ℕ) (s : State) → arena_set (again_at (map canonical_again rs) n) s ≡ arena_set (again_at rs n) s
set_alike [] n s = refl
set_alike (a ∷ rest) n s = by_place (set_alike rest n s) (a.kept == n)
  where
    by_place : arena_set (again_at (map canonical_again rest) n) s ≡ arena_set (again_at rest n) s → (b : Bool)
        → arena_set (if b then Some (canonical_again a) else again_at (map canonical_again rest) n) s ≡ arena_set (if b then Some a else again_at rest n) s
    by_place others true = refl
    by_place others false = others

pub same_breaks : (rs : List Again) → breaks_of (map canonical_again rs) ≡ breaks_of rs
same_breaks rs = λ i n s. set_alike rs n s i

-- the attempt alone
pub same_alone : (deepest : ℕ) (memory : List ℕ) (a : Attempt) → alone deepest memory (canonical_attempt a) ≡ alone deepest memory a
same_alone deepest memory a =
    let start = opened memory a.arena a.props in
    ap (λ (breaks : Breaks). state_through deepest breaks start (calls_in (map canonical_entry a.calls.list))) (same_breaks a.restarts) ∙ same_state deepest (breaks_of a.restarts) start a.calls.list

-- what is answered is told
pub same_told : (es : List CallRecord) → replies_in (map canonical_entry es) ≡ replies_in es
same_told [] = refl
same_told (e ∷ es) = ap (λ (rs : List Reply). e.reply ∷ rs) (same_told es)

-- Calls on the plain machine leave the memory and the arena as long as they were, also where blocks run again from arenas of that length.
use Rattle.std.proofs.Common.{◌≡◌, ℕ, zero, suc, Bool, true, false, if◌then◌else◌, ◌==◌, List, [], ◌∷◌, length, Option, None, Some, refl, sym, subst, ◌∙◌}
use Rattle.tx_history.proofs.Common.{Again, AreAgain, Attempt, Block, Breaks, Call, CallRecord, History, IsKept, Props, Saved, State, after, after_kept, again_at, alone, arena_set, back, back_from, breaks_of, calls_of, committed_at, depth_of, either_kept, entered, entered_kept, is_open, later, made_irrevocable, memory_after, memory_at, memory_left, opened, outside, pushed, rolled_back, state_through, undone, undone_from}
use Rattle.itm_types.specs.declared.call.ActionKind.TheVariants as kinds
use Rattle.tx_history.proofs.SavedBlocks.{AllSaved, saved_closed, saved_logged, saved_none}
use Rattle.itm_types.proofs.KeptBytes.{length-restored}
use Rattle.itm_model.proofs.Journals.Rollbacks.{length-with_slice}

-- what a block goes back to has so many bytes
abbrev pub IsSavedSized : ℕ → Option Saved → Type 0
IsSavedSized n None = Unit {0}
IsSavedSized n (Some saved) = length saved.memory ≡ n

abbrev pub AreSized : ℕ → List Block → Type 0
AreSized n bs = AllSaved (IsSavedSized n) bs

-- the memory has n bytes, also once blocks are rolled back, and of the arena's length this is so
pub record IsSized (n : ℕ) (K : ℕ → Type 0) (s : State) : Type 0 where
  pub memory : length s.memory ≡ n
  pub arena : K (length s.arena)
  pub back : AreSized n s.blocks

-- of the length of each arena from which a block ran again this is so
abbrev pub AreFrom : (ℕ → Type 0) → List Again → Type 0
AreFrom K [] = Unit {0}
AreFrom K (a ∷ rest) = K (length a.arena) × AreFrom K rest

module _ (n : ℕ) (K : ℕ → Type 0) where
  -- ## Blocks

  sized_now : (b : Bool) (saved : Saved) → length saved.memory ≡ n → IsSavedSized n (if b then None else Some saved)
  sized_now true saved e = tt
  sized_now false saved e = e

  sized_pushed : (s : State) (props : Props) → IsSized n K s → IsSized n K (pushed s props)
  sized_pushed s props h = record { memory = h.memory; arena = h.arena; back = (sized_now s.irrevocable _ h.memory, h.back) }

  sized_turned : (s : State) → IsSized n K s → IsSized n K (made_irrevocable s)
  sized_turned s h = record { memory = h.memory; arena = h.arena; back = saved_none (IsSavedSized n) tt s.blocks }

  sized_entered : (s : State) (props : Props) → IsSized n K s → IsSized n K (entered s props)
  sized_entered s props h = (let p = sized_pushed s props h in entered_kept (IsSized n K) s props p (sized_turned (pushed s props) p))

  pub sized_opened : (memory arena : List ℕ) (props : Props) → length memory ≡ n → K (length arena) → IsSized n K (opened memory arena props)
  sized_opened memory arena props m a = sized_entered (outside memory arena) props (record { memory = m; arena = a; back = tt })

  sized_rolled : (s : State) (rest : List Block) (o : Option Saved) → IsSavedSized n o → AreSized n rest → IsSized n K s → IsSized n K (rolled_back s rest o)
  sized_rolled s rest None o r h = h
  sized_rolled s rest (Some saved) o r h = record { memory = o; arena = subst K (sym (length-restored saved.kept s.arena)) h.arena; back = r }

  sized_back : (s : State) (bs : List Block) → AreSized n bs → IsSized n K s → IsSized n K (back_from s bs)
  sized_back s [] b h = h
  sized_back s (x ∷ bs) b h = sized_rolled s bs x.saved b.0 b.1 h

  sized_undone_from : (s : State) (bs : List Block) → AreSized n bs → IsSized n K s → IsSized n K (undone_from s bs)
  sized_undone_from s [] b h = h
  sized_undone_from s (x ∷ bs) b h = sized_undone_from (rolled_back s bs x.saved) bs b.1 (sized_rolled s bs x.saved b.0 b.1 h)

  -- every block rolled back
  pub sized_undone : (s : State) → IsSized n K s → IsSized n K (undone s)
  sized_undone s h = sized_undone_from s s.blocks h.back h

  -- ## Calls

  sized_changed : (s : State) → IsSized n K s → IsKept (IsSized n K) s
  sized_changed s h = record {
    here = h;
    begins = λ props. either_kept (IsSized n K) (is_open s) (entered s props) (opened s.memory s.arena props) (sized_entered s props h) (sized_opened s.memory s.arena props h.memory h.arena);
    closes = record { memory = h.memory; arena = h.arena; back = saved_closed (IsSavedSized n) (λ saved bytes g. g) s.blocks h.back };
    undoes = sized_undone s h;
    backs = sized_back s s.blocks h.back h;
    turns = sized_turned s h;
    writes = λ at bytes l. record { memory = length-with_slice s.memory at bytes l ∙ h.memory; arena = h.arena; back = h.back };
    saves = λ at bytes l. record { memory = h.memory; arena = subst K (sym (length-with_slice s.arena at bytes l)) h.arena; back = h.back };
    logs = λ place size. record { memory = h.memory; arena = h.arena; back = saved_logged (IsSavedSized n) (λ saved bytes g. g) s.blocks s.arena place size h.back };
    acts = λ kind action. record { memory = h.memory; arena = h.arena; back = h.back };
  }

  pub sized_after : (deepest : ℕ) (s : State) (c : Call) → IsSized n K s → IsSized n K (after deepest s c)
  sized_after deepest s c h = after_kept (IsSized n K) s (sized_changed s h) deepest c

  -- ## Blocks that run again

  sized_again : (rs : List Again) → AreFrom K rs → (m : ℕ) (s : State) → IsSized n K s → IsSized n K (breaks_of rs m s)
  sized_again [] f m s h = h
  sized_again (a ∷ rest) f m s h = by_place (sized_again rest f.1 m s h) (a.kept == m)
    where
      by_place : IsSized n K (breaks_of rest m s) → (b : Bool) → IsSized n K (arena_set (if b then Some a else again_at rest m) s)
      by_place others true = record { memory = h.memory; arena = f.0; back = h.back }
      by_place others false = others

  sized_state : (deepest : ℕ) (breaks : Breaks) → ((m : ℕ) (s : State) → IsSized n K s → IsSized n K (breaks m s)) → (s : State) (cs : List Call) → IsSized n K s → IsSized n K (state_through deepest breaks s cs)
  sized_state deepest breaks kept s [] h = h
  sized_state deepest breaks kept s (c ∷ cs) h =
      sized_state deepest (later breaks) (λ m t i. kept (suc m) t i) (breaks 1 (after deepest s c)) cs (kept 1 (after deepest s c) (sized_after deepest s c h))

  -- so an attempt alone
  pub sized_alone : (deepest : ℕ) (memory : List ℕ) (a : Attempt) → length memory ≡ n → K (length a.arena) → AreFrom K a.restarts → IsSized n K (alone deepest memory a)
  sized_alone deepest memory a m k f = sized_state deepest (breaks_of a.restarts) (sized_again a.restarts f) (opened memory a.arena a.props) (calls_of a) (sized_opened memory a.arena a.props m k)

-- the arenas of an attempt's blocks that ran again are as long as its own
pub from_whole : (k from : ℕ) (calls : List CallRecord) (rs : List Again) → AreAgain k from calls rs → AreFrom (λ i. i ≡ k) rs
from_whole k from calls [] h = tt
from_whole k from calls (a ∷ rest) h = (h.0.arena, from_whole k a.kept calls rest h.2)

-- ## Histories

any_length : (rs : List Again) → AreFrom (λ i. Unit {0}) rs
any_length [] = tt
any_length (a ∷ rest) = (tt, any_length rest)

sized_left : (deepest : ℕ) (memory : List ℕ) (o : Option Attempt) → length (memory_left deepest memory o) ≡ length memory
sized_left deepest memory None = refl
sized_left deepest memory (Some a) = (sized_alone (length memory) (λ i. Unit {0}) deepest memory a refl tt (any_length a.restarts)).memory

sized_from : (deepest : ℕ) (base : List ℕ) (all : List Attempt) (k : ℕ) → length (memory_after deepest base all k) ≡ length base
sized_from deepest base all zero = refl
sized_from deepest base all (suc k) = sized_left deepest (memory_after deepest base all k) (committed_at all k) ∙ sized_from deepest base all k

-- the bytes that so many first commits leave are as many as there were
pub sized_at : (h : History) (k : ℕ) → length (memory_at h k) ≡ length h.memory
sized_at h k = sized_from (depth_of h.version) h.memory h.attempts k

-- What a handle holds, and what its holder is owed of it.
use Rattle.std.specs.Prelude.{◌≡◌, false, Option, None, Some}
use Rattle.std.specs.Arc.{arc_value}
use Rattle.shared_words.specs.Passes.{Owns, view_of}
use Rattle.itm_c.specs.declared.client.Client.{Client}
use Rattle.itm_c.specs.declared.root.Root.{Root}
use Rattle.itm_c.specs.declared.kept.Kept.{Kept}
use Rattle.itm_c.specs.declared.kept.Kept.TheVariants as kept

-- the thread's pass is one of the words beside it
abbrev pub IsTied : Client → Type 0
IsTied c = Owns (arc_value c.words) c.thread.pass

-- the same of the pass that those of the threads are cut from, which never holds the clock
abbrev pub IsSeated : Root → Type 0
IsSeated r = Owns (arc_value r.words) r.pass × ((view_of r.pass).holds ≡ false)

-- it is words, of which this holds
abbrev pub KeepsRoot : (Root → Type 0) → Kept → Type 0
KeepsRoot P (kept.Root r) = P r
KeepsRoot P (kept.Client c) = ⊥
KeepsRoot P kept.Closed = ⊥

-- it is a thread, of which this holds
abbrev pub KeepsClient : (Client → Type 0) → Kept → Type 0
KeepsClient P (kept.Root r) = ⊥
KeepsClient P (kept.Client c) = P c
KeepsClient P kept.Closed = ⊥

-- a handle holds words, of which this holds
abbrev pub HoldsRoot : (Root → Type 0) → Option Kept → Type 0
HoldsRoot P None = ⊥
HoldsRoot P (Some k) = KeepsRoot P k

-- a handle holds a thread, of which this holds
abbrev pub HoldsClient : (Client → Type 0) → Option Kept → Type 0
HoldsClient P None = ⊥
HoldsClient P (Some k) = KeepsClient P k

-- both hold a thread, over the same words
abbrev pub StaysOver : Option Kept → Option Kept → Type 0
StaysOver old new = HoldsClient (λ c. HoldsClient (λ d. arc_value d.words ≡ arc_value c.words) new) old

-- ## What every call asks of a handle, and leaves

-- the handle holds open words
abbrev pub IsWords : Option Kept → Type 0
IsWords = HoldsRoot IsSeated

-- the handle holds a thread that has entered
abbrev pub IsThread : Option Kept → Type 0
IsThread = HoldsClient IsTied

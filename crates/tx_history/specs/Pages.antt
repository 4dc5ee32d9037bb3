-- A text that goes to its writer page by page, and what a function that writes some of it leaves.
use Rattle.std.specs.Prelude.{◌≡◌, Bool, true, false, ℕ, ◌<◌, List, [], ◌++◌, length, take, Option, is_some}
use Rattle.std.specs.Io.KnownBytes.{Appends}
use Rattle.tx_history.specs.declared.page.Page.{Page}

-- what is told of a page: whether a write has failed, what its writer holds, and the bytes that are still to go there
pub record Sheet : Type 0 where
  pub failed : Bool
  pub written : Option (List ℕ)
  pub page : List ℕ

abbrev pub sheet : {W : Type 0} → (W → Option (List ℕ)) → Page W → Sheet
sheet contents p = record { failed = is_some p.error; written = contents p.writer.now; page = p.bytes.items }

-- of these bytes so many went to the writer, and the page has the rest; where a write failed, not all went
abbrev pub IsSent : Bool → Bool → List ℕ → List ℕ → List ℕ → Type 0
IsSent false false all gone page = all ≡ gone ++ page
IsSent false true all gone page = (n : ℕ) × (n < length all) × (gone ≡ take n all)
IsSent true true all gone page = gone ≡ []
IsSent true false all gone page = ⊥

-- The text is written after what was; where a write failed, a beginning of it is, and from then on nothing.
pub record Grows (old new : Sheet) (text : List ℕ) : Type 0 where
  pub gone : List ℕ
  pub written : Appends old.written new.written gone
  pub goes : IsSent old.failed new.failed (old.page ++ text) gone new.page

-- the text is written through the page, and nothing else; its writer is the one that it was
pub record Carries {W : Type 0} (contents : W → Option (List ℕ)) (old new : Page W) (text : List ℕ) : Type 0 where
  pub same : new.writer.ghost_name ≡ old.writer.ghost_name
  pub grows : Grows (sheet contents old) (sheet contents new) text

-- so it is, and what it tells are numbers and bytes of their types
pub record Spells {W : Type 0} (contents : W → Option (List ℕ)) (old new : Page W) (text : List ℕ) (typed : Type 0) : Type 0 where
  pub carries : Carries contents old new text
  pub fits : typed

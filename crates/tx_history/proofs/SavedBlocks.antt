-- What open blocks go back to: what holds of it holds on as blocks close, and as more bytes of the arena are kept.
use Rattle.std.proofs.Common.{ℕ, List, [], ◌∷◌, map, Option, None, Some}
use Rattle.tx_history.proofs.Common.{Block, Saved, also_kept, closed_in, handed, logged_in, option_map}
use Rattle.itm_types.specs.KeptBytes.{merged}

-- of what each of these blocks goes back to this is so
abbrev pub AllSaved : (Option Saved → Type 0) → List Block → Type 0
AllSaved Q [] = Unit {0}
AllSaved Q (b ∷ bs) = Q b.saved × AllSaved Q bs

-- blocks that cannot be rolled back go back to nothing
pub saved_none : (Q : Option Saved → Type 0) → Q None → (bs : List Block) → AllSaved Q (map (λ (b : Block). record b { saved = None }) bs)
saved_none Q none [] = tt
saved_none Q none (b ∷ bs) = (none, saved_none Q none bs)

-- where it is so whatever bytes of the arena are kept
module _ (Q : Option Saved → Type 0) (kept : (saved : Saved) (bytes : List (Option ℕ)) → Q (Some saved) → Q (Some (record saved { kept = bytes }))) where
  saved_handed : (outer inner : Option Saved) → Q outer → Q (handed outer inner)
  saved_handed None inner h = h
  saved_handed (Some saved) None h = h
  saved_handed (Some saved) (Some within) h = kept saved (merged saved.kept within.kept) h

  pub saved_closed : (bs : List Block) → AllSaved Q bs → AllSaved Q (closed_in bs)
  saved_closed [] h = tt
  saved_closed (b ∷ []) h = tt
  saved_closed (b ∷ p ∷ bs) h = (saved_handed p.saved b.saved h.1.0, h.1.1)

  saved_also : (o : Option Saved) (arena : List ℕ) (place size : ℕ) → Q o → Q (option_map {T = Saved} (λ (saved : Saved). record saved { kept = also_kept saved.kept arena place size }) o)
  saved_also None arena place size h = h
  saved_also (Some saved) arena place size h = kept saved (also_kept saved.kept arena place size) h

  pub saved_logged : (bs : List Block) (arena : List ℕ) (place size : ℕ) → AllSaved Q bs → AllSaved Q (logged_in bs arena place size)
  saved_logged [] arena place size h = tt
  saved_logged (b ∷ bs) arena place size h = (saved_also b.saved arena place size h.0, h.1)

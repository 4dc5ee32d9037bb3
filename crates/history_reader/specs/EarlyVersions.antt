-- Texts of the first two versions as they were read before there were others.
use Rattle.std.specs.Prelude.{ℕ, ◌+◌, Bool, true, false, List, [], ◌∷◌, Result, Ok, Err, if◌then◌else◌, codes, bytes_eq}
use Rattle.std.specs.List.{slice_split}
use Rattle.script_fields.specs.Text.{is_feed}
use Rattle.tx_history.specs.declared.history.History.{History}
use Rattle.tx_history.specs.declared.history.Version.{Version}
use Rattle.tx_history.specs.declared.history.Version.TheVariants.{One, Two}
use Rattle.history_reader.specs.declared.fault.ReadFault.{ReadFault}
use Rattle.history_reader.specs.declared.fault.ReadKind.{ReadKind}
use Rattle.history_reader.specs.declared.fault.ReadKind.TheVariants as kinds
use Rattle.history_reader.specs.declared.state.Place.TheVariants as places
use Rattle.history_reader.specs.declared.state.State.{State}
use Rattle.history_reader.specs.EarlyLines.{early_line}
use Rattle.history_reader.specs.Lines.{initial}
use Rattle.history_reader.specs.Reading.{◌>>=◌, end_of, in_line}

-- the lines in order behind the first one, the first of them of this number, and what stands behind the last line feed
abbrev pub early_parts : Bool → State → ℕ → List (List ℕ) → Result History ReadFault
early_parts again s n [] = in_line n (end_of s [])
early_parts again s n (rest ∷ []) = in_line n (end_of s rest)
early_parts again s n (line ∷ part ∷ parts) = in_line n (early_line again s line) >>= λ t. early_parts again t (n + 1) (part ∷ parts)

-- the name of the format, with its version
abbrev pub early_header : List ℕ → Version → List ℕ → Result State ReadKind
early_header name version line = if bytes_eq line name then Ok (record initial { place = places.AtMemory; version = version }) else Err kinds.Header

-- all of them
abbrev pub early_texts : List ℕ → Version → Bool → List (List ℕ) → Result History ReadFault
early_texts name version again [] = in_line 1 (end_of initial [])
early_texts name version again (rest ∷ []) = in_line 1 (end_of initial rest)
early_texts name version again (line ∷ part ∷ parts) = in_line 1 (early_header name version line) >>= λ t. early_parts again t 2 (part ∷ parts)

-- the history that a text of the first version is, or its first faulty line: no block may be told to have run again
unfoldable pub first_of : List ℕ → Result History ReadFault
first_of text = early_texts (codes "itm-history 1") One false (slice_split is_feed text)

-- and of the second one: a block may
unfoldable pub second_of : List ℕ → Result History ReadFault
second_of text = early_texts (codes "itm-history 2") Two true (slice_split is_feed text)

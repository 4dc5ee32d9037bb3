-- The cells' types as the logic has them, and the data of a `Row`, which are none. Assumes `Logic`.
use Rattle.std.proofs.Common.{◌≡◌, List, [], ◌∷◌, refl}
use Rattle.shared_words.proofs.Common.{Is, Logic, RattleType, Struct, Ura, Val, ent, sem, u8, vnil, vstruct}
use base.Logic.{emp}
use denote.Shadow.{makes_shadow}
use denote.Struct.Owning.{shape}
use Rattle.atomic_table.specs.contracts.shared.Shared as table
use Rattle.atomic_table.specs.contracts.shared.Seat as seat
use Rattle.shared_words.specs.contracts.view.View as view
use Rattle.shared_words.specs.contracts.initial.InitialWords as initial
use Rattle.shared_words.specs.contracts.rule.CellRule as core
use Rattle.shared_words.specs.contracts.rule.CellRuleTableRuleU8ViewInitialWords.TheImpl as rule
use Rattle.shared_words.specs.contracts.in_place.Row as row

abbrev pub Views : RattleType
Views = view.the_row

abbrev pub Initials : RattleType
Initials = initial.the_row

abbrev pub Rules : RattleType
Rules = core.the_row

abbrev pub Cells : RattleType
Cells = table.the_row u8 Views Initials Rules rule.ghosts

abbrev pub Seats : RattleType
Seats = seat.the_row u8 Views

abbrev pub nothing_val : Val
nothing_val = vstruct vnil

abbrev pub RowData : RattleType
RowData = Struct (shape row.the_type)

pub row_told : (vs : List Val) → Is RowData tt vs → vs ≡ nothing_val ∷ []
row_told vs is = is.1.0

pub row_made : {M : Type 1} {𝓤 : Ura M} (𝓛 : Logic 𝓤) → ent 𝓤 (emp 𝓤) (sem 𝓛 (RowData.own_val tt (nothing_val ∷ [])))
row_made 𝓛 = makes_shadow 𝓛 (RowData.own_val tt (nothing_val ∷ [])) (λ vss. (tt, tt)) (tt, (refl, tt))

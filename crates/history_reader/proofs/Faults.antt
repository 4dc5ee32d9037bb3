-- Lines that are at fault.
use Rattle.std.proofs.Common.{◌≡◌, ℕ, ◌<◌, Result, Ok, Err, refl, ap, subst, sym}
use Rattle.history_reader.proofs.Common.{FaultKind, ReadKind, State, Steps, line_kind, told}
use Rattle.script_fields.specs.declared.fault.FaultKind.TheVariants as operands
use Rattle.history_reader.specs.declared.fault.ReadKind.TheVariants as kinds

stops_at : (amount : State → ℕ) (k : FaultKind) (new : State) → Steps amount (Err (line_kind k)) new (told (Err k))
stops_at amount operands.Range new = refl
stops_at amount k new = refl

-- a line that is at fault stops the reading
pub stops : (amount : State → ℕ) (k : FaultKind) (kind : ReadKind) (new : State) (read : Result State FaultKind) → kind ≡ line_kind k → read ≡ Err k → Steps amount (Err kind) new (told read)
stops amount k kind new read is e =
    subst (λ (j : ReadKind). Steps amount (Err j) new (told read)) (sym is) (subst (λ (r : Result State FaultKind). Steps amount (Err (line_kind k)) new (told r)) (sym e) (stops_at amount k new))

-- memory was refused to a line that leaves something to be kept
pub adds : (amount : State → ℕ) (kind : ReadKind) (new t : State) (read : Result State FaultKind) → kind ≡ kinds.Memory → read ≡ Ok t → 0 < amount t → Steps amount (Err kind) new (told read)
adds amount kind new t read is e some =
    subst (λ (j : ReadKind). Steps amount (Err j) new (told read)) (sym is) (t, ap told e, some)

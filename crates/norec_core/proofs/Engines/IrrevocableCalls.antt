-- A transaction that becomes irrevocable, by the plain machine.
use Rattle.std.proofs.Common.{◌≡◌, ℕ, suc, ◌<◌, ◌&&◌, ◌||◌, not, nat_lt, Bool, true, false, List, [], ◌∷◌, length, map, Option, None, Some, refl, sym, ap, ◌∙◌}
use Rattle.norec_core.proofs.Common.{Actions, Begin, Block, Code, Done, Frame, Mode, NoIrrevocable, Outside, Props, Refusal, Row, State, TooDeep, after, after_unless, begun, block_kept, blocks_over, bytes_of, cond-true, effect, entered, is_inside, keeps_revocable, lt-ltb, made_irrevocable, made_so, may_go, mode_refusal, or_else, overlay, pushed, refusal, reply, reply_unless, state_kept, state_over, stays_revocable, unless}
use Rattle.norec_core.proofs.Engines.Machines.{open_is}

-- its blocks go back to nothing
kept_blocks : (blocks : List Frame) (arena m : List ℕ) → map block_kept (map made_irrevocable blocks) ≡ map (λ (b : Block). record b { saved = None }) (blocks_over blocks arena m)
kept_blocks [] arena m = refl
kept_blocks (b ∷ bs) arena m = ap (λ t. record { props = b.props; saved = None } ∷ t) (kept_blocks bs arena m)

-- and have the properties of those that they stand for
pub revocable_over : (blocks : List Frame) (arena m : List ℕ) → stays_revocable blocks ≡ keeps_revocable (blocks_over blocks arena m)
revocable_over [] arena m = refl
revocable_over (b ∷ bs) arena m = ap (λ t. b.props.no_irrevocable || t) (revocable_over bs arena m)

pub length-over : (blocks : List Frame) (arena m : List ℕ) → length (blocks_over blocks arena m) ≡ length blocks
length-over [] arena m = refl
length-over (b ∷ bs) arena m = ap suc (length-over bs arena m)

module _ (depth : ℕ) (rows : List Row) (blocks : List Frame) (arena : List ℕ) (actions : Actions) (m : List ℕ) where
  -- ## Within a transaction

  mode_served : (room : ℕ) → is_inside blocks ≡ true → stays_revocable blocks ≡ false → refusal depth (state_over rows blocks arena actions m) (Mode room) ≡ None
  mode_served room o r =
      let is_open = open_is rows blocks arena actions m ∙ o in
      let free = sym (revocable_over blocks arena m) ∙ r in
      (λ i. or_else (or_else (unless (is_open i) Outside) (unless (not (free i)) NoIrrevocable)) None)

  pub mode_enters : (room : ℕ) → is_inside blocks ≡ true → stays_revocable blocks ≡ false
      → (state_kept (map made_irrevocable blocks) arena (record actions { undos = [] }) (overlay m rows) ≡ after depth (state_over rows blocks arena actions m) (Mode room))
      × (Done ≡ reply depth (state_over rows blocks arena actions m) (Mode room))
  mode_enters room o r =
      let s : State = state_over rows blocks arena actions m in
      let none = mode_served room o r in (
        (λ i. record { memory = bytes_of (overlay m rows); arena = arena; blocks = kept_blocks blocks arena m i; actions = record actions { undos = [] }; wrote = true; irrevocable = true })
            ∙ sym (ap (λ (why : Option Refusal). after_unless why s (effect s (Mode room))) none),
        sym (ap (λ (why : Option Refusal). reply_unless why Done) none),
      )

  pub begin_served : (props : Props) (room : ℕ) → may_go blocks props ≡ true → length blocks < depth → refusal depth (state_over rows blocks arena actions m) (Begin props room) ≡ None
  begin_served props room g few =
      let may : not (props.goes_irrevocable && (props.no_irrevocable || keeps_revocable (blocks_over blocks arena m))) ≡ true =
      ap (λ (b : Bool). not (props.goes_irrevocable && (props.no_irrevocable || b))) (sym (revocable_over blocks arena m)) ∙ g in
      let deep : nat_lt (length (blocks_over blocks arena m)) depth ≡ true = ap (λ (n : ℕ). nat_lt n depth) (length-over blocks arena m) ∙ lt-ltb (length blocks) depth few in
      (λ i. or_else (or_else (unless (may i) NoIrrevocable) (unless (deep i) TooDeep)) None)

  pub begin_enters : (props : Props) (room : ℕ) → is_inside blocks ≡ true → props.goes_irrevocable ≡ true → may_go blocks props ≡ true → length blocks < depth
      → (state_kept (map made_irrevocable (begun props rows actions 0 ∷ blocks)) arena (record actions { undos = [] }) (overlay m rows) ≡ after depth (state_over rows blocks arena actions m) (Begin props room))
      × (Code 5 ≡ reply depth (state_over rows blocks arena actions m) (Begin props room))
  begin_enters props room o goes g few =
      let s : State = state_over rows blocks arena actions m in
      let none = begin_served props room g few in
      let is_open = open_is rows blocks arena actions m ∙ o in
      let opens : effect s (Begin props room) ≡ made_so (pushed s props) = cond-true _ (entered s props) _ is_open ∙ cond-true props.goes_irrevocable _ _ goes in (
        (λ i. record { memory = bytes_of (overlay m rows); arena = arena; blocks = record { props = props; saved = None } ∷ kept_blocks blocks arena m i; actions = record actions { undos = [] }; wrote = true; irrevocable = true })
            ∙ (sym opens ∙ sym (ap (λ (why : Option Refusal). after_unless why s (effect s (Begin props room))) none)),
        sym (ap (λ (why : Option Refusal). reply_unless why (Code 5)) none),
      )

-- ## What is refused

pub or_none : (o : Option Refusal) → or_else o None ≡ o
or_none None = refl
or_none (Some why) = refl

pub mode_refused : (depth : ℕ) (rows : List Row) (blocks : List Frame) (arena : List ℕ) (actions : Actions) (m : List ℕ) (room : ℕ)
    → refusal depth (state_over rows blocks arena actions m) (Mode room) ≡ mode_refusal (is_inside blocks) (stays_revocable blocks)
mode_refused depth rows blocks arena actions m room =
    or_none _ ∙ (λ i. or_else (unless (open_is rows blocks arena actions m i) Outside) (unless (not (sym (revocable_over blocks arena m) i)) NoIrrevocable))

-- What the plain state that an engine stands for has of the engine.
use Rattle.std.proofs.Common.{◌≡◌, ℕ, Bool, true, false, List, [], ◌∷◌, length, map, refl, ◌∙◌, arith, lt-ltb}
use Rattle.run_rules.proofs.Common.{Actions, Core, Frame, block_kept, in_transaction, is_inside, is_open, length-map, length-over, open_is, stands_for, state_in, state_kept}

-- what an engine stands for has its actions and its arena
pub stands_actions : (c : Core) (m : List ℕ) → (stands_for c m).actions ≡ c.actions
stands_actions c m = elim c.irrevocable as (λ (b : Bool). (state_in b c.writes c.blocks c.arena c.actions m).actions ≡ c.actions) [ true ↦ refl | false ↦ refl ]

pub stands_mode : (c : Core) (m : List ℕ) → (stands_for c m).irrevocable ≡ c.irrevocable
stands_mode c m = elim c.irrevocable as (λ (b : Bool). (state_in b c.writes c.blocks c.arena c.actions m).irrevocable ≡ b) [ true ↦ refl | false ↦ refl ]

pub stands_arena : (c : Core) (m : List ℕ) → (stands_for c m).arena ≡ c.arena
stands_arena c m = elim c.irrevocable as (λ (b : Bool). (state_in b c.writes c.blocks c.arena c.actions m).arena ≡ c.arena) [ true ↦ refl | false ↦ refl ]

-- an open engine stands for an open block
kept_open : (blocks : List Frame) (arena : List ℕ) (actions : Actions) (m : List ℕ) → is_inside blocks ≡ true → is_open (state_kept blocks arena actions m) ≡ true
kept_open [] arena actions m o = absurd (cc)
kept_open (b ∷ bs) arena actions m o = lt-ltb 0 (length (map block_kept (b ∷ bs))) (omega arith)

pub stands_open : (e : Core) (m : List ℕ) → in_transaction e ≡ true → is_open (stands_for e m) ≡ true
stands_open e m o = elim e.irrevocable as (λ (b : Bool). is_open (state_in b e.writes e.blocks e.arena e.actions m) ≡ true) [ true ↦ kept_open e.blocks e.arena e.actions m o | false ↦ open_is e.writes e.blocks e.arena e.actions m ∙ o ]

pub stands_blocks : (c : Core) (m : List ℕ) → length (stands_for c m).blocks ≡ length c.blocks
stands_blocks c m = elim c.irrevocable as (λ (b : Bool). length (state_in b c.writes c.blocks c.arena c.actions m).blocks ≡ length c.blocks) [ true ↦ length-map c.blocks block_kept | false ↦ length-over c.blocks c.arena m ]

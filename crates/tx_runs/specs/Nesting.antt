-- A player within its blocks.
use Rattle.std.specs.Prelude.{◌≡◌, ℕ, ◌<◌, ◌≤◌, Bool, true, false}
use Rattle.tx_player.specs.Rules.{Rules}

-- some blocks are open, or none
abbrev pub IsDeep : Bool → ℕ → Type 0
IsDeep true deep = 0 < deep
IsDeep false deep = deep ≡ 0

module _ {P : Type 0} (rules : Rules P) where
  -- just after the begin of the block that p has open at this depth the player is q: within the same outermost block, and within those around it
  pub record IsBlock (d : ℕ) (p q : P) : Type 0 where
    pub depth : rules.depth q ≡ d
    pub same : rules.restarted q ≡ rules.restarted p
    pub less : rules.calls_left q < rules.calls_left (rules.restarted p)
    pub around : (e : ℕ) → 0 < e → e ≤ d → rules.at_block q e ≡ rules.at_block p e

  -- the player can go back to just after the begin of each open block
  abbrev pub HasBlocks : P → Type 0
  HasBlocks p = (d : ℕ) → 0 < d → d ≤ rules.depth p → IsBlock d p (rules.at_block p d)

  -- the player has blocks open where its transaction has, and can go back to where it began the outermost one, and to just after the begin of each
  pub record IsNested (is_open : Bool) (p : P) : Type 0 where
    pub deep : IsDeep is_open (rules.depth p)
    pub begun : is_open ≡ true → rules.depth (rules.restarted p) ≡ 0
    pub less : is_open ≡ true → rules.calls_left p < rules.calls_left (rules.restarted p)
    pub blocks : HasBlocks p

  -- the calls left where the block that is under way was begun, or is
  abbrev pub whole : Bool → P → ℕ
  whole true p = rules.calls_left (rules.restarted p)
  whole false p = rules.calls_left p

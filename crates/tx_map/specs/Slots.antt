-- A hash map in slots. Each has a key and a value; a key of 0 says that it is free. A key is looked for from its home on, slot by slot.
use Rattle.std.specs.Prelude.{◌≡◌, ◌≢◌, ℕ, ◌+◌, ◌%◌, ◌<◌, ◌↔◌, Option, None, Some}

-- what each slot has, by its number
abbrev pub Slots : Type 0
Slots = ℕ → ℕ × ℕ

-- which slot a search for the key comes to after so many steps
abbrev pub slot_of : ℕ → ℕ → ℕ → ℕ
slot_of count key steps = (key + steps) % count

-- some slot has this key with this value
pub record Holds (count : ℕ) (slots : Slots) (key value : ℕ) : Type 0 where
  pub at : ℕ
  pub within : at < count
  pub key_is : (slots at).0 ≡ key
  pub value_is : (slots at).1 ≡ value

-- no slot has this key
abbrev pub HasNo : ℕ → Slots → ℕ → Type 0
HasNo count slots key = (i : ℕ) → i < count → (slots i).0 ≢ key

-- the first steps of a search for the key meet neither a free slot nor the key
pub record Passes (count : ℕ) (slots : Slots) (key steps : ℕ) : Type 0 where
  pub taken : (n : ℕ) → n < steps → (slots (slot_of count key n)).0 ≢ 0
  pub other : (n : ℕ) → n < steps → (slots (slot_of count key n)).0 ≢ key

-- a search for the key comes to this slot
pub record Reaches (count : ℕ) (slots : Slots) (key i : ℕ) : Type 0 where
  pub steps : ℕ
  pub few : steps < count
  pub here : slot_of count key steps ≡ i
  pub passes : Passes count slots key steps

-- each key lies where a search for it comes to
pub record IsMap (count : ℕ) (slots : Slots) : Type 0 where
  pub reached : (i : ℕ) → i < count → (slots i).0 ≢ 0 → Reaches count slots (slots i).0 i

-- the key has this value and no other one, and every other key has what it had
pub record IsPut (count : ℕ) (old new : Slots) (key value : ℕ) : Type 0 where
  pub holds : Holds count new key value
  pub alone : (v : ℕ) → Holds count new key v → v ≡ value
  pub others : (k v : ℕ) → k ≢ 0 → k ≢ key → Holds count new k v ↔ Holds count old k v

-- what a look at a key tells
abbrev pub IsGot : ℕ → Slots → ℕ → Option ℕ → Type 0
IsGot count slots key (Some value) = Holds count slots key value
IsGot count slots key None = HasNo count slots key

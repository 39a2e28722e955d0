-- The types of nets and of variable elements, and the values that keep to them.
use Rattle.std.specs.Prelude.{◌≡◌, ℕ, ◌<◌, ◌≤◌, List, slice_get, slice_index, Some}

-- one element of std_logic or std_ulogic (std_logic_1164), or a value of an enumeration (IEEE 1076-2008, 5.2.2)
pub data ElementType : Type 0 where
  nine_valued : ElementType
  enumeration : (literals : ℕ) → ElementType

-- how many values it has; they are the numbers below that
abbrev pub limit_of : ElementType → ℕ
limit_of nine_valued = 9
limit_of (enumeration literals) = literals

-- a value is kept in a byte
abbrev pub IsByte : ElementType → Type 0
IsByte t = limit_of t ≤ 256

-- the net, or element, at this place is there and of this type
abbrev pub HasType : List ElementType → ElementType → (place : ℕ) → Type 0
HasType types t place = slice_get types place ≡ Some t

-- each net, or element, has a value of its type
abbrev pub KeepsTypes : List ElementType → List ℕ → Type 0
KeepsTypes types values = (place : ℕ) (t : ElementType) → HasType types t place → slice_index values place < limit_of t

-- Elements of one vector, told as a range by the names of the first and the last.
use Rattle.std.specs.Prelude.{ℕ, ◌+◌, ◌-◌, nat_le, nat_lt, ◌==◌, ◌&&◌, ◌||◌, Bool, false, if◌then◌else◌, List, [], ◌∷◌, ◌++◌, length, take, bytes_eq, slice_index_or, Option, Some, None, codes}
use Rattle.vhdl_lexer.specs.Literals.{integer_of, greatest_integer}

-- ---- an element's name, as `alu.b(7)`

abbrev pub ends_index : (name : List ℕ) → Bool
ends_index name = slice_index_or name (length name - 1) 0 == 41

-- what stands behind the last `(` of `bytes`, or `found` where there is none
abbrev pub behind_open : (found bytes : List ℕ) → List ℕ
behind_open found [] = found
behind_open found (byte ∷ bytes) = if byte == 40 then behind_open bytes bytes else behind_open found bytes

-- `7)`
abbrev pub index_part : (name : List ℕ) → List ℕ
index_part name = behind_open [] name

-- `alu.b(`
abbrev pub base_part : (name : List ℕ) → List ℕ
base_part name = take (length name - length (index_part name)) name

-- the number that its digits write
abbrev pub number_in : List ℕ → Option ℕ
number_in text = if nat_le (integer_of text) greatest_integer then Some (integer_of text) else None

abbrev pub index_of : (name : List ℕ) → Option ℕ
index_of name = number_in (index_part name)

-- ---- neighbours

abbrev pub are_beside : (first second : Option ℕ) → Bool
are_beside (Some i) (Some j) = i + 1 == j || j + 1 == i
are_beside _ _ = false

-- the second is the element beside the first
abbrev pub follows : (first second : List ℕ) → Bool
follows first second =
    ends_index first && ends_index second && bytes_eq (base_part first) (base_part second)
    && are_beside (index_of first) (index_of second)

-- ---- a range

abbrev pub falls : (first last : Option ℕ) → Bool
falls (Some i) (Some j) = nat_lt j i
falls _ _ = false

abbrev pub direction : (first last : List ℕ) → List ℕ
direction first last = if falls (index_of first) (index_of last) then codes " downto " else codes " to "

-- `alu.b(7 downto 0)`, or the one name
abbrev pub range_text : (first last : List ℕ) → List ℕ
range_text first last =
    if bytes_eq first last then first else take (length first - 1) first ++ direction first last ++ index_part last

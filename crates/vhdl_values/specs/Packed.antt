-- Codes as the bytes of one number, and codes that planes hold.
use Rattle.std.specs.Prelude.{ℕ, ◌+◌, ◌*◌, ◌^◌, List, [], ◌∷◌, length}
use Rattle.vhdl_values.specs.declared.planes.Planes.{Planes}
use Rattle.vhdl_values.specs.Planes.{HaveCodes}

-- the leftmost highest
unfoldable pub packed : List ℕ → ℕ
packed [] = 0
packed (code ∷ codes) = code * 2 ^ (8 * length codes) + packed codes

-- the leftmost lowest
unfoldable pub packed_low : List ℕ → ℕ
packed_low [] = 0
packed_low (code ∷ codes) = code + 256 * packed_low codes

-- the planes have the bits of these codes, leftmost first
abbrev pub Hold : Planes → List ℕ → Type 0
Hold planes codes = HaveCodes codes planes.first planes.second planes.third planes.fourth

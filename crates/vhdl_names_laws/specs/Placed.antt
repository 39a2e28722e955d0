-- Where the tokens of a file stand.
use Rattle.std.specs.Prelude.{ℕ, List, [], ◌∷◌, flat_map}
use Rattle.vhdl_tree.specs.Pieces as p
use Rattle.vhdl_tree.specs.Pieces.{Piece}
use Rattle.vhdl_tree.specs.Tree.{File}
use Rattle.vhdl_tree.specs.grammar.Units.{spell_file}

-- the byte at which the tree says that a token starts, if it says so
abbrev pub byte_of : Piece → List ℕ
byte_of (p.some kind) = []
byte_of (p.one_at kind at) = at ∷ []
byte_of (p.word_at at text) = at ∷ []
byte_of (p.literal_at at code) = at ∷ []
byte_of (p.text_at kind at text) = at ∷ []

-- the bytes at which tokens of the file start
abbrev pub bytes_of : File → List ℕ
bytes_of f = flat_map byte_of (spell_file f)

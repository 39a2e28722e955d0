-- Files in which each identifier is a word: it has a letter, and its letters are small (IEEE 1076-2008, 15.4).
use Rattle.std.specs.Prelude.{◌≡◌, List, map, IsTrue}
use Rattle.std.specs.List.{AllByRecursion}
use Rattle.std.specs.Char.{to_ascii_lowercase}
use Rattle.vhdl_tree.specs.Pieces as p
use Rattle.vhdl_tree.specs.Pieces.{Piece}
use Rattle.vhdl_tree.specs.Tree.{File}
use Rattle.vhdl_tree.specs.grammar.Units.{spell_file}
use Rattle.vhdl_names_rules.specs.Visibility.{Name}
use Rattle.vhdl_names_rules.specs.sound.Named.{has_text}

abbrev pub small : Name → Name
small n = map to_ascii_lowercase n

pub record IsWord (n : Name) : Type 0 where
  pub some : IsTrue (has_text n)
  pub is_small : small n ≡ n

abbrev pub PieceIsWord : Piece → Type 0
PieceIsWord (p.word_at at text) = IsWord text
PieceIsWord _ = Unit {0}

abbrev pub AreWords : List Piece → Type 0
AreWords = AllByRecursion PieceIsWord

-- each identifier that spells the file
abbrev pub HasWords : File → Type 0
HasWords f = AreWords (spell_file f)

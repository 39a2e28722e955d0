-- Files as the parser gives them (IEEE 1076-2008, clause 15).
use Rattle.std.specs.Prelude.{ℕ, List, [], None}
use Rattle.vhdl_lexer.specs.Cut.{Cuts}
use Rattle.vhdl_lexer.specs.declared.token.Token.{Token}
use Rattle.vhdl_tree.specs.Lexeme.{lexemes}
use Rattle.vhdl_tree.specs.Pieces.{Spells}
use Rattle.vhdl_tree.specs.Tree.{File}
use Rattle.vhdl_tree.specs.grammar.Units.{spell_file}

-- Some text is cut into tokens, as `lex` cuts it, and these spell the file, as they do what `parse` reads of them.
pub record IsSpelled (f : File) : Type 0 where
  pub source : List ℕ
  pub tokens : List Token
  pub cut : Cuts None 0 source tokens
  pub spelled : Spells (spell_file f) (lexemes source tokens) []

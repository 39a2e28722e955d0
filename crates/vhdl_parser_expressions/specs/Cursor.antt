-- What a `Parser` shows, and what it keeps.
use Rattle.std.specs.Prelude.{List}
use Rattle.vhdl_parser_expressions.specs.declared.parser.Parser.TheInside.{Inside}
use Rattle.vhdl_lexer.specs.Cut.{AreWithin}
use Rattle.vhdl_tree.specs.Lexeme.{Lexeme, lexemes}

abbrev pub ahead : Inside → List Lexeme
ahead p = lexemes p.source.now p.tokens.now

abbrev pub IsReady : Inside → Type 0
IsReady p = AreWithin p.source.now p.tokens.now

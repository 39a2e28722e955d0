-- What stands one level down, where so many levels may be opened.
use Rattle.std.proofs.Common.{◌≡◌, ℕ, zero, suc, List, Ok, ap}
use Rattle.vhdl_lexer.specs.declared.language.Language.{Language}
use Rattle.vhdl_tree.specs.Lexeme.{Lexeme}
use Rattle.vhdl_parser_expressions.specs.reader.Input.{below}
use Rattle.vhdl_parser_statements.specs.reader.Sequential.{deeper, statements}
use Rattle.vhdl_parser_expressions.proofs.Steps.{pure_ok}

pub statements_below : (language : Language) (n m : ℕ) (ts : List Lexeme) → below n ts ≡ Ok (m, ts) → deeper language n ≡ statements language m
unfolding deeper below
statements_below language zero m ts h = absurd (cc)
statements_below language (suc n) m ts h = ap (statements language) (pure_ok n m ts ts h).0

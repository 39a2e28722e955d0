-- What stands one level down, where so many levels may be opened.
use Rattle.std.proofs.Common.{◌≡◌, ℕ, zero, suc, List, Ok, ap}
use Rattle.vhdl_tree.specs.Lexeme.{Lexeme}
use Rattle.vhdl_lexer.specs.declared.language.Language.{Language}
use Rattle.vhdl_parser_expressions.specs.reader.Input.{below}
use Rattle.vhdl_parser.specs.reader.Concurrent.{deeper_concurrents, concurrents}
use Rattle.vhdl_parser_expressions.proofs.Steps.{pure_ok}

pub concurrents_below : (language : Language) (n m : ℕ) (ts : List Lexeme) → below n ts ≡ Ok (m, ts) → deeper_concurrents language n ≡ concurrents language m
unfolding deeper_concurrents below
concurrents_below language zero m ts h = absurd (cc)
concurrents_below language (suc n) m ts h = ap (concurrents language) (pure_ok n m ts ts h).0

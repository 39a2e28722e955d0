-- What the reader of instances says of an identifier that stands alone: it takes it.
use Rattle.std.proofs.Common.{◌≡◌, ℕ, List, [], ◌∷◌, Err, refl}
use Rattle.vhdl_lexer.specs.declared.language.Language.{Language}
use Rattle.vhdl_parser_expressions.specs.declared.stop.Stop.TheVariants.{EndOfFile}
use Rattle.vhdl_tree.specs.Lexeme.{same_kind}
use Rattle.vhdl_parser_expressions.specs.reader.Input.{token, expect, identifier, eat, optional, next_kind}
use Rattle.vhdl_parser_expressions.proofs.Alone.{word}
use Rattle.vhdl_parser.specs.reader.Instance.{of_component, instantiated, instance}

pub instance_alone : (language : Language) (n at : ℕ) (text : List ℕ) → instance language n (word at text ∷ []) ≡ Err (EndOfFile, [])
unfolding instance instantiated of_component eat optional identifier token expect next_kind same_kind
instance_alone language n at text = refl

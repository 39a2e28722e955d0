-- What the readers of a label and of a statement say of an identifier that stands alone: they take it.
use Rattle.std.proofs.Common.{◌≡◌, ℕ, List, [], ◌∷◌, Err, refl}
use Rattle.vhdl_lexer.specs.declared.language.Language.{Language}
use Rattle.vhdl_parser_expressions.specs.declared.stop.Stop.TheVariants.{EndOfFile}
use Rattle.vhdl_tree.specs.Lexeme.{same_kind}
use Rattle.vhdl_tree.specs.Tree.{Sequential}
use Rattle.vhdl_parser_expressions.specs.reader.Input.{Parser, token, expect, identifier, next_kind, refusal}
use Rattle.vhdl_parser_expressions.proofs.Alone.{word, name_alone}
use Rattle.vhdl_parser_statements.specs.reader.Sequential.{label, assign, statement_of}

pub label_alone : (at : ℕ) (text : List ℕ) → label (word at text ∷ []) ≡ Err (EndOfFile, [])
unfolding label identifier token expect same_kind
label_alone at text = refl

pub statement_alone : (language : Language) (n : ℕ) (inner : Parser (List Sequential)) (at : ℕ) (text : List ℕ) → statement_of language n inner (word at text ∷ []) ≡ Err (EndOfFile, [])
unfolding statement_of assign next_kind refusal
statement_alone language n inner at text = rw (name_alone language n at text) refl

-- What the readers of concurrent statements say of an identifier that stands alone: they take it.
use Rattle.std.proofs.Common.{◌≡◌, ℕ, List, [], ◌∷◌, Err, Option, None, refl}
use Rattle.vhdl_lexer.specs.declared.language.Language.{Language}
use Rattle.vhdl_parser_expressions.specs.declared.stop.Stop.TheVariants.{EndOfFile}
use Rattle.vhdl_tree.specs.Tree.{Ident}
use Rattle.vhdl_parser_expressions.specs.reader.Input.{token, expect, next_kind}
use Rattle.vhdl_parser_expressions.proofs.Alone.{word, name_alone}
use Rattle.vhdl_parser.proofs.InstanceAlone.{instance_alone}
use Rattle.vhdl_parser.specs.reader.Concurrent.{assign, assign_with, instance_with, unlabelled}

assign_alone : (language : Language) (n : ℕ) (label : Option Ident) (at : ℕ) (text : List ℕ) → assign language n label (word at text ∷ []) ≡ Err (EndOfFile, [])
unfolding assign expect token
assign_alone language n label at text = rw (name_alone language n at text) refl

pub assign_with_alone : (language : Language) (n : ℕ) (label : Option Ident) (at : ℕ) (text : List ℕ) → assign_with language n label (word at text ∷ []) ≡ Err (EndOfFile, [])
assign_with_alone language n label at text = rw (assign_alone language n label at text) refl

pub instance_with_alone : (language : Language) (n : ℕ) (label : Ident) (at : ℕ) (text : List ℕ) → instance_with language n label (word at text ∷ []) ≡ Err (EndOfFile, [])
instance_with_alone language n label at text = rw (instance_alone language n at text) refl

pub unlabelled_alone : (language : Language) (n at : ℕ) (text : List ℕ) → unlabelled language n (word at text ∷ []) ≡ Err (EndOfFile, [])
unfolding unlabelled next_kind
unlabelled_alone language n at text = rw (assign_with_alone language n None at text) refl

-- What the readers of expressions say of one token that stands alone: they take it.
use Rattle.std.proofs.Common.{◌≡◌, ℕ, zero, suc, List, [], ◌∷◌, Ok, Err, None, refl}
use Rattle.vhdl_lexer.specs.declared.language.Language.{Language}
use Rattle.vhdl_lexer.specs.declared.language.Language.TheVariants.{Profile, Wide}
use Rattle.vhdl_lexer.specs.declared.token.TokenKind.TheVariants as k
use Rattle.vhdl_parser_expressions.specs.declared.stop.Stop.{Stop}
use Rattle.vhdl_parser_expressions.specs.declared.stop.Stop.TheVariants.{EndOfFile, TooDeep}
use Rattle.vhdl_tree.specs.Lexeme.{Lexeme, same_kind}
use Rattle.vhdl_tree.specs.Tree.{named, plain, actual}
use Rattle.vhdl_parser_expressions.specs.reader.Input.{token, expect, identifier, next_kind, second_kind, optional, refusal}
use Rattle.vhdl_parser_expressions.specs.reader.Expressions as read
use Rattle.vhdl_parser_expressions.specs.reader.Expressions.{sees_power, optional_suffix, name_from, name, named_from, primary, narrow_parenthesis, parenthesis, optional_power, factor, begin, leading, inside, inner}
use Rattle.vhdl_parser_expressions.specs.reader.Values.{others_value, formal, actual_of}

abbrev pub word : ℕ → List ℕ → Lexeme
word at text = record { kind = k.Identifier; at = at; text = text }

abbrev pub paren : ℕ → List ℕ → Lexeme
paren at text = record { kind = k.LeftParen; at = at; text = text }

-- an identifier is a name, and a name an expression
pub name_alone : (language : Language) (n at : ℕ) (text : List ℕ) → name (inner language n) (word at text ∷ []) ≡ Ok (record { identifier = record { at = at; text = text }; suffix = plain; attribute = None }, [])
unfolding name name_from identifier token optional_suffix optional next_kind same_kind
name_alone language n at text = refl

pub expr_alone : (language : Language) (n at : ℕ) (text : List ℕ) → read.expr language n (word at text ∷ []) ≡ Ok (named (record { at = at; text = text }) plain None, [])
unfolding name_from named_from identifier token optional_suffix optional next_kind second_kind same_kind sees_power primary optional_power factor begin leading
expr_alone Profile n at text = refl
expr_alone Wide n at text = refl

pub actual_alone : (language : Language) (n at : ℕ) (text : List ℕ) → actual_of language n (word at text ∷ []) ≡ Ok (actual (named (record { at = at; text = text }) plain None), [])
unfolding actual_of next_kind same_kind
actual_alone language n at text = rw (expr_alone language n at text) refl

pub formal_alone : (at : ℕ) (text : List ℕ) → formal (word at text ∷ []) ≡ Err (EndOfFile, [])
unfolding formal identifier token expect same_kind
formal_alone at text = refl

-- behind a parenthesis something has to stand
pub paren_alone : (n at : ℕ) (text : List ℕ) → (e : Stop) × (read.expr Profile n (paren at text ∷ []) ≡ Err (e, []))
unfolding parenthesis narrow_parenthesis expect token next_kind same_kind primary optional_power factor leading inside refusal
paren_alone zero at text = (TooDeep, refl)
paren_alone (suc n) at text = (EndOfFile, refl)

pub others_alone : (n at : ℕ) (text : List ℕ) → others_value n (paren at text ∷ []) ≡ Err (EndOfFile, [])
unfolding others_value expect token same_kind
others_alone n at text = refl

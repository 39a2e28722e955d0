-- How the parser reads texts that are dropped (IEEE 1076-2008, 6.7, 7.2, 10.3, 10.4, 11.5).
use Rattle.std.specs.Prelude.{ℕ, zero, suc, ◌==◌, ◌&&◌, nat_lt, if◌then◌else◌, List, [], ◌∷◌, ◌++◌, length, Option, Some, None}
use Rattle.vhdl_lexer.specs.declared.language.Language.{Language}
use Rattle.vhdl_lexer.specs.declared.token.TokenKind.{TokenKind}
use Rattle.vhdl_lexer.specs.declared.token.TokenKind.TheVariants as k
use Rattle.vhdl_tree.specs.Lexeme.{same_kind}
use Rattle.vhdl_tree.specs.Tree.{Text}
use Rattle.vhdl_tree.specs.grammar.Texts.{ends_operand, may_follow}
use Rattle.vhdl_parser_expressions.specs.reader.Input.{Parser, ◌>>=◌, ◌>>◌, pure, refuse, choose, expect, below}
use Rattle.vhdl_parser_statements.specs.reader.Wide.{wide}

-- Where so many levels may be opened in a text, so many of them are left, and this token came last.
module _ (levels room : ℕ) (last : TokenKind) where
  -- the next token, and how many levels are left behind it; nothing where the text doesn't go on with it
  abbrev pub token_by : Option TokenKind → Parser (Option (TokenKind × ℕ))
  token_by None = pure None
  token_by (Some kind) =
      if same_kind kind k.LeftParen then (do expect kind; m ← below room; pure (Some (kind, m)))
      else if same_kind kind k.RightParen && nat_lt room levels then expect kind >> pure (Some (kind, suc room))
      else if may_follow last kind then expect kind >> pure (Some (kind, room))
      else pure None

  unfoldable pub text_token : Parser (Option (TokenKind × ℕ))
  text_token = choose token_by

  -- a text ends behind an operand, where no parenthesis is open
  unfoldable pub text_end : Text → Parser Text
  text_end found = if (room == levels) && ends_operand last then pure found else refuse

-- a text goes on behind a token, or ends
abbrev pub text_by : (ℕ → TokenKind → Text → Parser Text) → Parser Text → Text → Option (TokenKind × ℕ) → Parser Text
text_by go ends found None = ends
text_by go ends found (Some next) = go next.1 next.0 (found ++ next.0 ∷ [])

-- The second number bounds the turns, and each turn takes a token.
unfoldable pub text_from : (levels turns room : ℕ) → (last : TokenKind) → Text → Parser Text
text_from levels zero room last found = text_end levels room last found
text_from levels (suc turns) room last found =
    text_token levels room last >>= text_by (text_from levels turns) (text_end levels room last found) found

-- the tokens of a text, in which so many levels may be opened
unfoldable pub text_tokens : ℕ → Parser Text
text_tokens n = λ ts. text_from n (length ts) n k.Semicolon [] ts

-- word text ;
unfoldable pub text_of : Language → ℕ → TokenKind → Parser Text
text_of language n word = do
  wide language
  expect word
  found ← text_tokens n
  expect k.Semicolon
  pure found

-- Which token a text goes on with, by the tests of its kind.
use Rattle.std.proofs.Common.{◌≡◌, ℕ, suc, nat_lt, Bool, true, false, not, ◌&&◌, ◌||◌, cond, List, Ok, Option, Some, None, ap, ◌∙◌}
use Rattle.vhdl_lexer.specs.declared.token.TokenKind.{TokenKind}
use Rattle.vhdl_lexer.specs.declared.token.TokenKind.TheVariants as k
use Rattle.vhdl_tree.specs.Lexeme.{Lexeme, same_kind}
use Rattle.vhdl_tree.specs.grammar.Texts.{is_operand, ends_operand, is_entity_class, is_between, may_follow}
use Rattle.vhdl_parser_expressions.specs.reader.Input.{Outcome, Parser, and_then, next_kind, expect, below}
use Rattle.vhdl_parser_statements.specs.reader.Texts.{token_by, text_token}

abbrev pub Token : Type 0
Token = Option (TokenKind × ℕ)

-- a token that opens no level, and one that opens one
abbrev pub taken : TokenKind → ℕ → Parser Token
taken kind left = λ ts. and_then (expect kind ts) (λ _ us. Ok (Some (kind, left), us))

abbrev pub opened : TokenKind → ℕ → Parser Token
opened kind room = λ ts. and_then (expect kind ts) (λ _ us. and_then (below room us) (λ m vs. Ok (Some (kind, m), vs)))

-- what stands there, by whether it opens a parenthesis, closes one, or may follow
abbrev by_tests : TokenKind → ℕ → List Lexeme → (opens closes follows : Bool) → Outcome Token
by_tests kind room ts opens closes follows =
    cond {A = Parser Token} opens (opened kind room) (cond closes (taken kind (suc room)) (cond follows (taken kind room) (λ us. Ok (None, us)))) ts

module _ (levels room : ℕ) (last kind : TokenKind) (ts : List Lexeme) (next : next_kind ts ≡ Some kind) where
  abbrev closing : Bool
  closing = same_kind kind k.RightParen && nat_lt room levels

  tested : text_token levels room last ts ≡ by_tests kind room ts (same_kind kind k.LeftParen) closing (may_follow last kind)
  unfolding text_token
  tested = ap (λ o. token_by levels room last o ts) next

  pub token_opens : same_kind kind k.LeftParen ≡ true → text_token levels room last ts ≡ opened kind room ts
  token_opens opens = tested ∙ ap (λ b. by_tests kind room ts b closing (may_follow last kind)) opens

  no_opening : same_kind kind k.LeftParen ≡ false → text_token levels room last ts ≡ by_tests kind room ts false closing (may_follow last kind)
  no_opening opens = tested ∙ ap (λ b. by_tests kind room ts b closing (may_follow last kind)) opens

  pub token_closes : same_kind kind k.LeftParen ≡ false → closing ≡ true → text_token levels room last ts ≡ taken kind (suc room) ts
  token_closes opens closes = no_opening opens ∙ ap (λ b. by_tests kind room ts false b (may_follow last kind)) closes

  pub token_follows : same_kind kind k.LeftParen ≡ false → closing ≡ false → may_follow last kind ≡ true → text_token levels room last ts ≡ taken kind room ts
  token_follows opens closes follows =
      no_opening opens ∙ ap (λ b. by_tests kind room ts false b (may_follow last kind)) closes ∙ ap (λ b. by_tests kind room ts false false b) follows

  pub token_ends : same_kind kind k.LeftParen ≡ false → closing ≡ false → may_follow last kind ≡ false → text_token levels room last ts ≡ Ok (None, ts)
  token_ends opens closes follows =
      no_opening opens ∙ ap (λ b. by_tests kind room ts false b (may_follow last kind)) closes ∙ ap (λ b. by_tests kind room ts false false b) follows

-- ---- which token may follow another

-- a unit behind a number
abbrev pub is_unit : (last kind : TokenKind) → Bool
is_unit last kind = same_kind last k.Integer && same_kind kind k.Identifier

-- by whether it is an operand, stands behind one, or says what an attribute is of
abbrev follows_by : (last kind : TokenKind) → (operand behind class : Bool) → Bool
follows_by last kind operand behind class =
    cond operand (not behind || is_unit last kind) (cond class (same_kind last k.Colon) (is_between kind))

-- an operand behind an operand
pub operand_follows : (last kind : TokenKind) → is_operand kind ≡ true → ends_operand last ≡ true → may_follow last kind ≡ is_unit last kind
operand_follows last kind operand behind =
    ap (λ b. follows_by last kind b (ends_operand last) (is_entity_class kind)) operand ∙ ap (λ b. follows_by last kind true b (is_entity_class kind)) behind

pub class_follows : (last kind : TokenKind) → is_operand kind ≡ false → is_entity_class kind ≡ true → may_follow last kind ≡ same_kind last k.Colon
class_follows last kind operand class =
    ap (λ b. follows_by last kind b (ends_operand last) (is_entity_class kind)) operand ∙ ap (λ b. follows_by last kind false (ends_operand last) b) class

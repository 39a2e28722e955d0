-- Parts of the tokens of a text.
use Rattle.std.specs.Prelude.{not, Bool, false, if◌then◌else◌, List, [], ◌∷◌, take, drop, Option, Some, None}
use Rattle.std.specs.List.{list_any, prefix_len}
use Rattle.vhdl_lexer.specs.declared.token.Token.{Token}
use Rattle.vhdl_lexer.specs.declared.token.TokenKind.{TokenKind}
use Rattle.vhdl_lexer.specs.declared.token.TokenKind.TheVariants as k
use Rattle.vhdl_tree.specs.Lexeme.{same_kind}

-- one of them is of this kind
abbrev pub has : TokenKind → List Token → Bool
has kind tokens = list_any (λ t. same_kind t.kind kind) tokens

-- the first of them is
abbrev pub begins : TokenKind → List Token → Bool
begins kind [] = false
begins kind (t ∷ ts) = same_kind t.kind kind

abbrev pub first_of : List Token → Option Token
first_of [] = None
first_of (t ∷ ts) = Some t

abbrev pub is_other : TokenKind → Token → Bool
is_other kind t = not (same_kind t.kind kind)

-- what stands before the first of this kind
abbrev pub up_to : TokenKind → List Token → List Token
up_to kind tokens = take (prefix_len (is_other kind) tokens) tokens

-- what stands from it on
abbrev pub from : TokenKind → List Token → List Token
from kind tokens = drop (prefix_len (is_other kind) tokens) tokens

-- what is found by each of some tokens, and what stands behind it, from what was found before
abbrev pub found_by : {A : Type 0} → (step : A → Token → List Token → A) → (found : A) → List Token → A
found_by step found [] = found
found_by step found (t ∷ ts) = found_by step (step found t ts) ts

-- what stands behind a token, where it is of this kind, or what was found before
abbrev pub later : TokenKind → (found : List Token) → Token → (behind : List Token) → List Token
later kind found t behind = if same_kind t.kind kind then behind else found

-- what stands behind the last of this kind; nothing without one
abbrev pub behind_last : TokenKind → List Token → List Token
behind_last kind tokens = found_by (later kind) [] tokens

-- tokens without another `(` in them, or nothing
abbrev pub without_another : List Token → List Token
without_another tokens = if has k.LeftParen tokens then [] else tokens

-- what stands in parentheses, with which these tokens begin, where no other opens in them; else nothing
abbrev pub in_parentheses : List Token → List Token
in_parentheses tokens = if begins k.LeftParen tokens then without_another (up_to k.RightParen (drop 1 tokens)) else []

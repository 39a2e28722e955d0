-- How the parser reads expressions.
use Rattle.std.specs.Prelude.{ℕ, zero, suc, ◌==◌, ◌&&◌, ◌||◌, Bool, false, if◌then◌else◌, List, [], ◌∷◌, length, find, Option, Some, None}
use denote.Enum.Bare.{sameb}
use Rattle.vhdl_lexer.specs.contracts.token.TokenKind.{the_type}
use Rattle.vhdl_lexer.specs.declared.language.Language.{Language}
use Rattle.vhdl_lexer.specs.declared.language.Language.TheVariants.{Profile, Wide}
use Rattle.vhdl_lexer.specs.declared.token.TokenKind.{TokenKind}
use Rattle.vhdl_lexer.specs.declared.token.TokenKind.TheVariants as k
use Rattle.vhdl_tree.specs.declared.operator.Operator.{Operator}
use Rattle.vhdl_tree.specs.declared.operator.Operator.TheVariants.{And, Or, Xor, Xnor, Nand, Nor, Equal, NotEqual, Less, LessEqual, Greater, GreaterEqual, Add, Subtract, Concatenate, Multiply, Divide, Modulo, Remainder}
use Rattle.vhdl_parser_expressions.specs.declared.operator.Level.{Level}
use Rattle.vhdl_parser_expressions.specs.declared.operator.Level.TheVariants.{Logical, Relation, Adding, Multiplying}
use Rattle.vhdl_tree.specs.declared.operator.Sign.{Sign}
use Rattle.vhdl_tree.specs.declared.operator.Sign.TheVariants.{Plus, Minus}
use Rattle.vhdl_tree.specs.declared.operator.Direction.{Direction}
use Rattle.vhdl_tree.specs.declared.operator.Direction.TheVariants.{To, Downto}
use Rattle.vhdl_tree.specs.grammar.Expressions.{kind_of, repeats, sign_kind, direction_kind}
use Rattle.vhdl_tree.specs.Lexeme.{Lexeme, same_kind}
use Rattle.vhdl_tree.specs.Tree.{Ident, Attribute, called, of_range, Expr, integer, character, string, bits, named, parens, negation, absolute, power, signed, qualified, enclosed, Suffix, plain, arguments, sliced, exprs_of, Element, element_by, elements_of, Pair, joined, begun, Name, Choice, chosen, chosen_range, otherwise}
use Rattle.vhdl_parser_expressions.specs.reader.Input.{Parser, ◌>>=◌, ◌>>◌, ◌<$>◌, pure, refuse, too_deep, is_kind, choose, test, test_both, test_in, expect, many, optional, identifier, text, below}
use Rattle.vhdl_parser_expressions.specs.reader.Input as input

abbrev pub name_expr : Name → Expr
name_expr n = named n.identifier n.suffix n.attribute

-- the operator among these that a token is
abbrev pub operator_among : List Operator → Option TokenKind → Option Operator
operator_among operators None = None
operator_among operators (Some kind) = find (λ o. sameb the_type kind (kind_of o)) operators

-- the operator of a level that it is
abbrev pub logical_at : Option TokenKind → Option Operator
logical_at = operator_among (And ∷ Or ∷ Xor ∷ Xnor ∷ Nand ∷ Nor ∷ [])

abbrev pub relation_at : Option TokenKind → Option Operator
relation_at = operator_among (Equal ∷ NotEqual ∷ Less ∷ LessEqual ∷ Greater ∷ GreaterEqual ∷ [])

abbrev pub adding_at : Option TokenKind → Option Operator
adding_at = operator_among (Add ∷ Subtract ∷ Concatenate ∷ [])

abbrev pub multiplying_at : Option TokenKind → Option Operator
multiplying_at = operator_among (Multiply ∷ Divide ∷ Modulo ∷ Remainder ∷ [])

abbrev pub operator_at : Level → Option TokenKind → Option Operator
operator_at Logical next = logical_at next
operator_at Relation next = relation_at next
operator_at Adding next = adding_at next
operator_at Multiplying next = multiplying_at next

-- the operator that a chain of a level goes on with, by its last one and the next token
unfoldable pub next_operator : Level → Operator → Option TokenKind → Option Operator
next_operator Logical last next =
    if repeats last then (if is_kind (kind_of last) next then Some last else None) else None
next_operator Relation last next = None
next_operator Adding last next = adding_at next
next_operator Multiplying last next = multiplying_at next

abbrev pub sign_at : Option TokenKind → Option Sign
sign_at (Some k.Plus) = Some Plus
sign_at (Some k.Minus) = Some Minus
sign_at _ = None

abbrev pub direction_at : Option TokenKind → Option Direction
direction_at (Some k.To) = Some To
direction_at (Some k.Downto) = Some Downto
direction_at _ = None

-- behind a tick
abbrev pub attribute_name : Language → Parser Attribute
attribute_name language = test_in language (is_kind k.Range) (of_range <$> expect k.Range) (called <$> identifier)

unfoldable pub attribute : Language → Parser Attribute
attribute language = expect k.Tick >> attribute_name language

-- ---- choices and elements, by the parser of the expressions in them

-- whether what stands before is a choice and no value
abbrev pub is_choice : Option TokenKind → Bool
is_choice next = is_kind k.Bar next || is_kind k.Arrow next

module _ (item : Parser Expr) where
  abbrev pub choice_by : Expr → Option Direction → Parser Choice
  choice_by left None = pure (chosen left)
  choice_by left (Some direction) = do
    expect (direction_kind direction)
    right ← item
    pure (chosen_range left direction right)

  -- behind an expression, which in the wider language may begin a range
  unfoldable pub choice_from : Language → Expr → Parser Choice
  choice_from Profile left = pure (chosen left)
  choice_from Wide left = choose (λ next. choice_by left (direction_at next))

  unfoldable pub choice_of : Language → Parser Choice
  choice_of language = test (is_kind k.Others) (otherwise <$> expect k.Others) (item >>= choice_from language)

  -- | choice
  unfoldable pub next_choice : Parser Choice
  next_choice = expect k.Bar >> choice_of Wide

  -- an element behind its first choice
  unfoldable pub chosen_element : Choice → Parser Element
  chosen_element first = do
    all ← many (is_kind k.Bar) next_choice (first ∷ [])
    expect k.Arrow
    value ← item
    pure (element_by all value)

  -- an element behind its first expression
  abbrev pub element_from : Expr → Option Direction → Parser Element
  element_from first None = test is_choice (chosen_element (chosen first)) (pure (element_by [] first))
  element_from first (Some direction) = choice_by first (Some direction) >>= chosen_element

  unfoldable pub element_behind : Expr → Parser Element
  element_behind first = choose (λ next. element_from first (direction_at next))

  unfoldable pub element_item : Parser Element
  element_item = test (is_kind k.Others) ((otherwise <$> expect k.Others) >>= chosen_element) (item >>= element_behind)

  -- , element
  unfoldable pub next_element : Parser Element
  next_element = expect k.Comma >> element_item

  abbrev pub element_items : Parser (List Element)
  element_items = do
    first ← element_item
    many (is_kind k.Comma) next_element (first ∷ [])

-- ---- `**`

-- whether two stars that touch come next
unfoldable pub sees_power : List Lexeme → Bool
sees_power [] = false
sees_power (l ∷ []) = false
sees_power (l ∷ m ∷ ts) = same_kind l.kind k.Star && (same_kind m.kind k.Star && (m.at == suc l.at))

-- the language, how many levels may be opened, and what reads an expression in a parenthesis
pub record Inner : Type 0 where
  pub language : Language
  pub levels : ℕ
  pub inside : Parser Expr

module _ (i : Inner) where
  -- where `(` starts, and the elements up to `)`
  unfoldable pub elements : Parser (ℕ × List Element)
  elements = do
    at ← expect k.LeftParen
    below i.levels
    all ← element_items i.inside
    expect k.RightParen
    pure (at, all)

  unfoldable pub narrow_parenthesis : Parser Expr
  narrow_parenthesis = do
    at ← expect k.LeftParen
    inner ← i.inside
    expect k.RightParen
    pure (parens at inner)

  abbrev pub parenthesis_in : Language → Parser Expr
  parenthesis_in Profile = narrow_parenthesis
  parenthesis_in Wide = (λ p. enclosed p.0 (elements_of p.1)) <$> elements

  unfoldable pub parenthesis : Parser Expr
  parenthesis = parenthesis_in i.language

  unfoldable pub argument : Parser Expr
  argument = expect k.Comma >> i.inside

  unfoldable pub range_from : Expr → Direction → Parser Suffix
  range_from left direction = do
    expect (direction_kind direction)
    right ← i.inside
    expect k.RightParen
    pure (sliced left direction right)

  unfoldable pub arguments_from : Expr → Parser Suffix
  arguments_from first = do
    all ← many (is_kind k.Comma) argument (first ∷ [])
    expect k.RightParen
    pure (arguments (exprs_of all))

  abbrev pub suffix_by : Expr → Option Direction → Parser Suffix
  suffix_by first None = arguments_from first
  suffix_by first (Some direction) = range_from first direction

  unfoldable pub suffix : Parser Suffix
  suffix = do
    expect k.LeftParen
    first ← i.inside
    choose (λ next. suffix_by first (direction_at next))

  unfoldable pub optional_suffix : Parser Suffix
  optional_suffix = test (is_kind k.LeftParen) suffix (pure plain)

  -- a name behind its identifier
  unfoldable pub name_from : Ident → Parser Name
  name_from word = do
    s ← optional_suffix
    a ← optional (is_kind k.Tick) (attribute i.language)
    pure (record { identifier = word; suffix = s; attribute = a })

  unfoldable pub name : Parser Name
  name = identifier >>= name_from

  -- a qualified expression behind its type's name
  unfoldable pub qualified_from : Ident → Parser Expr
  qualified_from mark = do
    expect k.Tick
    p ← elements
    pure (qualified mark p.0 (elements_of p.1))

  -- what begins with an identifier, behind it
  abbrev pub named_in : Language → Ident → Parser Expr
  named_in Profile word = name_expr <$> name_from word
  named_in Wide word = test_both k.Tick k.LeftParen (qualified_from word) (name_expr <$> name_from word)

  unfoldable pub named_from : Ident → Parser Expr
  named_from word = named_in i.language word

  abbrev pub primary_by : Option TokenKind → Parser Expr
  primary_by (Some k.Identifier) = identifier >>= named_from
  primary_by (Some k.Integer) = (λ l. integer l.0 l.1) <$> text k.Integer
  primary_by (Some k.Character) = (λ c. character c.0 c.1) <$> input.literal
  primary_by (Some k.String) = (λ l. string l.0 l.1) <$> text k.String
  primary_by (Some k.BitString) = (λ l. bits l.0 l.1) <$> text k.BitString
  primary_by (Some k.LeftParen) = parenthesis
  primary_by _ = refuse

  unfoldable pub primary : Parser Expr
  primary = choose primary_by

  unfoldable pub inverse : Parser Expr
  inverse = do
    at ← expect k.Not
    operand ← primary
    pure (negation at operand)

  unfoldable pub magnitude : Parser Expr
  magnitude = do
    at ← expect k.Abs
    operand ← primary
    pure (absolute at operand)

  unfoldable pub raised : Expr → Parser Expr
  raised base = do
    at ← expect k.Star
    expect k.Star
    exponent ← primary
    pure (power base at exponent)

  -- a primary, and in the wider language its power
  abbrev pub power_in : Language → Parser Expr
  power_in Profile = primary
  power_in Wide = primary >>= (λ base. λ ts. if sees_power ts then raised base ts else pure base ts)

  unfoldable pub optional_power : Parser Expr
  optional_power = power_in i.language

  unfoldable pub factor : Parser Expr
  factor = test (is_kind k.Not) inverse (test_in i.language (is_kind k.Abs) magnitude optional_power)

-- Chains, by the parser of their right operands.
module _ (operand : Parser Expr) where
  unfoldable pub pair : Operator → Parser Pair
  pair op = do
    at ← expect (kind_of op)
    right ← operand
    pure (record { operator = op; at = at; operand = right })

  abbrev pub turn : Option Operator → (Operator → Expr → Parser Expr) → Expr → Parser Expr
  turn None go left = pure left
  turn (Some op) go left = pair op >>= (λ p. go op (joined left p))

  -- The number bounds the turns, and each turn takes a token.
  unfoldable pub more_from : ℕ → Level → Operator → Expr → Parser Expr
  more_from zero level last left = pure left
  more_from (suc n) level last left = choose (λ next. turn (next_operator level last next) (more_from n level) left)

  -- what follows the last operator of a chain and its operand
  unfoldable pub more : Level → Operator → Expr → Parser Expr
  more level last left = λ ts. more_from (length ts) level last left ts

  abbrev pub begin_by : Level → Expr → Option Operator → Parser Expr
  begin_by level first None = pure first
  begin_by level first (Some op) = pair op >>= (λ p. more level op (begun first p))

  -- what follows the first operand of a chain
  unfoldable pub begin : Level → Expr → Parser Expr
  begin level first = choose (λ next. begin_by level first (operator_at level next))

-- a term with a sign before it, or without one, by the parser of terms
module _ (term : Parser Expr) where
  abbrev pub leading_by : Option Sign → Parser Expr
  leading_by None = term
  leading_by (Some sign) = do
    at ← expect (sign_kind sign)
    operand ← term
    pure (signed sign at operand)

  unfoldable pub leading : Parser Expr
  leading = choose (λ next. leading_by (sign_at next))

abbrev pub chain : Parser Expr → Parser Expr → Level → Parser Expr
chain first operand level = first >>= begin operand level

module _ (i : Inner) where
  abbrev pub term : Parser Expr
  term = chain (factor i) (factor i) Multiplying

  abbrev pub sum : Parser Expr
  sum = chain (leading term) term Adding

  abbrev pub relation : Parser Expr
  relation = chain sum sum Relation

  abbrev pub whole : Parser Expr
  whole = chain relation relation Logical

  -- the right operands of a level
  abbrev pub operand_of : Level → Parser Expr
  operand_of Logical = relation
  operand_of Relation = sum
  operand_of Adding = term
  operand_of Multiplying = factor i

  -- its first operands
  abbrev pub first_of : Level → Parser Expr
  first_of Logical = relation
  first_of Relation = sum
  first_of Adding = leading term
  first_of Multiplying = factor i

  abbrev pub chain_of : Level → Parser Expr
  chain_of level = chain (first_of level) (operand_of level) level

-- what stands in a parenthesis, where so many levels may be opened, that parenthesis among them
unfoldable pub inside : Language → ℕ → Parser Expr
inside language zero = too_deep
inside language (suc n) = whole (record { language = language; levels = n; inside = inside language n })

abbrev pub inner : Language → ℕ → Inner
inner language n = record { language = language; levels = n; inside = inside language n }

-- an expression, in which so many levels may be opened
abbrev pub expr : Language → ℕ → Parser Expr
expr language n = whole (inner language n)

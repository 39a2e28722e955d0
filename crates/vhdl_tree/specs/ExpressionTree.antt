-- The names and expressions of a syntax tree as contracts see it: without where they lie in memory, and with a chain of
-- operators of one level grouped from the left.
use Rattle.std.specs.Prelude.{ℕ, Bool, true, false, Option, Some, None, List, [], ◌∷◌}
use Rattle.vhdl_tree.specs.declared.operator.Operator.{Operator}
use Rattle.vhdl_tree.specs.declared.operator.Sign.{Sign}
use Rattle.vhdl_tree.specs.declared.operator.Direction.{Direction}

-- an identifier in small letters, and the byte at which it starts
pub record Ident : Type 0 where
  pub at : ℕ
  pub text : List ℕ

-- ---- expressions

-- what stands behind the tick of a name: an identifier, or where `range` starts, which is a reserved word
pub data Attribute : Type 0 where
  called : Ident → Attribute
  of_range : ℕ → Attribute

mutual
  pub data Expr : Type 0 where
    -- where it starts, and its bytes
    integer : ℕ → List ℕ → Expr
    -- where it starts, and the character between its ticks
    character : ℕ → ℕ → Expr
    string : ℕ → List ℕ → Expr
    bits : ℕ → List ℕ → Expr
    -- an identifier, what stands in parentheses after it, and an attribute
    named : Ident → Suffix → Option Attribute → Expr
    parens : ℕ → Expr → Expr
    negation : ℕ → Expr → Expr
    absolute : ℕ → Expr → Expr
    -- a base, where the first of the two stars starts, and an exponent
    power : Expr → ℕ → Expr → Expr
    signed : Sign → ℕ → Expr → Expr
    -- whether the operator is the first one of its chain, the operator, where it starts, and its operands
    binary : Bool → Operator → ℕ → Expr → Expr → Expr
    -- where the parenthesis starts, and the elements in it
    aggregate : ℕ → Elements → Expr
    -- a type's name, and behind the tick an aggregate, or an expression in parentheses as an element without choices
    qualified : Ident → ℕ → Elements → Expr

  pub data Suffix : Type 0 where
    plain : Suffix
    arguments : Exprs → Suffix
    sliced : Expr → Direction → Expr → Suffix

  pub data Exprs : Type 0 where
    no_exprs : Exprs
    expr : Expr → Exprs → Exprs

  -- each a value behind its choices
  pub data Elements : Type 0 where
    no_elements : Elements
    element : Choices → Expr → Elements → Elements

  pub data Choices : Type 0 where
    no_choices : Choices
    choice : Choice → Choices → Choices

  -- a choice of an element or of an alternative: an expression, a range, or where `others` starts
  pub data Choice : Type 0 where
    chosen : Expr → Choice
    chosen_range : Expr → Direction → Expr → Choice
    otherwise : ℕ → Choice

-- an operator, where it starts, and its right operand
pub record Pair : Type 0 where
  pub operator : Operator
  pub at : ℕ
  pub operand : Expr

-- the chain goes on
abbrev pub joined : Expr → Pair → Expr
joined left p = binary false p.operator p.at left p.operand

abbrev pub all_joined : Expr → List Pair → Expr
all_joined left [] = left
all_joined left (p ∷ ps) = all_joined (joined left p) ps

-- the chain begins
abbrev pub begun : Expr → Pair → Expr
begun first p = binary true p.operator p.at first p.operand

-- a chain's first operand and what follows it, grouped from the left
abbrev pub chained : Expr → Pair → List Pair → Expr
chained first second rest = all_joined (begun first second) rest

abbrev pub exprs_of : List Expr → Exprs
exprs_of [] = no_exprs
exprs_of (e ∷ es) = expr e (exprs_of es)

-- a value, and the choices before it
pub record Element : Type 0 where
  pub choices : List Choice
  pub value : Expr

abbrev pub element_by : List Choice → Expr → Element
element_by choices value = record { choices = choices; value = value }

abbrev pub choices_of : List Choice → Choices
choices_of [] = no_choices
choices_of (c ∷ cs) = choice c (choices_of cs)

abbrev pub elements_of : List Element → Elements
elements_of [] = no_elements
elements_of (e ∷ es) = element (choices_of e.choices) e.value (elements_of es)

pub record Range : Type 0 where
  pub left : Expr
  pub direction : Direction
  pub right : Expr

pub record Name : Type 0 where
  pub identifier : Ident
  pub suffix : Suffix
  pub attribute : Option Attribute

-- a range where a name may stand for one: its bounds, or the name
pub data DiscreteRange : Type 0 where
  bounds : Range → DiscreteRange
  range_named : Name → DiscreteRange

-- an expression, or (others => e)
pub data Value : Type 0 where
  single : Expr → Value
  others : ℕ → Expr → Value

-- what is associated: an expression, or where `open` starts
pub data Actual : Type 0 where
  actual : Expr → Actual
  left_open : ℕ → Actual

pub record Association : Type 0 where
  pub formal : Option Ident
  pub actual : Actual

-- ---- what an expression is where it stands

-- a lone element without choices
abbrev pub is_lone : Elements → Bool
is_lone (element no_choices value no_elements) = true
is_lone _ = false

-- ( all ): a lone element without choices is an expression in parentheses
abbrev pub enclosed : ℕ → Elements → Expr
enclosed at (element no_choices value no_elements) = parens at value
enclosed at all = aggregate at all

-- a lone element for `others`
abbrev pub is_fill : Elements → Bool
is_fill (element (choice (otherwise other) no_choices) value no_elements) = true
is_fill _ = false

-- an expression as a value: ( others => e ) is no aggregate
abbrev pub value_of : Expr → Value
value_of (aggregate at (element (choice (otherwise other) no_choices) value no_elements)) = others at value
value_of e = single e

-- the name that an expression is, if it is one
abbrev pub name_of : Expr → Option Name
name_of (named identifier suffix attribute) =
    Some (record { identifier = identifier; suffix = suffix; attribute = attribute })
name_of _ = None

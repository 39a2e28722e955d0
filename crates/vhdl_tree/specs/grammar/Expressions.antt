-- Names and expressions (IEEE 1076-2008, 8.1, 9.1): how they are spelled, and which are well formed.
use Rattle.std.specs.Prelude.{◌≡◌, ℕ, suc, ◌≤◌, ◌<◌, ◌⊎◌, Bool, true, false, if◌then◌else◌, List, [], ◌∷◌, ◌++◌}
use Rattle.vhdl_lexer.specs.Kinds.{is_one_of}
use Rattle.vhdl_lexer.specs.declared.language.Language.{Language}
use Rattle.vhdl_lexer.specs.declared.token.TokenKind.{TokenKind}
use Rattle.vhdl_lexer.specs.declared.token.TokenKind.TheVariants as k
use Rattle.vhdl_tree.specs.declared.operator.Operator.{Operator}
use Rattle.vhdl_tree.specs.declared.operator.Operator.TheVariants.{And, Or, Xor, Xnor, Nand, Nor, Equal, NotEqual, Less, LessEqual, Greater, GreaterEqual, Add, Subtract, Concatenate, Multiply, Divide, Modulo, Remainder}
use Rattle.vhdl_tree.specs.declared.operator.Sign.{Sign}
use Rattle.vhdl_tree.specs.declared.operator.Sign.TheVariants.{Plus, Minus}
use Rattle.vhdl_tree.specs.declared.operator.Direction.{Direction}
use Rattle.vhdl_tree.specs.declared.operator.Direction.TheVariants.{To, Downto}
use Rattle.vhdl_tree.specs.Tree.{Ident, Attribute, called, of_range, Expr, integer, character, string, bits, named, parens, negation, absolute, power, signed, binary, aggregate, qualified, Suffix, plain, arguments, sliced, Exprs, no_exprs, expr, Elements, no_elements, element, Choices, no_choices, choice, Choice, chosen, chosen_range, otherwise, Range, Name, DiscreteRange, bounds, range_named, Value, single, others, Actual, actual, left_open, Association}
use Rattle.vhdl_tree.specs.Pieces.{Piece, some, one_at, word_at, literal_at, text_at, spell_option, spell_ident, spell_list, IsList, IsOption}
use Rattle.vhdl_tree.specs.grammar.Wide.{IsWide}

-- ---- spelling

abbrev pub kind_of : Operator → TokenKind
kind_of And = k.And
kind_of Or = k.Or
kind_of Xor = k.Xor
kind_of Xnor = k.Xnor
kind_of Nand = k.Nand
kind_of Nor = k.Nor
kind_of Equal = k.Equal
kind_of NotEqual = k.NotEqual
kind_of Less = k.Less
kind_of LessEqual = k.LessEqual
kind_of Greater = k.Greater
kind_of GreaterEqual = k.GreaterEqual
kind_of Add = k.Plus
kind_of Subtract = k.Minus
kind_of Concatenate = k.Ampersand
kind_of Multiply = k.Star
kind_of Divide = k.Slash
kind_of Modulo = k.Mod
kind_of Remainder = k.Rem

abbrev pub sign_kind : Sign → TokenKind
sign_kind Plus = k.Plus
sign_kind Minus = k.Minus

abbrev pub direction_kind : Direction → TokenKind
direction_kind To = k.To
direction_kind Downto = k.Downto

-- ' ( id | range ), in which `range` is the reserved word
abbrev pub spell_attribute : Attribute → List Piece
spell_attribute (called name) = some k.Tick ∷ spell_ident name
spell_attribute (of_range at) = some k.Tick ∷ (one_at k.Range at ∷ [])

abbrev mutual
  pub spell : Expr → List Piece
  -- primary = integer | character | string | bit string | name | ( expr ) | aggregate | qualified
  spell (integer at text) = text_at k.Integer at text ∷ []
  spell (character at code) = literal_at at code ∷ []
  spell (string at text) = text_at k.String at text ∷ []
  spell (bits at text) = text_at k.BitString at text ∷ []
  spell (named n suffix attribute) =
      word_at n.at n.text ∷ (spell_suffix suffix ++ spell_option spell_attribute attribute)
  spell (parens at inner) = one_at k.LeftParen at ∷ (spell inner ++ some k.RightParen ∷ [])
  -- aggregate = ( element { , element } )
  spell (aggregate at elements) = one_at k.LeftParen at ∷ (spell_elements elements ++ some k.RightParen ∷ [])
  -- qualified = id ' ( expr ) | id ' aggregate
  spell (qualified mark at elements) =
      word_at mark.at mark.text ∷ (some k.Tick ∷ (one_at k.LeftParen at ∷
      (spell_elements elements ++ some k.RightParen ∷ [])))
  -- factor = not primary | abs primary | primary [ ** primary ]
  spell (negation at operand) = one_at k.Not at ∷ spell operand
  spell (absolute at operand) = one_at k.Abs at ∷ spell operand
  -- the two stars of `**` touch: no other sign, nor a space, stands between them (15.3)
  spell (power base at exponent) =
      spell base ++ (one_at k.Star at ∷ (one_at k.Star (suc at) ∷ spell exponent))
  -- sum = [ + | - ] term { .. }
  spell (signed sign at operand) = one_at (sign_kind sign) at ∷ spell operand
  -- expr = rel { and rel } | .., rel = sum [ .. sum ], sum = .. term { .. term }, term = factor { .. factor }
  spell (binary begins operator at left right) = spell left ++ (one_at (kind_of operator) at ∷ spell right)

  -- name = id [ ( expr { , expr } ) | ( expr ( to | downto ) expr ) ] ..
  pub spell_suffix : Suffix → List Piece
  spell_suffix plain = []
  spell_suffix (arguments all) = some k.LeftParen ∷ (spell_exprs all ++ some k.RightParen ∷ [])
  spell_suffix (sliced left direction right) =
      some k.LeftParen ∷ (spell left ++ (some (direction_kind direction) ∷ (spell right ++ some k.RightParen ∷ [])))

  pub spell_exprs : Exprs → List Piece
  spell_exprs no_exprs = []
  spell_exprs (expr e more) = spell e ++ spell_more more

  pub spell_more : Exprs → List Piece
  spell_more no_exprs = []
  spell_more (expr e more) = some k.Comma ∷ (spell e ++ spell_more more)

  -- element { , element }, element = [ choices => ] expr
  pub spell_elements : Elements → List Piece
  spell_elements no_elements = []
  spell_elements (element choices value more) =
      (spell_chosen choices ++ spell value) ++ spell_more_elements more

  -- { , element }
  pub spell_more_elements : Elements → List Piece
  spell_more_elements no_elements = []
  spell_more_elements (element choices value more) =
      some k.Comma ∷ ((spell_chosen choices ++ spell value) ++ spell_more_elements more)

  -- [ choices => ]
  pub spell_chosen : Choices → List Piece
  spell_chosen no_choices = []
  spell_chosen (choice c more) = spell_choice c ++ spell_more_chosen more

  -- { | choice } =>
  pub spell_more_chosen : Choices → List Piece
  spell_more_chosen no_choices = some k.Arrow ∷ []
  spell_more_chosen (choice c more) = some k.Bar ∷ (spell_choice c ++ spell_more_chosen more)

  -- choice = others | expr | expr ( to | downto ) expr
  pub spell_choice : Choice → List Piece
  spell_choice (otherwise at) = one_at k.Others at ∷ []
  spell_choice (chosen e) = spell e
  spell_choice (chosen_range left direction right) =
      spell left ++ (some (direction_kind direction) ∷ spell right)

-- name = id [ .. ] [ ' ( id | range ) ]
abbrev pub spell_name : Name → List Piece
spell_name n =
    word_at n.identifier.at n.identifier.text ∷ (spell_suffix n.suffix ++ spell_option spell_attribute n.attribute)

-- value = expr | ( others => expr )
abbrev pub spell_value : Value → List Piece
spell_value (single e) = spell e
spell_value (others at e) =
    one_at k.LeftParen at ∷ (some k.Others ∷ (some k.Arrow ∷ (spell e ++ some k.RightParen ∷ [])))

-- expr ( to | downto ) expr
abbrev pub spell_range : Range → List Piece
spell_range r = spell r.left ++ (some (direction_kind r.direction) ∷ spell r.right)

-- range = expr ( to | downto ) expr | name
abbrev pub spell_discrete_range : DiscreteRange → List Piece
spell_discrete_range (bounds r) = spell_range r
spell_discrete_range (range_named n) = spell_name n

-- choices = choice { | choice }
abbrev pub spell_choices : List Choice → List Piece
spell_choices = spell_list k.Bar spell_choice

-- expr | open
abbrev pub spell_actual : Actual → List Piece
spell_actual (actual e) = spell e
spell_actual (left_open at) = one_at k.Open at ∷ []

-- id =>
abbrev pub spell_formal : Ident → List Piece
spell_formal n = word_at n.at n.text ∷ (some k.Arrow ∷ [])

-- assoc = [ id => ] ( expr | open )
abbrev pub spell_association : Association → List Piece
spell_association a = spell_option spell_formal a.formal ++ spell_actual a.actual

-- assoc { , assoc }
abbrev pub spell_associations : List Association → List Piece
spell_associations = spell_list k.Comma spell_association

-- ---- precedence and chaining

-- how tightly an operator binds its operands, by its token: logical operators 1, relations 2, sums 3, terms 4, and what
-- is none 0
abbrev pub token_rank : TokenKind → ℕ
token_rank kind =
    if is_one_of (k.And ∷ k.Or ∷ k.Xor ∷ k.Xnor ∷ k.Nand ∷ k.Nor ∷ []) kind then 1
    else if is_one_of (k.Equal ∷ k.NotEqual ∷ k.Less ∷ k.LessEqual ∷ k.Greater ∷ k.GreaterEqual ∷ []) kind then 2
    else if is_one_of (k.Plus ∷ k.Minus ∷ k.Ampersand ∷ []) kind then 3
    else if is_one_of (k.Star ∷ k.Slash ∷ k.Mod ∷ k.Rem ∷ []) kind then 4
    else 0

abbrev pub rank : Operator → ℕ
rank operator = token_rank (kind_of operator)

-- how tightly a tree holds together: by its own operator, a sign as a sum, `not`, `abs` and `**` 5, and what needs no
-- operator 6
abbrev pub binding : Expr → ℕ
binding (integer at text) = 6
binding (character at code) = 6
binding (string at text) = 6
binding (bits at text) = 6
binding (named n suffix attribute) = 6
binding (parens at inner) = 6
binding (negation at operand) = 5
binding (absolute at operand) = 5
binding (power base at exponent) = 5
binding (signed sign at operand) = 3
binding (binary begins operator at left right) = rank operator
binding (aggregate at all) = 6
binding (qualified mark at all) = 6

-- the logical operators of expr = rel { and rel } | rel { or rel } | rel { xor rel } | rel { xnor rel } | rel nand rel
-- | rel nor rel that may stand more than once
abbrev pub repeats : Operator → Bool
repeats operator = is_one_of (k.And ∷ k.Or ∷ k.Xor ∷ k.Xnor ∷ []) (kind_of operator)

-- An operator may follow another of its rank without parentheses: any in a sum or a term, itself where it repeats, and
-- none in a relation.
abbrev pub Chains : Operator → Operator → Type 0
Chains first next = (rank first ≡ rank next) × ((3 ≤ rank next) ⊎ ((first ≡ next) × (repeats next ≡ true)))

-- the operator goes on with the chain that a tree is
abbrev pub GoesOn : Operator → Expr → Type 0
GoesOn operator (binary begins first at left right) = Chains first operator
GoesOn operator _ = ⊥

-- a sign before the first term of a sum
abbrev pub IsSigned : Operator → Expr → Type 0
IsSigned operator (signed sign at operand) = rank operator ≡ 3
IsSigned operator _ = ⊥

-- An operator begins a chain behind what binds more tightly, or behind a sign. So a chain's first operand is none of
-- its own chain's trees.
abbrev pub Leads : Bool → Operator → Expr → Type 0
Leads true operator left = (rank operator < binding left) ⊎ IsSigned operator left
Leads false operator left = GoesOn operator left

-- no lone element without choices, which is an expression in parentheses
abbrev pub IsAggregate : Elements → Type 0
IsAggregate (element no_choices value no_elements) = ⊥
IsAggregate _ = Unit {0}

-- no ( others => e ), which as a value is `others`
abbrev pub IsSingle : Expr → Type 0
IsSingle (aggregate at (element (choice (otherwise other) no_choices) value no_elements)) = ⊥
IsSingle _ = Unit {0}

-- in a language
module _ (language : Language) where
  abbrev pub IsAttributeIn : Attribute → Type 0
  IsAttributeIn (called name) = Unit {0}
  IsAttributeIn (of_range at) = IsWide language

  abbrev mutual
    pub IsExprIn : Expr → Type 0
    IsExprIn (integer at text) = Unit {0}
    IsExprIn (character at code) = Unit {0}
    IsExprIn (string at text) = Unit {0}
    IsExprIn (bits at text) = Unit {0}
    IsExprIn (named n suffix attribute) = IsSuffixIn suffix × IsOption IsAttributeIn attribute
    IsExprIn (parens at inner) = IsExprIn inner
    IsExprIn (aggregate at elements) = IsWide language × IsAggregate elements × AreElementsIn elements
    IsExprIn (qualified mark at elements) = IsWide language × AreElementsIn elements
    -- factor = not primary | abs primary | primary ** primary
    IsExprIn (negation at operand) = (5 < binding operand) × IsExprIn operand
    IsExprIn (absolute at operand) = IsWide language × (5 < binding operand) × IsExprIn operand
    IsExprIn (power base at exponent) =
        IsWide language × (5 < binding base) × (5 < binding exponent) × IsExprIn base × IsExprIn exponent
    -- sum = ( + | - ) term { .. }
    IsExprIn (signed sign at operand) = (3 < binding operand) × IsExprIn operand
    IsExprIn (binary begins operator at left right) =
        Leads begins operator left × (rank operator < binding right) × IsExprIn left × IsExprIn right

    pub IsSuffixIn : Suffix → Type 0
    IsSuffixIn plain = Unit {0}
    IsSuffixIn (arguments all) = AreArgumentsIn all
    IsSuffixIn (sliced left direction right) = IsExprIn left × IsExprIn right

    -- there is at least one
    pub AreArgumentsIn : Exprs → Type 0
    AreArgumentsIn no_exprs = ⊥
    AreArgumentsIn (expr e more) = IsExprIn e × AreExprsIn more

    pub AreExprsIn : Exprs → Type 0
    AreExprsIn no_exprs = Unit {0}
    AreExprsIn (expr e more) = IsExprIn e × AreExprsIn more

    -- there is at least one
    pub AreElementsIn : Elements → Type 0
    AreElementsIn no_elements = ⊥
    AreElementsIn (element choices value more) = AreChosenIn choices × IsExprIn value × AreMoreElementsIn more

    pub AreMoreElementsIn : Elements → Type 0
    AreMoreElementsIn no_elements = Unit {0}
    AreMoreElementsIn (element choices value more) = AreChosenIn choices × IsExprIn value × AreMoreElementsIn more

    pub AreChosenIn : Choices → Type 0
    AreChosenIn no_choices = Unit {0}
    AreChosenIn (choice c more) = IsChoiceIn c × AreChosenIn more

    -- a range is a choice in the wider language alone
    pub IsChoiceIn : Choice → Type 0
    IsChoiceIn (otherwise at) = Unit {0}
    IsChoiceIn (chosen e) = IsExprIn e
    IsChoiceIn (chosen_range left direction right) = IsWide language × IsExprIn left × IsExprIn right

  abbrev pub IsNameIn : Name → Type 0
  IsNameIn n = IsSuffixIn n.suffix × IsOption IsAttributeIn n.attribute

  abbrev pub IsRangeIn : Range → Type 0
  IsRangeIn r = IsExprIn r.left × IsExprIn r.right

  abbrev pub IsDiscreteRangeIn : DiscreteRange → Type 0
  IsDiscreteRangeIn (bounds r) = IsRangeIn r
  IsDiscreteRangeIn (range_named n) = IsWide language × IsNameIn n

  abbrev pub IsValueIn : Value → Type 0
  IsValueIn (single e) = IsExprIn e × IsSingle e
  IsValueIn (others at e) = IsExprIn e

  abbrev pub AreChoicesIn : List Choice → Type 0
  AreChoicesIn = IsList IsChoiceIn

  abbrev pub IsActualIn : Actual → Type 0
  IsActualIn (actual e) = IsExprIn e
  IsActualIn (left_open at) = Unit {0}

  abbrev pub IsAssociationIn : Association → Type 0
  IsAssociationIn a = IsActualIn a.actual

  abbrev pub AreAssociationsIn : List Association → Type 0
  AreAssociationsIn = IsList IsAssociationIn

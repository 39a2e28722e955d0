-- What contracts see of the expressions of a tree.
use Rattle.std.specs.Prelude.{ℕ, true, false, List, map, Vec, Option, option_map}
use Rattle.std.specs.Global.{Global}
use Rattle.vhdl_tree.specs.declared.expression.Identifier.{Identifier}
use Rattle.vhdl_tree.specs.declared.expression.Literal.{Literal}
use Rattle.vhdl_tree.specs.declared.expression.Expr.{Expr}
use Rattle.vhdl_tree.specs.declared.expression.Expr.TheVariants as e
use Rattle.vhdl_tree.specs.declared.expression.Choice.TheBlock.{Row_of-Link, end_of-Link, more_of-Link, Row_of-Expr, end_of-Expr, more_of-Expr, Row_of-Element, end_of-Element, more_of-Element, Row_of-Choice, end_of-Choice, more_of-Choice}
use Rattle.vhdl_tree.specs.declared.expression.Link.{Link}
use Rattle.vhdl_tree.specs.declared.expression.Chain.{Chain, Chain'}
use Rattle.vhdl_tree.specs.declared.expression.Element.{Element, out-Element}
use Rattle.vhdl_tree.specs.declared.expression.Name.{Name}
use Rattle.vhdl_tree.specs.declared.expression.Attribute.{Attribute}
use Rattle.vhdl_tree.specs.declared.expression.Attribute.TheVariants as attr
use Rattle.vhdl_tree.specs.declared.expression.Suffix.{Suffix}
use Rattle.vhdl_tree.specs.declared.expression.Suffix.TheVariants as s
use Rattle.vhdl_tree.specs.declared.expression.Range.{Range}
use Rattle.vhdl_tree.specs.declared.expression.DiscreteRange.{DiscreteRange}
use Rattle.vhdl_tree.specs.declared.expression.DiscreteRange.TheVariants as dr
use Rattle.vhdl_tree.specs.declared.expression.Value.{Value}
use Rattle.vhdl_tree.specs.declared.expression.Value.TheVariants as v
use Rattle.vhdl_tree.specs.declared.expression.Choice.{Choice}
use Rattle.vhdl_tree.specs.declared.expression.Choice.TheVariants as ch
use Rattle.vhdl_tree.specs.declared.expression.Actual.{Actual}
use Rattle.vhdl_tree.specs.declared.expression.Actual.TheVariants as ac
use Rattle.vhdl_tree.specs.declared.expression.Association.{Association}
use Rattle.vhdl_tree.specs.declared.declaration.Subtype.{Subtype}
use Rattle.vhdl_tree.specs.declared.declaration.Constraint.{Constraint}
use Rattle.vhdl_tree.specs.declared.declaration.Constraint.TheVariants as co
use Rattle.vhdl_tree.specs.Tree as tree

abbrev pub ident_view : Identifier → tree.Ident
ident_view i = record { at = i.at; text = i.text.items }

abbrev pub idents_view : Vec Identifier Global → List tree.Ident
idents_view v = map ident_view v.items

abbrev pub option_ident_view : Option Identifier → Option tree.Ident
option_ident_view = option_map ident_view

abbrev pub literal_view : Literal → ℕ × List ℕ
literal_view l = (l.at, l.text.items)

abbrev pub attribute_view : Attribute → tree.Attribute
attribute_view (attr.Name name) = tree.called (ident_view name)
attribute_view (attr.Range at) = tree.of_range at

-- ---- expressions

abbrev mutual
  pub view : Expr → tree.Expr
  view (e.Integer l) = tree.integer l.at l.text.items
  view (e.Character at code) = tree.character at code
  view (e.StringLiteral l) = tree.string l.at l.text.items
  view (e.BitString l) = tree.bits l.at l.text.items
  view (e.Name' identifier suffix attribute) =
      tree.named (ident_view identifier) (suffix_view suffix) (option_map attribute_view attribute)
  view (e.Parens' at p inner) = tree.parens at (view inner)
  view (e.Not' at p operand) = tree.negation at (view operand)
  view (e.Abs' at p operand) = tree.absolute at (view operand)
  view (e.Power' p base at exponent) = tree.power (view base) at (view exponent)
  view (e.Signed' sign at p operand) = tree.signed sign at (view operand)
  view (e.Chain' p chain) = chain_view chain
  view (e.Aggregate' at shape elements) = tree.aggregate at (elements_row elements)
  view (e.Qualified' mark at shape elements) = tree.qualified (ident_view mark) at (elements_row elements)

  pub elements_row : {m : _} → Row_of-Element m → tree.Elements
  elements_row end_of-Element = tree.no_elements
  elements_row (more_of-Element shape choices value rest) =
      tree.element (choices_row choices) (view value) (elements_row rest)

  pub choices_row : {m : _} → Row_of-Choice m → tree.Choices
  choices_row end_of-Choice = tree.no_choices
  choices_row (more_of-Choice c rest) = tree.choice (choice_view c) (choices_row rest)

  pub choice_view : Choice → tree.Choice
  choice_view (ch.Expr x) = tree.chosen (view x)
  choice_view (ch.Range' left direction right) = tree.chosen_range (view left) direction (view right)
  choice_view (ch.Others at) = tree.otherwise at

  pub suffix_view : Suffix → tree.Suffix
  suffix_view s.Plain = tree.plain
  suffix_view (s.Arguments' shape all) = tree.arguments (row_view all)
  suffix_view (s.Range' p left direction right) = tree.sliced (view left) direction (view right)

  pub row_view : {m : _} → Row_of-Expr m → tree.Exprs
  row_view end_of-Expr = tree.no_exprs
  row_view (more_of-Expr x rest) = tree.expr (view x) (row_view rest)

  pub chain_view : Chain → tree.Expr
  chain_view (Chain' first operator at operand shape rest) =
      links_view (tree.binary true operator at (view first) (view operand)) rest

  -- the further operators of a chain, grouped from the left
  pub links_view : {m : _} → tree.Expr → Row_of-Link m → tree.Expr
  links_view left end_of-Link = left
  links_view left (more_of-Link operator at operand rest) =
      links_view (tree.binary false operator at left (view operand)) rest

abbrev pub pair_view : Link → tree.Pair
pair_view l = record { operator = l.operator; at = l.at; operand = view l.operand }

abbrev pub pairs_view : Vec Link Global → List tree.Pair
pairs_view v = map pair_view v.items

abbrev pub exprs_view : Vec Expr Global → List tree.Expr
exprs_view v = map view v.items

abbrev pub range_view : Range → tree.Range
range_view r = record { left = view r.left; direction = r.direction; right = view r.right }

abbrev pub option_expr_view : Option Expr → Option tree.Expr
option_expr_view = option_map view

abbrev pub name_view : Name → tree.Name
name_view n = record {
  identifier = ident_view n.identifier;
  suffix = suffix_view n.suffix;
  attribute = option_map attribute_view n.attribute;
}

abbrev pub discrete_range_view : DiscreteRange → tree.DiscreteRange
discrete_range_view (dr.Bounds r) = tree.bounds (range_view r)
discrete_range_view (dr.Name n) = tree.range_named (name_view n)

abbrev pub value_view : Value → tree.Value
value_view (v.Expr x) = tree.single (view x)
value_view (v.Others at x) = tree.others at (view x)

abbrev pub choices_view : Vec Choice Global → List tree.Choice
choices_view v = map choice_view v.items

abbrev pub element_view : Element → tree.Element
element_view e = record {
  choices = choices_view (out-Element e).choices;
  value = view (out-Element e).value;
}

abbrev pub elements_view : Vec Element Global → List tree.Element
elements_view v = map element_view v.items

abbrev pub actual_view : Actual → tree.Actual
actual_view (ac.Expr x) = tree.actual (view x)
actual_view (ac.Open at) = tree.left_open at

abbrev pub association_view : Association → tree.Association
association_view a = record { formal = option_map ident_view a.formal; actual = actual_view a.actual }

abbrev pub associations_view : Vec Association Global → List tree.Association
associations_view v = map association_view v.items

abbrev pub option_value_view : Option Value → Option tree.Value
option_value_view = option_map value_view

abbrev pub constraint_view : Constraint → tree.Constraint
constraint_view (co.Index r) = tree.index_range (discrete_range_view r)
constraint_view (co.Range r) = tree.value_range (discrete_range_view r)

abbrev pub option_constraint_view : Option Constraint → Option tree.Constraint
option_constraint_view = option_map constraint_view

abbrev pub subtype_view : Subtype → tree.Subtype
subtype_view t = record { mark = ident_view t.mark; constraint = option_map constraint_view t.constraint }

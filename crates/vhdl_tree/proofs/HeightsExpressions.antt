-- How high names, expressions and what is made of them are, where so many levels may be opened.
use Rattle.std.proofs.Common.{ℕ, suc, ◌*◌, List, [], ◌∷◌, map, Vec, Global, Option, Some, None, refl, arith}
use Rattle.std.specs.Prelude.{max, option_map}
use Rattle.vhdl_lexer.specs.declared.language.Language.TheVariants.{Wide}
use Rattle.vhdl_lexer.specs.declared.token.TokenKind.TheVariants as k
use Rattle.vhdl_tree.specs.declared.operator.Operator.{Operator}
use Rattle.vhdl_tree.specs.declared.operator.Operator.TheVariants.{And}
use Rattle.vhdl_tree.specs.declared.operator.Sign.{Sign}
use Rattle.vhdl_tree.specs.declared.operator.Sign.TheVariants.{Plus, Minus}
use Rattle.vhdl_tree.specs.declared.operator.Direction.{Direction}
use Rattle.vhdl_tree.specs.declared.operator.Direction.TheVariants.{To, Downto}
use Rattle.vhdl_tree.specs.declared.expression.Expr.{Expr}
use Rattle.vhdl_tree.specs.declared.expression.Name.{Name}
use Rattle.vhdl_tree.specs.declared.expression.Range.{Range}
use Rattle.vhdl_tree.specs.declared.expression.Value.{Value}
use Rattle.vhdl_tree.specs.declared.expression.Value.TheVariants as v
use Rattle.vhdl_tree.specs.declared.expression.Choice.{Choice}
use Rattle.vhdl_tree.specs.declared.expression.Choice.TheVariants as ch
use Rattle.vhdl_tree.specs.declared.expression.Actual.{Actual}
use Rattle.vhdl_tree.specs.declared.expression.Actual.TheVariants as ac
use Rattle.vhdl_tree.specs.declared.expression.Association.{Association}
use Rattle.vhdl_tree.specs.declared.expression.DiscreteRange.{DiscreteRange}
use Rattle.vhdl_tree.specs.declared.expression.DiscreteRange.TheVariants as dr
use Rattle.vhdl_tree.specs.declared.sequential.Branch.{Branch}
use Rattle.vhdl_tree.specs.declared.declaration.Constraint.{Constraint}
use Rattle.vhdl_tree.specs.declared.declaration.Constraint.TheVariants as co
use Rattle.vhdl_tree.specs.declared.declaration.Subtype.{Subtype}
use Rattle.vhdl_tree.specs.Lexeme.{same_kind}
use Rattle.vhdl_tree.specs.Tree as tree
use Rattle.vhdl_tree.specs.View.{view, attribute_view, suffix_view, range_view, name_view, discrete_range_view, value_view, option_value_view, choice_view, choices_view, actual_view, association_view, associations_view, constraint_view, subtype_view, ident_view, branch_view}
use Rattle.vhdl_tree.specs.Height.{height, range_height, name_height, discrete_range_height, value_height, choice_height, actual_height, association_height, associations_height, constraint_height, subtype_height, branch_height, highest, optional_height}
use Rattle.vhdl_tree.specs.Nesting.{nesting, suffix_nesting, exprs_nesting, elements_nesting, choices_nesting, choice_nesting}
use Rattle.vhdl_tree.specs.Pieces.{IsEach, IsOption, spell_option, some, one_at, word_at, literal_at, text_at}
use Rattle.vhdl_tree.specs.grammar.Expressions.{kind_of, sign_kind, direction_kind, spell, spell_suffix, spell_exprs, spell_more, spell_elements, spell_more_elements, spell_chosen, spell_more_chosen, spell_attribute, spell_name, spell_value, spell_range, spell_discrete_range, spell_choice, spell_choices, spell_actual, spell_formal, spell_association, spell_associations, IsExprIn, IsNameIn, IsRangeIn, IsDiscreteRangeIn, IsValueIn, IsChoiceIn, AreChoicesIn, IsActualIn, IsAssociationIn, AreAssociationsIn}
use Rattle.vhdl_tree.specs.grammar.Subtypes.{spell_constraint, spell_subtype, spell_default, IsConstraintIn, IsSubtypeIn}
use Rattle.vhdl_tree.specs.grammar.Waveforms.{spell_branch, spell_otherwise, spell_waveforms, IsBranchIn, AreConditionalIn, AreWaveformsIn}
use Rattle.vhdl_tree.proofs.Heights.{height_bounded, flat_suffix}
use Rattle.vhdl_tree.proofs.Room.{Bounds, IsPlain, b_none, b_less, b_then, b_piece, b_level, b_paren, b_ident, b_option, b_list, b_option_flat}

operator_plain : (op : Operator) → IsPlain (kind_of op)
unfolding same_kind
operator_plain And = (refl, refl, refl)
operator_plain _ = (refl, refl, refl)

sign_plain : (sign : Sign) → IsPlain (sign_kind sign)
unfolding same_kind
sign_plain Plus = (refl, refl, refl)
sign_plain Minus = (refl, refl, refl)

direction_plain : (direction : Direction) → IsPlain (direction_kind direction)
unfolding same_kind
direction_plain To = (refl, refl, refl)
direction_plain Downto = (refl, refl, refl)

attribute_is : {c : ℕ} (a : tree.Attribute) → Bounds c 0 (spell_attribute a)
unfolding same_kind
attribute_is (tree.called name) = b_piece (some k.Tick) (refl, refl, refl) (b_ident name)
attribute_is (tree.of_range at) = b_piece (some k.Tick) (refl, refl, refl) (b_piece (one_at k.Range at) (refl, refl, refl) b_none)

b_attribute : {c : ℕ} (o : Option tree.Attribute) → Bounds c 0 (spell_option spell_attribute o)
b_attribute o = b_option_flat spell_attribute (λ a. attribute_is a) o

-- no more parentheses stand one in another than levels may be opened
mutual
  unfolding same_kind

  nested : (x : tree.Expr) → Bounds 0 (8 * nesting x) (spell x)
  nested (tree.integer at text) = b_piece (text_at k.Integer at text) (refl, refl, refl) b_none
  nested (tree.character at code) = b_piece (literal_at at code) (refl, refl, refl) b_none
  nested (tree.string at text) = b_piece (text_at k.String at text) (refl, refl, refl) b_none
  nested (tree.bits at text) = b_piece (text_at k.BitString at text) (refl, refl, refl) b_none
  nested (tree.named n suffix attribute) = b_piece (word_at n.at n.text) (refl, refl, refl) (b_less (omega arith) (b_then (nested_suffix suffix) (b_attribute attribute)))
  nested (tree.parens at inner) = b_less (omega arith) (b_level (one_at k.LeftParen at) (refl, refl, refl) (b_then (nested inner) b_paren))
  nested (tree.negation at operand) = b_piece (one_at k.Not at) (refl, refl, refl) (nested operand)
  nested (tree.absolute at operand) = b_piece (one_at k.Abs at) (refl, refl, refl) (nested operand)
  nested (tree.power base at exponent) = b_less (omega arith)
      (b_then (nested base) (b_piece (one_at k.Star at) (refl, refl, refl) (b_piece (one_at k.Star (suc at)) (refl, refl, refl) (nested exponent))))
  nested (tree.aggregate at elements) = b_less (omega arith) (b_level (one_at k.LeftParen at) (refl, refl, refl) (b_then (nested_elements elements) b_paren))
  nested (tree.qualified mark at elements) = b_piece (word_at mark.at mark.text) (refl, refl, refl) (b_piece (some k.Tick) (refl, refl, refl)
      (b_less (omega arith) (b_level (one_at k.LeftParen at) (refl, refl, refl) (b_then (nested_elements elements) b_paren))))
  nested (tree.signed sign at operand) = b_piece (one_at (sign_kind sign) at) (sign_plain sign) (nested operand)
  nested (tree.binary begins op at left right) = b_less (omega arith) (b_then (nested left) (b_piece (one_at (kind_of op) at) (operator_plain op) (nested right)))

  nested_suffix : (s : tree.Suffix) → Bounds 0 (8 * suffix_nesting s) (spell_suffix s)
  nested_suffix tree.plain = b_none
  nested_suffix (tree.arguments all) = b_less (omega arith) (b_level (some k.LeftParen) (refl, refl, refl) (b_then (nested_exprs all) b_paren))
  nested_suffix (tree.sliced left direction right) = b_less (omega arith)
      (b_level (some k.LeftParen) (refl, refl, refl) (b_then (nested left) (b_piece (some (direction_kind direction)) (direction_plain direction) (b_then (nested right) b_paren))))

  nested_elements : (all : tree.Elements) → Bounds 0 (8 * elements_nesting all) (spell_elements all)
  nested_elements tree.no_elements = b_none
  nested_elements (tree.element choices value more) = b_less (omega arith) (b_then (b_then (nested_chosen choices) (nested value)) (nested_more_elements more))

  nested_more_elements : (all : tree.Elements) → Bounds 0 (8 * elements_nesting all) (spell_more_elements all)
  nested_more_elements tree.no_elements = b_none
  nested_more_elements (tree.element choices value more) = b_less (omega arith)
      (b_piece (some k.Comma) (refl, refl, refl) (b_then (b_then (nested_chosen choices) (nested value)) (nested_more_elements more)))

  nested_chosen : (cs : tree.Choices) → Bounds 0 (8 * choices_nesting cs) (spell_chosen cs)
  nested_chosen tree.no_choices = b_none
  nested_chosen (tree.choice c more) = b_less (omega arith) (b_then (nested_choice c) (nested_more_chosen more))

  nested_more_chosen : (cs : tree.Choices) → Bounds 0 (8 * choices_nesting cs) (spell_more_chosen cs)
  nested_more_chosen tree.no_choices = b_piece (some k.Arrow) (refl, refl, refl) b_none
  nested_more_chosen (tree.choice c more) = b_piece (some k.Bar) (refl, refl, refl) (b_less (omega arith) (b_then (nested_choice c) (nested_more_chosen more)))

  nested_choice : (c : tree.Choice) → Bounds 0 (8 * choice_nesting c) (spell_choice c)
  nested_choice (tree.otherwise at) = b_piece (one_at k.Others at) (refl, refl, refl) b_none
  nested_choice (tree.chosen x) = nested x
  nested_choice (tree.chosen_range left direction right) = b_less (omega arith)
      (b_then (nested left) (b_piece (some (direction_kind direction)) (direction_plain direction) (nested right)))

  nested_exprs : (all : tree.Exprs) → Bounds 0 (8 * exprs_nesting all) (spell_exprs all)
  nested_exprs tree.no_exprs = b_none
  nested_exprs (tree.expr x more) = b_less (omega arith) (b_then (nested x) (nested_more more))

  nested_more : (all : tree.Exprs) → Bounds 0 (8 * exprs_nesting all) (spell_more all)
  nested_more tree.no_exprs = b_none
  nested_more (tree.expr x more) = b_less (omega arith) (b_then (b_piece (some k.Comma) (refl, refl, refl) (nested x)) (nested_more more))

-- ---- heights

pub expr_height : (x : Expr) → IsExprIn Wide (view x) → Bounds 8 (height x) (spell (view x))
expr_height x good = b_less (omega (arith, height_bounded Wide x good)) (nested (view x))

pub name_is : (n : Name) → IsNameIn Wide (name_view n) → Bounds 8 (name_height n) (spell_name (name_view n))
unfolding same_kind
name_is n good = b_less (omega (arith, flat_suffix Wide n.suffix good.0))
    (b_piece (word_at n.identifier.at n.identifier.text.items) (refl, refl, refl) (b_then (nested_suffix (suffix_view n.suffix)) (b_attribute (option_map attribute_view n.attribute))))

pub range_is : (r : Range) → IsRangeIn Wide (range_view r) → Bounds 8 (range_height r) (spell_range (range_view r))
range_is r good = b_then (expr_height r.left good.0) (b_piece (some (direction_kind r.direction)) (direction_plain r.direction) (expr_height r.right good.1))

pub value_is : (x : Value) → IsValueIn Wide (value_view x) → Bounds 8 (value_height x) (spell_value (value_view x))
unfolding same_kind
value_is (v.Expr x) good = expr_height x good.0
value_is (v.Others at x) good = b_less (omega arith)
    (b_level (one_at k.LeftParen at) (refl, refl, refl)
    (b_piece (some k.Others) (refl, refl, refl) (b_piece (some k.Arrow) (refl, refl, refl) (b_then (expr_height x good) b_paren))))

choice_is : (x : Choice) → IsChoiceIn Wide (choice_view x) → Bounds 8 (choice_height x) (spell_choice (choice_view x))
unfolding same_kind
choice_is (ch.Expr x) good = expr_height x good
choice_is (ch.Range' left direction right) good =
    b_then (expr_height left good.1) (b_piece (some (direction_kind direction)) (direction_plain direction) (expr_height right good.2))
choice_is (ch.Others at) good = b_piece (one_at k.Others at) (refl, refl, refl) b_none

pub choices_are : (xs : Vec Choice Global) → AreChoicesIn Wide (choices_view xs) → Bounds 8 (highest choice_height xs.items) (spell_choices (choices_view xs))
unfolding same_kind
choices_are xs good = b_list 8 choice_view choice_height spell_choice (IsChoiceIn Wide) choice_is k.Bar (refl, refl, refl) xs.items good

actual_is : (x : Actual) → IsActualIn Wide (actual_view x) → Bounds 8 (actual_height x) (spell_actual (actual_view x))
unfolding same_kind
actual_is (ac.Expr x) good = expr_height x good
actual_is (ac.Open at) good = b_piece (one_at k.Open at) (refl, refl, refl) b_none

formal_is : {c : ℕ} (i : tree.Ident) → Bounds c 0 (spell_formal i)
unfolding same_kind
formal_is i = b_piece (word_at i.at i.text) (refl, refl, refl) (b_piece (some k.Arrow) (refl, refl, refl) b_none)

association_is : (a : Association) → IsAssociationIn Wide (association_view a) → Bounds 8 (association_height a) (spell_association (association_view a))
association_is a good = b_less (omega arith) (b_then (b_option_flat spell_formal (λ i. formal_is i) (option_map ident_view a.formal)) (actual_is a.actual good))

pub associations_are : (xs : Vec Association Global) → AreAssociationsIn Wide (associations_view xs) → Bounds 8 (associations_height xs) (spell_associations (associations_view xs))
unfolding same_kind
associations_are xs good = b_list 8 association_view association_height spell_association (IsAssociationIn Wide) association_is k.Comma (refl, refl, refl) xs.items good

pub discrete_range_is : (r : DiscreteRange) → IsDiscreteRangeIn Wide (discrete_range_view r) → Bounds 8 (discrete_range_height r) (spell_discrete_range (discrete_range_view r))
discrete_range_is (dr.Bounds r) good = range_is r good
discrete_range_is (dr.Name n) good = name_is n good.1

constraint_is : (c : Constraint) → IsConstraintIn Wide (constraint_view c) → Bounds 8 (constraint_height c) (spell_constraint (constraint_view c))
unfolding same_kind
constraint_is (co.Index r) good = b_less (omega arith) (b_level (some k.LeftParen) (refl, refl, refl) (b_then (discrete_range_is r good) b_paren))
constraint_is (co.Range r) good = b_piece (some k.Range) (refl, refl, refl) (discrete_range_is r good.1)

pub subtype_is : (t : Subtype) → IsSubtypeIn Wide (subtype_view t) → Bounds 8 (subtype_height t) (spell_subtype (subtype_view t))
subtype_is t good = b_less (omega arith) (b_then (b_ident (ident_view t.mark)) (b_option 8 constraint_view constraint_height spell_constraint (IsConstraintIn Wide) constraint_is t.constraint good))

pub default_is : (x : Value) → IsValueIn Wide (value_view x) → Bounds 8 (value_height x) (spell_default (value_view x))
unfolding same_kind
default_is x good = b_piece (some k.Assign) (refl, refl, refl) (value_is x good)

-- ---- values with conditions

branch_is : (b : Branch) → IsBranchIn Wide (branch_view b) → Bounds 8 (branch_height b) (spell_branch (branch_view b))
unfolding same_kind
branch_is b good = b_then (value_is b.value good.0) (b_piece (some k.When) (refl, refl, refl) (expr_height b.condition good.1))

otherwise_is : (bs : List Branch) (o : Option Value) → IsEach (IsBranchIn Wide) (map branch_view bs) → IsOption (IsValueIn Wide) (option_value_view o) →
    Bounds 8 (max (highest branch_height bs) (optional_height value_height o)) (spell_otherwise (map branch_view bs) (option_value_view o))
unfolding same_kind
otherwise_is [] None good fine = b_less {c = 8} (omega arith) b_none
otherwise_is [] (Some v) good fine = b_less {c = 8} (omega arith) (b_piece (some k.Else) (refl, refl, refl) (value_is v fine))
otherwise_is (b ∷ bs) o good fine = b_less {c = 8} (omega arith) (b_piece (some k.Else) (refl, refl, refl) (b_then (branch_is b good.0) (otherwise_is bs o good.1 fine)))

pub waveforms_are : (bs : List Branch) (o : Option Value) → AreWaveformsIn Wide (map branch_view bs) (option_value_view o) →
    Bounds 8 (max (highest branch_height bs) (optional_height value_height o)) (spell_waveforms (map branch_view bs) (option_value_view o))
waveforms_are [] None good = absurd good
waveforms_are [] (Some v) good = b_less {c = 8} (omega arith) (value_is v good)
waveforms_are (b ∷ bs) o good = b_less {c = 8} (omega arith) (b_then (branch_is b good.0) (otherwise_is bs o good.1 good.2))

-- with a branch at least
pub conditional_are : (bs : List Branch) (o : Option Value) → AreConditionalIn Wide (map branch_view bs) (option_value_view o) →
    Bounds 8 (max (highest branch_height bs) (optional_height value_height o)) (spell_waveforms (map branch_view bs) (option_value_view o))
conditional_are [] o good = absurd good
conditional_are (b ∷ bs) o good = waveforms_are (b ∷ bs) o good

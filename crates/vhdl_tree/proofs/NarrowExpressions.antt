-- Each expression of the narrower language is one of the wider, and so is what is made of expressions.
use Rattle.std.proofs.Common.{List, [], ◌∷◌, Option, Some, None}
use Rattle.vhdl_lexer.specs.declared.language.Language.TheVariants.{Profile, Wide}
use Rattle.vhdl_tree.specs.Tree as t
use Rattle.vhdl_tree.specs.Pieces.{IsEach, IsList, IsOption}
use Rattle.vhdl_tree.specs.grammar.Expressions.{IsAttributeIn, IsExprIn, IsSuffixIn, AreArgumentsIn, AreExprsIn, IsChoiceIn, IsNameIn, IsDiscreteRangeIn, IsValueIn, AreChoicesIn, IsActualIn, IsAssociationIn, AreAssociationsIn}
use Rattle.vhdl_tree.specs.grammar.Subtypes.{IsConstraintIn, IsSubtypeIn, IsConstantsIn}

module _ {A : Type 0} (P Q : A → Type 0) (is : (x : A) → P x → Q x) where
  pub each_is : (xs : List A) → IsEach P xs → IsEach Q xs
  each_is [] good = tt
  each_is (x ∷ xs) good = (is x good.0, each_is xs good.1)

  pub list_is : (xs : List A) → IsList P xs → IsList Q xs
  list_is [] good = absurd good
  list_is (x ∷ xs) good = (is x good.0, each_is xs good.1)

  pub option_is : (o : Option A) → IsOption P o → IsOption Q o
  option_is None good = tt
  option_is (Some x) good = is x good

attribute_is : (a : t.Attribute) → IsAttributeIn Profile a → IsAttributeIn Wide a
attribute_is (t.called name) good = tt
attribute_is (t.of_range at) good = tt

attributes_are : (o : Option t.Attribute) → IsOption (IsAttributeIn Profile) o → IsOption (IsAttributeIn Wide) o
attributes_are o good = option_is (IsAttributeIn Profile) (IsAttributeIn Wide) attribute_is o good

mutual
  pub expr_is : (x : t.Expr) → IsExprIn Profile x → IsExprIn Wide x
  expr_is (t.integer at text) good = tt
  expr_is (t.character at code) good = tt
  expr_is (t.string at text) good = tt
  expr_is (t.bits at text) good = tt
  expr_is (t.named n suffix attribute) good = (suffix_is suffix good.0, attributes_are attribute good.1)
  expr_is (t.parens at inner) good = expr_is inner good
  expr_is (t.negation at operand) good = (good.0, expr_is operand good.1)
  expr_is (t.absolute at operand) good = absurd good.0
  expr_is (t.power base at exponent) good = absurd good.0
  expr_is (t.signed sign at operand) good = (good.0, expr_is operand good.1)
  expr_is (t.binary begins op at left right) good = (good.0, good.1, expr_is left good.2, expr_is right good.3)
  expr_is (t.aggregate at all) good = absurd good.0
  expr_is (t.qualified mark at all) good = absurd good.0

  suffix_is : (s : t.Suffix) → IsSuffixIn Profile s → IsSuffixIn Wide s
  suffix_is t.plain good = tt
  suffix_is (t.arguments all) good = arguments_are all good
  suffix_is (t.sliced left direction right) good = (expr_is left good.0, expr_is right good.1)

  arguments_are : (all : t.Exprs) → AreArgumentsIn Profile all → AreArgumentsIn Wide all
  arguments_are t.no_exprs good = absurd good
  arguments_are (t.expr x more) good = (expr_is x good.0, exprs_are more good.1)

  exprs_are : (all : t.Exprs) → AreExprsIn Profile all → AreExprsIn Wide all
  exprs_are t.no_exprs good = tt
  exprs_are (t.expr x more) good = (expr_is x good.0, exprs_are more good.1)

pub name_is : (n : t.Name) → IsNameIn Profile n → IsNameIn Wide n
name_is n good = (suffix_is n.suffix good.0, attributes_are n.attribute good.1)

pub discrete_range_is : (r : t.DiscreteRange) → IsDiscreteRangeIn Profile r → IsDiscreteRangeIn Wide r
discrete_range_is (t.bounds r) good = (expr_is r.left good.0, expr_is r.right good.1)
discrete_range_is (t.range_named n) good = absurd good.0

pub value_is : (v : t.Value) → IsValueIn Profile v → IsValueIn Wide v
value_is (t.single x) good = (expr_is x good.0, good.1)
value_is (t.others at x) good = expr_is x good

choice_is : (c : t.Choice) → IsChoiceIn Profile c → IsChoiceIn Wide c
choice_is (t.otherwise at) good = tt
choice_is (t.chosen x) good = expr_is x good
choice_is (t.chosen_range left direction right) good = absurd good.0

pub choices_are : (cs : List t.Choice) → AreChoicesIn Profile cs → AreChoicesIn Wide cs
choices_are cs good = list_is (IsChoiceIn Profile) (IsChoiceIn Wide) choice_is cs good

actual_is : (a : t.Actual) → IsActualIn Profile a → IsActualIn Wide a
actual_is (t.actual x) good = expr_is x good
actual_is (t.left_open at) good = tt

association_is : (a : t.Association) → IsAssociationIn Profile a → IsAssociationIn Wide a
association_is a good = actual_is a.actual good

pub associations_may_be : (o : Option (List t.Association)) → IsOption (AreAssociationsIn Profile) o → IsOption (AreAssociationsIn Wide) o
associations_may_be o good = option_is (AreAssociationsIn Profile) (AreAssociationsIn Wide)
    (λ all fine. list_is (IsAssociationIn Profile) (IsAssociationIn Wide) association_is all fine) o good

-- ---- subtypes, values that may be absent, and constants

constraint_is : (c : t.Constraint) → IsConstraintIn Profile c → IsConstraintIn Wide c
constraint_is (t.index_range r) good = discrete_range_is r good
constraint_is (t.value_range r) good = absurd good.0

pub subtype_is : (s : t.Subtype) → IsSubtypeIn Profile s → IsSubtypeIn Wide s
subtype_is s good = option_is (IsConstraintIn Profile) (IsConstraintIn Wide) constraint_is s.constraint good

pub value_may_be : (o : Option t.Value) → IsOption (IsValueIn Profile) o → IsOption (IsValueIn Wide) o
value_may_be o good = option_is (IsValueIn Profile) (IsValueIn Wide) value_is o good

pub constants_are : (d : t.Constants) → IsConstantsIn Profile d → IsConstantsIn Wide d
constants_are d good = (good.0, subtype_is d.subtype good.1, value_is d.value good.2)

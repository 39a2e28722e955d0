-- How many parentheses stand one in another in an expression.
use Rattle.std.specs.Prelude.{ℕ, suc, max}
use Rattle.vhdl_tree.specs.Tree as t

abbrev mutual
  pub nesting : t.Expr → ℕ
  nesting (t.integer at text) = 0
  nesting (t.character at code) = 0
  nesting (t.string at text) = 0
  nesting (t.bits at text) = 0
  nesting (t.named n suffix attribute) = suffix_nesting suffix
  nesting (t.parens at inner) = suc (nesting inner)
  nesting (t.negation at operand) = nesting operand
  nesting (t.absolute at operand) = nesting operand
  nesting (t.power base at exponent) = max (nesting base) (nesting exponent)
  nesting (t.signed sign at operand) = nesting operand
  nesting (t.binary begins operator at left right) = max (nesting left) (nesting right)
  nesting (t.aggregate at elements) = suc (elements_nesting elements)
  nesting (t.qualified mark at elements) = suc (elements_nesting elements)

  pub elements_nesting : t.Elements → ℕ
  elements_nesting t.no_elements = 0
  elements_nesting (t.element choices value more) =
      max (max (choices_nesting choices) (nesting value)) (elements_nesting more)

  pub choices_nesting : t.Choices → ℕ
  choices_nesting t.no_choices = 0
  choices_nesting (t.choice c more) = max (choice_nesting c) (choices_nesting more)

  pub choice_nesting : t.Choice → ℕ
  choice_nesting (t.chosen x) = nesting x
  choice_nesting (t.chosen_range left direction right) = max (nesting left) (nesting right)
  choice_nesting (t.otherwise at) = 0

  pub suffix_nesting : t.Suffix → ℕ
  suffix_nesting t.plain = 0
  suffix_nesting (t.arguments all) = suc (exprs_nesting all)
  suffix_nesting (t.sliced left direction right) = suc (max (nesting left) (nesting right))

  pub exprs_nesting : t.Exprs → ℕ
  exprs_nesting t.no_exprs = 0
  exprs_nesting (t.expr x more) = max (nesting x) (exprs_nesting more)

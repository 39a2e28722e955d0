-- A well-formed expression is no higher than eight for each of its parentheses that stand one in another, and eight.
use Rattle.std.proofs.Common.{◌≡◌, ℕ, suc, ◌+◌, ◌-◌, ◌*◌, ◌/◌, ◌≤◌, ◌<◌, Bool, true, false, inl, inr, refl, sym, ap, ◌∙◌, arith}
use Rattle.vhdl_lexer.specs.declared.language.Language.{Language}
use Rattle.vhdl_tree.specs.declared.expression.Expr.{Expr}
use Rattle.vhdl_tree.specs.declared.expression.Expr.TheVariants as e
use Rattle.vhdl_tree.specs.declared.expression.Choice.TheBlock.{Row_of-Link, end_of-Link, more_of-Link, Row_of-Expr, end_of-Expr, more_of-Expr, Row_of-Element, end_of-Element, more_of-Element, Row_of-Choice, end_of-Choice, more_of-Choice}
use Rattle.vhdl_tree.specs.declared.expression.Chain.{Chain, Chain'}
use Rattle.vhdl_tree.specs.declared.expression.Choice.{Choice}
use Rattle.vhdl_tree.specs.declared.expression.Choice.TheVariants as ch
use Rattle.vhdl_tree.specs.declared.expression.Suffix.{Suffix}
use Rattle.vhdl_tree.specs.declared.expression.Suffix.TheVariants as s
use Rattle.vhdl_tree.specs.declared.operator.Operator.{Operator}
use Rattle.vhdl_tree.specs.Tree as t
use Rattle.vhdl_tree.specs.View.{view, chain_view, links_view, suffix_view, row_view, elements_row, choices_row, choice_view}
use Rattle.vhdl_tree.specs.Height.{height, chain_height, links_height, suffix_height, row_height, elements_height, choices_height, choice_height}
use Rattle.vhdl_tree.specs.Nesting.{nesting, suffix_nesting, exprs_nesting, elements_nesting, choices_nesting, choice_nesting}
use Rattle.vhdl_tree.specs.grammar.Expressions.{rank, binding, Leads, IsSigned, IsExprIn, IsSuffixIn, AreArgumentsIn, AreExprsIn, AreElementsIn, AreMoreElementsIn, AreChosenIn, IsChoiceIn}

-- how tightly a tree holds together, where a sign before a term holds it more tightly than the operators of a sum
abbrev weight : t.Expr → ℕ
weight (t.integer at text) = 7
weight (t.character at code) = 7
weight (t.string at text) = 7
weight (t.bits at text) = 7
weight (t.named n suffix attribute) = 7
weight (t.parens at inner) = 7
weight (t.negation at operand) = 6
weight (t.absolute at operand) = 6
weight (t.power base at exponent) = 6
weight (t.signed sign at operand) = 4
weight (t.binary begins op at left right) = rank op + rank op / 4
weight (t.aggregate at all) = 7
weight (t.qualified mark at all) = 7

-- what binds more tightly than an operator of rank r
tighter : (r : ℕ) (x : t.Expr) → r < binding x → r + r / 4 < weight x
tighter r (t.integer at text) h = omega (arith, h)
tighter r _ h = omega (arith, h)

-- what stands behind a sign
signed_operand : (x : t.Expr) → 3 < binding x → 4 < weight x
signed_operand (t.signed sign at operand) h = absurd (omega (arith, h))
signed_operand (t.binary begins op at left right) h = omega (arith, h)
signed_operand _ h = omega arith

signed_first : (op : Operator) (x : t.Expr) → IsSigned op x → rank op + rank op / 4 < weight x
signed_first op (t.signed sign at operand) h = omega (arith, h)
signed_first op _ h = absurd h

leading : (op : Operator) (x : t.Expr) → Leads true op x → rank op + rank op / 4 < weight x
leading op x (inl h) = tighter (rank op) x h
leading op x (inr h) = signed_first op x h

-- in a language
module _ (language : Language) where
  -- the links behind what a chain has so far
  record Linked (left whole : t.Expr) (high : ℕ) : Type 0 where
    formed : IsExprIn language left
    same : weight whole ≡ weight left
    deep : nesting left ≤ nesting whole
    low : high ≤ (8 * nesting whole + 8) - suc (weight left)

  arguments_are : (all : t.Exprs) → AreArgumentsIn language all → AreExprsIn language all
  arguments_are t.no_exprs f = absurd f
  arguments_are (t.expr x more) f = f

  elements_are : (all : t.Elements) → AreElementsIn language all → AreMoreElementsIn language all
  elements_are t.no_elements f = absurd f
  elements_are (t.element cs value more) f = f

  mutual
    flat : (x : Expr) → IsExprIn language (view x) → height x + weight (view x) ≤ 8 * nesting (view x) + 8
    flat (e.Name' identifier suffix attribute) f = omega (arith, flat_suffix suffix f.0)
    flat (e.Parens' at p inner) f = omega (arith, flat inner f)
    flat (e.Not' at p operand) f = omega (arith, flat operand f.1, tighter 5 (view operand) f.0)
    flat (e.Abs' at p operand) f = omega (arith, flat operand f.2, tighter 5 (view operand) f.1)
    flat (e.Power' p base at exponent) f = omega (arith, flat base f.3, flat exponent f.4, tighter 5 (view base) f.1, tighter 5 (view exponent) f.2)
    flat (e.Signed' sign at p operand) f = omega (arith, flat operand f.1, signed_operand (view operand) f.0)
    flat (e.Chain' p chain) f = flat_chain chain f
    flat (e.Aggregate' at shape elements) f = omega (arith, flat_elements elements (elements_are (elements_row elements) f.2))
    flat (e.Qualified' mark at shape elements) f = omega (arith, flat_elements elements (elements_are (elements_row elements) f.1))
    flat _ f = omega arith

    flat_elements : {m : _} (row : Row_of-Element m) → AreMoreElementsIn language (elements_row row) → elements_height row ≤ 8 * elements_nesting (elements_row row) + 8
    flat_elements end_of-Element f = omega arith
    flat_elements (more_of-Element shape choices value rest) f = omega (arith, flat_choices choices f.0, flat value f.1, flat_elements rest f.2)

    flat_choices : {m : _} (row : Row_of-Choice m) → AreChosenIn language (choices_row row) → choices_height row ≤ 8 * choices_nesting (choices_row row) + 8
    flat_choices end_of-Choice f = omega arith
    flat_choices (more_of-Choice x rest) f = omega (arith, flat_choice x f.0, flat_choices rest f.1)

    flat_choice : (x : Choice) → IsChoiceIn language (choice_view x) → choice_height x ≤ 8 * choice_nesting (choice_view x) + 8
    flat_choice (ch.Expr x) f = omega (arith, flat x f)
    flat_choice (ch.Range' left direction right) f = omega (arith, flat left f.1, flat right f.2)
    flat_choice (ch.Others at) f = omega arith

    flat_chain : (c : Chain) → IsExprIn language (chain_view c) → suc (chain_height c) + weight (chain_view c) ≤ 8 * nesting (chain_view c) + 8
    flat_chain (Chain' first op at operand shape rest) f =
        let g = flat_links true op at (view first) (view operand) rest f in
        omega (arith, g.same, g.deep, g.low, flat first g.formed.2, flat operand g.formed.3, leading op (view first) g.formed.0, tighter (rank op) (view operand) g.formed.1)

    flat_links : {m : _} (begins : Bool) (op : Operator) (at : ℕ) (left right : t.Expr) (row : Row_of-Link m) → IsExprIn language (links_view (t.binary begins op at left right) row) →
        Linked (t.binary begins op at left right) (links_view (t.binary begins op at left right) row) (links_height row)
    flat_links begins op at left right end_of-Link f = record { formed = f; same = refl; deep = omega arith; low = omega arith }
    flat_links begins op at left right (more_of-Link next next_at operand rest) f =
        let so_far = t.binary begins op at left right in
        let g = flat_links false next next_at so_far (view operand) rest f in
        let r : rank op ≡ rank next = g.formed.0.0 in
        record {
          formed = g.formed.2;
          same = g.same ∙ ap (λ r. r + r / 4) (sym r);
          deep = omega (arith, g.deep);
          low = omega (arith, g.deep, g.low, r, flat operand g.formed.3, tighter (rank next) (view operand) g.formed.1);
        }

    pub flat_suffix : (x : Suffix) → IsSuffixIn language (suffix_view x) → suffix_height x ≤ 8 * suffix_nesting (suffix_view x)
    flat_suffix s.Plain f = omega arith
    flat_suffix (s.Arguments' shape all) f = omega (arith, flat_row all (arguments_are (row_view all) f))
    flat_suffix (s.Range' p left direction right) f = omega (arith, flat left f.0, flat right f.1)

    flat_row : {m : _} (row : Row_of-Expr m) → AreExprsIn language (row_view row) → row_height row ≤ 8 * exprs_nesting (row_view row) + 8
    flat_row end_of-Expr f = omega arith
    flat_row (more_of-Expr x rest) f = omega (arith, flat x f.0, flat_row rest f.1)

  pub height_bounded : (x : Expr) → IsExprIn language (view x) → height x ≤ 8 * (nesting (view x) + 1)
  height_bounded x f = omega (arith, flat x f)

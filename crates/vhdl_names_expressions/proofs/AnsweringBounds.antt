-- What integers which a run may compute, slices, ranges and arguments answer, by their parts.
use Rattle.std.proofs.Common.{◌≡◌, ℕ, List, map, Some, None, Result, Err, Vec, Global, sym, ap, ◌∙◌}
use Rattle.vhdl_tree.specs.Tree as t
use Rattle.vhdl_tree.specs.Tree.{exprs_of}
use Rattle.vhdl_tree.specs.View.{view, suffix_view}
use Rattle.vhdl_tree.specs.declared.expression.Expr.{Expr}
use Rattle.vhdl_tree.specs.declared.expression.Range.{Range}
use Rattle.vhdl_tree.specs.declared.expression.Suffix as f
use Rattle.vhdl_tree.specs.declared.expression.Suffix.TheVariants as s
use Rattle.vhdl_names_rules.specs.declared.fault.NameFault.{NameFault}
use Rattle.vhdl_names_rules.specs.declared.fault.NameFault.TheVariants.{At}
use Rattle.vhdl_names_rules.specs.declared.fault.NameProblem.TheVariants.{TypeMismatch}
use Rattle.vhdl_names_trees.specs.declared.integer.StaticRange.{StaticRange}
use Rattle.vhdl_names_trees.specs.declared.typed.TypedSuffix.{TypedSuffix}
use Rattle.vhdl_names_rules.specs.units.Expressions as u
use Rattle.vhdl_names_rules.specs.Rules.{◌>>=◌}
use Rattle.vhdl_names_rules.specs.Visibility.{Sight}
use Rattle.vhdl_names_rules.specs.Operators.{Typed}
use Rattle.vhdl_names_rules.specs.Expressions as are
use Rattle.vhdl_names_trees.specs.views.Integers.{range_view}
use Rattle.vhdl_names_trees.specs.views.Expressions.{typed_suffix_view}
use Rattle.vhdl_names_rules.specs.problems.Places.{start}
use Rattle.vhdl_names_rules.specs.problems.Expressions.{typed, typed_suffix, typed_each, static, static_range}
use Rattle.vhdl_names_rules.proofs.Along.{gives_along}
use Rattle.vhdl_names_numbers.specs.declared.integer.Integer.{Integer}
use Rattle.vhdl_names_numbers.specs.Integers.{integer_view, integer_of}
use Rattle.vhdl_names_expressions.specs.Chosen.{arguments_of}
use Rattle.vhdl_names_expressions.specs.Steps.{computed_of}
use Rattle.vhdl_names_expressions.proofs.Answering.{Answer, Refusal, Passes, passed}
use Rattle.vhdl_names_expressions.proofs.BreakingForms.{bound_breaks, computed_first, computed_refused, left_told, right_told, range_first, range_second, arguments_on}
use Rattle.vhdl_names_expressions.proofs.Chains.{no_left_bound, no_right_bound, arguments_whole}
use Rattle.vhdl_names_expressions.proofs.Typing.{no_left, no_right}

-- ---- integers, which a run may compute

module _ (sight : Sight) (e : t.Expr) where
  pub computed_passed : (f : NameFault) (r : Result Integer NameFault) → Passes r f → Refusal (are.typed sight e) (typed sight e) f →
      Answer integer_view (computed_of sight e) (bound_breaks sight e) r
  computed_passed f r =
      passed integer_view (computed_of sight e) (bound_breaks sight e) (are.typed sight e) (typed sight e) f r (λ h. ap (λ o. o >>= integer_of) h) (computed_first sight e f)

  pub no_integer : (v : Typed) (at : ℕ) (f : NameFault) → are.typed sight e ≡ Some v → integer_of v ≡ None → at ≡ start e → f ≡ At TypeMismatch at →
      Answer integer_view (computed_of sight e) (bound_breaks sight e) (Err f)
  no_integer v at f given none stands is = record {
    given = λ n. ap (λ o. o >>= integer_of) given ∙ none;
    told = computed_refused sight e v at f given none stands is;
  }

-- ---- slices

module _ (sight : Sight) (w : Range) where
  abbrev Sliced : Result TypedSuffix NameFault → Type 0
  Sliced r =
      Answer typed_suffix_view (are.typed_suffix sight (t.sliced (view w.left) w.direction (view w.right))) (typed_suffix sight (t.sliced (view w.left) w.direction (view w.right))) r

  pub slice_left_passed : (f : NameFault) (r : Result TypedSuffix NameFault) → Passes r f → Refusal (computed_of sight (view w.left)) (bound_breaks sight (view w.left)) f → Sliced r
  slice_left_passed f r =
      passed typed_suffix_view (are.typed_suffix sight (t.sliced (view w.left) w.direction (view w.right))) (typed_suffix sight (t.sliced (view w.left) w.direction (view w.right)))
      (computed_of sight (view w.left)) (bound_breaks sight (view w.left)) f r
      (no_left_bound sight (view w.left) w.direction (view w.right)) (left_told sight (view w.left) w.direction (view w.right) f)

  pub slice_right_passed : (l : Typed) (f : NameFault) (r : Result TypedSuffix NameFault) → computed_of sight (view w.left) ≡ Some l → Passes r f →
      Refusal (computed_of sight (view w.right)) (bound_breaks sight (view w.right)) f → Sliced r
  slice_right_passed l f r given =
      passed typed_suffix_view (are.typed_suffix sight (t.sliced (view w.left) w.direction (view w.right))) (typed_suffix sight (t.sliced (view w.left) w.direction (view w.right)))
      (computed_of sight (view w.right)) (bound_breaks sight (view w.right)) f r
      (no_right_bound sight (view w.left) w.direction (view w.right) l given) (right_told sight (view w.left) w.direction (view w.right) l f given)

-- ---- ranges

module _ (sight : Sight) (w : t.Range) where
  pub bounds_left_passed : (f : NameFault) (r : Result StaticRange NameFault) → Passes r f → Refusal (are.static sight w.left) (static sight w.left) f →
      Answer range_view (are.static_range sight (t.bounds w)) (static_range sight (t.bounds w)) r
  bounds_left_passed f r =
      passed range_view (are.static_range sight (t.bounds w)) (static_range sight (t.bounds w)) (are.static sight w.left) (static sight w.left) f r (no_left sight w) (range_first sight w f)

  pub bounds_right_passed : (l : u.Static) (f : NameFault) (r : Result StaticRange NameFault) → are.static sight w.left ≡ Some l → Passes r f →
      Refusal (are.static sight w.right) (static sight w.right) f → Answer range_view (are.static_range sight (t.bounds w)) (static_range sight (t.bounds w)) r
  bounds_right_passed l f r given =
      passed range_view (are.static_range sight (t.bounds w)) (static_range sight (t.bounds w)) (are.static sight w.right) (static sight w.right) f r
      (no_right sight w l given) (range_second sight w l f given)

-- ---- arguments

pub arguments_answer : (sight : Sight) (y : f.Suffix) (all : Vec Expr Global) (es : List Expr) (r : Result TypedSuffix NameFault) → y ≡ s.Arguments all → es ≡ all.items →
    Answer typed_suffix_view (arguments_of sight (exprs_of (map view es))) (typed_each sight (exprs_of (map view es))) r →
    Answer typed_suffix_view (are.typed_suffix sight (suffix_view y)) (typed_suffix sight (suffix_view y)) r
arguments_answer sight y all es r is e a = record {
  given = gives_along typed_suffix_view (are.typed_suffix sight (suffix_view y)) (arguments_of sight (exprs_of (map view es))) r
      (arguments_whole sight y all is ∙ ap (λ l. arguments_of sight (exprs_of (map view l))) (sym e)) a.given;
  told = arguments_on sight y all es r is e a.told;
}

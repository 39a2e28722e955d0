-- Which rule a part of a chain of operators breaks first.
use Rattle.std.specs.Prelude.{Bool, false, List, [], ◌∷◌, Option}
use Rattle.vhdl_tree.specs.declared.expression.Chain.{Chain, out-Chain}
use Rattle.vhdl_tree.specs.declared.expression.Link.{Link}
use Rattle.vhdl_tree.specs.View.{view}
use Rattle.vhdl_names_rules.specs.Visibility.{Sight}
use Rattle.vhdl_names_rules.specs.Expressions as are
use Rattle.vhdl_names_rules.specs.Operators.{Typed}
use Rattle.vhdl_names_rules.specs.problems.Broken.{Broken, nothing, ◌▸◌, lacking, where_given}
use Rattle.vhdl_names_rules.specs.problems.Expressions.{typed, operand}
use Rattle.vhdl_names_rules.specs.problems.Operators.{operator_problem}
use Rattle.vhdl_names_operators.specs.Steps.{operated}
use Rattle.vhdl_names_expressions.specs.Steps.{is_parens, enclosed_if, linked}

-- a link's right operand, and its operator on what the left operand is, which may stand in parentheses
abbrev pub link_breaks : Sight → Bool → Option Typed → Link → Broken
link_breaks sight b o l =
    typed sight (view l.operand)
    ▸ where_given o (λ x. where_given (are.typed sight (view l.operand)) (λ y.
    operand l.operator y x ▸ operand l.operator x y
    ▸ lacking (operator_problem l.operator x (enclosed_if b y)) l.at
    (operated sight.language sight.numbers l.at l.operator x (enclosed_if b y))))

-- further links, on what stands before them
abbrev pub all_break : Sight → Option Typed → List Link → Broken
all_break sight o [] = nothing
all_break sight o (l ∷ ls) = link_breaks sight false o l ▸ all_break sight (linked sight false o l) ls

-- a chain's first operand, and the first operator with its right operand
unfoldable pub started_breaks : Sight → Chain → Broken
started_breaks sight k =
    typed sight (view (out-Chain k).first) ▸ link_breaks sight (is_parens (view (out-Chain k).first))
    (are.typed sight (view (out-Chain k).first)) (out-Chain k).second

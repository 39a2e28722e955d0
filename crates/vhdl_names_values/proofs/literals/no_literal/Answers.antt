use Rattle.std.proofs.Common.{ap, ◌∙◌}
use Rattle.vhdl_tree.specs.View.{view}
use Rattle.vhdl_names_rules.specs.declared.fault.NameFault.TheVariants.{At}
use Rattle.vhdl_names_rules.specs.declared.fault.NameProblem.TheVariants.{TypeMismatch}
use Rattle.vhdl_names_rules.specs.problems.Subtypes as broken
use Rattle.vhdl_names_expressions.proofs.Breaking.{told_fault}
use Rattle.vhdl_names_values.proofs.BreakingValues.{other_character, other_string, other_bits}
use Rattle.vhdl_names_values.proofs.literals.no_literal.Goals as goal

pub returns-in-Character : goal.returns-in-Character
returns-in-Character c =
    λ type none. told_fault _ (At TypeMismatch c.in-Character.at) _ c.at.ensures
    (ap (λ e. broken.literal type (view e)) c.in-Character.is ∙ other_character type c.in-Character.at c.in-Character.code none)

pub returns-in-StringLiteral : goal.returns-in-StringLiteral
returns-in-StringLiteral c =
    λ type none. told_fault _ (At TypeMismatch c.in-StringLiteral.literal.at) _ c.at-in-StringLiteral.ensures
    (ap (λ e. broken.literal type (view e)) c.in-StringLiteral.is ∙ other_string type c.in-StringLiteral.literal.at c.in-StringLiteral.literal.text.items none)

pub returns-in-BitString : goal.returns-in-BitString
returns-in-BitString c =
    λ type none. told_fault _ (At TypeMismatch c.in-BitString.literal.at) _ c.at-in-BitString.ensures
    (ap (λ e. broken.literal type (view e)) c.in-BitString.is ∙ other_bits type c.in-BitString.literal.at c.in-BitString.literal.text.items none)

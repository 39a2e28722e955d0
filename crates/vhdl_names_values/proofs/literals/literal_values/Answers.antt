use Rattle.std.proofs.Common.{ap, sym, ◌∙◌}
use Rattle.vhdl_tree.specs.View.{view}
use Rattle.vhdl_names_rules.specs.declared.fault.NameFault.TheVariants.{At}
use Rattle.vhdl_names_rules.specs.declared.fault.NameProblem.TheVariants.{TypeMismatch, LeftOut}
use Rattle.vhdl_names_rules.specs.declared.kind.ObjectType.TheVariants.{Elements}
use Rattle.vhdl_names_rules.specs.problems.Broken.{refused}
use Rattle.vhdl_names_rules.specs.problems.Subtypes as broken
use Rattle.vhdl_names_expressions.proofs.Breaking.{told_fault, told_as}
use Rattle.vhdl_names_values.proofs.BreakingValues.{character_told, string_literal, no_string, bits_literal, no_bits, chain_literal}
use Rattle.vhdl_names_values.proofs.literals.literal_values.Goals as goal

pub returns-in-Character-clause-told : goal.returns-in-Character-clause-told
returns-in-Character-clause-told c =
    told_as _ _ _ (sym (ap (λ e. broken.literal (Elements c.args.kind) (view e)) c.in-Character.is))
    (character_told c.args.kind c.in-Character.at c.in-Character.code (λ v. v.items) _ c.character_values.ensures.given c.character_values.ensures.told)

pub returns-then-is_vector-clause-told : goal.returns-then-is_vector-clause-told
returns-then-is_vector-clause-told c =
    let l = c.in-StringLiteral.literal in
    told_as _ _ _
    (sym (ap (λ e. broken.literal (Elements c.args.kind) (view e)) c.in-StringLiteral.is ∙ string_literal c.args.kind l.at l.text.items (sym c.is_vector.ensures ∙ c.if-is_vector.true)))
    c.string_values.ensures.told

pub returns-else-is_vector-clause-told : goal.returns-else-is_vector-clause-told
returns-else-is_vector-clause-told c =
    let l = c.in-StringLiteral.literal in
    told_fault _ (At TypeMismatch l.at) _ c.at.ensures
    (ap (λ e. broken.literal (Elements c.args.kind) (view e)) c.in-StringLiteral.is ∙ no_string c.args.kind l.at l.text.items (sym c.is_vector.ensures ∙ c.if-is_vector.false))

pub returns-then-is_vector-2-clause-told : goal.returns-then-is_vector-2-clause-told
returns-then-is_vector-2-clause-told c =
    let l = c.in-BitString.literal in
    told_as _ _ _
    (sym (ap (λ e. broken.literal (Elements c.args.kind) (view e)) c.in-BitString.is ∙ bits_literal c.args.kind l.at l.text.items (sym c.is_vector-in-BitString.ensures ∙ c.if-is_vector-2.true)))
    c.bit_string_values.ensures.told

pub returns-else-is_vector-2-clause-told : goal.returns-else-is_vector-2-clause-told
returns-else-is_vector-2-clause-told c =
    let l = c.in-BitString.literal in
    told_fault _ (At TypeMismatch l.at) _ c.at-else-is_vector-2.ensures
    (ap (λ e. broken.literal (Elements c.args.kind) (view e)) c.in-BitString.is ∙ no_bits c.args.kind l.at l.text.items (sym c.is_vector-in-BitString.ensures ∙ c.if-is_vector-2.false))

pub returns-in-Chain-clause-told : goal.returns-in-Chain-clause-told
returns-in-Chain-clause-told c =
    told_fault _ (At LeftOut c.start-in-Chain.result) _ c.at-in-Chain.ensures
    (chain_literal (Elements c.args.kind) c.args.e.now _ c.in-Chain.is ∙ ap (refused LeftOut) (sym c.start-in-Chain.ensures))

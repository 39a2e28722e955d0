use Rattle.std.proofs.Common.{option_map, refl, sym, ◌∙◌}
use Rattle.vhdl_names_rules.specs.declared.fault.NameFault.TheVariants.{At}
use Rattle.vhdl_names_rules.specs.declared.fault.NameProblem.TheVariants.{TypeMismatch}
use Rattle.vhdl_names_trees.specs.views.Integers.{target_range_view}
use Rattle.vhdl_names_trees.specs.views.Expressions.{typed_view, typed_elements_view}
use Rattle.vhdl_names_units.specs.views.Answers.{given_view}
use Rattle.vhdl_names_rules.proofs.Along.{gives_along}
use Rattle.vhdl_names_asked.specs.Givings.{as_filling}
use Rattle.vhdl_names_expressions.proofs.Breaking.{told_as, told_fault, refused_told}
use Rattle.vhdl_names_asked.proofs.Aggregating.{no_composite, no_composite_breaks, filled_given, filled_breaks, listed_given, listed_broken}
use Rattle.vhdl_names_asked.proofs.asked.as_composite.Goals as goal

pub returns-then-not-is_vector-clause-given : goal.returns-then-not-is_vector-clause-given
returns-then-not-is_vector-clause-given c = λ n. no_composite c.args.kind c.args.at (option_map target_range_view c.args.range) (typed_elements_view c.args.elements.items) (sym c.is_vector.ensures ∙ c.if-not-is_vector.true)

pub returns-then-not-is_vector-clause-told : goal.returns-then-not-is_vector-clause-told
returns-then-not-is_vector-clause-told c =
    told_fault _ (At TypeMismatch c.args.at) _ (c.without.ensures ∙ c.at.ensures) (no_composite_breaks c.args.kind c.args.at _ (typed_elements_view c.args.elements.items) (sym c.is_vector.ensures ∙ c.if-not-is_vector.true))

pub returns-in-Ok-clause-given : goal.returns-in-Ok-clause-given
returns-in-Ok-clause-given c =
    gives_along given_view _ _ _ (filled_given c.args.kind c.args.at (typed_elements_view c.args.elements.items) (sym c.is_vector.ensures ∙ c.if-not-is_vector.false)
    (option_map target_range_view c.args.range) c.in-Ok.place (typed_view c.in-Ok.operand) (sym c.in-Ok.ensures)) c.as_filling.ensures.given

pub returns-in-Ok-clause-told : goal.returns-in-Ok-clause-told
returns-in-Ok-clause-told c =
    told_as _ _ _ (sym (filled_breaks c.args.kind c.args.at (typed_elements_view c.args.elements.items) (sym c.is_vector.ensures ∙ c.if-not-is_vector.false)
    _ c.in-Ok.place (typed_view c.in-Ok.operand) (sym c.in-Ok.ensures)))
    (refused_told given_view TypeMismatch c.in-Ok.place c.in-Ok.place (as_filling (typed_view c.in-Ok.operand)) _ refl c.as_filling.ensures.given c.as_filling.ensures.told)

pub returns-in-Err-clause-given : goal.returns-in-Err-clause-given
returns-in-Err-clause-given c =
    gives_along given_view _ _ _ (listed_given c.args.kind c.args.at (typed_elements_view c.args.elements.items) (sym c.is_vector.ensures ∙ c.if-not-is_vector.false)
    (option_map target_range_view c.args.range) (typed_elements_view c.in-Err.elements.items) (sym c.in-Err.ensures)) c.as_aggregate.ensures.given

pub returns-in-Err-clause-told : goal.returns-in-Err-clause-told
returns-in-Err-clause-told c =
    told_as _ _ _ (sym (listed_broken c.args.kind c.args.at (typed_elements_view c.args.elements.items) (sym c.is_vector.ensures ∙ c.if-not-is_vector.false)
    _ (typed_elements_view c.in-Err.elements.items) (sym c.in-Err.ensures))) c.as_aggregate.ensures.told

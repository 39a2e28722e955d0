use Rattle.std.proofs.Common.{map, ap, sym, ◌∙◌}
use Rattle.vhdl_names_units.specs.views.Answers.{choice_view, choices_view}
use Rattle.vhdl_names_statements.specs.steps.Cases.{are_numbers}
use Rattle.vhdl_names_statements.proofs.steps.Cases.{numbers_last, others_last}
use Rattle.vhdl_names_statements.proofs.choices.last_numbers.Goals as goal

pub returns-then-are_numbers : goal.returns-then-are_numbers
returns-then-are_numbers c =
    numbers_last (choices_view c.args.choices) (sym (ap (λ cs. are_numbers (map choice_view cs)) c.deref.ensures.value) ∙ sym c.are_numbers.ensures ∙ c.if-are_numbers.true)

pub returns-else-are_numbers : goal.returns-else-are_numbers
returns-else-are_numbers c =
    others_last (choices_view c.args.choices) (choices_view c.new.result) (ap (map choice_view) c.new.ensures.items)
    (sym (ap (λ cs. are_numbers (map choice_view cs)) c.deref.ensures.value) ∙ sym c.are_numbers.ensures ∙ c.if-are_numbers.false)

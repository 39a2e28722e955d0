use Rattle.std.proofs.Common.{sym, map, ◌∙◌}
use Rattle.vhdl_tree.specs.View.{choice_view}
use Rattle.vhdl_names_expressions.proofs.Breaking.{told_as}
use Rattle.vhdl_names_values.proofs.BreakingChoices.{choices_each}
use Rattle.vhdl_names_values.proofs.alternatives.choices.Goals as goal

pub returns-clause-told : goal.returns-clause-told
returns-clause-told c =
    told_as _ _ _ (sym (choices_each c.args.sight.now c.args.object_type (map choice_view c.args.all.now) (sym c.are_others.ensures ∙ c.if-are_others.false))) c.each_choice.ensures.told

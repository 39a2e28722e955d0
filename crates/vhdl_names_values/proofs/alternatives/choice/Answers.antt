use Rattle.std.proofs.Common.{ap, sym}
use Rattle.vhdl_tree.specs.View.{choice_view as tree_choice_view}
use Rattle.vhdl_names_rules.specs.Choices as rules
use Rattle.vhdl_names_rules.specs.problems.Choices as broken
use Rattle.vhdl_names_rules.proofs.Along.{gives_along}
use Rattle.vhdl_names_units.specs.views.Answers.{choice_view}
use Rattle.vhdl_names_expressions.proofs.Breaking.{told_as}
use Rattle.vhdl_names_values.proofs.Valued.{single_choice_given, single_choice_told}
use Rattle.vhdl_names_values.proofs.alternatives.choice.Goals as goal

pub returns-in-Integers : goal.returns-in-Integers
returns-in-Integers c =
    let s = c.args.sight.now in
    let x = tree_choice_view c.args.choice.now in
    record {
      given = gives_along choice_view _ _ _ (ap (λ t. rules.choice s t x) c.in-Integers.is) c.numbers.ensures.given;
      told = told_as _ _ _ (sym (ap (λ t. broken.choice s t x) c.in-Integers.is)) c.numbers.ensures.told;
    }

pub returns-in_default : goal.returns-in_default
returns-in_default c =
    let s = c.args.sight.now in
    let x = tree_choice_view c.args.choice.now in
    record {
      given = gives_along choice_view _ _ _ (single_choice_given s c.args.object_type x c.in_default.not-Integers) c.single_choice.ensures.given;
      told = told_as _ _ _ (single_choice_told s c.args.object_type x c.in_default.not-Integers) c.single_choice.ensures.told;
    }

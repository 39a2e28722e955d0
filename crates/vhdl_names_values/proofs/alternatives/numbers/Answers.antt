use Rattle.std.proofs.Common.{ap}
use Rattle.vhdl_tree.specs.View.{choice_view as tree_choice_view}
use Rattle.vhdl_names_rules.specs.Rules.{◌>>=◌}
use Rattle.vhdl_names_rules.specs.Choices.{choice, numbers_of}
use Rattle.vhdl_names_rules.specs.Expressions.{typed_choice}
use Rattle.vhdl_names_rules.specs.declared.fault.NameFault.TheVariants.{At}
use Rattle.vhdl_names_rules.specs.declared.fault.NameProblem.TheVariants.{WrongKind, LeftOut}
use Rattle.vhdl_names_rules.specs.declared.kind.ObjectType.TheVariants.{Integers}
use Rattle.vhdl_names_rules.specs.problems.Broken.{lacking}
use Rattle.vhdl_names_rules.specs.problems.Choices as broken
use Rattle.vhdl_names_rules.specs.problems.Expressions as expressions_broken
use Rattle.vhdl_names_rules.specs.problems.Places.{choice_place}
use Rattle.vhdl_names_trees.specs.views.Expressions.{choice_view as typed_choice_view}
use Rattle.vhdl_names_rules.proofs.Along.{gives_along}
use Rattle.vhdl_names_rules.proofs.Passing.{passed_on, told_first}
use Rattle.vhdl_names_rules.proofs.kept.Expressions.{typed_choice_kept}
use Rattle.vhdl_names_units.specs.views.Answers.{choice_view}
use Rattle.vhdl_names_expressions.proofs.Breaking.{told_as, told_fault, asked_told, refused_told}
use Rattle.vhdl_names_values.proofs.Valued.{no_numbers, numbers_told}
use Rattle.vhdl_names_values.proofs.alternatives.numbers.Goals as goal

pub returns-in-Others : goal.returns-in-Others
returns-in-Others c = record {
  given = λ n. no_numbers c.args.sight.now c.args.choice.now c.in-Others.at c.in-Others.is;
  told = told_fault _ (At WrongKind c.in-Others.at) c.at.result c.at.ensures (ap (λ x. broken.choice c.args.sight.now Integers (tree_choice_view x)) c.in-Others.is);
}

pub returns-in_err-typed : goal.returns-in_err-typed
returns-in_err-typed c = record {
  given =
      passed_on choice_view _ c.in_err-typed.field-0.0 _ c.from_residual.result c.from_residual.ensures.1 (λ e p. p)
      (λ n. ap (λ o. o >>= numbers_of) (c.in_err-typed.ensures.given n));
  told =
      told_as _ _ _ (numbers_told c.args.sight.now c.args.choice.now c.in_default.not-Others)
      (told_first _ _ _ _ c.from_residual.result c.from_residual.ensures.1 (λ e p. p) c.in_err-typed.ensures.told);
}

pub returns : goal.returns
returns c =
    let s = c.args.sight.now in
    let x = tree_choice_view c.args.choice.now in
    let y = typed_choice_view c.in_ok-typed.typed in
    record {
      given = gives_along choice_view _ _ _ (ap (λ o. o >>= numbers_of) c.in_ok-typed.ensures.given) c.as_numbers.ensures.given;
      told =
          told_as _ _ _ (numbers_told s c.args.choice.now c.in_default.not-Others)
          (asked_told (expressions_broken.typed_choice s x) (typed_choice s x) (λ z. lacking LeftOut (choice_place x) (numbers_of z)) y c.as_numbers.result
          (typed_choice_kept x s y c.in_ok-typed.ensures.given) c.in_ok-typed.ensures.given
          (refused_told choice_view LeftOut c.choice_start.result (choice_place x) (numbers_of y) c.as_numbers.result c.choice_start.ensures c.as_numbers.ensures.given c.as_numbers.ensures.told));
    }

use Rattle.std.proofs.Common.{ap, ◌∙◌}
use Rattle.vhdl_names_rules.specs.Operators.{truth}
use Rattle.vhdl_names_trees.specs.views.Expressions.{typed_view}
use Rattle.vhdl_names_trees.specs.views.Tests.{test_view}
use Rattle.vhdl_names_rules.proofs.Along.{gives_along}
use Rattle.vhdl_names_operators.specs.Steps.{equality}
use Rattle.vhdl_names_operators.proofs.Numbering.{mismatch_told}
use Rattle.vhdl_names_operators.proofs.Relating.{behind_truth}
use Rattle.vhdl_names_operators.proofs.equality.truth_equals.Goals as goal

pub returns-in-Wide-clause-given : goal.returns-in-Wide-clause-given
returns-in-Wide-clause-given c =
    let s = truth (test_view c.args.left) in
    gives_along typed_view _ _ _
    (ap (λ y. equality c.args.language c.args.at c.args.comparison s (typed_view y)) c.in-Truth.is
    ∙ ap (λ l. equality l c.args.at c.args.comparison s (truth (test_view c.in-Truth.right))) c.in-Wide.is)
    c.truths_equal.ensures.given

pub returns-in_default : goal.returns-in_default
returns-in_default c =
    record {
      given = λ n. behind_truth c.args.language c.args.at c.args.comparison (test_view c.args.left) c.args.right c.in_default.not-Truth;
      told = mismatch_told c.args.at _ (c.without-in_default.ensures ∙ c.at-in_default.ensures);
    }

use Rattle.std.proofs.Common.{arith, length, ◌<◌, refl, ap, sym, ◌∙◌}
use Rattle.vhdl_tree.specs.View as view
use Rattle.vhdl_names_rules.specs.problems.Files as broken
use Rattle.vhdl_names.specs.Views.{one_is_hidden}
use Rattle.vhdl_names.proofs.Mentioning.{named_in, passed_by, stopped_at, none_past, in_generate}
use Rattle.vhdl_names.proofs.mentions.+instances.Goals as goal

pub is_within-returns-in-Generate : goal.is_within-returns-in-Generate
is_within-returns-in-Generate t c =
    c.is_generated.ensures ∙ sym (ap (λ x. one_is_hidden c.args.given.now c.args.at (broken.of_concurrent (view.concurrent_view x))) c.in-Generate.is ∙ in_generate c.args.given.now c.args.at c.in-Generate.generate)

pub is_among-loop-statement-preserved : goal.is_among-loop-statement-preserved
is_among-loop-statement-preserved t c =
    let lt : c.loop-statement.statement-index < length c.args.statements.now = omega arith in
    c.loop-statement.invariant
    ∙ passed_by c.args.given.now c.args.at (λ s. broken.of_concurrent (view.concurrent_view s)) named_in (λ s ss. refl) c.args.statements.now c.loop-statement.statement-index c.statement-item.result lt c.statement-item.is (sym c.is_within.ensures ∙ c.if-is_within.false)

pub is_among-returns-then-is_within : goal.is_among-returns-then-is_within
is_among-returns-then-is_within t c =
    let lt : c.loop-statement.statement-index < length c.args.statements.now = omega arith in
    sym (c.loop-statement.invariant
    ∙ stopped_at c.args.given.now c.args.at (λ s. broken.of_concurrent (view.concurrent_view s)) named_in (λ s ss. refl) c.args.statements.now c.loop-statement.statement-index c.statement-item.result lt c.statement-item.is (sym c.is_within.ensures ∙ c.if-is_within.true))

pub is_among-returns : goal.is_among-returns
is_among-returns t c = sym (c.loop-statement.invariant
    ∙ none_past c.args.given.now c.args.at (λ s. broken.of_concurrent (view.concurrent_view s)) named_in (λ s ss. refl) refl c.args.statements.now c.loop-statement.statement-index (omega arith))

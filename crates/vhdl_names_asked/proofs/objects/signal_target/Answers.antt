use Rattle.std.proofs.Common.{sym, ◌∙◌}
use Rattle.vhdl_names_trees.specs.views.Expressions.{typed_suffix_view}
use Rattle.vhdl_names_rules.proofs.Passing.{passed_on, told_by}
use Rattle.vhdl_names_sight.specs.Views.{entry_of}
use Rattle.vhdl_names_units.specs.views.Targets.{target_view}
use Rattle.vhdl_names_asked.proofs.Asking.{no_target, input_target, output_target}
use Rattle.vhdl_names_asked.proofs.ObjectNames.{target_refused, input_refused}
use Rattle.vhdl_names_asked.proofs.objects.signal_target.Goals as goal

pub returns-in_err-target-clause-given : goal.returns-in_err-target-clause-given
returns-in_err-target-clause-given c =
    λ n. passed_on target_view _ c.in_err-target.field-0.0 _ c.from_residual.result c.from_residual.ensures.1 (λ e p. p)
    (λ w. no_target c.args.at (entry_of n c.args.entry.now) (typed_suffix_view c.args.suffix) (c.in_err-target.ensures.given n w))

pub returns-in_err-target-clause-told : goal.returns-in_err-target-clause-told
returns-in_err-target-clause-told c =
    λ n. told_by _ c.in_err-target.field-0.0 _ c.from_residual.result c.from_residual.ensures.1 (λ e p. p)
    (target_refused c.args.at (entry_of n c.args.entry.now) (typed_suffix_view c.args.suffix) c.in_err-target.field-0.0 (c.in_err-target.ensures.given n) c.in_err-target.ensures.told)

pub returns-then-is_in_port-clause-given : goal.returns-then-is_in_port-clause-given
returns-then-is_in_port-clause-given c =
    λ n w. input_target c.args.at (entry_of n c.args.entry.now) (typed_suffix_view c.args.suffix) (sym c.is_in_port.ensures ∙ c.if-is_in_port.true)

pub returns-then-is_in_port-clause-told : goal.returns-then-is_in_port-clause-told
returns-then-is_in_port-clause-told c =
    λ n. input_refused c.args.at (entry_of n c.args.entry.now) (typed_suffix_view c.args.suffix) _ c.without.result (c.in_ok-target.ensures.given n)
    (sym c.is_in_port.ensures ∙ c.if-is_in_port.true) (c.without.ensures ∙ c.at.ensures)

pub returns-clause-given : goal.returns-clause-given
returns-clause-given c =
    λ n. output_target c.args.at (entry_of n c.args.entry.now) (typed_suffix_view c.args.suffix) _ (sym c.is_in_port.ensures ∙ c.if-is_in_port.false) (c.in_ok-target.ensures.given n)

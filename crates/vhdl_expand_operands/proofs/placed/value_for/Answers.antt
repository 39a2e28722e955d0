use Rattle.std.proofs.Common.{sym, ap, ◌∙◌}
use Rattle.vhdl_expand_rules.specs.declared.fault.ElabProblem.TheVariants.{Index}
use Rattle.vhdl_expand_rules.specs.Elab.{◌>>=◌, item_or}
use Rattle.vhdl_expand_rules.specs.Aggregates.{repeated}
use Rattle.vhdl_expand_rules.proofs.Steps.{given}
use Rattle.vhdl_expand_operands.proofs.placed.value_for.Goals as goal

pub returns : goal.returns
returns c =
    ap (λ o. item_or Index c.args.at o >>= λ e. given (repeated c.args.run.count e)) (sym c.in-Some.ensures) ∙ ap given (sym c.in_ok-repeated.ensures)

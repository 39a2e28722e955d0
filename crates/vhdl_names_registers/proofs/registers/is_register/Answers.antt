use Rattle.std.proofs.Common.{sym, ap, ◌∙◌}
use Rattle.vhdl_names_units.specs.views.Sequential.{statement_view}
use Rattle.vhdl_names_registers.specs.Tied.{is_register}
use Rattle.vhdl_names_registers.proofs.Branches.{if_is, no_register}
use Rattle.vhdl_names_registers.proofs.registers.is_register.Goals as goal

pub returns-in-If : goal.returns-in-If
returns-in-If c =
    let i = c.in-If in
    c.ends_in_edge.ensures ∙ sym (ap (λ y. is_register (statement_view y)) i.is ∙ ap is_register (if_is i.x))

pub returns-in_default : goal.returns-in_default
returns-in_default c = sym (no_register c.args.statement.now c.in_default.not-If)

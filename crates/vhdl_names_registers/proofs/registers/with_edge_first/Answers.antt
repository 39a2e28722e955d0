use Rattle.std.proofs.Common.{sym, ap, ◌∙◌}
use Rattle.vhdl_names_rules.specs.units.Statements as s
use Rattle.vhdl_names_rules.specs.Registers.{last_edge_first}
use Rattle.vhdl_names_units.specs.views.Sequential.{statement_view}
use Rattle.vhdl_names_registers.specs.Branching.{start_in, branches_in}
use Rattle.vhdl_names_registers.specs.Tied.{with_edge_first}
use Rattle.vhdl_names_registers.proofs.Branches.{if_is, other_stays}
use Rattle.vhdl_names_registers.proofs.registers.with_edge_first.Goals as goal

pub returns-in_ok-last_edge_first-in-Ok : goal.returns-in_ok-last_edge_first-in-Ok
returns-in_ok-last_edge_first-in-Ok c =
    let x = c.in-Ok.x in
    let y = c.in_ok-last_edge_first-in-Ok.field-0 in
    if_is y
    ∙ (ap (λ bs. s.if_of (start_in y) bs) c.in_ok-last_edge_first-in-Ok.ensures.branches
    ∙ (ap (λ at. s.if_of at (last_edge_first (start_in x) (branches_in x))) c.in_ok-last_edge_first-in-Ok.ensures.at
    ∙ sym (ap (λ z. with_edge_first (statement_view z)) c.in-Ok.ensures.conditional ∙ ap with_edge_first (if_is x))))

pub returns-in-Err : goal.returns-in-Err
returns-in-Err c = ap statement_view c.in-Err.ensures.same ∙ sym (other_stays c.args.x c.in-Err.ensures.other)

use Rattle.std.proofs.Common.{sym, ap, ◌∙◌}
use Rattle.vhdl_names_units.specs.views.Sequential.{statement_view}
use Rattle.vhdl_names_registers.specs.Tied.{with_behind}
use Rattle.vhdl_names_registers.specs.Branching.{branches_in}
use Rattle.vhdl_names_registers.proofs.Branches.{if_merged, no_merge_first, no_merge_second}
use Rattle.vhdl_names_registers.proofs.registers.merged.Goals as goal

pub returns-in_ok-add_behind-in-Ok-into_if : goal.returns-in_ok-add_behind-in-Ok-into_if
returns-in_ok-add_behind-in-Ok-into_if c =
    let x = c.in-Ok-into_if.x in
    let add = c.in_ok-add_behind-in-Ok-into_if.ensures in
    if_merged x c.in-Ok.next c.add_behind.new.x c.args.x c.args.next c.in-Ok-into_if.ensures.conditional c.in-Ok.ensures.conditional add.at
    (add.branches ∙ ap (with_behind (branches_in x)) c.last_body.ensures)

pub returns-in_default : goal.returns-in_default
returns-in_default c = sym (no_merge_second (statement_view c.args.x) c.args.next c.in_default.ensures.other)

pub returns-in-Err : goal.returns-in-Err
returns-in-Err c = ap statement_view c.in-Err.ensures.same ∙ sym (no_merge_first c.args.x (statement_view c.args.next) c.in-Err.ensures.other)

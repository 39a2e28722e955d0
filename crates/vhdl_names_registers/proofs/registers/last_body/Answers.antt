use Rattle.std.proofs.Common.{List, map, sym, ap, ◌∙◌}
use Rattle.vhdl_names_units.specs.declared.sequential.Branch.{Branch}
use Rattle.vhdl_names_units.specs.declared.sequential.If.{out-If}
use Rattle.vhdl_names_units.specs.views.Sequential.{body_view, branch_view, branches_of, last_of, option_statements_view}
use Rattle.vhdl_names_registers.specs.Tied.{last_body}
use Rattle.vhdl_names_registers.proofs.Branches.{last_body_is}
use Rattle.vhdl_names_registers.proofs.registers.last_body.Goals as goal

pub returns-in-Some : goal.returns-in-Some
returns-in-Some c =
    let o = option_statements_view (out-If c.args.x).otherwise in
    ap body_view c.into_parts-statements.ensures.statements
    ∙ sym (ap (λ (bs : List Branch). last_body (branches_of (map branch_view bs) (last_of o))) c.in-Some.ensures.items ∙ last_body_is c.pop.new.self.items c.in-Some.branch o)

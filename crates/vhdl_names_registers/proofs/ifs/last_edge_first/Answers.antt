use Rattle.std.proofs.Common.{sym, ◌∙◌}
use Rattle.vhdl_names_units.specs.declared.sequential.If.{out-If}
use Rattle.vhdl_names_units.specs.views.Sequential.{branches_view, option_statements_view}
use Rattle.vhdl_names_registers.proofs.Branches.{none_left}
use Rattle.vhdl_names_registers.proofs.Parting.{mapped_is_some, vec_len_is}
use Rattle.vhdl_names_registers.proofs.Firsts.{first_with_else, first_in_none, first_in_last}
use Rattle.vhdl_names_registers.proofs.ifs.last_edge_first.Goals as goal

pub returns-then-is_some-clause-branches : goal.returns-then-is_some-clause-branches
returns-then-is_some-clause-branches c =
    let x = out-If c.args.x in
    sym (first_with_else x.at (branches_view x.branches) (option_statements_view x.otherwise) (mapped_is_some _ x.otherwise ∙ (sym c.is_some.ensures ∙ c.if-is_some.true)))

pub returns-in_default-clause-branches : goal.returns-in_default-clause-branches
returns-in_default-clause-branches c =
    let x = out-If c.args.x in
    let left = c.pop.new.self in
    let cases = c.in_default.ensures.cases in
    first_in_none c.args.x left (sym c.is_some.ensures ∙ c.if-is_some.false)
    (none_left x.branches.items (sym (vec_len_is x.branches) ∙ cases.0)) (none_left left.items (sym (vec_len_is left) ∙ cases.1))

pub returns-clause-branches : goal.returns-clause-branches
returns-clause-branches c =
    first_in_last c.args.x c.pop.new.self c.push.new.self c.in-Some.last c.in_ok-edge_first.field-0 (sym c.is_some.ensures ∙ c.if-is_some.false)
    c.in-Some.ensures.items c.in_ok-push.ensures.items c.in_ok-edge_first.ensures

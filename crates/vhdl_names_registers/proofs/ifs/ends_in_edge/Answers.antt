use Rattle.std.proofs.Common.{length, ◌-◌, map, sym, ap, ◌∙◌, arith}
use Rattle.vhdl_names_trees.specs.views.Tests.{test_view}
use Rattle.vhdl_names_rules.specs.Edges.{conditions, gated}
use Rattle.vhdl_names_rules.specs.Registers.{ends_in_edge}
use Rattle.vhdl_names_registers.specs.Looking.{gate_view, gate_among}
use Rattle.std.specs.Prelude.{is_some}
use Rattle.vhdl_names_units.specs.views.Sequential.{branches_view, branch_view, branches_of, last_of, option_statements_view}
use Rattle.vhdl_names_units.specs.declared.sequential.If.{out-If}
use Rattle.vhdl_names_registers.proofs.Parting.{no_edge_with_else, edge_of_last, mapped_is_some}
use Rattle.vhdl_names_registers.proofs.ifs.ends_in_edge.Goals as goal

pub returns-then-is_some : goal.returns-then-is_some
returns-then-is_some c =
    let x = out-If c.args.x.now in
    sym (no_edge_with_else (branches_view x.branches) (option_statements_view x.otherwise) (mapped_is_some _ x.otherwise ∙ (sym c.is_some.ensures ∙ c.if-is_some.true)))

pub returns-in-Some : goal.returns-in-Some
returns-in-Some c =
    let x = out-If c.args.x.now in
    let b = c.in-Some.branch.now in
    let items = c.deref.result.now in
    c.is_some-in-Some.ensures
    ∙ (sym (mapped_is_some gate_view c.gate_of.result) ∙ (ap is_some c.gate_of.ensures ∙ mapped_is_some gate_among (gated (conditions (test_view b.condition))))
    ∙ (sym (edge_of_last items b (option_statements_view x.otherwise) (length items - 1) (mapped_is_some _ x.otherwise ∙ (sym c.is_some.ensures ∙ c.if-is_some.false))
    (omega (arith, c.in-Some.ensures.item.3.0)) c.in-Some.ensures.value)
    ∙ ap (λ bs. ends_in_edge (branches_of (map branch_view bs) (last_of (option_statements_view x.otherwise)))) c.deref.ensures.value))

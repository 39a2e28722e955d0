use Rattle.std.proofs.Common.{sym, ap, ◌∙◌}
use Rattle.vhdl_names_units.specs.views.Sequential.{statement_view}
use Rattle.vhdl_names_units.specs.declared.sequential.Statement.TheVariants as t
use Rattle.vhdl_names_units.specs.declared.sequential.If.{out-If}
use Rattle.vhdl_names_rules.specs.units.Statements as s
use Rattle.vhdl_names_registers.specs.Branching.{branches_in}
use Rattle.vhdl_names_registers.specs.Tied.{are_tied}
use Rattle.vhdl_names_registers.proofs.Branches.{if_is, no_if_first, no_if_second}
use Rattle.vhdl_names_registers.proofs.registers.are_tied.Goals as goal

pub returns-in-If-If : goal.returns-in-If-If
returns-in-If-If c =
    let i = c.in-If-If in
    let first = c.args.first.now in
    let next = c.args.next.now in
    c.are_one.ensures
    ∙ sym (ap (λ x. are_tied (statement_view x) (statement_view next)) i.is-0
    ∙ (ap (λ y. are_tied (statement_view (t.If i.x)) (statement_view y)) i.is-1
    ∙ (ap (λ a. are_tied a (statement_view (t.If i.y))) (if_is i.x) ∙ ap (are_tied (s.if_of (out-If i.x).at (branches_in i.x))) (if_is i.y))))

pub returns-in_default : goal.returns-in_default
returns-in_default c = sym (no_if_second (statement_view c.args.first.now) c.args.next.now c.in_default.not-If-1)

pub returns-in_default-2 : goal.returns-in_default-2
returns-in_default-2 c = sym (no_if_first c.args.first.now (statement_view c.args.next.now) c.in_default.not-If-0)

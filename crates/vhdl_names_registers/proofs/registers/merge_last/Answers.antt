use Rattle.std.proofs.Common.{List, map, sym, ap, ◌∙◌}
use Rattle.vhdl_names_units.specs.declared.sequential.Statement.{Statement}
use Rattle.vhdl_names_units.specs.views.Sequential.{statement_view, statements_of}
use Rattle.vhdl_names_registers.specs.Tied.{with_last}
use Rattle.vhdl_names_registers.proofs.Branches.{last_merged, none_left}
use Rattle.vhdl_names_registers.proofs.registers.merge_last.Goals as goal

pub returns-in_ok-push : goal.returns-in_ok-push
returns-in_ok-push c =
    let next = statement_view c.args.next in
    ap (λ (ys : List Statement). statements_of (map statement_view ys)) c.in_ok-push.ensures.items
    ∙ (last_merged c.pop.new.self.items c.in-Some.last c.in_ok-merged.field-0 next c.in_ok-merged.ensures
    ∙ sym (ap (λ (ys : List Statement). with_last (statements_of (map statement_view ys)) next) c.in-Some.ensures.items))

pub returns-in_default : goal.returns-in_default
returns-in_default c =
    let all = c.args.all.now in
    let left = c.pop.new.self in
    ap (λ (ys : List Statement). statements_of (map statement_view ys)) (none_left left.items (sym left.ok.0 ∙ c.in_default.ensures.cases.1))
    ∙ sym (ap (λ (ys : List Statement). with_last (statements_of (map statement_view ys)) (statement_view c.args.next)) (none_left all.items (sym all.ok.0 ∙ c.in_default.ensures.cases.0)))

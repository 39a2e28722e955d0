use Rattle.std.proofs.Common.{List, map, sym, ap, ◌∙◌}
use Rattle.vhdl_names_rules.specs.Registers.{behind}
use Rattle.vhdl_names_units.specs.declared.sequential.Statement.{Statement}
use Rattle.vhdl_names_units.specs.views.Sequential.{body_view, statement_view, statements_of}
use Rattle.vhdl_names_registers.proofs.Tying.{behind_done}
use Rattle.vhdl_names_registers.proofs.Branches.{one_behind, none_left}
use Rattle.vhdl_names_registers.proofs.registers.add_all.Goals as goal

pub loop-statement-preserved : goal.loop-statement-preserved
loop-statement-preserved c =
    let l = c.loop-statement in
    let rest = statements_of (map statement_view c.next.new.self.rest.items) in
    l.invariant
    ∙ (ap (λ (xs : List Statement). behind (body_view l.all) (statements_of (map statement_view xs))) c.in-Some.ensures.steps.0
    ∙ (one_behind l.all.items c.in-Some.statement rest
    ∙ sym (ap (λ (xs : List Statement). behind (statements_of (map statement_view xs)) rest) c.in_ok-push.ensures.items)))

pub returns : goal.returns
returns c =
    let l = c.loop-statement in
    let left = l.statement-iterator.rest in
    sym (l.invariant
    ∙ (ap (λ (xs : List Statement). behind (body_view l.all) (statements_of (map statement_view xs))) (none_left left.items (sym left.ok.0 ∙ c.in-None.ensures.steps.0))
    ∙ behind_done (body_view l.all)))

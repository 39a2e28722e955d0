use Rattle.std.proofs.Common.{List, map, sym, ap, ◌∙◌}
use Rattle.vhdl_names_rules.specs.units.Statements as s
use Rattle.vhdl_names_rules.specs.Registers.{behind}
use Rattle.vhdl_names_units.specs.declared.sequential.Statement.{Statement}
use Rattle.vhdl_names_units.specs.views.Sequential.{body_view, statement_view, statements_of}
use Rattle.vhdl_names_registers.specs.Tied.{edges_first}
use Rattle.vhdl_names_registers.proofs.Tying.{behind_done}
use Rattle.vhdl_names_registers.proofs.Branches.{one_behind, none_left, null_dropped, statement_kept}
use Rattle.vhdl_names_registers.proofs.registers.edges_first.Goals as goal

pub loop-statement-preserved : goal.loop-statement-preserved
loop-statement-preserved c =
    let l = c.loop-statement in
    let x = c.in-Some.statement in
    let rest = edges_first (statements_of (map statement_view c.next.new.self.rest.items)) in
    l.invariant
    ∙ (ap (λ (xs : List Statement). behind (body_view l.all) (edges_first (statements_of (map statement_view xs)))) c.in-Some.ensures.steps.0
    ∙ (ap (behind (body_view l.all)) (statement_kept (statement_view x) (statements_of (map statement_view c.next.new.self.rest.items)) (sym c.is_null.ensures ∙ c.if-is_null.false)
    ∙ ap (λ y. s.step y rest) (sym c.in_ok-with_edge_first.ensures))
    ∙ (one_behind l.all.items c.in_ok-with_edge_first.field-0 rest
    ∙ sym (ap (λ (xs : List Statement). behind (statements_of (map statement_view xs)) rest) c.in_ok-push.ensures.items))))

pub loop-statement-preserved-then-is_null : goal.loop-statement-preserved-then-is_null
loop-statement-preserved-then-is_null c =
    let l = c.loop-statement in
    l.invariant
    ∙ (ap (λ (xs : List Statement). behind (body_view l.all) (edges_first (statements_of (map statement_view xs)))) c.in-Some.ensures.steps.0
    ∙ ap (behind (body_view l.all)) (null_dropped (statement_view c.in-Some.statement) (statements_of (map statement_view c.next.new.self.rest.items)) (sym c.is_null.ensures ∙ c.if-is_null.true)))

pub returns : goal.returns
returns c =
    let l = c.loop-statement in
    let left = l.statement-iterator.rest in
    sym (l.invariant
    ∙ (ap (λ (xs : List Statement). behind (body_view l.all) (edges_first (statements_of (map statement_view xs)))) (none_left left.items (sym left.ok.0 ∙ c.in-None.ensures.steps.0))
    ∙ behind_done (body_view l.all)))

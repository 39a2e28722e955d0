use Rattle.std.proofs.Common.{List, map, sym, ap, ◌∙◌}
use Rattle.std.proofs.lemmas.Result.{on_ok_weaker}
use Rattle.vhdl_names_units.specs.declared.sequential.Statement.{Statement}
use Rattle.vhdl_names_units.specs.views.Sequential.{body_view, statement_view, statements_of}
use Rattle.vhdl_names_registers.specs.Tied.{taken}
use Rattle.vhdl_names_registers.proofs.Branches.{pushed}
use Rattle.vhdl_names_registers.proofs.registers.take.Goals as goal

pub returns-then-is_open : goal.returns-then-is_open
returns-then-is_open c =
    on_ok_weaker c.merge_last.result (λ e. e ∙ sym (ap (λ b. taken b (body_view c.args.all.now) (statement_view c.args.next)) c.if-is_open.true)) c.merge_last.ensures

pub returns : goal.returns
returns c =
    let xs = c.args.all.now.items in
    ap (λ (ys : List Statement). statements_of (map statement_view ys)) c.in_ok-push.ensures.items
    ∙ (pushed xs c.args.next ∙ sym (ap (λ b. taken b (body_view c.args.all.now) (statement_view c.args.next)) c.if-is_open.false))

use Rattle.vhdl_names_rules.proofs.Memory.{memory_gives}
use Rattle.vhdl_names_interfaces.specs.Views.{named_view}
use Rattle.vhdl_names.specs.steps.Tables.{table_view}
use Rattle.vhdl_names.proofs.Finding.{some_none}
use Rattle.vhdl_names_rules.proofs.Passing.{passed_on}
use Rattle.vhdl_names.proofs.Tabling.{no_name}
use Rattle.vhdl_names.proofs.tables.add_seen.Goals as goal

pub returns-in_err-add_name : goal.returns-in_err-add_name
returns-in_err-add_name c =
    passed_on _ _ c.in_err-add_name.field-0.0 _ c.from_residual.result c.from_residual.ensures.1 (λ e p. p)
    (λ n. no_name (table_view c.args.table.now) (named_view c.args.name.now c.args.entity.now) (c.in_err-add_name.ensures.given n))

pub returns-in_err-formals : goal.returns-in_err-formals
returns-in_err-formals c =
    passed_on _ _ c.in_err-formals.field-0.0 _ c.from_residual-in_err-formals.result c.from_residual-in_err-formals.ensures.1 (λ e p. p)
    (λ n. absurd (some_none _ (c.in_err-formals.ensures n)))

pub returns-in_err-push : goal.returns-in_err-push
returns-in_err-push c = memory_gives _ _ _ c.from_residual-in_err-push.result c.from_residual-in_err-push.ensures.1 (λ e p. p)

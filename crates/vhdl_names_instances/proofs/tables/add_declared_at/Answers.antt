use Rattle.std.proofs.Common.{Some, ap, sym, ◌∙◌}
use Rattle.vhdl_names_sight.specs.Views.{entry_of}
use Rattle.vhdl_names_rules.proofs.Along.{gives_along}
use Rattle.vhdl_names_instances.specs.Table.{seen_view}
use Rattle.vhdl_names_instances.specs.steps.Tables.{with_entry, with_declared}
use Rattle.vhdl_names_instances.proofs.Tabling.{entry_at}
use Rattle.vhdl_names_instances.proofs.tables.add_declared_at.Goals as goal

pub returns-in-Some : goal.returns-in-Some
returns-in-Some c =
    let f = seen_view c.args.formals.now in
    gives_along _ _ _ _
    (ap (with_entry f) (entry_at c.args.region.now.entries c.args.place (Some _) c.in-Some.ensures.entry)
    ∙ ap (λ n. with_declared f (entry_of n c.in-Some.entry.now)) (sym c.deref.ensures.value))
    c.add_declared.ensures

use Rattle.std.proofs.Common.{arith, ◌≡◌, ◌≢◌, Some, None, sym, ap, ◌∙◌}
use Rattle.std.specs.Prelude.{option_map}
use Rattle.std.specs.Map.Iter.{deref_pair}
use Rattle.vhdl_names_rules.specs.declared.fault.NameFault.TheVariants.{NoMemory}
use Rattle.vhdl_names_interfaces.specs.Views.{entities_view, named_view}
use Rattle.vhdl_names_rules.proofs.Passing.{passed_on}
use Rattle.vhdl_names.specs.steps.Tables.{table_view, table_of, with_seen}
use Rattle.vhdl_names.proofs.Tabling.{all_tabled, entries_apart, entry_view}
use Rattle.vhdl_names.proofs.Walking.{fails, goes, ends}
use Rattle.vhdl_names.proofs.tables.table.Goals as goal

pub returns-in_err-add_seen : goal.returns-in_err-add_seen
returns-in_err-add_seen c =
    let es = c.args.entities.now.entries in
    let i = c.loop-place.place in
    let t = table_view c.loop-place.table in
    let at = sym c.get_index.ensures.entry ∙ ap (option_map deref_pair) c.unwrap.ensures in
    let f : c.in_err-add_seen.field-0.0 ≢ NoMemory → Some (table_of (entities_view c.args.entities.now)) ≡ None =
    λ n. sym (all_tabled (entities_view c.args.entities.now) (entries_apart es c.names_are_apart.ensures)) ∙ c.loop-place.invariant
    ∙ fails with_seen entry_view t es i (c.unwrap.result.0.now, c.unwrap.result.1.now) at
    (ap (λ x. with_seen t (named_view x c.unwrap.result.1.now)) (sym c.as_slice.ensures.value) ∙ c.in_err-add_seen.ensures n) in
    passed_on table_view _ c.in_err-add_seen.field-0.0 _ c.from_residual.result c.from_residual.ensures.1 (λ e p. p) f

pub loop-place-preserved : goal.loop-place-preserved
loop-place-preserved c =
    let es = c.args.entities.now.entries in
    let t = table_view c.loop-place.table in
    let at = sym c.get_index.ensures.entry ∙ ap (option_map deref_pair) c.unwrap.ensures in
    c.loop-place.invariant
    ∙ goes with_seen entry_view t _ es c.loop-place.place (c.unwrap.result.0.now, c.unwrap.result.1.now) at
    (ap (λ x. with_seen t (named_view x c.unwrap.result.1.now)) (sym c.as_slice.ensures.value) ∙ c.in_ok-add_seen.ensures)

pub returns : goal.returns
returns c =
    let es = c.args.entities.now.entries in
    sym (all_tabled (entities_view c.args.entities.now) (entries_apart es c.names_are_apart.ensures)) ∙ c.loop-place.invariant
    ∙ ends with_seen entry_view (table_view c.loop-place.table) es c.loop-place.place (omega arith)

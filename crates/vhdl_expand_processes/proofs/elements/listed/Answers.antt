use Rattle.std.proofs.Common.{◌≡◌, Err, ◌<◌, length, map, arith, rules}
use Rattle.std.specs.Prelude.{◌≢◌}
use Rattle.vhdl_names_trees.specs.views.Vectors.{place_view}
use Rattle.vhdl_expand_rules.specs.declared.fault.ElabFault.TheVariants.{NoMemory}
use Rattle.vhdl_expand_rules.specs.Prefixes.{names_elements}
use Rattle.vhdl_expand_bodies.specs.Sites.{site_view}
use Rattle.vhdl_expand_operands.proofs.Passing.{passed_on}
use Rattle.vhdl_expand_processes.proofs.Prefixed.{names_go, names_stop, names_end}
use Rattle.vhdl_expand_rules.specs.Elab.{fault_told}
use Rattle.vhdl_expand_processes.proofs.elements.listed.Goals as goal

pub loop-item-preserved : goal.loop-item-preserved
loop-item-preserved c =
    let below : c.loop-item.item-index < length c.args.names.now = first_of (search rules, omega arith) in
    names_go (site_view c.args.site.now) place_view _ c.loop-item.found.items _ _ c.args.names.now c.loop-item.item-index c.item-item.result below c.item-item.is c.loop-item.invariant c.in_ok-run.ensures.given c.in_ok-add_run.ensures

pub returns : goal.returns
returns c = names_end (site_view c.args.site.now) place_view _ c.loop-item.found.items c.args.names.now c.loop-item.item-index (omega arith) c.loop-item.invariant

pub returns-in_err-run : goal.returns-in_err-run
returns-in_err-run c =
    let below : c.loop-item.item-index < length c.args.names.now = first_of (search rules, omega arith) in
    let stopped : c.in_err-run.field-0.0 ≢ NoMemory → (names_elements (site_view c.args.site.now) (map place_view c.args.names.now)) ≡ Err (fault_told c.in_err-run.field-0.0) =
    λ n. names_stop (site_view c.args.site.now) place_view _ c.loop-item.found.items c.args.names.now c.loop-item.item-index c.item-item.result below c.item-item.is c.loop-item.invariant (c.in_err-run.ensures.given n) in
    passed_on _ _ c.in_err-run.field-0.0 _ c.from_residual.result c.from_residual.ensures.1 (λ e p. p) stopped

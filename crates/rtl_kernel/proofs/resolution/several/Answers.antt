use Rattle.std.proofs.Common.{ap, sym, ◌∙◌, map, take}
use Rattle.std.proofs.lemmas.List.{length-map}
use Rattle.std.specs.Prelude.{fold}
use Rattle.std.proofs.lemmas.List.Sums.{fold_more}
use Rattle.vhdl_values.specs.Scalar.{value_of_code}
use Rattle.vhdl_values.specs.Resolution.{resolution_table}
use Rattle.vhdl_values.specs.declared.scalar.Nine.TheVariants.{Z}
use Rattle.rtl_model.proofs.basics.Lists.{get_or-map_within}
use Rattle.rtl_model.specs.simulation.Cycle.{source_value}
use Rattle.rtl_net.specs.declared.net.Source.{Source}
use Rattle.rtl_net.specs.Nets.{source_view}
use Rattle.rtl_kernel.specs.drivers.Rows.{rows}
use Rattle.rtl_kernel.proofs.Resolving.{stays_with_z}
use Rattle.rtl_kernel.proofs.resolution.several.Goals as goal

pub loop-source-preserved : goal.loop-source-preserved
loop-source-preserved c =
    let drivers = rows c.args.drivers.now in
    let codes = map (λ (s : Source). source_value drivers (source_view s)) c.args.sources.now in
    let values = map value_of_code codes in
    let i = c.loop-source.source-index in
    let I = c.loop-source.invariant in
    let is = c.resolve-value.ensures ∙ ap (λ v. resolution_table v c.nine.result) I.clean in
    let at = c.nine.ensures ∙ ap value_of_code (c.source_value.ensures ∙ sym (get_or-map_within (λ (s : Source). source_value drivers (source_view s)) c.args.sources.now i _ 0 c.loop-source-test.true))
    ∙ sym (get_or-map_within value_of_code codes i 0 Z (rw (length-map c.args.sources.now (λ (s : Source). source_value drivers (source_view s))) c.loop-source-test.true)) in
    record {
      folded = is ∙ ap (λ v. resolution_table v c.nine.result) I.folded ∙ ap (resolution_table (fold resolution_table Z (take i values))) at
          ∙ sym (fold_more resolution_table Z values i Z (rw (length-map codes value_of_code, length-map c.args.sources.now (λ (s : Source). source_value drivers (source_view s))) c.loop-source-test.true));
      clean = rw is (stays_with_z c.loop-source.value c.nine.result);
    }

use Rattle.std.proofs.Common.{◌≡◌, map, take}
use Rattle.std.specs.Prelude.{fold}
use Rattle.vhdl_values.specs.Scalar.{value_of_code}
use Rattle.vhdl_values.specs.Resolution.{resolution_table}
use Rattle.vhdl_values.specs.declared.scalar.Nine.TheVariants.{Z}
use Rattle.rtl_model.specs.simulation.Cycle.{source_value}
use Rattle.rtl_net.specs.Nets.{source_view}
use Rattle.rtl_kernel.specs.drivers.Rows.{rows}
use Rattle.rtl_kernel.proofs.resolution.several.Given as goal

abbrev pub invariant-loop-source : goal.invariant-loop-source
invariant-loop-source l = record {
  folded : l.value ≡ fold resolution_table Z (take l.source-index (map value_of_code (map (λ source. source_value (rows l.drivers) (source_view source)) l.sources)));
  clean : resolution_table Z l.value ≡ l.value;
}
